use Rattle.std.proofs.Common.{◌≡◌, take, flat_map}
use Rattle.volume_maker.specs.Items.{inline_bytes}
use Rattle.volume_maker.proofs.item_bytes.inline_references.Given as goal

abbrev pub invariant-loop-ino : goal.invariant-loop-ino
invariant-loop-ino l = l.fields ≡ flat_map inline_bytes (take l.ino-index l.inline)

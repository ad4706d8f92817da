use Rattle.std.proofs.Common.{◌≡◌, ◌++◌, ◌≤◌, ◌<◌, ◌^◌, drop}
use Rattle.image_maker.specs.Leaf.{space_of}
use Rattle.image_maker.specs.Blocks.{heads_bytes}
use Rattle.image_maker.proofs.leaf.put_heads.Given as goal

-- what stands and the heads of what is left make the whole
abbrev pub invariant-loop-item : goal.invariant-loop-item
invariant-loop-item l =
    (space_of (drop l.item-index l.items) ≤ l.start) × (l.start < 2 ^ 32)
    × (l.fields ++ heads_bytes l.start (drop l.item-index l.items) ≡ l.fn.fields ++ heads_bytes l.end l.items)

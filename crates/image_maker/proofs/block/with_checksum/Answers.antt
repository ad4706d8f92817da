-- The slice up to the end of the block is all that lies behind its start.
use Rattle.std.proofs.Common.{length, ◌-◌, ◌≤◌, drop, ap, ◌∙◌, arith, length-drop}
use Rattle.std.proofs.lemmas.List.{take_all}
use Rattle.recon_bytes.specs.Field.{with_field}
use Rattle.recon_crc.specs.Checksum.{crc32c_of}
use Rattle.image_maker.proofs.block.with_checksum.Goals as goal

pub returns : goal.returns
returns c =
    let b = c.args.block.now in
    let whole : length (drop 32 b) ≤ length b - 32 = omega (arith, length-drop 32 b) in
    c.put_u32.ensures ∙ ap (with_field 4 b 0) (c.crc32c-sum.ensures ∙ ap crc32c_of (take_all (length b - 32) (drop 32 b) whole))

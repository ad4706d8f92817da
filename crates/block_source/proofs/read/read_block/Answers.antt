use Rattle.std.proofs.Common.{◌-◌, length, drop, ap, ◌∙◌, length-drop, arith}
use Rattle.std.proofs.lemmas.List.{take_all}
use Rattle.recon_crc.specs.Checksum.{crc32c_of}
use Rattle.block_source.proofs.read.read_block.Goals as goal

pub read_block_summed-requires-clause-sum : goal.read_block_summed-requires-clause-sum
read_block_summed-requires-clause-sum g c =
    let bytes = c.in_ok-bytes.bytes.now in
    c.folded_sum-sum.ensures ∙ ap crc32c_of (take_all (length bytes - 32) (drop 32 bytes) (omega (arith, length-drop 32 bytes)))

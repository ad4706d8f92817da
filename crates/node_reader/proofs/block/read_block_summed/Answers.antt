use Rattle.std.proofs.Common.{rules, arith, sym, ◌∙◌, length, ◌≤◌}
use Rattle.std.proofs.lemmas.Grind.{common_steps}
use Rattle.node_reader.proofs.Sound.{sound}
use Rattle.node_reader.proofs.block.read_block_summed.Goals as goal

pub invariant_of-result : goal.invariant_of-result
invariant_of-result c =
    let size : 101 ≤ length c.args.bytes.now = grind (arith, common_steps, c.requires.size) in
    (sound c.args.bytes.now c.args.fsid.now c.args.expect.now size (sym c.fault_of.ensures ∙ c.in-None.is), search rules)

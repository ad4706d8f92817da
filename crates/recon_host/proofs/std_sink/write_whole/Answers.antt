use Rattle.std.proofs.Common.{rules}
use Rattle.std.proofs.lemmas.List.{take_rest}
use Rattle.recon_host.proofs.Appended.{appended_more}
use Rattle.recon_host.proofs.std_sink.write_whole.Goals as goal

pub loop-done-preserved : goal.loop-done-preserved
loop-done-preserved g c = (
  search rules,
  appended_more _ _ _ c.loop-done.done c.in-Ok.n c.args.from.now _ c.loop-done.invariant.1 c.in-Ok.ensures.bytes (take_rest c.args.from.now c.loop-done.done),
)

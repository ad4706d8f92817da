use Rattle.std.proofs.Common.{length, ◌-◌, ◌≡◌, ◌≤◌, None, IfSome, take}
use Rattle.trace_reader.specs.Trace.{IsBytes}
use Rattle.trace_reader.specs.Pieces.{Takes}
use Rattle.trace_reader.proofs.pieces.fill.Given as goal

abbrev pub invariant-loop-done : goal.invariant-loop-done
invariant-loop-done g l = record {
  lawful : IsBytes l.piece;
  inside : l.done ≤ length l.piece;
  told : IfSome (g.S.Source.left l.initial.source) (λ bytes. Takes (take l.done l.piece) bytes (g.S.Source.left l.source));
  untold : g.S.Source.left l.initial.source ≡ None → g.S.Source.left l.source ≡ None;
  cause : g.S.Source.faults l.source ≡ g.S.Source.faults l.initial.source;
}

abbrev pub decreases-loop-done : goal.decreases-loop-done
decreases-loop-done g l = length l.initial.piece - l.done

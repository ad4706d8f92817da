use Rattle.std.proofs.Common.{◌≡◌, ◌+◌, ◌-◌, ◌≤◌, false, true, List, ℕ, Some, IfSome}
use Rattle.recon_core.specs.Machine.{MachineState}
use Rattle.recon_core.specs.Moments.{IsFlushedAs}
use Rattle.recon_core.specs.Standing.{IsBelow, StandsFor}
use Rattle.trace_reader.specs.Trace.{IsBytes}
use Rattle.recon_cli.specs.Run.{IsSameOutside, TookLines, record_limit}
use Rattle.recon_cli.proofs.Going.{Going}
use Rattle.recon_cli.proofs.HowOften.{ReadSoFar}
use Rattle.recon_cli.proofs.Moments.{LeftSoFar}
use Rattle.recon_cli.proofs.Reaching.{Far}
use Rattle.recon_cli.proofs.replay.take_records.Given as goal

-- the replay so far, what it read, and that nothing failed
abbrev pub invariant-records : goal.invariant-records
invariant-records g l =
    let disk = g.D.Disk in
    let source = g.S.Source in
    let sink = g.K.Sink in
    record {
      live : l.reader.live ≡ true;
      limit : l.reader.limit ≡ record_limit;
      few : l.reader.whole ≤ l.reader.limit;
      count : l.replay.counts.passed + l.replay.counts.rejected ≤ l.reader.whole;
      style : l.replay.style ≡ l.fn.replay.style;
      same : IsSameOutside l.fn.lent l.lent;
      open_ : l.replay.checker.closed ≡ false;
      size : l.replay.checker.length ≡ disk.len l.lent.disk.now;
      below : IsBelow l.replay.checker.length l.replay.checker.cache;
      disk_faults : disk.faults l.lent.disk.now ≡ disk.faults l.fn.lent.disk.now;
      source_faults : source.faults l.lent.trace.now ≡ source.faults l.fn.lent.trace.now;
      sink_faults : sink.faults l.lent.out.now ≡ sink.faults l.fn.lent.out.now;
      lines : TookLines sink l.fn.replay.style l.fn.lent.out.now l.lent.out.now;
      going : (first : MachineState) (bytes kept : List ℕ) → StandsFor l.fn.replay.checker first → disk.bytes l.fn.lent.disk.now ≡ Some first.image →
          IsBytes bytes → source.left l.fn.lent.trace.now ≡ Some bytes → sink.kept l.fn.lent.out.now ≡ Some kept →
          Going l.fn.replay.style first bytes kept l.reader l.replay.counts l.replay.checker (disk.bytes l.lent.disk.now) (source.left l.lent.trace.now) (sink.kept l.lent.out.now);
      far : (first : MachineState) (bytes kept : List ℕ) → StandsFor l.fn.replay.checker first → disk.bytes l.fn.lent.disk.now ≡ Some first.image →
          source.left l.fn.lent.trace.now ≡ Some bytes → sink.kept l.fn.lent.out.now ≡ Some kept →
          Far l.fn.replay.style first bytes kept l.reader l.replay.counts l.replay.checker (disk.bytes l.lent.disk.now) (source.left l.lent.trace.now) (sink.kept l.lent.out.now);
      read : (first : MachineState) (bytes : List ℕ) → StandsFor l.fn.replay.checker first → disk.bytes l.fn.lent.disk.now ≡ Some first.image →
          source.left l.fn.lent.trace.now ≡ Some bytes →
          ReadSoFar first bytes l.reader l.replay.counts l.replay.checker (disk.bytes l.lent.disk.now) (source.left l.lent.trace.now) (disk.reads l.fn.lent.disk.now) (disk.reads l.lent.disk.now)
          l.fn.lent.steps.now l.lent.steps.now;
      left : (first : MachineState) (bytes : List ℕ) → StandsFor l.fn.replay.checker first → disk.bytes l.fn.lent.disk.now ≡ Some first.image →
          source.left l.fn.lent.trace.now ≡ Some bytes →
          IfSome (disk.moments l.fn.lent.disk.now) (λ before. IsFlushedAs first.image before →
          LeftSoFar first bytes l.reader l.replay.counts l.replay.checker (disk.bytes l.lent.disk.now) (source.left l.lent.trace.now) before (disk.moments l.lent.disk.now));
    }

abbrev pub decreases-records : goal.decreases-records
decreases-records g l = l.reader.limit - l.reader.whole

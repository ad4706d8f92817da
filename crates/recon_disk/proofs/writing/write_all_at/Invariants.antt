use Rattle.std.proofs.Common.{◌≡◌, ◌+◌, ◌-◌, ◌≤◌, length, take, drop, option_map}
use Rattle.recon_disk.specs.Calls.{run_calls}
use Rattle.verdict.specs.Image.{written}
use Rattle.recon_disk.specs.Stops.{HasWritten, LiesIn}
use Rattle.recon_disk.proofs.Sending.{SentSoFar}
use Rattle.recon_disk.proofs.writing.write_all_at.Given as goal

-- a front is written so far
abbrev pub invariant-loop-done : goal.invariant-loop-done
invariant-loop-done g l =
    let disk = g.D.Disk in
    record {
      few : l.done ≤ length l.bytes;
      size : disk.len l.disk ≡ disk.len l.fn.disk;
      front : disk.bytes l.disk ≡ option_map (λ image. written image l.at (take l.done l.bytes)) (disk.bytes l.fn.disk);
      order : SentSoFar (disk.sent l.fn.disk) (disk.sent l.disk) (run_calls l.at l.bytes) (run_calls (l.at + l.done) (drop l.done l.bytes));
      stops : HasWritten (LiesIn l.at (length l.bytes)) (disk.moments l.fn.disk) (disk.moments l.disk);
      faults : disk.faults l.disk ≡ disk.faults l.fn.disk;
      reads : disk.reads l.disk ≡ disk.reads l.fn.disk;
    }

abbrev pub decreases-loop-done : goal.decreases-loop-done
decreases-loop-done g l = length l.bytes - l.done

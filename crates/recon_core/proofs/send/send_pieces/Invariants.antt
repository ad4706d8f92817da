use Rattle.std.proofs.Common.{◌≡◌}
use Rattle.write_cache.specs.Lent.{pieces_left}
use Rattle.recon_disk.specs.Stops.{HasWritten}
use Rattle.recon_core.specs.Sent.{IsOut}
use Rattle.recon_core.proofs.Told.{IsSending}
use Rattle.recon_core.proofs.Ordered.{RunsLeft}
use Rattle.recon_core.proofs.send.send_pieces.Given as goal

-- the pieces that the iterator has left are still to go out
abbrev pub invariant-loop-at : goal.invariant-loop-at
invariant-loop-at g l =
    let disk = g.D.Disk in
    record {
      size : disk.len l.disk ≡ disk.len l.fn.disk;
      so : IsSending l.cache (disk.bytes l.fn.disk) (disk.bytes l.disk) (pieces_left l.at-iterator);
      order : RunsLeft l.cache (disk.sent l.fn.disk) (disk.sent l.disk) (pieces_left l.at-iterator);
      stops : HasWritten (IsOut l.cache) (disk.moments l.fn.disk) (disk.moments l.disk);
      faults : disk.faults l.disk ≡ disk.faults l.fn.disk;
      reads : disk.reads l.disk ≡ disk.reads l.fn.disk;
    }

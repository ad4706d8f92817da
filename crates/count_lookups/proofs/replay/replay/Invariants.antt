-- the reader goes on and has room, and the checker stands over its disk
use Rattle.std.proofs.Common.{◌≡◌, ◌-◌, ◌≤◌, length, true}
use Rattle.recon_disk.specs.Memory.{bytes_in}
use Rattle.recon_core.specs.Standing.{IsBelow}
use Rattle.count_lookups.proofs.replay.replay.Given as goal

abbrev pub invariant-records : goal.invariant-records
invariant-records g l = record {
  live : l.reader.live ≡ true;
  few : l.reader.whole ≤ l.reader.limit;
  size : l.run.checker.length ≡ length (bytes_in l.run.disk);
  below : IsBelow l.run.checker.length l.run.checker.cache;
}

-- each event takes a record of those that there may be
abbrev pub decreases-records : goal.decreases-records
decreases-records g l = l.reader.limit - l.reader.whole

use Rattle.std.proofs.Common.{◌≡◌}
use Rattle.image_diff.proofs.known.walk_named.Given as goal

-- the disk stays as long as it was
abbrev pub invariant-loop-root : goal.invariant-loop-root
invariant-loop-root g l = l.volume.end ≡ g.D.Disk.len l.disk

use Rattle.std.proofs.Common.{◌≡◌, length}
use Rattle.write_cache.specs.Cache.{overlaid}
use Rattle.write_cache.specs.Pieces.{map_of}
use Rattle.write_cache.specs.Runs.{pieces_of, AreKept}
use Rattle.write_cache.proofs.cache.WriteCache.overlay.Given as goal

-- the runs that are left, laid over the buffer, are all of them laid over it as it was
abbrev pub invariant-loop-begin : goal.invariant-loop-begin
invariant-loop-begin l = AreKept l.runs × (overlaid (map_of (pieces_of l.runs)) l.at l.into ≡ overlaid l.self l.at l.fn.into)

abbrev pub decreases-loop-begin : goal.decreases-loop-begin
decreases-loop-begin l = length l.runs

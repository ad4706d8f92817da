use Rattle.std.proofs.Common.{◌≡◌, drop}
use Rattle.verdict.specs.Chunks.{home}
use Rattle.chunk_map.proofs.home.home_in.Given as goal

-- what is left decides
abbrev pub invariant-loop-chunk : goal.invariant-loop-chunk
invariant-loop-chunk l = home (drop l.chunk-index l.chunks) l.addr l.len ≡ home l.chunks l.addr l.len

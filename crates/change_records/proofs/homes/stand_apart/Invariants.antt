use Rattle.std.proofs.Common.{◌≡◌, ℕ, ◌+◌, ◌<◌, ◌≤◌, get_or}
use Rattle.verdict.specs.declared.place.Chunk.{Chunk}
use Rattle.change_records.proofs.homes.stand_apart.Given as goal

abbrev pub invariant-loop-chunk : goal.invariant-loop-chunk
invariant-loop-chunk l = record {
  first : l.chunk-index ≡ 0 → l.end ≡ 0;
  last : (k : ℕ) (d : Chunk) → k + 1 ≡ l.chunk-index → l.end ≡ (get_or l.chunks k d).start + (get_or l.chunks k d).length;
  ends : (k : ℕ) (d : Chunk) → k < l.chunk-index → (get_or l.chunks k d).start + (get_or l.chunks k d).length ≤ l.end;
  apart : (i j : ℕ) (d : Chunk) → i < j → j < l.chunk-index → (get_or l.chunks i d).start + (get_or l.chunks i d).length ≤ (get_or l.chunks j d).start;
}

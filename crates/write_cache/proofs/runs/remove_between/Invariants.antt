use Rattle.std.proofs.Common.{◌≡◌, ℕ, ◌≤◌, ◌<◌, ◌⊎◌, length}
use Rattle.write_cache.specs.Runs.{run_at}
use Rattle.write_cache.proofs.runs.remove_between.Given as goal

-- the runs that begin elsewhere stand as they did
abbrev pub invariant-loop-begin : goal.invariant-loop-begin
invariant-loop-begin l = (k : ℕ) → (k ≤ l.after) ⊎ (l.to < k) → run_at l.runs.entries k ≡ run_at l.fn.runs.entries k

abbrev pub decreases-loop-begin : goal.decreases-loop-begin
decreases-loop-begin l = length l.runs.entries

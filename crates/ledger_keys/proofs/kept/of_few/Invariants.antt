use Rattle.std.proofs.Common.{◌≡◌, ◌<◌, ℕ, length, slice_index}
use Rattle.accounts.specs.Sums.{sum_in}
use Rattle.ledger_keys.proofs.kept.of_few.Given as goal

abbrev pub invariant-loop-i : goal.invariant-loop-i
invariant-loop-i l = record {
  size : length l.totals.f ≡ 9;
  done : (n : ℕ) → n < l.i → sum_in l.totals n ≡ slice_index l.few n;
}

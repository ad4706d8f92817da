use Rattle.std.proofs.Common.{◌≡◌, ◌<◌, ℕ, length, slice_index}
use Rattle.accounts.specs.Sums.{sum_in}
use Rattle.ledger_keys.proofs.kept.first_of.Given as goal

abbrev pub invariant-loop-i : goal.invariant-loop-i
invariant-loop-i l = record {
  size : length l.few ≡ 7;
  done : (n : ℕ) → n < l.i → slice_index l.few n ≡ sum_in l.totals n;
}

-- A cache in which nothing waits.
use Rattle.std.proofs.Common.{◌≡◌, ℕ, sym, subst}
use Rattle.std.specs.Ordering.{nat_cmp}
use Rattle.std.specs.FinMap.{FinMap, empty}
use Rattle.recon_core.specs.Standing.{IsBelow}
use Rattle.recon_core.proofs.Steps.{below_none}

-- its offsets lie below every end
pub below_where_none : (end : ℕ) (m : FinMap nat_cmp ℕ) → m ≡ empty → IsBelow end m
below_where_none end m none = subst (IsBelow end) (sym none) (below_none end)

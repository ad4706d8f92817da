-- What adding and taking an amount makes of a sum.
use Rattle.std.proofs.Common.{◌≡◌, ℕ, ◌<◌, ◌^◌, ◌&&◌, Bool, true, false, cond, refl, arith}
use Rattle.ledger_keys.specs.Sums.{lower, raise}

-- an amount of nothing changes nothing
pub raise_none : (sum : ℕ) → raise 0 sum ≡ sum
raise_none sum = omega arith

pub lower_none : (sum : ℕ) → lower 0 sum ≡ sum
lower_none sum = omega arith

pub other_amount : (s a : Bool) (amount : ℕ) → s ≡ false → ◌≡◌ {A = ℕ} (cond (s && a) amount 0) 0
other_amount true a amount is = absurd (cc is)
other_amount false a amount is = refl

pub raised_nothing : (b : Bool) (amount sum : ℕ) → amount < 2 ^ 64 → sum ≡ 0 → cond b amount 0 ≡ raise (cond b amount 0) sum
raised_nothing true amount sum small zero = omega arith
raised_nothing false amount sum small zero = omega arith

-- A counter of looks, some looks and then others later.
use Rattle.std.proofs.Common.{◌≡◌, ℕ, zero, suc, ◌+◌, refl, ap, sym, ◌∙◌, arith}
use Rattle.recon_disk.specs.Outside.{counted}
use Rattle.ledger_index.specs.Looks.{counted_times}

pub counted_none : (now : ℕ) → counted_times 0 now ≡ now
unfolding counted_times
counted_none now = refl

-- one look more
pub counted_suc : (n m now : ℕ) → m ≡ suc n → counted_times m now ≡ counted (counted_times n now)
unfolding counted_times
counted_suc n m now is = ap (λ k. counted_times k now) is

pub counted_both : (m n now : ℕ) → counted_times m (counted_times n now) ≡ counted_times (m + n) now
unfolding counted_times
counted_both zero n now = let none : n ≡ 0 + n = omega arith in ap (λ k. counted_times k now) none
counted_both (suc m) n now = ap counted (counted_both m n now) ∙ sym (counted_suc (m + n) (suc m + n) now (omega arith))

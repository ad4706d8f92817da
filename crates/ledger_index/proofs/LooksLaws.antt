-- What is counted by a walk, by the looks that are left.
use Rattle.std.proofs.Common.{◌≡◌, ℕ, zero, suc, ◌+◌, ◌≤◌, refl, ap, sym, ◌∙◌, arith}
use Rattle.recon_disk.specs.Outside.{counted}
use Rattle.ledger_index.specs.Looks.{counted_times}
use Rattle.ledger_index.specs.LooksLaws.{counted_both, counted_none, counted_suc}

-- some looks, and then those that are left
pub look_part : (here left all before between : ℕ) → all ≡ here + left → between ≡ counted_times here before
    → counted_times left between ≡ counted_times all before
look_part here left all before between both was =
    let turned : left + here ≡ all = omega (arith, both) in
    ap (counted_times left) was ∙ counted_both left here before ∙ ap (λ n. counted_times n before) turned

-- one look, and then those that are left
pub look_one : (left all before between : ℕ) → all ≡ 1 + left → between ≡ counted before → counted_times left between ≡ counted_times all before
look_one left all before between both was =
    look_part 1 left all before between both (was ∙ ap counted (sym (counted_none before)) ∙ sym (counted_suc 0 1 before refl))

-- no look is left
pub look_end : (left now whole : ℕ) → left ≡ 0 → counted_times left now ≡ whole → now ≡ whole
look_end left now whole none is = sym (counted_none now) ∙ ap (λ n. counted_times n now) (sym none) ∙ is

-- the looks of two walks, one after the other
pub look_both : (first second both before between after : ℕ) → both ≡ first + second → between ≡ counted_times first before
    → after ≡ counted_times second between → after ≡ counted_times both before
look_both first second both before between after all was is = is ∙ look_part first second both before between all was

-- it counts no more than the looks
pub counted_few : (n now : ℕ) → counted_times n now ≤ now + n
unfolding counted_times
counted_few zero now = omega arith
counted_few (suc n) now = let before = counted_few n now in omega (arith, before)

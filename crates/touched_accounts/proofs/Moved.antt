-- Postings that are the same but for some of each move the sums by these.
use Rattle.std.proofs.Common.{◌≡◌, ℕ, ◌+◌, List, [], ◌∷◌, ◌++◌, refl, ap, sym, ◌∙◌, arith}
use Rattle.std.specs.List.{sum_by}
use Rattle.std.specs.List.Sorted.{IsPermutation}
use Rattle.std.proofs.lemmas.List.Sorted.{sum_by-IsPermutation}
use Rattle.std.proofs.lemmas.List.Sums.{sum_by-cons}
use Rattle.accounts.specs.declared.account.Account.{Account}
use Rattle.accounts.specs.declared.postings.Posting.{Posting}
use Rattle.accounts.specs.Sums.{added, total_of}
use Rattle.accounts.proofs.Kept.{total_joined}
use Rattle.touched_accounts.specs.Laws.{MovesLaw}

-- a total is a sum over the postings
pub total_by : (ps : List Posting) (account : Account) (n : ℕ) → total_of ps account n ≡ sum_by (λ (p : Posting). added p account n) ps
unfolding total_of
total_by [] account n = refl
total_by (p ∷ ps) account n = ap (λ k. added p account n + k) (total_by ps account n) ∙ sym (sum_by-cons (λ (q : Posting). added q account n) p ps)

-- the order of postings does not matter
pub total_permuted : (ps qs : List Posting) (account : Account) (n : ℕ) → IsPermutation ps qs → total_of ps account n ≡ total_of qs account n
total_permuted ps qs account n is =
    total_by ps account n ∙ sym (sum_by-IsPermutation (λ (p : Posting). added p account n) ps qs is) ∙ sym (total_by qs account n)

moved_by : (x y gone came same : ℕ) → x ≡ gone + same → y ≡ came + same → y + gone ≡ x + came
moved_by x y gone came same old new = omega arith

pub moves : MovesLaw
moves before after gone came is account field =
    moved_by (total_of before account field) (total_of after account field) (total_of gone account field) (total_of came account field)
    (total_of is.same account field)
    (total_permuted before (gone ++ is.same) account field is.old ∙ total_joined gone is.same account field)
    (total_permuted after (came ++ is.same) account field is.new ∙ total_joined came is.same account field)

-- No kind of accounts is kept by two parts.
use Rattle.std.proofs.Common.{◌≡◌, ℕ, ◌==◌, ◌||◌, Bool, true, false, refl, sym, subst}
use Rattle.std.proofs.lemmas.Bool.{eqb-true}
use Rattle.extent_tally.specs.Held.{is_of_extents}
use Rattle.inode_tally.specs.Held.{is_of_inodes}

either_one : {A : Type 0} (a b : Bool) → (a || b) ≡ true → (a ≡ true → A) → (b ≡ true → A) → A
either_one true b is first later = first refl
either_one false b is first later = later is

abbrev IsNoExtent : ℕ → Type 0
IsNoExtent kind = is_of_extents kind ≡ false

at_kind : (kind n : ℕ) → (kind == n) ≡ true → IsNoExtent n → IsNoExtent kind
at_kind kind n is holds = subst IsNoExtent (sym (eqb-true kind n is)) holds

pub of_inodes : (kind : ℕ) → is_of_inodes kind ≡ true → IsNoExtent kind
of_inodes kind is = either_one (kind == 9) (kind == 10) is (λ nine. at_kind kind 9 nine refl) (λ ten. at_kind kind 10 ten refl)

-- The pairs of a table that are of the trees that are chosen.
use Rattle.std.proofs.Common.{◌≡◌, ℕ, ◌<◌, Bool, true, false, ◌==◌, cond, refl, ap, sym, subst, ◌∙◌, arith}
use Rattle.std.specs.Prelude.{Option, Some, None, is_some, not}
use Rattle.std.proofs.lemmas.Bool.{eqb-true}
use Rattle.std.proofs.lemmas.Bool.Decides.{nat_tests}
use Rattle.verdict.proofs.Truth.{not_of_false, false_of_not}
use Rattle.live_index.specs.declared.live.Live.{Live}
use Rattle.live_index.specs.Pairs.{IsLeastFrom, IsNextOf, Pairs, Stands, comes_before, is_above}
use Rattle.touched_blocks.specs.Going.{IsFirst}
use Rattle.touched_blocks.specs.OneTree.{chosen, is_chosen}

no_live : (live : Live) → None ≡ Some live → ⊥
no_live live e = cc

nothing : false ≡ true → ⊥
nothing h = cc

-- a pair that is chosen is one of the table, and its tree is chosen
if_there : (b : Bool) (o : Option Live) → is_some (cond b o None) ≡ true → (b ≡ true) × (is_some o ≡ true)
if_there true o h = (refl, h)
if_there false o h = absurd (nothing h)

if_is : (b : Bool) (o : Option Live) (live : Live) → cond b o None ≡ Some live → (b ≡ true) × (o ≡ Some live)
if_is true o live h = (refl, h)
if_is false o live h = absurd (no_live live h)

if_none : (b : Bool) (o : Option Live) → (b ≡ true → o ≡ None) → cond b o None ≡ None
if_none true o h = h refl
if_none false o h = refl

pub chosen_there : (only : Option ℕ) (pairs : Pairs) (t a : ℕ) → is_some (chosen only pairs t a) ≡ true
    → (is_chosen only t ≡ true) × (is_some (pairs t a) ≡ true)
chosen_there only pairs t a h = if_there (is_chosen only t) (pairs t a) h

pub there_chosen : (only : Option ℕ) (pairs : Pairs) (t a : ℕ) → is_chosen only t ≡ true → is_some (pairs t a) ≡ true
    → is_some (chosen only pairs t a) ≡ true
there_chosen only pairs t a is there = ap (λ b. is_some (cond b (pairs t a) None)) is ∙ there

pub chosen_stands : (only : Option ℕ) (pairs : Pairs) (live : Live) → Stands (chosen only pairs) live
    → (is_chosen only live.tree ≡ true) × Stands pairs live
chosen_stands only pairs live stands = if_is (is_chosen only live.tree) (pairs live.tree live.address) live stands

-- ---- the first pair that a cursor has not passed

pub first_of_all : (pairs : Pairs) (address tree : ℕ) (found : Option Live) → IsLeastFrom pairs address tree found
    → IsFirst (chosen None pairs) (Some (address, tree)) found
first_of_all pairs address tree None least = least
first_of_all pairs address tree (Some live) least = least

below : (a t address tree : ℕ) → comes_before a t address tree ≡ true → t ≡ tree → a < address
below a t address tree before same = grind (arith, nat_tests)

pub first_of_tree : (pairs : Pairs) (one address tree : ℕ) (last : Option ℕ) (found : Option Live)
    → ((a : ℕ) → is_above last a ≡ not (comes_before a one address tree)) → IsNextOf pairs one last found
    → IsFirst (chosen (Some one) pairs) (Some (address, tree)) found
first_of_tree pairs one address tree last None above none = λ a t not_yet.
    if_none (t == one) (pairs t a) (λ is.
    let same : t ≡ one = eqb-true t one is in
    subst (λ x. pairs x a ≡ None) (sym same)
    (none a (above a ∙ not_of_false _ (subst (λ x. comes_before a x address tree ≡ false) same not_yet))))
first_of_tree pairs one address tree last (Some live) above next = (
  ap (λ b. cond b (pairs live.tree live.address) None) (is_one live.tree next.1) ∙ next.0,
  subst (λ x. comes_before live.address x address tree ≡ false) (sym next.1) (false_of_not _ (sym (above live.address) ∙ next.2)),
  λ a t not_yet before. if_none (t == one) (pairs t a) (λ is.
      let same : t ≡ one = eqb-true t one is in
      subst (λ x. pairs x a ≡ None) (sym same)
      (next.3 a (above a ∙ not_of_false _ (subst (λ x. comes_before a x address tree ≡ false) same not_yet))
      (below a t live.address live.tree before (same ∙ sym next.1)))),
)
  where
    is_one : (t : ℕ) → t ≡ one → (t == one) ≡ true
    is_one t same = grind (arith, nat_tests)

pub ruleset firsts = (first_of_all, first_of_tree)

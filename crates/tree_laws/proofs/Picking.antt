-- One of the blocks that the walks of trees come to, by a table of their live pairs.
use Rattle.std.proofs.Common.{◌≡◌, ℕ, ◌==◌, Bool, true, false, ◌&&◌, ◌||◌, List, [], ◌∷◌, refl, ap, ◌∙◌, if◌then◌else◌}
use Rattle.std.proofs.lemmas.List.Folds.{list_any-append}
use Rattle.std.specs.Prelude.{Some, map}
use Rattle.std.specs.List.{AllByRecursion, list_any}
use Rattle.super_reader.specs.declared.Super.{Super}
use Rattle.live_index.specs.declared.live.Live.{Live}
use Rattle.node_reader.specs.Stored.{Stored}
use Rattle.node_reader.specs.declared.expect.Expect.{Expect}
use Rattle.records.specs.WalkLaw.{visited}
use Rattle.tree_laws.specs.Keeping.{live_at}
use Rattle.tree_laws.specs.LivePairs.{table_of}
use Rattle.tree_laws.specs.TableLaw.{Tree}
use Rattle.tree_laws.proofs.Forest.{all_lives}

-- what holds of each of a list
pub each_both : {A : Type 0} (P Q : A → Type 0) (xs : List A) → AllByRecursion P xs → AllByRecursion Q xs → AllByRecursion (λ x. P x × Q x) xs
each_both P Q [] all more = tt
each_both P Q (x ∷ xs) all more = ((all.0, more.0), each_both P Q xs all.1 more.1)

pub each_if : {A : Type 0} (C : Type 0) (P : A → Type 0) (xs : List A) → (C → AllByRecursion P xs) → AllByRecursion (λ x. C → P x) xs
each_if C P [] all = tt
each_if C P (x ∷ xs) all = ((λ c. (all c).0), each_if C P xs (λ c. (all c).1))

-- one of a list that passes a test
pub one_of : {A : Type 0} (P : A → Type 0) (test : A → Bool) (xs : List A) → AllByRecursion P xs → list_any test xs ≡ true
    → (x : A) × P x × (test x ≡ true)
one_of P test [] all some = absurd (cc)
one_of P test (x ∷ xs) all some = by (test x) refl some (one_of P test xs all.1)
  where
    by : (b : Bool) → test x ≡ b → (b || list_any test xs) ≡ true → (list_any test xs ≡ true → (y : _) × P y × (test y ≡ true))
        → (y : _) × P y × (test y ≡ true)
    by true is some rest = (x, all.0, is)
    by false is some rest = rest some

-- whether a pair is that of a tree and an address
abbrev pub is_there : ℕ → ℕ → Live → Bool
is_there tree address live = live.tree == tree && live.address == address

abbrev pub is_at : ℕ → ℕ → Expect → Bool
is_at tree address v = v.tree == tree && v.address == address

-- what a table has of a pair stands among its pairs
pub table_some : (lives : List Live) (id address : ℕ) (one : Live) → table_of lives id address ≡ Some one
    → list_any (is_there id address) lives ≡ true
table_some [] id address one is = absurd (cc)
table_some (live ∷ lives) id address one is = by (is_there id address live) is (table_some lives id address one)
  where
    by : (b : Bool) → (if b then Some live else table_of lives id address) ≡ Some one
        → (table_of lives id address ≡ Some one → list_any (is_there id address) lives ≡ true)
        → (b || list_any (is_there id address) lives) ≡ true
    by true is rest = refl
    by false is rest = rest is

module _ (sup : Super) where
  -- whether a tree has a block at an address
  abbrev pub comes_there : ℕ → ℕ → Tree → Bool
  comes_there id address tree = list_any (is_at id address) (visited sup tree.0 tree.1)

  there_blocks : (id address : ℕ) (stored : Stored) (es : List Expect)
      → list_any (is_there id address) (map (live_at sup stored) es) ≡ list_any (is_at id address) es
  there_blocks id address stored [] = refl
  there_blocks id address stored (e ∷ es) = ap (λ b. is_at id address e || b) (there_blocks id address stored es)

  pub there_trees : (id address : ℕ) (trees : List Tree)
      → list_any (is_there id address) (all_lives sup trees) ≡ list_any (comes_there id address) trees
  there_trees id address [] = refl
  there_trees id address (tree ∷ trees) =
      list_any-append (is_there id address) (map (live_at sup tree.0) (visited sup tree.0 tree.1)) (all_lives sup trees)
      ∙ (ap (λ b. b || list_any (is_there id address) (all_lives sup trees)) (there_blocks id address tree.0 (visited sup tree.0 tree.1))
      ∙ ap (λ b. comes_there id address tree || b) (there_trees id address trees))

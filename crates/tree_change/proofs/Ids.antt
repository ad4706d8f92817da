-- The ids of the trees of an image, and of those that are gone.
use Rattle.std.proofs.Common.{◌≡◌, ℕ, ◌==◌, Bool, true, false, ◌||◌, List, [], ◌∷◌, ◌++◌, refl, ap, subst, ◌∙◌, arith, if◌then◌else◌}
use Rattle.std.proofs.lemmas.Bool.{eqb-true}
use Rattle.std.proofs.lemmas.Bool.Decides.{nat_tests}
use Rattle.std.specs.Prelude.{map}
use Rattle.std.specs.List.{AllByRecursion, list_any}
use Rattle.verdict.proofs.Truth.{or_right as or_more, or_left}
use Rattle.verdict.proofs.Numbers.{itself}
use Rattle.verdict.proofs.Lists.{all_append as both_all}
use Rattle.verdict.specs.declared.place.Chunk.{Chunk}
use Rattle.super_reader.specs.declared.Super.{Super}
use Rattle.volume_items.specs.declared.root_at.RootAt.{RootAt}
use Rattle.node_reader.specs.Stored.{Stored, stored_in}
use Rattle.records.specs.Contents.{named_root, names}
use Rattle.tree_laws.specs.TableLaw.{AreApart, Tree, trees_in}
use Rattle.tree_laws.proofs.Forest.{others_after}
use Rattle.tree_change.proofs.Unordered.{Distinct, listed, listed_append}

abbrev pub tree_ids : List Tree → List ℕ
tree_ids trees = map (λ (tree : Tree). tree.1.tree) trees

abbrev pub at_id : RootAt → ℕ
at_id root = root.key.objectid

abbrev pub at_ids : List RootAt → List ℕ
at_ids roots = map at_id roots

-- the ids of the trees that are named in the first list and not in the second
unfoldable pub gone_ids : List RootAt → List RootAt → List ℕ
gone_ids news [] = []
gone_ids news (root ∷ olds) = if list_any (names (at_id root)) news then gone_ids news olds else at_id root ∷ gone_ids news olds

-- no two trees of an image have one id
distinct_ids : (sup : Super) (trees : List Tree) → AreApart trees → Distinct (tree_ids trees)
distinct_ids sup [] apart = tt
distinct_ids sup (tree ∷ trees) apart = (ids trees (others_after sup tree trees apart.0), distinct_ids sup trees apart.1)
  where
    ids : (some : List Tree) → AllByRecursion (λ t. (t.1.tree == tree.1.tree) ≡ false) some
        → AllByRecursion (λ m. (m == tree.1.tree) ≡ false) (tree_ids some)
    ids [] all = tt
    ids (t ∷ some) all = (all.0, ids some all.1)

named_ids : (stored : Stored) (roots : List RootAt)
    → tree_ids (map (λ (root : RootAt). (stored, named_root root)) roots) ≡ at_ids roots
named_ids stored [] = refl
named_ids stored (root ∷ roots) = ap (λ ids. root.key.objectid ∷ ids) (named_ids stored roots)

pub image_ids : (sup : Super) (chunks : List Chunk) (roots : List RootAt) (image : List ℕ) → AreApart (trees_in sup chunks chunks roots image)
    → Distinct (3 ∷ 1 ∷ at_ids roots)
image_ids sup chunks roots image apart =
    subst (λ ids. Distinct (3 ∷ 1 ∷ ids)) (named_ids (stored_in image chunks sup.nodesize) roots)
    (distinct_ids sup (trees_in sup chunks chunks roots image) apart)

-- what holds of each id holds of those that are gone
all_gone : (P : ℕ → Type 0) (news olds : List RootAt) → AllByRecursion P (at_ids olds) → AllByRecursion P (gone_ids news olds)
unfolding gone_ids
all_gone P news [] all = tt
all_gone P news (root ∷ olds) all = by (list_any (names (at_id root)) news) (all_gone P news olds all.1)
  where
    by : (b : Bool) → AllByRecursion P (gone_ids news olds) → AllByRecursion P (if b then gone_ids news olds else at_id root ∷ gone_ids news olds)
    by true rest = rest
    by false rest = (all.0, rest)

distinct_gone : (news olds : List RootAt) → Distinct (at_ids olds) → Distinct (gone_ids news olds)
unfolding gone_ids
distinct_gone news [] apart = tt
distinct_gone news (root ∷ olds) apart = by (list_any (names (at_id root)) news) (distinct_gone news olds apart.1)
  where
    by : (b : Bool) → Distinct (gone_ids news olds) → Distinct (if b then gone_ids news olds else at_id root ∷ gone_ids news olds)
    by true rest = rest
    by false rest = (all_gone (λ m. (m == at_id root) ≡ false) news olds apart.0, rest)

-- those that are gone are none of those that are named
gone_other : (root : RootAt) (news olds : List RootAt) → list_any (names (at_id root)) news ≡ true
    → AllByRecursion (λ m. (m == at_id root) ≡ false) (gone_ids news olds)
unfolding gone_ids
gone_other root news [] has = tt
gone_other root news (one ∷ olds) has = by (list_any (names (at_id one)) news) refl (gone_other root news olds has)
  where
    other : (b : Bool) → (at_id one == at_id root) ≡ b → list_any (names (at_id one)) news ≡ false → (at_id one == at_id root) ≡ false
    other true same none =
        let h : list_any (names (at_id one)) news ≡ true =
        ap (λ id. list_any (names id) news) (eqb-true (at_id one) (at_id root) same) ∙ has in
        absurd (cc)
    other false same none = same

    by : (b : Bool) → list_any (names (at_id one)) news ≡ b → AllByRecursion (λ m. (m == at_id root) ≡ false) (gone_ids news olds)
        → AllByRecursion (λ m. (m == at_id root) ≡ false) (if b then gone_ids news olds else at_id one ∷ gone_ids news olds)
    by true none rest = rest
    by false none rest = (other (at_id one == at_id root) refl none, rest)

distinct_named : (whole news olds : List RootAt) → AllByRecursion (λ root. list_any (names (at_id root)) whole ≡ true) news
    → Distinct (at_ids news) → Distinct (at_ids olds) → Distinct (at_ids news ++ gone_ids whole olds)
distinct_named whole [] olds within new old = distinct_gone whole olds old
distinct_named whole (root ∷ news) olds within new old = (
  both_all (λ m. (m == at_id root) ≡ false) (at_ids news) (gone_ids whole olds) new.0 (gone_other root whole olds within.0),
  distinct_named whole news olds within.1 new.1 old,
)

-- each of some is one of them
all_within : (roots : List RootAt) → AllByRecursion (λ root. list_any (names (at_id root)) roots ≡ true) roots
all_within [] = tt
all_within (root ∷ roots) = (ap (λ b. b || list_any (names (at_id root)) roots) (itself (at_id root)), more roots (all_within roots))
  where
    or_right : (a b : Bool) → b ≡ true → (a || b) ≡ true
    or_right true b is = refl
    or_right false b is = is

    more : (some : List RootAt) → AllByRecursion (λ one. list_any (names (at_id one)) roots ≡ true) some
        → AllByRecursion (λ one. list_any (names (at_id one)) (root ∷ roots) ≡ true) some
    more [] all = tt
    more (one ∷ some) all = (or_right (names (at_id one) root) (list_any (names (at_id one)) roots) all.0, more some all.1)

-- The ids of all trees, of the image as it is and then of those that are gone, are different.
abbrev pub all_ids : List RootAt → List RootAt → List ℕ
all_ids news olds = 3 ∷ 1 ∷ (at_ids news ++ gone_ids news olds)

pub all_distinct : (news olds : List RootAt) → Distinct (3 ∷ 1 ∷ at_ids news) → Distinct (3 ∷ 1 ∷ at_ids olds) → Distinct (all_ids news olds)
all_distinct news olds new old = (
  (new.0.0, both_all (λ m. (m == 3) ≡ false) (at_ids news) (gone_ids news olds) new.0.1 (all_gone (λ m. (m == 3) ≡ false) news olds old.0.1)),
  (
    both_all (λ m. (m == 1) ≡ false) (at_ids news) (gone_ids news olds) new.1.0 (all_gone (λ m. (m == 1) ≡ false) news olds old.1.0),
    distinct_named news news olds (all_within news) new.1.1 old.1.1,
  ),
)

-- an id that is named is one of them, and so is one that is gone
listed_at : (id : ℕ) (roots : List RootAt) → list_any (names id) roots ≡ true → listed id (at_ids roots) ≡ true
listed_at id [] is = is
listed_at id (root ∷ roots) is = by (at_id root == id) is (listed_at id roots)
  where
    by : (b : Bool) → (b || list_any (names id) roots) ≡ true → (list_any (names id) roots ≡ true → listed id (at_ids roots) ≡ true)
        → (b || listed id (at_ids roots)) ≡ true
    by true is rest = refl
    by false is rest = rest is

listed_in : (id : ℕ) (news olds : List RootAt) → list_any (names id) news ≡ true → listed id (all_ids news olds) ≡ true
listed_in id news olds is =
    or_more (3 == id) (listed id (1 ∷ (at_ids news ++ gone_ids news olds))) (or_more (1 == id) (listed id (at_ids news ++ gone_ids news olds))
    (listed_append id (at_ids news) (gone_ids news olds) ∙ or_left (listed id (at_ids news)) (listed id (gone_ids news olds))
    (listed_at id news is)))

listed_gone : (id : ℕ) (news olds : List RootAt) → listed id (gone_ids news olds) ≡ true → listed id (all_ids news olds) ≡ true
listed_gone id news olds is =
    or_more (3 == id) (listed id (1 ∷ (at_ids news ++ gone_ids news olds))) (or_more (1 == id) (listed id (at_ids news ++ gone_ids news olds))
    (listed_append id (at_ids news) (gone_ids news olds) ∙ or_more (listed id (at_ids news)) (listed id (gone_ids news olds)) is))

-- each old root is named now or is gone
named_or_gone : (news olds : List RootAt)
    → AllByRecursion (λ root. (list_any (names (at_id root)) news || listed (at_id root) (gone_ids news olds)) ≡ true) olds
unfolding gone_ids
named_or_gone news [] = tt
named_or_gone news (root ∷ olds) = by (list_any (names (at_id root)) news) refl (named_or_gone news olds)
  where
    more : (some : List RootAt)
        → AllByRecursion (λ one. (list_any (names (at_id one)) news || listed (at_id one) (gone_ids news olds)) ≡ true) some
        → AllByRecursion (λ one. (list_any (names (at_id one)) news || listed (at_id one) (at_id root ∷ gone_ids news olds)) ≡ true) some
    more [] all = tt
    more (one ∷ some) all =
        (wider (list_any (names (at_id one)) news) (at_id root == at_id one) (listed (at_id one) (gone_ids news olds)) all.0, more some all.1)
      where
        wider : (a b c : Bool) → (a || c) ≡ true → (a || (b || c)) ≡ true
        wider true b c is = refl
        wider false true c is = refl
        wider false false c is = is

    by : (b : Bool) → list_any (names (at_id root)) news ≡ b
        → AllByRecursion (λ one. (list_any (names (at_id one)) news || listed (at_id one) (gone_ids news olds)) ≡ true) olds
        → AllByRecursion (λ one.
        (list_any (names (at_id one)) news || listed (at_id one) (if b then gone_ids news olds else at_id root ∷ gone_ids news olds)) ≡ true)
        (root ∷ olds)
    by true is rest = (rw is refl, rest)
    by false is rest = (
      or_more (list_any (names (at_id root)) news) (listed (at_id root) (at_id root ∷ gone_ids news olds))
          (or_left (at_id root == at_id root) (listed (at_id root) (gone_ids news olds)) (itself (at_id root))),
      more olds rest,
    )

-- each tree's id is one of them: of the image as it is, and of the image as it was
abbrev pub Listed : List ℕ → List Tree → Type 0
Listed ids trees = AllByRecursion (λ (t : Tree). listed t.1.tree ids ≡ true) trees

pub news_listed : (sup : Super) (chunks : List Chunk) (news : List RootAt) (olds : List RootAt) (image : List ℕ)
    → Listed (all_ids news olds) (trees_in sup chunks chunks news image)
news_listed sup chunks news olds image = (refl, (refl, each news (all_within news)))
  where
    stored : Stored
    stored = stored_in image chunks sup.nodesize

    each : (some : List RootAt) → AllByRecursion (λ root. list_any (names (at_id root)) news ≡ true) some
        → Listed (all_ids news olds) (map (λ (root : RootAt). (stored, named_root root)) some)
    each [] all = tt
    each (root ∷ some) all = (listed_in root.key.objectid news olds all.0, each some all.1)

pub olds_listed : (sup : Super) (chunks : List Chunk) (olds : List RootAt) (news : List RootAt) (image : List ℕ)
    → Listed (all_ids news olds) (trees_in sup chunks chunks olds image)
olds_listed sup chunks olds news image = (refl, (refl, each olds (named_or_gone news olds)))
  where
    stored : Stored
    stored = stored_in image chunks sup.nodesize

    by : (id : ℕ) (b : Bool) → list_any (names id) news ≡ b → (b || listed id (gone_ids news olds)) ≡ true
        → listed id (all_ids news olds) ≡ true
    by id true has is = listed_in id news olds has
    by id false has is = listed_gone id news olds is

    each : (some : List RootAt)
        → AllByRecursion (λ root. (list_any (names (at_id root)) news || listed (at_id root) (gone_ids news olds)) ≡ true)
        some
        → Listed (all_ids news olds) (map (λ (root : RootAt). (stored, named_root root)) some)
    each [] all = tt
    each (root ∷ some) all = (by root.key.objectid (list_any (names root.key.objectid) news) refl all.0, each some all.1)

-- How many looks the walks of trees cost, by the pairs that change in them.
use Rattle.std.proofs.Common.{◌≡◌, ℕ, ◌+◌, ◌*◌, ◌≤◌, ◌<◌, ◌==◌, ◌&&◌, not, Bool, true, false, List, [], ◌∷◌, ◌++◌, length, refl, ap, subst, ◌∙◌, arith, if◌then◌else◌}
use Rattle.std.proofs.lemmas.Bool.Decides.{nat_tests}
use Rattle.std.proofs.lemmas.List.{length-append}
use Rattle.std.specs.Prelude.{IfSome, Option, Some, None, Result, Ok, Err}
use Rattle.std.specs.List.{AllByRecursion, list_any}
use Rattle.std.specs.Ordering.{nat_cmp}
use Rattle.std.specs.FinMap.{FinMap}
use Rattle.tree_laws.proofs.Mixing.{same_itself}
use Rattle.verdict.proofs.Numbers.{itself}
use Rattle.walk_laws.proofs.Trees.{step_ok}
use Rattle.verdict.specs.OnDisk.{key_same}
use Rattle.verdict.specs.Rules.{and_then}
use Rattle.verdict.specs.declared.finding.Finding.{Finding}
use Rattle.verdict.specs.declared.key.Key.{Key}
use Rattle.volume_items.specs.declared.root_at.RootAt.{RootAt}
use Rattle.live_index.specs.Pairs.{Pairs}
use Rattle.live_index.specs.declared.live.Live.{Live}
use Rattle.node_reader.specs.Stored.{stored_in}
use Rattle.node_reader.specs.declared.expect.Expect.{Expect}
use Rattle.records.specs.Contents.{named_root, names}
use Rattle.tree_laws.specs.LivePairs.{Walked, live_in, table_of}
use Rattle.tree_laws.specs.Shared.{are_read_alike}
use Rattle.tree_laws.specs.SharedLaw.{HasTrees}
use Rattle.tree_laws.specs.TableLaw.{Tree}
use Rattle.tree_laws.specs.VisitsLaw.{entries_at}
use Rattle.tree_change.specs.AllTrees.{gone_all, named_parts, root_named, with_parts}
use Rattle.tree_change.specs.Gathered.{Gathers}
use Rattle.tree_change.specs.Looks.{gone_all_looks, gone_looks, is_expected, met_by, named_looks, new_visits, old_visits, old_visits_or, read_count, same_bound, stays_by, tree_looks}
use Rattle.tree_change.specs.LooksLaw.{entries_of}
use Rattle.tree_change.specs.OneTree.{IsAmong, IsTree, old_tree, side_of}
use Rattle.tree_change.specs.Stays.{Stays}
use Rattle.tree_change.specs.Walks.{Known, Parts, Side, gone_parts, old_or_none, old_walk, tree_parts}
use Rattle.tree_change.proofs.Levels.{IsLow}
use Rattle.tree_change.proofs.TreeLooks.{gone_looks as gone_law, tree_looks as tree_law}

-- what the walks of a tree cost beside seven, and what those of trees cost of which each has a block that changes
abbrev pub tree_cost : Side → Side → Parts → ℕ
tree_cost was is parts =
    4 * entries_of is parts.new_blocks + 3 * entries_of was parts.old_blocks + 28 * length parts.new_blocks + 22 * length parts.old_blocks

abbrev pub all_cost : Side → Side → Parts → ℕ
all_cost was is parts =
    4 * entries_of is parts.new_blocks + 3 * entries_of was parts.old_blocks + 35 * length parts.new_blocks + 29 * length parts.old_blocks

-- ---- one tree

read_most : (x : Result Gathers Finding) (n : ℕ) → ((read : Gathers) → x ≡ Ok read → length read.blocks ≡ n) → read_count x ≤ n
read_most (Err finding) n is = omega arith
read_most (Ok read) n is = let same = is read refl in omega (arith, same)

visits_most : (known : Known) (stops : List Expect) (was : Side) (before : Option Expect) (few : ℕ)
    → IfSome before (λ e. old_visits known stops was e ≤ few) → old_visits_or known stops was before ≤ few
visits_most known stops was None few is = omega arith
visits_most known stops was (Some e) few is = is

tree_total : (v o r m e n p b : ℕ) → v ≤ 1 + e + 7 * n → o ≤ 1 + p + 7 * b → r ≤ b → m ≤ v
    → 3 * v + 3 * o + r + m ≤ 7 + (4 * e + 3 * p + 28 * n + 22 * b)
tree_total v o r m e n p b x y z w = omega (arith, x, y, z, w)

pub tree_sum : (image : List ℕ) (pending : FinMap nat_cmp ℕ) (old : Walked) (trees : List Tree) (pairs : Pairs) (is : Side) (known : Known)
    (before : Option Expect) (now : Expect) (parts : Parts)
    → IsTree image pending old trees pairs is known before now → now.level < 8 → IfSome before (λ e. e.level < 8)
    → tree_parts pairs known (side_of image old) is before now ≡ Ok parts
    → tree_looks known (side_of image old) is before now ≤ 7 + tree_cost (side_of image old) is parts
unfolding tree_looks
tree_sum image pending old trees pairs is known before now parts t low low_old given =
    let few = tree_law image pending old trees pairs is known before now parts t low low_old given in
    let was = side_of image old in
    let met = met_by known is now in
    tree_total (new_visits known is now) (old_visits_or known met was before) (read_count (old_or_none known met was before)) (length met)
    (entries_of is parts.new_blocks) (length parts.new_blocks) (entries_of was parts.old_blocks) (length parts.old_blocks)
    few.new_few (visits_most known met was before _ few.old_few) (read_most (old_or_none known met was before) (length parts.old_blocks) few.as_many)
    few.met_few

gone_total : (o r p b : ℕ) → o ≤ 1 + p + 7 * b → r ≤ b → 1 ≤ b → 3 * o + r ≤ 3 * p + 29 * b
gone_total o r p b x y z = omega (arith, x, y, z)

gone_sum : (image : List ℕ) (old : Walked) (trees : List Tree) (pairs : Pairs) (known : Known) (before : Expect) (parts : Parts)
    → HasTrees image old trees → ((tree address : ℕ) → pairs tree address ≡ table_of (live_in old.seen) tree address)
    → IsAmong (old_tree image old before) trees → before.level < 8
    → gone_parts pairs known (side_of image old) before ≡ Ok parts
    → gone_looks known (side_of image old) before
    ≤ 3 * entries_of (side_of image old) parts.old_blocks + 29 * length parts.old_blocks
unfolding gone_looks
gone_sum image old trees pairs known before parts has pairs_are is low given =
    let few = gone_law image old trees pairs known before parts has pairs_are is low given in
    let was = side_of image old in
    gone_total (old_visits known [] was before) (read_count (old_walk known [] was before)) (entries_of was parts.old_blocks) (length parts.old_blocks)
    few.old_few (read_most (old_walk known [] was before) (length parts.old_blocks) few.as_many) few.reads_some

-- ---- several trees

pub entries_append : (side : Side) (some more : List Live) → entries_of side (some ++ more) ≡ entries_of side some + entries_of side more
entries_append side [] more = omega arith
entries_append side (live ∷ some) more =
    let rest = entries_append side some more in
    joins (entries_at (stored_in side.image side.chunks side.sup.nodesize) live.address) (entries_of side (some ++ more)) (entries_of side some)
    (entries_of side more) rest
  where
    joins : (h w s m : ℕ) → w ≡ s + m → h + w ≡ (h + s) + m
    joins h w s m is = omega (arith, is)

cost_joins : (a b e1 e2 e o1 o2 o n1 n2 n b1 b2 c : ℕ) → e ≡ e1 + e2 → o ≡ o1 + o2 → n ≡ n1 + n2 → c ≡ b1 + b2
    → a ≤ 4 * e1 + 3 * o1 + 35 * n1 + 29 * b1 → b ≤ 4 * e2 + 3 * o2 + 35 * n2 + 29 * b2
    → a + b ≤ 4 * e + 3 * o + 35 * n + 29 * c
cost_joins a b e1 e2 e o1 o2 o n1 n2 n b1 b2 c x y z w p q = omega (arith, x, y, z, w, p, q)

-- what several cost is the sum of what each costs
pub joined_cost : (was is : Side) (some more : Parts) (a b : ℕ) → a ≤ all_cost was is some → b ≤ all_cost was is more
    → a + b ≤ all_cost was is (with_parts some more)
joined_cost was is some more a b x y =
    cost_joins a b (entries_of is some.new_blocks) (entries_of is more.new_blocks) (entries_of is (some.new_blocks ++ more.new_blocks))
    (entries_of was some.old_blocks) (entries_of was more.old_blocks) (entries_of was (some.old_blocks ++ more.old_blocks))
    (length some.new_blocks) (length more.new_blocks) (length (some.new_blocks ++ more.new_blocks))
    (length some.old_blocks) (length more.old_blocks) (length (some.old_blocks ++ more.old_blocks))
    (entries_append is some.new_blocks more.new_blocks) (entries_append was some.old_blocks more.old_blocks)
    (length-append some.new_blocks more.new_blocks) (length-append some.old_blocks more.old_blocks) x y

-- ---- a tree that is walked does not stay

same_limit : (k : Option Key) → same_bound k k ≡ true
same_limit None = refl
same_limit (Some k) = same_itself k

expected_itself : (e : Expect) → is_expected (Some e) e ≡ true
expected_itself e =
    rw (itself e.tree, itself e.address, itself e.generation, itself e.level, itself e.parent, same_limit e.low, same_limit e.high) refl

pub stays_false : (is_same : Bool) (pairs : Pairs) (known : Known) (before : Option Expect) (now : Expect) → is_same ≡ true
    → stays_by is_same known before now ≡ false → Stays pairs known before now → ⊥
unfolding stays_by
stays_false is_same pairs known before now same none stays =
    let all : stays_by is_same known before now ≡ true =
    ap (λ b. b && (is_expected before now
    && (not (known.marked now.tree now.address) && (not (known.moved now.address) && length (known.under now.tree now.address) == 0)))) same
    ∙ ap (λ e. is_expected e now
    && (not (known.marked now.tree now.address) && (not (known.moved now.address) && length (known.under now.tree now.address) == 0))) stays.same
    ∙ ap (λ b. b && (not (known.marked now.tree now.address)
    && (not (known.moved now.address) && length (known.under now.tree now.address) == 0))) (expected_itself now)
    ∙ ap (λ b. not b && (not (known.moved now.address) && length (known.under now.tree now.address) == 0)) stays.unmarked
    ∙ ap (λ b. not b && length (known.under now.tree now.address) == 0) stays.unmoved
    ∙ ap (λ us. length us == 0) stays.unlisted in
    never (stays_by is_same known before now) none all
  where
    never : (b : Bool) → b ≡ false → b ≡ true → ⊥
    never true x y = cc
    never false x y = cc

-- ---- the trees that are named now

pub named_low : (some : List RootAt) (id : ℕ) → AllByRecursion IsLow some → IfSome (root_named some id) (λ e. e.level < 8)
named_low [] id all = tt
named_low (root ∷ some) id all = by (root.key.objectid == id) (named_low some id all.1)
  where
    by : (b : Bool) → IfSome (root_named some id) (λ e. e.level < 8)
        → IfSome (if b then Some (named_root root) else root_named some id) (λ e. e.level < 8)
    by true rest = all.0
    by false rest = rest

pub same_parts : (a b : Parts) → (x : Result Parts Finding) → x ≡ Ok a → x ≡ Ok b → a ≡ b
same_parts a b x is other = cc

abbrev pub fine : Parts → Result Parts Finding
fine parts = Ok parts

paid : (a e p n b : ℕ) → a ≤ 7 + (4 * e + 3 * p + 28 * n + 22 * b) → 1 ≤ b + n → a ≤ 4 * e + 3 * p + 35 * n + 29 * b
paid a e p n b x y = omega (arith, x, y)

module _ (image : List ℕ) (pending : FinMap nat_cmp ℕ) (old : Walked) (olds : List RootAt) (trees : List Tree) (pairs : Pairs) (is : Side)
    (known : Known) (is_same : Bool) (same_is : is_same ≡ are_read_alike old.sup is.sup) (low_olds : AllByRecursion IsLow olds) where
  abbrev was : Side
  was = side_of image old

  abbrev before_of : RootAt → Option Expect
  before_of root = root_named olds root.key.objectid

  abbrev pub IsNamed : RootAt → Type 0
  IsNamed root = IsTree image pending old trees pairs is known (before_of root) (named_root root)

  -- one that does not stay has a block that changes
  one_named : (root : RootAt) (parts : Parts) → IsNamed root → IsLow root
      → tree_parts pairs known was is (before_of root) (named_root root) ≡ Ok parts
      → stays_by is_same known (before_of root) (named_root root) ≡ false
      → tree_looks known was is (before_of root) (named_root root) ≤ all_cost was is parts
  one_named root parts t low given walked =
      let low_old = named_low olds root.key.objectid low_olds in
      let few = tree_law image pending old trees pairs is known (before_of root) (named_root root) parts t low low_old given in
      paid (tree_looks known was is (before_of root) (named_root root)) (entries_of is parts.new_blocks) (entries_of was parts.old_blocks)
      (length parts.new_blocks) (length parts.old_blocks)
      (tree_sum image pending old trees pairs is known (before_of root) (named_root root) parts t low low_old given)
      (few.reads_one refl
      (λ alike stays. stays_false is_same pairs known (before_of root) (named_root root) (same_is ∙ alike) walked stays))

  pub named_sum : (news : List RootAt) (parts : Parts) → AllByRecursion IsNamed news → AllByRecursion IsLow news
      → named_parts pairs known was is olds news ≡ Ok parts
      → named_looks is_same known was is olds news ≤ all_cost was is parts
  unfolding named_parts named_looks
  named_sum [] parts all low given = omega arith
  named_sum (root ∷ news) parts all low given =
      let first =
      step_ok (tree_parts pairs known was is (before_of root) (named_root root))
      (λ some. and_then (named_parts pairs known was is olds news) (λ more. fine (with_parts some more))) parts given in
      let rest =
      step_ok (named_parts pairs known was is olds news) (λ more. fine (with_parts first.0 more)) parts first.2 in
      let later = named_sum news rest.0 all.1 low.1 rest.1 in
      let same = same_parts (with_parts first.0 rest.0) parts (fine (with_parts first.0 rest.0)) refl rest.2 in
      subst (λ ps. named_looks is_same known was is olds (root ∷ news) ≤ all_cost was is ps) same
      (by first.0 rest.0 (stays_by is_same known (before_of root) (named_root root)) refl
      (λ walked. one_named root first.0 all.0 low.0 first.1 walked) later)
    where
      free : (some more : Parts) (b : ℕ) → b ≤ all_cost was is more → b ≤ all_cost was is (with_parts some more)
      free some more b is_few =
          let none : 0 ≤ all_cost was is some = omega arith in
          plain (all_cost was is (with_parts some more)) b (joined_cost was is some more 0 b none is_few)
        where
          plain : (c b : ℕ) → 0 + b ≤ c → b ≤ c
          plain c b x = omega (arith, x)

      by : (some more : Parts) (b : Bool) → stays_by is_same known (before_of root) (named_root root) ≡ b
          → (stays_by is_same known (before_of root) (named_root root) ≡ false
          → tree_looks known was is (before_of root) (named_root root) ≤ all_cost was is some)
          → named_looks is_same known was is olds news ≤ all_cost was is more
          → (if b then named_looks is_same known was is olds news else
          tree_looks known was is (before_of root) (named_root root) + named_looks is_same known was is olds news)
          ≤ all_cost was is (with_parts some more)
      by some more true here first rest = free some more (named_looks is_same known was is olds news) rest
      by some more false here first rest =
          joined_cost was is some more (tree_looks known was is (before_of root) (named_root root))
          (named_looks is_same known was is olds news) (first here) rest

  -- ---- the trees that are gone

  pub gone_all_sum : HasTrees image old trees → ((tree address : ℕ) → pairs tree address ≡ table_of (live_in old.seen) tree address)
      → (news : List RootAt) (some : List RootAt) (parts : Parts)
      → AllByRecursion (λ (root : RootAt). IsAmong (old_tree image old (named_root root)) trees) some → AllByRecursion IsLow some
      → gone_all pairs known was news some ≡ Ok parts
      → gone_all_looks known was news some ≤ all_cost was is parts
  unfolding gone_all gone_all_looks
  gone_all_sum has pairs_are news [] parts all low given = omega arith
  gone_all_sum has pairs_are news (root ∷ some) parts all low given =
      by (list_any (names root.key.objectid) news) given (λ more is_more. gone_all_sum has pairs_are news some more all.1 low.1 is_more)
    where
      wide : (a p b e n : ℕ) → a ≤ 3 * p + 29 * b → a ≤ 4 * e + 3 * p + 35 * n + 29 * b
      wide a p b e n x = omega (arith, x)

      by : (b : Bool) → (if b then gone_all pairs known was news some else
          and_then (gone_parts pairs known was (named_root root)) (λ parts.
          and_then (gone_all pairs known was news some) (λ more.
          fine (with_parts parts more)))) ≡ Ok parts
          → ((more : Parts) → gone_all pairs known was news some ≡ Ok more
          → gone_all_looks known was news some ≤ all_cost was is more)
          → (if b then gone_all_looks known was news some else
          gone_looks known was (named_root root) + gone_all_looks known was news some) ≤ all_cost was is parts
      by true made later = later parts made
      by false made later =
          let first =
          step_ok (gone_parts pairs known was (named_root root))
          (λ parts. and_then (gone_all pairs known was news some) (λ more. fine (with_parts parts more))) parts made in
          let rest = step_ok (gone_all pairs known was news some) (λ more. fine (with_parts first.0 more)) parts first.2 in
          let same = same_parts (with_parts first.0 rest.0) parts (fine (with_parts first.0 rest.0)) refl rest.2 in
          let here = gone_sum image old trees pairs known (named_root root) first.0 has pairs_are all.0 low.0 first.1 in
          subst (λ ps. gone_looks known was (named_root root) + gone_all_looks known was news some ≤ all_cost was is ps) same
          (joined_cost was is first.0 rest.0 (gone_looks known was (named_root root)) (gone_all_looks known was news some)
          (wide (gone_looks known was (named_root root)) (entries_of was first.0.old_blocks) (length first.0.old_blocks)
          (entries_of is first.0.new_blocks) (length first.0.new_blocks) here) (later rest.0 rest.1))

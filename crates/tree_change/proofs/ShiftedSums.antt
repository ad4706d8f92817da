-- How many shared pairs are shifted in trees, by the pairs that change in them.
use Rattle.std.proofs.Common.{◌≡◌, ℕ, suc, ◌+◌, ◌*◌, ◌≤◌, ◌<◌, ◌==◌, ◌&&◌, not, Bool, true, false, List, [], ◌∷◌, ◌++◌, length, refl, ap, sym, subst, ◌∙◌, arith, if◌then◌else◌}
use Rattle.std.proofs.lemmas.Bool.{and_parts, eqb-true}
use Rattle.std.proofs.lemmas.List.{length-append}
use Rattle.std.specs.Prelude.{IfSome, Option, Some, None, Ok}
use Rattle.std.specs.List.{AllByRecursion, cons_option, filter_map, list_any}
use Rattle.std.specs.Ordering.{nat_cmp}
use Rattle.std.specs.FinMap.{FinMap}
use Rattle.verdict.proofs.Truth.{false_of_not}
use Rattle.verdict.proofs.Lists.{filter_map_less}
use Rattle.walk_laws.proofs.Trees.{step_ok}
use Rattle.verdict.specs.Rules.{and_then}
use Rattle.volume_items.specs.declared.root_at.RootAt.{RootAt}
use Rattle.live_index.specs.Pairs.{Pairs}
use Rattle.live_index.specs.declared.live.Live.{Live}
use Rattle.node_reader.specs.declared.expect.Expect.{Expect}
use Rattle.records.specs.Contents.{named_root, names}
use Rattle.tree_laws.specs.LivePairs.{Walked}
use Rattle.tree_laws.specs.Shared.{are_read_alike}
use Rattle.tree_laws.specs.TableLaw.{Tree}
use Rattle.tree_change.specs.AllTrees.{gone_all, named_parts, no_parts, root_named, with_parts}
use Rattle.tree_change.specs.Looks.{is_expected, met_by, new_visits, stays_by}
use Rattle.tree_change.specs.LooksLaw.{entries_of}
use Rattle.tree_change.specs.OneTree.{IsTree, side_of}
use Rattle.tree_change.specs.Stays.{RootsStand, Stays}
use Rattle.tree_change.specs.Walks.{Known, NewWalk, Parts, Side, gone_parts, last_at, shifted_of, shifted_pair, new_walk, no_walk, old_or_none, old_walk, parts_of, tree_parts}
use Rattle.tree_change.proofs.Levels.{IsLow}
use Rattle.tree_change.proofs.Looking.{expect_of_same}
use Rattle.tree_change.proofs.Staying.{named_stands, stays_none}
use Rattle.tree_change.proofs.TreeLooks.{new_given, tree_looks as tree_law}
use Rattle.tree_change.proofs.TreeSums.{IsNamed, entries_append, fine, named_low, same_parts, stays_false}

-- so many are at most shifted, where each tree has a block that changes
abbrev pub shifted_cost : Side → Parts → ℕ
shifted_cost is parts = entries_of is parts.new_blocks + 8 * length parts.new_blocks + length parts.old_blocks

-- ---- one tree

pub moved_tree : (image : List ℕ) (pending : FinMap nat_cmp ℕ) (old : Walked) (trees : List Tree) (pairs : Pairs) (is : Side) (known : Known)
    (before : Option Expect) (now : Expect) (parts : Parts)
    → IsTree image pending old trees pairs is known before now → now.level < 8 → IfSome before (λ e. e.level < 8)
    → tree_parts pairs known (side_of image old) is before now ≡ Ok parts
    → length parts.shifted ≤ 1 + (entries_of is parts.new_blocks + 7 * length parts.new_blocks)
unfolding tree_parts
moved_tree image pending old trees pairs is known before now parts t low low_old given =
    let was = side_of image old in
    let few = tree_law image pending old trees pairs is known before now parts t low low_old given in
    let a = step_ok (new_walk known is now) (λ new. and_then (old_or_none known new.met was before) (λ old. fine (parts_of pairs new old))) parts given in
    let n = new_given known is now a.0 a.1 in
    let b = step_ok (old_or_none known a.0.met was before) (λ old. fine (parts_of pairs a.0 old)) parts a.2 in
    let same = same_parts (parts_of pairs a.0 b.0) parts (fine (parts_of pairs a.0 b.0)) refl b.2 in
    let most = filter_map_less (moved_one pairs a.0) a.0.met in
    sums (length parts.shifted) (length (shifted_of pairs a.0.ended a.0.met)) (length a.0.met) (length (met_by known is now)) (new_visits known is now)
    (entries_of is parts.new_blocks) (length parts.new_blocks)
    (sym (ap (λ (p : Parts). length p.shifted) same)) most (sym (ap (λ (w : NewWalk). length w.met) n.2)) few.met_few few.new_few
  where
    moved_one : Pairs → NewWalk → Expect → Option Live
    moved_one pairs new e = shifted_pair (pairs e.tree e.address) e.parent (last_at new.ended e.address)

    sums : (m f l k v e n : ℕ) → m ≡ f → f ≤ l → l ≡ k → k ≤ v → v ≤ 1 + e + 7 * n → m ≤ 1 + (e + 7 * n)
    sums m f l k v e n x y z w u = omega (arith, x, y, z, w, u)

-- ---- several trees

shifted_joins : (is : Side) (some more : Parts) → length some.shifted ≤ shifted_cost is some → length more.shifted ≤ shifted_cost is more
    → length (some.shifted ++ more.shifted) ≤ shifted_cost is (with_parts some more)
shifted_joins is some more x y =
    joins (length some.shifted) (length more.shifted) (length (some.shifted ++ more.shifted)) (entries_of is some.new_blocks) (entries_of is more.new_blocks)
    (entries_of is (some.new_blocks ++ more.new_blocks)) (length some.new_blocks) (length more.new_blocks) (length (some.new_blocks ++ more.new_blocks))
    (length some.old_blocks) (length more.old_blocks) (length (some.old_blocks ++ more.old_blocks))
    (length-append some.shifted more.shifted) (entries_append is some.new_blocks more.new_blocks) (length-append some.new_blocks more.new_blocks)
    (length-append some.old_blocks more.old_blocks) x y
  where
    joins : (a b c e1 e2 e n1 n2 n o1 o2 o : ℕ) → c ≡ a + b → e ≡ e1 + e2 → n ≡ n1 + n2 → o ≡ o1 + o2 → a ≤ e1 + 8 * n1 + o1 → b ≤ e2 + 8 * n2 + o2
        → c ≤ e + 8 * n + o
    joins a b c e1 e2 e n1 n2 n o1 o2 o i1 i2 i3 i4 i5 i6 = omega (arith, i1, i2, i3, i4, i5, i6)

pub shifted_all_joins : (is : Side) (a b c d : Parts) → length a.shifted ≤ 1 + (entries_of is a.new_blocks + 7 * length a.new_blocks)
    → length b.shifted ≤ 1 + (entries_of is b.new_blocks + 7 * length b.new_blocks) → length c.shifted ≤ shifted_cost is c → length d.shifted ≤ shifted_cost is d
    → length (a.shifted ++ (b.shifted ++ (c.shifted ++ d.shifted))) ≤ 2 + shifted_cost is (with_parts a (with_parts b (with_parts c d)))
shifted_all_joins is a b c d x y z w =
    let cd = shifted_joins is c d z w in
    let rest = with_parts c d in
    let both = with_parts b rest in
    joins (length a.shifted) (length b.shifted) (length rest.shifted) (length both.shifted) (length (a.shifted ++ both.shifted))
    (entries_of is a.new_blocks) (entries_of is b.new_blocks) (entries_of is rest.new_blocks) (entries_of is both.new_blocks)
    (entries_of is (a.new_blocks ++ both.new_blocks)) (length a.new_blocks) (length b.new_blocks) (length rest.new_blocks) (length both.new_blocks)
    (length (a.new_blocks ++ both.new_blocks)) (length a.old_blocks) (length b.old_blocks) (length rest.old_blocks) (length both.old_blocks)
    (length (a.old_blocks ++ both.old_blocks)) x y cd (length-append a.shifted both.shifted) (length-append b.shifted rest.shifted)
    (entries_append is a.new_blocks both.new_blocks) (entries_append is b.new_blocks rest.new_blocks)
    (length-append a.new_blocks both.new_blocks) (length-append b.new_blocks rest.new_blocks)
    (length-append a.old_blocks both.old_blocks) (length-append b.old_blocks rest.old_blocks)
  where
    joins : (m1 m2 m3 m23 m e1 e2 e3 e23 e n1 n2 n3 n23 n o1 o2 o3 o23 o : ℕ) → m1 ≤ 1 + (e1 + 7 * n1) → m2 ≤ 1 + (e2 + 7 * n2)
        → m3 ≤ e3 + 8 * n3 + o3 → m ≡ m1 + m23 → m23 ≡ m2 + m3 → e ≡ e1 + e23 → e23 ≡ e2 + e3 → n ≡ n1 + n23 → n23 ≡ n2 + n3 → o ≡ o1 + o23
        → o23 ≡ o2 + o3 → m ≤ 2 + (e + 8 * n + o)
    joins m1 m2 m3 m23 m e1 e2 e3 e23 e n1 n2 n3 n23 n o1 o2 o3 o23 o i1 i2 i3 i4 i5 i6 i7 i8 i9 i10 i11 =
        omega (arith, i1, i2, i3, i4, i5, i6, i7, i8, i9, i10, i11)

-- ---- a tree stays that passes the test

empty_of : {A : Type 0} (list : List A) → (length list == 0) ≡ true → list ≡ []
empty_of [] is = refl
empty_of (x ∷ list) is = let none = eqb-true (length (x ∷ list)) 0 is in absurd (cc)

stays_true : (is_same : Bool) (pairs : Pairs) (known : Known) (before : Option Expect) (now : Expect) → (is_same ≡ true → known.pairs ≡ pairs)
    → stays_by is_same known before now ≡ true → Stays pairs known before now
unfolding stays_by
stays_true is_same pairs known before now by_old is =
    let a = and_parts is_same (is_expected before now
    && (not (known.marked now.tree now.address) && (not (known.moved now.address) && length (known.under now.tree now.address) == 0))) is in
    let b = and_parts (is_expected before now)
    (not (known.marked now.tree now.address) && (not (known.moved now.address) && length (known.under now.tree now.address) == 0)) a.1 in
    let d = and_parts (not (known.marked now.tree now.address))
    (not (known.moved now.address) && length (known.under now.tree now.address) == 0) b.1 in
    let e = and_parts (not (known.moved now.address)) (length (known.under now.tree now.address) == 0) d.1 in
    record {
      by_old = by_old a.0;
      same = expected before b.0;
      unmarked = false_of_not (known.marked now.tree now.address) d.0;
      unmoved = false_of_not (known.moved now.address) e.0;
      unlisted = empty_of (known.under now.tree now.address) e.1;
    }
  where
    expected : (b : Option Expect) → is_expected b now ≡ true → b ≡ Some now
    expected None is = absurd (cc)
    expected (Some e) is = ap (λ (x : Expect). Some x) (expect_of_same e now is)

module _ (image : List ℕ) (pending : FinMap nat_cmp ℕ) (old : Walked) (olds : List RootAt) (trees : List Tree) (pairs : Pairs) (is : Side)
    (known : Known) (is_same : Bool) (same_is : is_same ≡ are_read_alike old.sup is.sup) (low_olds : AllByRecursion IsLow olds)
    (by_old : is_same ≡ true → known.pairs ≡ pairs) (stand : RootsStand pairs olds) where
  abbrev was : Side
  was = side_of image old

  abbrev before_of : RootAt → Option Expect
  before_of root = root_named olds root.key.objectid

  moved_one : (root : RootAt) (parts : Parts) → IsNamed image pending old olds trees pairs is known is_same same_is low_olds root → IsLow root
      → tree_parts pairs known was is (before_of root) (named_root root) ≡ Ok parts
      → length parts.shifted ≤ shifted_cost is parts
  moved_one root parts t low given = by (stays_by is_same known (before_of root) (named_root root)) refl
    where
      low_old : IfSome (before_of root) (λ e. e.level < 8)
      low_old = named_low olds root.key.objectid low_olds

      paid : (m e n o : ℕ) → m ≤ 1 + (e + 7 * n) → 1 ≤ o + n → m ≤ e + 8 * n + o
      paid m e n o x y = omega (arith, x, y)

      by : (b : Bool) → stays_by is_same known (before_of root) (named_root root) ≡ b → length parts.shifted ≤ shifted_cost is parts
      by true is_true =
          let stays = stays_true is_same pairs known (before_of root) (named_root root) by_old is_true in
          let has = named_stands pairs olds root.key.objectid (named_root root) stand stays.same in
          let none = stays_none pairs known was is (before_of root) (named_root root) stays has refl refl in
          subst (λ (p : Parts). length p.shifted ≤ shifted_cost is p)
          (same_parts no_parts parts (tree_parts pairs known was is (before_of root) (named_root root)) none given) (omega arith)
      by false is_false =
          let few = tree_law image pending old trees pairs is known (before_of root) (named_root root) parts t low low_old given in
          paid (length parts.shifted) (entries_of is parts.new_blocks) (length parts.new_blocks) (length parts.old_blocks)
          (moved_tree image pending old trees pairs is known (before_of root) (named_root root) parts t low low_old given)
          (few.reads_one refl (λ alike stays. stays_false is_same pairs known (before_of root) (named_root root) (same_is ∙ alike) is_false stays))

  pub shifted_named : (news : List RootAt) (parts : Parts)
      → AllByRecursion (IsNamed image pending old olds trees pairs is known is_same same_is low_olds) news → AllByRecursion IsLow news
      → named_parts pairs known was is olds news ≡ Ok parts → length parts.shifted ≤ shifted_cost is parts
  unfolding named_parts
  shifted_named [] parts all low given =
      subst (λ (p : Parts). length p.shifted ≤ shifted_cost is p) (same_parts no_parts parts (fine no_parts) refl given) (omega arith)
  shifted_named (root ∷ news) parts all low given =
      let first =
      step_ok (tree_parts pairs known was is (before_of root) (named_root root))
      (λ some. and_then (named_parts pairs known was is olds news) (λ more. fine (with_parts some more))) parts given in
      let rest =
      step_ok (named_parts pairs known was is olds news) (λ more. fine (with_parts first.0 more)) parts first.2 in
      let same = same_parts (with_parts first.0 rest.0) parts (fine (with_parts first.0 rest.0)) refl rest.2 in
      subst (λ (p : Parts). length p.shifted ≤ shifted_cost is p) same
      (shifted_joins is first.0 rest.0 (moved_one root first.0 all.0 low.0 first.1) (shifted_named news rest.0 all.1 low.1 rest.1))

  -- none is in a tree that is gone
  none_gone : (before : Expect) (parts : Parts) → gone_parts pairs known was before ≡ Ok parts → length parts.shifted ≤ shifted_cost is parts
  unfolding gone_parts
  none_gone before parts given =
      let a = step_ok (old_walk known [] was before) (λ old. fine (parts_of pairs no_walk old)) parts given in
      subst (λ (p : Parts). length p.shifted ≤ shifted_cost is p)
      (same_parts (parts_of pairs no_walk a.0) parts (fine (parts_of pairs no_walk a.0)) refl a.2) (omega arith)

  pub shifted_gone : (news : List RootAt) (some : List RootAt) (parts : Parts) → gone_all pairs known was news some ≡ Ok parts
      → length parts.shifted ≤ shifted_cost is parts
  unfolding gone_all
  shifted_gone news [] parts given =
      subst (λ (p : Parts). length p.shifted ≤ shifted_cost is p) (same_parts no_parts parts (fine no_parts) refl given) (omega arith)
  shifted_gone news (root ∷ some) parts given =
      by (list_any (names root.key.objectid) news) given (λ more is_more. shifted_gone news some more is_more)
    where
      by : (b : Bool) → (if b then gone_all pairs known was news some else
          and_then (gone_parts pairs known was (named_root root)) (λ parts.
          and_then (gone_all pairs known was news some) (λ more.
          fine (with_parts parts more)))) ≡ Ok parts
          → ((more : Parts) → gone_all pairs known was news some ≡ Ok more → length more.shifted ≤ shifted_cost is more)
          → length parts.shifted ≤ shifted_cost is parts
      by true made later = later parts made
      by false made later =
          let first =
          step_ok (gone_parts pairs known was (named_root root))
          (λ parts. and_then (gone_all pairs known was news some) (λ more. fine (with_parts parts more))) parts made in
          let rest = step_ok (gone_all pairs known was news some) (λ more. fine (with_parts first.0 more)) parts first.2 in
          let same = same_parts (with_parts first.0 rest.0) parts (fine (with_parts first.0 rest.0)) refl rest.2 in
          subst (λ (p : Parts). length p.shifted ≤ shifted_cost is p) same
          (shifted_joins is first.0 rest.0 (none_gone (named_root root) first.0 first.1) (later rest.0 rest.1))

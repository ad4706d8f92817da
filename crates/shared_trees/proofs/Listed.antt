-- Children that are put into lists one by one.
use Rattle.std.proofs.Common.{◌≡◌, ℕ, suc, ◌+◌, ◌<◌, ◌≤◌, ◌==◌, Bool, true, false, cond, ◌&&◌, ◌||◌, List, [], ◌∷◌, length, take, drop, get_or, refl, ap, sym, subst, ◌∙◌, arith}
use Rattle.std.specs.Prelude.{Some, None, Result, Ok, Err, OnOk, if◌then◌else◌}
use Rattle.std.specs.List.{AllByRecursion, insert, list_any}
use Rattle.std.proofs.lemmas.Bool.Decides.{nat_tests}
use Rattle.std.proofs.lemmas.List.{drop_more, take_more}
use Rattle.std.proofs.lemmas.List.Folds.{list_any-append}
use Rattle.std.proofs.Math.Seq.{take-length}
use Rattle.live_index.specs.Pairs.{Pairs}
use Rattle.live_index.specs.declared.live.Live.{Live}
use Rattle.touched_blocks.specs.Marking.{parent_of}
use Rattle.touched_blocks.specs.declared.marks.PairPlace.{PairPlace}
use Rattle.touched_blocks.specs.Marks.{by_pair, is_pair, marked_in, pair_place, with_mark}
use Rattle.touched_blocks.proofs.MarkLaws.{tied}
use Rattle.std.specs.BTreeMap as map
use Rattle.touched_blocks.proofs.Among.{some_same}
use Rattle.verdict.proofs.Answers.{ok_follows}
use Rattle.verdict.proofs.Lists.{all_map}
use Rattle.verdict.proofs.Numbers.{itself}
use Rattle.shared_trees.specs.declared.starts.Listed.{Listed}
use Rattle.tree_laws.specs.declared.told.Start.{Start}
use Rattle.tree_laws.specs.Keeping.{Marks, Under}
use Rattle.tree_laws.specs.Listed.{AreChildren, AreListedBy, Ascend, IsChild, is_at, is_before}
use Rattle.tree_laws.proofs.Ordering.{before_trans, same_place}
use Rattle.shared_trees.specs.Under.{no_starts, starts_or}
use Rattle.tree_laws.specs.Listing.{IsChildAt, rank_of, with_child, with_start}

-- the rank, child by child
pub rank_here : (start : Start) (starts : List Start) (i : ℕ) (d : Start) → i < length starts → is_before (get_or starts i d) start ≡ false → rank_of start (drop i starts) ≡ 0
rank_here start starts i d inside after = rw (drop_more starts i d inside, after) refl

pub rank_later : (start : Start) (starts : List Start) (i : ℕ) (d : Start) → i < length starts → is_before (get_or starts i d) start ≡ true
    → rank_of start (drop i starts) ≡ suc (rank_of start (drop (i + 1) starts))
rank_later start starts i d inside before = rw (drop_more starts i d inside, before) refl

pub ruleset rank_steps = (rank_here, rank_later)

pub rank_inside : (start : Start) (starts : List Start) → rank_of start starts ≤ length starts
rank_inside start [] = omega arith
rank_inside start (one ∷ starts) = by (is_before one start) (rank_inside start starts)
  where
    by : (b : Bool) → rank_of start starts ≤ length starts → (if b then suc (rank_of start starts) else 0) ≤ suc (length starts)
    by true less = omega (arith, less)
    by false less = omega arith

-- one more stands at its rank, where the child there comes behind it
pub put_there : (start : Start) (starts : List Start) (d : Start) → (rank_of start starts < length starts → is_before start (get_or starts (rank_of start starts) d) ≡ true)
    → with_start start starts ≡ insert starts (rank_of start starts) start
put_there start [] d behind = refl
put_there start (one ∷ starts) d behind = by (is_before one start) (put_there start starts d) behind
  where
    by : (b : Bool) → ((rank_of start starts < length starts → is_before start (get_or starts (rank_of start starts) d) ≡ true) → with_start start starts ≡ insert starts (rank_of start starts) start)
        → ((if b then suc (rank_of start starts) else 0) < suc (length starts) → is_before start (get_or (one ∷ starts) (if b then suc (rank_of start starts) else 0) d) ≡ true)
        → (if b then one ∷ with_start start starts else (if is_before start one then start ∷ one ∷ starts else one ∷ starts)) ≡ insert (one ∷ starts) (if b then suc (rank_of start starts) else 0) start
    by true rest behind = ap (λ more. one ∷ more) (rest (λ less. behind (omega (arith, less))))
    by false rest behind = rw (behind (omega arith)) refl

-- nothing changes, where it does not
pub put_none : (start : Start) (starts : List Start) (d : Start) → rank_of start starts < length starts → is_before start (get_or starts (rank_of start starts) d) ≡ false
    → with_start start starts ≡ starts
put_none start [] d inside there = absurd (omega (arith, inside))
put_none start (one ∷ starts) d inside there = by (is_before one start) (put_none start starts d) inside there
  where
    by : (b : Bool) → (rank_of start starts < length starts → is_before start (get_or starts (rank_of start starts) d) ≡ false → with_start start starts ≡ starts)
        → (if b then suc (rank_of start starts) else 0) < suc (length starts) → is_before start (get_or (one ∷ starts) (if b then suc (rank_of start starts) else 0) d) ≡ false
        → (if b then one ∷ with_start start starts else (if is_before start one then start ∷ one ∷ starts else one ∷ starts)) ≡ one ∷ starts
    by true rest inside there = ap (λ more. one ∷ more) (rest (omega (arith, inside)) there)
    by false rest inside there = rw there refl

pub ruleset put_steps = (rank_inside, put_there, put_none)

-- what is kept by one more
put_each : (P : Start → Type 0) (start : Start) (starts : List Start) → P start → AllByRecursion P starts → AllByRecursion P (with_start start starts)
put_each P start [] here all = (here, tt)
put_each P start (one ∷ starts) here all = by (is_before one start) (is_before start one) (put_each P start starts here all.1)
  where
    by : (b c : Bool) → AllByRecursion P (with_start start starts) → AllByRecursion P (if b then one ∷ with_start start starts else (if c then start ∷ one ∷ starts else one ∷ starts))
    by true c rest = (all.0, rest)
    by false true rest = (here, all)
    by false false rest = all

put_keeps : (test : Start → Bool) (start : Start) (starts : List Start) → list_any test starts ≡ true → list_any test (with_start start starts) ≡ true
put_keeps test start [] any = absurd (cc)
put_keeps test start (one ∷ starts) any = by (is_before one start) (is_before start one) (split (test one) any (λ more. put_keeps test start starts more))
  where
    or_true : (b : Bool) → (b || true) ≡ true
    or_true true = refl
    or_true false = refl

    split : (b : Bool) → (b || list_any test starts) ≡ true → (list_any test starts ≡ true → list_any test (with_start start starts) ≡ true) → (b || list_any test (with_start start starts)) ≡ true
    split true any rest = refl
    split false any rest = rest any

    by : (b c : Bool) → list_any test (one ∷ with_start start starts) ≡ true → list_any test (if b then one ∷ with_start start starts else (if c then start ∷ one ∷ starts else one ∷ starts)) ≡ true
    by true c rest = rest
    by false true rest = rw any (or_true (test start))
    by false false rest = any

put_finds : (address : ℕ) (start : Start) (starts : List Start) → start.pointer.address ≡ address → list_any (is_at address) (with_start start starts) ≡ true
put_finds address start [] is = rw (is, itself address) refl
put_finds address start (one ∷ starts) is = by (is_before one start) (is_before start one) refl refl (put_finds address start starts is)
  where
    or_true : (b : Bool) → (b || true) ≡ true
    or_true true = refl
    or_true false = refl

    by : (b c : Bool) → is_before one start ≡ b → is_before start one ≡ c → list_any (is_at address) (with_start start starts) ≡ true
        → list_any (is_at address) (if b then one ∷ with_start start starts else (if c then start ∷ one ∷ starts else one ∷ starts)) ≡ true
    by true c first later rest = rw rest (or_true (is_at address one))
    by false true first later rest = rw (is, itself address) refl
    by false false first later rest = rw (same_place one start first later, is, itself address) refl

put_order : (start : Start) (starts : List Start) → Ascend starts → Ascend (with_start start starts)
put_order start [] order = (tt, tt)
put_order start (one ∷ starts) order = by (is_before one start) (is_before start one) refl refl (put_order start starts order.1)
  where
    by : (b c : Bool) → is_before one start ≡ b → is_before start one ≡ c → Ascend (with_start start starts)
        → Ascend (if b then one ∷ with_start start starts else (if c then start ∷ one ∷ starts else one ∷ starts))
    by true c first later rest = (put_each (λ other. is_before one other ≡ true) start starts first order.0, rest)
    by false true first later rest =
        ((later, all_map (λ other. is_before one other ≡ true) (λ other. is_before start other ≡ true) starts (λ other behind. before_trans start one other later behind) order.0), order)
    by false false first later rest = order

-- marks and one more
more_marked : (marked : Marks) (t a tree address : ℕ) → marked tree address ≡ true → with_mark marked t a tree address ≡ true
more_marked marked t a tree address is = by (is_pair t a tree address)
  where
    by : (b : Bool) → (if b then true else marked tree address) ≡ true
    by true = refl
    by false = is

own_marked : (marked : Marks) (t a : ℕ) → with_mark marked t a t a ≡ true
own_marked marked t a = rw (itself t, itself a) refl

pair_is : (t a tree address : ℕ) → is_pair t a tree address ≡ true → (t ≡ tree) × (a ≡ address)
pair_is t a tree address is = (grind (arith, nat_tests), grind (arith, nat_tests))

is_more : (pairs : Pairs) (marked : Marks) (t a tree address : ℕ) (start : Start) → IsChild pairs marked tree address start → IsChild pairs (with_mark marked t a) tree address start
is_more pairs marked t a tree address start child = record {
  live = child.live;
  up = child.up;
  next = child.next;
  mark = more_marked marked t a tree start.pointer.address child.mark;
  known = child.known;
  above = child.above;
  parent = child.parent;
  key = child.key;
  generation = child.generation;
  least = child.least;
  next_is = child.next_is;
}

module _ (pairs : Pairs) (marked : Marks) (under : Under) (t a : ℕ) where
  -- the children of a block are those that they were, where the pair that is marked is none of them
  children_same : (tree address : ℕ) → ((live up : Live) → t ≡ tree → pairs t a ≡ Some live → parent_of pairs t live ≡ Some up → live.parent ≡ address → ⊥)
      → AreChildren pairs marked tree address (under tree address) → AreChildren pairs (with_mark marked t a) tree address (under tree address)
  children_same tree address never is = record {
    each = all_map (IsChild pairs marked tree address) (IsChild pairs (with_mark marked t a) tree address) (under tree address) (λ s child. is_more pairs marked t a tree address s child) is.each;
    all = λ child live up mark known above parent. by child live up known above parent (is_pair t a tree child) refl mark;
    order = is.order;
  }
    where
      by : (child : ℕ) (live up : Live) → pairs tree child ≡ Some live → parent_of pairs tree live ≡ Some up → live.parent ≡ address
          → (b : Bool) → is_pair t a tree child ≡ b → (if b then true else marked tree child) ≡ true → list_any (is_at child) (under tree address) ≡ true
      by child live up known above parent true same mark =
          let both = pair_is t a tree child same in
          absurd (never live up both.0
          (subst (λ n. pairs n a ≡ Some live) (sym both.0) (subst (λ n. pairs tree n ≡ Some live) (sym both.1) known))
          (subst (λ n. parent_of pairs n live ≡ Some up) (sym both.0) above) parent)
      by child live up known above parent false same mark = is.all child live up mark known above parent

  -- they have one more, where it is
  children_more : (parent : ℕ) (start : Start) → start.pointer.address ≡ a → IsChild pairs (with_mark marked t a) t parent start
      → AreChildren pairs marked t parent (under t parent) → AreChildren pairs (with_mark marked t a) t parent (with_start start (under t parent))
  children_more parent start at here is = record {
    each = put_each (IsChild pairs (with_mark marked t a) t parent) start (under t parent) here
        (all_map (IsChild pairs marked t parent) (IsChild pairs (with_mark marked t a) t parent) (under t parent) (λ s child. is_more pairs marked t a t parent s child) is.each);
    all = λ child live up mark known above below. by child live up known above below (is_pair t a t child) refl mark;
    order = put_order start (under t parent) is.order;
  }
    where
      by : (child : ℕ) (live up : Live) → pairs t child ≡ Some live → parent_of pairs t live ≡ Some up → live.parent ≡ parent
          → (b : Bool) → is_pair t a t child ≡ b → (if b then true else marked t child) ≡ true → list_any (is_at child) (with_start start (under t parent)) ≡ true
      by child live up known above below true same mark = put_finds child start (under t parent) (at ∙ (pair_is t a t child same).1)
      by child live up known above below false same mark = put_keeps (is_at child) start (under t parent) (is.all child live up mark known above below)

  -- a pair that is no child changes nothing
  pub add_none : IsChildAt pairs t a None → AreListedBy pairs marked under → AreListedBy pairs (with_mark marked t a) under
  add_none none is tree address = children_same tree address (λ live up same known above parent. none live up known above) (is tree address)

  -- and a child is put below its block
  pub add_some : (more : Under) (parent : ℕ) (start : Start) → IsChildAt pairs t a (Some (parent, start))
      → ((tree address : ℕ) → more tree address ≡ with_child under t parent start tree address) → AreListedBy pairs marked under → AreListedBy pairs (with_mark marked t a) more
  add_some more parent start some puts is tree address =
      subst (AreChildren pairs (with_mark marked t a) tree address) (sym (puts tree address)) (by (is_pair t parent tree address) refl)
    where
      here : IsChild pairs (with_mark marked t a) t parent start
      here = some.1 (with_mark marked t a) (own_marked marked t a)

      apart : (b : Bool) → b ≡ true → b ≡ false → ⊥
      apart b is other = cc

      by : (b : Bool) → is_pair t parent tree address ≡ b → AreChildren pairs (with_mark marked t a) tree address (if b then with_start start (under tree address) else under tree address)
      by true same =
          let both = pair_is t parent tree address same in
          subst (λ n. AreChildren pairs (with_mark marked t a) n address (with_start start (under n address))) both.0
          (subst (λ n. AreChildren pairs (with_mark marked t a) t n (with_start start (under t n))) both.1 (children_more parent start some.0 here (is t parent)))
      by false same =
          children_same tree address
          (λ live up in_tree known above below. other live in_tree known below)
          (is tree address)
        where
          other : (live : Live) → t ≡ tree → pairs t a ≡ Some live → live.parent ≡ address → ⊥
          other live in_tree known below =
              let lives : here.live ≡ live = some_same here.live live (sym here.known ∙ (ap (pairs t) some.0 ∙ known)) in
              let at : parent ≡ address = sym here.parent ∙ (ap (λ (l : Live). l.parent) lives ∙ below) in
              apart (is_pair t parent tree address) (rw (in_tree, at, itself tree, itself address) refl) same

pub ruleset add_steps = (add_none, add_some)

-- lists of the same marks are the same
listed_as : (pairs : Pairs) (marked other : Marks) (under : Under) → ((tree address : ℕ) → marked tree address ≡ other tree address) → AreListedBy pairs marked under → AreListedBy pairs other under
listed_as pairs marked other under same is tree address = record {
  each = all_map (IsChild pairs marked tree address) (IsChild pairs other tree address) (under tree address) child is_tree.each;
  all = λ at live up mark known above parent. is_tree.all at live up (same tree at ∙ mark) known above parent;
  order = is_tree.order;
}
  where
    is_tree : AreChildren pairs marked tree address (under tree address)
    is_tree = is tree address

    child : (start : Start) → IsChild pairs marked tree address start → IsChild pairs other tree address start
    child start c = record {
      live = c.live;
      up = c.up;
      next = c.next;
      mark = sym (same tree start.pointer.address) ∙ c.mark;
      known = c.known;
      above = c.above;
      parent = c.parent;
      key = c.key;
      generation = c.generation;
      least = c.least;
      next_is = c.next_is;
    }

-- before the first mark nothing is listed
pub list_start : (pairs : Pairs) (under : Under) → under ≡ no_starts → AreListedBy pairs (marked_in []) under
list_start pairs under is tree address = subst (λ (u : Under). AreChildren pairs (marked_in []) tree address (u tree address)) (sym is) (record { each = tt; all = λ child live up mark known above parent. absurd (cc); order = tt })

-- one place more
marked_more : (places : List PairPlace) (i : ℕ) (d : PairPlace) → i < length places → (tree address : ℕ)
    → with_mark (marked_in (take i places)) (get_or places i d).tree (get_or places i d).address tree address ≡ marked_in (take (i + 1) places) tree address
marked_more places i d inside tree address =
    by (is_pair (get_or places i d).tree (get_or places i d).address tree address) (marked_in (take i places) tree address)
    ∙ sym (ap (λ l. marked_in l tree address) (take_more places i d inside) ∙ list_any-append (λ (place : PairPlace). place.tree == tree && place.address == address) (take i places) (get_or places i d ∷ []))
  where
    by : (b m : Bool) → (if b then true else m) ≡ (m || (b || false))
    by true true = refl
    by true false = refl
    by false true = refl
    by false false = refl

pub list_more : (pairs : Pairs) (places : List PairPlace) (i : ℕ) (d : PairPlace) (under : Under) → i < length places
    → AreListedBy pairs (with_mark (marked_in (take i places)) (get_or places i d).tree (get_or places i d).address) under → AreListedBy pairs (marked_in (take (i + 1) places)) under
list_more pairs places i d under inside is =
    listed_as pairs (with_mark (marked_in (take i places)) (get_or places i d).tree (get_or places i d).address) (marked_in (take (i + 1) places)) under (marked_more places i d inside) is

-- behind the last all are listed
pub list_all : (pairs : Pairs) (places : List PairPlace) (marked : Marks) (under : Under) → ((tree address : ℕ) → marked tree address ≡ marked_in places tree address)
    → AreListedBy pairs (marked_in (take (length places) places)) under → AreListedBy pairs marked under
list_all pairs places marked under same is =
    listed_as pairs (marked_in places) marked under (λ tree address. sym (same tree address)) (subst (λ l. AreListedBy pairs (marked_in l) under) (take-length places) is)

pub ruleset list_steps = (list_start, list_more, list_all)

-- a child more in the map of lists
pub put_child : (old mid new : map.BTreeMap PairPlace Listed) (tree address : ℕ) (start : Start) (listed : Listed)
    → map.UpdatesBy by_pair (by_pair (pair_place tree address)) old mid None → map.UpdatesBy by_pair (by_pair (pair_place tree address)) mid new (Some listed)
    → listed.starts.items ≡ with_start start (starts_or (map.get by_pair old (pair_place tree address)))
    → (t a : ℕ) → starts_or (map.get by_pair new (pair_place t a)) ≡ with_child (λ x y. starts_or (map.get by_pair old (pair_place x y))) tree address start t a
put_child old mid new tree address start listed taken put is t a =
    ap starts_or (put.0 (pair_place t a) ∙ ap (λ b. cond b (Some listed) (map.get by_pair mid (pair_place t a))) (tied (pair_place tree address) (pair_place t a)))
    ∙ by (is_pair tree address t a) refl
  where
    by : (b : Bool) → is_pair tree address t a ≡ b
        → starts_or (cond b (Some listed) (map.get by_pair mid (pair_place t a))) ≡ (if b then with_start start (starts_or (map.get by_pair old (pair_place t a))) else starts_or (map.get by_pair old (pair_place t a)))
    by true same =
        let both = pair_is tree address t a same in
        is ∙ (ap (λ x. with_start start (starts_or (map.get by_pair old (pair_place x address)))) both.0 ∙ ap (λ y. with_start start (starts_or (map.get by_pair old (pair_place t y)))) both.1)
    by false same = ap starts_or (taken.2 (pair_place t a) (tied (pair_place tree address) (pair_place t a) ∙ same))

-- the same, as the code has it
pub put_at : (start : Start) (starts more : List Start) (rank : ℕ) (d : Start) → rank ≡ rank_of start starts → more ≡ insert starts rank start
    → (rank < length starts → is_before start (get_or starts rank d) ≡ true) → more ≡ with_start start starts
put_at start starts more rank d is put behind =
    put ∙ (ap (λ r. insert starts r start) is ∙ sym (put_there start starts d (subst (λ r. r < length starts → is_before start (get_or starts r d) ≡ true) is behind)))

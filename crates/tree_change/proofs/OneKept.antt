-- What a kept block of a tree as it is was in the tree as it was, and what is good of each block that a walk without a finding comes to.
use Rattle.std.proofs.Common.{◌≡◌, ℕ, zero, suc, ◌==◌, Bool, true, false, ◌&&◌, ◌||◌, List, [], ◌∷◌, inl, inr, refl, ap, sym, subst, ◌∙◌}
use Rattle.std.proofs.lemmas.Bool.{eqb-true}
use Rattle.std.specs.Prelude.{Option, Some, None, IfSome, Result, Ok}
use Rattle.std.specs.List.{AllByRecursion, list_any}
use Rattle.std.specs.Result.{IsOk}
use Rattle.tree_laws.proofs.KnownShared.{passes_here, one_with}
use Rattle.tree_laws.proofs.Meeting.{block_is}
use Rattle.verdict.proofs.Lists.{all_map as each_map}
use Rattle.verdict.proofs.Truth.{and_parts, neither}
use Rattle.verdict.specs.declared.key.Key.{Key}
use Rattle.super_reader.specs.declared.Super.{Super}
use Rattle.live_index.specs.Pairs.{Pairs}
use Rattle.live_index.specs.declared.live.Live.{Live}
use Rattle.node_reader.specs.Stored.{CopyFault, Stored, block_in}
use Rattle.node_reader.specs.declared.expect.Expect.{Expect}
use Rattle.records.specs.Seen.{Seen}
use Rattle.records.specs.Walk.{walk_of}
use Rattle.records.specs.WalkLaw.{visited, visited_from}
use Rattle.tree_laws.specs.Keeping.{AreListed, AreMarked, AreUntouched, IsKnown, Marks, OneOf, Stands, Under, comes_to, first_in, is_first, is_same, kept_of, last_in, live_at, owner_in, starts_at}
use Rattle.tree_laws.specs.LivePairs.{live_in, table_of}
use Rattle.tree_laws.proofs.Accepted.{accepts}
use Rattle.tree_laws.proofs.Forest.{of_root, tree_table}
use Rattle.tree_laws.proofs.Picking.{each_both}
use Rattle.tree_laws.proofs.Sharing.{found}
use Rattle.tree_laws.proofs.Tables.{Any, any_each}
use Rattle.tree_laws.proofs.Trails.{trail_below, trail_of}
use Rattle.tree_laws.proofs.Visiting.{Visits, comes_from, visits_from}
use Rattle.tree_laws.proofs.Within.{Below, within}
use Rattle.tree_change.specs.Walks.{shifted_to}

some_at : (entry : Option Live) (live : Live) (P : Live → Type 0) → entry ≡ Some live → IfSome entry P → P live
some_at None live P is has = absurd (cc)
some_at (Some one) live P is has = let same : one ≡ live = cc in subst P same has

-- a pair of the same block, with the node above and the greatest key of another
lives_same : (e v : Expect) (last : Key) (x y : Result (List ℕ) CopyFault) (other : Key) (parent : ℕ) → v.tree ≡ e.tree → v.address ≡ e.address
    → v.level ≡ e.level → v.generation ≡ e.generation → x ≡ y
    → shifted_to (record {
      tree = v.tree;
      address = v.address;
      level = v.level;
      generation = v.generation;
      first = first_in x;
      last = other;
      parent = parent;
      owner = owner_in x;
    }) e.parent last
    ≡ record {
      tree = e.tree;
      address = e.address;
      level = e.level;
      generation = e.generation;
      first = first_in y;
      last = last;
      parent = e.parent;
      owner = owner_in y;
    }
lives_same e v last x y other parent tree address level generation bytes = rw (tree, address, level, generation, bytes) refl

-- a kept block as it was: its pair is known, and is that of the block now but for the node above and the greatest key; and the listed children
-- are some of those that are stored now
pub record WasKept (pairs : Pairs) (moving : Marks) (under : Under) (sup : Super) (new : Stored) (e : Expect) : Type 0 where
  pub was : Live
  pub known : pairs e.tree e.address ≡ Some was
  pub is : shifted_to was e.parent (last_in (walk_of sup new e)) ≡ live_at sup new e
  pub lists : under e.tree e.address ≡ starts_at e.level (moving e.tree) (new e.address)

pub was_kept : (pairs : Pairs) (marked moving : Marks) (touched moved : ℕ → Bool) (under : Under) (sup : Super) (old new : Stored) (root : Expect)
    → Stands pairs sup old root → AreMarked marked touched sup old root → AreListed under moving sup old root → AreUntouched touched moved old new
    → (e : Expect) (last : Key) → e.tree ≡ root.tree → kept_of pairs marked moved under e ≡ Some last → WasKept pairs moving under sup new e
unfolding kept_of
was_kept pairs marked moving touched moved under sup old new root stands marks listed alike e last of is =
    let f = found e (under e.tree e.address) last (marked e.tree e.address || moved e.address) (pairs e.tree e.address) is in
    let free = neither (marked e.tree e.address) (moved e.address) f.free in
    let entry : pairs root.tree e.address ≡ Some f.live = subst (λ t. pairs t e.address ≡ Some f.live) of f.known in
    let there : OneOf (IsKnown sup old root.tree e.address f.live) (visited sup old root) =
    some_at (pairs root.tree e.address) f.live (λ l. OneOf (IsKnown sup old root.tree e.address l) (visited sup old root)) entry
    (stands.only e.address) in
    let Marked = λ (v : Expect). marked v.tree v.address ≡ comes_to touched sup old v in
    let Listed = λ (v : Expect). under v.tree v.address ≡ starts_at v.level (moving v.tree) (old v.address) in
    let one = one_with (λ v. Marked v × Listed v) (IsKnown sup old root.tree e.address f.live) (visited sup old root)
    (each_both Marked Listed (visited sup old root) marks.each listed.each) there in
    by f.live f.known f.same free.0 free.1 one.0 one.1.0 one.1.1 one.2
  where
    by : (live : Live) → pairs e.tree e.address ≡ Some live → is_same e live ≡ true → marked e.tree e.address ≡ false → moved e.address ≡ false
        → (v : Expect) → marked v.tree v.address ≡ comes_to touched sup old v
        → under v.tree v.address ≡ starts_at v.level (moving v.tree) (old v.address) → IsKnown sup old root.tree e.address live v
        → WasKept pairs moving under sup new e
    by live known same unmarked still v mark lists here =
        let tree : v.tree ≡ e.tree = here.tree_is ∙ sym of in
        let address : v.address ≡ e.address = here.address_is in
        let free : touched v.address ≡ false =
        passes_here touched sup old v (sym mark ∙ (ap (λ t. marked t v.address) tree ∙ (ap (marked e.tree) address ∙ unmarked))) in
        let stays : new v.address ≡ old v.address = alike v.address free (ap moved address ∙ still) in
        let bytes : old v.address ≡ new e.address = sym stays ∙ ap new address in
        let near : is_same e (live_at sup old v) ≡ true = subst (λ l. is_same e l ≡ true) here.live_is same in
        let parts = and_parts (e.level == v.level && e.generation == v.generation) (is_first (live_at sup old v) e.low e.high) near in
        let two = and_parts (e.level == v.level) (e.generation == v.generation) parts.0 in
        let level : v.level ≡ e.level = sym (eqb-true e.level v.level two.0) in
        record {
          was = live_at sup old v;
          known = known ∙ ap (λ (l : Live). Some l) here.live_is;
          is = lives_same e v (last_in (walk_of sup new e)) (old v.address) (new e.address) (last_in (walk_of sup old v)) v.parent tree address
              level (sym (eqb-true e.generation v.generation two.1)) bytes;
          lists = ap (λ t. under t e.address) (sym tree)
              ∙ (ap (under v.tree) (sym address)
              ∙ (lists
              ∙ (ap (λ n. starts_at n (moving v.tree) (old v.address)) level
              ∙ (ap (λ t. starts_at e.level (moving t) (old v.address)) tree ∙ ap (starts_at e.level (moving e.tree)) bytes))));
        }

-- a block that a walk without a finding comes to: it is of the tree, a table has its pair, and the walk from it on has no finding
pub record IsGood (table : Pairs) (sup : Super) (stored : Stored) (tree : ℕ) (v : Expect) : Type 0 where
  pub of : v.tree ≡ tree
  pub known : table v.tree v.address ≡ Some (live_at sup stored v)
  pub fine : IsOk (walk_of sup stored v)
  pub bytes : List ℕ
  pub is : stored v.address ≡ Ok bytes
  pub read : block_in stored sup.fsid v ≡ Ok bytes

pub all_good : (sup : Super) (stored : Stored) (root : Expect) (records : List Seen) → walk_of sup stored root ≡ Ok records
    → AllByRecursion (IsGood (table_of (live_in records)) sup stored root.tree) (visited sup stored root)
all_good sup stored root records is =
    let table = table_of (live_in records) in
    let stands = tree_table sup stored root records is in
    let any : Visits (Any sup stored) (trail_of sup stored root) =
    visits_from (Any sup stored) sup stored root (record { fine = stands.each.fine; each = any_each sup stored (visited sup stored root) }) in
    let Known = λ (v : Expect). table v.tree v.address ≡ Some (live_at sup stored v) in
    let Of = λ (v : Expect). v.tree ≡ root.tree in
    let B = Below (Any sup stored) sup stored in
    each_map (λ v. (Of v × Known v) × B v) (IsGood table sup stored root.tree) (visited sup stored root)
    (λ v h.
    let a = accepts (Any sup stored) (trail_below v.level sup stored) sup stored v h.1 in
    record {
      of = h.0.0;
      known = h.0.1;
      fine = (comes_from (Any sup stored) sup stored v h.1).fine;
      bytes = a.bytes;
      is = a.is;
      read = block_is sup stored v a;
    })
    (each_both (λ v. Of v × Known v) B (visited sup stored root)
    (each_both Of Known (visited sup stored root) (of_root sup (stored, root) stands.each.fine).each stands.each.each)
    (comes_from B sup stored root (within (Any sup stored) sup stored root any)).each)

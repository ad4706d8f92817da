-- The children that a table lists are those of the blocks of the walk that it stands for.
use Rattle.std.proofs.Common.{◌≡◌, ℕ, zero, suc, ◌≤◌, Bool, true, false, cond, ◌||◌, List, [], ◌∷◌, ◌⊎◌, inl, inr, refl, ap, sym, subst, ◌∙◌, arith, if◌then◌else◌}
use Rattle.std.specs.Prelude.{Option, Some, None, nat_lt, Ok}
use Rattle.std.specs.List.{AllByRecursion, list_any}
use Rattle.std.proofs.lemmas.Bool.{eqb-true}
use Rattle.std.proofs.lemmas.Bool.Decides.{nat_tests}
use Rattle.std.proofs.lemmas.Grind.{common_steps}
use Rattle.touched_blocks.proofs.Among.{some_same}
use Rattle.tree_laws.proofs.Sharing.{if_some_map}
use Rattle.verdict.proofs.Lists.{all_zip as all_map}
use Rattle.verdict.proofs.Truth.{never}
use Rattle.verdict.specs.OnDisk.{key_below}
use Rattle.verdict.specs.declared.key.Key.{Key}
use Rattle.super_reader.specs.declared.Super.{Super}
use Rattle.live_index.specs.Pairs.{IsNextFirst, Pairs}
use Rattle.live_index.specs.declared.live.Live.{Live}
use Rattle.node_reader.specs.Layout.{pointers_of}
use Rattle.node_reader.specs.Stored.{Stored}
use Rattle.node_reader.specs.declared.expect.Expect.{Expect}
use Rattle.node_reader.specs.declared.expect.Pointer.{Pointer}
use Rattle.records.specs.Walk.{child_of, children_of, high_of, walk_of}
use Rattle.records.specs.WalkLaw.{visited}
use Rattle.touched_blocks.specs.Marking.{if_above, parent_of}
use Rattle.walk_laws.specs.WalkOrder.{AllAbove, Ascend as KeysAscend}
use Rattle.walk_laws.proofs.Blocks.{block_keys}
use Rattle.tree_laws.specs.declared.told.Start.{Start}
use Rattle.tree_laws.specs.Keeping.{IsKnown, Marks, OneOf, last_in, live_at, starts_at, starts_in}
use Rattle.tree_laws.specs.Listed.{AreChildren, Ascend, IsChild, ListingLaw, is_at, is_before, up_to}
use Rattle.tree_laws.proofs.Accepted.{Accepts, accepts, keys_at}
use Rattle.tree_laws.proofs.Climbing.{of_tree}
use Rattle.tree_laws.proofs.Ordering.{before_of, before_self, before_trans}
use Rattle.tree_laws.proofs.Nexting.{AllNext, IsAlone, IsChild as IsGood, Only, alone, below_is, next_keys}
use Rattle.tree_laws.proofs.Separating.{AtAddress, HasNode, IsFrom, Known, first_child, nodes, of, pointers_in}
use Rattle.tree_laws.proofs.Trails.{Trail, trail_below, trail_of, trails}
use Rattle.tree_laws.proofs.Visiting.{Visits, VisitsOne, comes_from, visits_both, visits_from, visits_map, visits_one, visits_one_from, visits_then_first, visits_then_later}
use Rattle.tree_laws.proofs.Within.{Below, here_of, node_keys, pointer_keys, rest_of, within}

-- a pointer as a child that is walked
abbrev pub start_for : Pointer → List Pointer → Start
start_for pointer pointers = record { pointer = pointer; next = high_of pointers None }

-- a child is that of one of these pointers
abbrev pub StandsIn : Start → List Pointer → Type 0
StandsIn start [] = ⊥
StandsIn start (pointer ∷ pointers) = (start ≡ start_for pointer pointers) ⊎ StandsIn start pointers

abbrev pub MemberOf : Start → List Start → Type 0
MemberOf start [] = ⊥
MemberOf start (one ∷ starts) = (one ≡ start) ⊎ MemberOf start starts

-- the pointers that pass a test have their children in a list
abbrev pub AllMembers : (ℕ → Bool) → List Start → List Pointer → Type 0
AllMembers test starts [] = Unit {0}
AllMembers test starts (pointer ∷ pointers) = (test pointer.address ≡ true → MemberOf (start_for pointer pointers) starts) × AllMembers test starts pointers

of_member : (P : Start → Type 0) (start : Start) (starts : List Start) → AllByRecursion P starts → MemberOf start starts → P start
of_member P start [] all at = elim at [ ]
of_member P start (one ∷ starts) all (inl is) = subst P is all.0
of_member P start (one ∷ starts) all (inr later) = of_member P start starts all.1 later

-- the children behind a pointer have greater keys
behind_key : (key : Key) (start : Start) (pointers : List Pointer) → AllAbove key (pointer_keys pointers) → StandsIn start pointers → key_below key start.pointer.key ≡ true
behind_key key start [] above at = elim at [ ]
behind_key key start (pointer ∷ pointers) above (inl is) = subst (λ (s : Start). key_below key s.pointer.key ≡ true) (sym is) above.0
behind_key key start (pointer ∷ pointers) above (inr later) = behind_key key start pointers above.1 later

-- the first child is that of the first pointer that passes
head_is : (pointer : Pointer) (pointers : List Pointer) (start : Start) (starts : List Start) → AllAbove pointer.key (pointer_keys pointers) → StandsIn start (pointer ∷ pointers)
    → AllByRecursion (λ other. is_before start other ≡ true) starts → MemberOf (start_for pointer pointers) (start ∷ starts) → start ≡ start_for pointer pointers
head_is pointer pointers start starts above (inl is) order at = is
head_is pointer pointers start starts above (inr later) order (inl is) = is
head_is pointer pointers start starts above (inr later) order (inr at) =
    let T = start_for pointer pointers in
    let first : is_before start T ≡ true = of_member (λ other. is_before start other ≡ true) T starts order at in
    let second : is_before T start ≡ true = before_of T start (behind_key pointer.key start pointers above later) in
    absurd (never (is_before start start) (before_trans start T start first second) (before_self start))

-- the others are among those behind it
others_in : (test : ℕ → Bool) (key : Key) (start : Start) (starts : List Start) (pointers : List Pointer) → start.pointer.key ≡ key → AllAbove key (pointer_keys pointers) → AllMembers test (start ∷ starts) pointers → AllMembers test starts pointers
others_in test key start starts [] is above all = tt
others_in test key start starts (pointer ∷ pointers) is above all = (λ passes. by (all.0 passes), others_in test key start starts pointers is above.1 all.1)
  where
    below_self : (k : Key) → key_below k k ≡ false
    below_self k = grind (arith, common_steps)

    by : MemberOf (start_for pointer pointers) (start ∷ starts) → MemberOf (start_for pointer pointers) starts
    by (inl same) =
        let keys : key ≡ pointer.key = sym is ∙ ap (λ (s : Start). s.pointer.key) same in
        absurd (never (key_below key key) (subst (λ k. key_below key k ≡ true) (sym keys) above.0) (below_self key))
    by (inr later) = later

-- Children in their order that are of pointers which pass a test, all of which are there, are those of these pointers.
unique : (test : ℕ → Bool) (pointers : List Pointer) (starts : List Start) → KeysAscend (pointer_keys pointers) → AllByRecursion (λ s. StandsIn s pointers) starts
    → AllByRecursion (λ (s : Start). test s.pointer.address ≡ true) starts → AllMembers test starts pointers → Ascend starts → starts ≡ starts_in test pointers
unique test [] [] ascend each pass all order = refl
unique test [] (start ∷ starts) ascend each pass all order = elim each.0 [ ]
unique test (pointer ∷ pointers) starts ascend each pass all order = by (test pointer.address) refl starts each pass all order (λ more. unique test pointers more ascend.1)
  where
    T : Start
    T = start_for pointer pointers

    by : (b : Bool) → test pointer.address ≡ b → (starts : List Start) → AllByRecursion (λ s. StandsIn s (pointer ∷ pointers)) starts
        → AllByRecursion (λ (s : Start). test s.pointer.address ≡ true) starts → AllMembers test starts (pointer ∷ pointers) → Ascend starts
        → ((more : List Start) → AllByRecursion (λ s. StandsIn s pointers) more → AllByRecursion (λ (s : Start). test s.pointer.address ≡ true) more → AllMembers test more pointers → Ascend more → more ≡ starts_in test pointers)
        → starts ≡ (if b then T ∷ starts_in test pointers else starts_in test pointers)
    by true is [] each pass all order rest = elim (all.0 is) [ ]
    by true is (start ∷ starts) each pass all order rest =
        let head : start ≡ T = head_is pointer pointers start starts ascend.0 each.0 order.0 (all.0 is) in
        let inner : AllByRecursion (λ s. StandsIn s pointers) starts =
        all_map (λ s. StandsIn s (pointer ∷ pointers)) (λ other. is_before start other ≡ true) (λ s. StandsIn s pointers) starts (λ s at before. later s (subst (λ x. is_before x s ≡ true) head before) at) each.1 order.0 in
        let members : AllMembers test starts pointers = others_in test pointer.key start starts pointers (ap (λ (s : Start). s.pointer.key) head) ascend.0 all.1 in
        ap (λ s. s ∷ starts) head ∙ ap (λ more. T ∷ more) (rest starts inner pass.1 members order.1)
      where
        later : (s : Start) → is_before T s ≡ true → StandsIn s (pointer ∷ pointers) → StandsIn s pointers
        later s before (inl same) = absurd (never (is_before T s) before (subst (λ x. is_before T x ≡ false) (sym same) (before_self T)))
        later s before (inr at) = at
    by false is starts each pass all order rest =
        rest starts
        (all_map (λ s. StandsIn s (pointer ∷ pointers)) (λ (s : Start). test s.pointer.address ≡ true) (λ s. StandsIn s pointers) starts later each pass) pass all.1 order
      where
        later : (s : Start) → StandsIn s (pointer ∷ pointers) → test s.pointer.address ≡ true → StandsIn s pointers
        later s (inl same) passes = absurd (never (test pointer.address) (subst (λ (x : Start). test x.pointer.address ≡ true) same passes) is)
        later s (inr at) passes = at

-- the pair above another
pub above_is : (live up : Live) (entry : Option Live) → if_above live entry ≡ Some up → (entry ≡ Some up) × (nat_lt live.level up.level ≡ true)
above_is live up None is = absurd (cc)
above_is live up (Some over) is = by (nat_lt live.level over.level) refl is
  where
    by : (b : Bool) → nat_lt live.level over.level ≡ b → cond b (Some over) None ≡ Some up → (Some over ≡ Some up) × (nat_lt live.level up.level ≡ true)
    by true less same = (same, subst (λ (l : Live). nat_lt live.level l.level ≡ true) (some_same over up same) less)
    by false less same = absurd (cc)

module _ (pairs : Pairs) (marked : Marks) (tree : ℕ) (sup : Super) (stored : Stored) where
  abbrev pub on : ℕ → Expect → Trail
  on level = of (pairs tree) sup stored level

  abbrev pub Good : Expect → Type 0
  Good d = IsGood pairs tree sup stored d

  -- a table has the child of a pointer
  pub record IsRow (level parent : ℕ) (pointer : Pointer) : Type 0 where
    pub live : Live
    pub known : pairs tree pointer.address ≡ Some live
    pub level_is : live.level ≡ level
    pub generation : live.generation ≡ pointer.generation
    pub first : live.first ≡ pointer.key
    pub parent_is : live.parent ≡ parent

  abbrev pub AllRows : ℕ → ℕ → List Pointer → Type 0
  AllRows level parent pointers = AllByRecursion (IsRow level parent) pointers

  -- what a table has of a child is what its pointer says
  same_start : (level parent : ℕ) (last : Key) (start : Start) (child : IsChild pairs marked tree parent start) → child.up.last ≡ last → (pointer : Pointer) (pointers : List Pointer) → IsRow level parent pointer
      → ((next : Option Key) → IsNextFirst pairs tree level pointer.key next → up_to last next ≡ high_of pointers None) → pointer.address ≡ start.pointer.address → start ≡ start_for pointer pointers
  same_start level parent last start child most pointer pointers row next at =
      let lives : child.live ≡ row.live = some_same child.live row.live (sym child.known ∙ (ap (pairs tree) (sym at) ∙ row.known)) in
      let first : child.live.first ≡ pointer.key = ap (λ (l : Live). l.first) lives ∙ row.first in
      let levels : child.live.level ≡ level = ap (λ (l : Live). l.level) lives ∙ row.level_is in
      let least : IsNextFirst pairs tree level pointer.key child.next = subst (λ n. IsNextFirst pairs tree n pointer.key child.next) levels (subst (λ k. IsNextFirst pairs tree child.live.level k child.next) first child.least) in
      let e1 : start.pointer.key ≡ pointer.key = child.key ∙ first in
      let e2 : start.pointer.address ≡ pointer.address = sym at in
      let e3 : start.pointer.generation ≡ pointer.generation = child.generation ∙ (ap (λ (l : Live). l.generation) lives ∙ row.generation) in
      let e4 : start.next ≡ high_of pointers None = child.next_is ∙ (ap (λ k. up_to k child.next) most ∙ next child.next least) in
      λ i. record { pointer = record { key = e1 i; address = e2 i; generation = e3 i }; next = e4 i }

  -- a child at the address of one of these pointers is that of the pointer
  place_of : (level parent : ℕ) (last : Key) (start : Start) (child : IsChild pairs marked tree parent start) → child.up.last ≡ last → (pointers : List Pointer) → AllRows level parent pointers
      → AllNext pairs tree level last pointers → AtAddress start.pointer.address pointers → StandsIn start pointers
  place_of level parent last start child most [] rows next at = at
  place_of level parent last start child most (pointer ∷ pointers) rows next (inl is) = inl (same_start level parent last start child most pointer pointers rows.0 next.0 is)
  place_of level parent last start child most (pointer ∷ pointers) rows next (inr later) = inr (place_of level parent last start child most pointers rows.1 next.1 later)

  -- it is in a list that has one at its address
  member_is : (level parent : ℕ) (last : Key) (pointer : Pointer) (pointers : List Pointer) → IsRow level parent pointer → ((next : Option Key) → IsNextFirst pairs tree level pointer.key next → up_to last next ≡ high_of pointers None)
      → (starts : List Start) → AllByRecursion (IsChild pairs marked tree parent) starts → ((start : Start) (child : IsChild pairs marked tree parent start) → child.up.last ≡ last)
      → list_any (is_at pointer.address) starts ≡ true → MemberOf (start_for pointer pointers) starts
  member_is level parent last pointer pointers row next [] each most any = absurd (cc)
  member_is level parent last pointer pointers row next (start ∷ starts) each most any = by (is_at pointer.address start) refl any (member_is level parent last pointer pointers row next starts each.1 most)
    where
      by : (b : Bool) → is_at pointer.address start ≡ b → (b || list_any (is_at pointer.address) starts) ≡ true
          → (list_any (is_at pointer.address) starts ≡ true → MemberOf (start_for pointer pointers) starts) → (start ≡ start_for pointer pointers) ⊎ MemberOf (start_for pointer pointers) starts
      by true at any rest = inl (same_start level parent last start each.0 (most start each.0) pointer pointers row next (sym (eqb-true start.pointer.address pointer.address at)))
      by false at any rest = inr (rest any)

  -- a table has the children of a node
  rows_are : (level : ℕ) (v : Expect) (pointers : List Pointer) → Visits Good (trails (on level) (children_of level v pointers)) → AllRows level v.address pointers
  rows_are level v [] all = tt
  rows_are level v (pointer ∷ pointers) all =
      let d : Expect = child_of level v pointer (high_of pointers v.high) in
      let rest = trails (on level) (children_of level v pointers) in
      let here : Visits Good (on level d) = visits_then_first Good (on level d) rest all in
      let known : Visits (Known (pairs tree) sup stored) (on level d) = visits_map Good (Known (pairs tree) sup stored) (on level d) (λ w h. h.0) here in (
        record {
          live = live_at sup stored d;
          known = here_of (Known (pairs tree) sup stored) (trail_below level sup stored) sup stored d known;
          level_is = refl;
          generation = refl;
          first = first_child (pairs tree) sup stored level d pointer.key refl known;
          parent_is = refl;
        },
        rows_are level v pointers (visits_then_later Good (on level d) rest all),
      )

  -- the node above a child is the block that it is listed under
  up_is : (v : Expect) → Known (pairs tree) sup stored v → (start : Start) (child : IsChild pairs marked tree v.address start) → (child.up ≡ live_at sup stored v) × (nat_lt child.live.level v.level ≡ true)
  up_is v known start child =
      let both = above_is child.live child.up (pairs tree child.live.parent) child.above in
      let same : child.up ≡ live_at sup stored v = some_same child.up (live_at sup stored v) (sym both.0 ∙ (ap (pairs tree) child.parent ∙ known)) in
      (same, subst (λ (l : Live). nat_lt child.live.level l.level ≡ true) same both.1)

  -- a child is one of the node's pointers
  owner : (root v : Expect) → Visits (Known (pairs tree) sup stored) (trail_of sup stored root) → Only pairs tree sup stored root → v.level ≤ root.level
      → (address : ℕ) (live : Live) → pairs tree address ≡ Some live → live.parent ≡ v.address → nat_lt live.level v.level ≡ true → AtAddress address (pointers_in (stored v.address))
  owner root v all only most address live known parent less =
      let one : VisitsOne (IsKnown sup stored tree address live) (trail_of sup stored root) = rw known at (only address) in
      let at = visits_one (IsFrom (pairs tree) sup stored root.level root) (IsKnown sup stored tree address live) (trail_of sup stored root) (nodes (pairs tree) sup stored root all) one in
      by at.0 at.2 at.1.1
    where
      too_high : (l m n : ℕ) → nat_lt l m ≡ true → m ≤ n → l ≡ n → ⊥
      too_high l m n less most is = grind (arith, nat_tests, less, most, is)

      by : (w : Expect) → IsKnown sup stored tree address live w → (w ≡ root) ⊎ HasNode (pairs tree) sup stored w → AtAddress address (pointers_in (stored v.address))
      by w is (inl same) =
          let level : live.level ≡ root.level = ap (λ (l : Live). l.level) is.live_is ∙ ap (λ (x : Expect). x.level) same in
          absurd (too_high live.level v.level root.level less most level)
      by w is (inr node) =
          let same : node.u.address ≡ v.address = sym node.above ∙ (sym (ap (λ (l : Live). l.parent) is.live_is) ∙ parent) in
          subst (λ a. AtAddress a (pointers_in (stored v.address))) is.address_is (subst (λ a. AtAddress w.address (pointers_in (stored a))) same node.pointer)

  less_one : (n : ℕ) → nat_lt n (suc n) ≡ true
  less_one n = grind (arith, nat_tests)

  -- a child of a node has it above
  parent_above : (level : ℕ) (v : Expect) → v.level ≡ suc level → Known (pairs tree) sup stored v → (live : Live) → live.level ≡ level → live.parent ≡ v.address → parent_of pairs tree live ≡ Some (live_at sup stored v)
  parent_above level v at known live low parent =
      ap (λ a. if_above live (pairs tree a)) parent ∙ (ap (if_above live) known ∙ ap (λ b. cond b (Some (live_at sup stored v)) None) (ap (λ n. nat_lt n v.level) low ∙ (ap (nat_lt level) at ∙ less_one level)))

  members_are : (level : ℕ) (v : Expect) → v.level ≡ suc level → Known (pairs tree) sup stored v → (starts : List Start) → AreChildren pairs marked tree v.address starts
      → (pointers : List Pointer) → AllRows level v.address pointers → AllNext pairs tree level (last_in (walk_of sup stored v)) pointers → AllMembers (marked tree) starts pointers
  members_are level v at known starts are [] rows next = tt
  members_are level v at known starts are (pointer ∷ pointers) rows next = (
    λ mark. member_is level v.address (last_in (walk_of sup stored v)) pointer pointers rows.0 next.0 starts are.each
        (λ start child. ap (λ (l : Live). l.last) (up_is v known start child).0)
        (are.all pointer.address rows.0.live (live_at sup stored v) mark rows.0.known (parent_above level v at known rows.0.live rows.0.level_is rows.0.parent_is) rows.0.parent_is),
    members_are level v at known starts are pointers rows.1 next.1,
  )

  each_stands : (level : ℕ) (root v : Expect) → Visits (Known (pairs tree) sup stored) (trail_of sup stored root) → Only pairs tree sup stored root → v.level ≤ root.level → Known (pairs tree) sup stored v
      → (bytes : List ℕ) → stored v.address ≡ Ok bytes → AllRows level v.address (pointers_of bytes) → AllNext pairs tree level (last_in (walk_of sup stored v)) (pointers_of bytes)
      → (starts : List Start) → AllByRecursion (IsChild pairs marked tree v.address) starts → AllByRecursion (λ s. StandsIn s (pointers_of bytes)) starts
  each_stands level root v all only most known bytes is rows next [] each = tt
  each_stands level root v all only most known bytes is rows next (start ∷ starts) each =
      let child : IsChild pairs marked tree v.address start = each.0 in
      let up = up_is v known start child in
      let at : AtAddress start.pointer.address (pointers_in (stored v.address)) = owner root v all only most start.pointer.address child.live child.known child.parent up.1 in (
        place_of level v.address (last_in (walk_of sup stored v)) start child (ap (λ (l : Live). l.last) up.0) (pointers_of bytes) rows next (subst (λ b. AtAddress start.pointer.address (pointers_in b)) is at),
        each_stands level root v all only most known bytes is rows next starts each.1,
      )

  marks_pass : (address : ℕ) (starts : List Start) → AllByRecursion (IsChild pairs marked tree address) starts → AllByRecursion (λ (s : Start). marked tree s.pointer.address ≡ true) starts
  marks_pass address [] each = tt
  marks_pass address (start ∷ starts) each = (each.0.mark, marks_pass address starts each.1)

  -- the children that are listed of a block
  listed_at : (n : ℕ) (root v : Expect) → v.level ≡ n → Visits (Known (pairs tree) sup stored) (trail_of sup stored root) → Only pairs tree sup stored root → v.level ≤ root.level → Visits Good (trail_of sup stored v)
      → (starts : List Start) → AreChildren pairs marked tree v.address starts → (a : Accepts sup stored v) → starts ≡ starts_at n (marked tree) (Ok a.bytes)
  listed_at zero root v at all only most good starts are a = by starts are.each
    where
      known : Known (pairs tree) sup stored v
      known = (here_of Good (trail_below v.level sup stored) sup stored v good).0

      none_lower : (m n : ℕ) → nat_lt m n ≡ true → n ≡ zero → ⊥
      none_lower m n less is = grind (arith, nat_tests, less, is)

      by : (starts : List Start) → AllByRecursion (IsChild pairs marked tree v.address) starts → starts ≡ []
      by [] each = refl
      by (start ∷ starts) each = absurd (none_lower each.0.live.level v.level (up_is v known start each.0).1 at)
  listed_at (suc level) root v at all only most good starts are a =
      let known : Known (pairs tree) sup stored v = (here_of Good (trail_below v.level sup stored) sup stored v good).0 in
      let rest : Visits Good (trail_below (suc level) sup stored v a.bytes) = subst (λ n. Visits Good (trail_below n sup stored v a.bytes)) at (rest_of Good (trail_below v.level sup stored) sup stored v a good) in
      let rows = rows_are level v (pointers_of a.bytes) (below_is pairs tree sup stored level v a.bytes rest) in
      let next = next_keys pairs tree sup stored v level at a good in
      unique (marked tree) (pointers_of a.bytes) starts
      (subst (λ ks. KeysAscend ks) (node_keys level a.bytes) (subst (λ n. KeysAscend (keys_at n a.bytes)) at (block_keys a.bytes sup.fsid v a.passes).ascend))
      (each_stands level root v all only most known a.bytes a.is rows next starts are.each)
      (marks_pass v.address starts are.each)
      (members_are level v at known starts are (pointers_of a.bytes) rows next)
      are.order

-- the children that are listed of each block
pub lists : ListingLaw
lists pairs marked under sup stored root stands listed =
    let tree = root.tree in
    let walk = trail_of sup stored root in
    let Kn = λ (v : Expect). pairs v.tree v.address ≡ Some (live_at sup stored v) in
    let Kt = Known (pairs tree) sup stored in
    let Good_v = Good pairs marked tree sup stored in
    let known : Visits Kn walk = visits_from Kn sup stored root stands.each in
    let trees : Visits (λ w. w.tree ≡ tree) walk = of_tree Kn sup stored root known in
    let knows : Visits Kt walk =
    visits_map (λ v. Kn v × (v.tree ≡ tree)) Kt walk (λ v h. subst (λ t. pairs t v.address ≡ Some (live_at sup stored v)) h.1 h.0)
    (visits_both Kn (λ w. w.tree ≡ tree) walk known trees) in
    let only : Only pairs tree sup stored root =
    λ address. if_some_map (pairs tree address) (λ live. OneOf (IsKnown sup stored tree address live) (visited sup stored root)) (λ live. VisitsOne (IsKnown sup stored tree address live) walk)
    (λ live one. visits_one_from (IsKnown sup stored tree address live) Kn sup stored root known one) (stands.only address) in
    let good : Visits Good_v walk = visits_both Kt (IsAlone pairs tree sup stored) walk knows (alone pairs tree sup stored root knows only) in
    comes_from (λ v. under v.tree v.address ≡ starts_at v.level (marked v.tree) (stored v.address)) sup stored root
    (visits_map (λ v. (v.tree ≡ tree) × (Below Good_v sup stored v × IsFrom (pairs tree) sup stored root.level root v)) (λ v. under v.tree v.address ≡ starts_at v.level (marked v.tree) (stored v.address)) walk
    (λ v h.
    let a = accepts Good_v (trail_below v.level sup stored) sup stored v h.1.0 in
    subst (λ t. under t v.address ≡ starts_at v.level (marked t) (stored v.address)) (sym h.0)
    (listed_at pairs marked tree sup stored v.level root v refl knows only h.1.1.0 h.1.0 (under tree v.address) (listed tree v.address) a ∙ ap (starts_at v.level (marked tree)) (sym a.is)))
    (visits_both (λ w. w.tree ≡ tree) (λ v. Below Good_v sup stored v × IsFrom (pairs tree) sup stored root.level root v) walk trees
    (visits_both (Below Good_v sup stored) (IsFrom (pairs tree) sup stored root.level root) walk (within Good_v sup stored root good) (nodes (pairs tree) sup stored root knows))))

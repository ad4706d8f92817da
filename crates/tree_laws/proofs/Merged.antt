-- The items of a tree as it is are merged of those that it had and those that came.
use Rattle.std.proofs.Common.{◌≡◌, ℕ, ◌==◌, Bool, true, false, not, List, [], ◌∷◌, ◌++◌, ◌⊎◌, inl, inr, refl, ap, sym, subst, ◌∙◌, if◌then◌else◌}
use Rattle.std.proofs.lemmas.List.Elements.{filter_map-append}
use Rattle.std.specs.Prelude.{Option, Some, None, is_some, Result, Ok, Err}
use Rattle.std.specs.List.{AllByRecursion, filter, filter_map, flat_map, list_any}
use Rattle.std.specs.List.Sorted.{IsPermutation}
use Rattle.std.specs.Result.{IsOk}
use Rattle.verdict.specs.OnDisk.{key_same}
use Rattle.verdict.specs.Rules.{and_then, finding_or, no_key}
use Rattle.verdict.specs.declared.finding.Finding.{Finding}
use Rattle.verdict.specs.declared.key.Key.{Key}
use Rattle.super_reader.specs.Superblock.{item_place}
use Rattle.super_reader.specs.declared.Super.{Super}
use Rattle.live_index.specs.declared.live.Live.{Live}
use Rattle.node_reader.specs.Faults.{block_fault}
use Rattle.node_reader.specs.Layout.{items_of, pointers_of}
use Rattle.node_reader.specs.Stored.{CopyFault, Stored, block_in, found_by}
use Rattle.node_reader.specs.declared.expect.Expect.{Expect}
use Rattle.node_reader.specs.declared.expect.Pointer.{Pointer}
use Rattle.records.specs.Part.{Located}
use Rattle.records.specs.Seen.{Seen}
use Rattle.records.specs.Seen.Seen.{BlockSeen, ItemSeen, PointerSeen}
use Rattle.records.specs.Walk.{Records, behind, block_at, entry_records, leaf_records, own_records, pointer_records, walk_of}
use Rattle.records.specs.WalkLaw.{visited}
use Rattle.walk_laws.specs.WalkOrder.{AllAbove, Ascend, item_keys}
use Rattle.walk_laws.proofs.Trees.{walk_ascends}
use Rattle.tree_laws.specs.Keeping.{OneOf, live_at}
use Rattle.tree_laws.specs.MergedLaw.{AreRead, IsInOrder, KeptWhereLaw, MergedLaw, items, stands_before}
use Rattle.tree_laws.specs.OldSide.{kept_where}
use Rattle.tree_laws.specs.Shared.{are_alike}
use Rattle.tree_laws.specs.Skips.{Kept, nothing, own_of, unkept}
use Rattle.tree_laws.specs.Unshared.{item_seen}
use Rattle.tree_laws.proofs.Accepted.{IsAs}
use Rattle.tree_laws.proofs.Climbing.{ok_same as ok_bytes}
use Rattle.tree_laws.proofs.Forest.{of_root}
use Rattle.tree_laws.proofs.Lives.{ok_same}
use Rattle.tree_laws.proofs.Mixing.Mixed.{Empty}
use Rattle.tree_laws.proofs.Mixing.{Before, Has, InOrder, Mixed, TellsApart, by_key, filter_gone, has_append, has_first, has_later, mixed_first, mixed_later, mixed_map, mixed_order, mixed_permutes, one_order, pairs_of}
use Rattle.tree_laws.proofs.OldTells.{has_same}
use Rattle.tree_laws.proofs.Skipping.{own_or, pick, unkept_in, unkept_is}
use Rattle.tree_laws.proofs.Trails.{Matches, Tells, Trail, Visit, all_own, tells, trail_of}

-- the items of a walk stand in the order of their keys
before_of : (x : Located) (records : List Seen) → AllAbove x.key (item_keys records) → Before stands_before x (items records)
before_of x [] all = tt
before_of x (BlockSeen one ∷ more) all = before_of x more all
before_of x (PointerSeen one ∷ more) all = before_of x more all
before_of x (ItemSeen one ∷ more) all = (all.0, before_of x more all.1)

order_of : (records : List Seen) → Ascend (item_keys records) → InOrder stands_before (items records)
order_of [] all = tt
order_of (BlockSeen one ∷ more) all = order_of more all
order_of (PointerSeen one ∷ more) all = order_of more all
order_of (ItemSeen one ∷ more) all = (before_of one more all.0, order_of more all.1)

-- the own records of a block, and the bytes that they are read from
pub record Read (sup : Super) (stored : Stored) (e : Expect) (own : List Seen) : Type 0 where
  pub bytes : List ℕ
  pub is : stored e.address ≡ Ok bytes
  pub entries : List Seen
  pub has : entry_records sup e bytes ≡ Ok entries
  pub own_is : own ≡ BlockSeen (block_at e bytes) ∷ entries

pub read_of : (sup : Super) (stored : Stored) (e : Expect) (own : List Seen) → own_of sup stored e ≡ Ok own → Read sup stored e own
unfolding block_in own_records behind
read_of sup stored e own is = by (stored e.address) refl is
  where
    by_entries : (bytes : List ℕ) (entries : Records) → stored e.address ≡ Ok bytes → entry_records sup e bytes ≡ entries
        → behind (BlockSeen (block_at e bytes) ∷ []) entries ≡ Ok own → Read sup stored e own
    by_entries bytes (Err finding) at has is = absurd (cc)
    by_entries bytes (Ok entries) at has is =
        record { bytes = bytes; is = at; entries = entries; has = has; own_is = ok_same own (BlockSeen (block_at e bytes) ∷ entries) (sym is) }

    by_fault : (bytes : List ℕ) (fault : Option Finding) → stored e.address ≡ Ok bytes
        → and_then (finding_or fault bytes) (own_records sup e) ≡ Ok own → Read sup stored e own
    by_fault bytes (Some finding) at is = absurd (cc)
    by_fault bytes None at is = by_entries bytes (entry_records sup e bytes) at refl is

    by : (block : Result (List ℕ) CopyFault) → stored e.address ≡ block
        → and_then (and_then (found_by e block) (λ bytes. finding_or (block_fault bytes sup.fsid e) bytes)) (own_records sup e) ≡ Ok own
        → Read sup stored e own
    by (Err fault) at is = absurd (cc)
    by (Ok bytes) at is = by_fault bytes (block_fault bytes sup.fsid e) at is

-- what a block has is decided by its bytes, its tree, its address, its generation and its level
pub pointers_alike : (e v : Expect) → IsAs e v → (pointers : List Pointer) → pointer_records e pointers ≡ pointer_records v pointers
pointers_alike e v same [] = refl
pointers_alike e v same (pointer ∷ pointers) = λ i.
    PointerSeen (record { tree = same.tree i; block = same.address i; level = same.level i; pointer = pointer }) ∷ pointers_alike e v same pointers i

pub entries_alike : (sup : Super) (e v : Expect) → IsAs e v → (bytes : List ℕ) → entry_records sup e bytes ≡ entry_records sup v bytes
entries_alike sup e v same bytes = λ i.
    if same.level i == 0 then leaf_records (item_place sup (same.tree i) (same.address i) (same.generation i)) (items_of bytes)
    else Ok (pointers_alike e v same (pointers_of bytes) i)

-- two blocks that are alike, of which the same is stored, have the same items
items_alike : (sup : Super) (one other : Stored) (e v : Expect) (own more : List Seen) → IsAs e v → other v.address ≡ one e.address
    → own_of sup one e ≡ Ok own → own_of sup other v ≡ Ok more → items own ≡ items more
items_alike sup one other e v own more same stays is also =
    let a = read_of sup one e own is in
    let b = read_of sup other v more also in
    let bytes : a.bytes ≡ b.bytes = ok_bytes a.bytes b.bytes (sym a.is ∙ (sym stays ∙ b.is)) in
    let entries : a.entries ≡ b.entries =
    ok_same a.entries b.entries (sym a.has ∙ (entries_alike sup e v same a.bytes ∙ (ap (entry_records sup v) bytes ∙ b.has))) in
    ap items a.own_is ∙ (ap items entries ∙ sym (ap items b.own_is))

module _ (shared : Live → Bool) (sup : Super) where
  -- the items of the shared ones of these blocks
  abbrev staying : Stored → List Visit → List Located
  staying stored [] = []
  staying stored (v ∷ visits) = (if shared (live_at sup stored v.e) then items v.own else []) ++ staying stored visits

  abbrev Just : Kept → Stored → Expect → Type 0
  Just kept stored v = is_some (kept v) ≡ shared (live_at sup stored v)

  split : (k : Option Key) (b : Bool) (own left whole : List Seen) (stay : List Located) → is_some k ≡ b → Mixed stay (items left) (items whole)
      → Mixed ((if b then items own else []) ++ stay) (items (own_or k own [] ++ left)) (items (own ++ whole))
  split None true own left whole stay is m = absurd (cc)
  split None false own left whole stay is m =
      rw (filter_map-append item_seen own left, filter_map-append item_seen own whole) (mixed_later (items own) stay (items left) (items whole) m)
  split (Some last) true own left whole stay is m =
      rw (filter_map-append item_seen own whole) (mixed_first (items own) stay (items left) (items whole) m)
  split (Some last) false own left whole stay is m = absurd (cc)

  -- the items of a walk are those of shared blocks and those of the others
  mixed_visits : (kept : Kept) (stored : Stored) (visits : List Visit) (es : List Expect) → Matches sup stored visits es
      → AllByRecursion (Just kept stored) es
      → Mixed (staying stored visits) (items (flat_map (pick kept nothing) visits)) (items (all_own visits))
  mixed_visits kept stored [] [] m all = Empty
  mixed_visits kept stored [] (e ∷ es) m all = elim m [ ]
  mixed_visits kept stored (v ∷ visits) [] m all = elim m [ ]
  mixed_visits kept stored (v ∷ visits) (e ∷ es) m all =
      split (kept v.e) (shared (live_at sup stored v.e)) v.own (flat_map (pick kept nothing) visits) (all_own visits) (staying stored visits)
      (subst (Just kept stored) (sym m.0.0) all.0) (mixed_visits kept stored visits es m.1 all.1)

  -- an item stands in a shared block of a tree
  record Stays (stored : Stored) (tree : ℕ) (x : Located) : Type 0 where
    e : Expect
    own : List Seen
    of : e.tree ≡ tree
    own_is : own_of sup stored e ≡ Ok own
    passes : shared (live_at sup stored e) ≡ true
    has : Has x (items own)

  stays_of : (stored : Stored) (tree : ℕ) (x : Located) (visits : List Visit) (es : List Expect) → Matches sup stored visits es
      → AllByRecursion (λ v. v.tree ≡ tree) es
      → Has x (staying stored visits) → Stays stored tree x
  stays_of stored tree x [] es m of has = elim has [ ]
  stays_of stored tree x (v ∷ visits) [] m of has = elim m [ ]
  stays_of stored tree x (v ∷ visits) (e ∷ es) m of has =
      by (has_append x (if shared (live_at sup stored v.e) then items v.own else []) (staying stored visits) has)
      (stays_of stored tree x visits es m.1 of.1)
    where
      here : (b : Bool) → shared (live_at sup stored v.e) ≡ b → Has x (if b then items v.own else []) → Stays stored tree x
      here true is has = record {
        e = e;
        own = v.own;
        of = of.0;
        own_is = m.0.1;
        passes = subst (λ w. shared (live_at sup stored w) ≡ true) m.0.0 is;
        has = has;
      }
      here false is has = elim has [ ]

      by : Has x (if shared (live_at sup stored v.e) then items v.own else []) ⊎ Has x (staying stored visits)
          → (Has x (staying stored visits) → Stays stored tree x) → Stays stored tree x
      by (inl first) rest = here (shared (live_at sup stored v.e)) refl first
      by (inr later) rest = rest later

  -- an item stands in the block that is alike to a shared one
  stays_in : (stored : Stored) (live : Live) (x : Located) → ((e : Expect) (own : List Seen) → own_of sup stored e ≡ Ok own
      → are_alike live (live_at sup stored e) ≡ true → (shared (live_at sup stored e) ≡ true) × Has x (items own))
      → (visits : List Visit) (es : List Expect) → Matches sup stored visits es
      → OneOf (λ v. are_alike live (live_at sup stored v) ≡ true) es → Has x (staying stored visits)
  stays_in stored live x gives visits [] m one = elim one [ ]
  stays_in stored live x gives [] (e ∷ es) m one = elim m [ ]
  stays_in stored live x gives (v ∷ visits) (e ∷ es) m (inl here) =
      let h = gives e v.own m.0.1 here in
      has_first x (if shared (live_at sup stored v.e) then items v.own else []) (staying stored visits)
      (rw (m.0.0, h.0) h.1)
  stays_in stored live x gives (v ∷ visits) (e ∷ es) m (inr later) =
      has_later x (if shared (live_at sup stored v.e) then items v.own else []) (staying stored visits)
      (stays_in stored live x gives visits es m.1 later)

  -- what stands in the shared blocks of one tree stands in those of the other
  carried : (one other : Stored) (tree : ℕ) (first later : List Visit) (es fs : List Expect) → Matches sup one first es → Matches sup other later fs
      → AllByRecursion (λ v. v.tree ≡ tree) es → ((a b : Live) → are_alike a b ≡ true → shared a ≡ shared b)
      → ((live : Live) → live.tree ≡ tree → shared live ≡ true → OneOf (λ v. are_alike live (live_at sup other v) ≡ true) fs)
      → ((live : Live) → live.tree ≡ tree → shared live ≡ true → other live.address ≡ one live.address)
      → (x : Located) → Has x (staying one first) → Has x (staying other later)
  carried one other tree first later es fs m n of alike there stays x has =
      let s = stays_of one tree x first es m of has in
      let live = live_at sup one s.e in
      stays_in other live x
      (λ v own is near.
      let same = has_same live (live_at sup other v) near in
      let block : IsAs s.e v = record { tree = same.tree; address = same.address; generation = same.generation; level = same.level } in
      let bytes : other v.address ≡ one s.e.address = ap other (sym same.address) ∙ stays live s.of s.passes in
      let same_items = items_alike sup one other s.e v s.own own block bytes s.own_is is in
      (sym (alike live (live_at sup other v) near) ∙ s.passes, subst (Has x) same_items s.has))
      later fs n (there live s.of s.passes)

-- a walk without a finding
pub record Walks (sup : Super) (stored : Stored) (root : Expect) (records : List Seen) : Type 0 where
  pub visits : List Visit
  pub matches : Matches sup stored visits (visited sup stored root)
  pub trail : trail_of sup stored root ≡ Ok visits
  pub all : all_own visits ≡ records

pub walks_of : (sup : Super) (stored : Stored) (root : Expect) (records : List Seen) → walk_of sup stored root ≡ Ok records
    → Walks sup stored root records
walks_of sup stored root records is = by (trail_of sup stored root) refl (tells sup stored root)
  where
    by : (trail : Trail) → trail_of sup stored root ≡ trail → Tells sup stored trail (walk_of sup stored root) (visited sup stored root)
        → Walks sup stored root records
    by (Err finding) at t = let never : walk_of sup stored root ≡ Err finding = t.0 in absurd (cc)
    by (Ok visits) at t = record { visits = visits; matches = t.1; trail = at; all = ok_same (all_own visits) records (sym t.0 ∙ is) }

left_is : (kept : Kept) (sup : Super) (stored : Stored) (root : Expect) (whole left : List Seen) (w : Walks sup stored root whole)
    → unkept kept nothing sup stored root ≡ Ok left → flat_map (pick kept nothing) w.visits ≡ left
left_is kept sup stored root whole left w is =
    ok_same (flat_map (pick kept nothing) w.visits) left
    (sym (ap (unkept_in kept nothing) w.trail) ∙ (sym (unkept_is kept nothing sup stored root) ∙ is))

some_where : (b : Bool) → is_some (if b then Some no_key else None) ≡ b
some_where true = refl
some_where false = refl

where_each : (shared : Live → Bool) (sup : Super) (stored : Stored) (es : List Expect)
    → AllByRecursion (λ v. is_some (kept_where shared sup stored v) ≡ shared (live_at sup stored v)) es
where_each shared sup stored [] = tt
where_each shared sup stored (e ∷ es) = (some_where (shared (live_at sup stored e)), where_each shared sup stored es)

pub kept_where_just : KeptWhereLaw
kept_where_just shared sup stored root fine = record { fine = fine; each = where_each shared sup stored (visited sup stored root) }

-- the items of a tree as it was and as it is: those that stay, with what is gone and with what came
pub record Merges (olds gone come news : List Located) : Type 0 where
  pub stay : List Located
  pub was : Mixed stay gone olds
  pub is : Mixed stay come news
  pub before : InOrder stands_before olds
  pub after : InOrder stands_before news

merge_same : (stay was_stay gone come olds news : List Located) → Mixed was_stay gone olds → Mixed stay come news
    → InOrder stands_before olds → InOrder stands_before news
    → ((x : Located) → Has x was_stay → Has x stay) → ((x : Located) → Has x stay → Has x was_stay) → Merges olds gone come news
merge_same stay was_stay gone come olds news old new before after into back =
    let was_order = mixed_order stands_before was_stay gone olds old before in
    let same : was_stay ≡ stay = one_order was_stay stay was_order (mixed_order stands_before stay come news new after) into back in
    record { stay = stay; was = subst (λ left. Mixed left gone olds) same old; is = new; before = before; after = after }

pub merge_of : (shared : Live → Bool) (kept : Kept) (sup : Super) (old new : Stored) (before root : Expect) (olds news gone come : List Seen)
    → AreRead shared kept sup old new before root olds news gone come → Merges (items olds) (items gone) (items come) (items news)
merge_of shared kept sup old new before root olds news gone come read =
    let both = read.both in
    let w = walks_of sup old before olds read.was in
    let v = walks_of sup new root news read.is in
    let es = visited sup old before in
    let fs = visited sup new root in
    let old_fine : IsOk (walk_of sup old before) = rw read.was refl in
    let old_of : AllByRecursion (λ x. x.tree ≡ root.tree) es =
    subst (λ t. AllByRecursion (λ x. x.tree ≡ t) es) (sym read.tree) (of_root sup (old, before) old_fine).each in
    let new_of : AllByRecursion (λ x. x.tree ≡ root.tree) fs = (of_root sup (new, root) read.keeps.fine).each in
    let was_stay = staying shared sup old w.visits in
    let stay = staying shared sup new v.visits in
    let old_mixed : Mixed was_stay (items gone) (items olds) =
    subst (λ all. Mixed was_stay (items gone) (items all)) w.all
    (subst (λ left. Mixed was_stay (items left) (items (all_own w.visits))) (left_is (kept_where shared sup old) sup old before olds gone w read.goes)
    (mixed_visits shared sup (kept_where shared sup old) old w.visits es w.matches (where_each shared sup old es))) in
    let new_mixed : Mixed stay (items come) (items news) =
    subst (λ all. Mixed stay (items come) (items all)) v.all
    (subst (λ left. Mixed stay (items left) (items (all_own v.visits))) (left_is kept sup new root news come v read.comes)
    (mixed_visits shared sup kept new v.visits fs v.matches read.keeps.each)) in
    merge_same stay was_stay (items gone) (items come) (items olds) (items news) old_mixed new_mixed
    (order_of olds (walk_ascends sup old before olds read.was)) (order_of news (walk_ascends sup new root news read.is))
    (carried shared sup old new root.tree w.visits v.visits es fs w.matches v.matches old_of both.alike both.is both.stays)
    (carried shared sup new old root.tree v.visits w.visits fs es v.matches w.matches new_of both.alike both.was
    (λ live of passes. sym (both.stays live of passes)))

-- what is made of each item, in the order that the items have
pub merged_by : {Y : Type 0} (f : Located → Option Y) (later same : Y → Y → Bool) → TellsApart later same → (olds gone come news : List Located)
    → (m : Merges olds gone come news) → InOrder later (filter_map f olds) → InOrder later (filter_map f news)
    → IsInOrder later (filter (λ y. not (list_any (λ one. same one y) (filter_map f gone))) (filter_map f olds) ++ filter_map f come)
    (filter_map f news)
merged_by f later same apart olds gone come news m before after =
    let stay = filter_map f m.stay in
    let left = filter_gone later same apart stay (filter_map f gone) (filter_map f olds) (mixed_map f m.stay gone olds m.was) before in
    record {
      all = subst (λ some. IsPermutation (some ++ filter_map f come) (filter_map f news)) (sym left)
          (mixed_permutes stay (filter_map f come) (filter_map f news) (mixed_map f m.stay come news m.is));
      ascends = pairs_of later (filter_map f news) after;
    }

pub merges : MergedLaw
merges shared kept sup old new before root olds news gone come read =
    let m = merge_of shared kept sup old new before root olds news gone come read in
    let left = filter_gone stands_before same_place (by_key place) m.stay (items gone) (items olds) m.was m.before in
    record {
      all = subst (λ some. IsPermutation (some ++ items come) (items news)) (sym left) (mixed_permutes m.stay (items come) (items news) m.is);
      ascends = pairs_of stands_before (items news) m.after;
    }
  where
    place : Located → Key
    place one = one.key

    same_place : Located → Located → Bool
    same_place a b = key_same a.key b.key

-- The records of the walk that keeps the shared blocks are those of the pairs that are not shared.
use Rattle.std.proofs.Common.{◌≡◌, ℕ, suc, ◌+◌, ◌*◌, ◌≤◌, ◌==◌, Bool, true, false, not, ◌&&◌, ◌||◌, List, [], ◌∷◌, ◌++◌, inl, inr, refl, ap, sym, subst, ◌∙◌, arith}
use Rattle.std.specs.Prelude.{Option, Some, None, is_some, Result, Ok, Err, length, map, if◌then◌else◌}
use Rattle.std.specs.List.{AllByRecursion, cons_option, filter, filter_map, flat_map, fold, list_any}
use Rattle.std.proofs.lemmas.Bool.{eqb-true}
use Rattle.std.proofs.lemmas.Bool.Decides.{nat_tests}
use Rattle.std.proofs.lemmas.List.Elements.{filter-append, filter_map-append}
use Rattle.touched_blocks.proofs.Among.{some_same as some_live}
use Rattle.verdict.specs.Rules.{and_then}
use Rattle.verdict.specs.declared.finding.Finding.{Finding}
use Rattle.verdict.specs.declared.key.Key.{Key}
use Rattle.verdict.specs.declared.place.At.{At}
use Rattle.super_reader.specs.Superblock.{item_place}
use Rattle.super_reader.specs.declared.Super.{Super}
use Rattle.live_index.specs.Pairs.{Pairs}
use Rattle.live_index.specs.declared.live.Live.{Live}
use Rattle.node_reader.specs.Layout.{LeafItem, items_of, pointers_of}
use Rattle.node_reader.specs.Stored.{Stored, block_in}
use Rattle.node_reader.specs.declared.expect.Expect.{Expect}
use Rattle.node_reader.specs.declared.expect.Pointer.{Pointer}
use Rattle.records.specs.Item.{item_record}
use Rattle.records.specs.Part.{Located}
use Rattle.records.specs.Seen.{Seen}
use Rattle.records.specs.Seen.Seen.{BlockSeen, ItemSeen, PointerSeen}
use Rattle.records.specs.Walk.{Records, behind, block_at, each, entry_records, just, leaf_record, leaf_records, own_records, pointer_records, walk_of}
use Rattle.records.specs.WalkLaw.{visited}
use Rattle.block_source.specs.Counts.{after_block, with_read}
use Rattle.block_source.proofs.Counting.{block_two}
use Rattle.tree_laws.specs.Keeping.{OneOf, live_at}
use Rattle.tree_laws.specs.LivePairs.{live_in}
use Rattle.tree_laws.specs.Skips.{Kept, nothing, own_of}
use Rattle.tree_laws.specs.Unshared.{AreOfPairs, ReadsTwiceLaw, UnsharedLaw, is_block_seen, item_of_pairs, item_seen, items_in, pair_seen}
use Rattle.tree_laws.proofs.Lives.{NoBlocks, entries_none, lives_are, ok_same}
use Rattle.tree_laws.proofs.Skipping.{own_or, pick, unkept_in, unkept_is}
use Rattle.tree_laws.proofs.Trails.{Matches, Tells, Trail, Visit, all_own, tells, trail_of}
use Rattle.tree_laws.proofs.Within.{one_own}

-- the items among records stand in the leaf of a tree at an address
abbrev pub AllIn : ℕ → ℕ → List Seen → Type 0
AllIn tree address [] = Unit {0}
AllIn tree address (ItemSeen one ∷ more) = ((one.tree ≡ tree) × (one.block ≡ address)) × AllIn tree address more
AllIn tree address (other ∷ more) = AllIn tree address more

-- the own records of a block
pub record IsOwn (sup : Super) (e : Expect) (own : List Seen) : Type 0 where
  pub bytes : List ℕ
  pub entries : List Seen
  pub own_is : own ≡ BlockSeen (block_at e bytes) ∷ entries
  pub none : NoBlocks entries
  pub inside : AllIn e.tree e.address entries

leaf_in : (at : At) (items : List LeafItem) (entries : List Seen) → each (λ item. just (leaf_record at item)) items ≡ Ok entries → AllIn at.tree at.block entries
leaf_in at [] entries is = let none : [] ≡ entries = cc in subst (AllIn at.tree at.block) none tt
leaf_in at (item ∷ items) entries is =
    let rest = one_own item at (item_record at item.key item.bytes) (each (λ item. just (leaf_record at item)) items) entries is in
    subst (AllIn at.tree at.block) rest.3 ((refl, refl), leaf_in at items rest.1 rest.2)

node_in : (e : Expect) (pointers : List Pointer) → AllIn e.tree e.address (pointer_records e pointers)
node_in e [] = tt
node_in e (pointer ∷ pointers) = node_in e pointers

entries_in : (sup : Super) (e : Expect) (bytes : List ℕ) (entries : List Seen) → entry_records sup e bytes ≡ Ok entries → AllIn e.tree e.address entries
unfolding leaf_records
entries_in sup e bytes entries is = by (e.level == 0) is
  where
    by : (leaf : Bool) → (if leaf then each (λ item. just (leaf_record (item_place sup e.tree e.address e.generation) item)) (items_of bytes) else Ok (pointer_records e (pointers_of bytes))) ≡ Ok entries
        → AllIn e.tree e.address entries
    by true is = leaf_in (item_place sup e.tree e.address e.generation) (items_of bytes) entries is
    by false is = let same : pointer_records e (pointers_of bytes) ≡ entries = cc in subst (AllIn e.tree e.address) same (node_in e (pointers_of bytes))

own_is : (sup : Super) (stored : Stored) (e : Expect) (own : List Seen) → own_of sup stored e ≡ Ok own → IsOwn sup e own
unfolding own_records behind
own_is sup stored e own is = by (block_in stored sup.fsid e) is
  where
    by_entries : (bytes : List ℕ) (entries : Records) → entry_records sup e bytes ≡ entries → behind (BlockSeen (block_at e bytes) ∷ []) entries ≡ Ok own → IsOwn sup e own
    by_entries bytes (Err finding) has is = absurd (cc)
    by_entries bytes (Ok entries) has is = record {
      bytes = bytes;
      entries = entries;
      own_is = ok_same own (BlockSeen (block_at e bytes) ∷ entries) (sym is);
      none = entries_none sup e bytes entries has;
      inside = entries_in sup e bytes entries has;
    }

    by : (block : Result (List ℕ) Finding) → and_then block (own_records sup e) ≡ Ok own → IsOwn sup e own
    by (Err finding) is = absurd (cc)
    by (Ok bytes) is = by_entries bytes (entry_records sup e bytes) refl is

-- what is no block has no pair and is not counted
pair_none : (pairs : Pairs) (records : List Seen) → NoBlocks records → filter_map (pair_seen pairs) records ≡ []
pair_none pairs [] none = refl
pair_none pairs (BlockSeen one ∷ more) none = elim none [ ]
pair_none pairs (PointerSeen one ∷ more) none = pair_none pairs more none
pair_none pairs (ItemSeen one ∷ more) none = pair_none pairs more none

count_none : (records : List Seen) → NoBlocks records → filter is_block_seen records ≡ []
count_none [] none = refl
count_none (BlockSeen one ∷ more) none = elim none [ ]
count_none (PointerSeen one ∷ more) none = count_none more none
count_none (ItemSeen one ∷ more) none = count_none more none

-- whether one of these pairs is of a tree and at an address
abbrev pub hits : ℕ → ℕ → List Live → Bool
hits tree address lives = list_any (λ (live : Live). live.tree == tree && live.address == address) lives

-- the items of one leaf, by whether its pair is among some
items_own : (lives : List Live) (tree address : ℕ) (records : List Seen) → AllIn tree address records → NoBlocks records
    → filter_map (item_of_pairs lives) records ≡ (if hits tree address lives then filter_map item_seen records else [])
items_own lives tree address [] all none = nothing_left (hits tree address lives)
  where
    none_of : List Located
    none_of = []

    nothing_left : (b : Bool) → none_of ≡ (if b then none_of else none_of)
    nothing_left true = refl
    nothing_left false = refl
items_own lives tree address (BlockSeen one ∷ more) all none = elim none [ ]
items_own lives tree address (PointerSeen one ∷ more) all none = items_own lives tree address more all none
items_own lives tree address (ItemSeen one ∷ more) all none =
    ap (λ b. cons_option (if b then Some one else None) (filter_map (item_of_pairs lives) more)) here
    ∙ by (hits tree address lives) (items_own lives tree address more all.1 none)
  where
    here : hits one.tree one.block lives ≡ hits tree address lives
    here = ap (λ t. hits t one.block lives) all.0.0 ∙ ap (λ a. hits tree a lives) all.0.1

    by : (b : Bool) → filter_map (item_of_pairs lives) more ≡ (if b then filter_map item_seen more else [])
        → cons_option (if b then Some one else None) (filter_map (item_of_pairs lives) more) ≡ (if b then one ∷ filter_map item_seen more else [])
    by true rest = ap (λ items. one ∷ items) rest
    by false rest = rest

module _ (pairs : Pairs) (shared : Live → Bool) (kept : Kept) (sup : Super) (stored : Stored) where
  abbrev pub Known : Expect → Type 0
  Known v = pairs v.tree v.address ≡ Some (live_at sup stored v)

  abbrev pub IsKept : Expect → Type 0
  IsKept v = is_some (kept v) ≡ shared (live_at sup stored v)

  abbrev pub rest : List Visit → List Seen
  rest visits = flat_map (pick kept nothing) visits

  abbrev pub fresh : List Expect → List Live
  fresh es = filter (λ live. not (shared live)) (map (live_at sup stored) es)

  -- a kept block gives nothing, and another its own records
  own_kept : (k : Option Key) (b : Bool) (own : List Seen) → is_some k ≡ b → own_or k own [] ≡ (if b then [] else own)
  own_kept None true own is = absurd (cc)
  own_kept None false own is = refl
  own_kept (Some last) true own is = refl
  own_kept (Some last) false own is = absurd (cc)

  picked : (v : Visit) (e : Expect) → v.e ≡ e → IsKept e → pick kept nothing v ≡ (if shared (live_at sup stored e) then [] else v.own)
  picked v e same is = ap (λ x. own_or (kept x) v.own []) same ∙ own_kept (kept e) (shared (live_at sup stored e)) v.own is

  blocks_are : (visits : List Visit) (es : List Expect) → Matches sup stored visits es → AllByRecursion Known es → AllByRecursion IsKept es → filter_map (pair_seen pairs) (rest visits) ≡ fresh es
  blocks_are [] [] m known kept_is = refl
  blocks_are [] (e ∷ es) m known kept_is = elim m [ ]
  blocks_are (v ∷ visits) [] m known kept_is = elim m [ ]
  blocks_are (v ∷ visits) (e ∷ es) m known kept_is =
      ap (λ records. filter_map (pair_seen pairs) (records ++ rest visits)) (picked v e m.0.0 kept_is.0)
      ∙ by (shared (live_at sup stored e)) (blocks_are visits es m.1 known.1 kept_is.1)
    where
      own : IsOwn sup e v.own
      own = own_is sup stored e v.own m.0.1

      by : (b : Bool) → filter_map (pair_seen pairs) (rest visits) ≡ fresh es
          → filter_map (pair_seen pairs) ((if b then [] else v.own) ++ rest visits) ≡ (if not b then live_at sup stored e ∷ fresh es else fresh es)
      by true later = later
      by false later =
          ap (λ records. filter_map (pair_seen pairs) (records ++ rest visits)) own.own_is
          ∙ (ap (λ o. cons_option o (filter_map (pair_seen pairs) (own.entries ++ rest visits))) known.0
          ∙ ap (λ lives. live_at sup stored e ∷ lives) (filter_map-append (pair_seen pairs) own.entries (rest visits)
          ∙ (ap (λ lives. lives ++ filter_map (pair_seen pairs) (rest visits)) (pair_none pairs own.entries own.none) ∙ later)))

  count_is : (visits : List Visit) (es : List Expect) → Matches sup stored visits es → AllByRecursion IsKept es → length (filter is_block_seen (rest visits)) ≡ length (fresh es)
  count_is [] [] m kept_is = refl
  count_is [] (e ∷ es) m kept_is = elim m [ ]
  count_is (v ∷ visits) [] m kept_is = elim m [ ]
  count_is (v ∷ visits) (e ∷ es) m kept_is =
      ap (λ records. length (filter is_block_seen (records ++ rest visits))) (picked v e m.0.0 kept_is.0)
      ∙ by (shared (live_at sup stored e)) (count_is visits es m.1 kept_is.1)
    where
      own : IsOwn sup e v.own
      own = own_is sup stored e v.own m.0.1

      by : (b : Bool) → length (filter is_block_seen (rest visits)) ≡ length (fresh es)
          → length (filter is_block_seen ((if b then [] else v.own) ++ rest visits)) ≡ length (if not b then live_at sup stored e ∷ fresh es else fresh es)
      by true later = later
      by false later =
          ap (λ records. length (filter is_block_seen (records ++ rest visits))) own.own_is
          ∙ ap suc (ap length (filter-append is_block_seen own.entries (rest visits))
          ∙ (ap (λ records. length (records ++ filter is_block_seen (rest visits))) (count_none own.entries own.none) ∙ later))

  -- whether the pair of a block is among those that are not shared
  hits_none : (e : Expect) → Known e → shared (live_at sup stored e) ≡ true → (es : List Expect) → AllByRecursion Known es → hits e.tree e.address (fresh es) ≡ false
  hits_none e known is [] all = refl
  hits_none e known is (w ∷ es) all = by (shared (live_at sup stored w)) refl (hits_none e known is es all.1)
    where
      same : w.tree ≡ e.tree → w.address ≡ e.address → shared (live_at sup stored w) ≡ true
      same tree address =
          let lives : live_at sup stored w ≡ live_at sup stored e =
          some_live (live_at sup stored w) (live_at sup stored e) (sym all.0 ∙ (ap (λ t. pairs t w.address) tree ∙ (ap (pairs e.tree) address ∙ known))) in
          ap shared lives ∙ is

      apart : (t a : Bool) → (w.tree == e.tree) ≡ t → (w.address == e.address) ≡ a → shared (live_at sup stored w) ≡ false → (t && a) ≡ false
      apart true true t a free = let h = same (eqb-true w.tree e.tree t) (eqb-true w.address e.address a) in absurd (cc)
      apart true false t a free = refl
      apart false a t at free = refl

      by : (b : Bool) → shared (live_at sup stored w) ≡ b → hits e.tree e.address (fresh es) ≡ false → hits e.tree e.address (if not b then live_at sup stored w ∷ fresh es else fresh es) ≡ false
      by true is later = later
      by false is later = rw (apart (w.tree == e.tree) (w.address == e.address) refl refl is) later

  hits_one : (e : Expect) → shared (live_at sup stored e) ≡ false → (es : List Expect) → OneOf (λ w. w ≡ e) es → hits e.tree e.address (fresh es) ≡ true
  hits_one e free [] one = elim one [ ]
  hits_one e free (w ∷ es) (inl here) =
      let new : shared (live_at sup stored w) ≡ false = ap (λ x. shared (live_at sup stored x)) here ∙ free in
      ap (λ b. hits e.tree e.address (if not b then live_at sup stored w ∷ fresh es else fresh es)) new
      ∙ ap (λ b. b || hits e.tree e.address (fresh es)) (ap (λ (x : Expect). x.tree == e.tree && x.address == e.address) here ∙ itself e.tree e.address)
    where
      itself : (t a : ℕ) → (t == t && a == a) ≡ true
      itself t a = grind (arith, nat_tests)
  hits_one e free (w ∷ es) (inr later) = by (not (shared (live_at sup stored w))) (w.tree == e.tree && w.address == e.address) (hits_one e free es later)
    where
      by : (b c : Bool) → hits e.tree e.address (fresh es) ≡ true → hits e.tree e.address (if b then live_at sup stored w ∷ fresh es else fresh es) ≡ true
      by true c there = or_true (w.tree == e.tree && w.address == e.address) (hits e.tree e.address (fresh es)) there
        where
          or_true : (a b : Bool) → b ≡ true → (a || b) ≡ true
          or_true true b is = refl
          or_true false b is = is
      by false c there = there

  -- the items of the whole walk in the leaves of pairs that are not shared
  items_are : (all : List Expect) → AllByRecursion Known all → (visits : List Visit) (es : List Expect) → Matches sup stored visits es → AllByRecursion Known es → AllByRecursion IsKept es
      → ((w : Expect) → OneOf (λ x. x ≡ w) es → OneOf (λ x. x ≡ w) all) → filter_map item_seen (rest visits) ≡ items_in (fresh all) (all_own visits)
  items_are all whole [] [] m known kept_is into = refl
  items_are all whole [] (e ∷ es) m known kept_is into = elim m [ ]
  items_are all whole (v ∷ visits) [] m known kept_is into = elim m [ ]
  items_are all whole (v ∷ visits) (e ∷ es) m known kept_is into =
      ap (λ records. filter_map item_seen (records ++ rest visits)) (picked v e m.0.0 kept_is.0)
      ∙ (by (shared (live_at sup stored e)) refl (items_are all whole visits es m.1 known.1 kept_is.1 (λ w h. into w (inr h)))
      ∙ sym (ap (λ records. items_in (fresh all) (records ++ all_own visits)) own.own_is ∙ filter_map-append (item_of_pairs (fresh all)) own.entries (all_own visits)))
    where
      own : IsOwn sup e v.own
      own = own_is sup stored e v.own m.0.1

      inner : items_in (fresh all) own.entries ≡ (if hits e.tree e.address (fresh all) then filter_map item_seen own.entries else [])
      inner = items_own (fresh all) e.tree e.address own.entries own.inside own.none

      by : (b : Bool) → shared (live_at sup stored e) ≡ b → filter_map item_seen (rest visits) ≡ items_in (fresh all) (all_own visits)
          → filter_map item_seen ((if b then [] else v.own) ++ rest visits) ≡ items_in (fresh all) own.entries ++ items_in (fresh all) (all_own visits)
      by true is later =
          later ∙ sym (ap (λ items. items ++ items_in (fresh all) (all_own visits)) (inner ∙ ap (λ b. if b then filter_map item_seen own.entries else []) (hits_none e known.0 is all whole)))
      by false is later =
          ap (λ records. filter_map item_seen (records ++ rest visits)) own.own_is
          ∙ (filter_map-append item_seen own.entries (rest visits)
          ∙ (ap (λ items. filter_map item_seen own.entries ++ items) later
          ∙ ap (λ items. items ++ items_in (fresh all) (all_own visits)) (sym (inner ∙ ap (λ b. if b then filter_map item_seen own.entries else []) (hits_one e is all (into e (inl refl)))))))

pub unshared_are : UnsharedLaw
unshared_are pairs shared kept sup stored root whole records stands kept_is walk is =
    by (trail_of sup stored root) (tells sup stored root) (sym (unkept_is kept nothing sup stored root) ∙ is)
  where
    es : List Expect
    es = visited sup stored root

    lives : filter (λ live. not (shared live)) (live_in whole) ≡ fresh pairs shared kept sup stored es
    lives = ap (filter (λ live. not (shared live))) (lives_are sup stored root whole walk)

    by : (trail : Trail) → Tells sup stored trail (walk_of sup stored root) (visited sup stored root) → unkept_in kept nothing trail ≡ Ok records
        → AreOfPairs pairs (filter (λ live. not (shared live)) (live_in whole)) whole records
    by (Err finding) t is = absurd (cc)
    by (Ok visits) t is =
        let same : rest pairs shared kept sup stored visits ≡ records = ok_same (rest pairs shared kept sup stored visits) records is in
        let all : all_own visits ≡ whole = ok_same (all_own visits) whole (sym t.0 ∙ walk) in
        record {
          blocks = ap (filter_map (pair_seen pairs)) (sym same) ∙ (blocks_are pairs shared kept sup stored visits es t.1 stands.each.each kept_is.each ∙ sym lives);
          count = ap (λ r. length (filter is_block_seen r)) (sym same) ∙ (count_is pairs shared kept sup stored visits es t.1 kept_is.each ∙ ap length (sym lives));
          items = ap (filter_map item_seen) (sym same)
              ∙ (items_are pairs shared kept sup stored es stands.each.each visits es t.1 stands.each.each kept_is.each (λ w h. h)
              ∙ (ap (items_in (fresh pairs shared kept sup stored es)) all ∙ ap (λ ls. items_in ls whole) (sym lives)));
        }

more_two : (m n k l : ℕ) → m ≤ n + 2 → k ≤ m + 2 * l → k ≤ n + 2 * suc l
more_two m n k l first rest = omega (arith, first, rest)

pub reads_twice : ReadsTwiceLaw
reads_twice source reads [] = omega arith
reads_twice source reads (BlockSeen block ∷ more) =
    let next = after_block source block.address reads in
    more_two next reads (fold (with_read source) next more) (length (filter is_block_seen more)) (block_two source block.address reads) (reads_twice source next more)
reads_twice source reads (PointerSeen one ∷ more) = reads_twice source reads more
reads_twice source reads (ItemSeen one ∷ more) = reads_twice source reads more

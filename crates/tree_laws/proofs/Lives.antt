-- The live pairs of a walk's records are those of the blocks that it comes to.
use Rattle.std.proofs.Common.{◌≡◌, ℕ, zero, suc, ◌<◌, ◌==◌, Bool, true, false, not, ◌||◌, List, [], ◌∷◌, ◌++◌, refl, ap, sym, subst, ◌∙◌, arith, if◌then◌else◌}
use Rattle.std.proofs.lemmas.Bool.Decides.{nat_tests}
use Rattle.std.specs.Prelude.{nat_le, Ok, Err, map}
use Rattle.verdict.proofs.Lists.{append_append, append_none}
use Rattle.verdict.specs.declared.place.At.{At}
use Rattle.super_reader.specs.declared.Super.{Super}
use Rattle.super_reader.specs.Superblock.{item_place}
use Rattle.live_index.specs.declared.live.Live.{Live}
use Rattle.node_reader.specs.Layout.{LeafItem, items_of, pointers_of}
use Rattle.node_reader.specs.Stored.{Stored}
use Rattle.node_reader.specs.declared.expect.Expect.{Expect}
use Rattle.node_reader.specs.declared.expect.Pointer.{Pointer}
use Rattle.records.specs.Item.{item_record}
use Rattle.records.specs.Seen.{Seen}
use Rattle.records.specs.Seen.Seen.{BlockSeen, PointerSeen, ItemSeen}
use Rattle.records.specs.Walk.{Records, block_at, child_of, children_of, each, entry_records, high_of, just, leaf_record, leaf_records, pointer_records, walk_of}
use Rattle.records.specs.WalkLaw.{visited}
use Rattle.records.specs.declared.rec.WalkedBlock.{WalkedBlock}
use Rattle.tree_laws.specs.Keeping.{live_at}
use Rattle.tree_laws.specs.LivePairs.{last_key, live_in, live_of, records_in}
use Rattle.tree_laws.specs.TableLaw.{LivesLaw}
use Rattle.tree_laws.proofs.Accepted.{Accepts, accepts, visit_of, walk_accepted}
use Rattle.tree_laws.proofs.Tables.{Any, any_each}
use Rattle.tree_laws.proofs.Trails.{Matches, Tells, Trail, Visit, after, all_own, all_own_append, tells, then_trail, trail_and, trail_below, trail_of, trails}
use Rattle.tree_laws.proofs.Visiting.{Visits, visits_from, visits_then_first, visits_then_later}
use Rattle.tree_laws.proofs.Within.{one_own, rest_of}

-- none of these is the record of a block
abbrev pub NoBlocks : List Seen → Type 0
NoBlocks [] = Unit {0}
NoBlocks (BlockSeen one ∷ more) = ⊥
NoBlocks (PointerSeen one ∷ more) = NoBlocks more
NoBlocks (ItemSeen one ∷ more) = NoBlocks more

-- the blocks among these are of a tree and below a level
abbrev pub Inside : ℕ → ℕ → List Seen → Type 0
Inside tree n [] = Unit {0}
Inside tree n (BlockSeen one ∷ more) = ((one.tree ≡ tree) × (one.level < n)) × Inside tree n more
Inside tree n (PointerSeen one ∷ more) = Inside tree n more
Inside tree n (ItemSeen one ∷ more) = Inside tree n more

-- the first of these, if there is one, is a block that is not below one of a tree and a level
abbrev pub Stops : ℕ → ℕ → List Seen → Type 0
Stops tree level [] = Unit {0}
Stops tree level (BlockSeen one ∷ more) = (not (one.tree == tree) || nat_le level one.level) ≡ true
Stops tree level (PointerSeen one ∷ more) = ⊥
Stops tree level (ItemSeen one ∷ more) = ⊥

pub inside_none : (tree n : ℕ) (records : List Seen) → NoBlocks records → Inside tree n records
inside_none tree n [] none = tt
inside_none tree n (BlockSeen one ∷ more) none = elim none [ ]
inside_none tree n (PointerSeen one ∷ more) none = inside_none tree n more none
inside_none tree n (ItemSeen one ∷ more) none = inside_none tree n more none

pub inside_append : (tree n : ℕ) (first later : List Seen) → Inside tree n first → Inside tree n later → Inside tree n (first ++ later)
inside_append tree n [] later a b = b
inside_append tree n (BlockSeen one ∷ more) later a b = (a.0, inside_append tree n more later a.1 b)
inside_append tree n (PointerSeen one ∷ more) later a b = inside_append tree n more later a b
inside_append tree n (ItemSeen one ∷ more) later a b = inside_append tree n more later a b

inside_more : (tree n : ℕ) (records : List Seen) → Inside tree n records → Inside tree (suc n) records
inside_more tree n [] all = tt
inside_more tree n (BlockSeen one ∷ more) all = ((all.0.0, up one.level all.0.1), inside_more tree n more all.1)
  where
    up : (m : ℕ) → m < n → m < suc n
    up m is = omega arith
inside_more tree n (PointerSeen one ∷ more) all = inside_more tree n more all
inside_more tree n (ItemSeen one ∷ more) all = inside_more tree n more all

pub stops_less : (tree level : ℕ) (rest : List Seen) → Stops tree (suc level) rest → Stops tree level rest
stops_less tree level [] stops = tt
stops_less tree level (BlockSeen one ∷ more) stops = down (one.tree == tree) one.level stops
  where
    down : (b : Bool) (m : ℕ) → (not b || nat_le (suc level) m) ≡ true → (not b || nat_le level m) ≡ true
    down false m is = refl
    down true m is = grind (arith, nat_tests)
stops_less tree level (PointerSeen one ∷ more) stops = elim stops [ ]
stops_less tree level (ItemSeen one ∷ more) stops = elim stops [ ]

-- what is below a block ends before a block that is not
pub records_until : (block : WalkedBlock) (records rest : List Seen) → Inside block.tree block.level records → Stops block.tree block.level rest → records_in block (records ++ rest) ≡ records
unfolding records_in
records_until block [] [] inside stops = refl
records_until block [] (BlockSeen one ∷ more) inside stops = rw stops refl
records_until block [] (PointerSeen one ∷ more) inside stops = elim stops [ ]
records_until block [] (ItemSeen one ∷ more) inside stops = elim stops [ ]
records_until block (BlockSeen one ∷ records) rest inside stops =
    let h : (not (one.tree == block.tree) || nat_le block.level one.level) ≡ false = within one.tree block.tree one.level block.level inside.0.0 inside.0.1 in
    rw (h, records_until block records rest inside.1 stops) refl
  where
    within : (t u m n : ℕ) → t ≡ u → m < n → (not (t == u) || nat_le n m) ≡ false
    within t u m n same low = grind (arith, nat_tests)
records_until block (PointerSeen one ∷ records) rest inside stops = ap (λ more. PointerSeen one ∷ more) (records_until block records rest inside stops)
records_until block (ItemSeen one ∷ records) rest inside stops = ap (λ more. ItemSeen one ∷ more) (records_until block records rest inside stops)

-- records that are no blocks give no live pairs
pub lives_none : (records rest : List Seen) → NoBlocks records → live_in (records ++ rest) ≡ live_in rest
unfolding live_in
lives_none [] rest none = refl
lives_none (BlockSeen one ∷ more) rest none = elim none [ ]
lives_none (PointerSeen one ∷ more) rest none = lives_none more rest none
lives_none (ItemSeen one ∷ more) rest none = lives_none more rest none

-- what a block has is no block
leaf_none : (at : At) (items : List LeafItem) (entries : List Seen) → each (λ item. just (leaf_record at item)) items ≡ Ok entries → NoBlocks entries
leaf_none at [] entries is = let none : [] ≡ entries = cc in subst NoBlocks none tt
leaf_none at (item ∷ items) entries is =
    let rest = one_own item at (item_record at item.key item.bytes) (each (λ item. just (leaf_record at item)) items) entries is in
    subst NoBlocks rest.3 (leaf_none at items rest.1 rest.2)

node_none : (e : Expect) (pointers : List Pointer) → NoBlocks (pointer_records e pointers)
node_none e [] = tt
node_none e (pointer ∷ pointers) = node_none e pointers

pub entries_none : (sup : Super) (e : Expect) (bytes : List ℕ) (entries : List Seen) → entry_records sup e bytes ≡ Ok entries → NoBlocks entries
unfolding leaf_records
entries_none sup e bytes entries is = by (e.level == 0) is
  where
    by : (leaf : Bool) → (if leaf then each (λ item. just (leaf_record (item_place sup e.tree e.address e.generation) item)) (items_of bytes) else Ok (pointer_records e (pointers_of bytes))) ≡ Ok entries
        → NoBlocks entries
    by true is = leaf_none (item_place sup e.tree e.address e.generation) (items_of bytes) entries is
    by false is = let same : pointer_records e (pointers_of bytes) ≡ entries = cc in subst NoBlocks same (node_none e (pointers_of bytes))

abbrev pub ok_records : List Seen → Records
ok_records records = Ok records

pub ok_same : (a b : List Seen) → ok_records a ≡ ok_records b → a ≡ b
ok_same a b is = cc

module _ (sup : Super) (stored : Stored) where
  -- the live pairs of blocks
  abbrev pub lives : List Visit → List Live
  lives visits = map (λ (v : Visit). live_at sup stored v.e) visits

  -- what follows from the records of blocks below one of a tree and a level
  pub record Under (tree level : ℕ) (visits : List Visit) : Type 0 where
    pub inside : Inside tree level (all_own visits)
    pub gives : (rest : List Seen) → Stops tree level rest → live_in (all_own visits ++ rest) ≡ lives visits ++ live_in rest

  -- the same of blocks on a level, with those below them
  pub record Placed (tree level : ℕ) (visits : List Visit) : Type 0 where
    pub inside : Inside tree (suc level) (all_own visits)
    pub gives : (rest : List Seen) → Stops tree level rest → live_in (all_own visits ++ rest) ≡ lives visits ++ live_in rest
    pub heads : (rest : List Seen) → Stops tree level rest → Stops tree level (all_own visits ++ rest)

  abbrev pub UnderAll : ℕ → ℕ → Trail → Type 0
  UnderAll tree level (Err finding) = ⊥
  UnderAll tree level (Ok visits) = Under tree level visits

  abbrev pub PlacedAll : ℕ → ℕ → Trail → Type 0
  PlacedAll tree level (Err finding) = ⊥
  PlacedAll tree level (Ok visits) = Placed tree level visits

  lives_append : (first later : List Visit) → lives (first ++ later) ≡ lives first ++ lives later
  lives_append [] later = refl
  lives_append (one ∷ first) later = ap (λ more. live_at sup stored one.e ∷ more) (lives_append first later)

  pub placed_append : (tree level : ℕ) (first later : List Visit) → Placed tree level first → Placed tree level later → Placed tree level (first ++ later)
  placed_append tree level first later a b =
      let own : all_own (first ++ later) ≡ all_own first ++ all_own later = all_own_append first later in
      let joined : (rest : List Seen) → all_own (first ++ later) ++ rest ≡ all_own first ++ (all_own later ++ rest) =
      λ rest. ap (λ records. records ++ rest) own ∙ append_append (all_own first) (all_own later) rest in
      record {
        inside = subst (Inside tree (suc level)) (sym own) (inside_append tree (suc level) (all_own first) (all_own later) a.inside b.inside);
        gives = λ rest stops.
            ap live_in (joined rest)
            ∙ (a.gives (all_own later ++ rest) (b.heads rest stops)
            ∙ (ap (λ more. lives first ++ more) (b.gives rest stops)
            ∙ (sym (append_append (lives first) (lives later) (live_in rest)) ∙ ap (λ ls. ls ++ live_in rest) (sym (lives_append first later)))));
        heads = λ rest stops. subst (Stops tree level) (sym (joined rest)) (a.heads (all_own later ++ rest) (b.heads rest stops));
      }

  placed_after : (tree level : ℕ) (visits : List Visit) (later : Trail) → Placed tree level visits → PlacedAll tree level later → PlacedAll tree level (after visits later)
  unfolding after
  placed_after tree level visits (Err finding) a b = b
  placed_after tree level visits (Ok others) a b = placed_append tree level visits others a b

  placed_then : (tree level : ℕ) (first later : Trail) → PlacedAll tree level first → PlacedAll tree level later → PlacedAll tree level (then_trail first later)
  placed_then tree level (Err finding) later a b = a
  placed_then tree level (Ok visits) later a b = placed_after tree level visits later a b

  pub placed_none : (tree level : ℕ) → Placed tree level []
  placed_none tree level = record { inside = tt; gives = λ rest stops. refl; heads = λ rest stops. stops }

  abbrev pub from : ℕ → Expect → Trail
  from level = trail_and (trail_below level sup stored) sup stored

  placed_children : (tree level : ℕ) → ((c : Expect) → c.tree ≡ tree → c.level ≡ level → Visits (Any sup stored) (from level c) → PlacedAll tree level (from level c))
      → (e : Expect) → e.tree ≡ tree → (pointers : List Pointer) → Visits (Any sup stored) (trails (from level) (children_of level e pointers)) → PlacedAll tree level (trails (from level) (children_of level e pointers))
  placed_children tree level placed e at [] all = placed_none tree level
  placed_children tree level placed e at (pointer ∷ pointers) all =
      let c = child_of level e pointer (high_of pointers e.high) in
      let rest = trails (from level) (children_of level e pointers) in
      placed_then tree level (from level c) rest (placed c at refl (visits_then_first (Any sup stored) (from level c) rest all))
      (placed_children tree level placed e at pointers (visits_then_later (Any sup stored) (from level c) rest all))

  pub under_placed : (tree level : ℕ) (trail : Trail) → PlacedAll tree level trail → UnderAll tree (suc level) trail
  under_placed tree level (Err finding) a = a
  under_placed tree level (Ok visits) a = record { inside = a.inside; gives = λ rest stops. a.gives rest (stops_less tree level rest stops) }

  -- the walk of a trail
  pub walk_told : (e : Expect) (visits : List Visit) → trail_of sup stored e ≡ Ok visits → walk_of sup stored e ≡ Ok (all_own visits)
  walk_told e visits is = (subst (λ trail. Tells sup stored trail (walk_of sup stored e) (visited sup stored e)) is (tells sup stored e)).0

  -- the live pair of a block that is accepted
  pub live_is : (e : Expect) (a : Accepts sup stored e) (visits : List Visit) (rest : List Seen)
      → walk_of sup stored e ≡ Ok (BlockSeen (block_at e a.bytes) ∷ (a.entries ++ all_own visits))
      → records_in (block_at e a.bytes) ((a.entries ++ all_own visits) ++ rest) ≡ a.entries ++ all_own visits
      → live_of (block_at e a.bytes) ((a.entries ++ all_own visits) ++ rest) ≡ live_at sup stored e
  unfolding last_key
  live_is e a visits rest walk has = rw (has, walk, a.is) refl

  placed_block : (tree level : ℕ) (e : Expect) → e.tree ≡ tree → e.level ≡ level
      → ((bytes : List ℕ) → Visits (Any sup stored) (trail_below level sup stored e bytes) → UnderAll tree level (trail_below level sup stored e bytes))
      → Visits (Any sup stored) (from level e) → PlacedAll tree level (from level e)
  unfolding after live_in
  placed_block tree level e of_tree at under all =
      let a = accepts (Any sup stored) (trail_below level sup stored) sup stored e all in
      subst (PlacedAll tree level) (sym (walk_accepted (trail_below level sup stored) sup stored e a))
      (by a (trail_below level sup stored e a.bytes) (ap (λ n. trail_and (trail_below n sup stored) sup stored e) at ∙ walk_accepted (trail_below level sup stored) sup stored e a)
      (under a.bytes (rest_of (Any sup stored) (trail_below level sup stored) sup stored e a all)))
    where
      same_level : (n : ℕ) (b : Bool) → n ≡ level → (not b || nat_le level n) ≡ true
      same_level n false is = refl
      same_level n true is = grind (arith, nat_tests)

      lower : (n : ℕ) → n ≡ level → n < suc level
      lower n is = omega arith

      by : (a : Accepts sup stored e) (trail : Trail) → trail_of sup stored e ≡ after (visit_of e a.bytes a.entries ∷ []) trail → UnderAll tree level trail → PlacedAll tree level (after (visit_of e a.bytes a.entries ∷ []) trail)
      by a (Err finding) is u = u
      by a (Ok visits) is u =
          let block = block_at e a.bytes in
          let more = a.entries ++ all_own visits in
          let none : NoBlocks a.entries = entries_none sup e a.bytes a.entries a.has in
          let inside : Inside tree level more = inside_append tree level a.entries (all_own visits) (inside_none tree level a.entries none) u.inside in
          let inside_e : Inside e.tree e.level more = subst (λ n. Inside e.tree n more) (sym at) (subst (λ t. Inside t level more) (sym of_tree) inside) in
          let walk : walk_of sup stored e ≡ Ok (BlockSeen block ∷ more) = walk_told e (visit_of e a.bytes a.entries ∷ visits) is in
          let stop : (rest : List Seen) → Stops tree level rest → Stops e.tree e.level rest = λ rest stops. subst (λ n. Stops e.tree n rest) (sym at) (subst (λ t. Stops t level rest) (sym of_tree) stops) in
          record {
            inside = ((of_tree, lower e.level at), inside_more tree level more inside);
            gives = λ rest stops.
                ap (λ live. live ∷ live_in (more ++ rest)) (live_is e a visits rest walk (records_until block more rest inside_e (stop rest stops)))
                ∙ ap (λ ls. live_at sup stored e ∷ ls) (ap live_in (append_append a.entries (all_own visits) rest) ∙ (lives_none a.entries (all_own visits ++ rest) none ∙ u.gives rest stops));
            heads = λ rest stops. same_level e.level (e.tree == tree) at;
          }

  under_below : (tree level : ℕ) (e : Expect) → e.tree ≡ tree → (bytes : List ℕ) → Visits (Any sup stored) (trail_below level sup stored e bytes) → UnderAll tree level (trail_below level sup stored e bytes)
  unfolding trail_below
  under_below tree zero e of_tree bytes all = record { inside = tt; gives = λ rest stops. refl }
  under_below tree (suc level) e of_tree bytes all =
      under_placed tree level (trails (from level) (children_of level e (pointers_of bytes)))
      (placed_children tree level (λ c is at. placed_block tree level c is at (under_below tree level c is)) e of_tree (pointers_of bytes) all)

  pub placed : (e : Expect) → Visits (Any sup stored) (trail_of sup stored e) → PlacedAll e.tree e.level (trail_of sup stored e)
  placed e all = placed_block e.tree e.level e refl refl (under_below e.tree e.level e refl) all

  lives_matched : (visits : List Visit) (es : List Expect) → Matches sup stored visits es → lives visits ≡ map (live_at sup stored) es
  lives_matched [] [] m = refl
  lives_matched [] (e ∷ es) m = elim m [ ]
  lives_matched (v ∷ visits) [] m = elim m [ ]
  lives_matched (v ∷ visits) (e ∷ es) m = ap (λ w. live_at sup stored w ∷ lives visits) m.0.0 ∙ ap (λ ls. live_at sup stored e ∷ ls) (lives_matched visits es m.1)

  -- what follows of the records of a walk, before others
  pub record Told (root : Expect) (records : List Seen) : Type 0 where
    pub gives : (rest : List Seen) → Stops root.tree root.level rest → live_in (records ++ rest) ≡ map (live_at sup stored) (visited sup stored root) ++ live_in rest
    pub heads : (rest : List Seen) → Stops root.tree root.level rest → Stops root.tree root.level (records ++ rest)
    pub inside : Inside root.tree (suc root.level) records

  pub told : (root : Expect) (records : List Seen) → walk_of sup stored root ≡ Ok records → Told root records
  told root records is =
      let any = visits_from (Any sup stored) sup stored root (record { fine = rw is refl; each = any_each sup stored (visited sup stored root) }) in
      by (trail_of sup stored root) (tells sup stored root) (placed root any)
    where
      by : (trail : Trail) → Tells sup stored trail (walk_of sup stored root) (visited sup stored root) → PlacedAll root.tree root.level trail → Told root records
      by (Err finding) t p = elim p [ ]
      by (Ok visits) t p =
          let same : all_own visits ≡ records = ok_same (all_own visits) records (sym t.0 ∙ is) in
          let ls = lives_matched visits (visited sup stored root) t.1 in
          record {
            gives = λ rest stops. subst (λ records. live_in (records ++ rest) ≡ map (live_at sup stored) (visited sup stored root) ++ live_in rest) same (p.gives rest stops ∙ ap (λ l. l ++ live_in rest) ls);
            heads = λ rest stops. subst (λ records. Stops root.tree root.level (records ++ rest)) same (p.heads rest stops);
            inside = subst (Inside root.tree (suc root.level)) same p.inside;
          }

pub lives_are : LivesLaw
unfolding live_in
lives_are sup stored root records is =
    ap live_in (sym (append_none records)) ∙ ((told sup stored root records is).gives [] tt ∙ append_none (map (live_at sup stored) (visited sup stored root)))

-- The walks of a tree come to few blocks, by the pairs that change in it.
use Rattle.std.proofs.Common.{◌≡◌, ℕ, suc, ◌+◌, ◌*◌, ◌<◌, ◌≤◌, ◌==◌, ◌&&◌, Bool, true, false, List, [], ◌∷◌, length, refl, ap, sym, subst, ◌∙◌, arith}
use Rattle.std.proofs.lemmas.Bool.{eqb-true}
use Rattle.std.proofs.lemmas.Nat.{mul-le}
use Rattle.std.specs.Prelude.{Option, Some, None, Ok, map, if◌then◌else◌}
use Rattle.std.specs.List.{cons_option}
use Rattle.verdict.specs.Rules.{and_then}
use Rattle.live_index.specs.Pairs.{Pairs}
use Rattle.live_index.specs.declared.live.Live.{Live}
use Rattle.node_reader.specs.Stored.{Stored, stored_in}
use Rattle.node_reader.specs.declared.expect.Expect.{Expect}
use Rattle.records.specs.Seen.{Seen}
use Rattle.records.specs.Walk.{Records}
use Rattle.records.specs.Seen.Seen.{BlockSeen, ItemSeen, PointerSeen}
use Rattle.records.specs.declared.rec.WalkedBlock.{WalkedBlock}
use Rattle.tree_laws.specs.KeepingWalk.{skip_in}
use Rattle.tree_laws.specs.Keeping.{Under, anew_of}
use Rattle.tree_laws.specs.LivePairs.{Walked, live_in, table_of}
use Rattle.tree_laws.specs.OldSide.{kept_at}
use Rattle.tree_laws.specs.Skips.{Kept}
use Rattle.tree_laws.specs.Visits.{visits_in, visits_of}
use Rattle.tree_laws.specs.VisitsLaw.{entries_at, entries_seen, blocks_seen as blocks_among}
use Rattle.tree_change.specs.Gathered.{Gathers, blocks_seen}
use Rattle.tree_change.specs.Looks.{old_visits}
use Rattle.tree_change.specs.LooksLaw.{entries_of, few_for}
use Rattle.tree_change.specs.OneTree.{side_of}
use Rattle.tree_change.specs.Walks.{Known, Side, listed_by, old_walk, pairs_at}
use Rattle.tree_change.proofs.FirstCopies.{skip_firsts, visits_firsts}
use Rattle.tree_change.proofs.OfTree.{LeadsIn, few_in}
use Rattle.tree_change.proofs.Olds.{fine_step, gathered, same_ok}
use Rattle.tree_change.proofs.Vanished.{blocks_count}

-- the entries of blocks
abbrev pub entries_all : Stored → List WalkedBlock → ℕ
entries_all stored [] = 0
entries_all stored (block ∷ blocks) = entries_at stored block.address + entries_all stored blocks

-- those of the blocks among records are those of the records
entries_blocks : (stored : Stored) (records : List Seen) → entries_seen stored records ≡ entries_all stored (blocks_seen records)
entries_blocks stored [] = refl
entries_blocks stored (BlockSeen block ∷ records) = ap (λ n. entries_at stored block.address + n) (entries_blocks stored records)
entries_blocks stored (PointerSeen one ∷ records) = let more = entries_blocks stored records in omega (arith, more)
entries_blocks stored (ItemSeen one ∷ records) = let more = entries_blocks stored records in omega (arith, more)

-- seven levels are at least those below level 8
levels : (level n : ℕ) → level < 8 → level * n ≤ 7 * n
levels level n low = mul-le level n 7 n (omega (arith, low)) (omega arith)

-- A walk that keeps blocks comes to few, by the blocks among its records.
pub few_seen : (tree : ℕ) (kept : Kept) (under : Under) (side : Side) (e : Expect) (records : List Seen) → LeadsIn tree kept (anew_of under)
    → e.tree ≡ tree → e.level < 8
    → skip_in kept (anew_of under) side.sup side.chunks e side.image ≡ Ok records
    → visits_in kept (anew_of under) side.sup side.chunks e side.image
    ≤ 1 + entries_all (stored_in side.image side.chunks side.sup.nodesize) (blocks_seen records) + 7 * length (blocks_seen records)
unfolding skip_in visits_in
few_seen tree kept under side e records leads of low is =
    let stored = stored_in side.image side.chunks side.sup.nodesize in
    joins (visits_of kept (anew_of under) side.sup stored e) (entries_seen stored records) (entries_all stored (blocks_seen records))
    (e.level * blocks_among records) (7 * blocks_among records) (7 * length (blocks_seen records))
    (few_in tree kept under side.sup stored e records leads of is)
    (entries_blocks stored records) (levels e.level (blocks_among records) low) (ap (λ n. 7 * n) (sym (blocks_count records)))
  where
    joins : (v p q b c d : ℕ) → v ≤ 1 + p + b → p ≡ q → b ≤ c → c ≡ d → v ≤ 1 + q + d
    joins v p q b c d few entries lower count = omega arith

-- the pairs that are made of blocks have their addresses
pub entries_lives : (side : Side) (f : WalkedBlock → Live) → ((block : WalkedBlock) → (f block).address ≡ block.address) → (blocks : List WalkedBlock)
    → entries_all (stored_in side.image side.chunks side.sup.nodesize) blocks ≡ entries_of side (map f blocks)
entries_lives side f same [] = refl
entries_lives side f same (block ∷ blocks) =
    let stored = stored_in side.image side.chunks side.sup.nodesize in
    ap (λ n. entries_at stored block.address + n) (entries_lives side f same blocks)
    ∙ ap (λ a. entries_at stored a + entries_of side (map f blocks)) (sym (same block))

-- the pair that a table has at an address has that address
table_at : (lives : List Live) (tree address : ℕ) (live : Live) → table_of lives tree address ≡ Some live → live.address ≡ address
table_at [] tree address live is = absurd (cc)
table_at (one ∷ lives) tree address live is = by (one.tree == tree) (one.address == address) refl is (table_at lives tree address live)
  where
    some_live : (a b : Live) → Some a ≡ Some b → a ≡ b
    some_live a b same = cc

    by : (t a : Bool) → (one.address == address) ≡ a → (if t && a then Some one else table_of lives tree address) ≡ Some live
        → (table_of lives tree address ≡ Some live → live.address ≡ address) → live.address ≡ address
    by true true at is more = ap (λ (l : Live). l.address) (sym (some_live one live is)) ∙ eqb-true one.address address at
    by true false at is more = more is
    by false a at is more = more is

module _ (side : Side) (pairs : Pairs) (at_is : (tree address : ℕ) (live : Live) → pairs tree address ≡ Some live → live.address ≡ address) where
  abbrev stored : Stored
  stored = stored_in side.image side.chunks side.sup.nodesize

  pair_of : WalkedBlock → Option Live
  pair_of block = pairs block.tree block.address

  no_more : (blocks : List WalkedBlock) → length (pairs_at pairs blocks) ≤ length blocks
  no_more [] = omega arith
  no_more (block ∷ blocks) = by (pairs block.tree block.address) (no_more blocks)
    where
      by : (pair : Option Live) → length (pairs_at pairs blocks) ≤ length blocks
          → length (cons_option pair (pairs_at pairs blocks)) ≤ suc (length blocks)
      by None more = omega (arith, more)
      by (Some live) more = omega (arith, more)

  -- the entries of blocks are those of their pairs, where each has one
  entries_pairs : (blocks : List WalkedBlock) → length blocks ≡ length (pairs_at pairs blocks)
      → entries_all stored blocks ≡ entries_of side (pairs_at pairs blocks)
  entries_pairs [] all = refl
  entries_pairs (block ∷ blocks) all = by (pairs block.tree block.address) refl all (entries_pairs blocks)
    where
      by : (pair : Option Live) → pairs block.tree block.address ≡ pair → suc (length blocks) ≡ length (cons_option pair (pairs_at pairs blocks))
          → (length blocks ≡ length (pairs_at pairs blocks) → entries_all stored blocks ≡ entries_of side (pairs_at pairs blocks))
          → entries_at stored block.address + entries_all stored blocks ≡ entries_of side (cons_option pair (pairs_at pairs blocks))
      by None is all rest = let more = no_more blocks in absurd (omega (arith, all, more))
      by (Some live) is all rest =
          ap (λ n. entries_at stored block.address + n) (rest (omega (arith, all)))
          ∙ ap (λ a. entries_at stored a + entries_of side (pairs_at pairs blocks)) (sym (at_is block.tree block.address live is))

-- the old walk comes to few blocks, where each that it reads has its pair
module _ (image : List ℕ) (old : Walked) (pairs : Pairs) (known : Known)
    (pairs_are : (tree address : ℕ) → pairs tree address ≡ table_of (live_in old.seen) tree address) where
  pair_at : (tree address : ℕ) (live : Live) → pairs tree address ≡ Some live → live.address ≡ address
  pair_at tree address live is = table_at (live_in old.seen) tree address live (sym (pairs_are tree address) ∙ is)

  pub old_few : (tree : ℕ) (stops : List Expect) (e : Expect) (read : Gathers)
      → LeadsIn tree (kept_at known.pairs stops known.under) (listed_by known) → e.tree ≡ tree → e.level < 8
      → (whole : List Seen) → skip_in (kept_at known.pairs stops known.under) (listed_by known) old.sup old.chunks e image ≡ Ok whole
      → old_walk known stops (side_of image old) e ≡ Ok read → length read.blocks ≡ length (pairs_at pairs read.blocks)
      → old_visits known stops (side_of image old) e ≤ few_for (side_of image old) (pairs_at pairs read.blocks)
  unfolding old_walk
  old_few tree stops e read leads of low whole fine is all =
      let was = side_of image old in
      let kept = kept_at known.pairs stops known.under in
      let first = skip_firsts kept (listed_by known) old.sup old.chunks e image whole fine in
      let blocks : blocks_seen whole ≡ read.blocks =
      ap (λ (g : Gathers). g.blocks)
      (same_ok (gathered whole) read (sym (ap (λ (step : Records). and_then step (λ records. fine_step (gathered records))) first) ∙ is)) in
      let few = subst (λ n. n ≤ 1 + entries_all stored (blocks_seen whole) + 7 * length (blocks_seen whole))
      (sym (visits_firsts kept (listed_by known) old.sup old.chunks e image whole fine)) (few_seen tree kept known.under was e whole leads of low fine) in
      joins (old_visits known stops was e) (entries_all stored (blocks_seen whole)) (entries_of was (pairs_at pairs read.blocks))
      (7 * length (blocks_seen whole)) (7 * length (pairs_at pairs read.blocks)) few
      (ap (entries_all stored) blocks ∙ entries_pairs was pairs pair_at read.blocks all)
      (ap (λ n. 7 * n) (ap length blocks ∙ all))
    where
      stored : Stored
      stored = stored_in image old.chunks old.sup.nodesize

      joins : (v p q b c : ℕ) → v ≤ 1 + p + b → p ≡ q → b ≡ c → v ≤ 1 + q + c
      joins v p q b c few entries count = omega arith

-- Two walks of which no block is shared: all of the first is gone, and all of the second came.
use Rattle.std.proofs.Common.{◌≡◌, ℕ, suc, ◌==◌, Bool, true, false, not, ◌&&◌, ◌||◌, List, [], ◌∷◌, ◌++◌, length, refl, ap, sym, subst, ◌∙◌, arith}
use Rattle.std.proofs.lemmas.Bool.Decides.{nat_tests}
use Rattle.std.proofs.lemmas.Grind.{common_steps}
use Rattle.std.proofs.lemmas.List.Elements.{filter_map-append}
use Rattle.std.specs.Prelude.{None, is_some, Ok, map}
use Rattle.std.specs.List.{AllByRecursion, AllPairs, cons_option, filter, filter_map, list_any}
use Rattle.verdict.proofs.Lists.{all_map as each_map}
use Rattle.verdict.specs.OnDisk.{key_same}
use Rattle.verdict.specs.declared.key.Key.{Key}
use Rattle.super_reader.specs.declared.Super.{Super}
use Rattle.live_index.specs.Pairs.{Pairs}
use Rattle.live_index.specs.declared.live.Live.{Live}
use Rattle.node_reader.specs.Stored.{Stored}
use Rattle.node_reader.specs.declared.expect.Expect.{Expect}
use Rattle.records.specs.Seen.{Seen}
use Rattle.records.specs.Seen.Seen.{BlockSeen, ItemSeen, PointerSeen}
use Rattle.records.specs.Walk.{block_at, walk_of}
use Rattle.records.specs.WalkLaw.{visited}
use Rattle.tree_laws.specs.Keeping.{Comes, Stands, last_in, live_at}
use Rattle.tree_laws.specs.LivePairs.{live_in}
use Rattle.tree_laws.specs.MergedLaw.{AreRead, begins_before, chunks_seen, items, root_before, roots_seen}
use Rattle.tree_laws.specs.OldSide.{kept_where}
use Rattle.tree_laws.specs.Skips.{Kept, nothing, unkept}
use Rattle.tree_laws.specs.Unshared.{AreOfPairs, is_block_seen, pair_seen}
use Rattle.tree_laws.specs.declared.told.Ended.{Ended}
use Rattle.tree_laws.proofs.Lives.{NoBlocks, entries_none, lives_are}
use Rattle.tree_laws.proofs.Merged.{read_of, walks_of}
use Rattle.tree_laws.proofs.MergedLists.{chunks_merge, roots_merge}
use Rattle.tree_laws.proofs.OldBlocks.{unshared_are}
use Rattle.tree_laws.proofs.Trails.{Matches, Visit, all_own}
use Rattle.tree_change.specs.Gathered.{block_seen, blocks_seen}
use Rattle.tree_change.specs.Merging.{chunks_left, roots_left}
use Rattle.tree_change.specs.Walks.{last_at, live_with, lives_of, pairs_at}
use Rattle.tree_change.proofs.Whole.{KeepsNone, unkept_whole}

-- the known pairs of the blocks among records, and how many these are
pub pairs_seen : (pairs : Pairs) (records : List Seen) → filter_map (pair_seen pairs) records ≡ pairs_at pairs (blocks_seen records)
pairs_seen pairs [] = refl
pairs_seen pairs (BlockSeen block ∷ records) = ap (cons_option (pairs block.tree block.address)) (pairs_seen pairs records)
pairs_seen pairs (PointerSeen one ∷ records) = pairs_seen pairs records
pairs_seen pairs (ItemSeen one ∷ records) = pairs_seen pairs records

pub count_seen : (records : List Seen) → length (filter is_block_seen records) ≡ length (blocks_seen records)
count_seen [] = refl
count_seen (BlockSeen block ∷ records) = ap suc (count_seen records)
count_seen (PointerSeen one ∷ records) = count_seen records
count_seen (ItemSeen one ∷ records) = count_seen records

blocks_none : (records : List Seen) → NoBlocks records → blocks_seen records ≡ []
blocks_none [] none = refl
blocks_none (BlockSeen one ∷ records) none = elim none [ ]
blocks_none (PointerSeen one ∷ records) none = blocks_none records none
blocks_none (ItemSeen one ∷ records) none = blocks_none records none

-- blocks with the greatest keys that were told of them are live pairs
module _ (sup : Super) (stored : Stored) (ended : List Ended) where
  abbrev Tells : Expect → Type 0
  Tells v = last_at ended v.address ≡ last_in (walk_of sup stored v)

  lives_visits : (visits : List Visit) (es : List Expect) → Matches sup stored visits es → AllByRecursion Tells es
      → lives_of ended (blocks_seen (all_own visits)) ≡ map (live_at sup stored) es
  lives_visits [] [] m all = refl
  lives_visits [] (e ∷ es) m all = elim m [ ]
  lives_visits (v ∷ visits) [] m all = elim m [ ]
  lives_visits (v ∷ visits) (e ∷ es) m all =
      let read = read_of sup stored e v.own m.0.1 in
      let live : live_with (block_at e read.bytes) (last_at ended e.address) ≡ live_at sup stored e = rw (all.0, read.is) refl in
      let rest : blocks_seen (read.entries ++ all_own visits) ≡ blocks_seen (all_own visits) =
      filter_map-append block_seen read.entries (all_own visits)
      ∙ ap (λ blocks. blocks ++ blocks_seen (all_own visits)) (blocks_none read.entries (entries_none sup e read.bytes read.entries read.has)) in
      ap (λ own. lives_of ended (blocks_seen (own ++ all_own visits))) read.own_is
      ∙ (ap (λ blocks. live_with (block_at e read.bytes) (last_at ended e.address) ∷ lives_of ended blocks) rest
      ∙ (ap (λ one. one ∷ lives_of ended (blocks_seen (all_own visits))) live
      ∙ ap (λ lives. live_at sup stored e ∷ lives) (lives_visits visits es m.1 all.1)))

  pub lives_told : (root : Expect) (records : List Seen) → walk_of sup stored root ≡ Ok records → AllByRecursion Tells (visited sup stored root)
      → lives_of ended (blocks_seen records) ≡ live_in records
  lives_told root records is all =
      let w = walks_of sup stored root records is in
      subst (λ own. lives_of ended (blocks_seen own) ≡ live_in records) w.all
      (lives_visits w.visits (visited sup stored root) w.matches all ∙ sym (lives_are sup stored root records is))

-- where no pair is shared all are left
module _ (shared : Live → Bool) (free : (live : Live) → shared live ≡ false) where
  pub all_free : (lives : List Live) → filter (λ live. not (shared live)) lives ≡ lives
  all_free [] = refl
  all_free (live ∷ lives) = rw (free live) (ap (λ more. live ∷ more) (all_free lives))

  pub none_shared : (test : Live → Bool) (lives : List Live) → filter (λ live. shared live && test live) lives ≡ []
  none_shared test [] = refl
  none_shared test (live ∷ lives) = rw (free live) (none_shared test lives)

  abbrev none_kept : Kept
  none_kept e = None

  comes_free : (sup : Super) (stored : Stored) (es : List Expect)
      → AllByRecursion (λ v. is_some (none_kept v) ≡ shared (live_at sup stored v)) es
  comes_free sup stored [] = tt
  comes_free sup stored (e ∷ es) = (sym (free (live_at sup stored e)), comes_free sup stored es)

  module _ (sup : Super) (stored : Stored) (root : Expect) (whole : List Seen) (walk : walk_of sup stored root ≡ Ok whole) where
    comes : Comes (λ v. is_some (none_kept v) ≡ shared (live_at sup stored v)) sup stored root
    comes = record { fine = rw walk refl; each = comes_free sup stored (visited sup stored root) }

    left : unkept none_kept nothing sup stored root ≡ Ok whole
    left = unkept_whole none_kept (λ v. refl) sup stored root ∙ walk

    -- the records of a walk are those of the pairs that are not shared
    pub all_of : (pairs : Pairs) → Stands pairs sup stored root
        → AreOfPairs pairs (filter (λ live. not (shared live)) (live_in whole)) whole whole
    all_of pairs stands = unshared_are pairs shared none_kept sup stored root whole whole stands comes walk left

    shared_never : (live : Live) → shared live ≡ true → ⊥
    shared_never live is = never (shared live) (free live) is
      where
        never : (b : Bool) → b ≡ false → b ≡ true → ⊥
        never b not_so is_so = cc

    where_none : KeepsNone (kept_where shared sup stored)
    where_none v = rw (free (live_at sup stored v)) refl

    -- the walk beside itself
    read_alone : AreRead shared none_kept sup stored stored root root whole whole whole whole
    read_alone = record {
      tree = refl;
      both = record {
        alike = λ a b near. free a ∙ sym (free b);
        was = λ live of passes. elim (shared_never live passes) [ ];
        is = λ live of passes. elim (shared_never live passes) [ ];
        stays = λ live of passes. refl;
      };
      was = walk;
      is = walk;
      goes = unkept_whole (kept_where shared sup stored) where_none sup stored root ∙ walk;
      keeps = comes;
      comes = left;
    }

    pub chunks_ascend : root.tree ≡ 3 → AllPairs (λ a b. begins_before a b ≡ true) (chunks_seen whole)
    chunks_ascend tree = (chunks_merge shared none_kept sup stored stored root root whole whole whole whole read_alone tree).ascends

    pub roots_ascend : root.tree ≡ 1 → AllPairs (λ a b. root_before a b ≡ true) (roots_seen whole)
    roots_ascend tree = (roots_merge shared none_kept sup stored stored root root whole whole whole whole read_alone tree).ascends

-- of a list without those that are the same as one of its own none is left
module _ {A : Type 0} (same : A → A → Bool) (itself : (a : A) → same a a ≡ true) where
  among : (whole : List A) (xs : List A) → AllByRecursion (λ x. list_any (λ one. same one x) whole ≡ true) xs
      → filter (λ x. not (list_any (λ one. same one x) whole)) xs ≡ []
  among whole [] all = refl
  among whole (x ∷ xs) all = rw all.0 (among whole xs all.1)

  each_among : (xs : List A) → AllByRecursion (λ x. list_any (λ one. same one x) xs ≡ true) xs
  each_among [] = tt
  each_among (x ∷ xs) = (
    ap (λ b. b || list_any (λ one. same one x) xs) (itself x),
    each_map (λ y. list_any (λ one. same one y) xs ≡ true) (λ y. (same x y || list_any (λ one. same one y) xs) ≡ true) xs
        (λ y is. or_right (same x y) (list_any (λ one. same one y) xs) is) (each_among xs),
  )
    where
      or_right : (a b : Bool) → b ≡ true → (a || b) ≡ true
      or_right true b is = refl
      or_right false b is = is

  pub none_left : (xs : List A) → filter (λ x. not (list_any (λ one. same one x) xs)) xs ≡ []
  none_left xs = among xs xs (each_among xs)

-- where all chunks are gone those that came are left
pub chunks_all : (olds news : List Seen) → chunks_left (chunks_seen olds) (items olds) (items news) ≡ chunks_seen news
chunks_all olds news =
    ap (λ left. left ++ chunks_seen news) (none_left (λ a b. a.start == b.start) (λ a. itself a.start) (chunks_seen olds))
  where
    itself : (n : ℕ) → (n == n) ≡ true
    itself n = grind (arith, nat_tests)

-- the same of root items
pub roots_all : (olds news : List Seen) → roots_left (roots_seen olds) (items olds) (items news) ≡ roots_seen news
roots_all olds news =
    ap (λ left. left ++ roots_seen news) (none_left (λ a b. key_same a.key b.key) (λ a. itself a.key) (roots_seen olds))
  where
    itself : (k : Key) → key_same k k ≡ true
    itself k = grind (arith, common_steps)

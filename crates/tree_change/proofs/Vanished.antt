-- What changes where a tree is gone: all that it had.
use Rattle.std.proofs.Common.{◌≡◌, ℕ, suc, ◌+◌, ◌-◌, ◌==◌, inl, inr, Bool, false, not, List, [], ◌∷◌, length, refl, ap, sym, subst, ◌∙◌}
use Rattle.std.proofs.lemmas.Bool.{eqb-true}
use Rattle.std.specs.Prelude.{Option, Some, None, is_some, Result, Ok}
use Rattle.std.specs.List.{AllByRecursion, cons_option, filter, filter_map}
use Rattle.std.specs.Ordering.{nat_cmp}
use Rattle.std.specs.FinMap.{FinMap}
use Rattle.tree_laws.proofs.OldTrees.{none_at}
use Rattle.walk_laws.proofs.Trees.{step_ok}
use Rattle.verdict.specs.Rules.{and_then}
use Rattle.verdict.specs.declared.finding.Finding.{Finding}
use Rattle.verdict.specs.declared.key.Key.{Key}
use Rattle.super_reader.specs.declared.Super.{Super}
use Rattle.live_index.specs.Pairs.{Pairs}
use Rattle.live_index.specs.declared.live.Live.{Live}
use Rattle.node_reader.specs.Stored.{Stored, stored_in}
use Rattle.node_reader.specs.declared.expect.Expect.{Expect}
use Rattle.records.specs.Seen.{Seen}
use Rattle.records.specs.Seen.Seen.{BlockSeen, ItemSeen, PointerSeen}
use Rattle.records.specs.Walk.{Records, walk_of}
use Rattle.records.specs.WalkLaw.{visited}
use Rattle.touched_blocks.specs.Touched.{written_in}
use Rattle.tree_laws.specs.Keeping.{Comes, Stands, Under, anew_of, starts_of}
use Rattle.tree_laws.specs.KeepingWalk.{skip_in}
use Rattle.tree_laws.specs.LivePairs.{Walked, live_in, table_of}
use Rattle.tree_laws.specs.MergedLaw.{items}
use Rattle.tree_laws.specs.OldSide.{kept_at}
use Rattle.tree_laws.specs.SkipLaw.{IsSound}
use Rattle.tree_laws.specs.Skips.{Kept, nothing, skip_of, unkept}
use Rattle.tree_laws.specs.TableLaw.{AreApart, Tree}
use Rattle.tree_laws.specs.Unshared.{is_block_seen, items_in, pair_seen}
use Rattle.tree_laws.specs.declared.told.Start.{Start}
use Rattle.tree_laws.proofs.Forest.{NoneOf, stands_as, tables_stand, walks}
use Rattle.tree_laws.proofs.OldBlocks.{unshared_are}
use Rattle.tree_laws.proofs.OldTells.{gone}
use Rattle.tree_laws.proofs.Skipping.{skips}
use Rattle.tree_change.specs.Gathered.{Gathers, blocks_seen}
use Rattle.tree_change.specs.OneTree.{IsAmong, old_tree, side_of}
use Rattle.tree_change.specs.Unchanged.{changed_in, is_unchanged, none_touched, stays_unchanged}
use Rattle.tree_change.specs.Walks.{Known, Parts, gone_parts, listed_by, no_walk, old_walk, pairs_at, parts_of}
use Rattle.tree_change.proofs.FirstCopies.{skip_firsts}
use Rattle.tree_change.proofs.OneSupers.{unkept_fine}
use Rattle.tree_change.proofs.Piece.{IsPiece, changed, item_id, items_of_id, live_id}
use Rattle.tree_change.proofs.Split.{IsOf, items_filter, none_of, of_trees, stands_in}
use Rattle.tree_change.proofs.Unordered.{filter_swap, of_id}

-- what holds of each tree holds of one of them
pub among : (P : Tree → Type 0) (tree : Tree) (trees : List Tree) → IsAmong tree trees → AllByRecursion P trees → P tree
among P tree [] is all = elim is [ ]
among P tree (one ∷ trees) (inl here) all = subst P (sym here) all.0
among P tree (one ∷ trees) (inr later) all = among P tree trees later all.1

abbrev pub ok_one : {A : Type 0} → A → Result A Finding
ok_one a = Ok a

some_not : (last : Key) (made : Option Key) → made ≡ None → made ≡ Some last → ⊥
some_not last made none some = absurd (cc)

none_sound : (tree : ℕ) (pairs : Pairs) (under : Under) (sup : Super) (stored : Stored)
    → IsSound tree (kept_at pairs [] under) nothing (anew_of under) sup stored
none_sound tree pairs under sup stored = record {
  gives = λ e last of is. elim (some_not last (kept_at pairs [] under e) (none_at pairs under e) is) [ ];
  next = λ e. each e (under e.tree e.address);
}
  where
    each : (e : Expect) (starts : List Start)
        → AllByRecursion (λ (c : Expect). (c.level ≡ e.level - 1) × (c.tree ≡ e.tree)) (starts_of (e.level - 1) e starts)
    each e [] = tt
    each e (start ∷ starts) = ((refl, refl), each e starts)

-- the pairs of the blocks among records, and how many blocks there are
pub pairs_seen : (pairs : Pairs) (records : List Seen) → pairs_at pairs (blocks_seen records) ≡ filter_map (pair_seen pairs) records
pairs_seen pairs [] = refl
pairs_seen pairs (BlockSeen block ∷ records) = ap (cons_option (pairs block.tree block.address)) (pairs_seen pairs records)
pairs_seen pairs (PointerSeen one ∷ records) = pairs_seen pairs records
pairs_seen pairs (ItemSeen one ∷ records) = pairs_seen pairs records

pub blocks_count : (records : List Seen) → length (blocks_seen records) ≡ length (filter is_block_seen records)
blocks_count [] = refl
blocks_count (BlockSeen block ∷ records) = ap suc (blocks_count records)
blocks_count (PointerSeen one ∷ records) = blocks_count records
blocks_count (ItemSeen one ∷ records) = blocks_count records

-- where nothing is of an id, nothing that passes a test is
none_passes : {X : Type 0} (of : X → ℕ) (id : ℕ) (q : X → Bool) (xs : List X) → [] ≡ of_id of id xs → [] ≡ of_id of id (filter q xs)
none_passes of id q xs none = ap (filter q) none ∙ filter_swap (λ x. of x == id) q q (λ x at. refl) xs

module _ (image : List ℕ) (pending : FinMap nat_cmp ℕ) (old new : Walked) (trees afters : List Tree) (pairs : Pairs) (known : Known)
    (apart : AreApart trees) (walk : walks old.sup trees ≡ Ok old.seen) (afters_apart : AreApart afters)
    (afters_walk : walks new.sup afters ≡ Ok new.seen)
    (pairs_are : (tree address : ℕ) → pairs tree address ≡ table_of (live_in old.seen) tree address) where
  abbrev stored : Stored
  stored = stored_in image old.chunks old.sup.nodesize

  abbrev kept : Kept
  kept = kept_at known.pairs [] known.under

  gone_are : (e : Expect) (records whole : List Seen) → IsAmong (old_tree image old e) trees → NoneOf new.sup e.tree afters
      → walk_of old.sup stored e ≡ Ok whole → IsOf e.tree whole old.seen → unkept kept nothing old.sup stored e ≡ Ok records
      → IsPiece (changed old new (written_in pending) (length image)) e.tree
      (parts_of pairs no_walk (record { blocks = blocks_seen records; items = items records }))
  unfolding live_in
  gone_are e records whole is none has of left =
      let gives = unshared_are pairs (λ live. false) kept old.sup stored e whole records stands comes has left in
      let lives : filter (λ live. not false) (live_in whole) ≡ of_id live_id e.tree (changed_in old new (written_in pending) (length image) old) =
      ap (filter (λ (live : Live). not false)) of.lives
      ∙ filter_swap (λ live. live_id live == e.tree) (λ live. not (shared live)) (λ live. not false)
      (λ live at. sym (ap not (gone_one live (eqb-true live.tree e.tree at)))) (live_in old.seen) in
      let blocks = pairs_seen pairs records ∙ gives.blocks in
      let nothing_new : IsOf e.tree [] new.seen = none_of new.sup afters new.seen e.tree afters_apart afters_walk none in
      record {
        old_blocks = blocks ∙ lives;
        new_blocks = none_passes live_id e.tree (λ live. not (shared live)) (live_in new.seen) nothing_new.lives;
        shifted = none_passes live_id e.tree _ (live_in new.seen) nothing_new.lives;
        old_items = gives.items ∙ (ap (λ ls. items_in ls whole) lives
            ∙ items_of_id e.tree (changed_in old new (written_in pending) (length image) old) whole old.seen of);
        new_items = none_passes item_id e.tree (stands_in (changed_in old new (written_in pending) (length image) new))
            (items new.seen) nothing_new.found
            ∙ sym (ap (of_id item_id e.tree) (items_filter (changed_in old new (written_in pending) (length image) new) new.seen));
        count = ap (λ n. n + 0) (blocks_count records ∙ (gives.count ∙ sym (ap length blocks)));
      }
    where
      shared : Live → Bool
      shared live = is_unchanged old new (written_in pending) (length image) live

      gone_one : (live : Live) → live.tree ≡ e.tree → shared live ≡ false
      gone_one live at =
          gone (stays_unchanged old new.chunks (written_in pending) (length image)) none_touched old new new.sup afters live afters_apart afters_walk
          (subst (λ id. NoneOf new.sup id afters) (sym at) none)

      stands : Stands pairs old.sup stored e
      stands =
          stands_as old.sup (old_tree image old e) (table_of (live_in old.seen)) pairs (λ address. pairs_are e.tree address)
          (among (λ t. Stands (table_of (live_in old.seen)) old.sup t.0 t.1) (old_tree image old e) trees is
          (tables_stand old.sup trees old.seen apart walk))

      each : (es : List Expect) → AllByRecursion (λ v. is_some (kept v) ≡ false) es
      each [] = tt
      each (v ∷ es) = (ap is_some (none_at known.pairs known.under v), each es)

      comes : Comes (λ v. is_some (kept v) ≡ false) old.sup stored e
      comes = record { fine = rw has refl; each = each (visited old.sup stored e) }

  -- The parts of a tree that is gone are those of its id.
  pub gone_piece : (e : Expect) (parts : Parts) → IsAmong (old_tree image old e) trees → NoneOf new.sup e.tree afters
      → gone_parts pairs known (side_of image old) e ≡ Ok parts → IsPiece (changed old new (written_in pending) (length image)) e.tree parts
  unfolding gone_parts old_walk skip_in
  gone_piece e parts is none gives =
      let whole = among (λ t. (r : List Seen) × (walk_of old.sup t.0 t.1 ≡ Ok r) × IsOf t.1.tree r old.seen) (old_tree image old e) trees is
      (of_trees old.sup trees old.seen apart walk) in
      let made = step_ok (old_walk known [] (side_of image old) e) (λ g. Ok (parts_of pairs no_walk g)) parts gives in
      let left = unkept_fine kept old.sup stored e whole.0 whole.1 in
      let read : skip_of kept nothing (listed_by known) old.sup stored e ≡ Ok left.0 =
      skips kept nothing (listed_by known) old.sup stored e (none_sound e.tree known.pairs known.under old.sup stored) ∙ left.1 in
      let first : old_walk known [] (side_of image old) e ≡ ok_one (record { blocks = blocks_seen left.0; items = items left.0 }) =
      ap (λ (step : Records). and_then step (λ records. ok_one (record { blocks = blocks_seen records; items = items records })))
      (skip_firsts kept (listed_by known) old.sup old.chunks e image left.0 read) in
      subst (IsPiece (changed old new (written_in pending) (length image)) e.tree) (ok_parts (parts_of pairs no_walk made.0) parts made.2)
      (subst (λ g. IsPiece (changed old new (written_in pending) (length image)) e.tree (parts_of pairs no_walk g))
      (ok_gathers (record { blocks = blocks_seen left.0; items = items left.0 }) made.0 (sym first ∙ made.1))
      (gone_are e left.0 whole.0 is none whole.1 whole.2 left.1))
    where
      ok_parts : (a b : Parts) → ok_one a ≡ Ok b → a ≡ b
      ok_parts a b is = cc

      ok_gathers : (a b : Gathers) → ok_one a ≡ Ok b → a ≡ b
      ok_gathers a b is = cc

-- What is known of a tree, as the laws of one tree have it: nothing is marked, and a block that is touched counts as one that moved.
use Rattle.std.proofs.Common.{◌≡◌, ℕ, Bool, true, false, ◌||◌, ◌&&◌, not, List, [], ◌∷◌, length, refl, ap, sym, ◌∙◌, if◌then◌else◌}
use Rattle.std.specs.Prelude.{Option, Some, None, Result, Ok, is_some}
use Rattle.std.specs.List.{AllByRecursion, list_any}
use Rattle.std.specs.Result.{IsOk}
use Rattle.std.specs.Ordering.{nat_cmp}
use Rattle.std.specs.FinMap.{FinMap}
use Rattle.verdict.specs.Rules.{and_then}
use Rattle.verdict.specs.declared.finding.Finding.{Finding}
use Rattle.super_reader.specs.declared.Super.{Super}
use Rattle.live_index.specs.Pairs.{Pairs}
use Rattle.live_index.specs.declared.live.Live.{Live}
use Rattle.node_reader.specs.Stored.{Stored}
use Rattle.node_reader.specs.declared.expect.Expect.{Expect}
use Rattle.records.specs.Walk.{walk_of}
use Rattle.records.specs.WalkLaw.{visited}
use Rattle.touched_blocks.specs.Marks.{no_mark}
use Rattle.touched_blocks.specs.Touched.{stays_in_place, written_in}
use Rattle.tree_laws.specs.Ending.{ends_in}
use Rattle.tree_laws.specs.Keeping.{AreMarked, AreUntouched, Marks, Under, kept_of, last_if_same}
use Rattle.tree_laws.specs.KeepingWalk.{skip_in}
use Rattle.tree_laws.specs.LivePairs.{Walked}
use Rattle.tree_laws.specs.Meeting.{met_in}
use Rattle.tree_laws.specs.SharedLaw.{touches_old}
use Rattle.tree_laws.specs.Skips.{Kept}
use Rattle.tree_change.specs.Gathered.{blocks_seen}
use Rattle.tree_change.specs.Looks.{met_by}
use Rattle.tree_change.specs.OneTree.{GivesTree, KnowsTree, side_of}
use Rattle.tree_change.specs.Unchanged.{changes_at, none_touched}
use Rattle.tree_change.specs.Walks.{Known, NewWalk, Parts, Side, kept_by, lasts_by, listed_by, new_walk, old_or_none, old_walk, parts_of, tree_parts}
use Rattle.tree_laws.specs.MergedLaw.{items}

-- no block is touched, so none is marked
pub nothing_marked : (sup : Super) (stored : Stored) (e : Expect) → IsOk (walk_of sup stored e) → AreMarked no_mark none_touched sup stored e
nothing_marked sup stored e fine = record { fine = fine; each = by (visited sup stored e) }
  where
    none : (es : List Expect) → false ≡ list_any (λ (w : Expect). none_touched w.address) es
    none [] = refl
    none (w ∷ es) = none es

    by : (es : List Expect) → AllByRecursion (λ v. false ≡ list_any (λ (w : Expect). none_touched w.address) (visited sup stored v)) es
    by [] = tt
    by (v ∷ es) = (none (visited sup stored v), by es)

-- where a block stays as it is the same is stored, if it is so where a block is not touched and did not move
pub untouched_alike : (stays touched : ℕ → Bool) (old new : Stored) → AreUntouched touched (λ a. not (stays a)) old new
    → AreUntouched none_touched (λ a. not (stays a && not (touched a))) old new
untouched_alike stays touched old new alike address none still = by (stays address) (touched address) refl refl still
  where
    by : (s t : Bool) → stays address ≡ s → touched address ≡ t → not (s && not t) ≡ false → new address ≡ old address
    by true true s t is = absurd (cc)
    by true false s t is = alike address t (ap not s)
    by false t s at is = absurd (cc)

-- a block that no table knows is not kept, whatever is marked or moved
unknown : (b : Bool) (e : Expect) (under : Under) → (if b then None else last_if_same e (under e.tree e.address) None) ≡ None
unknown true e under = refl
unknown false e under = refl

-- blocks are kept alike by two tests that agree where the table has a pair
kept_as : (pairs : Pairs) (marked other : Marks) (moved also : ℕ → Bool) (under : Under)
    → ((tree address : ℕ) → is_some (pairs tree address) ≡ true → (marked tree address || moved address) ≡ (other tree address || also address))
    → (e : Expect) → kept_of pairs marked moved under e ≡ kept_of pairs other also under e
unfolding kept_of
kept_as pairs marked other moved also under same e = by (pairs e.tree e.address) refl
  where
    by : (entry : Option Live) → pairs e.tree e.address ≡ entry
        → (if marked e.tree e.address || moved e.address then None else last_if_same e (under e.tree e.address) (pairs e.tree e.address))
        ≡ (if other e.tree e.address || also e.address then None else last_if_same e (under e.tree e.address) (pairs e.tree e.address))
    by None is =
        rw is
        (unknown (marked e.tree e.address || moved e.address) e under ∙ sym (unknown (other e.tree e.address || also e.address) e under))
    by (Some live) is =
        ap (λ b. if b then None else last_if_same e (under e.tree e.address) (pairs e.tree e.address))
        (same e.tree e.address (ap is_some is))

module _ (image : List ℕ) (pending : FinMap nat_cmp ℕ) (old : Walked) (is : Side) (known : Known) (before : Option Expect)
    (knows : KnowsTree image pending old is known before) where
  abbrev pub changes : ℕ → Bool
  changes = changes_at old is.chunks (written_in pending) (length image)

  -- what is known, as the laws have it
  abbrev pub plain : Known
  plain = record { pairs = known.pairs; marked = no_mark; moved = changes; under = known.under }

  tests : (tree address : ℕ) → is_some (known.pairs tree address) ≡ true
      → (known.marked tree address || known.moved address) ≡ (no_mark tree address || changes address)
  tests tree address some =
      ap (λ b. b || known.moved address) (knows.marked_is tree address some)
      ∙ (ap (λ (m : ℕ → Bool). touches_old old (written_in pending) (length image) address || m address) knows.moved_is
      ∙ by (stays_in_place old.chunks is.chunks old.sup.nodesize (length image) address) (touches_old old (written_in pending) (length image) address))
    where
      by : (s t : Bool) → (t || not s) ≡ not (s && not t)
      by true true = refl
      by true false = refl
      by false true = refl
      by false false = refl

  -- it keeps the same blocks
  pub kept_same : kept_by known ≡ kept_by plain
  kept_same = λ i e. kept_as known.pairs known.marked no_mark known.moved changes known.under tests e i

  -- so the walks give the same
  pub new_same : (e : Expect) → new_walk known is e ≡ new_walk plain is e
  unfolding new_walk
  new_same e =
      ap (λ (kept : Kept). and_then (skip_in kept (listed_by known) is.sup is.chunks e is.image) (λ records.
      fine (record {
        read = record { blocks = blocks_seen records; items = items records };
        met = met_in kept (listed_by known) is.sup is.chunks e is.image;
        ended = (ends_in kept (listed_by known) (lasts_by known) is.sup is.chunks e is.image).blocks;
      }))) kept_same
    where
      fine : NewWalk → Result NewWalk Finding
      fine walk = Ok walk

  pub met_same : (e : Expect) → met_by known is e ≡ met_by plain is e
  met_same e = ap (λ (kept : Kept). met_in kept (listed_by known) is.sup is.chunks e is.image) kept_same

  old_same : (stops : List Expect) (was : Side) (e : Option Expect) → old_or_none known stops was e ≡ old_or_none plain stops was e
  unfolding old_walk
  old_same stops was None = refl
  old_same stops was (Some e) = refl

  pub parts_same : (pairs : Pairs) (was : Side) (now : Expect)
      → tree_parts pairs known was is before now ≡ tree_parts pairs plain was is before now
  unfolding tree_parts
  parts_same pairs was now =
      ap (λ walk. and_then walk (λ new. and_then (old_or_none known new.met was before) (λ old. fine (parts_of pairs new old)))) (new_same now)
      ∙ (λ i. and_then (new_walk plain is now) (λ new. and_then (old_same new.met was before i) (λ old. fine (parts_of pairs new old))))
    where
      fine : Parts → Result Parts Finding
      fine parts = Ok parts

  pub gives_plain : (pairs : Pairs) (now : Expect) → GivesTree image pending old pairs is plain before now
      → GivesTree image pending old pairs is known before now
  gives_plain pairs now gives = record {
    found = λ finding made. gives.found finding (sym (parts_same pairs (side_of image old) now) ∙ made);
    parts = λ parts made. gives.parts parts (sym (parts_same pairs (side_of image old) now) ∙ made);
  }

-- Where the spans of an accepted image lie, and which of them the work reaches where chunks change.
use Rattle.std.proofs.Common.{◌≡◌, ℕ, ◌+◌, ◌*◌, ◌<◌, ◌≤◌, ◌&&◌, Bool, true, false, List, [], ◌∷◌, ◌++◌, length, inl, inr, sym, ap, ◌∙◌, subst}
use Rattle.std.specs.Prelude.{◌⊎◌}
use Rattle.std.specs.List.{Contains, count_by}
use Rattle.std.proofs.lemmas.Bool.{and_parts, or_cases, or_left, or_right}
use Rattle.std.specs.Ordering.{nat_cmp}
use Rattle.std.specs.FinMap.{FinMap}
use Rattle.commit_laws.proofs.named_items.Found.{all_of as each_of}
use Rattle.verdict.specs.declared.place.Chunk.{Chunk}
use Rattle.span_index.specs.declared.span.Span.{Span}
use Rattle.change_records.specs.Homes.{StandApart}
use Rattle.change_records.specs.Looks.{AreHoused, IsHoused, home_of_span, is_empty_shown, is_gone, is_of_extent, is_reached}
use Rattle.change_records.specs.Spans.{AreItemsOf}
use Rattle.tree_laws.specs.LivePairs.{Walked}
use Rattle.accounts.specs.declared.postings.Posting.{Posting}
use Rattle.records.specs.SpacePostings.{is_to_sector}
use Rattle.span_index.specs.Sectors.{has_sector, times_of_span}
use Rattle.commit_laws.proofs.Elements.{Among}
use Rattle.write_cache.specs.Cache.{overlaid}
use Rattle.commit_laws.specs.Commit.{Commit, Known}
use Rattle.commit_laws.specs.Items.{ItemsLaw, ItemsStand, items_of}
use Rattle.commit_laws.specs.Same.{HeldLaw, records_of}
use Rattle.commit_laws.specs.Steps.{spans_of}
use Rattle.commit_laws.proofs.whole_commits.Named.{times_are}
use Rattle.lookup_bounds.specs.Housed.{AreSpansHoused, HousedLaw}
use Rattle.lookup_bounds.specs.Postings.{IsPassage}
use Rattle.tree_change.specs.Accepted.{unshared_old}
use Rattle.lookup_bounds.specs.Work.{has_named, is_met, new_postings, old_postings, spans_in}
use Rattle.lookup_bounds.proofs.HousedChunks.{chunks_some, chunks_stand}
use Rattle.lookup_bounds.proofs.HousedSpans.{Posts, span_around, span_housed, span_reached}
use Rattle.lookup_bounds.proofs.HousedStops.{stops, stops_among, stops_few, stops_stand}
use Rattle.lookup_bounds.proofs.Known.{IsKnownBy, known_by_walks}

of_extent : (olds news : List Chunk) (span : Span) → is_reached olds news span ≡ true → is_of_extent span.sort ≡ true
unfolding is_reached
of_extent olds news span is = (and_parts (is_of_extent span.sort) (is_gone news (home_of_span olds span)) is).0

named_left : (these others : List Posting) (span : Span) → has_named these span ≡ true → has_named (these ++ others) span ≡ true
unfolding has_named
named_left [] others span is = absurd (cc)
named_left (p ∷ ps) others span is = elim (or_cases (is_to_sector p && has_sector span p.account.block) (has_named ps span) is) [
  | inl here ↦ or_left (is_to_sector p && has_sector span p.account.block) (has_named (ps ++ others) span) here
  | inr later ↦ or_right (is_to_sector p && has_sector span p.account.block) (has_named (ps ++ others) span) (named_left ps others span later)
]

module _ (held : HeldLaw) (items : ItemsLaw) (image : List ℕ) (pending : FinMap nat_cmp ℕ) (k next : Known) (c : Commit) (old new : Walked)
    (is : IsPassage image pending k next c old new) where
  was_known : IsKnownBy k old
  was_known = known_by_walks held image k old is.known is.was

  is_known : IsKnownBy next new
  is_known = known_by_walks held (overlaid pending 0 image) next new is.known_then is.is

  stand : ItemsStand old.sup.nodesize (items_of old)
  stand = items image old is.was

  -- the new chunks are those of the next image
  map_is : c.change.map ≡ new.chunks
  map_is = sym is.moved.chunks ∙ is_known.chunks

  -- the table of spans is that of the items
  items_are : AreItemsOf k.sup.nodesize k.spans (items_of old)
  items_are =
      let table = times_of_span (spans_of old.sup.nodesize (records_of old)) in
      let are : AreItemsOf old.sup.nodesize table (items_of old) =
      record { distinct = stand.distinct; lawful = stand.lawful; spans = times_are old.sup.nodesize old } in
      subst (λ (known : Known). AreItemsOf known.sup.nodesize known.spans (items_of old)) (sym was_known.all) are

  old_apart : StandApart old.chunks
  old_apart = chunks_stand image old is.was

  new_apart : StandApart new.chunks
  new_apart = chunks_stand (overlaid pending 0 image) new is.is

  abbrev reached : Span → Bool
  reached = is_reached old.chunks new.chunks

  posted : (span : Span) → Contains (spans_in old) span → reached span ≡ true
      → Posts old stand was_known.fine new (unshared_old image pending old new) new_apart span
  posted span has gone = span_reached old stand was_known.fine new (unshared_old image pending old new) new_apart span has gone

  near : (span : Span) → Contains (spans_in old) span → reached span ≡ true
      → (p : Posting) × Among p (old_postings image pending old new) × ((span.first ≡ p.account.block) ⊎ (span.first ≡ p.account.block + 4096))
  unfolding old_postings
  near span has gone = let its = posted span has gone in (its.p, its.among, its.near)

  meets : (span : Span) → Contains (spans_in old) span → reached span ≡ true → is_empty_shown span ≡ false → is_met image pending old new span ≡ true
  unfolding old_postings
  meets span has gone full =
      let of : is_of_extent span.sort ≡ true = of_extent old.chunks new.chunks span gone in
      named_left (old_postings image pending old new) (new_postings image pending old new) span
      ((posted span has gone).named ((span_around old stand was_known.fine span has of).sectors full))

  abbrev stops_old : List Span
  stops_old = stops (spans_in old) (old_postings image pending old new) reached (is_met image pending old new) near meets

  stops_housed : AreHoused old.chunks stops_old
  stops_housed =
      each_of (λ (span : Span). is_of_extent span.sort ≡ true → IsHoused old.chunks span) stops_old
      (λ span has of. span_housed old stand was_known.fine span
      (stops_among (spans_in old) (old_postings image pending old new) reached (is_met image pending old new) near meets span has) of)

  pub are_housed : AreSpansHoused image pending k c old new
  are_housed = record {
    items = items_are;
    old_apart = subst StandApart (sym was_known.chunks) old_apart;
    new_apart = subst StandApart (sym map_is) new_apart;
    some = subst (λ (chunks : List Chunk). 0 < length chunks) (sym was_known.chunks) (chunks_some image old is.was);
    stops = stops_old;
    stand = stops_stand (spans_in old) (old_postings image pending old new) reached (is_met image pending old new) near meets;
    housed = subst (λ (chunks : List Chunk). AreHoused chunks stops_old) (sym was_known.chunks) stops_housed;
    few = subst (λ (chunks : List Chunk). count_by (is_reached chunks c.change.map) stops_old
        ≤ count_by (is_met image pending old new) (spans_in old) + 2 * length (old_postings image pending old new)) (sym was_known.chunks)
        (subst (λ (chunks : List Chunk). count_by (is_reached old.chunks chunks) stops_old
        ≤ count_by (is_met image pending old new) (spans_in old) + 2 * length (old_postings image pending old new)) (sym map_is)
        (stops_few (spans_in old) (old_postings image pending old new) reached (is_met image pending old new) near meets));
  }

pub housed : HeldLaw → ItemsLaw → HousedLaw
housed held items image pending k next c old new is = are_housed held items image pending k next c old new is

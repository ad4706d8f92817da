-- The names of items and of their spans, and the items among records of changes.
use Rattle.std.proofs.Common.{◌≡◌, ℕ, ◌*◌, ◌/◌, ◌%◌, ◌⊎◌, inl, inr, Bool, true, false, cond, List, [], ◌∷◌, ◌++◌, map, refl, ap, sym, ◌∙◌, subst, arith}
use Rattle.std.specs.Prelude.{Option, Some, None}
use Rattle.std.specs.List.{Contains, filter_map}
use Rattle.std.proofs.lemmas.Bool.{eqb-true}
use Rattle.std.proofs.lemmas.List.Elements.{Contains-append_cases}
use Rattle.std.proofs.lemmas.Nat.{div-add-mod'}
use Rattle.change_records.proofs.PostingLaws.{one_span}
use Rattle.verdict.specs.declared.kinds.TheConstants.{EXTENT_DATA, EXTENT_ITEM}
use Rattle.extent_items.specs.ExtentRow.{ExtentFields}
use Rattle.fs_items.specs.declared.file_extent.FileExtent.{FileExtent}
use Rattle.accounts.specs.Context.{Context}
use Rattle.live_index.specs.Pairs.{Pairs}
use Rattle.live_index.specs.declared.live.Live.{Live}
use Rattle.span_index.specs.declared.span.Span.{Span}
use Rattle.span_index.specs.declared.span.SpanSort.TheVariants.{Owned}
use Rattle.records.specs.Contents.{super_record}
use Rattle.records.specs.Part.{Located, Part}
use Rattle.records.specs.Part.Part.{ExtentPart, FileExtentPart, SumsPart}
use Rattle.records.specs.SpacePostings.{is_data, space_postings}
use Rattle.records.specs.declared.rec.ItemAt.{ItemAt}
use Rattle.change_records.specs.Affected.{NamesIn}
use Rattle.change_records.specs.Refs.{ref_to}
use Rattle.change_records.specs.Search.{SortNames, SpanNames}
use Rattle.change_records.specs.Spans.{IsLawfulExtent, IsLawfulIn, IsLawfulRange, extent_bytes, extent_span, is_written, shown_span, span_in, span_of}
use Rattle.change_records.specs.Spans.{sums_span}
use Rattle.change_records.specs.declared.changes.ItemChange.{ItemChange}
use Rattle.change_records.specs.declared.changes.ItemChange.TheVariants.{Added, Altered, Removed}
use Rattle.change_records.specs.declared.item_ref.ItemRef.{ItemRef}
use Rattle.change_records.proofs.AffectedLaws.{extent_back, extent_to, written_back, written_to}
use Rattle.change_records.proofs.Merge.{contains_first, contains_more, contains_none, from_one}
use Rattle.tree_change.specs.Gathered.{located_item}
use Rattle.super_reader.specs.declared.Super.{Super}
use Rattle.commit_laws.specs.Paired.{came_items, came_of, gone_items, gone_of}
use Rattle.commit_laws.specs.Same.{live_record}
use Rattle.commit_laws.specs.Steps.{change_records}
use Rattle.commit_laws.proofs.named_items.Alike.{contains_cases}
use Rattle.commit_laws.proofs.named_items.Named.{has_at}
use Rattle.commit_laws.proofs.whole_commits.Named.{map_in}

-- ---- the name of an item and that of its span

-- the name of an item that posts otherwise is that of its span
pub name_to : (n : ℕ) (pairs : Pairs) (before after : Context) (one : Located) (part : Part) (at : ItemRef) (span : Span)
    → span_in n one.tree part ≡ Some span → IsLawfulIn n one part
    → (space_postings before one.tree part ≡ space_postings after one.tree part → ⊥)
    → NamesIn pairs one part at → SpanNames pairs span at
unfolding space_postings
name_to n pairs before after one (ExtentPart item) at span is lawful differs names =
    subst (λ (s : Span). SpanNames pairs s at) (one_span (extent_span n item) span is) (extent_to n pairs one item at (is_data item) refl lawful names)
name_to n pairs before after one (FileExtentPart range) at span is lawful differs names =
    written_to pairs one range at span (is_written range) refl is lawful names
name_to n pairs before after one (SumsPart item) at span is lawful differs names = absurd (differs refl)
name_to n pairs before after one part at span is lawful differs names = absurd (cc)

-- a name of a span is that of its item
pub name_back : (n : ℕ) (pairs : Pairs) (one : Located) (part : Part) (at : ItemRef) (span : Span)
    → span_in n one.tree part ≡ Some span → IsLawfulIn n one part → SpanNames pairs span at → NamesIn pairs one part at
name_back n pairs one (ExtentPart item) at span is lawful names =
    extent_back n pairs one item at (is_data item) refl lawful
    (subst (λ (s : Span). SpanNames pairs s at) (sym (one_span (extent_span n item) span is)) names)
name_back n pairs one (FileExtentPart range) at span is lawful names = written_back pairs one range at span (is_written range) refl is lawful names
name_back n pairs one (SumsPart item) at span is lawful names =
    absurd (subst (λ (s : Span). SpanNames pairs s at) (sym (one_span (sums_span item) span is)) names)
name_back n pairs one part at span is lawful names = absurd (cc)

-- ---- what changes take away and bring

map_from : {X Y : Type 0} (f : X → Y) (xs : List X) (y : Y) → Contains (map f xs) y → (x : X) × Contains xs x × (f x ≡ y)
map_from f [] y has = absurd (contains_none y has)
map_from {X} {Y} f (x ∷ xs) y has = by (contains_cases (f x) (map f xs) y has) (map_from f xs y)
  where
    by : (f x ≡ y) ⊎ Contains (map f xs) y → (Contains (map f xs) y → (z : X) × Contains xs z × (f z ≡ y))
        → (z : X) × Contains (x ∷ xs) z × (f z ≡ y)
    by (inl here) later = (x, contains_first x xs, here)
    by (inr more) later = let found = later more in (found.0, contains_more x xs found.0 found.1, found.2)

-- what is made of changes by such a choice is among the items
chosen_in : (items : List ItemAt) (choose : ItemChange → Option ItemAt) (changes : List ItemChange) (one : Located)
    → ((change : ItemChange) (item : ItemAt) → choose change ≡ Some item → Contains items item)
    → Contains (map located_item (filter_map choose changes)) one → Contains (map located_item items) one
chosen_in items choose changes one each has =
    let item = map_from located_item (filter_map choose changes) one has in
    let change = from_one choose changes item.0 item.1 in
    subst (Contains (map located_item items)) item.2 (map_in located_item items item.0 (each change.0 item.0 change.2))

gone_one : (items : List ItemAt) (change : ItemChange) (item : ItemAt) → gone_of items change ≡ Some item → Contains items item
gone_one items (Added is) item gone = absurd (cc)
gone_one items (Removed was) item gone = has_at items was item gone
gone_one items (Altered was is) item gone = has_at items was item gone

came_one : (items : List ItemAt) (change : ItemChange) (item : ItemAt) → came_of items change ≡ Some item → Contains items item
came_one items (Added is) item came = has_at items is item came
came_one items (Removed was) item came = absurd (cc)
came_one items (Altered was is) item came = has_at items is item came

pub gone_in : (items : List ItemAt) (changes : List ItemChange) (one : Located) → Contains (gone_items items changes) one
    → Contains (map located_item items) one
unfolding gone_items
gone_in items changes one has = chosen_in items (gone_of items) changes one (gone_one items) has

pub came_in : (items : List ItemAt) (changes : List ItemChange) (one : Located) → Contains (came_items items changes) one
    → Contains (map located_item items) one
unfolding came_items
came_in items changes one has = chosen_in items (came_of items) changes one (came_one items) has

-- a record with a span is neither that of the superblock nor that of a block
no_block : (n : ℕ) (blocks : List Live) (one : Located) (span : Span) → span_of n one ≡ Some span → Contains (map live_record blocks) one → ⊥
no_block n blocks one span is has =
    let block = map_from live_record blocks one has in
    let none : span_of n one ≡ None = ap (span_of n) (sym block.2) in
    absurd (cc (none, is))

pub item_among : (n : ℕ) (sup : Super) (blocks : List Live) (items : List Located) (one : Located) (span : Span) → span_of n one ≡ Some span
    → Contains (change_records sup blocks items) one → Contains items one
item_among n sup blocks items one span is has = elim (contains_cases (super_record sup) (map live_record blocks ++ items) one has) [
  | inl same ↦ absurd (let none : span_of n one ≡ None = ap (span_of n) (sym same) in cc (none, is))
  | inr later ↦ elim (Contains-append_cases (map live_record blocks) items one later) [
    | inl block ↦ absurd (no_block n blocks one span is block)
    | inr item ↦ item
  ]
]

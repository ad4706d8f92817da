-- The spans of the items that changes take away or bring.
use Rattle.std.proofs.Common.{◌≡◌, ℕ, zero, suc, ◌+◌, ◌<◌, ◌≤◌, List, [], ◌∷◌, ◌++◌, map, length, take, take_all, get_or, refl, ap, sym, ◌∙◌, subst, arith}
use Rattle.std.specs.Prelude.{Option, Some, None, option_to_list}
use Rattle.std.specs.List.{AllByRecursion, cons_option, filter_map}
use Rattle.std.specs.Option.{option_and_then}
use Rattle.std.proofs.lemmas.List.{map-append, take_more}
use Rattle.std.proofs.lemmas.List.Elements.{filter_map-append, recursion_from_All}
use Rattle.std.proofs.lemmas.Option.{same_Some}
use Rattle.lookup_bounds.proofs.BlocksChanges.{blocks_none}
use Rattle.live_index.specs.declared.live.Live.{Live}
use Rattle.records.specs.Contents.{super_record}
use Rattle.records.specs.Part.{IsLawful, Located}
use Rattle.records.specs.declared.rec.ItemAt.{ItemAt}
use Rattle.span_index.specs.declared.span.Span.{Span}
use Rattle.super_reader.specs.declared.Super.{Super}
use Rattle.tree_change.specs.Gathered.{located_item}
use Rattle.change_records.specs.Spans.{IsLawfulIn, span_of}
use Rattle.change_records.specs.declared.changes.ItemChange.{ItemChange}
use Rattle.commit_laws.specs.Paired.{came_items, came_of, gone_items, gone_of}
use Rattle.commit_laws.specs.Same.{live_record}
use Rattle.commit_laws.specs.Sectors.{AreSound}
use Rattle.commit_laws.specs.Steps.{change_records, spans_of}

-- a record keeps what its row asks
abbrev Sound : ℕ → Located → Type 0
Sound nodesize one = IsLawfulIn nodesize one one.part × IsLawful one.part

-- the items that changes name, by what each names
abbrev pub picked : (ItemChange → Option ItemAt) → List ItemChange → List Located
picked of changes = map located_item (filter_map of changes)

-- what holds of all these items holds of the one that a change names
each : (P : Located → Type 0) (of : ItemChange → Option ItemAt) (changes : List ItemChange) (i : ℕ) (d : ItemChange) (one : ItemAt)
    → i < length changes → AllByRecursion P (picked of changes) → of (get_or changes i d) ≡ Some one → P (located_item one)
each P of [] i d one inside all is = absurd (omega arith)
each P of (change ∷ changes) zero d one inside all is = by (of change) is all
  where
    by : (o : Option ItemAt) → o ≡ Some one → AllByRecursion P (map located_item (cons_option o (filter_map of changes))) → P (located_item one)
    by None is all = absurd (cc)
    by (Some other) is all = subst (λ x. P (located_item x)) (same_Some other one is) all.0
each P of (change ∷ changes) (suc i) d one inside all is = each P of changes i d one (omega arith) (rest (of change) all) is
  where
    rest : (o : Option ItemAt) → AllByRecursion P (map located_item (cons_option o (filter_map of changes))) → AllByRecursion P (picked of changes)
    rest None all = all
    rest (Some other) all = all.1

-- the span of an item, where there is an item and it has one
abbrev span_at : ℕ → Option ItemAt → Option Span
span_at nodesize item = option_and_then (λ one. span_of nodesize (located_item one)) item

first_span : (o : Option Span) → cons_option o [] ≡ option_to_list o
first_span None = refl
first_span (Some span) = refl

one_more : (nodesize : ℕ) (o : Option ItemAt)
    → filter_map (span_of nodesize) (map located_item (cons_option o [])) ≡ option_to_list (span_at nodesize o)
one_more nodesize None = refl
one_more nodesize (Some one) = first_span (span_of nodesize (located_item one))

picked_more : (nodesize : ℕ) (of : ItemChange → Option ItemAt) (changes : List ItemChange) (i : ℕ) (d : ItemChange) → i < length changes
    → filter_map (span_of nodesize) (picked of (take (i + 1) changes))
    ≡ filter_map (span_of nodesize) (picked of (take i changes)) ++ option_to_list (span_at nodesize (of (get_or changes i d)))
picked_more nodesize of changes i d inside =
    ap (λ l. filter_map (span_of nodesize) (picked of l)) (take_more changes i d inside)
    ∙ ap (λ l. filter_map (span_of nodesize) (map located_item l)) (filter_map-append of (take i changes) (get_or changes i d ∷ []))
    ∙ ap (filter_map (span_of nodesize)) (map-append located_item (filter_map of (take i changes)) (cons_option (of (get_or changes i d)) []))
    ∙ filter_map-append (span_of nodesize) (picked of (take i changes)) (map located_item (cons_option (of (get_or changes i d)) []))
    ∙ ap (λ l. filter_map (span_of nodesize) (picked of (take i changes)) ++ l) (one_more nodesize (of (get_or changes i d)))

span_is : (nodesize : ℕ) (item : Option ItemAt) (some : Option Span)
    → ((one : ItemAt) → item ≡ Some one → IsLawful (located_item one).part → some ≡ span_of nodesize (located_item one)) → (item ≡ None → some ≡ None)
    → ((one : ItemAt) → item ≡ Some one → IsLawful (located_item one).part) → some ≡ span_at nodesize item
span_is nodesize None some is none sound = none refl
span_is nodesize (Some one) some is none sound = is one refl (sound one refl)

-- the spans of the items that the first changes name
abbrev pub AreSpansOf : ℕ → (ItemChange → Option ItemAt) → List ItemChange → ℕ → List Span → Type 0
AreSpansOf nodesize of changes i spans =
    AllByRecursion (λ (one : Located). IsLawfulIn nodesize one one.part × IsLawful one.part) (picked of changes)
    → spans ≡ filter_map (span_of nodesize) (picked of (take i changes))

pub spans_more : (nodesize : ℕ) (of : ItemChange → Option ItemAt) (changes : List ItemChange) (i : ℕ) (d : ItemChange) (now new : List Span)
    (item : Option ItemAt) (some : Option Span) → i < length changes → AreSpansOf nodesize of changes i now → item ≡ of (get_or changes i d)
    → ((one : ItemAt) → item ≡ Some one → IsLawful (located_item one).part → some ≡ span_of nodesize (located_item one)) → (item ≡ None → some ≡ None)
    → new ≡ now ++ option_to_list some → AreSpansOf nodesize of changes (i + 1) new
spans_more nodesize of changes i d now new item some inside so named is none more sound =
    more ∙ ap (λ l. l ++ option_to_list some) (so sound)
    ∙ ap (λ o. filter_map (span_of nodesize) (picked of (take i changes)) ++ option_to_list o)
    (span_is nodesize item some is none
    (λ one there. (each (Sound nodesize) of changes i d one inside sound (sym named ∙ there)).1) ∙ ap (span_at nodesize) named)
    ∙ sym (picked_more nodesize of changes i d inside)

-- ---- the records that a commit changes

items_sound : (P : Located → Type 0) (blocks : List Live) (items : List Located) → AllByRecursion P (map live_record blocks ++ items)
    → AllByRecursion P items
items_sound P [] items all = all
items_sound P (block ∷ blocks) items all = items_sound P blocks items all.1

spans_done : (nodesize : ℕ) (of : ItemChange → Option ItemAt) (changes : List ItemChange) (i : ℕ) (spans : List Span) (sup : Super)
    (blocks : List Live) → length changes ≤ i → AreSpansOf nodesize of changes i spans
    → AreSound nodesize (change_records sup blocks (picked of changes))
    → spans ≡ spans_of nodesize (change_records sup blocks (picked of changes))
unfolding spans_of
spans_done nodesize of changes i spans sup blocks all is sound =
    is (items_sound (Sound nodesize) blocks (picked of changes)
    (recursion_from_All (Sound nodesize) (super_record sup ∷ (map live_record blocks ++ picked of changes)) sound).1)
    ∙ ap (λ l. filter_map (span_of nodesize) (picked of l)) (take_all i changes all)
    ∙ sym (blocks_none nodesize blocks (picked of changes))

pub gone_done : (nodesize : ℕ) (items : List ItemAt) (changes : List ItemChange) (i : ℕ) (spans : List Span) (sup : Super) (blocks : List Live)
    → length changes ≤ i → AreSpansOf nodesize (gone_of items) changes i spans
    → AreSound nodesize (change_records sup blocks (gone_items items changes))
    → spans ≡ spans_of nodesize (change_records sup blocks (gone_items items changes))
unfolding gone_items
gone_done nodesize items changes i spans sup blocks = spans_done nodesize (gone_of items) changes i spans sup blocks

pub came_done : (nodesize : ℕ) (items : List ItemAt) (changes : List ItemChange) (i : ℕ) (spans : List Span) (sup : Super) (blocks : List Live)
    → length changes ≤ i → AreSpansOf nodesize (came_of items) changes i spans
    → AreSound nodesize (change_records sup blocks (came_items items changes))
    → spans ≡ spans_of nodesize (change_records sup blocks (came_items items changes))
unfolding came_items
came_done nodesize items changes i spans sup blocks = spans_done nodesize (came_of items) changes i spans sup blocks

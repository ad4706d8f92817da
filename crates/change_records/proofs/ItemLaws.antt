-- Items and their spans.
use Rattle.std.proofs.Common.{◌≡◌, ℕ, zero, suc, ◌+◌, ◌/◌, ◌%◌, ◌^◌, ◌<◌, Bool, true, false, cond, ◌&&◌, inl, inr, List, [], ◌∷◌, length, get_or, refl, sym, ap, ◌∙◌, subst, arith}
use Rattle.std.specs.Prelude.{◌==◌, Option, Some, None}
use Rattle.std.specs.List.{Contains, cons_option, count_by, filter, filter_map}
use Rattle.std.proofs.lemmas.List.Sums.{length-filter}
use Rattle.std.proofs.lemmas.Bool.{and_parts, cases_order, eqb-true}
use Rattle.std.proofs.lemmas.List.{get_or_default}
use Rattle.std.proofs.lemmas.List.Elements.{All-contains}
use Rattle.std.proofs.lemmas.Nat.{div-add-mod'}
use Rattle.change_records.proofs.PostingLaws.{one_span}
use Rattle.verdict.specs.declared.kinds.TheConstants.{EXTENT_DATA}
use Rattle.fs_items.specs.declared.file_extent.FileExtent.{FileExtent}
use Rattle.records.specs.Part.{Located, Part}
use Rattle.records.specs.Part.Part.{ExtentPart, FileExtentPart, SumsPart}
use Rattle.records.specs.SpacePostings.{is_data}
use Rattle.span_index.specs.declared.span.Span.{Span}
use Rattle.span_index.specs.declared.span.SpanSort.TheVariants.{Owned, Shown}
use Rattle.span_index.specs.Order.{is_same}
use Rattle.span_index.specs.Spans.{Table}
use Rattle.span_index.proofs.TableLaws.{same_is, same_itself}
use Rattle.change_records.specs.Search.{AreAlone, AreLawful, IsLawfulSpan, IsShownAt}
use Rattle.change_records.specs.Spans.{AreItemsOf, IsLawfulIn, IsLawfulRange, extent_span, is_written, shown_span, span_in, span_of, sums_span}
use Rattle.change_records.proofs.Merge.{contains_first, contains_more, from_one}

-- ---- counts

filtered_head : {X : Type 0} (p : X → Bool) (x : X) (xs : List X) (b : Bool) → p x ≡ b → 0 < length (cond b (x ∷ filter p xs) (filter p xs))
    → (0 < length (filter p xs) → (y : X) × Contains xs y × (p y ≡ true)) → (y : X) × Contains (x ∷ xs) y × (p y ≡ true)
filtered_head p x xs true e some later = (x, contains_first x xs, e)
filtered_head p x xs false e some later = let found = later some in (found.0, contains_more x xs found.0 found.1, found.2)

filtered_one : {X : Type 0} (p : X → Bool) (xs : List X) → 0 < length (filter p xs) → (y : X) × Contains xs y × (p y ≡ true)
filtered_one p [] some = absurd (omega (arith, some))
filtered_one p (x ∷ xs) some = filtered_head p x xs (p x) refl some (filtered_one p xs)

counted_one : {X : Type 0} (p : X → Bool) (xs : List X) → 0 < count_by p xs → (y : X) × Contains xs y × (p y ≡ true)
counted_one p xs some = filtered_one p xs (subst (λ n. 0 < n) (sym (length-filter p xs)) some)

in_head : {X : Type 0} (x : X) (b : Bool) (ys : List X) → b ≡ true → 0 < length (cond b (x ∷ ys) ys)
in_head x true ys is = omega arith
in_head x false ys is = absurd (cc)

in_more : {X : Type 0} (x : X) (b : Bool) (ys : List X) → 0 < length ys → 0 < length (cond b (x ∷ ys) ys)
in_more x true ys some = omega arith
in_more x false ys some = some

filters_at : {X : Type 0} (p : X → Bool) (xs : List X) (k : ℕ) (d : X) → k < length xs → p (get_or xs k d) ≡ true → 0 < length (filter p xs)
filters_at p [] k d small is = absurd (omega (arith, small))
filters_at p (x ∷ xs) zero d small is = in_head x (p x) (filter p xs) is
filters_at p (x ∷ xs) (suc k) d small is = in_more x (p x) (filter p xs) (filters_at p xs k d (omega (arith, small)) is)

counts_at : {X : Type 0} (p : X → Bool) (xs : List X) (k : ℕ) (d : X) → k < length xs → p (get_or xs k d) ≡ true → 0 < count_by p xs
counts_at p xs k d small is = subst (λ n. 0 < n) (length-filter p xs) (filters_at p xs k d small is)

counts_one : {X : Type 0} (p : X → Bool) (xs : List X) (y : X) → Contains xs y → p y ≡ true → 0 < count_by p xs
counts_one p xs y is passes = counts_at p xs is.0 y is.1 (subst (λ x. p x ≡ true) (sym is.2) passes)

-- what a list is made of has each thing that is made of one element
to_one : {X Y : Type 0} (h : X → Option Y) (xs : List X) (k : ℕ) (d : X) (y : Y) → k < length xs → h (get_or xs k d) ≡ Some y → Contains (filter_map h xs) y
to_one h [] k d y small is = absurd (omega (arith, small))
to_one h (x ∷ xs) zero d y small is = subst (λ o. Contains (cons_option o (filter_map h xs)) y) (sym is) (contains_first y (filter_map h xs))
to_one {X} {Y} h (x ∷ xs) (suc k) d y small is = behind (h x) (to_one h xs k d y (omega (arith, small)) is)
  where
    behind : (o : Option Y) → Contains (filter_map h xs) y → Contains (cons_option o (filter_map h xs)) y
    behind None there = there
    behind (Some z) there = contains_more z (filter_map h xs) y there

-- ---- items of a table

-- a span that stands is that of an item
pub item_of : (n : ℕ) (table : Table) (items : List Located) (span : Span) → AreItemsOf n table items → 0 < table span
    → (one : Located) × Contains items one × (span_of n one ≡ Some span)
item_of n table items span are stands =
    let found = counted_one (is_same span) (filter_map (span_of n) items) (subst (λ m. 0 < m) (are.spans span) stands) in
    let same : span ≡ found.0 = same_is span found.0 found.2 in
    let made = from_one (span_of n) items found.0 found.1 in
    (made.0, made.1, made.2 ∙ ap Some (sym same))

-- the span of an item stands
pub stands_of : (n : ℕ) (table : Table) (items : List Located) (one : Located) (span : Span) → AreItemsOf n table items → Contains items one → span_of n one ≡ Some span
    → 0 < table span
stands_of n table items one span are among is =
    subst (λ m. 0 < m) (sym (are.spans span))
    (counts_one (is_same span) (filter_map (span_of n) items) span
    (to_one (span_of n) items among.0 one span among.1 (ap (span_of n) among.2 ∙ is)) (same_itself span))

pub lawful_of : (n : ℕ) (table : Table) (items : List Located) (one : Located) → AreItemsOf n table items → Contains items one → IsLawfulIn n one one.part
lawful_of n table items one are among = All-contains (λ (x : Located). IsLawfulIn n x x.part) items one are.lawful among

-- one item alone has a tree and a key
same_item : (n : ℕ) (table : Table) (items : List Located) (one other : Located) → AreItemsOf n table items → Contains items one → Contains items other → one.tree ≡ other.tree
    → one.key ≡ other.key → one ≡ other
same_item n table items one other are among also tree key = elim (cases_order among.0 also.0) [
  | inl same ↦ sym among.2 ∙ get_or_default items among.0 one other among.1 ∙ ap (λ i. get_or items i other) same ∙ also.2
  | inr apart ↦ elim apart [
    | inl below ↦
        absurd (are.distinct among.0 also.0 one below also.1
        (ap (λ x. x.tree) among.2 ∙ tree ∙ sym (ap (λ x. x.tree) at_other))
        (ap (λ x. x.key) among.2 ∙ key ∙ sym (ap (λ x. x.key) at_other)))
    | inr above ↦
        absurd (are.distinct also.0 among.0 one above among.1
        (ap (λ x. x.tree) at_other ∙ sym tree ∙ sym (ap (λ x. x.tree) among.2))
        (ap (λ x. x.key) at_other ∙ sym key ∙ sym (ap (λ x. x.key) among.2)))
  ]
]
  where
    at_other : get_or items also.0 one ≡ other
    at_other = get_or_default items also.0 one other also.1 ∙ also.2

-- ---- lawful spans

extent_lawful : (n : ℕ) (d : Bool) (first offset : ℕ) → cond d offset n % 4096 ≡ 0 → 0 < cond d offset n → first + cond d offset n < 2 ^ 64
    → IsLawfulSpan n (record { first = first; sectors = cond d offset n / 4096; sort = Owned d })
extent_lawful n true first offset whole some fits =
    let sum = div-add-mod' offset 4096 in
    (omega (arith, sum, whole, some), refl, omega (arith, sum, fits))
extent_lawful n false first offset whole some fits =
    let sum = div-add-mod' n 4096 in
    (omega (arith, sum, whole, some), omega (arith, sum, whole), omega (arith, sum, fits))

range_lawful : (n : ℕ) (one : Located) (tree : ℕ) (range : FileExtent) → IsLawfulRange one range → IsLawfulSpan n (shown_span tree range)
range_lawful n one tree range lawful =
    let sum = div-add-mod' range.length 4096 in
    let inside = lawful.inside in
    let fits = lawful.fits in
    (omega arith, omega (arith, sum, inside), fits)

written_lawful : (n : ℕ) (one : Located) (tree : ℕ) (range : FileExtent) (span : Span) (b : Bool) → is_written range ≡ b → cond b (Some (shown_span tree range)) None ≡ Some span
    → (is_written range ≡ true → IsLawfulRange one range) → IsLawfulSpan n span
written_lawful n one tree range span false written is lawful = absurd (cc)
written_lawful n one tree range span true written is lawful = subst (IsLawfulSpan n) (one_span (shown_span tree range) span is) (range_lawful n one tree range (lawful written))

span_lawful : (n : ℕ) (one : Located) (tree : ℕ) (part : Part) (span : Span) → span_in n tree part ≡ Some span → IsLawfulIn n one part → IsLawfulSpan n span
span_lawful n one tree (ExtentPart item) span is lawful =
    subst (IsLawfulSpan n) (one_span (extent_span n item) span is) (extent_lawful n (is_data item) item.key.objectid item.key.offset lawful.whole lawful.some lawful.fits)
span_lawful n one tree (FileExtentPart range) span is lawful = written_lawful n one tree range span (is_written range) refl is lawful
span_lawful n one tree (SumsPart item) span is lawful = subst (IsLawfulSpan n) (one_span (sums_span item) span is) tt
span_lawful n one tree other span is lawful = absurd (cc)

pub are_lawful : (n : ℕ) (table : Table) (items : List Located) → AreItemsOf n table items → AreLawful n table
are_lawful n table items are span stands =
    let found = item_of n table items span are stands in
    span_lawful n found.0 found.0.tree found.0.part span found.2 (lawful_of n table items found.0 are found.1)

-- ---- what an inode shows

-- the offset, inode and tree of a shown span are those of its item
record IsShownItem (one : Located) (tree ino offset : ℕ) : Type 0 where
  pub tree_is : one.tree ≡ tree
  pub key_is : one.key ≡ record { objectid = ino; kind = EXTENT_DATA; offset = offset }

shown_of : (tree ino offset t i o e l : ℕ) → IsShownAt tree ino offset (record { first = 0; sectors = 0; sort = Shown t i o e l }) → (t ≡ tree) × (i ≡ ino) × (o ≡ offset)
shown_of tree ino offset t i o e l is =
    let first = and_parts (t == tree) (i == ino && true) is.0 in
    let rest = and_parts (i == ino) true first.1 in
    (eqb-true _ _ first.0, eqb-true _ _ rest.0, is.1)

shown_range : (one : Located) (range : FileExtent) (tree ino offset : ℕ) → IsLawfulRange one range → IsShownAt tree ino offset (shown_span one.tree range) → IsShownItem one tree ino offset
shown_range one range tree ino offset lawful is =
    let its = shown_of tree ino offset one.tree range.key.objectid range.key.offset range.extent range.extent_length is in
    let e1 = its.1 in
    let e2 = lawful.kind in
    let e3 = its.2 in
    record { tree_is = its.0; key_is = lawful.key ∙ (λ i. record { objectid = e1 i; kind = e2 i; offset = e3 i }) }

shown_written : (one : Located) (range : FileExtent) (tree ino offset : ℕ) (span : Span) (b : Bool) → is_written range ≡ b → cond b (Some (shown_span one.tree range)) None ≡ Some span
    → (is_written range ≡ true → IsLawfulRange one range) → IsShownAt tree ino offset span → IsShownItem one tree ino offset
shown_written one range tree ino offset span false written is lawful shown = absurd (cc)
shown_written one range tree ino offset span true written is lawful shown =
    shown_range one range tree ino offset (lawful written) (subst (IsShownAt tree ino offset) (sym (one_span (shown_span one.tree range) span is)) shown)

never_shown : (tree ino offset : ℕ) (s t : Span) → s ≡ t → (IsShownAt tree ino offset s → ⊥) → IsShownAt tree ino offset t → ⊥
never_shown tree ino offset s t same never is = never (subst (IsShownAt tree ino offset) (sym same) is)

shown_item : (n : ℕ) (one : Located) (part : Part) (tree ino offset : ℕ) (span : Span) → span_in n one.tree part ≡ Some span → IsLawfulIn n one part → IsShownAt tree ino offset span
    → IsShownItem one tree ino offset
shown_item n one (ExtentPart item) tree ino offset span is lawful shown =
    absurd (never_shown tree ino offset (extent_span n item) span (one_span (extent_span n item) span is) (λ h. absurd (let no_sort : false ≡ true = h.0 in cc)) shown)
shown_item n one (FileExtentPart range) tree ino offset span is lawful shown =
    shown_written one range tree ino offset span (is_written range) refl is lawful shown
shown_item n one (SumsPart item) tree ino offset span is lawful shown =
    absurd (never_shown tree ino offset (sums_span item) span (one_span (sums_span item) span is) (λ h. absurd (let no_sort : false ≡ true = h.0 in cc)) shown)
shown_item n one other tree ino offset span is lawful shown = absurd (cc)

pub are_alone : (n : ℕ) (table : Table) (items : List Located) → AreItemsOf n table items → AreAlone table
are_alone n table items are tree ino offset span other stands also shown too =
    let one = item_of n table items span are stands in
    let two = item_of n table items other are also in
    let first = shown_item n one.0 one.0.part tree ino offset span one.2 (lawful_of n table items one.0 are one.1) shown in
    let second = shown_item n two.0 two.0.part tree ino offset other two.2 (lawful_of n table items two.0 are two.1) too in
    let same = same_item n table items one.0 two.0 are one.1 two.1 (first.tree_is ∙ sym second.tree_is) (first.key_is ∙ sym second.key_is) in
    one_span span other (sym one.2 ∙ ap (span_of n) same ∙ two.2)

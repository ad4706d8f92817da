-- The items that are found are the affected ones.
use Rattle.std.proofs.Common.{◌≡◌, ℕ, ◌*◌, ◌/◌, ◌%◌, ◌<◌, Bool, true, false, cond, List, [], refl, sym, ap, ◌∙◌, subst, arith}
use Rattle.std.specs.Prelude.{Option, Some, None, Result, Ok, Err, IfOk}
use Rattle.std.specs.BTreeSet as set
use Rattle.std.specs.List.{list_any}
use Rattle.std.specs.BTreeMap.{is_at}
use Rattle.std.specs.List.Sorted.{IsStrictlySortedBy}
use Rattle.std.specs.Ordering.{is_eq}
use Rattle.std.specs.Cmp.{IsTotalOrder, on_total, then_total, nat_cmp_total}
use Rattle.std.proofs.Math.Path.{fun_ext}
use Rattle.std.proofs.lemmas.Bool.{eqb-true}
use Rattle.std.proofs.lemmas.Map.Lookups.{CmpEqualImpliesEq}
use Rattle.std.proofs.lemmas.Map.Views.{btree_set_contains_iff}
use Rattle.std.proofs.lemmas.Nat.{div-add-mod'}
use Rattle.verdict.specs.declared.key.Key.{Key}
use Rattle.verdict.specs.declared.place.Chunk.{Chunk}
use Rattle.verdict.specs.declared.kinds.TheConstants.{EXTENT_DATA, EXTENT_ITEM}
use Rattle.accounts.specs.Context.{Context}
use Rattle.extent_items.specs.ExtentRow.{ExtentFields}
use Rattle.fs_items.specs.declared.file_extent.FileExtent.{FileExtent}
use Rattle.live_index.specs.Pairs.{Pairs}
use Rattle.records.specs.declared.rec.ItemAt.{ItemAt}
use Rattle.records.specs.Part.{Located, Part}
use Rattle.records.specs.Part.Part.{ExtentPart, FileExtentPart, SumsPart}
use Rattle.records.specs.SpacePostings.{is_data}
use Rattle.span_index.specs.Spans.{Table}
use Rattle.span_index.specs.declared.span.Span.{Span}
use Rattle.span_index.specs.declared.span.SpanSort.TheVariants.{Owned}
use Rattle.change_records.specs.declared.changes.ItemChange.{ItemChange}
use Rattle.change_records.specs.declared.item_ref.ItemRef.{ItemRef}
use Rattle.change_records.specs.declared.kept.Made.{Made}
use Rattle.change_records.specs.Affected.{AreAffected, IsAffected, NamesIn, context_with}
use Rattle.change_records.specs.Made.{IsMade, has_name}
use Rattle.change_records.specs.Refs.{is_named, ref_cmp, ref_to}
use Rattle.change_records.specs.Search.{IsFound, IsHit, SortNames, SpanDiffers, SpanNames, known, new_flags}
use Rattle.change_records.specs.Spans.{AreItemsOf, IsLawfulExtent, IsLawfulIn, IsLawfulRange, extent_span, is_written, shown_span, span_in, span_of, sums_span}
use Rattle.change_records.specs.SumFree.{flags_after}
use Rattle.change_records.proofs.ItemLaws.{item_of, lawful_of, stands_of}
use Rattle.change_records.proofs.MadeLaws.{tied_ref}
use Rattle.change_records.proofs.PostingLaws.{IsWhole, item_differs, item_plain, span_differs, one_span}
use Rattle.change_records.proofs.SearchLaws.{same_ref}

-- ---- the order of names

ref_total : IsTotalOrder ref_cmp
ref_total =
    then_total (on_total (λ (r : ItemRef). r.tree) nat_cmp_total)
    (then_total (on_total (λ (r : ItemRef). r.key.objectid) nat_cmp_total)
    (then_total (on_total (λ (r : ItemRef). r.key.kind) nat_cmp_total) (on_total (λ (r : ItemRef). r.key.offset) nat_cmp_total)))

ref_exact : CmpEqualImpliesEq ref_cmp
ref_exact a b is = same_ref a b (sym (tied_ref a b) ∙ ap is_eq is)

-- ---- the name of a span's item

whole_key : (key : Key) → key.offset % 4096 ≡ 0 → key.offset ≡ key.offset / 4096 * 4096
whole_key key whole = let sum = div-add-mod' key.offset 4096 in omega (arith, sum, whole)

-- the name of an item of data by its span
data_ref : (n : ℕ) (one : Located) (item : ExtentFields) → IsLawfulExtent n one item → is_data item ≡ true
    → ref_to one.tree one.key ≡ ref_to 2 (record { objectid = item.key.objectid; kind = EXTENT_ITEM; offset = cond (is_data item) item.key.offset n / 4096 * 4096 })
data_ref n one item lawful of_data =
    let e1 = lawful.tree in
    let e2 = lawful.key in
    let kind : item.key.kind ≡ EXTENT_ITEM = eqb-true _ _ of_data in
    let bytes : cond (is_data item) item.key.offset n ≡ item.key.offset = ap (λ b. cond b item.key.offset n) of_data in
    let offset : item.key.offset ≡ item.key.offset / 4096 * 4096 = whole_key item.key (ap (λ m. m % 4096) (sym bytes) ∙ lawful.whole) in
    (λ i. record { tree = e1 i; key = e2 i })
    ∙ (λ i. record { tree = 2; key = record { objectid = item.key.objectid; kind = kind i; offset = offset i } })
    ∙ ap (λ m. ref_to 2 (record { objectid = item.key.objectid; kind = EXTENT_ITEM; offset = m / 4096 * 4096 })) (sym bytes)

range_ref : (one : Located) (range : FileExtent) → IsLawfulRange one range
    → ref_to one.tree one.key ≡ ref_to one.tree (record { objectid = range.key.objectid; kind = EXTENT_DATA; offset = range.key.offset })
range_ref one range lawful =
    let e1 = lawful.key in
    let e2 = lawful.kind in
    (λ i. record { tree = one.tree; key = e1 i }) ∙ (λ i. record { tree = one.tree; key = record { objectid = range.key.objectid; kind = e2 i; offset = range.key.offset } })

pub extent_to : (n : ℕ) (pairs : Pairs) (one : Located) (item : ExtentFields) (at : ItemRef) (d : Bool) → is_data item ≡ d → IsLawfulExtent n one item
    → NamesIn pairs one (ExtentPart item) at → SortNames pairs item.key.objectid (cond (is_data item) item.key.offset n / 4096) (Owned d) at
extent_to n pairs one item at true e lawful names = names.0 e ∙ data_ref n one item lawful e
extent_to n pairs one item at false e lawful names = names.1 e

pub extent_back : (n : ℕ) (pairs : Pairs) (one : Located) (item : ExtentFields) (at : ItemRef) (d : Bool) → is_data item ≡ d → IsLawfulExtent n one item
    → SortNames pairs item.key.objectid (cond (is_data item) item.key.offset n / 4096) (Owned d) at → NamesIn pairs one (ExtentPart item) at
extent_back n pairs one item at true e lawful names = (λ of_data. names ∙ sym (data_ref n one item lawful e), λ unlike. absurd (let both : true ≡ false = sym e ∙ unlike in cc))
extent_back n pairs one item at false e lawful names = (λ of_data. absurd (let both : true ≡ false = sym of_data ∙ e in cc), λ unlike. names)

pub written_to : (pairs : Pairs) (one : Located) (range : FileExtent) (at : ItemRef) (span : Span) (b : Bool) → is_written range ≡ b
    → cond b (Some (shown_span one.tree range)) None ≡ Some span → (is_written range ≡ true → IsLawfulRange one range) → at ≡ ref_to one.tree one.key → SpanNames pairs span at
written_to pairs one range at span false written is lawful name = absurd (cc)
written_to pairs one range at span true written is lawful name =
    subst (λ s. SpanNames pairs s at) (one_span (shown_span one.tree range) span is) (name ∙ range_ref one range (lawful written))

pub written_back : (pairs : Pairs) (one : Located) (range : FileExtent) (at : ItemRef) (span : Span) (b : Bool) → is_written range ≡ b
    → cond b (Some (shown_span one.tree range)) None ≡ Some span → (is_written range ≡ true → IsLawfulRange one range) → SpanNames pairs span at → at ≡ ref_to one.tree one.key
written_back pairs one range at span false written is lawful name = absurd (cc)
written_back pairs one range at span true written is lawful name =
    let here = subst (λ s. SpanNames pairs s at) (sym (one_span (shown_span one.tree range) span is)) name in here ∙ sym (range_ref one range (lawful written))

no_differs : (before after : Context) (s t : Span) → s ≡ t → (SpanDiffers before after s → ⊥) → SpanDiffers before after t → ⊥
no_differs before after s t same never is = never (subst (SpanDiffers before after) (sym same) is)

name_to : (n : ℕ) (pairs : Pairs) (before after : Context) (one : Located) (part : Part) (at : ItemRef) (span : Span) → span_in n one.tree part ≡ Some span → IsLawfulIn n one part
    → SpanDiffers before after span → NamesIn pairs one part at → SpanNames pairs span at
name_to n pairs before after one (ExtentPart item) at span is lawful differs names =
    subst (λ s. SpanNames pairs s at) (one_span (extent_span n item) span is) (extent_to n pairs one item at (is_data item) refl lawful names)
name_to n pairs before after one (FileExtentPart range) at span is lawful differs names = written_to pairs one range at span (is_written range) refl is lawful names
name_to n pairs before after one (SumsPart item) at span is lawful differs names = absurd (no_differs before after (sums_span item) span (one_span (sums_span item) span is) (λ h. h) differs)
name_to n pairs before after one other at span is lawful differs names = absurd (cc)

name_back : (n : ℕ) (pairs : Pairs) (before after : Context) (one : Located) (part : Part) (at : ItemRef) (span : Span) → span_in n one.tree part ≡ Some span → IsLawfulIn n one part
    → SpanDiffers before after span → SpanNames pairs span at → NamesIn pairs one part at
name_back n pairs before after one (ExtentPart item) at span is lawful differs names =
    extent_back n pairs one item at (is_data item) refl lawful (subst (λ s. SpanNames pairs s at) (sym (one_span (extent_span n item) span is)) names)
name_back n pairs before after one (FileExtentPart range) at span is lawful differs names = written_back pairs one range at span (is_written range) refl is lawful names
name_back n pairs before after one (SumsPart item) at span is lawful differs names = absurd (no_differs before after (sums_span item) span (one_span (sums_span item) span is) (λ h. h) differs)
name_back n pairs before after one other at span is lawful differs names = absurd (cc)

whole_in : (n : ℕ) (one : Located) (part : Part) → IsLawfulIn n one part → IsWhole n part
whole_in n one (ExtentPart item) lawful = lawful.whole
whole_in n one other lawful = tt

-- ---- the affected items

module _ (olds news : List Chunk) (n : ℕ) (free : ℕ → ℕ → Bool) (pairs : Pairs) (made : Made) (table : Table) (items : List Located) (are : AreItemsOf n table items) where
  -- an item of a span that differs is affected
  affected_by : (span : Span) (at : ItemRef) → 0 < table span → IsHit (known olds n free pairs news made) span at
      → IsAffected pairs (context_with olds n free) (context_with news n (new_flags made free)) (has_name made) items at
  affected_by span at stands hit =
      let found = item_of n table items span are stands in
      let lawful = lawful_of n table items found.0 are found.1 in
      record {
        one = found.0;
        among = found.1;
        name = name_back n pairs (context_with olds n free) (context_with news n (new_flags made free)) found.0 found.0.part at span found.2 lawful hit.differs hit.name;
        kept = hit.kept;
        differs = span_differs olds news n free (new_flags made free) found.0 span found.2 (whole_in n found.0 found.0.part lawful) hit.differs;
      }

  -- an affected item has a span that differs
  hit_of : (at : ItemRef) (its : IsAffected pairs (context_with olds n free) (context_with news n (new_flags made free)) (has_name made) items at)
      → (span : Span) × (0 < table span) × IsHit (known olds n free pairs news made) span at
  hit_of at its = by (span_of n its.one) refl
    where
      lawful : IsLawfulIn n its.one its.one.part
      lawful = lawful_of n table items its.one are its.among

      by : (o : Option Span) → span_of n its.one ≡ o → (span : Span) × (0 < table span) × IsHit (known olds n free pairs news made) span at
      by None e = absurd (its.differs (item_plain olds news n free (new_flags made free) its.one e))
      by (Some span) e =
          let differs = item_differs olds news n free (new_flags made free) its.one span e (whole_in n its.one its.one.part lawful) its.differs in (
            span,
            stands_of n table items its.one span are its.among e,
            record {
              name = name_to n pairs (context_with olds n free) (context_with news n (new_flags made free)) its.one its.one.part at span e lawful differs its.name;
              kept = its.kept;
              differs = differs;
            },
          )

  all_found : (refs : set.BTreeSet ItemRef) → IsFound (known olds n free pairs news made) table refs → IsStrictlySortedBy ref_cmp refs.keys
      → AreAffected pairs (context_with olds n free) (context_with news n (new_flags made free)) (has_name made) items refs.keys
  all_found refs found ordered = record {
    hold = λ at among.
        (let its = found.hold at ((btree_set_contains_iff ref_total ref_exact refs at).1 among) in
        affected_by its.0 at its.1 its.2);
    all = λ at its.
        (let hit = hit_of at its in
        (btree_set_contains_iff ref_total ref_exact refs at).0 (found.all hit.0 at hit.1 hit.2));
    ascend = ordered;
  }

-- with what the changes name and make of flags in the place of what is kept of them
pub all_affected : (olds news : List Chunk) (n : ℕ) (free : ℕ → ℕ → Bool) (pairs : Pairs) (made : Made) (table : Table) (items : List Located) (old new : List ItemAt)
    (changes : List ItemChange) (refs : set.BTreeSet ItemRef) (list : List ItemRef) → AreItemsOf n table items → IsMade old new changes made
    → IsFound (known olds n free pairs news made) table refs → list ≡ refs.keys → IsStrictlySortedBy ref_cmp list
    → AreAffected pairs (context_with olds n free) (context_with news n (flags_after old new changes free)) (is_named old new changes) items list
all_affected olds news n free pairs made table items old new changes refs list are is found same ordered =
    subst (AreAffected pairs (context_with olds n free) (context_with news n (flags_after old new changes free)) (is_named old new changes) items) (sym same)
    (subst (λ flags. AreAffected pairs (context_with olds n free) (context_with news n flags) (is_named old new changes) items refs.keys)
    (fun_ext (λ tree. fun_ext (λ ino. is.flags tree ino (free tree ino))))
    (subst (λ named. AreAffected pairs (context_with olds n free) (context_with news n (new_flags made free)) named items refs.keys) (fun_ext (λ at. is.named at))
    (all_found olds news n free pairs made table items are refs found (subst (IsStrictlySortedBy ref_cmp) same ordered))))

pub both_ok : {T E : Type 0} {P Q R : T → Type 0} (r : Result T E) → IfOk r P → IfOk r Q → ((x : T) → P x → Q x → R x) → IfOk r R
both_ok (Ok x) first second join = join x first second
both_ok (Err e) first second join = tt

pub none_yet : (refs : set.BTreeSet ItemRef) (at : ItemRef) → refs.keys ≡ [] → set.contains ref_cmp refs at ≡ false
none_yet refs at empty = ap (list_any (is_at (ref_cmp at))) empty

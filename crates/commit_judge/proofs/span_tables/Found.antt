-- The spans of a table that names name.
use Rattle.std.proofs.Common.{◌≡◌, ℕ, ◌+◌, ◌-◌, ◌*◌, ◌<◌, ◌⊎◌, Bool, true, false, cond, not, List, length, take, get_or, inl, inr, refl, ap, sym, ◌∙◌, subst, arith}
use Rattle.std.specs.Prelude.{◌++◌, [], nat_lt, Option, Some, None, IfSome, option_to_list}
use Rattle.std.specs.List.{Contains}
use Rattle.std.specs.Ordering.{bool_cmp, is_lt, nat_cmp, ordering_then}
use Rattle.std.specs.declared.cmp.Ordering.{Ordering}
use Rattle.std.specs.declared.cmp.Ordering.TheVariants.{Less, Equal, Greater}
use Rattle.std.proofs.lemmas.Bool.{and_from, and_parts, cases_lt, lt-ltb}
use Rattle.std.proofs.lemmas.Bool.Decides.{nat_tests}
use Rattle.std.proofs.lemmas.List.{take_more}
use Rattle.std.proofs.lemmas.Option.{same_Some}
use Rattle.std.proofs.lemmas.List.Elements.{Contains-append_cases, Contains-append_left, Contains-get_or, Contains-push, Contains-push_cases}
use Rattle.verdict.proofs.Numbers.{less_is, less_from, equal_from}
use Rattle.live_index.specs.Pairs.{Pairs}
use Rattle.span_index.specs.Order.{is_below}
use Rattle.span_index.specs.Spans.{IsMeeting, Table, is_met}
use Rattle.span_index.specs.declared.span.SortName.TheVariants.{Owned as OwnedName}
use Rattle.span_index.specs.declared.span.Span.{Span}
use Rattle.span_index.specs.declared.span.SpanSort.{SpanSort}
use Rattle.span_index.specs.declared.span.SpanSort.TheVariants.{Owned, Summed, Shown}
use Rattle.change_records.proofs.Merge.{contains_none}
use Rattle.change_records.specs.Search.{AreAlone, AreLawful, SpanNames}
use Rattle.change_records.specs.declared.item_ref.ItemRef.{ItemRef}
use Rattle.commit_judge.specs.Moves.{HaveNames, NameSpans}

-- ---- what an extent owns

equal_is : (a b : ℕ) → nat_cmp a b ≡ Equal → a ≡ b
equal_is a b is = grind (arith, nat_tests)

then_less : (o p : Ordering) → is_lt (ordering_then o p) ≡ true → (o ≡ Less) ⊎ ((o ≡ Equal) × (is_lt p ≡ true))
then_less Less p is = inl refl
then_less Equal p is = inr (refl, is)
then_less Greater p is = absurd (cc)

not_less : (o p : Ordering) → is_lt (ordering_then o p) ≡ false → o ≡ Less → ⊥
not_less Less p is less = absurd (cc)
not_less Equal p is less = absurd (cc)
not_less Greater p is less = absurd (cc)

then_not : (o p : Ordering) → is_lt (ordering_then o p) ≡ false → o ≡ Equal → is_lt p ≡ false
then_not Less p is same = absurd (cc)
then_not Equal p is same = is
then_not Greater p is same = absurd (cc)

-- the sectors of the span below the one of data or of a tree block with so many sectors
abbrev pub sectors_below : Bool → ℕ → ℕ
sectors_below d n = cond d n (n - 1)

-- the span below one that an extent owns
abbrev pub span_below : ℕ → ℕ → Bool → Span
span_below first sectors d = record { first = first; sectors = sectors_below d sectors; sort = Owned (not d) }

abbrev pub owned_at : ℕ → ℕ → Bool → Span
owned_at first sectors d = record { first = first; sectors = sectors; sort = Owned d }

-- what a span is of, by whether it is above or below another
data_kind : (e : Bool) → is_lt (bool_cmp false e) ≡ true → true ≡ e
data_kind true above = refl
data_kind false above = absurd (cc)

block_kind : (e : Bool) → is_lt (bool_cmp false e) ≡ false → false ≡ e
block_kind true least = absurd (cc)
block_kind false least = refl

none_above : (e : Bool) → is_lt (bool_cmp true e) ≡ true → ⊥
none_above true above = absurd (cc)
none_above false above = absurd (cc)

same_sectors : (n m : ℕ) → 0 < n → n - 1 < m → (n < m → ⊥) → n ≡ m
same_sectors n m some above least = elim (cases_lt n m) [ inl less ↦ absurd (least less) | inr more ↦ omega (arith, some, above, more) ]

-- no other has its place between the two, by sectors and by what they are of
between : (n m : ℕ) (d e : Bool) → 0 < n → is_lt (ordering_then (nat_cmp (sectors_below d n) m) (bool_cmp (not d) e)) ≡ true
    → is_lt (ordering_then (nat_cmp n m) (bool_cmp d e)) ≡ false → (n ≡ m) × (d ≡ e)
between n m true e some above least = elim (then_less (nat_cmp n m) (bool_cmp false e) above) [
  | inl less ↦ absurd (not_less (nat_cmp n m) (bool_cmp true e) least less)
  | inr same ↦ (equal_is n m same.0, data_kind e same.1)
]
between n m false e some above least = elim (then_less (nat_cmp (n - 1) m) (bool_cmp true e) above) [
  | inl less ↦
      (let same : n ≡ m =
      same_sectors n m some (less_is (n - 1) m less) (λ up. not_less (nat_cmp n m) (bool_cmp false e) least (less_from n m up)) in
      (same, block_kind e (then_not (nat_cmp n m) (bool_cmp false e) least (equal_from n m same))))
  | inr same ↦ absurd (none_above e same.1)
]

-- of the spans above the one below, the least is the wanted one
least_owned : (f n g m : ℕ) (d : Bool) (sort : SpanSort) → 0 < n
    → is_met OwnedName f (Some (span_below f n d)) (record { first = g; sectors = m; sort = sort }) ≡ true
    → is_below (owned_at f n d) (record { first = g; sectors = m; sort = sort }) ≡ false
    → owned_at f n d ≡ record { first = g; sectors = m; sort = sort }
unfolding is_below is_met
least_owned f n g m d (Owned e) some met least = elim (then_less (nat_cmp f g) (ordering_then (nat_cmp (sectors_below d n) m) (bool_cmp (not d) e))
    (and_parts (nat_lt f (g + m * 4096))
    (is_lt (ordering_then (nat_cmp f g) (ordering_then (nat_cmp (sectors_below d n) m) (bool_cmp (not d) e)))) met).1) [
      | inl less ↦ absurd (not_less (nat_cmp f g) (ordering_then (nat_cmp n m) (bool_cmp d e)) least less)
      | inr same ↦
          let first : f ≡ g = equal_is f g same.0 in
          let rest : (n ≡ m) × (d ≡ e) =
          between n m d e some same.1 (then_not (nat_cmp f g) (ordering_then (nat_cmp n m) (bool_cmp d e)) least same.0) in
          λ i. record { first = first i; sectors = rest.0 i; sort = Owned (rest.1 i) }
    ]
least_owned f n g m d Summed some met least = absurd (cc)
least_owned f n g m d (Shown t i o e l) some met least = absurd (cc)

above_below : (f n : ℕ) (d : Bool) → 0 < n → is_below (span_below f n d) (owned_at f n d) ≡ true
unfolding is_below
above_below f n true some =
    ap (λ o. is_lt (ordering_then o (ordering_then (nat_cmp n n) Less))) (equal_from f f refl)
    ∙ ap (λ o. is_lt (ordering_then o Less)) (equal_from n n refl)
above_below f n false some =
    ap (λ o. is_lt (ordering_then o (ordering_then (nat_cmp (n - 1) n) Greater))) (equal_from f f refl)
    ∙ ap (λ o. is_lt (ordering_then o Greater)) (less_from (n - 1) n (omega arith))

wanted_met : (f n : ℕ) (d : Bool) → 0 < n → is_met OwnedName f (Some (span_below f n d)) (owned_at f n d) ≡ true
unfolding is_met
wanted_met f n d some = and_from _ _ (lt-ltb f (f + n * 4096) (omega arith)) (above_below f n d some)

-- the look for a span that an extent owns finds it where it stands
pub owned_found : (table : Table) (f n : ℕ) (d : Bool) (below : Span) (some : Option Span) → below ≡ span_below f n d
    → IsMeeting table OwnedName f (Some below) some → 0 < n → 0 < table (owned_at f n d) → some ≡ Some (owned_at f n d)
owned_found table f n d below some under met more stands = by some (subst (λ s. IsMeeting table OwnedName f (Some s) some) under met)
  where
    wanted : is_met OwnedName f (Some (span_below f n d)) (owned_at f n d) ≡ true
    wanted = wanted_met f n d more

    here : (least : Span) → IsMeeting table OwnedName f (Some (span_below f n d)) (Some least) → (b : Bool) → is_below (owned_at f n d) least ≡ b
        → Some least ≡ Some (owned_at f n d)
    here least is true up = let gone : table (owned_at f n d) ≡ 0 = is.2 (owned_at f n d) wanted up in absurd (omega (arith, gone, stands))
    here least is false up = ap (λ s. Some s) (sym (least_owned f n least.first least.sectors d least.sort more is.1 up))

    by : (some : Option Span) → IsMeeting table OwnedName f (Some (span_below f n d)) some → some ≡ Some (owned_at f n d)
    by None is = let gone : table (owned_at f n d) ≡ 0 = is (owned_at f n d) wanted in absurd (omega (arith, gone, stands))
    by (Some least) is = here least is (is_below (owned_at f n d) least) refl

-- where it begins, and its sectors
pub owned_parts : (f n : ℕ) (d : Bool) (span : Span) → Some span ≡ Some (owned_at f n d) → (span.first ≡ f) × (span.sectors ≡ n)
owned_parts f n d span is =
    let same : span ≡ owned_at f n d = same_Some span (owned_at f n d) is in
    (ap (λ (s : Span). s.first) same, ap (λ (s : Span). s.sectors) same)

-- ---- all names of a list

-- the spans that the first names name are found
abbrev pub AreFoundSpans : ℕ → Table → List ItemRef → List Span → Type 0
AreFoundSpans nodesize table refs found =
    AreLawful nodesize table → AreAlone table → (pairs : Pairs) (span : Span) (at : ItemRef) → 0 < table span → SpanNames pairs span at
    → Contains refs at → Contains found span

pub found_more : (nodesize : ℕ) (table : Table) (refs : List ItemRef) (i : ℕ) (d : ItemRef) (now new : List Span) (some : Option Span)
    → i < length refs → AreFoundSpans nodesize table (take i refs) now
    → (AreLawful nodesize table → AreAlone table → (pairs : Pairs) (span : Span) → 0 < table span → SpanNames pairs span (get_or refs i d)
    → some ≡ Some span)
    → new ≡ now ++ option_to_list some → AreFoundSpans nodesize table (take (i + 1) refs) new
found_more nodesize table refs i d now new some inside so is more lawful alone pairs span at stands names among =
    subst (λ l. Contains l span) (sym more)
    (by (Contains-push_cases (take i refs) (get_or refs i d) at (subst (λ l. Contains l at) (take_more refs i d inside) among)))
  where
    by : Contains (take i refs) at ⊎ (get_or refs i d ≡ at) → Contains (now ++ option_to_list some) span
    by (inl early) = Contains-append_left now (option_to_list some) span (so lawful alone pairs span at stands names early)
    by (inr here) =
        let its : some ≡ Some span = is lawful alone pairs span stands (subst (λ r. SpanNames pairs span r) (sym here) names) in
        subst (λ o. Contains (now ++ option_to_list o) span) (sym its) (Contains-push now span)

-- all that is found stands
abbrev pub AllStand : Table → List Span → Type 0
AllStand table found = (span : Span) → Contains found span → 0 < table span

pub stand_more : (table : Table) (now new : List Span) (some : Option Span) → AllStand table now → IfSome some (λ span. 0 < table span)
    → new ≡ now ++ option_to_list some → AllStand table new
stand_more table now new some so stands more span among =
    by some stands (Contains-append_cases now (option_to_list some) span (subst (λ l. Contains l span) more among))
  where
    by : (some : Option Span) → IfSome some (λ span. 0 < table span) → Contains now span ⊎ Contains (option_to_list some) span → 0 < table span
    by some stands (inl early) = so span early
    by None stands (inr here) = absurd (contains_none span here)
    by (Some other) stands (inr here) = elim (Contains-push_cases [] other span here) [
      | inl none ↦ absurd (contains_none span none)
      | inr same ↦ subst (λ s. 0 < table s) same stands
    ]

-- where all names are those of spans that stand, what is found has the names
abbrev pub AreNamedSpans : ℕ → Table → List ItemRef → List Span → Type 0
AreNamedSpans nodesize table refs found =
    AreLawful nodesize table → AreAlone table → (pairs : Pairs) → NameSpans table pairs refs → HaveNames pairs refs found

pub named_none : (nodesize : ℕ) (table : Table) (refs : List ItemRef) (found : List Span) → found ≡ [] → AreNamedSpans nodesize table refs found
named_none nodesize table refs found empty lawful alone pairs name span among =
    absurd (contains_none span (subst (λ l. Contains l span) empty among))

pub named_more : (nodesize : ℕ) (table : Table) (refs : List ItemRef) (i : ℕ) (d : ItemRef) (now new : List Span) (some : Option Span)
    → i < length refs → AreNamedSpans nodesize table refs now
    → (AreLawful nodesize table → AreAlone table → (pairs : Pairs) (span : Span) → 0 < table span → SpanNames pairs span (get_or refs i d)
    → some ≡ Some span)
    → new ≡ now ++ option_to_list some → AreNamedSpans nodesize table refs new
named_more nodesize table refs i d now new some inside so is more lawful alone pairs name span among =
    by (Contains-append_cases now (option_to_list some) span (subst (λ l. Contains l span) more among))
  where
    here : Contains refs (get_or refs i d)
    here = Contains-get_or refs i d inside

    by : Contains now span ⊎ Contains (option_to_list some) span → (at : ItemRef) × Contains refs at × SpanNames pairs span at
    by (inl early) = so lawful alone pairs name span early
    by (inr late) =
        let its = name (get_or refs i d) here in
        let found : some ≡ Some its.0 = is lawful alone pairs its.0 its.1 its.2 in
        elim (Contains-push_cases [] its.0 span (subst (λ o. Contains (option_to_list o) span) found late)) [
          | inl never ↦ absurd (contains_none span never)
          | inr same ↦ (get_or refs i d, here, subst (λ s. SpanNames pairs s (get_or refs i d)) same its.2)
        ]

-- The spans of a table as a list.
use Rattle.std.proofs.Common.{◌≡◌, ℕ, ◌+◌, ◌*◌, Bool, true, false, cond, List, [], ◌∷◌, ◌++◌, refl, sym, ap, ◌∙◌, subst, arith}
use Rattle.std.specs.Prelude.{Option, Some, None, replicate}
use Rattle.std.specs.Option.{unwrap_or}
use Rattle.std.specs.List.Sorted.{IsStrictlySortedBy}
use Rattle.std.specs.Map.{keys_of, lookup}
use Rattle.std.specs.Ordering.{is_eq}
use Rattle.std.specs.declared.cmp.Ordering.TheVariants.{Less}
use Rattle.std.specs.BTreeMap as map
use Rattle.std.specs.BTreeMap.{is_at}
use Rattle.std.specs.List.{AllByRecursion}
use Rattle.std.proofs.lemmas.List.Folds.{sum_by-replicate}
use Rattle.std.proofs.lemmas.List.Sums.{sum_by-append}
use Rattle.std.proofs.lemmas.Map.Keys.{sorted_head, sorted_tail}
use Rattle.span_index.specs.declared.places.Place.{Place}
use Rattle.span_index.specs.declared.span.Span.{Span}
use Rattle.span_index.specs.Order.{is_same}
use Rattle.span_index.specs.Places.{AreOwn, place_cmp, place_of, times_in}
use Rattle.span_index.specs.Sectors.{times_of_span}
use Rattle.span_index.specs.Sweep.{spans_in}
use Rattle.span_index.proofs.MeetingLaws.{there_own}
use Rattle.span_index.proofs.OrderLaws.{place_total}
use Rattle.span_index.proofs.TableLaws.{same_is, tied_place}
use Rattle.std.specs.Cmp.{tied_itself}

abbrev Entry : Type 0
Entry = Place × ℕ

-- each entry stands at the place of its span
abbrev OwnAll : List Entry → Type 0
OwnAll es = (p : Place) (v : ℕ) → lookup (is_at (place_cmp p)) es ≡ Some v → p ≡ place_of p.span

own_head : (e : Entry) (es : List Entry) → OwnAll (e ∷ es) → e.0 ≡ place_of e.0.span
own_head e es own = own e.0 e.1 (ap (λ b. cond b (Some e.1) (lookup (is_at (place_cmp e.0)) es)) (ap is_eq (tied_itself place_total e.0)))

own_more : (b : Bool) (p : Place) (n v : ℕ) (o : Option ℕ) → ((w : ℕ) → cond b (Some n) o ≡ Some w → p ≡ place_of p.span) → o ≡ Some v → p ≡ place_of p.span
own_more true p n v o own is = own n refl
own_more false p n v o own is = own v is

own_tail : (e : Entry) (es : List Entry) → OwnAll (e ∷ es) → OwnAll es
own_tail e es own p v is = own_more (is_at (place_cmp p) e.0) p e.1 v (lookup (is_at (place_cmp p)) es) (own p) is

none_later : (k : Place) (es : List Entry) → AllByRecursion (λ y. place_cmp k y ≡ Less) (keys_of es) → lookup (is_at (place_cmp k)) es ≡ None
none_later k [] above = refl
none_later k (e ∷ es) above = ap (λ r. cond (is_eq r) (Some e.1) (lookup (is_at (place_cmp k)) es)) above.0 ∙ none_later k es above.1

one_entry : (s : Span) (n : ℕ) (x : Span) → times_of_span (replicate n x) s ≡ n * cond (is_same s x) 1 0
unfolding times_of_span
one_entry s n x = sum_by-replicate (λ z. cond (is_same s z) 1 0) n x

times_join : (s : Span) (xs ys : List Span) → times_of_span (xs ++ ys) s ≡ times_of_span xs s + times_of_span ys s
unfolding times_of_span
times_join s xs ys = sum_by-append (λ z. cond (is_same s z) 1 0) xs ys

chosen : (b : Bool) (n t : ℕ) (o : Option ℕ) → t ≡ unwrap_or o 0 → (b ≡ true → o ≡ None) → n * cond b 1 0 + t ≡ unwrap_or (cond b (Some n) o) 0
chosen true n t o is none = let no : t ≡ 0 = is ∙ ap (λ x. unwrap_or x 0) (none refl) in omega arith
chosen false n t o is none = let z : n * 0 + t ≡ t = omega arith in z ∙ is

pub all_times : (es : List Entry) (s : Span) → IsStrictlySortedBy place_cmp (keys_of es) → OwnAll es → times_of_span (spans_in es) s ≡ unwrap_or (lookup (is_at (place_cmp (place_of s))) es) 0
unfolding spans_in times_of_span
all_times [] s sorted own = refl
all_times (e ∷ es) s sorted own =
    let head : e.0 ≡ place_of e.0.span = own_head e es own in
    let test : is_at (place_cmp (place_of s)) e.0 ≡ is_same s e.0.span = ap (is_at (place_cmp (place_of s))) head ∙ tied_place s e.0.span in
    times_join s (replicate e.1 e.0.span) (spans_in es)
    ∙ ap (λ n. n + times_of_span (spans_in es) s) (one_entry s e.1 e.0.span)
    ∙ chosen (is_same s e.0.span) e.1 (times_of_span (spans_in es) s) (lookup (is_at (place_cmp (place_of s))) es)
    (all_times es s (sorted_tail place_cmp e.0 (keys_of es) sorted) (own_tail e es own))
    (λ same.
    let k : e.0 ≡ place_of s = head ∙ ap place_of (sym (same_is s e.0.span same)) in
    subst (λ p. lookup (is_at (place_cmp p)) es ≡ None) k (none_later e.0 es (sorted_head place_cmp e.0 (keys_of es) sorted)))
    ∙ ap (λ b. unwrap_or (cond b (Some e.1) (lookup (is_at (place_cmp (place_of s))) es)) 0) (sym test)

-- each span stands in the list as often as in the table
pub all_spans : (m : map.BTreeMap Place ℕ) → AreOwn m → map.IsOrdered place_cmp m → (s : Span) → times_of_span (spans_in m.entries) s ≡ times_in m s
unfolding times_in
all_spans m own ordered s = all_times m.entries s ordered (λ p v there. there_own m p v own there)

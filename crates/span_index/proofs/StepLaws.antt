-- A step of a walk over the spans of a sort.
use Rattle.std.proofs.Common.{◌≡◌, ℕ, ◌<◌, true, false, refl, sym, ap, ◌∙◌, subst, arith}
use Rattle.std.specs.Prelude.{Some, None, nat_le, nat_lt}
use Rattle.std.specs.Ordering.{is_eq, is_lt}
use Rattle.std.specs.declared.cmp.Ordering.{Ordering}
use Rattle.std.specs.declared.cmp.Ordering.TheVariants.{Less, Equal, Greater}
use Rattle.std.proofs.lemmas.Bool.Decides.{nat_tests}
use Rattle.span_index.specs.declared.cursor.Head.{Head}
use Rattle.span_index.specs.declared.cursor.Head.TheVariants.{Start, At, End}
use Rattle.span_index.specs.declared.span.Span.{Span}
use Rattle.span_index.specs.declared.span.SortName.{SortName}
use Rattle.span_index.specs.Order.{is_below, is_same, span_cmp}
use Rattle.span_index.specs.OrderLaws.{span_total}
use Rattle.span_index.specs.Places.{IsMetWhere, class_of}
use Rattle.span_index.specs.Spans.{Table, end_of, is_above, is_met, is_sort}
use Rattle.span_index.specs.Sweep.{IsHead, IsOpen, IsStep, above_of, is_at, is_passed, is_reaching}
use Rattle.span_index.proofs.ClassLaws.{class_some, some_class}
use Rattle.span_index.proofs.TableLaws.{same_is}
use Rattle.span_index.proofs.MeetingLaws.{below_trans}
use Rattle.verdict.proofs.Truth.{and_left, and_right, and_true}

-- what is neither below a span nor the same is above it
apart_by : (x y : Span) (r : Ordering) → span_cmp x y ≡ r → is_lt r ≡ false → is_eq (span_cmp y x) ≡ false → span_cmp y x ≡ Less
apart_by x y Less is e f = absurd (cc)
apart_by x y Equal is e f = absurd (let other : span_cmp y x ≡ Equal = span_total.antisymm y x ∙ ap (λ r. elim r [ Less ↦ Greater | Equal ↦ Equal | Greater ↦ Less ]) is in let no : is_eq (span_cmp y x) ≡ true = ap is_eq other in cc)
apart_by x y Greater is e f = span_total.antisymm y x ∙ ap (λ r. elim r [ Less ↦ Greater | Equal ↦ Equal | Greater ↦ Less ]) is

pub apart_above : (x y : Span) → is_below x y ≡ false → is_same y x ≡ false → is_below y x ≡ true
unfolding is_below is_same
apart_above x y e f = ap is_lt (apart_by x y (span_cmp x y) refl e f)

-- a span that is not passed and not stood at is above
above_head : (old : Head) (span : Span) → IsOpen old → is_passed old span ≡ false → is_at old span ≡ false → is_above (above_of old) span ≡ true
above_head Start span going e f = refl
above_head (At here times) span going e f = apart_above span here e f
above_head End span going e f = absurd going

over_head : (old : Head) (span least : Span) → IsOpen old → is_above (above_of old) least ≡ true → is_passed old span ≡ true → is_below span least ≡ true
over_head Start span least going above e = absurd (cc)
over_head (At here times) span least going above e = below_trans span here least e above
over_head End span least going above e = absurd going

at_head : (old : Head) (span least : Span) → is_above (above_of old) least ≡ true → is_at old span ≡ true → is_below span least ≡ true
at_head Start span least above e = absurd (cc)
at_head (At here times) span least above e = subst (λ x. is_below x least ≡ true) (same_is here span e) above
at_head End span least above e = absurd (cc)

module _ (t : Table) (sort : SortName) (address : ℕ) (old : Head) (going : IsOpen old) where
  met_of : (span : Span) → is_passed old span ≡ false → is_at old span ≡ false → is_reaching sort address span ≡ true
      → (nat_le 1 (class_of span.sectors) ≡ true) × (is_met sort address (above_of old) span ≡ true)
  unfolding is_reaching is_met
  met_of span e f r =
      let some : 0 < span.sectors = let b : nat_lt 0 span.sectors ≡ true = and_left _ _ (and_right (is_sort sort span.sort) _ r) in grind (arith, nat_tests) in
      let ends : nat_lt address (end_of span) ≡ true = and_right (nat_lt 0 span.sectors) _ (and_right (is_sort sort span.sort) _ r) in
      (class_some span.sectors some, and_true _ _ (and_left _ _ r) (and_true _ _ ends (above_head old span going e f)))

  pub stepped_end : IsMetWhere (nat_le 1) t sort address (above_of old) None → IsStep t sort address old End
  stepped_end none = record {
    over = λ span e. refl;
    here = λ span e. refl;
    none = λ span p e f r. let m = met_of span e f r in none span m.0 m.1;
  }

  module _ (least : Span) (times : ℕ) (met : IsMetWhere (nat_le 1) t sort address (above_of old) (Some least)) where
    above : is_above (above_of old) least ≡ true
    unfolding is_met
    above = and_right (nat_lt address (end_of least)) _ (and_right (is_sort sort least.sort) _ met.1)

    pub stepped_at : IsStep t sort address old (At least times)
    stepped_at = record {
      over = λ span e. over_head old span least going above e;
      here = λ span e. at_head old span least above e;
      none = λ span p e f r. let m = met_of span e f r in met.2 span m.0 m.1 p;
    }

    pub head_at : times ≡ t least → IsHead t sort address (At least times)
    unfolding is_reaching is_met
    head_at is =
        let some : 0 < least.sectors = some_class least.sectors met.3 in
        let test : nat_lt 0 least.sectors ≡ true = grind (arith, nat_tests) in (
          subst (λ n. 0 < n) (sym is) met.0,
          is,
          and_true _ _ (and_left _ _ met.1) (and_true _ _ test (and_left _ _ (and_right (is_sort sort least.sort) _ met.1))),
        )

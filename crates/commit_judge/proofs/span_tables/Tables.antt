-- One span more is put into a table, or taken out of it.
use Rattle.std.proofs.Common.{◌≡◌, ℕ, ◌+◌, ◌-◌, ◌<◌, Bool, true, false, cond, List, [], length, take, get_or, refl, ap, sym, ◌∙◌, arith}
use Rattle.std.specs.List.{count_by}
use Rattle.std.proofs.Math.Path.{fun_ext}
use Rattle.std.proofs.lemmas.List.Sums.{count_by_more_no, count_by_more_yes}
use Rattle.span_index.specs.Order.{is_same}
use Rattle.span_index.specs.Sectors.{times_of_span}
use Rattle.span_index.specs.Spans.{Table, with_span, without_span}
use Rattle.span_index.specs.declared.span.Span.{Span}
use Rattle.span_index.proofs.TableLaws.{same_is, same_itself}
use Rattle.commit_judge.specs.Tables.{with_spans, without_spans}

-- a span is one with another as the other is with it
turned : (x y : Span) (b c : Bool) → is_same x y ≡ b → is_same y x ≡ c → b ≡ c
turned x y true true e f = refl
turned x y true false e f = absurd (cc (same_itself x, same_is x y e))
turned x y false true e f = absurd (cc (same_itself x, same_is y x f))
turned x y false false e f = refl

-- one where a test passes
abbrev once : Bool → ℕ
once b = cond b 1 0

-- how often a span stands among one more
times_more : (spans : List Span) (i : ℕ) (d span : Span) → i < length spans
    → times_of_span (take (i + 1) spans) span ≡ times_of_span (take i spans) span + once (is_same (get_or spans i d) span)
unfolding times_of_span
times_more spans i d span inside = by (is_same (get_or spans i d) span) refl
  where
    by : (b : Bool) → is_same (get_or spans i d) span ≡ b
        → count_by (is_same span) (take (i + 1) spans) ≡ count_by (is_same span) (take i spans) + once (is_same (get_or spans i d) span)
    by true e =
        count_by_more_yes (is_same span) spans i d inside (turned span (get_or spans i d) _ true refl e)
        ∙ ap (λ b. count_by (is_same span) (take i spans) + once b) (sym e)
    by false e =
        let more : count_by (is_same span) (take (i + 1) spans) ≡ count_by (is_same span) (take i spans) =
        count_by_more_no (is_same span) spans i d inside (turned span (get_or spans i d) _ false refl e) in
        let none : once (is_same (get_or spans i d) span) ≡ 0 = ap once e in
        omega (arith, more, none)

with_one : (b : Bool) (n a t m : ℕ) → n ≡ a + t → m ≡ t + once b → cond b (n + 1) n ≡ a + m
with_one true n a t m is more = omega (arith, is, more)
with_one false n a t m is more = omega (arith, is, more)

without_one : (b : Bool) (n a t m : ℕ) → n ≡ a - t → m ≡ t + once b → cond b (n - 1) n ≡ a - m
without_one true n a t m is more = omega (arith, is, more)
without_one false n a t m is more = omega (arith, is, more)

pub put_none : (old : Table) → old ≡ with_spans old []
unfolding with_spans times_of_span
put_none old = fun_ext (λ span. omega arith)

pub put_more : (old now new : Table) (spans : List Span) (i : ℕ) (d : Span) → i < length spans → now ≡ with_spans old (take i spans)
    → new ≡ with_span now (get_or spans i d) → new ≡ with_spans old (take (i + 1) spans)
unfolding with_spans
put_more old now new spans i d inside so is =
    is ∙ fun_ext (λ span. with_one (is_same (get_or spans i d) span) (now span) (old span) (times_of_span (take i spans) span)
    (times_of_span (take (i + 1) spans) span) (ap (λ (t : Table). t span) so) (times_more spans i d span inside))

pub take_none : (old : Table) → old ≡ without_spans old []
unfolding without_spans times_of_span
take_none old = fun_ext (λ span. omega arith)

pub take_more : (old now new : Table) (spans : List Span) (i : ℕ) (d : Span) → i < length spans → now ≡ without_spans old (take i spans)
    → new ≡ without_span now (get_or spans i d) → new ≡ without_spans old (take (i + 1) spans)
unfolding without_spans
take_more old now new spans i d inside so is =
    is ∙ fun_ext (λ span. without_one (is_same (get_or spans i d) span) (now span) (old span) (times_of_span (take i spans) span)
    (times_of_span (take (i + 1) spans) span) (ap (λ (t : Table). t span) so) (times_more spans i d span inside))

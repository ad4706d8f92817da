use Rattle.std.proofs.Common.{◌≡◌, ◌∙◌, ◌-◌, ◌<◌, sym, ap, subst, arith}
use Rattle.std.specs.Prelude.{Some, None, nat_lt}
use Rattle.std.specs.BTreeMap as map
use Rattle.span_index.specs.Places.{AreAlike, place_cmp, times_in}
use Rattle.span_index.specs.Spans.{without_span}
use Rattle.span_index.proofs.TableLaws.{Changes, above, again, alike_gone, alike_left, less, none_less, own_changed, some_there, times_are, two_or_more}
use Rattle.verdict.proofs.Answers.{some_is}
use Rattle.span_index.proofs.kept.SpanIndex.remove.Goals as goal

pub invariant_of-self : goal.invariant_of-self
invariant_of-self g c =
    let there : map.get place_cmp c.args.self.now.spans c.place_of-place.result ≡ Some c.in-Some-eq1.field-0 = sym (c.copied.ensures ∙ c.get.ensures.value) ∙ c.in-Some-eq1.is in
    let had : times_in c.args.self.now.spans c.args.span.now ≡ 1 = times_are c.args.self.now.spans c.place_of-place.result c.args.span.now (Some c.in-Some-eq1.field-0) c.place_of-place.ensures there ∙ c.in-Some-eq1.field-0-test in
    let now : times_in c.remove.new.self ≡ without_span (times_in c.args.self.now.spans) c.args.span.now =
    less c.args.self.now.spans c.remove.new.self c.place_of-place.result None c.args.span.now c.place_of-place.ensures c.remove.ensures.updates.0 (ap (λ x. x - 1) (sym had)) in
    record {
      own = own_changed c.args.self.now.spans c.remove.new.self c.place_of-place.result None c.args.span.now c.place_of-place.ensures (λ e. absurd (cc)) c.args.self.now.own c.remove.ensures.updates.0;
      alike = subst (λ t. AreAlike t c.take.new.self) (sym now) (alike_gone (times_in c.args.self.now.spans) c.args.self.now.files c.take.new.self c.args.span.now c.args.self.now.alike had c.take.ensures);
    }

pub returns-in-Some-eq1-clause-left : goal.returns-in-Some-eq1-clause-left
returns-in-Some-eq1-clause-left g c =
    let there : map.get place_cmp c.args.self.now.spans c.place_of-place.result ≡ Some c.in-Some-eq1.field-0 = sym (c.copied.ensures ∙ c.get.ensures.value) ∙ c.in-Some-eq1.is in
    let had : times_in c.args.self.now.spans c.args.span.now ≡ 1 = times_are c.args.self.now.spans c.place_of-place.result c.args.span.now (Some c.in-Some-eq1.field-0) c.place_of-place.ensures there ∙ c.in-Some-eq1.field-0-test in
    let now : times_in c.remove.new.self ≡ without_span (times_in c.args.self.now.spans) c.args.span.now =
    less c.args.self.now.spans c.remove.new.self c.place_of-place.result None c.args.span.now c.place_of-place.ensures c.remove.ensures.updates.0 (ap (λ x. x - 1) (sym had)) in
    now

pub returns-in-Some-eq1-clause-value : goal.returns-in-Some-eq1-clause-value
returns-in-Some-eq1-clause-value g c =
    let there : map.get place_cmp c.args.self.now.spans c.place_of-place.result ≡ Some c.in-Some-eq1.field-0 = sym (c.copied.ensures ∙ c.get.ensures.value) ∙ c.in-Some-eq1.is in
    let had : times_in c.args.self.now.spans c.args.span.now ≡ 1 = times_are c.args.self.now.spans c.place_of-place.result c.args.span.now (Some c.in-Some-eq1.field-0) c.place_of-place.ensures there ∙ c.in-Some-eq1.field-0-test in
    let now : times_in c.remove.new.self ≡ without_span (times_in c.args.self.now.spans) c.args.span.now =
    less c.args.self.now.spans c.remove.new.self c.place_of-place.result None c.args.span.now c.place_of-place.ensures c.remove.ensures.updates.0 (ap (λ x. x - 1) (sym had)) in
    sym (ap (nat_lt 0) had)

pub overflow_sub-times : goal.overflow_sub-times
overflow_sub-times g c =
    let there : map.get place_cmp c.args.self.now.spans c.place_of-place.result ≡ Some c.in-Some.times = sym (c.copied.ensures ∙ c.get.ensures.value) ∙ c.in-Some.is in
    let had : times_in c.args.self.now.spans c.args.span.now ≡ c.in-Some.times = times_are c.args.self.now.spans c.place_of-place.result c.args.span.now (Some c.in-Some.times) c.place_of-place.ensures there in
    let low : 0 < c.in-Some.times = some_there c.args.self.now.spans c.place_of-place.result c.in-Some.times c.args.self.now.own there in
    let more : 1 < c.in-Some.times = two_or_more c.in-Some.times low c.in-Some.times-test.1 in
    omega arith

pub invariant_of-self-in-Some : goal.invariant_of-self-in-Some
invariant_of-self-in-Some g c =
    let there : map.get place_cmp c.args.self.now.spans c.place_of-place.result ≡ Some c.in-Some.times = sym (c.copied.ensures ∙ c.get.ensures.value) ∙ c.in-Some.is in
    let had : times_in c.args.self.now.spans c.args.span.now ≡ c.in-Some.times = times_are c.args.self.now.spans c.place_of-place.result c.args.span.now (Some c.in-Some.times) c.place_of-place.ensures there in
    let low : 0 < c.in-Some.times = some_there c.args.self.now.spans c.place_of-place.result c.in-Some.times c.args.self.now.own there in
    let more : 1 < c.in-Some.times = two_or_more c.in-Some.times low c.in-Some.times-test.1 in
    let change : Changes c.args.self.now.spans c.insert.new.self c.place_of-place.result (Some (c.in-Some.times - 1)) =
    again c.args.self.now.spans c.insert.new.self c.place_of-place.result c.in-Some.times (c.in-Some.times - 1) c.insert.result there c.insert.ensures.updates c.insert.ensures.absent in
    let now : times_in c.insert.new.self ≡ without_span (times_in c.args.self.now.spans) c.args.span.now =
    less c.args.self.now.spans c.insert.new.self c.place_of-place.result (Some (c.in-Some.times - 1)) c.args.span.now c.place_of-place.ensures change (ap (λ x. x - 1) (sym had)) in
    record {
      own = own_changed c.args.self.now.spans c.insert.new.self c.place_of-place.result (Some (c.in-Some.times - 1)) c.args.span.now c.place_of-place.ensures (λ e. absurd (let zero : c.in-Some.times - 1 ≡ 0 = some_is _ _ e in omega arith)) c.args.self.now.own change;
      alike = subst (λ t. AreAlike t c.args.self.now.files) (sym now) (alike_left (times_in c.args.self.now.spans) c.args.self.now.files c.args.span.now c.args.self.now.alike (subst (λ x. 1 < x) (sym had) more));
    }

pub returns-in-Some-clause-left : goal.returns-in-Some-clause-left
returns-in-Some-clause-left g c =
    let there : map.get place_cmp c.args.self.now.spans c.place_of-place.result ≡ Some c.in-Some.times = sym (c.copied.ensures ∙ c.get.ensures.value) ∙ c.in-Some.is in
    let had : times_in c.args.self.now.spans c.args.span.now ≡ c.in-Some.times = times_are c.args.self.now.spans c.place_of-place.result c.args.span.now (Some c.in-Some.times) c.place_of-place.ensures there in
    let low : 0 < c.in-Some.times = some_there c.args.self.now.spans c.place_of-place.result c.in-Some.times c.args.self.now.own there in
    let more : 1 < c.in-Some.times = two_or_more c.in-Some.times low c.in-Some.times-test.1 in
    let change : Changes c.args.self.now.spans c.insert.new.self c.place_of-place.result (Some (c.in-Some.times - 1)) =
    again c.args.self.now.spans c.insert.new.self c.place_of-place.result c.in-Some.times (c.in-Some.times - 1) c.insert.result there c.insert.ensures.updates c.insert.ensures.absent in
    let now : times_in c.insert.new.self ≡ without_span (times_in c.args.self.now.spans) c.args.span.now =
    less c.args.self.now.spans c.insert.new.self c.place_of-place.result (Some (c.in-Some.times - 1)) c.args.span.now c.place_of-place.ensures change (ap (λ x. x - 1) (sym had)) in
    now

pub returns-in-Some-clause-value : goal.returns-in-Some-clause-value
returns-in-Some-clause-value g c =
    let there : map.get place_cmp c.args.self.now.spans c.place_of-place.result ≡ Some c.in-Some.times = sym (c.copied.ensures ∙ c.get.ensures.value) ∙ c.in-Some.is in
    let had : times_in c.args.self.now.spans c.args.span.now ≡ c.in-Some.times = times_are c.args.self.now.spans c.place_of-place.result c.args.span.now (Some c.in-Some.times) c.place_of-place.ensures there in
    let low : 0 < c.in-Some.times = some_there c.args.self.now.spans c.place_of-place.result c.in-Some.times c.args.self.now.own there in
    let more : 1 < c.in-Some.times = two_or_more c.in-Some.times low c.in-Some.times-test.1 in
    sym (ap (nat_lt 0) had ∙ above c.in-Some.times low)

pub returns-in-None-clause-value : goal.returns-in-None-clause-value
returns-in-None-clause-value g c =
    let there : map.get place_cmp c.args.self.now.spans c.place_of-place.result ≡ None = sym (c.copied.ensures ∙ c.get.ensures.value) ∙ c.in-None.is in
    sym (ap (nat_lt 0) (times_are c.args.self.now.spans c.place_of-place.result c.args.span.now None c.place_of-place.ensures there))

pub returns-in-None-clause-left : goal.returns-in-None-clause-left
returns-in-None-clause-left g c =
    let there : map.get place_cmp c.args.self.now.spans c.place_of-place.result ≡ None = sym (c.copied.ensures ∙ c.get.ensures.value) ∙ c.in-None.is in
    none_less (times_in c.args.self.now.spans) c.args.span.now (times_are c.args.self.now.spans c.place_of-place.result c.args.span.now None c.place_of-place.ensures there)

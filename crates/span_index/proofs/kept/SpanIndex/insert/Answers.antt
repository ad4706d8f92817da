use Rattle.std.proofs.Common.{◌≡◌, ◌∙◌, ◌+◌, ◌<◌, sym, ap, subst, arith, refl}
use Rattle.std.specs.Prelude.{Some, None}
use Rattle.span_index.specs.Places.{AreAlike, times_in}
use Rattle.span_index.specs.Spans.{with_span}
use Rattle.span_index.proofs.TableLaws.{Changes, again, alike_again, alike_more, alike_same, changes_twice, kept, more, own_changed, own_same, some_there, times_are, times_same}
use Rattle.verdict.proofs.Answers.{on_err, some_is}
use Rattle.span_index.proofs.kept.SpanIndex.insert.Goals as goal

-- src/index.rt:39:31
pub invariant_of-self-in-Ok : goal.invariant_of-self-in-Ok
invariant_of-self-in-Ok g c =
    let now : times_in c.insert.new.self ≡ with_span (times_in c.args.self.now.spans) c.args.span =
    more c.args.self.now.spans c.insert.new.self c.place_of-place.result (Some 1) c.args.span c.place_of-place.ensures c.in_ok-insert.ensures.updates.0
    (ap (λ x. x + 1) (sym (times_are c.args.self.now.spans c.place_of-place.result c.args.span None c.place_of-place.ensures (sym c.in_ok-insert.ensures.old ∙ c.in-None.is)))) in
    record {
      own = own_changed c.args.self.now.spans c.insert.new.self c.place_of-place.result (Some 1) c.args.span c.place_of-place.ensures (λ e. absurd (cc)) c.args.self.now.own c.in_ok-insert.ensures.updates.0;
      alike = subst (λ t. AreAlike t c.add.new.self) (sym now) (alike_more (times_in c.args.self.now.spans) c.args.self.now.files c.add.new.self c.args.span c.args.self.now.alike c.in-Ok.ensures.ok);
    }

pub returns-in-Ok-clause-ok : goal.returns-in-Ok-clause-ok
returns-in-Ok-clause-ok g c =
    more c.args.self.now.spans c.insert.new.self c.place_of-place.result (Some 1) c.args.span c.place_of-place.ensures c.in_ok-insert.ensures.updates.0
    (ap (λ x. x + 1) (sym (times_are c.args.self.now.spans c.place_of-place.result c.args.span None c.place_of-place.ensures (sym c.in_ok-insert.ensures.old ∙ c.in-None.is))))

-- src/index.rt:42:21
pub invariant_of-self-in-Err : goal.invariant_of-self-in-Err
invariant_of-self-in-Err g c =
    let change : Changes c.args.self.now.spans c.remove.new.self c.place_of-place.result None =
    changes_twice c.args.self.now.spans c.insert.new.self c.remove.new.self c.place_of-place.result (Some 1) None c.in_ok-insert.ensures.updates.0 c.remove.ensures.updates.0 in
    record {
      own = own_changed c.args.self.now.spans c.remove.new.self c.place_of-place.result None c.args.span c.place_of-place.ensures (λ e. absurd (cc)) c.args.self.now.own change;
      alike = alike_same (times_in c.args.self.now.spans) (times_in c.remove.new.self) c.args.self.now.files c.add.new.self c.args.self.now.alike
          (kept c.args.self.now.spans c.remove.new.self c.place_of-place.result None c.args.span c.place_of-place.ensures change (sym (times_are c.args.self.now.spans c.place_of-place.result c.args.span None c.place_of-place.ensures (sym c.in_ok-insert.ensures.old ∙ c.in-None.is))))
          c.in-Err.ensures.err;
    }

pub returns-in-Err-clause-err : goal.returns-in-Err-clause-err
returns-in-Err-clause-err g c =
    kept c.args.self.now.spans c.remove.new.self c.place_of-place.result None c.args.span c.place_of-place.ensures
    (changes_twice c.args.self.now.spans c.insert.new.self c.remove.new.self c.place_of-place.result (Some 1) None c.in_ok-insert.ensures.updates.0 c.remove.ensures.updates.0)
    (sym (times_are c.args.self.now.spans c.place_of-place.result c.args.span None c.place_of-place.ensures (sym c.in_ok-insert.ensures.old ∙ c.in-None.is)))

-- src/index.rt:38:15
pub invariant_of-self : goal.invariant_of-self
invariant_of-self g c = record {
  own = own_same c.args.self.now.spans c.insert.new.self c.in_err-insert.ensures.err c.args.self.now.own;
  alike = alike_same (times_in c.args.self.now.spans) (times_in c.insert.new.self) c.args.self.now.files c.args.self.now.files c.args.self.now.alike (times_same c.args.self.now.spans c.insert.new.self c.in_err-insert.ensures.err) (λ place. refl);
}

pub returns-in_err-insert-clause-err : goal.returns-in_err-insert-clause-err
returns-in_err-insert-clause-err g c = on_err _ (times_same c.args.self.now.spans c.insert.new.self c.in_err-insert.ensures.err)

pub invariant_of-self-in-Some-checked_add : goal.invariant_of-self-in-Some-checked_add
invariant_of-self-in-Some-checked_add g c =
    let change : Changes c.args.self.now.spans c.insert-in-Some-checked_add.new.self c.place_of-place.result (Some c.in-Some-checked_add.more) =
    changes_twice c.args.self.now.spans c.insert.new.self c.insert-in-Some-checked_add.new.self c.place_of-place.result (Some 1) (Some c.in-Some-checked_add.more) c.in_ok-insert.ensures.updates.0
    (again c.insert.new.self c.insert-in-Some-checked_add.new.self c.place_of-place.result 1 c.in-Some-checked_add.more c.insert-in-Some-checked_add.result c.in_ok-insert.ensures.updates.1 c.insert-in-Some-checked_add.ensures.updates c.insert-in-Some-checked_add.ensures.absent) in
    let had : times_in c.args.self.now.spans c.args.span ≡ c.in-Some.times = times_are c.args.self.now.spans c.place_of-place.result c.args.span (Some c.in-Some.times) c.place_of-place.ensures (sym c.in_ok-insert.ensures.old ∙ c.in-Some.is) in
    let now : times_in c.insert-in-Some-checked_add.new.self ≡ with_span (times_in c.args.self.now.spans) c.args.span =
    more c.args.self.now.spans c.insert-in-Some-checked_add.new.self c.place_of-place.result (Some c.in-Some-checked_add.more) c.args.span c.place_of-place.ensures change (c.in-Some-checked_add.ensures.1 ∙ ap (λ x. x + 1) (sym had)) in
    record {
      own = own_changed c.args.self.now.spans c.insert-in-Some-checked_add.new.self c.place_of-place.result (Some c.in-Some-checked_add.more) c.args.span c.place_of-place.ensures (λ e. absurd (let zero : c.in-Some-checked_add.more ≡ 0 = some_is c.in-Some-checked_add.more 0 e in let low : 0 < c.in-Some.times = some_there c.args.self.now.spans c.place_of-place.result c.in-Some.times c.args.self.now.own (sym c.in_ok-insert.ensures.old ∙ c.in-Some.is) in let new : c.in-Some-checked_add.more ≡ c.in-Some.times + 1 = c.in-Some-checked_add.ensures.1 in omega arith)) c.args.self.now.own change;
      alike = subst (λ t. AreAlike t c.args.self.now.files) (sym now) (alike_again (times_in c.args.self.now.spans) c.args.self.now.files c.args.span c.args.self.now.alike (subst (λ x. 0 < x) (sym had) (some_there c.args.self.now.spans c.place_of-place.result c.in-Some.times c.args.self.now.own (sym c.in_ok-insert.ensures.old ∙ c.in-Some.is))));
    }

pub returns-in-Some-checked_add-clause-ok : goal.returns-in-Some-checked_add-clause-ok
returns-in-Some-checked_add-clause-ok g c =
    let change : Changes c.args.self.now.spans c.insert-in-Some-checked_add.new.self c.place_of-place.result (Some c.in-Some-checked_add.more) =
    changes_twice c.args.self.now.spans c.insert.new.self c.insert-in-Some-checked_add.new.self c.place_of-place.result (Some 1) (Some c.in-Some-checked_add.more) c.in_ok-insert.ensures.updates.0
    (again c.insert.new.self c.insert-in-Some-checked_add.new.self c.place_of-place.result 1 c.in-Some-checked_add.more c.insert-in-Some-checked_add.result c.in_ok-insert.ensures.updates.1 c.insert-in-Some-checked_add.ensures.updates c.insert-in-Some-checked_add.ensures.absent) in
    let had : times_in c.args.self.now.spans c.args.span ≡ c.in-Some.times = times_are c.args.self.now.spans c.place_of-place.result c.args.span (Some c.in-Some.times) c.place_of-place.ensures (sym c.in_ok-insert.ensures.old ∙ c.in-Some.is) in
    let now : times_in c.insert-in-Some-checked_add.new.self ≡ with_span (times_in c.args.self.now.spans) c.args.span =
    more c.args.self.now.spans c.insert-in-Some-checked_add.new.self c.place_of-place.result (Some c.in-Some-checked_add.more) c.args.span c.place_of-place.ensures change (c.in-Some-checked_add.ensures.1 ∙ ap (λ x. x + 1) (sym had)) in
    now

pub invariant_of-self-in-None-checked_add : goal.invariant_of-self-in-None-checked_add
invariant_of-self-in-None-checked_add g c =
    let change : Changes c.args.self.now.spans c.insert-in-None-checked_add.new.self c.place_of-place.result (Some c.in-Some.times) =
    changes_twice c.args.self.now.spans c.insert.new.self c.insert-in-None-checked_add.new.self c.place_of-place.result (Some 1) (Some c.in-Some.times) c.in_ok-insert.ensures.updates.0
    (again c.insert.new.self c.insert-in-None-checked_add.new.self c.place_of-place.result 1 c.in-Some.times c.insert-in-None-checked_add.result c.in_ok-insert.ensures.updates.1 c.insert-in-None-checked_add.ensures.updates c.insert-in-None-checked_add.ensures.absent) in
    let had : times_in c.args.self.now.spans c.args.span ≡ c.in-Some.times = times_are c.args.self.now.spans c.place_of-place.result c.args.span (Some c.in-Some.times) c.place_of-place.ensures (sym c.in_ok-insert.ensures.old ∙ c.in-Some.is) in
    let now : times_in c.insert-in-None-checked_add.new.self ≡ times_in c.args.self.now.spans =
    kept c.args.self.now.spans c.insert-in-None-checked_add.new.self c.place_of-place.result (Some c.in-Some.times) c.args.span c.place_of-place.ensures change (sym had) in
    record {
      own = own_changed c.args.self.now.spans c.insert-in-None-checked_add.new.self c.place_of-place.result (Some c.in-Some.times) c.args.span c.place_of-place.ensures (λ e. absurd (let zero : c.in-Some.times ≡ 0 = some_is c.in-Some.times 0 e in let low : 0 < c.in-Some.times = some_there c.args.self.now.spans c.place_of-place.result c.in-Some.times c.args.self.now.own (sym c.in_ok-insert.ensures.old ∙ c.in-Some.is) in omega arith)) c.args.self.now.own change;
      alike = alike_same (times_in c.args.self.now.spans) (times_in c.insert-in-None-checked_add.new.self) c.args.self.now.files c.args.self.now.files c.args.self.now.alike now (λ place. refl);
    }

pub returns-in-None-checked_add-clause-err : goal.returns-in-None-checked_add-clause-err
returns-in-None-checked_add-clause-err g c =
    let change : Changes c.args.self.now.spans c.insert-in-None-checked_add.new.self c.place_of-place.result (Some c.in-Some.times) =
    changes_twice c.args.self.now.spans c.insert.new.self c.insert-in-None-checked_add.new.self c.place_of-place.result (Some 1) (Some c.in-Some.times) c.in_ok-insert.ensures.updates.0
    (again c.insert.new.self c.insert-in-None-checked_add.new.self c.place_of-place.result 1 c.in-Some.times c.insert-in-None-checked_add.result c.in_ok-insert.ensures.updates.1 c.insert-in-None-checked_add.ensures.updates c.insert-in-None-checked_add.ensures.absent) in
    let had : times_in c.args.self.now.spans c.args.span ≡ c.in-Some.times = times_are c.args.self.now.spans c.place_of-place.result c.args.span (Some c.in-Some.times) c.place_of-place.ensures (sym c.in_ok-insert.ensures.old ∙ c.in-Some.is) in
    let now : times_in c.insert-in-None-checked_add.new.self ≡ times_in c.args.self.now.spans =
    kept c.args.self.now.spans c.insert-in-None-checked_add.new.self c.place_of-place.result (Some c.in-Some.times) c.args.span c.place_of-place.ensures change (sym had) in
    now

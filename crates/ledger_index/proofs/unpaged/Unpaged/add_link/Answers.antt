use Rattle.std.proofs.Common.{arith, not, refl, subst, ◌∙◌}
use Rattle.ledger_keys.specs.Name.{is_same_name}
use Rattle.ledger_maps.specs.Names.{names_in}
use Rattle.ledger_keys.specs.Shifts.{Posted}
use Rattle.ledger_index.specs.Unpaged.{entries_of}
use Rattle.ledger_keys.specs.Sums.{raise}
use Rattle.verdict.proofs.Answers.{on_err}
use Rattle.ledger_keys.proofs.SumLaws.{raise_none}
use Rattle.ledger_index.proofs.UnpagedLaws.{all_stay, full_name, none_after, once_shifted, own_none, to_name}
use Rattle.ledger_index.proofs.unpaged.Unpaged.add_link.Goals as goal

-- to none of the two sums
pub returns-then-field-ge2-clause-ok : goal.returns-then-field-ge2-clause-ok
returns-then-field-ge2-clause-ok g c = λ account said. (
  all_stay c.args.self.now _ (λ t n. refl) refl,
  record { none = λ t at low. absurd (omega (arith, low, c.if-field-ge2.true)); apart = λ t at. refl },
)

pub returns-then-field-ge2-clause-none : goal.returns-then-field-ge2-clause-none
unfolding entries_of
returns-then-field-ge2-clause-none g c = λ is. omega arith

pub returns-then-field-ge2-clause-few : goal.returns-then-field-ge2-clause-few
unfolding entries_of
returns-then-field-ge2-clause-few g c = omega arith

-- the amount was added
pub invariant_of-self-in-Some-branch-2 : goal.invariant_of-self-in-Some-branch-2
invariant_of-self-in-Some-branch-2 g c =
    let old = c.args.self.now in
    let name = c.in-Some.name in
    let says = c.requires.said.1 ∙ c.in-Some.ensures.some.0 in
    let posted = subst (Posted is_same_name (not old.apart) name c.args.field c.args.amount (names_in old.names.parts.items) (names_in c.post.new.self.parts.items))
    c.in-Some-2.is c.in_ok-full.ensures.ok in record {
      counted = c.post.ensures.counted;
      once = once_shifted raise raise_none c.requires.said.0 c.args.field c.args.amount (names_in old.names.parts.items) (names_in c.post.new.self.parts.items) _ name says posted.0
          old.once (own_none old c.requires.said.0 name says posted.1.1);
      named = old.named;
    }

pub returns-in-Some-2-clause-ok : goal.returns-in-Some-2-clause-ok
returns-in-Some-2-clause-ok g c = λ account said.
    let old = c.args.self.now in
    let name = c.in-Some.name in
    let says = said ∙ c.in-Some.ensures.some.0 in
    let posted = subst (Posted is_same_name (not old.apart) name c.args.field c.args.amount (names_in old.names.parts.items) (names_in c.post.new.self.parts.items))
    c.in-Some-2.is c.in_ok-full.ensures.ok in
    let own = own_none old account name says posted.1.1 c.args.field (omega (arith, c.if-field-ge2.false)) in (
      to_name old _ raise raise_none account c.args.field c.args.amount name says posted.0 refl own,
      λ low. full_name _ account name says c.args.field own (posted.1.0 low),
    )

pub returns-in-Some-2-clause-few : goal.returns-in-Some-2-clause-few
unfolding entries_of
returns-in-Some-2-clause-few g c = omega (arith, c.post.ensures.few)

-- the name has no sums of the account
pub returns-in-None-clause-ok : goal.returns-in-None-clause-ok
returns-in-None-clause-ok g c = λ account said.
    let old = c.args.self.now in
    let name = c.in-Some.name in
    let says = said ∙ c.in-Some.ensures.some.0 in
    let posted = subst (Posted is_same_name (not old.apart) name c.args.field c.args.amount (names_in old.names.parts.items) (names_in c.post.new.self.parts.items))
    c.in-None.is c.in_ok-full.ensures.ok in (
      all_stay old _ posted.1 refl,
      record {
        none = λ t at low. none_after (names_in old.names.parts.items) (names_in c.post.new.self.parts.items) account name t says at posted.0 posted.1;
        apart = λ t at. refl;
      },
    )

pub returns-in-None-clause-none : goal.returns-in-None-clause-none
unfolding entries_of
returns-in-None-clause-none g c = λ is. omega (arith, c.in_ok-full.ensures.none c.in-None.is)

pub returns-in-None-clause-few : goal.returns-in-None-clause-few
unfolding entries_of
returns-in-None-clause-few g c = omega (arith, c.post.ensures.few)

-- out of memory
pub returns-in_err-full-clause-err : goal.returns-in_err-full-clause-err
returns-in_err-full-clause-err g c = on_err _ (all_stay c.args.self.now _ c.in_err-full.ensures.err refl)

pub returns-in_err-full-clause-few : goal.returns-in_err-full-clause-few
unfolding entries_of
returns-in_err-full-clause-few g c = omega (arith, c.post.ensures.few)

use Rattle.std.proofs.Common.{arith, refl, sym, ◌∙◌}
use Rattle.ledger_maps.specs.Entries.{by_parts}
use Rattle.ledger_keys.specs.LongPlace.{is_same_long, part_of}
use Rattle.ledger_maps.specs.Names.{names_in}
use Rattle.ledger_keys.specs.Sums.{lower}
use Rattle.ledger_keys.proofs.SumLaws.{lower_none}
use Rattle.ledger_index.proofs.UnpagedLaws.{all_stay, nothing_taken, once_taken, to_name}
use Rattle.ledger_index.proofs.unpaged.Unpaged.take_named.Goals as goal

pub invariant_of-self : goal.invariant_of-self
invariant_of-self c = record {
  counted = c.lower.ensures.counted;
  once = once_taken (by_parts is_same_long part_of c.args.self.now.names.parts.items) (names_in c.lower.new.self.parts.items) _ c.args.account.now c.args.field c.args.amount c.in-Some.name (sym c.in-Some.ensures)
      c.lower.ensures.less c.args.self.now.once;
  named = c.args.self.now.named;
}

pub returns-in-Some-clause-took : goal.returns-in-Some-clause-took
returns-in-Some-clause-took c = λ had.
    to_name c.args.self.now _ lower lower_none c.args.account.now c.args.field c.args.amount c.in-Some.name (sym c.in-Some.ensures) c.lower.ensures.less refl
    (c.args.self.now.once c.args.account.now c.in-Some.name (sym c.in-Some.ensures) (sym c.lower.ensures.had ∙ had) c.args.field (omega (arith, c.if-field-ge2.false)))

pub returns-in-Some-clause-stays : goal.returns-in-Some-clause-stays
returns-in-Some-clause-stays c = λ had.
    all_stay c.args.self.now _ (nothing_taken (by_parts is_same_long part_of c.args.self.now.names.parts.items) (names_in c.lower.new.self.parts.items) c.in-Some.name c.args.field c.args.amount
    (sym c.lower.ensures.had ∙ had) c.lower.ensures.less) refl

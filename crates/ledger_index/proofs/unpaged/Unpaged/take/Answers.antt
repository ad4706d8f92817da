use Rattle.std.proofs.Common.{ap, refl, ◌∙◌}
use Rattle.ledger_maps.specs.Names.{names_in}
use Rattle.ledger_keys.specs.Sums.{changed, lower}
use Rattle.ledger_keys.proofs.SumLaws.{lower_none}
use Rattle.ledger_index.proofs.UnpagedLaws.{named_lowered, once_single, to_single}
use Rattle.ledger_index.proofs.unpaged.Unpaged.take.Goals as goal

pub invariant_of-self : goal.invariant_of-self
invariant_of-self c = record {
  counted = c.take_named.new.self.counted;
  once = once_single lower lower_none c.args.account.now c.args.field c.args.amount (names_in c.take_named.new.self.names.parts.items) _ _ c.take.ensures (c.take_named.ensures.none c.if-not-take_named.true) c.take_named.new.self.once;
  named = λ is. named_lowered _ _ c.args.account.now c.args.field c.args.amount c.take.ensures (c.take_named.new.self.named is);
}

pub returns-then-not-take_named : goal.returns-then-not-take_named
returns-then-not-take_named c =
    to_single c.take_named.new.self _ lower lower_none c.args.account.now c.args.field c.args.amount (c.take_named.ensures.none c.if-not-take_named.true) (λ t n. refl) c.take.ensures
    ∙ ap (λ s. changed lower s c.args.account.now c.args.field c.args.amount) (c.take_named.ensures.stays c.if-not-take_named.true)

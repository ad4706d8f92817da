use Rattle.std.proofs.Common.{⊎_elim, sym, ◌∙◌, arith}
use Rattle.ledger_maps.specs.Names.{names_in}
use Rattle.ledger_index.proofs.UnpagedLaws.{at_free, at_has, at_none, at_past, has_by, none_by, rule_of}
use Rattle.ledger_index.proofs.unpaged.Unpaged.named.Goals as goal

-- it is of no name
pub returns-in_default-clause-none : goal.returns-in_default-clause-none
returns-in_default-clause-none c = λ none n. at_none c.args.self.now c.args.account.now (sym c.of.ensures ∙ c.in_default.is) n

-- it has no sums there
pub returns-then-second-eq0-clause-none : goal.returns-then-second-eq0-clause-none
returns-then-second-eq0-clause-none c = λ none n.
    at_free c.args.self.now c.args.account.now c.in-Some.name (sym c.in-Some.ensures)
    (none_by (names_in c.args.self.now.names.parts.items c.in-Some.name) (sym c.sums-first.ensures.first ∙ c.if-first-eq0.true) (sym c.sums-first.ensures.second ∙ c.if-second-eq0.true)) n

-- it has some
pub returns-clause-some : goal.returns-clause-some
returns-clause-some c =
    let at = sym c.in-Some.ensures in
    let has = has_by (names_in c.args.self.now.names.parts.items c.in-Some.name) (λ z0 z1.
    ⊎_elim (λ b. b.1 (c.sums-first.ensures.second ∙ z1)) (λ some. some (c.sums-first.ensures.first ∙ z0)) c.else-first-eq0.either) in record {
      first_is = at_has c.args.self.now c.args.account.now c.in-Some.name at has 0 (omega arith) ∙ sym c.sums-first.ensures.first;
      second_is = at_has c.args.self.now c.args.account.now c.in-Some.name at has 1 (omega arith) ∙ sym c.sums-first.ensures.second;
      others = at_past c.args.self.now c.args.account.now c.in-Some.name at;
      rule = rule_of c.args.account.now c.in-Some.name at;
    }

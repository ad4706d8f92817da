use Rattle.std.proofs.lemmas.List.Elements.{All-head, All-same}
use Rattle.std.proofs.Common.{sym}
use Rattle.std.specs.Map.Iter.{deref_pair}
use Rattle.live_index.specs.Pairs.{Stands}
use Rattle.live_index.specs.Table.{pairs_of}
use Rattle.live_index.proofs.WalkLaws.{all_left}
use Rattle.live_index.proofs.in_order.InKeyOrder.next.Goals as goal

-- src/in_order.rt:62:25
pub invariant_of-self : goal.invariant_of-self
invariant_of-self g c = record {
  stand = all_left (λ one. Stands (pairs_of c.args.self.now.table.now) one.1) deref_pair c.args.self.now.rest c.next.result c.next.new.self c.next.ensures.steps c.args.self.now.stand;
}

-- src/in_order.rt:56:5
pub returns-clause-stands : goal.returns-clause-stands
returns-clause-stands g c =
    All-head (λ one. Stands (pairs_of c.args.self.now.table.now) one.1) _ c.next.new.self
    (All-same (λ one. Stands (pairs_of c.args.self.now.table.now) one.1) _ c.args.self.now.rest (sym c.in_ok-live.ensures.steps) c.args.self.now.stand)

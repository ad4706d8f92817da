use Rattle.std.proofs.Common.{◌-◌, ◌<◌, length, take, drop}
use Rattle.verdict.proofs.Lists.{all_behind}
use Rattle.extent_items.specs.References.{references_of}
use Rattle.extent_items.proofs.Behind.{references_next, references_fewer}
use Rattle.extent_items.proofs.reference.ReferencesIterator.next.Goals as goal

pub returns-clause-steps : goal.returns-clause-steps
returns-clause-steps c = references_next _ _ _ _ _ _ (c.in_ok-kind.ensures {u = tt}).cases.0 c.body_size-size.ensures c.if-body-size.false (all_behind c.body_size-size.result c.in_ok-kind.body.now) c.inline_reference.ensures

pub returns-clause-goes : goal.returns-clause-goes
returns-clause-goes c =
    let fewer : length (references_of (take (length c.in_ok-kind.body.now - c.body_size-size.result) (drop c.body_size-size.result c.in_ok-kind.body.now))) < length (references_of c.args.self.now.left.now) =
    references_fewer _ _ _ _ _ _ (c.in_ok-kind.ensures {u = tt}).cases.0 c.body_size-size.ensures c.if-body-size.false (all_behind c.body_size-size.result c.in_ok-kind.body.now) c.inline_reference.ensures in
    record { on = λ _. (tt, tt, fewer); keeps = tt; rests = λ _. tt }

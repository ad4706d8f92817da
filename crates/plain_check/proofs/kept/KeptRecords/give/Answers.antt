use Rattle.plain_check.proofs.Keeping.{lawful_item}
use Rattle.plain_check.proofs.kept.KeptRecords.give.Goals as goal

pub take-requires : goal.take-requires
take-requires g c =
    lawful_item c.self.inside.list.items c.deref-one-items.result.now c.loop-one.one-index c.one-item.result _
    (cc (c.deref-one-items.ensures.value)) c.loop-one-test.true c.self.invariant c.one-item.is c.lend.ensures

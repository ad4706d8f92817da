use Rattle.std.proofs.Common.{arith, refl, ap, sym, ◌∙◌}
use Rattle.std.specs.Prelude.{vec_len}
use Rattle.records.specs.Seen.{seen}
use Rattle.live_maker.specs.Opened.{held_in, with_record}
use Rattle.live_maker.proofs.Closing.{item_taken}
use Rattle.live_maker.proofs.lives.LivesTaker.take.Goals as goal

pub returns-in-Some : goal.returns-in-Some
returns-in-Some c =
    item_taken c.args.self.now.pairs.items _ (vec_len c.args.self.now.pairs) c.in-Some.top.now c.in-Item.item.key c.greater-top.result
    (omega arith) (omega (arith, c.in-Some.ensures.variant.0 refl)) c.in-Some.ensures.value c.greater-top.ensures refl
    ∙ ap (λ one. with_record (held_in c.args.self.now) (seen one)) (sym c.in-Item.is)

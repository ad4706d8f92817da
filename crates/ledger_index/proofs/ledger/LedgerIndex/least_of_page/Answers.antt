use Rattle.std.proofs.Common.{◌≡◌, arith, subst, sym, ◌∙◌}
use Rattle.ledger_index.specs.Judged.{IsLeastBut}
use Rattle.ledger_index.specs.Ledger.{sums_of}
use Rattle.ledger_index.specs.Seated.{left_slots}
use Rattle.ledger_index.proofs.SeatedLaws.{page_end, page_start, slot_judged, slot_kept}
use Rattle.ledger_index.proofs.ledger.LedgerIndex.least_of_page.Goals as goal

pub loop-slot-init : goal.loop-slot-init
loop-slot-init g c = λ rest is. page_start c.args.self.now rest c.args.key.now c.args.page.now c.args.first is

-- an account keeps its rule
pub loop-slot-preserved-then-not-breaks_at : goal.loop-slot-preserved-then-not-breaks_at
loop-slot-preserved-then-not-breaks_at g c = λ rest is.
    slot_kept c.args.self.now rest c.args.key.now c.args.page.now c.loop-slot.least c.requires c.loop-slot.slot (c.loop-slot.invariant rest is)
    (sym c.breaks_at.ensures ∙ c.if-not-breaks_at.true)

-- or it is judged
pub loop-slot-preserved : goal.loop-slot-preserved
loop-slot-preserved g c = λ rest is.
    slot_judged c.args.self.now rest c.args.key.now c.args.page.now c.loop-slot.least c.requires c.loop-slot.slot (c.loop-slot.invariant rest is)
    c.account.result c.account.ensures c.lesser-least.result c.lesser-least.ensures

pub returns : goal.returns
returns g c = λ rest is.
    let all : c.loop-slot.slot ≡ 16 = omega (arith, c.loop-slot-test.false, c.loop-slot.auto.slot-end) in
    page_end c.args.self.now rest c.args.key.now c.args.page.now c.loop-slot.least
    (subst (λ n. IsLeastBut (sums_of c.args.self.now) (left_slots rest c.args.key.now n) c.loop-slot.least) all (c.loop-slot.invariant rest is))

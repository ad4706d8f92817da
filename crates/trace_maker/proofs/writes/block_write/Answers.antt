use Rattle.std.proofs.Common.{◌≡◌, ℕ, ◌+◌, List, length, ap, ◌∙◌, arith}
use Rattle.trace_maker.proofs.Gathering.{lawful_write}
use Rattle.trace_maker.proofs.writes.block_write.Goals as goal

pub returns-clause-lawful : goal.returns-clause-lawful
returns-clause-lawful c =
    let bytes = c.in_ok-held.field-0 in
    let size : length bytes ≡ 16384 = ap (λ (b : List ℕ). length b) c.in_ok-held.ensures.same ∙ ap (λ (b : List ℕ). length b) c.as_slice.ensures ∙ c.args.block.now.whole in
    let place = c.block_address.ensures in
    lawful_write 0 (c.block_address.result + c.args.copy) bytes (omega arith) (omega arith) (omega arith) (omega arith) (omega arith) c.in_ok-held.ensures.lawful

use Rattle.std.proofs.Common.{◌≡◌, ◌+◌, ℕ, List, sym, ◌∙◌, arith, rules, length, slice_index, slice_set, get_or-set_other, get_or-set_same}
use Rattle.std.proofs.lemmas.List.{get_or_past, length-set}
use Rattle.ledger_keys.proofs.KeptLaws.{long_by, two_by}
use Rattle.ledger_keys.proofs.kept.of_long.Goals as goal

pub returns : goal.returns
returns c =
    let size : length c.loop-i.totals.f ≡ 9 = c.loop-i.invariant.size in
    let seven : List ℕ = slice_set c.loop-i.totals.f 7 c.from-2.result in
    let all : List ℕ = slice_set seven 8 c.from-3.result in
    let seven_size : length seven ≡ 9 = length-set c.loop-i.totals.f 7 c.from-2.result ∙ size in
    let all_size : length all ≡ 9 = length-set seven 8 c.from-3.result ∙ seven_size in
    let two : length c.args.long.now ≡ 2 = search rules in
    let at_seven : slice_index all 7 ≡ c.from-2.result =
    get_or-set_other seven 8 7 c.from-3.result 0 (omega arith) ∙ get_or-set_same c.loop-i.totals.f 7 c.from-2.result 0 (omega arith) in
    let at_eight : slice_index all 8 ≡ c.from-3.result = get_or-set_same seven 8 c.from-3.result 0 (omega arith) in
    λ n. sym (long_by c.args.few.now c.args.long.now (λ k. slice_index all k)
    (λ k small. sym (get_or-set_other seven 8 k c.from-3.result 0 (omega arith)
    ∙ get_or-set_other c.loop-i.totals.f 7 k c.from-2.result 0 (omega arith) ∙ c.loop-i.invariant.done k (omega arith)))
    (two_by c.args.long.now (λ k. slice_index all (k + 7)) two (sym (at_seven ∙ c.from-2.ensures)) (sym (at_eight ∙ c.from-3.ensures))
    (λ k big. get_or_past all (k + 7) 0 (omega arith))) n)

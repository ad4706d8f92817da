use Rattle.std.proofs.Common.{ℕ, ◌≤◌, List, length, length-append, ap, arith}
use Rattle.std.specs.Fmt.{decimal}
use Rattle.std.proofs.lemmas.Fmt.{length-decimal-le}
use Rattle.volume_maker.proofs.names.name_of.Goals as goal

pub returns-clause-short : goal.returns-clause-short
returns-clause-short c =
    let digits : length (decimal c.args.k) ≤ 10 = length-decimal-le 10 c.args.k (omega arith) (omega arith) (omega arith) in
    let whole = ap (λ (b : List ℕ). length b) c.in_ok-format.ensures.ok in
    omega (arith, length-append c.args.letter.now (decimal c.args.k))

use Rattle.std.proofs.Common.{◌≡◌, ◌∷◌, ◌++◌, [], rules}
use Rattle.plain_check.proofs.Keeping.{lawful_more}
use Rattle.plain_check.proofs.kept.KeptRecordsTaker.take.Goals as goal

pub invariant_of-self-2 : goal.invariant_of-self-2
invariant_of-self-2 c =
    let pushed : c.push.new.self.items ≡ c.self.inside.list.items ++ c.in_ok-copy.copy ∷ [] = search rules in
    lawful_more c.self.inside.list.items c.push.new.self.items c.in_ok-copy.copy _ pushed c.in_ok-copy.ensures c.requires c.self.invariant

use Rattle.std.specs.Array.Iter.{array_into_iter_items}
use Rattle.accounts.proofs.SoFar.{PostsSoFar}
use Rattle.accounts.proofs.postings.Postings.push_all.Given as goal

-- the postings that the iterator has are left
abbrev pub invariant-loop-posting : goal.invariant-loop-posting
invariant-loop-posting g l = PostsSoFar l.fn.self l.self l.fn.postings (array_into_iter_items l.posting-iterator)

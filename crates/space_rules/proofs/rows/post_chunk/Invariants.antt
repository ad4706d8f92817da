use Rattle.std.proofs.Common.{map}
use Rattle.volume_items.specs.ChunkItems.{fields_in, stripes_left}
use Rattle.accounts.specs.Kinds.{stripe}
use Rattle.accounts.proofs.Behind.{Left}
use Rattle.records.specs.SpacePostings.{chunk_postings}
use Rattle.accounts.specs.Lent.{to}
use Rattle.space_rules.proofs.rows.post_chunk.Given as goal

-- the stripes that the iterator has are left
abbrev pub invariant-loop-stripe : goal.invariant-loop-stripe
invariant-loop-stripe g l = Left g.P.Poster.Leaves l.fn.into l.into
    (map (λ one. to (stripe l.start one.devid one.physical l.item.length) 0 1) (stripes_left l.stripe-iterator))
    (chunk_postings (fields_in l.item))

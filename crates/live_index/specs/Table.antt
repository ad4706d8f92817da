-- The table that an index is.
use Rattle.live_index.specs.declared.kept.LiveIndex.{LiveIndex}
use Rattle.live_index.specs.InOrder.{pairs_in}
use Rattle.live_index.specs.Pairs.{Pairs}

-- the pairs of an index
abbrev pub pairs_of : {L : Type 0} → LiveIndex L → Pairs
pairs_of index = pairs_in index.pairs

-- Tables of live pairs that lists of pairs change.
use Rattle.std.specs.Prelude.{List}
use Rattle.std.specs.List.{fold}
use Rattle.live_index.specs.Pairs.{Pairs, with_pair, without_pair}
use Rattle.live_index.specs.declared.live.Live.{Live}

-- a table, with some pairs put into it one after the other
unfoldable pub with_pairs : Pairs → List Live → Pairs
with_pairs pairs lives = fold with_pair pairs lives

-- a table without the pair that stands where a live pair does
abbrev pub without_live : Pairs → Live → Pairs
without_live pairs live = without_pair pairs live.tree live.address

-- a table without the pairs that stand where some do
unfoldable pub without_pairs : Pairs → List Live → Pairs
without_pairs pairs lives = fold without_live pairs lives

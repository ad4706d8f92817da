use Rattle.live_maker.specs.Tables.{with_pairs, without_pairs}
use Rattle.commit_laws.specs.Tables.{TableMovedLaw}
use Rattle.commit_laws.proofs.next_index.Table.{table_moved}
use Rattle.commit_laws.proofs.flags.table_moved_law.Goals as goal

moved : TableMovedLaw
unfolding with_pairs without_pairs
moved image pending old new change pairs tree address was is changes pairs_are =
    table_moved image pending old new change pairs tree address was is changes pairs_are

pub returns : goal.returns
returns c = moved

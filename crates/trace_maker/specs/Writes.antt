-- The writes of a commit, as they are gathered. These serve the private functions of the maker alone.
use Rattle.std.specs.Prelude.{ℕ, ◌≡◌, ◌+◌, ◌*◌, List, ◌++◌}
use Rattle.std.specs.List.{All, Contains}
use Rattle.verdict.specs.declared.machine.Event.{Event}
use Rattle.verdict.specs.Events.{begin_of, length_of}
use Rattle.volume_maker.specs.declared.block.BlockAt.{BlockAt}
use Rattle.trace_maker.specs.Made.{IsWriteBy}

-- the write of one of these blocks, which this generation wrote, so far behind the place of the first copy
pub record IsWriteOf (generation : ℕ) (blocks : List BlockAt) (copy : ℕ) (event : Event) : Type 0 where
  pub block : BlockAt
  pub one : Contains blocks block
  pub new : block.generation ≡ generation
  pub place : begin_of event ≡ 5242880 + 16384 * block.number + copy
  pub size : length_of event ≡ 16384

-- writes of tree blocks of this generation stand behind those that there were
pub record HasMore (generation : ℕ) (blocks : List BlockAt) (copy : ℕ) (before after : List Event) : Type 0 where
  pub more : List Event
  pub parts : after ≡ before ++ more
  pub lawful : All (IsWriteBy 0) more
  pub placed : All (IsWriteOf generation blocks copy) more

-- Copy on write: what a commit writes, and the blocks that are live before it. It serves to state what the private
-- functions of the maker do.
use Rattle.std.specs.Prelude.{ℕ, ◌+◌, ◌*◌, ◌≤◌, ◌⊎◌, List}
use Rattle.std.specs.List.{All}
use Rattle.verdict.specs.declared.machine.Event.{Event}
use Rattle.verdict.specs.Events.{begin_of, end_of}
use Rattle.volume_maker.specs.declared.block.BlockAt.{BlockAt}

-- an event reaches none of the 16,384 bytes from this place on
abbrev pub MissesBlock : Event → ℕ → Type 0
MissesBlock event place = (end_of event ≤ place) ⊎ (place + 16384 ≤ begin_of event)

-- An event reaches neither copy of any of these blocks. The first copies stand from byte 5,242,880 on, the second ones
-- 8,388,608 bytes behind them.
abbrev pub MissesLive : List BlockAt → Event → Type 0
MissesLive live event =
    All (λ b. MissesBlock event (5242880 + 16384 * b.number) × MissesBlock event (5242880 + 16384 * b.number + 8388608)) live

-- Ranges of bytes of the device, where those that touch are joined. It serves to state what private functions keep.
use Rattle.std.specs.Prelude.{◌≡◌, ◌+◌, ◌==◌, List, [], ◌∷◌, ◌++◌, Option, Some, None, if◌then◌else◌}
use Rattle.touched_blocks.specs.declared.spot.Spot.{Spot}

-- two ranges, one of which begins where the other ends, as one
abbrev pub joined : Spot → Spot → Spot
joined one other = record { at = one.at; len = one.len + other.len }

-- a range and those behind it, where each that begins where the one before ends is joined to it
abbrev pub joined_behind : Spot → List Spot → List Spot
joined_behind spot [] = spot ∷ []
joined_behind spot (other ∷ spots) =
    if spot.at + spot.len == other.at then joined_behind (joined spot other) spots else spot ∷ joined_behind other spots

-- the same, where there may be no range yet
abbrev pub joined_all : List Spot → List Spot
joined_all [] = []
joined_all (spot ∷ spots) = joined_behind spot spots

abbrev pub joined_from : Option Spot → List Spot → List Spot
joined_from None spots = joined_all spots
joined_from (Some spot) spots = joined_behind spot spots

-- After one part more another range is the last. With what follows the ranges are the same, however many follow.
abbrev pub IsJoined : Option Spot → Spot → Spot → List Spot → List Spot → Type 0
IsJoined last part next old new = (left : List Spot) → new ++ joined_behind next left ≡ old ++ joined_from last (part ∷ left)

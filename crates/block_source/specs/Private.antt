-- Words of the functions that read blocks and go through what they have; of the public ones, `child_at` rests on `pointers_from`.
use Rattle.std.specs.Prelude.{ℕ, ◌+◌, ◌-◌, ◌≤◌, List, Result, Ok, Err}
use denote.Ref.{Bor}
use Rattle.verdict.specs.declared.place.Place.{Place}
use Rattle.verdict.specs.declared.place.Place.TheVariants.{Nowhere, One, Two}
use Rattle.node_reader.specs.Places.{each_from}
use Rattle.node_reader.specs.Layout.{LeafItem, count_of, item_of, pointer_of}
use Rattle.node_reader.specs.declared.expect.Pointer.{Pointer}
use Rattle.block_source.specs.declared.halt.Halt.{Halt}

-- the copies at a place, of n bytes each, end at most at the end
abbrev pub FitsIn : ℕ → ℕ → Place → Type 0
FitsIn n end Nowhere = Unit {0}
FitsIn n end (One first) = first + n ≤ end
FitsIn n end (Two first second) = (first + n ≤ end) × (second + n ≤ end)

-- a step that is done lends these bytes
abbrev pub lending : Result (Bor (List ℕ)) Halt → Result (List ℕ) Halt
lending (Err halt) = Err halt
lending (Ok bytes) = Ok bytes.now

-- the items of a leaf from a place on
abbrev pub items_from : List ℕ → ℕ → List LeafItem
items_from bytes i = each_from (item_of bytes) i (count_of bytes - i)

-- the pointers of a node from a place on
abbrev pub pointers_from : List ℕ → ℕ → List Pointer
pointers_from bytes i = each_from (pointer_of bytes) i (count_of bytes - i)

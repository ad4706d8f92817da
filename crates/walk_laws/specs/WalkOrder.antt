-- The order of what a walk gives.
use Rattle.std.specs.Prelude.{◌≡◌, true, List, [], ◌∷◌, Ok}
use Rattle.verdict.specs.OnDisk.{key_below}
use Rattle.verdict.specs.declared.key.Key.{Key}
use Rattle.super_reader.specs.declared.Super.{Super}
use Rattle.node_reader.specs.Stored.{Stored}
use Rattle.node_reader.specs.declared.expect.Expect.{Expect}
use Rattle.records.specs.Seen.{Seen}
use Rattle.records.specs.Seen.Seen.{BlockSeen, PointerSeen, ItemSeen}
use Rattle.records.specs.Walk.{walk_of}

-- the keys of the items among records, in their order
abbrev pub item_keys : List Seen → List Key
item_keys [] = []
item_keys (BlockSeen block ∷ more) = item_keys more
item_keys (PointerSeen pointer ∷ more) = item_keys more
item_keys (ItemSeen one ∷ more) = one.key ∷ item_keys more

-- a key stands before all of these
abbrev pub AllAbove : Key → List Key → Type 0
AllAbove key [] = Unit {0}
AllAbove key (other ∷ others) = (key_below key other ≡ true) × AllAbove key others

-- each key stands before all later ones
abbrev pub Ascend : List Key → Type 0
Ascend [] = Unit {0}
Ascend (key ∷ keys) = AllAbove key keys × Ascend keys

-- the keys of the items that a walk gives ascend, whatever is stored
abbrev pub WalksAscend : Type 0
WalksAscend = (sup : Super) (stored : Stored) (e : Expect) (records : List Seen) → walk_of sup stored e ≡ Ok records → Ascend (item_keys records)

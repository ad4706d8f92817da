-- The walk of a tree: a block with its pointers or items before what is below it, and its children in their order. It is the first
-- finding, or the list of the records.
use Rattle.std.specs.Prelude.{ℕ, zero, suc, ◌==◌, List, [], ◌∷◌, ◌++◌, Option, Some, Result, Ok, Err, if◌then◌else◌}
use Rattle.verdict.specs.Rules.{and_then}
use Rattle.verdict.specs.declared.key.Key.{Key}
use Rattle.verdict.specs.declared.finding.Finding.{Finding}
use Rattle.verdict.specs.declared.place.At.{At}
use Rattle.verdict.specs.declared.place.Chunk.{Chunk}
use Rattle.super_reader.specs.declared.Super.{Super}
use Rattle.super_reader.specs.Superblock.{item_place}
use Rattle.node_reader.specs.Stored.{Stored, stored_in, block_in}
use Rattle.node_reader.specs.Layout.{LeafItem, first_key_of, items_of, owner_of, pointers_of}
use Rattle.node_reader.specs.declared.expect.Expect.{Expect}
use Rattle.node_reader.specs.declared.expect.Pointer.{Pointer}
use Rattle.records.specs.declared.rec.WalkedBlock.{WalkedBlock}
use Rattle.records.specs.declared.rec.PointerAt.{PointerAt}
use Rattle.records.specs.Seen.{Seen}
use Rattle.records.specs.Seen.Seen.{BlockSeen, PointerSeen, ItemSeen}
use Rattle.records.specs.Item.{item_record}

-- records, or the finding that came first
abbrev pub Records : Type 0
Records = Result (List Seen) Finding

-- one record
abbrev pub just : Result Seen Finding → Records
just (Ok one) = Ok (one ∷ [])
just (Err finding) = Err finding

-- records, and behind them those that follow
unfoldable pub behind : List Seen → Records → Records
behind records (Err finding) = Err finding
behind records (Ok others) = Ok (records ++ others)

-- the same, where the first may have a finding
abbrev pub then_records : Records → Records → Records
then_records first later = and_then first (λ records. behind records later)

-- the records of several, one after the other
abbrev pub each : {A : Type 0} → (A → Records) → List A → Records
each of [] = Ok []
each of (one ∷ more) = then_records (of one) (each of more)

-- the key of the next pointer, or behind the last the node's own high key
abbrev pub high_of : List Pointer → Option Key → Option Key
high_of [] high = high
high_of (pointer ∷ pointers) high = Some pointer.key

-- what is expected of a pointer's block on a level, below a node of which this was expected
abbrev pub child_of : ℕ → Expect → Pointer → Option Key → Expect
child_of level e pointer high = record {
  tree = e.tree;
  address = pointer.address;
  generation = pointer.generation;
  level = level;
  low = Some pointer.key;
  high = high;
  parent = e.address;
}

-- what is expected of the blocks of a node's pointers on a level
abbrev pub children_of : ℕ → Expect → List Pointer → List Expect
children_of level e [] = []
children_of level e (pointer ∷ pointers) = child_of level e pointer (high_of pointers e.high) ∷ children_of level e pointers

-- the block that is expected, with these bytes: the high key is no part of it
abbrev pub block_at : Expect → List ℕ → WalkedBlock
block_at e bytes = record {
  tree = e.tree;
  address = e.address;
  level = e.level;
  generation = e.generation;
  low = e.low;
  parent = e.parent;
  owner = owner_of bytes;
  first = first_key_of bytes;
}

-- a pointer of the node that is expected
abbrev pub pointer_at : Expect → Pointer → PointerAt
pointer_at e pointer = record { tree = e.tree; block = e.address; level = e.level; pointer = pointer }

-- the records of a node's pointers
abbrev pub pointer_records : Expect → List Pointer → List Seen
pointer_records e [] = []
pointer_records e (pointer ∷ pointers) = PointerSeen (pointer_at e pointer) ∷ pointer_records e pointers

-- the record of an item of the leaf at a place, or its finding
abbrev pub leaf_record : At → LeafItem → Result Seen Finding
leaf_record at item =
    and_then (item_record at item.key item.bytes) (λ part.
    Ok (ItemSeen (record { tree = at.tree; block = at.block; key = item.key; part = part })))

-- the records of a leaf's items: its place decides them, and none of its keys' bounds
unfoldable pub leaf_records : At → List LeafItem → Records
leaf_records at items = each (λ item. just (leaf_record at item)) items

-- the records of what the block has that is expected: of a leaf's items, or of a node's pointers
abbrev pub entry_records : Super → Expect → List ℕ → Records
entry_records sup e bytes =
    if e.level == 0 then leaf_records (item_place sup e.tree e.address e.generation) (items_of bytes)
    else Ok (pointer_records e (pointers_of bytes))

-- the own records of the block that is expected: itself, and what it has
unfoldable pub own_records : Super → Expect → List ℕ → Records
own_records sup e bytes = behind (BlockSeen (block_at e bytes) ∷ []) (entry_records sup e bytes)

-- the own records of the block that is expected, and the records below it
abbrev pub block_and : (Expect → List ℕ → Records) → Super → Stored → Expect → Records
block_and below sup stored e =
    and_then (block_in stored sup.fsid e) (λ bytes. then_records (own_records sup e bytes) (below e bytes))

-- the records below a block on a level
unfoldable pub below : ℕ → Super → Stored → Expect → List ℕ → Records
below zero sup stored e bytes = Ok []
below (suc level) sup stored e bytes = each (block_and (below level sup stored) sup stored) (children_of level e (pointers_of bytes))

-- the records of the tree from the block on that is expected
abbrev pub walk_of : Super → Stored → Expect → Records
walk_of sup stored e = block_and (below e.level sup stored) sup stored e

-- the same, in an image by a list of chunks
unfoldable pub walk_in : Super → List Chunk → Expect → List ℕ → Records
walk_in sup chunks e image = walk_of sup (stored_in image chunks sup.nodesize) e

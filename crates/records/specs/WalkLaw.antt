-- What a walk rests on: what is stored where it comes to, and nothing else.
use Rattle.std.specs.Prelude.{◌≡◌, ℕ, zero, suc, List, [], ◌∷◌, Option, Result, Ok, Err}
use Rattle.std.specs.List.{flat_map}
use Rattle.verdict.specs.declared.finding.Finding.{Finding}
use Rattle.verdict.specs.declared.key.Key.{Key}
use Rattle.super_reader.specs.declared.Super.{Super}
use Rattle.node_reader.specs.HighLaw.{under}
use Rattle.node_reader.specs.Layout.{pointers_of}
use Rattle.node_reader.specs.Stored.{Stored, block_in}
use Rattle.node_reader.specs.declared.expect.Expect.{Expect}
use Rattle.records.specs.Walk.{children_of, entry_records, own_records, walk_of}

-- what is expected of the children on a level of a node that was read
abbrev pub children_in : ℕ → Expect → Result (List ℕ) Finding → List Expect
children_in level e (Ok bytes) = children_of level e (pointers_of bytes)
children_in level e (Err finding) = []

-- what is expected of the block on a level and of all that are below it
unfoldable pub visited_from : ℕ → Super → Stored → Expect → List Expect
visited_from zero sup stored e = e ∷ []
visited_from (suc level) sup stored e = e ∷ flat_map (visited_from level sup stored) (children_in level e (block_in stored sup.fsid e))

-- what is expected of each block that a walk comes to
abbrev pub visited : Super → Stored → Expect → List Expect
visited sup stored e = visited_from e.level sup stored e

-- the same is stored at the address of each of these blocks
abbrev pub StoredAlike : Stored → Stored → List Expect → Type 0
StoredAlike stored other [] = Unit {0}
StoredAlike stored other (e ∷ es) = (other e.address ≡ stored e.address) × StoredAlike stored other es

-- where the same is stored at each address that a walk comes to, it gives the same
abbrev pub VisitsDecide : Type 0
VisitsDecide = (sup : Super) (stored other : Stored) (e : Expect) → StoredAlike stored other (visited sup stored e) → walk_of sup other e ≡ walk_of sup stored e

-- a high key leaves a block's own records as they are, and another node above leaves those of what it has
pub record HighLeaves : Type 0 where
  pub own : (sup : Super) (bytes : List ℕ) (e : Expect) (high : Option Key) → own_records sup (under e high e.parent) bytes ≡ own_records sup e bytes
  pub entries : (sup : Super) (bytes : List ℕ) (e : Expect) (high : Option Key) (parent : ℕ) → entry_records sup (under e high parent) bytes ≡ entry_records sup e bytes

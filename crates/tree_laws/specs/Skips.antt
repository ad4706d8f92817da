-- The walk that keeps blocks: it reads none of them and takes none of their own records, but goes on to some that are listed below them.
use Rattle.std.specs.Prelude.{ℕ, zero, suc, ◌-◌, Bool, true, List, [], Option, Some, None, Ok, if◌then◌else◌}
use Rattle.verdict.specs.OnDisk.{key_below}
use Rattle.verdict.specs.Rules.{and_then}
use Rattle.verdict.specs.declared.key.Key.{Key}
use Rattle.super_reader.specs.declared.Super.{Super}
use Rattle.node_reader.specs.Layout.{pointers_of}
use Rattle.node_reader.specs.Stored.{Stored, block_in}
use Rattle.node_reader.specs.declared.expect.Expect.{Expect}
use Rattle.records.specs.Seen.{Seen}
use Rattle.records.specs.Walk.{Records, behind, block_and, children_of, each, own_records, walk_of}
use Rattle.records.specs.WalkLaw.{visited}

-- the greatest key that is sure to stand in each block that is kept, or below it; none where the block is not kept
abbrev pub Kept : Type 0
Kept = Expect → Option Key

-- the blocks that the walk goes on to below each kept block
abbrev pub Anew : Type 0
Anew = Expect → List Expect

-- the records that are given of each kept block in place of its own
abbrev pub Told : Type 0
Told = Expect → List Seen

-- no records
abbrev pub nothing : Told
nothing e = []

-- whether a key is below a high key, where there is one
abbrev pub is_below : Key → Option Key → Bool
is_below key None = true
is_below key (Some high) = key_below key high

-- what is expected of the blocks of a node's pointers
abbrev pub next_of : Expect → List ℕ → List Expect
next_of e bytes = children_of (e.level - 1) e (pointers_of bytes)

-- The walk of the blocks below a kept one, where its greatest key is below the high key that is expected. Where it is not there is a
-- finding, and the whole walk comes to the first. Else the block is not kept, and the rest is that of other blocks.
abbrev pub skip_or : Expect → Records → Records → Records → Option Key → Records
skip_or e all anew rest None = rest
skip_or e all anew rest (Some last) = if is_below last e.high then anew else all

-- a block that is expected, and what is below it, where blocks on the next level are walked so
abbrev pub skip_and : Kept → Told → Anew → (List Expect → Records) → Super → Stored → Expect → Records
skip_and kept told anew below sup stored e =
    skip_or e (walk_of sup stored e) (behind (told e) (below (anew e))) (block_and (λ v bytes. below (next_of v bytes)) sup stored e) (kept e)

-- the blocks on the level below this one, and what is below them
unfoldable pub skip_below : Kept → Told → Anew → ℕ → Super → Stored → List Expect → Records
skip_below kept told anew zero sup stored next = Ok []
skip_below kept told anew (suc level) sup stored next = each (skip_and kept told anew (skip_below kept told anew level sup stored) sup stored) next

-- the walk from the block on that is expected, which keeps blocks
abbrev pub skip_of : Kept → Told → Anew → Super → Stored → Expect → Records
skip_of kept told anew sup stored e = skip_and kept told anew (skip_below kept told anew e.level sup stored) sup stored e

-- the own records of the block that is expected, or its finding
abbrev pub own_of : Super → Stored → Expect → Records
own_of sup stored e = and_then (block_in stored sup.fsid e) (own_records sup e)

-- records where a block is not kept, and others where it is
abbrev pub where_new : Option Key → Records → Records → Records
where_new None own others = own
where_new (Some last) own others = others

-- the own records of a block that is not kept, and of one that is kept what is told of it
abbrev pub part_of : Kept → Told → Super → Stored → Expect → Records
part_of kept told sup stored e = where_new (kept e) (own_of sup stored e) (Ok (told e))

-- the whole walk without the records of kept blocks: its first finding, or the own records of each other block that it comes to
abbrev pub unkept : Kept → Told → Super → Stored → Expect → Records
unkept kept told sup stored e = and_then (walk_of sup stored e) (λ _. each (part_of kept told sup stored) (visited sup stored e))

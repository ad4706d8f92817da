-- What the walks of one tree give: that of the tree as it is, and that of the tree as it was.
use Rattle.std.specs.Prelude.{ℕ, ◌+◌, ◌*◌, ◌==◌, ◌&&◌, Bool, List, [], length, map, Option, Some, None, Result, Ok, if◌then◌else◌}
use Rattle.std.specs.List.{filter_map, fold}
use Rattle.verdict.specs.OnDisk.{key_same}
use Rattle.verdict.specs.Rules.{and_then, no_key}
use Rattle.verdict.specs.declared.finding.Finding.{Finding}
use Rattle.verdict.specs.declared.key.Key.{Key}
use Rattle.verdict.specs.declared.place.Chunk.{Chunk}
use Rattle.live_index.specs.Pairs.{Pairs}
use Rattle.live_index.specs.declared.live.Live.{Live}
use Rattle.super_reader.specs.declared.Super.{Super}
use Rattle.node_reader.specs.declared.expect.Expect.{Expect}
use Rattle.records.specs.Part.{Located}
use Rattle.records.specs.declared.rec.WalkedBlock.{WalkedBlock}
use Rattle.tree_laws.specs.Ending.{Lasts, ends_in}
use Rattle.tree_laws.specs.Keeping.{Marks, Under, anew_of, kept_of}
use Rattle.tree_laws.specs.KeepingWalk.{skip_in}
use Rattle.tree_laws.specs.Known.{last_of}
use Rattle.tree_laws.specs.LivePairs.{first_or_greatest}
use Rattle.tree_laws.specs.Meeting.{met_in}
use Rattle.tree_laws.specs.MergedLaw.{items}
use Rattle.tree_laws.specs.OldSide.{kept_at}
use Rattle.tree_laws.specs.Skips.{Anew, Kept}
use Rattle.tree_laws.specs.declared.told.Ended.{Ended}
use Rattle.tree_change.specs.Firsts.{first_copies}
use Rattle.tree_change.specs.Gathered.{Gathers, blocks_seen}

-- What is known of trees as they were: live pairs, the marks of those that writes touch, which blocks stand elsewhere now, and the children
-- that are touched or moved, or are above one of these.
pub record Known : Type 0 where
  pub pairs : Pairs
  pub marked : Marks
  pub moved : ℕ → Bool
  pub under : Under

-- the blocks that the walk of a tree as it is keeps, what it walks below them, and their greatest keys
abbrev pub kept_by : Known → Kept
kept_by known = kept_of known.pairs known.marked known.moved known.under

abbrev pub listed_by : Known → Anew
listed_by known = anew_of known.under

abbrev pub lasts_by : Known → Lasts
lasts_by known = last_of known.pairs known.under

-- an image, with the superblock and the chunks by which it is read
pub record Side : Type 0 where
  pub sup : Super
  pub chunks : List Chunk
  pub image : List ℕ

-- what the walk of a tree as it is gives: the blocks and items that are not kept, the kept blocks that it meets, and each block that it is
-- done with
pub record NewWalk : Type 0 where
  pub read : Gathers
  pub met : List Expect
  pub ended : List Ended

-- the same, or its first finding
unfoldable pub new_walk : Known → Side → Expect → Result NewWalk Finding
new_walk known is e =
    and_then (skip_in (kept_by known) (listed_by known) is.sup is.chunks e is.image) (λ records.
    Ok (record {
      read = record { blocks = blocks_seen records; items = items records };
      met = met_in (kept_by known) (listed_by known) is.sup is.chunks e is.image;
      ended = (ends_in (kept_by known) (listed_by known) (lasts_by known) is.sup is.chunks e is.image).blocks;
    }))

-- what the walk of a tree as it was gives, which stops at these blocks and reads the first copy of each other one
unfoldable pub old_walk : Known → List Expect → Side → Expect → Result Gathers Finding
old_walk known stops was e =
    and_then (skip_in (kept_at known.pairs stops known.under) (listed_by known) was.sup (first_copies was.chunks) e was.image) (λ records.
    Ok (record { blocks = blocks_seen records; items = items records }))

-- nothing, of a tree that was not
abbrev pub no_tree : Gathers
no_tree = record { blocks = []; items = [] }

abbrev pub old_or_none : Known → List Expect → Side → Option Expect → Result Gathers Finding
old_or_none known stops was None = Ok no_tree
old_or_none known stops was (Some e) = old_walk known stops was e

-- the greatest key that was told last of the block at an address, (0, 0, 0) where none was
abbrev pub with_last : ℕ → Key → Ended → Key
with_last address key one = if one.expect.address == address then one.last else key

abbrev pub last_at : List Ended → ℕ → Key
last_at ended address = fold (with_last address) no_key ended

-- a block with its greatest key as a live pair
abbrev pub live_with : WalkedBlock → Key → Live
live_with block last = record {
  tree = block.tree;
  address = block.address;
  level = block.level;
  generation = block.generation;
  first = first_or_greatest block.first;
  last = last;
  parent = block.parent;
  owner = block.owner;
}

-- blocks that were read as live pairs
abbrev pub lives_of : List Ended → List WalkedBlock → List Live
lives_of ended blocks = map (λ (block : WalkedBlock). live_with block (last_at ended block.address)) blocks

-- a live pair with another node above and another greatest key
abbrev pub shifted_to : Live → ℕ → Key → Live
shifted_to live parent last = record {
  tree = live.tree;
  address = live.address;
  level = live.level;
  generation = live.generation;
  first = live.first;
  last = last;
  parent = parent;
  owner = live.owner;
}

-- the pair of a kept block, where it is known and its node above or its greatest key is another now
abbrev pub shifted_pair : Option Live → ℕ → Key → Option Live
shifted_pair None parent last = None
shifted_pair (Some live) parent last =
    if live.parent == parent && key_same live.last last then None else Some (shifted_to live parent last)

abbrev pub shifted_of : Pairs → List Ended → List Expect → List Live
shifted_of pairs ended met = filter_map (λ (e : Expect). shifted_pair (pairs e.tree e.address) e.parent (last_at ended e.address)) met

-- the known pairs of blocks
abbrev pub pairs_at : Pairs → List WalkedBlock → List Live
pairs_at pairs blocks = filter_map (λ (block : WalkedBlock). pairs block.tree block.address) blocks

-- what changes in trees, and how many reads it takes at most: one for each block as it was, two for each as it is
pub record Parts : Type 0 where
  pub old_blocks : List Live
  pub new_blocks : List Live
  pub shifted : List Live
  pub old_items : List Located
  pub new_items : List Located
  pub count : ℕ

-- what changes in a tree, by its two walks
abbrev pub parts_of : Pairs → NewWalk → Gathers → Parts
parts_of pairs new old = record {
  old_blocks = pairs_at pairs old.blocks;
  new_blocks = lives_of new.ended new.read.blocks;
  shifted = shifted_of pairs new.ended new.met;
  old_items = old.items;
  new_items = new.read.items;
  count = length old.blocks + 2 * length new.read.blocks;
}

-- the same, or the first finding: of a tree that is, and that was or was not
unfoldable pub tree_parts : Pairs → Known → Side → Side → Option Expect → Expect → Result Parts Finding
tree_parts pairs known was is before now =
    and_then (new_walk known is now) (λ new.
    and_then (old_or_none known new.met was before) (λ old.
    Ok (parts_of pairs new old)))

-- nothing, of a tree that is not
abbrev pub no_walk : NewWalk
no_walk = record { read = no_tree; met = []; ended = [] }

-- what changes where a tree is gone
unfoldable pub gone_parts : Pairs → Known → Side → Expect → Result Parts Finding
gone_parts pairs known was before = and_then (old_walk known [] was before) (λ old. Ok (parts_of pairs no_walk old))

-- The live pairs of the blocks that walks have come to, in their order. The greatest key of a block is known once all that is below it is:
-- until then the block is open, and its pair has the greatest key so far of its own items. All blocks are closed at once, at the end.
use Rattle.std.specs.Prelude.{◌≡◌, Bool, not, ◌||◌, ◌==◌, nat_le, List, [], ◌∷◌, ◌++◌, if◌then◌else◌}
use Rattle.std.specs.List.{fold}
use Rattle.verdict.specs.Rules.{no_key}
use Rattle.verdict.specs.declared.key.Key.{Key}
use Rattle.live_index.specs.declared.live.Live.{Live}
use Rattle.records.specs.Seen.{Seen}
use Rattle.records.specs.Seen.Seen.{BlockSeen, ItemSeen}
use Rattle.records.specs.declared.rec.WalkedBlock.{WalkedBlock}
use Rattle.tree_laws.specs.LivePairs.{first_or_greatest, greater_key, live_in}
use Rattle.live_maker.specs.declared.lives.Lives.{Lives}

-- the pair of a block that has had no item
abbrev pub opened : WalkedBlock → Live
opened block = record {
  tree = block.tree;
  address = block.address;
  level = block.level;
  generation = block.generation;
  first = first_or_greatest block.first;
  last = no_key;
  parent = block.parent;
  owner = block.owner;
}

-- a pair whose last key is the greater of its own and another
abbrev pub raised : Key → Live → Live
raised key live = record live { last = greater_key key live.last }

-- pairs, the last of which takes a key: that of the block that came last, which is open
abbrev pub with_key : Key → List Live → List Live
with_key key [] = []
with_key key (live ∷ []) = raised key live ∷ []
with_key key (live ∷ next ∷ more) = live ∷ with_key key (next ∷ more)

-- the pairs before any record
abbrev pub no_lives : List Live
no_lives = []

-- pairs, with one record more
abbrev pub with_record : List Live → Seen → List Live
with_record lives (BlockSeen block) = lives ++ opened block ∷ []
with_record lives (ItemSeen item) = with_key item.key lives
with_record lives other = lives

-- the pairs that a taker holds
abbrev pub held_in : Lives → List Live
held_in lives = lives.pairs.items

-- Whether of two pairs the second's block is not below the first's. The first such block behind an open one closes it.
abbrev pub closes : Live → Live → Bool
closes live one = not (one.tree == live.tree) || nat_le live.level one.level

-- the greatest last key of the pairs behind one, up to the first whose block closes its block; (0, 0, 0) where there is none
unfoldable pub last_below : Live → List Live → Key
last_below live [] = no_key
last_below live (one ∷ more) = if closes live one then no_key else greater_key one.last (last_below live more)

-- the pairs once all blocks are closed: each hands its last key up
unfoldable pub finished : List Live → List Live
finished [] = []
finished (live ∷ more) = raised (last_below live more) live ∷ finished more

-- of any records, the pairs once all blocks are closed are the live pairs of the blocks among them
abbrev pub LivesMade : Type 0
LivesMade = (records : List Seen) → finished (fold with_record no_lives records) ≡ live_in records

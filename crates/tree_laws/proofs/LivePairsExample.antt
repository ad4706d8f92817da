-- The live pairs of a small example: a tree of a node over two leaves, and behind it a tree that is an empty leaf.
use Rattle.std.proofs.Common.{◌≡◌, ℕ, List, [], ◌∷◌, refl}
use Rattle.std.specs.Prelude.{Option, Some, None}
use Rattle.verdict.specs.Rules.{no_key}
use Rattle.verdict.specs.declared.key.Key.{Key}
use Rattle.live_index.specs.declared.live.Live.{Live}
use Rattle.records.specs.Part.Part.{UnreadPart}
use Rattle.records.specs.Seen.{Seen}
use Rattle.records.specs.Seen.Seen.{BlockSeen, ItemSeen}
use Rattle.tree_laws.specs.LivePairs.{greatest_key, last_key, live_in, records_in}

-- a key with this objectid
abbrev key : ℕ → Key
key n = record { objectid = n; kind = 1; offset = 0 }

abbrev block : ℕ → ℕ → ℕ → ℕ → Option Key → Seen
block tree address level parent first = BlockSeen (record {
  tree = tree;
  address = address;
  level = level;
  generation = 7;
  low = first;
  parent = parent;
  owner = tree;
  first = first;
})

abbrev item : ℕ → ℕ → ℕ → Seen
item tree address n = ItemSeen (record { tree = tree; block = address; key = key n; part = UnreadPart [] })

abbrev pair : ℕ → ℕ → ℕ → ℕ → Key → Key → Live
pair tree address level parent first last = record {
  tree = tree;
  address = address;
  level = level;
  generation = 7;
  first = first;
  last = last;
  parent = parent;
  owner = tree;
}

abbrev walked : List Seen
walked =
    block 5 100 1 0 (Some (key 256))
    ∷ block 5 200 0 100 (Some (key 256)) ∷ item 5 200 256 ∷ item 5 200 257
    ∷ block 5 300 0 100 (Some (key 300)) ∷ item 5 300 300
    ∷ block 7 400 0 0 None
    ∷ []

pub live_pairs_of_an_example : live_in walked
    ≡ pair 5 100 1 0 (key 256) (key 300) ∷ pair 5 200 0 100 (key 256) (key 257) ∷ pair 5 300 0 100 (key 300) (key 300) ∷ pair 7 400 0 0 greatest_key no_key ∷ []
unfolding live_in records_in last_key
live_pairs_of_an_example = refl

-- The laws of how many blocks a walk that keeps blocks comes to: few, by the blocks that it reads.
use Rattle.std.specs.Prelude.{ℕ, ◌≡◌, ◌≤◌, ◌<◌, ◌+◌, ◌*◌, ◌-◌, ◌⊎◌, Bool, true, false, is_some, List, [], ◌∷◌, length, Some, None, Result, Ok, Err}
use Rattle.std.specs.List.{AllByRecursion, filter}
use Rattle.verdict.specs.declared.key.Key.{Key}
use Rattle.super_reader.specs.declared.Super.{Super}
use Rattle.live_index.specs.Pairs.{AreNarrow, Pairs}
use Rattle.node_reader.specs.Layout.{count_of}
use Rattle.node_reader.specs.Stored.{CopyFault, Stored}
use Rattle.node_reader.specs.declared.expect.Expect.{Expect}
use Rattle.records.specs.Seen.{Seen}
use Rattle.records.specs.Seen.Seen.{BlockSeen}
use Rattle.touched_blocks.specs.Marking.{AreMarkedFrom}
use Rattle.touched_blocks.specs.Marks.{no_mark}
use Rattle.tree_laws.specs.Keeping.{Marks, Under, anew_of, kept_of}
use Rattle.tree_laws.specs.Listed.{AreListedBy}
use Rattle.tree_laws.specs.OldSide.{kept_at}
use Rattle.tree_laws.specs.Skips.{Anew, Kept, nothing, skip_of}
use Rattle.tree_laws.specs.Stopping.{kept_among}
use Rattle.tree_laws.specs.Stops.{is_stop, stops_of}
use Rattle.tree_laws.specs.Unshared.{is_block_seen}
use Rattle.tree_laws.specs.Visits.{visits_of}

-- how many entries a stored block has: pointers of a node, items of a leaf
abbrev pub entries_in : Result (List ℕ) CopyFault → ℕ
entries_in (Err fault) = 0
entries_in (Ok bytes) = count_of bytes

-- how many entries the block has that is stored at an address
abbrev pub entries_at : Stored → ℕ → ℕ
entries_at stored address = entries_in (stored address)

-- the entries of a block among records
abbrev pub entries_here : Stored → Seen → ℕ
entries_here stored (BlockSeen block) = entries_at stored block.address
entries_here stored other = 0

-- the entries of all blocks among records
abbrev pub entries_seen : Stored → List Seen → ℕ
entries_seen stored [] = 0
entries_seen stored (seen ∷ records) = entries_here stored seen + entries_seen stored records

-- how many blocks are among records
abbrev pub blocks_seen : List Seen → ℕ
blocks_seen records = length (filter is_block_seen records)

-- a block is not kept, or it is no leaf and blocks are walked below it
abbrev pub IsLed : Kept → Anew → Expect → Type 0
IsLed kept anew c = (kept c ≡ None) ⊎ ((0 < length (anew c)) × (0 < c.level))

-- each block that is walked below a kept one is on the next level, and is not kept or leads on to others
abbrev pub LeadsOn : Kept → Anew → Type 0
LeadsOn kept anew =
    (e : Expect) (last : Key) → kept e ≡ Some last → AllByRecursion (λ c. (c.level ≡ e.level - 1) × IsLed kept anew c) (anew e)

-- Where each block that is walked below a kept one leads on, a walk that keeps blocks and has no finding comes to few: to the first one,
-- to one for each entry of a block that it reads, and to one for each block that it reads and each level below the first block.
abbrev pub VisitsLaw : Type 0
VisitsLaw = (kept : Kept) (anew : Anew) (sup : Super) (stored : Stored) (e : Expect) (records : List Seen)
    → LeadsOn kept anew → skip_of kept nothing anew sup stored e ≡ Ok records
    → visits_of kept anew sup stored e ≤ 1 + entries_seen stored records + e.level * blocks_seen records

-- Of each block the marked children are listed, and pairs are marked from those that went on up: of these the blocks moved, and each must be
-- marked. The id of a tree and an address have 64 bits.
pub record AreMoving (pairs : Pairs) (moving held went : Marks) (moved : ℕ → Bool) (under : Under) : Type 0 where
  pub narrow : AreNarrow pairs
  pub marks : AreMarkedFrom pairs held went no_mark moving
  pub gone : (tree address : ℕ) → went tree address ≡ true → moved address ≡ true
  pub must : (tree address : ℕ) → is_some (pairs tree address) ≡ true → went tree address ≡ true → held tree address ≡ true
  pub listed : AreListedBy pairs moving under

-- where blocks are kept by what is known of a tree as it was, each block that is walked below a kept one leads on
abbrev pub LeadsLaw : Type 0
LeadsLaw = (pairs : Pairs) (marked moving held went : Marks) (moved : ℕ → Bool) (under : Under)
    → AreMoving pairs moving held went moved under → LeadsOn (kept_of pairs marked moved under) (anew_of under)

-- no stop has moved
abbrev pub AreAtRest : (ℕ → Bool) → List Expect → Type 0
AreAtRest moved stops = AllByRecursion (λ s. moved s.address ≡ false) stops

-- the same, where blocks are kept at stops of which none has moved
abbrev pub OldLeadsLaw : Type 0
OldLeadsLaw = (pairs : Pairs) (moving held went : Marks) (moved : ℕ → Bool) (under : Under) (stops : List Expect)
    → AreMoving pairs moving held went moved under → AreAtRest moved stops → LeadsOn (kept_at pairs stops under) (anew_of under)

-- the same, where just the addresses of these stops pass a test
abbrev pub AmongLeadsLaw : Type 0
AmongLeadsLaw = (pairs : Pairs) (moving held went : Marks) (moved test : ℕ → Bool) (under : Under) (stops : List Expect)
    → AreMoving pairs moving held went moved under → AreAtRest moved stops → ((address : ℕ) → test address ≡ is_stop stops address)
    → LeadsOn (kept_among pairs test under) (anew_of under)

-- no stop has moved, where blocks are kept by what is known of a tree as it was
abbrev pub StopsRestLaw : Type 0
StopsRestLaw = (pairs : Pairs) (marked : Marks) (moved : ℕ → Bool) (under : Under) (anew : Anew) (sup : Super) (stored : Stored) (e : Expect)
    → AreAtRest moved (stops_of (kept_of pairs marked moved under) anew sup stored e)

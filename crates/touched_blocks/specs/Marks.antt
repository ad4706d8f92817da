-- Marks on pairs of a tree and a block.
use Rattle.std.specs.Prelude.{ℕ, ◌≡◌, Bool, true, false, not, ◌&&◌, ◌==◌, List, if◌then◌else◌}
use Rattle.std.specs.List.{list_any}
use Rattle.std.specs.Ordering.{nat_cmp, ordering_then}
use Rattle.std.specs.declared.cmp.Ordering.{Ordering}
use Rattle.std.specs.BTreeSet as set
use Rattle.live_index.specs.declared.live.Live.{Live}
use Rattle.touched_blocks.specs.declared.marks.Marks.{Marks}
use Rattle.touched_blocks.specs.declared.marks.PairPlace.{PairPlace}

-- which pairs have a mark, by tree and address
abbrev pub Marked : Type 0
Marked = ℕ → ℕ → Bool

-- the order in which marks are kept
abbrev pub by_pair : PairPlace → PairPlace → Ordering
by_pair x y = ordering_then (nat_cmp x.tree y.tree) (nat_cmp x.address y.address)

-- where the mark of a pair stands
abbrev pub pair_place : ℕ → ℕ → PairPlace
pair_place tree address = record { tree = tree; address = address }

-- the pairs that have one of these marks
unfoldable pub marked_by : Marks → Marked
marked_by marks tree address = set.contains by_pair marks.places (pair_place tree address)

-- how many pairs have one
unfoldable pub count_of : Marks → ℕ
count_of marks = set.btree_set_len marks.places

-- the pairs that a list of places has
abbrev pub marked_in : List PairPlace → Marked
marked_in places tree address = list_any (λ place. place.tree == tree && place.address == address) places

-- no mark
abbrev pub no_mark : Marked
no_mark tree address = false

-- whether a pair is that of a tree at an address
abbrev pub is_pair : ℕ → ℕ → Marked
is_pair t a tree address = t == tree && a == address

-- the pairs that a list of live pairs has, by tree and address
abbrev pub in_lives : List Live → Marked
in_lives lives tree address = list_any (λ live. is_pair live.tree live.address tree address) lives

-- each marked pair is one of these live pairs
abbrev pub AreAmong : Marked → List Live → Type 0
AreAmong marked lives = (tree address : ℕ) → marked tree address ≡ true → in_lives lives tree address ≡ true

-- these marks and that of one pair more
abbrev pub with_mark : Marked → ℕ → ℕ → Marked
with_mark marked t a tree address = if is_pair t a tree address then true else marked tree address

-- these marks but for others
abbrev pub left_of : Marked → Marked → Marked
left_of others marked tree address = marked tree address && not (others tree address)

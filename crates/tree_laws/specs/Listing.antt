-- How children are put into lists. It serves to state what private functions keep.
use Rattle.std.specs.Prelude.{ℕ, suc, ◌≡◌, true, List, [], ◌∷◌, Option, Some, None, if◌then◌else◌}
use Rattle.live_index.specs.Pairs.{Pairs}
use Rattle.live_index.specs.declared.live.Live.{Live}
use Rattle.touched_blocks.specs.Marking.{parent_of}
use Rattle.touched_blocks.specs.Marks.{is_pair}
use Rattle.tree_laws.specs.declared.told.Start.{Start}
use Rattle.tree_laws.specs.Keeping.{Marks, Under}
use Rattle.tree_laws.specs.Listed.{IsChild, is_before}

-- how many of the first of several children come before one
abbrev pub rank_of : Start → List Start → ℕ
rank_of start [] = 0
rank_of start (one ∷ starts) = if is_before one start then suc (rank_of start starts) else 0

-- children with one more at its place, where it does not stand there
abbrev pub with_start : Start → List Start → List Start
with_start start [] = start ∷ []
with_start start (one ∷ starts) =
    if is_before one start then one ∷ with_start start starts else
    if is_before start one then start ∷ one ∷ starts else one ∷ starts

-- the same, below the block of a tree at an address
abbrev pub with_child : Under → ℕ → ℕ → Start → Under
with_child under t parent start tree address =
    if is_pair t parent tree address then with_start start (under tree address) else under tree address

-- the pair of a tree at an address as the child of a block at another address, or none where it is no child
abbrev pub IsChildAt : Pairs → ℕ → ℕ → Option (ℕ × Start) → Type 0
IsChildAt pairs tree address None = (live up : Live) → pairs tree address ≡ Some live → parent_of pairs tree live ≡ Some up → ⊥
IsChildAt pairs tree address (Some child) =
    (child.1.pointer.address ≡ address)
    × ((marked : Marks) → marked tree address ≡ true → IsChild pairs marked tree child.0 child.1)

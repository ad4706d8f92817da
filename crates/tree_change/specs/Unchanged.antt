-- The live pairs of which two images have the same block. Such a pair is shared where no block below it is touched either.
use Rattle.std.specs.Prelude.{ℕ, Bool, false, not, ◌&&◌, ◌||◌, List}
use Rattle.std.specs.List.{filter}
use Rattle.verdict.specs.declared.place.Chunk.{Chunk}
use Rattle.live_index.specs.declared.live.Live.{Live}
use Rattle.touched_blocks.specs.Touched.{Written, stays_in_place, touches_block}
use Rattle.tree_laws.specs.Keeping.{AreListed, AreMarked, Marks, Under}
use Rattle.tree_laws.specs.LivePairs.{Walked, live_in}
use Rattle.tree_laws.specs.Shared.{is_shared_by}
use Rattle.tree_laws.specs.ShiftedLaw.{is_shifted}
use Rattle.tree_laws.specs.TableLaw.{Tree}

-- no block is touched
abbrev pub none_touched : ℕ → Bool
none_touched address = false

-- whether the block at an address stays as it is: it stands by some chunks where it stood by the old ones, and no write touches a byte of a copy
-- of it there
abbrev pub stays_unchanged : Walked → List Chunk → Written → ℕ → ℕ → Bool
stays_unchanged old chunks written end address =
    stays_in_place old.chunks chunks old.sup.nodesize end address && not (touches_block written old.chunks old.sup.nodesize end address)

-- whether it does not
abbrev pub changes_at : Walked → List Chunk → Written → ℕ → ℕ → Bool
changes_at old chunks written end address = not (stays_unchanged old chunks written end address)

-- whether a live pair is live in both images with the same level, generation and first key, and its own block stays as it is
abbrev pub is_unchanged : Walked → Walked → Written → ℕ → Live → Bool
is_unchanged old new written end = is_shared_by (stays_unchanged old new.chunks written end) none_touched old new

-- the pairs of one of the two images of which it is not so
abbrev pub changed_in : Walked → Walked → Written → ℕ → Walked → List Live
changed_in old new written end image = filter (λ live. not (is_unchanged old new written end live)) (live_in image.seen)

-- those of the new image of which it is so, and whose node above or greatest key was another
abbrev pub unchanged_shifted : Walked → Walked → Written → ℕ → List Live
unchanged_shifted old new written end =
    filter (λ live. is_unchanged old new written end live && is_shifted (live_in old.seen) live) (live_in new.seen)

-- just those blocks of an old tree are marked which do not stay as they are, or which are above one that does not; and the marked children are
-- listed
pub record ChangesListed (old : Walked) (chunks : List Chunk) (written : Written) (end : ℕ) (changing : Marks) (under : Under) (tree : Tree) : Type 0 where
  pub marks : AreMarked changing (changes_at old chunks written end) old.sup tree.0 tree.1
  pub lists : AreListed under changing old.sup tree.0 tree.1

-- pairs that have one of two marks
abbrev pub either_mark : Marks → Marks → Marks
either_mark some other tree address = some tree address || other tree address

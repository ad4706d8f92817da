-- The looks for all trees but the chunk tree.
use Rattle.std.proofs.Common.{◌≡◌, ℕ, ◌+◌, ◌≤◌, List, Ok, arith, subst, ◌∙◌}
use Rattle.std.specs.Prelude.{Option, Some, None, IfSome}
use Rattle.recon_disk.specs.declared.disk.Disk.{Ghosts}
use Rattle.volume_items.specs.declared.root_at.RootAt.{RootAt}
use Rattle.records.specs.Contents.{roots_fault}
use Rattle.tree_change.specs.Looks.{LooksAtMost, OthersLookAtMost, gone_all_looks_in, named_looks_in, root_looks_in}
use Rattle.tree_change.specs.Making.{IsAdded, MakesRoots, TellsRoots}
use Rattle.tree_change.specs.Walks.{Parts}
use Rattle.tree_change.specs.declared.sides.Sides.{Sides}
use Rattle.tree_change.specs.declared.trees.TreeParts.{TreeParts}

-- three sums behind one another
three_sums : (first one two last a b c : ℕ) → one ≤ first + a → two ≤ one + b → last ≤ two + c → last ≤ first + (a + b + c)
three_sums first one two last a b c x y z = omega (arith, x, y, z)

-- the looks for the root tree, for the trees that are named now and for those that are gone
pub others_few : {D L : Type 0} (sides : Sides L) (olds roots : List RootAt) (disk : Ghosts D) (start second third : D) (some one : TreeParts)
    (first at next last : ℕ) → disk.bytes second ≡ disk.bytes start → disk.bytes third ≡ disk.bytes second
    → TellsRoots disk start second some one sides olds (Ok roots)
    → LooksAtMost (disk.bytes start) first at (root_looks_in sides)
    → LooksAtMost (disk.bytes second) at next (named_looks_in sides olds roots)
    → LooksAtMost (disk.bytes third) next last (gone_all_looks_in sides roots olds)
    → OthersLookAtMost (disk.bytes start) first last sides olds
others_few sides olds roots disk start second third some one first at next last same_second same_third tells in_root in_named in_gone =
    all (disk.bytes start) tells in_root
    (subst (λ told. LooksAtMost told at next (named_looks_in sides olds roots)) same_second in_named)
    (subst (λ told. LooksAtMost told next last (gone_all_looks_in sides roots olds)) (same_third ∙ same_second) in_gone)
  where
    all : (told : Option (List ℕ)) → IfSome told (λ image. (parts : Parts) × MakesRoots sides olds image parts roots
        × (roots_fault sides.is.sup.now.compat_ro roots ≡ None) × IsAdded some one parts (disk.reads start) (disk.reads second))
        → LooksAtMost told first at (root_looks_in sides)
        → LooksAtMost told at next (named_looks_in sides olds roots) → LooksAtMost told next last (gone_all_looks_in sides roots olds)
        → OthersLookAtMost told first last sides olds
    all None makes a b c = tt
    all (Some image) makes a b c = (
      makes.0,
      roots,
      makes.1,
      three_sums first at next last (root_looks_in sides image) (named_looks_in sides olds roots image) (gone_all_looks_in sides roots olds image)
          a b c,
    )

-- The law of the walk that keeps blocks.
use Rattle.std.specs.Prelude.{◌≡◌, ℕ, zero, suc, ◌-◌, List, [], Some, Ok, if◌then◌else◌}
use Rattle.std.specs.List.{AllByRecursion}
use Rattle.verdict.specs.declared.key.Key.{Key}
use Rattle.super_reader.specs.declared.Super.{Super}
use Rattle.node_reader.specs.Stored.{Stored}
use Rattle.node_reader.specs.declared.expect.Expect.{Expect}
use Rattle.records.specs.Walk.{Records, behind, each, walk_of}
use Rattle.tree_laws.specs.Skips.{Anew, Kept, Told, is_below, own_of, skip_of, unkept}
use Rattle.records.specs.WalkLaw.{visited}

-- a walk is the own records of the blocks that it comes to, one after the other
abbrev pub WalkIsOwn : Type 0
WalkIsOwn = (sup : Super) (stored : Stored) (e : Expect) → walk_of sup stored e ≡ each (own_of sup stored) (visited sup stored e)

-- the records of blocks that are walked below one on a level: none below a leaf
abbrev pub anew_below : ℕ → (Expect → Records) → List Expect → Records
anew_below zero of next = Ok []
anew_below (suc level) of next = each of next

-- Blocks of a tree are kept soundly. The whole walk from a kept block on has a finding where the block's greatest key is not below the high key.
-- Where it is, the whole walk, without the records of kept blocks, is what is told of this one and the like of those that are listed
-- below it. And those are of the tree and on the next level.
pub record IsSound (tree : ℕ) (kept : Kept) (told : Told) (anew : Anew) (sup : Super) (stored : Stored) : Type 0 where
  pub gives : (e : Expect) (last : Key) → e.tree ≡ tree → kept e ≡ Some last
      → unkept kept told sup stored e
      ≡ (if is_below last e.high then behind (told e) (anew_below e.level (unkept kept told sup stored) (anew e)) else walk_of sup stored e)
  pub next : (e : Expect) → AllByRecursion (λ c. (c.level ≡ e.level - 1) × (c.tree ≡ e.tree)) (anew e)

-- where blocks are kept soundly, the walk that keeps them is the whole walk without their records, and has the same first finding
abbrev pub SkippingLaw : Type 0
SkippingLaw = (kept : Kept) (told : Told) (anew : Anew) (sup : Super) (stored : Stored) (e : Expect)
    → IsSound e.tree kept told anew sup stored → skip_of kept told anew sup stored e ≡ unkept kept told sup stored e

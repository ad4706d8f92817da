-- What a commit is to change, and the first finding of what the judged image holds.
use Rattle.std.specs.Prelude.{◌≡◌, ℕ, ◌+◌, ◌*◌, ◌≤◌, List, length, Result, Ok, Err}
use Rattle.std.specs.Ordering.{nat_cmp}
use Rattle.std.specs.FinMap.{FinMap}
use Rattle.verdict.specs.Image.{range}
use Rattle.write_cache.specs.Cache.{overlaid}
use Rattle.records.specs.Contents.{contents}
use Rattle.block_source.specs.declared.halt.Halt.{Halt}
use Rattle.block_source.specs.declared.halt.Halt.TheVariants.{Found, Disk, NoMemory}
use Rattle.commit_laws.specs.Commit.{Commit, IsCommit, Known}
use Rattle.change_records.specs.Made.{IsMade}
use Rattle.change_records.specs.declared.kept.Made.{Made}
use Rattle.commit_judge.specs.declared.plan.Plan.{Plan}

-- what a plan says that a commit changes
abbrev pub commit_in : Plan → Commit
commit_in plan = record { fresh = plan.sup; change = plan.change; changes = plan.changes.items; refs = plan.refs.items }

-- the plan is that of the judged image: its superblock place, what changes, and at most two reads for each block that is not shared
pub record IsPlanOf (image : List ℕ) (pending : FinMap nat_cmp ℕ) (k : Known) (before after : ℕ) (plan : Plan) : Type 0 where
  pub raw : plan.raw ≡ range 65536 4096 (overlaid pending 0 image)
  pub commit : IsCommit image pending k (commit_in plan)
  pub reads : after ≤ before + 2 * (length plan.change.old_blocks.items + length plan.change.new_blocks.items)

-- a plan, or the first finding of what the judged image holds
abbrev pub IsPlanned : List ℕ → FinMap nat_cmp ℕ → Known → ℕ → ℕ → Result Plan Halt → Type 0
IsPlanned image pending k before after (Ok plan) = IsPlanOf image pending k before after plan
IsPlanned image pending k before after (Err (Found finding)) = contents (overlaid pending 0 image) ≡ Err finding
IsPlanned image pending k before after (Err Disk) = Unit {0}
IsPlanned image pending k before after (Err NoMemory) = Unit {0}

-- what the changes of a plan make of the flags of inodes
abbrev pub IsMadeOf : Plan → Made → Type 0
IsMadeOf plan made = IsMade plan.change.old_items.items plan.change.new_items.items plan.changes.items made

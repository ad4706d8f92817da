use Rattle.std.proofs.Common.{◌≡◌, take}
use Rattle.commit_laws.specs.Paired.{gone_items}
use Rattle.commit_laws.specs.Steps.{all_posts, change_records}
use Rattle.commit_judge.proofs.posts.post_gone.Given as goal

-- the superblock, the blocks and what the changes so far take away have posted
abbrev pub invariant-loop-change : goal.invariant-loop-change
invariant-loop-change g l =
    l.into ≡ all_posts (g.C.Ctx.context l.ctx) (change_records l.sup l.blocks (gone_items l.items (take l.change-index l.changes)))

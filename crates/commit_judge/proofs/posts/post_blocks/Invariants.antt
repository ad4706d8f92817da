use Rattle.std.proofs.Common.{◌≡◌, ◌∷◌, map, take}
use Rattle.records.specs.Contents.{super_record}
use Rattle.commit_laws.specs.Same.{live_record}
use Rattle.commit_laws.specs.Steps.{all_posts}
use Rattle.commit_judge.proofs.posts.post_blocks.Given as goal

-- the superblock and the blocks so far have posted
abbrev pub invariant-loop-block : goal.invariant-loop-block
invariant-loop-block g l = l.into ≡ all_posts (g.C.Ctx.context l.ctx) (super_record l.sup ∷ map live_record (take l.block-index l.blocks))

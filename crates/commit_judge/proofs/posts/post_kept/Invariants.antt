use Rattle.std.proofs.Common.{◌≡◌, ◌++◌, flat_map, take}
use Rattle.commit_laws.specs.Kept.{placed_postings}
use Rattle.commit_judge.proofs.posts.post_kept.Given as goal

-- those so far have posted
abbrev pub invariant-loop-at : goal.invariant-loop-at
invariant-loop-at g l = l.into ≡ l.fn.into ++ flat_map (placed_postings (g.C.Ctx.context l.ctx)) (take l.at-index l.refs)

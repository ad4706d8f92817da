use Rattle.std.proofs.Common.{drop}
use Rattle.tree_change.specs.Looks.{gone_all_looks_in}
use Rattle.tree_change.specs.Making.{gone_parts_in}
use Rattle.tree_change.proofs.Adding.{PartsSoFar}
use Rattle.tree_change.proofs.Looking.{LooksSoFar}
use Rattle.tree_change.proofs.trees.change_all_gone.Given as goal

-- the parts of the trees so far are added, and what is left of the trees gives the others
abbrev pub invariant-loop-root : goal.invariant-loop-root
invariant-loop-root g l = record {
  parts : PartsSoFar g.D.Disk l.fn.disk l.disk l.fn.all l.all
      (gone_parts_in l.sides l.news (drop l.root-index l.olds)) (gone_parts_in l.sides l.news l.olds);
  looks : LooksSoFar (g.D.Disk.bytes l.fn.disk) l.fn.steps l.steps
      (gone_all_looks_in l.sides l.news (drop l.root-index l.olds)) (gone_all_looks_in l.sides l.news l.olds);
}

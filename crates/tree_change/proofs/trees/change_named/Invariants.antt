use Rattle.std.proofs.Common.{drop}
use Rattle.live_index.specs.Table.{pairs_of}
use Rattle.tree_change.specs.Looks.{named_looks_in}
use Rattle.tree_change.specs.Making.{named_parts_in}
use Rattle.tree_change.specs.Stays.{RootsStand}
use Rattle.tree_change.proofs.Adding.{PartsSoFarWhere}
use Rattle.tree_change.proofs.Looking.{LooksSoFar}
use Rattle.tree_change.proofs.trees.change_named.Given as goal

-- the parts of the trees so far are added, and what is left of the trees gives the others, where the table has the old roots
abbrev pub invariant-loop-root : goal.invariant-loop-root
invariant-loop-root g l = record {
  parts : PartsSoFarWhere (RootsStand (pairs_of l.sides.table.now) l.olds) g.D.Disk l.fn.disk l.disk l.fn.all l.all
      (named_parts_in l.sides l.olds (drop l.root-index l.news)) (named_parts_in l.sides l.olds l.news);
  looks : LooksSoFar (g.D.Disk.bytes l.fn.disk) l.fn.steps l.steps
      (named_looks_in l.sides l.olds (drop l.root-index l.news)) (named_looks_in l.sides l.olds l.news);
}

-- What the two walks of a tree give is what changes in it, whether the old tree is known or nothing is.
use Rattle.std.proofs.Common.{inl, inr, ◌⊎◌}
use Rattle.tree_change.specs.OneTree.{GivesTree, KnowsNothing, KnowsTree, OneTreeLaw}
use Rattle.tree_change.proofs.Nothing.{nothing_tree}
use Rattle.tree_change.proofs.OneTree.{alike_tree}

pub one_tree : OneTreeLaw
one_tree image pending old trees pairs is known before now t = by t.known_is
  where
    by : KnowsTree image pending old is known before ⊎ KnowsNothing old is known → GivesTree image pending old pairs is known before now
    by (inl k) = alike_tree image pending old trees pairs is known before now t.has t.pairs_are t.over t.root t.was k
    by (inr k) = nothing_tree image pending old trees pairs is known before now t.has t.pairs_are t.over t.root t.was k

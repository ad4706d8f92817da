-- All that changed, with the marked pairs that are left, is all that is not shared: with the items.
use Rattle.tree_change.specs.Rising.{RisenLaw}
use Rattle.tree_change.proofs.Risen.{risen}
use Rattle.tree_change.proofs.RisenItems.{items_new, items_old}
use Rattle.tree_change.proofs.RisenShared.{shared_is}

pub risen_law : RisenLaw
risen_law image pending old new trees afters pairs marked places parts made before after was is pairs_are marks from all =
    let told = shared_is image pending old new trees was marked marks.trees_are in
    risen image pending old new trees afters pairs marked places parts made before after was is pairs_are marks from all
    (items_old image pending old new trees afters pairs marked was is marks told)
    (items_new image pending old new trees afters pairs marked was is marks told)

use Rattle.extent_tally.specs.Held.{extents_apart}
use Rattle.name_tally.specs.Names.{names_apart}
use Rattle.inode_tally.specs.Held.{inodes_apart}
use Rattle.account_tally.proofs.Parts.{adds_inodes}
use Rattle.account_tally.proofs.ShownSums.{on_ok}
use Rattle.account_tally.proofs.apart.ApartPoster.put_target.Goals as goal

pub returns : goal.returns
returns c =
    let old = c.args.self.now in
    record {
      sums = on_ok c.add_targets.result c.add_targets.ensures (λ adds.
          adds_inodes (extents_apart old.extents) (names_apart old.names) (inodes_apart old.inodes) (inodes_apart c.add_targets.new.self) old.waiting c.add_targets.new.into _ adds);
    }

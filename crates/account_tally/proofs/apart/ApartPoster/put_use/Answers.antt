use Rattle.extent_tally.specs.Held.{extents_apart}
use Rattle.name_tally.specs.Names.{names_apart}
use Rattle.inode_tally.specs.Held.{inodes_apart}
use Rattle.account_tally.proofs.Parts.{adds_extents}
use Rattle.account_tally.proofs.ShownSums.{on_ok}
use Rattle.account_tally.proofs.apart.ApartPoster.put_use.Goals as goal

pub returns : goal.returns
returns c =
    let old = c.args.self.now in
    record {
      sums = on_ok c.put_use.result c.put_use.ensures (λ adds.
          adds_extents (extents_apart old.extents) (extents_apart c.put_use.new.self) (names_apart old.names) (inodes_apart old.inodes) old.waiting c.put_use.new.into _ adds);
    }

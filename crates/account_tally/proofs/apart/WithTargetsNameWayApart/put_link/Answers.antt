use Rattle.extent_tally.specs.Held.{extents_apart}
use Rattle.name_tally.specs.Names.{names_apart}
use Rattle.inode_tally.specs.Held.{inodes_apart}
use Rattle.account_tally.proofs.Parts.{adds_both}
use Rattle.account_tally.proofs.ShownSums.{on_ok}
use Rattle.account_tally.proofs.apart.WithTargetsNameWayApart.put_link.Goals as goal

pub returns : goal.returns
returns c =
    let old = c.args.into.now in
    record {
      sums = on_ok c.take_link.result c.take_link.ensures (λ adds.
          adds_both (extents_apart old.extents) (names_apart old.names) (names_apart c.take_link.new.self) (inodes_apart old.inodes) (inodes_apart c.take_link.new.inodes)
          old.waiting c.take_link.new.into _ adds);
    }

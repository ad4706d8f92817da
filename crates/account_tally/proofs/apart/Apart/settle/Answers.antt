use Rattle.extent_tally.specs.Held.{extents_apart, is_of_extents}
use Rattle.name_tally.specs.Names.{names_apart}
use Rattle.inode_tally.specs.Held.{inodes_apart, is_of_inodes}
use Rattle.extent_tally.proofs.Settled.{apart_none}
use Rattle.inode_tally.proofs.Aside.{apart_of_others}
use Rattle.account_tally.proofs.KindsApart.{of_inodes}
use Rattle.account_tally.proofs.Parts.{brought}
use Rattle.account_tally.proofs.ShownSums.{on_ok}
use Rattle.account_tally.proofs.apart.Apart.settle.Goals as goal

pub returns : goal.returns
returns c =
    let extents = c.args.self.now.extents in
    let names = c.args.self.now.names in
    let inodes = c.args.self.now.inodes in
    on_ok c.settle-3.result c.settle-3.ensures (λ third.
    brought (extents_apart extents) (names_apart names) (inodes_apart inodes) is_of_extents is_of_inodes c.args.rest.now c.settle.new.rest c.settle-2.new.rest c.settle-3.new.rest
    c.in_ok-settle.ensures c.in_ok-settle-2.ensures third
    (λ a is n. apart_none extents a n is) (λ a is n. apart_of_others inodes a n is) of_inodes)

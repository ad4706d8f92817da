use Rattle.std.proofs.Common.{◌∷◌, []}
use Rattle.fs_items.specs.Lent.{name_fields}
use Rattle.records.specs.DirPostings.{link_postings}
use Rattle.name_tally.specs.Names.{link_of}
use Rattle.name_tally.specs.Slots.{slot_sums}
use Rattle.name_tally.proofs.Claims.{at_then, keeps_as, linked_is}
use Rattle.name_tally.proofs.Sums.{keeps_none, same_then}
use Rattle.accounts.specs.Lent.{to}
use Rattle.name_tally.proofs.slot.NameSlot.add_link.Goals as goal

pub returns-then-not-claim : goal.returns-then-not-claim
returns-then-not-claim c =
    keeps_none _ _ c.claim.ensures.same

pub returns-then-not-claim_index : goal.returns-then-not-claim_index
returns-then-not-claim_index c =
    keeps_none (slot_sums c.args.self.now) (slot_sums c.claim_index.new.self)
    (same_then (slot_sums c.args.self.now) (slot_sums c.claim.new.self) (slot_sums c.claim_index.new.self) c.claim.ensures.same
    c.claim_index.ensures.same)

pub returns : goal.returns
returns c =
    let name = name_fields c.args.name.now in
    let was = c.claim.new.self in
    let mid = c.claim_index.new.self in
    let at = at_then was mid c.args.tree c.args.ino name.parent name.name
    (c.claim.ensures.at c.if-not-claim.false) c.claim_index.ensures.at in
    keeps_as (slot_sums c.args.self.now) (slot_sums mid) (slot_sums c.more_linked.new.self) c.more_linked.result
    (to (link_of mid) 1 1 ∷ []) (link_postings c.args.tree c.args.ino name)
    (same_then (slot_sums c.args.self.now) (slot_sums c.claim.new.self) (slot_sums c.claim_index.new.self) c.claim.ensures.same
    c.claim_index.ensures.same)
    (linked_is mid c.args.tree c.args.ino name at (c.claim_index.ensures.index c.if-not-claim_index.false))
    c.more_linked.ensures

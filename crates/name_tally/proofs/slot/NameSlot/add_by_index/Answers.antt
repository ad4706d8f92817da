use Rattle.std.proofs.Common.{◌∙◌, ◌∷◌, ◌++◌}
use Rattle.fs_items.specs.Lent.{entry_fields}
use Rattle.records.specs.DirPostings.{indexed_postings}
use Rattle.records.specs.InodePostings.{target_postings}
use Rattle.name_tally.specs.Names.{entry_of, leads, link_of}
use Rattle.name_tally.specs.Slots.{slot_sums}
use Rattle.name_tally.proofs.Claims.{at_then, indexed_is, keeps_as}
use Rattle.name_tally.proofs.Sums.{keeps_none, same_then}
use Rattle.accounts.specs.Lent.{to}
use Rattle.name_tally.proofs.slot.NameSlot.add_by_index.Goals as goal

pub returns-then-not-claim_entry : goal.returns-then-not-claim_entry
returns-then-not-claim_entry c =
    keeps_none _ _ c.claim_entry.ensures.same

pub returns-then-not-claim_index : goal.returns-then-not-claim_index
returns-then-not-claim_index c =
    keeps_none (slot_sums c.args.self.now) (slot_sums c.claim_index.new.self)
    (same_then (slot_sums c.args.self.now) (slot_sums c.claim_entry.new.self)
    (slot_sums c.claim_index.new.self) c.claim_entry.ensures.same c.claim_index.ensures.same)

pub returns : goal.returns
returns c =
    let entry = entry_fields c.args.entry.now in
    let was = c.claim_entry.new.self in
    let mid = c.claim_index.new.self in
    let at = at_then was mid c.args.tree entry.location.objectid c.args.dir entry.name
    (c.claim_entry.ensures.at c.if-not-claim_entry.false) c.claim_index.ensures.at in
    keeps_as (slot_sums c.args.self.now) (slot_sums mid) (slot_sums c.more_indexed.new.self) c.more_indexed.result
    (to (entry_of mid) 1 1 ∷ to (link_of mid) 0 1 ∷ leads mid.tree mid.ino mid.sort 1)
    (indexed_postings c.args.tree c.args.dir c.args.index entry ++ target_postings c.args.tree entry)
    (same_then (slot_sums c.args.self.now) (slot_sums c.claim_entry.new.self)
    (slot_sums c.claim_index.new.self) c.claim_entry.ensures.same c.claim_index.ensures.same)
    (indexed_is mid c.args.tree c.args.dir c.args.index entry at (c.claim_index.ensures.sort
    ∙ c.claim_entry.ensures.sort c.if-not-claim_entry.false)
    (c.claim_index.ensures.index c.if-not-claim_index.false) (c.claim_entry.ensures.kind c.if-not-claim_entry.false))
    c.more_indexed.ensures

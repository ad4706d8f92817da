use Rattle.std.proofs.Common.{◌∷◌, ◌++◌}
use Rattle.fs_items.specs.Lent.{entry_fields}
use Rattle.records.specs.DirPostings.{hashed_postings}
use Rattle.records.specs.InodePostings.{target_postings}
use Rattle.name_tally.specs.Names.{entry_of, leads}
use Rattle.name_tally.specs.Slots.{slot_sums}
use Rattle.name_tally.proofs.Claims.{hashed_is, keeps_as}
use Rattle.name_tally.proofs.Sums.{keeps_none}
use Rattle.accounts.specs.Lent.{to}
use Rattle.name_tally.proofs.slot.NameSlot.add_by_hash.Goals as goal

pub returns-then-not-claim_entry : goal.returns-then-not-claim_entry
returns-then-not-claim_entry c =
    keeps_none _ _ c.claim_entry.ensures.same

pub returns : goal.returns
returns c =
    let entry = entry_fields c.args.entry.now in
    let mid = c.claim_entry.new.self in
    keeps_as (slot_sums c.args.self.now) (slot_sums mid) (slot_sums c.more_hashed.new.self) c.more_hashed.result
    (to (entry_of mid) 0 1 ∷ leads mid.tree mid.ino mid.sort 1)
    (hashed_postings c.args.tree c.args.dir entry ++ target_postings c.args.tree entry) c.if-not-claim_entry.ensures.same
    (hashed_is mid c.args.tree c.args.dir entry (c.claim_entry.ensures.at c.if-not-claim_entry.false)
    (c.claim_entry.ensures.sort c.if-not-claim_entry.false) (c.claim_entry.ensures.kind c.if-not-claim_entry.false))
    c.more_hashed.ensures

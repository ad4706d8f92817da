use Rattle.fs_items.specs.Lent.{dir_in, entries_left}
use Rattle.accounts.proofs.Behind.{Leaves}
use Rattle.records.specs.InodePostings.{own_entry_postings}
use Rattle.inode_rules.proofs.rows.post_own_entries.Given as goal

-- what posts those that are left posts all
abbrev pub invariant-loop-entry : goal.invariant-loop-entry
invariant-loop-entry g l =
    Leaves g.P.Poster.Leaves (own_entry_postings l.tree l.item.key.objectid) l.fn.into l.into (entries_left l.entry-iterator) (dir_in l.item).entries

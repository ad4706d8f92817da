use Rattle.fs_items.specs.Lent.{inode_ref_in, names_left}
use Rattle.records.specs.InodePostings.{inode_name_postings}
use Rattle.accounts.proofs.Behind.{Leaves}
use Rattle.inode_rules.proofs.rows.post_names.Given as goal

-- what posts those that are left posts all
abbrev pub invariant-loop-name : goal.invariant-loop-name
invariant-loop-name g l =
    Leaves g.P.Poster.Leaves (inode_name_postings l.tree l.item.key.objectid) l.fn.into l.into (names_left l._name-iterator) (inode_ref_in l.item).names

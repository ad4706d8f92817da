use Rattle.fs_items.specs.Lent.{inode_ref_in, names_left}
use Rattle.records.specs.DirPostings.{link_postings}
use Rattle.accounts.proofs.Behind.{Leaves}
use Rattle.dir_rules.proofs.entries.post_links.Given as goal

-- what posts those that are left posts all
abbrev pub invariant-loop-name : goal.invariant-loop-name
invariant-loop-name g l =
    Leaves g.P.Poster.Leaves (link_postings l.tree l.item.key.objectid) l.fn.into l.into (names_left l.name-iterator) (inode_ref_in l.item).names

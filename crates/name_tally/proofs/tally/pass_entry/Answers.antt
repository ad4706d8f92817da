use Rattle.fs_items.specs.Lent.{entry_fields}
use Rattle.accounts.proofs.Apart.{adds_listed, adds_then}
use Rattle.inode_tally.specs.Held.{inodes_apart}
use Rattle.records.specs.DirPostings.{dir_entry_postings}
use Rattle.records.specs.InodePostings.{target_postings}
use Rattle.verdict.proofs.Answers.{on_ok}
use Rattle.name_tally.proofs.tally.pass_entry.Goals as goal

pub returns : goal.returns
returns c =
    let entry = entry_fields c.args.entry.now in
    let old = inodes_apart c.args.inodes.now in
    on_ok c.tell_entry.result c.tell_entry.ensures
    (adds_then old old (inodes_apart c.tell_entry.new.inodes) c.args.into.now c.post_entry.new.into c.tell_entry.new.into
    (dir_entry_postings c.args.tree c.args.key entry) (target_postings c.args.tree entry)
    (adds_listed old c.args.into.now c.post_entry.new.into (dir_entry_postings c.args.tree c.args.key entry)
    c.in_ok-post_entry.ensures.all))

use Rattle.std.proofs.Common.{[]}
use Rattle.fs_items.specs.Lent.{name_fields}
use Rattle.records.specs.DirPostings.{link_postings}
use Rattle.accounts.proofs.Apart.{adds_listed}
use Rattle.inode_tally.specs.Held.{inodes_apart}
use Rattle.name_tally.specs.Names.{both, names_apart}
use Rattle.name_tally.specs.Slots.{led_in}
use Rattle.name_tally.proofs.Sums.{adds_passed, adds_told, but_same}
use Rattle.verdict.proofs.Answers.{on_ok}
use Rattle.name_tally.proofs.tally.NameTally.take_link.Goals as goal

pub returns-then-name-gt-NAME_SIZE : goal.returns-then-name-gt-NAME_SIZE
returns-then-name-gt-NAME_SIZE c =
    on_ok c.post_link.result c.post_link.ensures.all
    (adds_listed (both c.args.self.now c.args.inodes.now) c.args.into.now c.post_link.new.into
    (link_postings c.args.tree c.args.ino (name_fields c.args.name.now)))

pub returns-in-Some : goal.returns-in-Some
returns-in-Some c =
    let old = names_apart c.args.self.now in
    let new = names_apart c.keep_link.new.self in
    let row = link_postings c.args.tree c.args.ino (name_fields c.args.name.now) in
    let led = led_in c.in-Some.led in
    on_ok c.tell.result c.tell.ensures
    (adds_told old new (inodes_apart c.args.inodes.now) (inodes_apart c.tell.new.inodes) c.args.into.now c.tell.new.into led row
    (but_same old (names_apart c.spot.new.self) new led row c.in_ok-spot.ensures c.in-Some.ensures))

pub returns-in-None : goal.returns-in-None
returns-in-None c =
    let old = names_apart c.args.self.now in
    let new = names_apart c.keep_link.new.self in
    let inodes = inodes_apart c.args.inodes.now in
    let row = link_postings c.args.tree c.args.ino (name_fields c.args.name.now) in
    on_ok c.post_link-in-None.result c.post_link-in-None.ensures.all (λ is.
    adds_passed old new inodes inodes c.args.into.now c.post_link-in-None.new.into row
    (but_same old (names_apart c.spot.new.self) new [] [] c.in_ok-spot.ensures c.in-None.ensures)
    (adds_listed inodes c.args.into.now c.post_link-in-None.new.into row is))

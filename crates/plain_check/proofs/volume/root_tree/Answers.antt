use Rattle.std.proofs.Common.{sym, ◌∙◌, Some, None}
use Rattle.records.specs.Walk.{walk_in}
use Rattle.plain_check.proofs.Counting.{told_few_behind}
use Rattle.plain_check.proofs.Trees.{roots_kept, roots_told}
use Rattle.plain_check.proofs.volume.root_tree.Goals as goal

pub returns-in-Some-clause-gives : goal.returns-in-Some-clause-gives
returns-in-Some-clause-gives g c =
    let volume = c.args.volume.now in
    let both = c.walk_into.new.into in
    roots_told (g.D.Disk.bytes c.args.disk.now) volume.cache.now volume.sup.now volume.map.now c.top_root.result c.new.result.items.items c.args.kept both.first.items.items c.deref.result.now both.second
    (Some c.in-Some.found) c.new.ensures c.top_root.ensures c.in_ok-walk_into.ensures.taken (cc (c.deref.ensures.value)) (sym c.in-Some.is ∙ c.in_ok-found.ensures)

pub returns-in-None-clause-gives : goal.returns-in-None-clause-gives
returns-in-None-clause-gives g c =
    let volume = c.args.volume.now in
    let both = c.walk_into.new.into in
    roots_told (g.D.Disk.bytes c.args.disk.now) volume.cache.now volume.sup.now volume.map.now c.top_root.result c.new.result.items.items c.args.kept both.first.items.items c.deref.result.now both.second
    None c.new.ensures c.top_root.ensures c.in_ok-walk_into.ensures.taken (cc (c.deref.ensures.value)) (sym c.in-None.is ∙ c.in_ok-found.ensures)

pub returns-in-None-clause-seen : goal.returns-in-None-clause-seen
returns-in-None-clause-seen g c =
    let volume = c.args.volume.now in
    let both = c.walk_into.new.into in
    roots_kept (g.D.Disk.bytes c.args.disk.now) volume.cache.now volume.sup.now volume.map.now c.top_root.result c.new.result.items.items c.args.kept both.first.items.items both.second
    c.new.ensures c.top_root.ensures c.in_ok-walk_into.ensures.taken

pub returns-in-None-clause-reads : goal.returns-in-None-clause-reads
returns-in-None-clause-reads g c =
    let volume = c.args.volume.now in
    let both = c.walk_into.new.into in
    told_few_behind (g.D.Disk.bytes c.args.disk.now) volume (g.D.Disk.reads c.args.disk.now) (g.D.Disk.reads c.walk_into.new.disk) (walk_in volume.sup.now volume.map.now c.top_root.result) c.args.kept both.second
    c.in_ok-walk_into.ensures.reads
    (rw c.top_root.ensures (roots_kept (g.D.Disk.bytes c.args.disk.now) volume.cache.now volume.sup.now volume.map.now c.top_root.result c.new.result.items.items c.args.kept both.first.items.items both.second
    c.new.ensures c.top_root.ensures c.in_ok-walk_into.ensures.taken))

use Rattle.std.proofs.Common.{sym, ◌∙◌, Some, None}
use Rattle.records.specs.Walk.{walk_in}
use Rattle.plain_check.proofs.Counting.{told_few_of}
use Rattle.plain_check.proofs.Trees.{chunk_kept, map_told}
use Rattle.plain_check.proofs.volume.chunk_tree.Goals as goal

pub returns-in-Some-clause-gives : goal.returns-in-Some-clause-gives
returns-in-Some-clause-gives g c =
    let volume = c.args.volume.now in
    let both = c.walk_into.new.into in
    map_told (g.D.Disk.bytes c.args.disk.now) volume.cache.now volume.sup.now volume.map.now c.chunk_root.result c.new.result.map c.new-2.result both.first.map both.second
    (g.D.Disk.len c.args.disk.now) volume.end (Some c.in-Some.found) c.new.ensures c.new-2.ensures c.chunk_root.ensures c.in_ok-walk_into.ensures.taken
    (g.met.D.Disk.told_length c.args.disk.now) c.requires.end (sym c.in-Some.is ∙ c.map_fault.ensures)

pub returns-in-None-clause-gives : goal.returns-in-None-clause-gives
returns-in-None-clause-gives g c =
    let volume = c.args.volume.now in
    let both = c.walk_into.new.into in
    map_told (g.D.Disk.bytes c.args.disk.now) volume.cache.now volume.sup.now volume.map.now c.chunk_root.result c.new.result.map c.new-2.result both.first.map both.second
    (g.D.Disk.len c.args.disk.now) volume.end None c.new.ensures c.new-2.ensures c.chunk_root.ensures c.in_ok-walk_into.ensures.taken
    (g.met.D.Disk.told_length c.args.disk.now) c.requires.end (sym c.in-None.is ∙ c.map_fault.ensures)

pub returns-in-None-clause-seen : goal.returns-in-None-clause-seen
returns-in-None-clause-seen g c =
    let volume = c.args.volume.now in
    let both = c.walk_into.new.into in
    chunk_kept (g.D.Disk.bytes c.args.disk.now) volume.cache.now volume.sup.now volume.map.now c.chunk_root.result c.new.result.map c.new-2.result both.first.map both.second
    c.new.ensures c.new-2.ensures c.chunk_root.ensures c.in_ok-walk_into.ensures.taken

pub returns-in-None-clause-reads : goal.returns-in-None-clause-reads
returns-in-None-clause-reads g c =
    let volume = c.args.volume.now in
    let both = c.walk_into.new.into in
    told_few_of (g.D.Disk.bytes c.args.disk.now) volume (g.D.Disk.reads c.args.disk.now) (g.D.Disk.reads c.walk_into.new.disk) (walk_in volume.sup.now volume.map.now c.chunk_root.result) both.second
    c.in_ok-walk_into.ensures.reads
    (rw c.chunk_root.ensures (chunk_kept (g.D.Disk.bytes c.args.disk.now) volume.cache.now volume.sup.now volume.map.now c.chunk_root.result c.new.result.map c.new-2.result both.first.map both.second
    c.new.ensures c.new-2.ensures c.chunk_root.ensures c.in_ok-walk_into.ensures.taken))

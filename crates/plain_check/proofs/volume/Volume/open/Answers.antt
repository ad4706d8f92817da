use Rattle.plain_check.proofs.Counting.{open_few}
use Rattle.plain_check.proofs.Opening.{opened_by}
use Rattle.plain_check.proofs.volume.Volume.open.Goals as goal

pub returns-clause-gives : goal.returns-clause-gives
returns-clause-gives g c =
    let top = c.in_ok-top in
    let chunks = c.in_ok-map in
    let roots = c.in_ok-roots in
    opened_by (g.D.Disk.bytes c.args.disk.now) (g.D.Disk.bytes c.read_superblock.new.disk) (g.D.Disk.bytes c.chunk_tree.new.disk) c.args.cache.now
    top.top.sup top.top.raw c.in_ok-array.array chunks.field-0.first.map roots.field-0.first.items.items chunks.field-0.second roots.field-0.second
    top.ensures.kept.bytes chunks.ensures.kept.bytes top.ensures.gives top.ensures.raw c.in_ok-array.ensures chunks.ensures.gives chunks.ensures.seen roots.ensures.gives roots.ensures.seen

pub returns-clause-reads : goal.returns-clause-reads
returns-clause-reads g c =
    let top = c.in_ok-top in
    let chunks = c.in_ok-map in
    let roots = c.in_ok-roots in
    open_few (g.D.Disk.bytes c.args.disk.now) (g.D.Disk.bytes c.read_superblock.new.disk) (g.D.Disk.bytes c.chunk_tree.new.disk)
    (g.D.Disk.reads c.args.disk.now) (g.D.Disk.reads c.read_superblock.new.disk) (g.D.Disk.reads c.chunk_tree.new.disk) (g.D.Disk.reads c.root_tree.new.disk)
    chunks.field-0.second roots.field-0.second top.ensures.kept.bytes chunks.ensures.kept.bytes top.ensures.reads chunks.ensures.reads roots.ensures.reads

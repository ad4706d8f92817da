use Rattle.block_source.proofs.Covering.{covers_is}
use Rattle.block_source.proofs.read.is_covered.Goals as goal

pub returns : goal.returns
returns c = covers_is c.args.cache.now c.args.at c.args.len c.covers.result c.covers.ensures

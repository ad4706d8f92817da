use Rattle.std.proofs.Common.{◌-◌, ◌<◌, length, take, drop}
use Rattle.verdict.proofs.Lists.{all_behind}
use Rattle.volume_items.specs.ChunkRow.{stripes_of}
use Rattle.volume_items.proofs.Rows.{stripes_step, stripes_fewer}
use Rattle.volume_items.proofs.chunk.StripesIterator.next.Goals as goal

pub returns-clause-steps : goal.returns-clause-steps
returns-clause-steps c = stripes_step _ _ _ _ c.if-self-lt32.false c.get_u64-devid.ensures c.get_u64-physical.ensures (all_behind 32 c.args.self.now.left.now)

pub returns-clause-goes : goal.returns-clause-goes
returns-clause-goes c =
    let fewer : length (stripes_of (take (length c.args.self.now.left.now - 32) (drop 32 c.args.self.now.left.now))) < length (stripes_of c.args.self.now.left.now) = stripes_fewer _ c.if-self-lt32.false in
    record { on = λ _. (tt, tt, fewer); keeps = tt; rests = λ _. tt }

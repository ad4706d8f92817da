use Rattle.std.proofs.Common.{◌∙◌, length, arith}
use Rattle.fs_items.specs.InodeRefRow.{name_rows, name_end}
use Rattle.fs_items.proofs.Places.{found_here, found_next, found_none}
use Rattle.fs_items.proofs.FileNames.{names_move}
use Rattle.fs_items.proofs.inode_ref.names_fault.Goals as goal

pub returns-in-Err : goal.returns-in-Err
returns-in-Err c =
    found_here (name_rows c.args.at.now c.args.key c.args.bytes.now) (name_end c.args.key c.args.bytes.now) (length c.args.bytes.now) c.loop-end.place c.in-Err.found (c.in-Err.ensures {u = tt}).found
    ∙ c.loop-end.invariant.decides

pub returns-then-end-bytes : goal.returns-then-end-bytes
returns-then-end-bytes c =
    found_none (name_rows c.args.at.now c.args.key c.args.bytes.now) (name_end c.args.key c.args.bytes.now) (length c.args.bytes.now) c.loop-end.place (names_move c.args.key c.args.bytes.now) (c.in-Ok.ensures {u = tt}).found (omega (arith, (c.in-Ok.ensures {u = tt}).end.0, c.if-end-bytes.true))
    ∙ c.loop-end.invariant.decides

pub loop-end-preserved : goal.loop-end-preserved
loop-end-preserved c = record {
  decides =
      found_next (name_rows c.args.at.now c.args.key c.args.bytes.now) (name_end c.args.key c.args.bytes.now) (length c.args.bytes.now) c.loop-end.place c.in-Ok.end (names_move c.args.key c.args.bytes.now) (c.in-Ok.ensures {u = tt}).found (c.in-Ok.ensures {u = tt}).end.0 (omega (arith, (c.in-Ok.ensures {u = tt}).end.1))
      ∙ c.loop-end.invariant.decides;
  within = (c.in-Ok.ensures {u = tt}).end.1;
}

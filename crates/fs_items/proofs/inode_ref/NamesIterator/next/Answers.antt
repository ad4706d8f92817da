use Rattle.std.proofs.Common.{◌+◌, ◌<◌, length, arith}
use Rattle.fs_items.specs.InodeRefRow.{names_from}
use Rattle.fs_items.proofs.FileNames.{names_none, names_more, names_fewer}
use Rattle.fs_items.proofs.inode_ref.NamesIterator.next.Goals as goal

pub returns-in_default-clause-steps : goal.returns-in_default-clause-steps
returns-in_default-clause-steps c =
    let none = names_none c.args.self.now.key c.args.self.now.bytes.now c.args.self.now.place (omega (arith, c.in_default.ensures {u = tt})) in
    (none, none)

pub returns-then-size-bytes-clause-steps : goal.returns-then-size-bytes-clause-steps
returns-then-size-bytes-clause-steps c =
    let none = names_none c.args.self.now.key c.args.self.now.bytes.now c.args.self.now.place (omega (arith, c.name_size-size.ensures, (c.in-Some.ensures {u = tt}).1)) in
    (none, none)

pub returns-clause-steps : goal.returns-clause-steps
returns-clause-steps c = names_more c.args.self.now.key c.args.self.now.bytes.now c.args.self.now.place c.in-Some.start c.name_size-size.result _ (c.in-Some.ensures {u = tt}).1 c.name_size-size.ensures c.name_at.ensures (omega (arith, (c.in-Some.ensures {u = tt}).0, (c.in-Some.ensures {u = tt}).1))

pub returns-clause-goes : goal.returns-clause-goes
returns-clause-goes c =
    let fewer : length (names_from c.args.self.now.key c.args.self.now.bytes.now (c.in-Some.start + c.name_size-size.result)) < length (names_from c.args.self.now.key c.args.self.now.bytes.now c.args.self.now.place) =
    names_fewer c.args.self.now.key c.args.self.now.bytes.now c.args.self.now.place c.in-Some.start c.name_size-size.result (c.in-Some.ensures {u = tt}).1 c.name_size-size.ensures (omega (arith, (c.in-Some.ensures {u = tt}).0, (c.in-Some.ensures {u = tt}).1)) in
    record { on = λ _. (tt, tt, fewer); keeps = tt; rests = λ _. tt }

use Rattle.std.proofs.Common.{◌+◌, ◌<◌, length, arith}
use Rattle.fs_items.specs.DirRow.{entry_end, entries_from}
use Rattle.fs_items.proofs.Entries.{entries_none, entries_more, entries_fewer}
use Rattle.fs_items.proofs.dir.DirEntriesIterator.next.Goals as goal
use Rattle.fs_items.proofs.dir.DirEntriesIterator.next.Goals.{then-bytes-lt-HEAD_SIZE-via-then-bytes-lt-HEAD_SIZE, then-bytes-lt-HEAD_SIZE-via-else-bytes-lt-HEAD_SIZE+then-place-bytes}

pub returns-then-bytes-lt-HEAD_SIZE-clause-steps : goal.returns-then-bytes-lt-HEAD_SIZE-clause-steps
returns-then-bytes-lt-HEAD_SIZE-clause-steps c =
    let cut : length c.args.self.now.bytes.now < entry_end c.args.self.now.bytes.now c.args.self.now.place =
    elim c.then-bytes-lt-HEAD_SIZE.branch [
      | then-bytes-lt-HEAD_SIZE-via-then-bytes-lt-HEAD_SIZE w ↦ omega arith
      | then-bytes-lt-HEAD_SIZE-via-else-bytes-lt-HEAD_SIZE+then-place-bytes w ↦ omega arith
    ] in
    let none = entries_none c.args.self.now.bytes.now c.args.self.now.place cut in
    (none, none)

pub returns-then-size-bytes-clause-steps : goal.returns-then-size-bytes-clause-steps
returns-then-size-bytes-clause-steps c =
    let none = entries_none c.args.self.now.bytes.now c.args.self.now.place (omega (arith, c.name_len-size.ensures.value)) in
    (none, none)

pub returns-clause-steps : goal.returns-clause-steps
returns-clause-steps c = entries_more c.args.self.now.bytes.now c.name_in.result.now c.args.self.now.place c.name_len-size.result c.get_key.result c.name_len-size.ensures.value c.get_key.ensures c.name_in.ensures (omega arith)

pub returns-clause-goes : goal.returns-clause-goes
returns-clause-goes c =
    let fewer : length (entries_from c.args.self.now.bytes.now (c.args.self.now.place + 30 + c.name_len-size.result)) < length (entries_from c.args.self.now.bytes.now c.args.self.now.place) =
    entries_fewer c.args.self.now.bytes.now c.args.self.now.place c.name_len-size.result c.name_len-size.ensures.value (omega arith) in
    record { on = λ _. (tt, tt, fewer); keeps = tt; rests = λ _. tt }

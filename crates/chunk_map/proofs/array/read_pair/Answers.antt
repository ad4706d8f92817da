use Rattle.std.proofs.Common.{◌∙◌, ◌+◌, ap, sym, refl}
use Rattle.std.specs.Prelude.{Err}
use Rattle.chunk_map.proofs.Pairs.{pair_bad, pair_read, part_is}
use Rattle.chunk_map.proofs.array.read_pair.Goals as goal

pub returns-in_default-clause-read : goal.returns-in_default-clause-read
returns-in_default-clause-read c = pair_bad c.args.sup.now c.args.at (c.in_default.ensures {u = tt}) ∙ ap Err (sym c.of_image.ensures)

pub returns-in-Ok-clause-read : goal.returns-in-Ok-clause-read
returns-in-Ok-clause-read c =
    let head = c.in-Some.ensures {u = tt} in
    pair_read c.args.sup.now c.args.at c.in-Some.head.size (c.args.at + 17) (c.args.at + 17 + c.in-Some.head.size) c.in-Some.head.key _ c.place.result head.0 head.1 head.2 refl refl (part_is c.args.sup.now.array (c.args.at + 17) c.in-Some.head.size (c.args.at + 17 + c.in-Some.head.size) refl) c.place.ensures ∙ c.in-Ok.ensures.row

pub returns-in-Err-clause-read : goal.returns-in-Err-clause-read
returns-in-Err-clause-read c =
    let head = c.in-Some.ensures {u = tt} in
    pair_read c.args.sup.now c.args.at c.in-Some.head.size (c.args.at + 17) (c.args.at + 17 + c.in-Some.head.size) c.in-Some.head.key _ c.place.result head.0 head.1 head.2 refl refl (part_is c.args.sup.now.array (c.args.at + 17) c.in-Some.head.size (c.args.at + 17 + c.in-Some.head.size) refl) c.place.ensures ∙ c.in-Err.ensures.row

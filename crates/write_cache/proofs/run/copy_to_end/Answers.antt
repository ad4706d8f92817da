use Rattle.std.proofs.Common.{refl}
use Rattle.std.proofs.lemmas.List.{take_rest}
use Rattle.write_cache.proofs.RoomLaws.{copied_up}
use Rattle.write_cache.proofs.run.copy_to_end.Goals as goal

pub returns-clause-copied : goal.returns-clause-copied
returns-clause-copied c =
    copied_up c.args.bytes.now c.split_at_mut-before.result.0.now c.split_at_mut-before.result.1.now _ c.overwrite.new.into c.args.start c.args.end _
    c.requires.order c.requires.room refl c.split_at_mut-before.ensures.front c.split_at_mut-before.ensures.back (take_rest c.split_at_mut-before.result.0.now c.args.start) c.overwrite.ensures

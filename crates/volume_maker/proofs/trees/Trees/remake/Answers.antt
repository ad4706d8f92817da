use Rattle.volume_maker.specs.Live.{all_blocks}
use Rattle.volume_maker.proofs.Remaking.{and_then, in_chunk, up_to, kept_or_new, over_no_live}
use Rattle.volume_maker.proofs.trees.Trees.remake.Goals as goal

pub returns : goal.returns
returns c =
    let generation = c.args.generation in
    let before = all_blocks c.args.self.now in
    let after = all_blocks c.make_roots.new.self in
    let space = c.in_ok-space.space in
    let end = c.make_roots.new.space in
    let made = and_then generation before (all_blocks c.make_files.new.self) after space c.make_files.new.space end
    c.in_ok-make_files.ensures c.in_ok-make_roots.ensures in
    record {
      in_chunk = in_chunk generation before space after end c.requires.in_chunk made;
      up_to = up_to generation before space after end c.requires.before made;
      kept_or_new = kept_or_new generation before space after end made;
      over_no_live = over_no_live generation before space after end c.requires.before c.in_ok-space.ensures made;
    }

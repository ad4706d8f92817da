use Rattle.std.proofs.Math.Path.{fun_ext}
use Rattle.live_index.proofs.AlikeLaws.{no_pairs_alike}
use Rattle.live_index.proofs.IndexLaws.{pairs_none}
use Rattle.live_index.proofs.NarrowLaws.{none_narrow}
use Rattle.live_index.proofs.kept.LiveIndex.new.Goals as goal

-- src/index.rt:22:5
pub invariant_of-result : goal.invariant_of-result
invariant_of-result g c = record {
  alike = no_pairs_alike _ _ (pairs_none c.new.result c.new.ensures.empty) c.new-2.ensures.addresses c.new-2.ensures.keys;
  narrow = none_narrow _ (pairs_none c.new.result c.new.ensures.empty);
}

-- src/index.rt:22:5
pub returns : goal.returns
returns g c = fun_ext (λ t. fun_ext (λ a. pairs_none c.new.result c.new.ensures.empty t a))

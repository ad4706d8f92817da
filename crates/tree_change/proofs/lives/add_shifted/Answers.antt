use Rattle.std.proofs.Common.{◌++◌, ap, ◌∙◌, arith}
use Rattle.std.specs.List.{filter_map}
use Rattle.std.proofs.lemmas.List.{take_all}
use Rattle.live_index.specs.Table.{pairs_of}
use Rattle.tree_laws.specs.declared.told.Met.{Met}
use Rattle.tree_change.specs.Leaves.{last_in, shifted_by_one}
use Rattle.tree_change.proofs.Leaving.{shifted_met, some_more}
use Rattle.tree_change.proofs.lives.add_shifted.Goals as goal

-- src/lives.rt:115:5
pub loop-one-preserved : goal.loop-one-preserved
loop-one-preserved g c = record {
  puts = some_more (λ (one : Met). shifted_by_one (pairs_of c.args.table.now) (last_in c.args.lasts.now) one.expect)
      c.args.into.now.items c.loop-one.into.items c.push_some.new.into.items _ c.args.met.now c.loop-one.one-index _ c.loop-one-test.true
      c.loop-one.invariant.puts c.shifted_of.ensures.pair c.in_ok-push_some.ensures;
  looks = omega (arith, c.loop-one.invariant.looks, c.shifted_of.ensures.looks);
  none = λ asked. c.shifted_of.ensures.none asked ∙ c.loop-one.invariant.none asked;
}

pub returns-clause-puts : goal.returns-clause-puts
returns-clause-puts g c =
    c.loop-one.invariant.puts
    ∙ ap (λ l. c.args.into.now.items ++ l)
    (ap (filter_map (λ (one : Met). shifted_by_one (pairs_of c.args.table.now) (last_in c.args.lasts.now) one.expect))
    (take_all c.loop-one.one-index c.args.met.now c.loop-one-test.false)
    ∙ shifted_met (pairs_of c.args.table.now) (last_in c.args.lasts.now) c.args.met.now)

use Rattle.std.proofs.Common.{◌≡◌, [], ◌∷◌, ◌++◌, append-nil, arith, sym, ap, ◌∙◌}
use Rattle.std.proofs.lemmas.Grind.{common_steps}
use Rattle.std.proofs.lemmas.List.{append_assoc}
use Rattle.live_index.specs.Table.{pairs_of}
use Rattle.live_maker.specs.Opened.{finished}
use Rattle.live_maker.proofs.Closing.{alike_none, alike_pushed, put_closed}
use Rattle.live_maker.proofs.lives.Lives.finish.Goals as goal

pub loop-pair-init : goal.loop-pair-init
unfolding finished
loop-pair-init g c = ([], sym (append-nil c.args.self.pairs.items), c.new-table.ensures, alike_none c.new-behind.result.items c.new-behind.ensures.items, omega arith)

pub loop-pair-preserved : goal.loop-pair-preserved
loop-pair-preserved g c =
    let pushed : c.push.new.self.items ≡ c.closed-live.new.behind.items ++ c.closed-live.result ∷ [] = grind (arith, common_steps) in (
      c.in-Some.pair ∷ c.loop-pair.invariant.0,
      c.loop-pair.invariant.1 ∙ ap (λ l. l ++ c.loop-pair.invariant.0) c.in-Some.ensures.items ∙ append_assoc c.pop.new.self.items (c.in-Some.pair ∷ []) c.loop-pair.invariant.0,
      put_closed c.closed-live.result c.in-Some.pair _ c.loop-pair.invariant.0 (pairs_of c.loop-pair.table) (pairs_of c.insert.new.self)
          c.loop-pair.invariant.3 c.closed-live.ensures.live c.loop-pair.invariant.2 c.in_ok-insert.ensures.ok,
      alike_pushed c.closed-live.result c.in-Some.pair c.loop-pair.behind.items c.closed-live.new.behind.items c.push.new.self.items c.loop-pair.invariant.0
          c.loop-pair.invariant.3 c.closed-live.ensures.live c.closed-live.ensures.left pushed,
      omega (arith, c.insert.ensures.looks),
    )

use Rattle.std.proofs.Common.{rules, ◌≡◌, ◌+◌, ◌≤◌, length, inl, inr, arith, ap, subst, true, false}
use Rattle.std.proofs.lemmas.Bool.{cases_lt}
use Rattle.write_cache.specs.Runs.{AreKept}
use Rattle.write_cache.proofs.CacheLaws.{overlaid-nothing}
use Rattle.write_cache.proofs.RunLaws.{over_start, over_step, over_stop, over_end, kept_last}
use Rattle.write_cache.proofs.cache.WriteCache.overlay.Goals as goal

pub returns-then-is_empty : goal.returns-then-is_empty
returns-then-is_empty c = overlaid-nothing c.args.self.now c.args.at c.args.into.now (search rules)

pub loop-begin-init : goal.loop-begin-init
loop-begin-init c = over_start c.self.inside.runs.entries c.range-runs.result c.args.self.now c.args.at c.saturating_add-last.result c.args.into.now c.self.invariant.0 c.self.view_is (c.range-runs.ensures.between tt) (omega arith)

pub overlay_run-requires : goal.overlay_run-requires
overlay_run-requires c =
    let size : length c.as_slice.result.now ≡ length c.in-Some.bytes.now = ap length c.as_slice.ensures in
    let fits : c.in-Some.begin.now + length c.in-Some.bytes.now ≤ 18446744073709551615 = kept_last c.next_back.new.self (c.in-Some.begin.now, c.in-Some.bytes.now) (subst AreKept c.in-Some.ensures.steps c.loop-begin.invariant.0) in
    omega arith

pub returns-then-not-overlay_run : goal.returns-then-not-overlay_run
returns-then-not-overlay_run c =
    over_stop c.next_back.new.self c.loop-begin.runs (c.in-Some.begin.now, c.in-Some.bytes.now) c.args.self.now c.args.at c.args.into.now c.loop-begin.into c.overlay_run.new.into c.as_slice.result.now c.in-Some.ensures.steps c.as_slice.ensures c.overlay_run.ensures.laid c.loop-begin.invariant
    (elim (cases_lt c.args.at (c.in-Some.begin.now + length c.as_slice.result.now)) [
      | inl behind ↦ let met : c.overlay_run.result ≡ true = c.overlay_run.ensures.behind.1 behind in let not_met : c.overlay_run.result ≡ false = c.if-not-overlay_run.true in cc
      | inr before ↦ before
    ])

pub loop-begin-preserved : goal.loop-begin-preserved
loop-begin-preserved c = over_step c.next_back.new.self c.loop-begin.runs (c.in-Some.begin.now, c.in-Some.bytes.now) c.args.self.now c.args.at c.args.into.now c.loop-begin.into c.overlay_run.new.into c.as_slice.result.now c.in-Some.ensures.steps c.as_slice.ensures c.overlay_run.ensures.laid c.loop-begin.invariant

pub returns : goal.returns
returns c =
    let left = rw c.in_default.is at c.next_back.ensures.steps in
    over_end c.loop-begin.runs c.args.self.now c.args.at c.args.into.now c.loop-begin.into left.0 c.loop-begin.invariant

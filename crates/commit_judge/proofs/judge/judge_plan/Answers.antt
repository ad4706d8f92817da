use Rattle.std.proofs.Common.{sym, ◌∙◌, subst, arith}
use Rattle.std.specs.Prelude.{Some, None}
use Rattle.ledger_index.specs.Ledger.{IsTidy, sums_of}
use Rattle.span_index.specs.Table.{times_of}
use Rattle.write_cache.specs.Cache.{overlaid}
use Rattle.commit_laws.specs.Commit.{IsKnown}
use Rattle.commit_judge.specs.Index.{known}
use Rattle.commit_judge.specs.Judging.{next_of}
use Rattle.commit_judge.specs.Plan.{commit_in}
use Rattle.commit_judge.proofs.judgements.Judge.{hot_on, reads_of, same_known}
use Rattle.commit_judge.proofs.judge.judge_plan.Goals as goal

pub returns-in-Some-clause-judged : goal.returns-in-Some-clause-judged
returns-in-Some-clause-judged g c image before after stands size plan =
    let k = known c.args.index.now in
    let sums = sums_of c.apply.new.totals in
    let spans = times_of c.apply.new.spans in
    let says =
    c.tried_law.ensures image c.args.cache.now k (commit_in c.args.plan) c.in_ok-moves.moves sums spans (Some c.in-Some.finding)
    stands.known plan.commit (record {
      moves_are = c.in_ok-moves.ensures.moves;
      sums_are = c.in_ok-apply.ensures.sums;
      spans_are = c.in_ok-apply.ensures.spans;
      found = c.in-Some.ensures.least;
    }) in
    record {
      found = says.0;
      stands = record {
        known =
            subst (IsKnown image)
            (sym (same_known k (sums_of c.undo.new.totals) (times_of c.undo.new.spans) (c.in_ok-undo.ensures.sums ∙ says.1) (c.in_ok-undo.ensures.spans ∙ says.2)))
            stands.known;
        raw = stands.raw;
        entries = c.in_ok-undo.ensures.entries (c.in_ok-apply.ensures.entries stands.entries);
      };
    }

pub returns-clause-judged : goal.returns-clause-judged
returns-clause-judged g c image before after stands size plan =
    let k = known c.args.index.now in
    let d = commit_in c.args.plan in
    let says =
    c.tried_law.ensures image c.args.cache.now k d c.in_ok-moves.moves (sums_of c.apply.new.totals) (times_of c.apply.new.spans) None
    stands.known plan.commit (record {
      moves_are = c.in_ok-moves.ensures.moves;
      sums_are = c.in_ok-apply.ensures.sums;
      spans_are = c.in_ok-apply.ensures.spans;
      found = c.in_default.ensures.least;
    }) in
    let counts = c.counts_law.ensures image c.args.cache.now k d stands.known plan.commit in
    record {
      accepted = says.0;
      stands = record {
        known =
            subst (IsKnown (overlaid c.args.cache.now 0 image))
            (sym (c.in_ok-pass.ensures.known says.2)) says.1;
        raw = c.in_ok-pass.ensures.raw ∙ plan.raw;
        entries = subst IsTidy (sym c.in_ok-pass.ensures.totals) (c.in_ok-apply.ensures.entries stands.entries);
      };
      blocks_are = c.blocks_in-blocks.ensures ∙ counts.0;
      hot_are = hot_on k d c.args.cache.now _ c.args.end c.hot_in-hot.result _ size c.hot_in-hot.ensures counts.1;
      reads = reads_of before after _ c.blocks_in-blocks.result c.blocks_in-blocks.ensures plan.reads;
    }

pub returns-clause-place : goal.returns-clause-place
returns-clause-place g c follows image room same = c.in_ok-pass.ensures.raw ∙ follows image room same

pub returns-clause-looks : goal.returns-clause-looks
returns-clause-looks g c = record {
  moves = c.in_ok-moves.moves;
  are = c.in_ok-moves.ensures.moves;
  table = times_of c.apply.new.spans;
  table_is = c.in_ok-apply.ensures.spans;
  found = c.finding_by.new.steps;
  few = record {
    spans = c.in_default.ensures.looks.spans;
    times = c.in_default.ensures.looks.times;
    few = omega (arith, c.in_default.ensures.looks.few, c.apply.ensures.looks, c.moves_of.ensures.looks);
  };
  rest = c.pass.ensures.looks;
}

pub returns-clause-leads : goal.returns-clause-leads
returns-clause-leads g c image before after stands size plan =
    let k = known c.args.index.now in
    let d = commit_in c.args.plan in
    let says =
    c.tried_law.ensures image c.args.cache.now k d c.in_ok-moves.moves (sums_of c.apply.new.totals) (times_of c.apply.new.spans) None
    stands.known plan.commit (record {
      moves_are = c.in_ok-moves.ensures.moves;
      sums_are = c.in_ok-apply.ensures.sums;
      spans_are = c.in_ok-apply.ensures.spans;
      found = c.in_default.ensures.least;
    }) in
    record { next = next_of k d (sums_of c.apply.new.totals) (times_of c.apply.new.spans); moved = says.3; known = says.1 }

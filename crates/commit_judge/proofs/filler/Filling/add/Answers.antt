use Rattle.std.proofs.Common.{ap, sym, ◌∙◌, subst}
use Rattle.account_tally.proofs.ShownSums.{on_ok}
use Rattle.ledger_index.specs.Ledger.{entries_of, sums_of}
use Rattle.records.specs.Part.{located}
use Rattle.span_index.specs.Table.{times_of}
use Rattle.touched_accounts.specs.Looks.{HaveLooks}
use Rattle.commit_judge.specs.Filling.{filled_in}
use Rattle.commit_judge.specs.Flags.{free_in}
use Rattle.commit_judge.proofs.starts.Filling.{looks_later, one_filled}
use Rattle.commit_judge.proofs.filler.Filling.add.Goals as goal

pub returns : goal.returns
returns g c =
    let old = c.args.self.now in
    on_ok c.put_inode.result c.put_inode.ensures (λ noted.
    one_filled (filled_in old) (located c.args.one.now) (sums_of c.put_span.new.adding.ledger) (times_of c.put_span.new.spans) (free_in c.put_inode.new.free)
    c.post_record.new.into.steps.now c.put_span.new.adding.steps.now
    (ap sums_of c.in_ok-put_span.ensures.ledger ∙ c.in_ok-post_record.ensures.sums) c.in_ok-put_span.ensures.spans noted
    c.in_ok-post_record.ensures.looks c.in_ok-put_span.ensures.looks)

pub invariant_of-self-in-Break-branch-2 : goal.invariant_of-self-in-Break-branch-2
invariant_of-self-in-Break-branch-2 g c = record {
  few = subst (λ n. HaveLooks c.args.self.now.began n c.put_span.new.adding.steps.now) (ap entries_of (sym c.put_span.ensures.ledger))
      (looks_later _ _ _ _ _ c.put_span.ensures.looks (c.post_record.ensures.few c.args.self.now.began c.args.self.now.few));
}

pub invariant_of-self-2 : goal.invariant_of-self-2
invariant_of-self-2 g c = record {
  few = subst (λ n. HaveLooks c.args.self.now.began n c.put_span.new.adding.steps.now) (ap entries_of (sym c.put_span.ensures.ledger))
      (looks_later _ _ _ _ _ c.put_span.ensures.looks (c.post_record.ensures.few c.args.self.now.began c.args.self.now.few));
}

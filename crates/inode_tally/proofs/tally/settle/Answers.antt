use Rattle.std.proofs.Common.{◌∙◌, ◌+◌, ap, sym, subst}
use Rattle.std.specs.Map.{keys_of}
use Rattle.std.specs.List.Sorted.{IsStrictlySortedBy}
use Rattle.std.proofs.lemmas.Map.Keys.{sorted_tail}
use Rattle.accounts.specs.Broken.{is_broken}
use Rattle.accounts.specs.Tally.{sums_in, with_postings}
use Rattle.inode_tally.specs.Held.{gathered_postings, inode_cmp}
use Rattle.inode_tally.proofs.Settled.{Classes, class_moved, left, moved_class, none_left, skipped_class}
use Rattle.inode_tally.proofs.tally.settle.Goals as goal

pub loop-at-preserved-then-stays_out : goal.loop-at-preserved-then-stays_out
loop-at-preserved-then-stays_out c =
    let sorted = subst (λ (es : Classes). IsStrictlySortedBy inode_cmp (keys_of es)) c.in-Some.ensures.steps c.loop-at.invariant.sorted in
    record {
      sorted = sorted_tail inode_cmp c.in-Some.at.now (keys_of c.next.new.self) sorted;
      same = λ a.
          skipped_class c.in-Some.at.now c.in-Some.class.now c.next.new.self sorted (sums_in c.loop-at.rest) (c.stays_out.ensures c.if-stays_out.true) a
          ∙ ap (λ (es : Classes). is_broken a (λ n. sums_in c.loop-at.rest a n + left es a n)) (sym c.in-Some.ensures.steps)
          ∙ c.loop-at.invariant.same a;
      others = c.loop-at.invariant.others;
    }

pub loop-at-preserved : goal.loop-at-preserved
loop-at-preserved c =
    let sorted = subst (λ (es : Classes). IsStrictlySortedBy inode_cmp (keys_of es)) c.in-Some.ensures.steps c.loop-at.invariant.sorted in
    record {
      sorted = sorted_tail inode_cmp c.in-Some.at.now (keys_of c.next.new.self) sorted;
      same = λ a.
          moved_class c.in-Some.at.now c.in-Some.class.now c.next.new.self sorted (sums_in c.loop-at.rest) (sums_in c.move_to.new.rest)
          (c.in_ok-move_to.ensures ∙ ap (λ m. with_postings (sums_in c.loop-at.rest) (gathered_postings c.in-Some.at.now.0 c.in-Some.at.now.1 m)) c.widened.ensures) a
          ∙ ap (λ (es : Classes). is_broken a (λ n. sums_in c.loop-at.rest a n + left es a n)) (sym c.in-Some.ensures.steps)
          ∙ c.loop-at.invariant.same a;
      others = λ a other.
          class_moved c.loop-at.rest c.move_to.new.rest c.in-Some.at.now.0 c.in-Some.at.now.1 c.in-Some.class.now
          (c.in_ok-move_to.ensures ∙ ap (λ m. with_postings (sums_in c.loop-at.rest) (gathered_postings c.in-Some.at.now.0 c.in-Some.at.now.1 m)) c.widened.ensures) a other
          ∙ c.loop-at.invariant.others a other;
    }

pub returns-clause-broken : goal.returns-clause-broken
returns-clause-broken c = λ a. none_left (sums_in c.loop-at.rest) c.loop-at.at-iterator c.in-None.ensures.steps.0 a ∙ c.loop-at.invariant.same a

use Rattle.std.proofs.Common.{refl}
use Rattle.accounts.specs.Tally.{sums_in}
use Rattle.records.specs.InodePostings.{inode_postings}
use Rattle.records.specs.Part.{located, part_of}
use Rattle.account_tally.specs.Apart.{sums_apart}
use Rattle.account_tally.specs.Kept.{summed_in}
use Rattle.account_tally.proofs.Decided.{one_taken}
use Rattle.account_tally.proofs.Led.{adds_named, both_total, led_postings}
use Rattle.account_tally.proofs.Parts.{adds_record}
use Rattle.verdict.proofs.Answers.{on_both}
use Rattle.account_tally.proofs.summing.Accounts.add.Goals as goal

pub returns : goal.returns
returns c =
    let old = summed_in c.args.self.now in
    on_both c.take.result c.take.ensures.sums c.take.ensures.free (λ sectors free.
    one_taken old _ (located c.args.one.now) (sums_in c.args.self.now.rest) (sums_in c.add_all.new.self) (sums_apart c.args.self.now.apart) _
    c.args.self.now.apart.waiting _ c.add_all.new.postings
    refl refl refl refl
    (adds_record _ _ _ _ _ _ _ _ _ _ _ _ (led_postings c.args.one.now.tree (part_of c.args.one.now.part)) _ _ (inode_postings c.args.one.now.tree (part_of c.args.one.now.part))
    c.in_ok-post.ensures.sums (adds_named _ _ _ _ c.args.one.now.tree (part_of c.args.one.now.part) c.in_ok-post_by.ensures.sums) c.in_ok-post_rest.ensures.sums c.in_ok-post_own.ensures.sums
    (both_total c.args.one.now.tree (part_of c.args.one.now.part)))
    c.in_ok-add_all.ensures.sums c.in_ok-add_all.ensures.taken sectors free)

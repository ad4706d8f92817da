use Rattle.std.proofs.Common.{◌∙◌, ◌∷◌, ◌++◌, []}
use Rattle.inode_tally.specs.Held.{sum_of, to}
use Rattle.verdict.proofs.Answers.{on_ok}
use Rattle.inode_tally.proofs.tally.post.Goals as goal

pub returns : goal.returns
returns c =
    on_ok c.push_all.result c.push_all.ensures.all (λ e.
    e ∙ (λ i. c.args.into.now ++ ((c.to.ensures ∙ (λ j. to (c.inode.ensures j) 0 (c.from.ensures j))) i
    ∷ (c.to-2.ensures ∙ (λ j. to (c.inode-2.ensures j) 1 (c.from-2.ensures j))) i
    ∷ (c.to-3.ensures ∙ (λ j. to (c.inode-3.ensures j) 2 (c.from-3.ensures j))) i
    ∷ (c.to-4.ensures ∙ (λ j. to (c.inode-4.ensures j) 3 (c.from-4.ensures j))) i
    ∷ (c.to-5.ensures ∙ (λ j. to (c.inode-5.ensures j) 4 (c.from-5.ensures j))) i
    ∷ (c.to-6.ensures ∙ (λ j. to (c.inode-6.ensures j) 5 (sum_of c.args.more.now 5))) i
    ∷ (c.to-7.ensures ∙ (λ j. to (c.inode-7.ensures j) 6 (sum_of c.args.more.now 6))) i
    ∷ (c.to-8.ensures ∙ (λ j. to (c.inode-8.ensures j) 7 (sum_of c.args.more.now 7))) i
    ∷ (c.to-9.ensures ∙ (λ j. to (c.inode-9.ensures j) 8 (sum_of c.args.more.now 8))) i
    ∷ (c.to-10.ensures ∙ (λ j. to (c.inode_type.ensures j) 0 (c.from-6.ensures j))) i
    ∷ (c.to-11.ensures ∙ (λ j. to (c.inode_type-2.ensures j) 1 (c.from-7.ensures j))) i
    ∷ [])))

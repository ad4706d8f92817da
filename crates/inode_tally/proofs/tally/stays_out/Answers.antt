use Rattle.std.proofs.Common.{◌≡◌, ◌∙◌, sym, subst}
use Rattle.accounts.specs.declared.account.Account.{Account}
use Rattle.accounts.specs.Tally.{no_sums, sums_in}
use Rattle.inode_tally.proofs.Settled.{outside}
use Rattle.verdict.proofs.Truth.{false_of_not}
use Rattle.inode_tally.proofs.tally.stays_out.Goals as goal

pub returns-then-keeps : goal.returns-then-keeps
returns-then-keeps c = λ is.
    outside c.args.tree c.args.ino c.args.class.now (sym c.keeps.ensures ∙ c.if-keeps.true) (sums_in c.args.rest.now)
    (subst (λ (a : Account). sums_in c.args.rest.now a ≡ no_sums a) c.inode.ensures (c.has.ensures c.if-has.false))
    (subst (λ (a : Account). sums_in c.args.rest.now a ≡ no_sums a) c.inode_type.ensures (c.has-then-keeps.ensures (false_of_not c.has-then-keeps.result is)))

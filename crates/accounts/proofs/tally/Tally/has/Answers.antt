use Rattle.std.proofs.Common.{◌∙◌, sym}
use Rattle.std.specs.BTreeMap.{get}
use Rattle.accounts.specs.Order.{account_cmp}
use Rattle.accounts.proofs.Entries.{none_at}
use Rattle.accounts.proofs.tally.Tally.has.Goals as goal

pub returns : goal.returns
returns c = λ none. none_at (get account_cmp c.args.self.now.entries) c.args.account.now (sym c.contains_key.ensures ∙ none)

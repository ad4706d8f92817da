-- Which accounts are broken, and their finding.
use Rattle.std.specs.Prelude.{ℕ, Bool, not}
use Rattle.verdict.specs.declared.finding.Finding.{Finding}
use Rattle.verdict.specs.declared.finding.Family.TheVariants.{A}
use Rattle.accounts.specs.declared.account.Account.{Account}
use Rattle.accounts.specs.Kinds.{keeps_at, table}

-- whether an account with these sums is broken
unfoldable pub is_broken : Account → (ℕ → ℕ) → Bool
is_broken account f = not (keeps_at account.kind table f)

-- the finding of a broken account
abbrev pub broken_finding : Account → Finding
broken_finding account = record {
  rule = record { family = A; number = account.kind };
  tree = account.tree;
  block = account.block;
  key = account.key;
  detail = account.detail;
}

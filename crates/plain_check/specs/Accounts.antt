-- These words serve private functions alone: the step of the accounts.
use Rattle.std.specs.Prelude.{ℕ, List, Result}
use Rattle.verdict.specs.Rules.{and_then, finding_or}
use Rattle.verdict.specs.declared.finding.Finding.{Finding}
use Rattle.records.specs.Contents.{Contents}
use Rattle.records.specs.Context.{context_of}
use Rattle.records.specs.Postings.{account_fault}
use Rattle.plain_check.specs.Opened.{Opened}
use Rattle.plain_check.specs.OpeningLaw.{contents_of}

-- the finding of the accounts of what an image holds, in its context
abbrev pub accounts_of : Contents → Result (Unit {0}) Finding
accounts_of held = finding_or (account_fault (context_of held) held.records) (tt {0})

-- the step of the accounts of an image of which this is known
unfoldable pub accounts_in : Opened → List ℕ → Result (Unit {0}) Finding
accounts_in o image = and_then (contents_of o image) accounts_of

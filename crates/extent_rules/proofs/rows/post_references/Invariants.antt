use Rattle.extent_items.specs.ExtentItems.{extent_fields_in, references_left}
use Rattle.records.specs.ExtentPostings.{reference_postings}
use Rattle.accounts.proofs.Behind.{Leaves}
use Rattle.extent_rules.proofs.rows.post_references.Given as goal

-- what posts those that are left posts all
abbrev pub invariant-loop-reference : goal.invariant-loop-reference
invariant-loop-reference g l =
    Leaves g.P.Poster.Leaves (reference_postings l.address) l.fn.into l.into (references_left l.reference-iterator) (extent_fields_in l.item).references

-- What an image holds, by what is known of it once its chunk tree and its root tree were walked.
use Rattle.std.specs.Prelude.{ℕ, ◌≡◌, List, ◌∷◌, ◌++◌, Result, Ok}
use Rattle.std.specs.List.{filter_map}
use Rattle.verdict.specs.Rules.{and_then}
use Rattle.verdict.specs.declared.finding.Finding.{Finding}
use Rattle.records.specs.Seen.{Seen, accounted}
use Rattle.records.specs.Contents.{Contents, contents, super_record}
use Rattle.plain_check.specs.Opened.{Opened, opened, named_records}

-- what an image holds of which this is known, where the trees that root items name have these records
abbrev pub contents_with : Opened → List Seen → Contents
contents_with o more = record {
  sup = o.sup;
  chunks = o.chunks;
  roots = o.roots;
  records = super_record o.sup ∷ filter_map accounted (o.seen ++ more);
}

-- what an image holds of which this is known, or the finding of a tree that a root item names
abbrev pub contents_of : Opened → List ℕ → Result Contents Finding
contents_of o image = and_then (named_records o image) (λ more. Ok (contents_with o more))

-- what an image holds is what is known of it once its chunk tree and its root tree were walked, and then the records of the other trees
abbrev pub OpeningLaw : Type 0
OpeningLaw = (image : List ℕ) → contents image ≡ and_then (opened image) (λ o. contents_of o image)

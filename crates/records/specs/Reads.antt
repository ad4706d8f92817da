-- What a reader of items gives.
use Rattle.std.specs.Prelude.{◌≡◌, Result, Ok, Err}
use Rattle.verdict.specs.declared.finding.Finding.{Finding}
use Rattle.records.specs.Part.{Part, part_of}
use Rattle.records.specs.declared.rec.Rec.{Rec}

-- the record says what the definition says, or the finding is the definition's
abbrev pub Reads : Result Rec Finding → Result Part Finding → Type 0
Reads (Ok one) whole = whole ≡ Ok (part_of one)
Reads (Err finding) whole = whole ≡ Err finding

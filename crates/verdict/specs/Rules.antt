-- Rules in order are a table, and the first that fails gives the finding. A step of the check gives a value or its finding.
use Rattle.std.specs.Prelude.{ℕ, Bool, List, [], ◌∷◌, Option, Some, None, Result, Ok, Err, if◌then◌else◌}
use Rattle.verdict.specs.declared.key.Key.{Key}
use Rattle.verdict.specs.declared.finding.Finding.{Finding}
use Rattle.verdict.specs.declared.finding.Family.{Family}

-- a row of a table of rules: where it fails, and what it then finds
pub record TableRow : Type 0 where
  pub fails : Bool
  pub finding : Finding

-- the finding of the first rule that fails
abbrev pub first_failing : List TableRow → Option Finding
first_failing [] = None
first_failing (r ∷ rs) = if r.fails then Some r.finding else first_failing rs

-- the first of two findings that there is
abbrev pub or_found : Option Finding → Option Finding → Option Finding
or_found (Some finding) later = Some finding
or_found None later = later

-- the finding, where there is one, else a value
abbrev pub finding_or : {A : Type 0} → Option Finding → A → Result A Finding
finding_or (Some finding) value = Err finding
finding_or None value = Ok value

-- a step of the check, and what follows where it has no finding
abbrev pub and_then : {A B : Type 0} → Result A Finding → (A → Result B Finding) → Result B Finding
and_then (Err finding) next = Err finding
and_then (Ok value) next = next value

-- the key (0, 0, 0), of findings that speak of no item
abbrev pub no_key : Key
no_key = record { objectid = 0; kind = 0; offset = 0 }

-- a finding of the whole image, which names no tree, no block and no key
abbrev pub image_finding : Family → ℕ → ℕ → Finding
image_finding family number detail = record {
  rule = record { family = family; number = number };
  tree = 0;
  block = 0;
  key = no_key;
  detail = detail;
}

-- the row of a rule on the whole image
abbrev pub image_rule : Bool → Family → ℕ → ℕ → TableRow
image_rule fails family number detail = record { fails = fails; finding = image_finding family number detail }

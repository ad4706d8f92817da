-- Tables of rules that stand one behind the other.
use Rattle.std.proofs.Common.{◌≡◌, ℕ, zero, suc, List, [], ◌∷◌, ◌++◌, Bool, true, false, cond, refl, sym, ◌∙◌}
use Rattle.std.specs.Prelude.{Option, Some, None, Ok, Err}
use Rattle.verdict.specs.Rules.{TableRow, first_failing, or_found, finding_or}
use Rattle.verdict.specs.declared.finding.Finding.{Finding}

-- the first finding of two tables is that of the first, else that of the second
pub first_failing_joined : (first second : List TableRow) → first_failing (first ++ second) ≡ or_found (first_failing first) (first_failing second)
first_failing_joined [] second = refl
first_failing_joined (row ∷ rows) second =
    elim row.fails as (λ fails. cond fails (Some row.finding) (first_failing (rows ++ second)) ≡ or_found (cond fails (Some row.finding) (first_failing rows)) (first_failing second))
    [ true ↦ refl | false ↦ first_failing_joined rows second ]

or_found-none : (first second : Option Finding) → or_found first second ≡ None → (first ≡ None) × (second ≡ None)
or_found-none None second is = (refl, is)
or_found-none (Some finding) second is = cc

-- each of two tables is kept where both together are
pub joined_none : (first second : List TableRow) → first_failing (first ++ second) ≡ None → (first_failing first ≡ None) × (first_failing second ≡ None)
joined_none first second is = or_found-none (first_failing first) (first_failing second) (sym (first_failing_joined first second) ∙ is)

-- the first rule of a table that is kept is kept, and so are the others
pub kept_first : (row : TableRow) (rows : List TableRow) → first_failing (row ∷ rows) ≡ None → (row.fails ≡ false) × (first_failing rows ≡ None)
kept_first row rows is =
    let split : (fails : Bool) → cond fails (Some row.finding) (first_failing rows) ≡ None → (fails ≡ false) × (first_failing rows ≡ None) =
    λ fails. elim fails as (λ b. cond b (Some row.finding) (first_failing rows) ≡ None → (b ≡ false) × (first_failing rows ≡ None)) [ true ↦ λ e. cc | false ↦ λ e. (refl, e) ]
    in split row.fails is

-- whether the rule at a place of a table fails
abbrev pub fails_at : ℕ → List TableRow → Bool
fails_at n [] = false
fails_at zero (row ∷ rows) = row.fails
fails_at (suc n) (row ∷ rows) = fails_at n rows

-- each rule of a table is kept where no finding comes of it
pub kept_at : (n : ℕ) (rows : List TableRow) → first_failing rows ≡ None → fails_at n rows ≡ false
kept_at n [] is = refl
kept_at zero (row ∷ rows) is = (kept_first row rows is).0
kept_at (suc n) (row ∷ rows) is = kept_at n rows (kept_first row rows is).1

-- where a value is given, there is no finding, and it is that one
pub finding_or-ok : {A : Type 0} (found : Option Finding) (value given : A) → finding_or found value ≡ Ok given → (found ≡ None) × (given ≡ value)
finding_or-ok None value given is = (refl, cc)
finding_or-ok (Some finding) value given is = cc

-- where a finding is given, it is that one
pub finding_or-err : {A : Type 0} (found : Option Finding) (value : A) (finding : Finding) → finding_or found value ≡ Err finding → found ≡ Some finding
finding_or-err None value finding is = cc
finding_or-err (Some first) value finding is = cc

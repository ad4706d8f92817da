-- The check by its steps.
use Rattle.std.proofs.Common.{◌≡◌, ℕ, List, Result, Ok, Err, refl, ap, ◌∙◌}
use Rattle.verdict.specs.Rules.{and_then}
use Rattle.verdict.specs.declared.finding.Finding.{Finding}
use Rattle.records.specs.Contents.{Contents}
use Rattle.records.specs.Seen.{Seen}
use Rattle.records.specs.Walk.{Records}
use Rattle.records.specs.FullCheck.{checked, checked_with}
use Rattle.plain_check.specs.Accounts.{accounts_in, accounts_of}
use Rattle.plain_check.specs.Opened.{Opened, opened, named_records}
use Rattle.plain_check.specs.OpeningLaw.{contents_with}
use Rattle.plain_check.proofs.Opening.{opens, then_next}

-- the steps of the check, one after the other
abbrev steps_of : List ℕ → Result ℕ Finding
steps_of image =
    and_then (opened image) (λ o.
    and_then (accounts_in o image) (λ _.
    Ok o.sup.generation))

-- what an image holds, and the step that follows
abbrev after_contents : Contents → Result ℕ Finding
after_contents held = and_then (accounts_of held) (λ _. Ok held.sup.generation)

-- these two as one
then_accounts : (o : Opened) (more : Records)
    → and_then {A = Contents} {B = ℕ} (and_then {A = List Seen} {B = Contents} more (λ rs. Ok (contents_with o rs))) after_contents
    ≡ and_then {A = Unit {0}} {B = ℕ} (and_then {A = Contents} {B = Unit {0}} (and_then {A = List Seen} {B = Contents} more (λ rs. Ok (contents_with o rs))) accounts_of) (λ _. Ok o.sup.generation)
then_accounts o (Err finding) = refl
then_accounts o (Ok more) = refl

pub checked_by : (image : List ℕ) → checked image ≡ steps_of image
unfolding checked_with accounts_in
checked_by image =
    ap (λ held. and_then held after_contents) (opens image)
    ∙ then_next (opened image) _ _ _ (λ o. then_accounts o (named_records o image))

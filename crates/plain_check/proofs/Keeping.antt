-- What two make of the records of a walk, of which the second keeps them.
use Rattle.std.proofs.Common.{◌≡◌, ℕ, ◌<◌, List, [], ◌∷◌, ◌++◌, length, get_or, map, Option, Some, None, Result, Ok, Err, IfSome, ap, refl, sym, ◌∙◌, subst, append_assoc}
use Rattle.std.specs.Ordering.{nat_cmp}
use Rattle.std.specs.FinMap.{FinMap}
use Rattle.std.specs.List.{All, fold}
use Rattle.std.proofs.lemmas.List.{append-nil, get_or-map, length-map, map-append}
use Rattle.std.proofs.lemmas.List.Elements.{All-push}
use Rattle.verdict.specs.Rules.{and_then}
use Rattle.verdict.specs.declared.finding.Finding.{Finding}
use Rattle.write_cache.specs.Cache.{overlaid}
use Rattle.records.specs.Seen.{Seen, IsLawfulSeen}
use Rattle.records.specs.Takes.{held_after, with_both}
use Rattle.records.specs.Walk.{Records, behind}
use Rattle.plain_check.specs.Kept.{kept_seen, with_kept}
use Rattle.plain_check.specs.declared.kept.KeptRecord.{KeptRecord}

-- each makes its own
pub both_fold : {A B : Type 0} (first : A → Seen → A) (second : B → Seen → B) (a : A) (b : B) (records : List Seen)
    → fold (with_both first second) (a, b) records ≡ (fold first a records, fold second b records)
both_fold first second a b [] = refl
both_fold first second a b (one ∷ records) = both_fold first second (first a one) (second b one) records

pub first_held : {A B : Type 0} (first : A → Seen → A) (second : B → Seen → B) (a : A) (b : B) (records : Records)
    → held_after first a records ≡ and_then {A = A × B} {B = A} (held_after (with_both first second) (a, b) records) (λ both. Ok both.0)
first_held first second a b (Err finding) = refl
first_held first second a b (Ok records) = ap (λ both. Ok both.0) (sym (both_fold first second a b records))

second_held : {A B : Type 0} (first : A → Seen → A) (second : B → Seen → B) (a : A) (b : B) (records : Records)
    → held_after second b records ≡ and_then {A = A × B} {B = B} (held_after (with_both first second) (a, b) records) (λ both. Ok both.1)
second_held first second a b (Err finding) = refl
second_held first second a b (Ok records) = ap (λ both. Ok both.1) (sym (both_fold first second a b records))

-- one that keeps records has those that it was given behind its own
kept_fold : (kept records : List Seen) → fold with_kept kept records ≡ kept ++ records
kept_fold kept [] = sym (append-nil kept)
kept_fold kept (one ∷ records) = kept_fold (kept ++ one ∷ []) records ∙ append_assoc kept (one ∷ []) records

kept_held : (kept : List Seen) (records : Records) → held_after with_kept kept records ≡ behind kept records
unfolding behind
kept_held kept (Err finding) = refl
kept_held kept (Ok records) = ap Ok (kept_fold kept records)

behind_none : (records : Records) → behind [] records ≡ records
unfolding behind
behind_none (Err finding) = refl
behind_none (Ok records) = refl

-- what the second kept of them
pub second_told : {A : Type 0} (told : Option (List ℕ)) (m : FinMap nat_cmp ℕ) (first : A → Seen → A) (a : A) (kept : List Seen) (records : List ℕ → Records) (made : Result (A × List Seen) Finding)
    → IfSome told (λ image. held_after (with_both first with_kept) (a, kept) (records (overlaid m 0 image)) ≡ made)
    → IfSome told (λ image. behind kept (records (overlaid m 0 image)) ≡ and_then {A = A × List Seen} {B = List Seen} made (λ both. Ok both.1))
second_told None m first a kept records made is = tt
second_told (Some image) m first a kept records made is =
    sym (kept_held kept (records (overlaid m 0 image)))
    ∙ second_held first with_kept a kept (records (overlaid m 0 image)) ∙ ap (λ r. and_then r (λ both. Ok both.1)) is

-- the same where nothing was kept before
pub second_told_first : {A : Type 0} (told : Option (List ℕ)) (m : FinMap nat_cmp ℕ) (first : A → Seen → A) (a : A) (records : List ℕ → Records) (made : Result (A × List Seen) Finding)
    → IfSome told (λ image. held_after (with_both first with_kept) (a, []) (records (overlaid m 0 image)) ≡ made)
    → IfSome told (λ image. records (overlaid m 0 image) ≡ and_then {A = A × List Seen} {B = List Seen} made (λ both. Ok both.1))
second_told_first None m first a records made is = tt
second_told_first (Some image) m first a records made is =
    sym (behind_none (records (overlaid m 0 image))) ∙ second_told (Some image) m first a [] records made is

-- one more lawful record
pub lawful_more : (kept all : List KeptRecord) (one : KeptRecord) (said : Seen) → all ≡ kept ++ one ∷ [] → kept_seen one ≡ said → IsLawfulSeen said
    → All IsLawfulSeen (map kept_seen kept) → All IsLawfulSeen (map kept_seen all)
lawful_more kept all one said is same lawful before =
    let pushed : map kept_seen all ≡ map kept_seen kept ++ kept_seen one ∷ [] = ap (map kept_seen) is ∙ map-append kept_seen kept (one ∷ []) in
    subst (All IsLawfulSeen) (sym pushed) (All-push IsLawfulSeen (map kept_seen kept) (kept_seen one) before (subst IsLawfulSeen (sym same) lawful))

-- the record at a place is lawful
pub lawful_item : (list kept : List KeptRecord) (i : ℕ) (one : KeptRecord) (said : Seen) → kept ≡ list → i < length kept
    → All IsLawfulSeen (map kept_seen list) → one ≡ get_or kept i one → said ≡ kept_seen one → IsLawfulSeen said
lawful_item list kept i one said same inside lawful is says =
    let all : All IsLawfulSeen (map kept_seen kept) = rw same lawful in
    let at : get_or (map kept_seen kept) i (kept_seen one) ≡ kept_seen one = get_or-map kept_seen kept i one (kept_seen one) inside ∙ ap kept_seen (sym is) in
    let here : IsLawfulSeen (get_or (map kept_seen kept) i (kept_seen one)) = all i (kept_seen one) (rw length-map inside) in
    subst IsLawfulSeen (at ∙ sym says) here

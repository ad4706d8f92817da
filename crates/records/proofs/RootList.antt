-- The list of root items, one after the other.
use Rattle.std.proofs.Common.{◌≡◌, ℕ, ◌+◌, ◌<◌, true, false, cond, List, [], ◌∷◌, ◌++◌, length, take, drop, get_or, Option, Some, None, refl, sym, ap, ◌∙◌}
use Rattle.std.specs.List.{list_any}
use Rattle.std.specs.Prelude.{◌||◌, ◌==◌}
use Rattle.std.proofs.Common.{arith, ◌≤◌}
use Rattle.std.proofs.lemmas.Grind.{common_steps}
use Rattle.std.proofs.lemmas.List.Folds.{list_any-append}
use Rattle.std.proofs.lemmas.List.{drop_more, take_more}
use Rattle.verdict.specs.declared.finding.Finding.{Finding}
use Rattle.records.specs.Contents.{names, repeated_after, roots_finding}
use Rattle.volume_items.specs.declared.root_at.RootAt.{RootAt}

repeated_step : (before roots : List RootAt) (root : RootAt)
    → repeated_after before (root ∷ roots) ≡ cond (list_any (names root.key.objectid) before) (Some (roots_finding 1 root.key)) (repeated_after (before ++ root ∷ []) roots)
unfolding repeated_after
repeated_step before roots root = refl

pub repeated_end : (before : List RootAt) → repeated_after before [] ≡ None
unfolding repeated_after
repeated_end before = refl

-- the root item at a place, behind those before it
pub repeated_at : (roots : List RootAt) (i : ℕ) (d : RootAt) → i < length roots
    → repeated_after (take i roots) (drop i roots) ≡ cond (list_any (names (get_or roots i d).key.objectid) (take i roots)) (Some (roots_finding 1 (get_or roots i d).key)) (repeated_after (take (i + 1) roots) (drop (i + 1) roots))
repeated_at roots i d inside =
    ap (repeated_after (take i roots)) (drop_more roots i d inside)
    ∙ repeated_step (take i roots) (drop (i + 1) roots) (get_or roots i d)
    ∙ ap (λ front. cond (list_any (names (get_or roots i d).key.objectid) (take i roots)) (Some (roots_finding 1 (get_or roots i d).key)) (repeated_after front (drop (i + 1) roots))) (sym (take_more roots i d inside))

-- it has the id of an earlier one
pub repeated_here : (roots : List RootAt) (i : ℕ) (d : RootAt) (whole : Option Finding) → i < length roots → list_any (names (get_or roots i d).key.objectid) (take i roots) ≡ true
    → repeated_after (take i roots) (drop i roots) ≡ whole → whole ≡ Some (roots_finding 1 (get_or roots i d).key)
repeated_here roots i d whole inside seen left = sym left ∙ repeated_at roots i d inside ∙ rw seen refl

-- it has another id
pub repeated_past : (roots : List RootAt) (i : ℕ) (d : RootAt) (whole : Option Finding) → i < length roots → list_any (names (get_or roots i d).key.objectid) (take i roots) ≡ false
    → repeated_after (take i roots) (drop i roots) ≡ whole → repeated_after (take (i + 1) roots) (drop (i + 1) roots) ≡ whole
repeated_past roots i d whole inside seen left = sym (repeated_at roots i d inside ∙ rw seen refl) ∙ left

-- which ids the items so far have, with one item more
pub seen_more : (roots : List RootAt) (i : ℕ) (d : RootAt) (q : ℕ) → i < length roots
    → list_any (names q) (take (i + 1) roots) ≡ (list_any (names q) (take i roots) || (get_or roots i d).key.objectid == q)
seen_more roots i d q inside = rw (take_more roots i d inside, list_any-append) (grind (arith, common_steps))

-- no item is left
pub repeated_done : (roots : List RootAt) (i : ℕ) (whole : Option Finding) → length roots ≤ i
    → repeated_after (take i roots) (drop i roots) ≡ whole → whole ≡ None
repeated_done roots i whole past left =
    let none : drop i roots ≡ [] = grind (arith, common_steps) in
    sym left ∙ ap (repeated_after (take i roots)) none ∙ repeated_end (take i roots)

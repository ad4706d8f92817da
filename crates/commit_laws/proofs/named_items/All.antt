-- Where all items go and all come: what is gone is all old items, and what came all new ones.
use Rattle.std.proofs.Common.{◌≡◌, ℕ, zero, suc, ◌+◌, List, [], ◌∷◌, ◌++◌, length, map, refl, ap, ◌∙◌, arith}
use Rattle.std.specs.Prelude.{slice_get, Some}
use Rattle.std.specs.List.{cons_option, filter_map}
use Rattle.std.proofs.lemmas.List.{append-nil}
use Rattle.std.proofs.lemmas.List.Elements.{filter_map-append}
use Rattle.records.specs.declared.rec.ItemAt.{ItemAt}
use Rattle.tree_change.specs.Gathered.{located_item}
use Rattle.commit_laws.specs.Paired.{AllChangesLaw, added_from, came_items, came_of, gone_items, gone_of, removed_from}

-- what stands in a list from a place on
abbrev IsFrom : List ItemAt → ℕ → List ItemAt → Type 0
IsFrom all at rest = (k : ℕ) → slice_get all (k + at) ≡ slice_get rest k

place : (k at : ℕ) → k + suc at ≡ suc k + at
place k at = omega arith

from_next : (all : List ItemAt) (at : ℕ) (x : ItemAt) (rest : List ItemAt) → IsFrom all at (x ∷ rest) → IsFrom all (suc at) rest
from_next all at x rest from k = ap (slice_get all) (place k at) ∙ from (suc k)

first_at : (all : List ItemAt) (at : ℕ) (x : ItemAt) (rest : List ItemAt) → IsFrom all at (x ∷ rest) → slice_get all at ≡ Some x
first_at all at x rest from = ap (slice_get all) (let e : at ≡ 0 + at = omega arith in e) ∙ from 0

module _ (all : List ItemAt) where
  removed_are : (at : ℕ) (rest : List ItemAt) → IsFrom all at rest → filter_map (gone_of all) (removed_from at (length rest)) ≡ rest
  unfolding removed_from
  removed_are at [] from = refl
  removed_are at (x ∷ rest) from =
      ap (λ o. cons_option o (filter_map (gone_of all) (removed_from (suc at) (length rest)))) (first_at all at x rest from)
      ∙ ap (λ l. x ∷ l) (removed_are (suc at) rest (from_next all at x rest from))

  added_are : (at : ℕ) (rest : List ItemAt) → IsFrom all at rest → filter_map (came_of all) (added_from at (length rest)) ≡ rest
  unfolding added_from
  added_are at [] from = refl
  added_are at (x ∷ rest) from =
      ap (λ o. cons_option o (filter_map (came_of all) (added_from (suc at) (length rest)))) (first_at all at x rest from)
      ∙ ap (λ l. x ∷ l) (added_are (suc at) rest (from_next all at x rest from))

  -- what comes takes nothing away, and what goes brings nothing
  none_gone : (at n : ℕ) → filter_map (gone_of all) (added_from at n) ≡ []
  unfolding added_from
  none_gone at zero = refl
  none_gone at (suc n) = none_gone (suc at) n

  none_came : (at n : ℕ) → filter_map (came_of all) (removed_from at n) ≡ []
  unfolding removed_from
  none_came at zero = refl
  none_came at (suc n) = none_came (suc at) n

  from_start : IsFrom all 0 all
  from_start k = ap (slice_get all) (let e : k + 0 ≡ k = omega arith in e)

pub all_change : AllChangesLaw
unfolding gone_items came_items
all_change old new = (
  ap (map located_item)
      (filter_map-append (gone_of old) (removed_from 0 (length old)) (added_from 0 (length new))
      ∙ ap (λ l. l ++ filter_map (gone_of old) (added_from 0 (length new))) (removed_are old 0 old (from_start old))
      ∙ ap (λ l. old ++ l) (none_gone old 0 (length new))
      ∙ append-nil old),
  ap (map located_item)
      (filter_map-append (came_of new) (removed_from 0 (length old)) (added_from 0 (length new))
      ∙ ap (λ l. l ++ filter_map (came_of new) (added_from 0 (length new))) (none_came new 0 (length old))
      ∙ added_are new 0 new (from_start new)),
)

-- What is kept of names once an entry is another.
use Rattle.std.proofs.Common.{◌≡◌, ◌<◌, ◌==◌, ◌&&◌, ℕ, Bool, true, false, cond, not, List, length, set, refl, ap, sym, ◌∙◌, subst, arith}
use Rattle.std.specs.Prelude.{Option, Some, None, nat_lt, slice_get}
use Rattle.std.specs.Map.{lookup}
use Rattle.std.proofs.lemmas.Bool.{eqb-false, eqb-true}
use Rattle.indexmap.specs.IndexMap.{IndexMap}
use Rattle.ledger_keys.specs.declared.kept.Kept.{Kept}
use Rattle.ledger_keys.specs.declared.long_place.LongPlace.{LongPlace}
use Rattle.ledger_keys.specs.declared.name.Name.{Name}
use Rattle.ledger_keys.specs.declared.name.Side.{Side}
use Rattle.ledger_maps.specs.Entries.{AreFit, AreTidy, Entries, by_key, by_parts}
use Rattle.ledger_keys.specs.Kept.{kept_sum, sums_at}
use Rattle.ledger_keys.specs.LongPlace.{is_same_long, part_of}
use Rattle.ledger_keys.specs.LongPlaceLaws.{own_long, same_long}
use Rattle.ledger_keys.specs.Name.{is_same_name}
use Rattle.ledger_maps.specs.Names.{AreCounted, names_by}
use Rattle.ledger_keys.specs.Shifts.{Posted, Rests, Shifts}
use Rattle.ledger_keys.specs.Side.{IsCounted, has_sums, is_same_side, number_of, side_of}
use Rattle.ledger_keys.specs.Sums.{greatest, lower, raise}
use Rattle.ledger_keys.proofs.SumLaws.{lower_none, other_amount, raise_none}
use Rattle.ledger_keys.proofs.NameLaws.{same_name}
use Rattle.ledger_maps.proofs.PartLaws.{apart_case, fit_part, here_new, here_old}

module _ (old new : Entries LongPlace) (key : LongPlace) (w : Option Kept) (updates : (q : LongPlace) → new q ≡ cond (is_same_long key q) w (old q))
    (own : is_same_long key key ≡ true) where
  at_key : new key ≡ w
  at_key = updates key ∙ ap (λ b. cond b w (old key)) own

  module _ (how : ℕ → ℕ → ℕ) (none : (sum : ℕ) → how 0 sum ≡ sum) (side : Side) (field amount : ℕ) where
    shift_case : (q : Name) (n : ℕ) (b : Bool) → is_same_long key q.place ≡ b → new q.place ≡ cond b w (old q.place)
        → Shifts is_same_side how (side_of (sums_at (old key))) (side_of (sums_at w)) side field amount
        → names_by new q n ≡ how (cond ((b && is_same_side side q.side) && (field == n && nat_lt n 9)) amount 0) (names_by old q n)
    shift_case q n true is now changes =
        ap (λ o. side_of (sums_at o) q.side n) now ∙ changes q.side n
        ∙ ap (λ k. how (cond (is_same_side side q.side && (field == n && nat_lt n 9)) amount 0) (side_of (sums_at (old k)) q.side n)) (same_long key q.place is)
    shift_case q n false is now changes = ap (λ o. side_of (sums_at o) q.side n) now ∙ sym (none (names_by old q n))

    pub names_shift : Shifts is_same_side how (side_of (sums_at (old key))) (side_of (sums_at w)) side field amount
        → Shifts is_same_name how (names_by old) (names_by new) (record { place = key; side = side }) field amount
    names_shift changes = λ q n. shift_case q n (is_same_long key q.place) refl (updates q.place) changes

  rest_case : (q : Name) (n : ℕ) (b : Bool) → is_same_long key q.place ≡ b → new q.place ≡ cond b w (old q.place)
      → Rests (side_of (sums_at (old key))) (side_of (sums_at w)) → names_by new q n ≡ names_by old q n
  rest_case q n true is now rest =
      ap (λ o. side_of (sums_at o) q.side n) now ∙ rest q.side n ∙ ap (λ k. side_of (sums_at (old k)) q.side n) (same_long key q.place is)
  rest_case q n false is now rest = ap (λ o. side_of (sums_at o) q.side n) now

  pub names_rest : Rests (side_of (sums_at (old key))) (side_of (sums_at w)) → Rests (names_by old) (names_by new)
  names_rest rest = λ q n. rest_case q n (is_same_long key q.place) refl (updates q.place) rest

  pub names_posted : (may_begin : Bool) (side : Side) (field amount : ℕ) (full : Option Bool)
      → Posted is_same_side may_begin side field amount (side_of (sums_at (old key))) (side_of (sums_at w)) full
      → Posted is_same_name may_begin (record { place = key; side = side }) field amount (names_by old) (names_by new) full
  names_posted may_begin side field amount None is = (is.0, names_rest is.1)
  names_posted may_begin side field amount (Some full) is = (
    names_shift raise raise_none side field amount is.0,
    (λ low. subst (λ o. side_of (sums_at o) side field < greatest) (sym at_key) (is.1.0 low), is.1.1),
  )

  counted_case : (q : LongPlace) (kept : Kept) (b : Bool) → new q ≡ cond b w (old q) → AreCounted old
      → ((k : Kept) → w ≡ Some k → IsCounted (kept_sum k)) → new q ≡ Some kept → IsCounted (kept_sum kept)
  counted_case q kept true now counted first at = first kept (sym now ∙ at)
  counted_case q kept false now counted first at = counted q kept (sym now ∙ at)

  pub counted_put : AreCounted old → ((k : Kept) → w ≡ Some k → IsCounted (kept_sum k)) → AreCounted new
  counted_put counted first = λ q kept at. counted_case q kept (is_same_long key q) (updates q) counted first at

-- the same by the entries of two maps
module _ (old new : List (LongPlace × Kept)) (key : LongPlace) (w : Option Kept)
    (updates : (q : LongPlace) → lookup (is_same_long q) new ≡ cond (is_same_long key q) w (lookup (is_same_long q) old)) where
  pub entries_posted : (may_begin : Bool) (side : Side) (field amount : ℕ) (full : Option Bool)
      → Posted is_same_side may_begin side field amount (side_of (sums_at (lookup (is_same_long key) old))) (side_of (sums_at w)) full
      → Posted is_same_name may_begin (record { place = key; side = side }) field amount
      (names_by (λ q. lookup (is_same_long q) old)) (names_by (λ q. lookup (is_same_long q) new)) full
  entries_posted = names_posted (λ q. lookup (is_same_long q) old) (λ q. lookup (is_same_long q) new) key w updates (own_long key)

  pub entries_rest : Rests (side_of (sums_at (lookup (is_same_long key) old))) (side_of (sums_at w))
      → Rests (names_by (λ q. lookup (is_same_long q) old)) (names_by (λ q. lookup (is_same_long q) new))
  entries_rest = names_rest (λ q. lookup (is_same_long q) old) (λ q. lookup (is_same_long q) new) key w updates (own_long key)

-- where no entry stands, nothing is taken
module _ (entries : Entries LongPlace) (name : Name) (absent : entries name.place ≡ None) where
  none_of : (n : ℕ) → names_by entries name n ≡ 0
  none_of n = ap (λ o. side_of (sums_at o) name.side n) absent ∙ none_is (0 == number_of name.side) (nat_lt n 2)
    where
      none_is : (b s : Bool) → ◌≡◌ {A = ℕ} (cond (b && s) 0 0) 0
      none_is true true = refl
      none_is true false = refl
      none_is false s = refl

  take_case : (field amount : ℕ) (q : Name) (n : ℕ) (b : Bool) → is_same_name name q ≡ b
      → names_by entries q n ≡ lower (cond (b && (field == n && nat_lt n 9)) amount 0) (names_by entries q n)
  take_case field amount q n true is =
      let gone : names_by entries q n ≡ 0 = ap (λ x. names_by entries x n) (sym (same_name name q is)) ∙ none_of n in omega (arith, gone)
  take_case field amount q n false is = sym (lower_none (names_by entries q n))

  pub nothing_taken : (field amount : ℕ) → Shifts is_same_name lower (names_by entries) (names_by entries) name field amount
  nothing_taken field amount = λ q n. take_case field amount q n (is_same_name name q) refl

  pub nothing_had : has_sums (names_by entries name) ≡ false
  nothing_had = ap (λ k. not (k == 0 && names_by entries name 1 == 0)) (none_of 0) ∙ ap (λ k. not (k == 0)) (none_of 1)

-- what is kept under the other keys stays
pub others_put : (old new : Entries LongPlace) (key : LongPlace) (w : Option Kept) → ((q : LongPlace) → new q ≡ cond (is_same_long key q) w (old q))
    → (q : LongPlace) → is_same_long key q ≡ false → new q ≡ old q
others_put old new key w updates q other = updates q ∙ ap (λ b. cond b w (old q)) other

-- ---- a part of a table is changed

-- no entry with a sum of its accounts is zero
pub counted_tidy : (entries : Entries LongPlace) → AreCounted entries → AreTidy entries
counted_tidy entries counted = λ key kept at gone. counted key kept at (gone 0) (gone 1) (gone 2) (gone 3)

module _ {S : Type 0} (parts : List (IndexMap LongPlace Kept S)) (i : ℕ) (part part' : IndexMap LongPlace Kept S) (within : i < length parts)
    (at : slice_get parts i ≡ Some part) where
  pub counted_part : AreFit is_same_long part_of parts → AreCounted (by_parts is_same_long part_of parts) → AreCounted (by_key is_same_long part)
  counted_part fit counted = λ key kept is. (let
      home : part_of key ≡ i = (fit i part at).home key kept is in
      counted key kept (here_old is_same_long same_long part_of parts i part part' within at key (sym home) ∙ is))

  counted_at : (key : LongPlace) (kept : Kept) (b : Bool) → (i == part_of key) ≡ b → AreCounted (by_parts is_same_long part_of parts)
      → AreCounted (by_key is_same_long part') → by_parts is_same_long part_of (set parts i part') key ≡ Some kept → IsCounted (kept_sum kept)
  counted_at key kept true is counted counted' there =
      counted' key kept (sym (here_new is_same_long same_long part_of parts i part part' within at key (eqb-true i (part_of key) is)) ∙ there)
  counted_at key kept false is counted counted' there =
      counted key kept (sym (apart_case is_same_long same_long part_of parts i part' key (eqb-false i (part_of key) is)) ∙ there)

  pub counted_set : AreCounted (by_parts is_same_long part_of parts) → AreCounted (by_key is_same_long part')
      → AreCounted (by_parts is_same_long part_of (set parts i part'))
  counted_set counted counted' = λ key kept there. counted_at key kept (i == part_of key) refl counted counted' there

  pub fit_set : (key : LongPlace) → part_of key ≡ i → AreFit is_same_long part_of parts → AreCounted (by_key is_same_long part')
      → ((q : LongPlace) → is_same_long key q ≡ false → by_key is_same_long part' q ≡ by_key is_same_long part q)
      → AreFit is_same_long part_of (set parts i part')
  fit_set key here fit counted' stay =
      fit_part is_same_long same_long part_of parts i part part' within at key here fit (λ tidy. counted_tidy (by_key is_same_long part') counted')
      (λ q n other. ap (λ o. sums_at o n) (stay q other))

  new_of : (t : Name) (n : ℕ) → i ≡ part_of t.place → names_by (by_parts is_same_long part_of (set parts i part')) t n ≡ names_by (by_key is_same_long part') t n
  new_of t n is = ap (λ o. side_of (sums_at o) t.side n) (here_new is_same_long same_long part_of parts i part part' within at t.place is)

  old_of : (t : Name) (n : ℕ) → i ≡ part_of t.place → names_by (by_parts is_same_long part_of parts) t n ≡ names_by (by_key is_same_long part) t n
  old_of t n is = ap (λ o. side_of (sums_at o) t.side n) (here_old is_same_long same_long part_of parts i part part' within at t.place is)

  far_of : (t : Name) (n : ℕ) → (i ≡ part_of t.place → ⊥)
      → names_by (by_parts is_same_long part_of (set parts i part')) t n ≡ names_by (by_parts is_same_long part_of parts) t n
  far_of t n apart = ap (λ o. side_of (sums_at o) t.side n) (apart_case is_same_long same_long part_of parts i part' t.place apart)

  rests_case : (t : Name) (n : ℕ) (b : Bool) → (i == part_of t.place) ≡ b → Rests (names_by (by_key is_same_long part)) (names_by (by_key is_same_long part'))
      → names_by (by_parts is_same_long part_of (set parts i part')) t n ≡ names_by (by_parts is_same_long part_of parts) t n
  rests_case t n true is rest = let e = eqb-true i (part_of t.place) is in new_of t n e ∙ rest t n ∙ sym (old_of t n e)
  rests_case t n false is rest = far_of t n (eqb-false i (part_of t.place) is)

  pub rests_set : Rests (names_by (by_key is_same_long part)) (names_by (by_key is_same_long part'))
      → Rests (names_by (by_parts is_same_long part_of parts)) (names_by (by_parts is_same_long part_of (set parts i part')))
  rests_set rest = λ t n. rests_case t n (i == part_of t.place) refl rest

  module _ (name : Name) (here : part_of name.place ≡ i) where
    other_name : (t : Name) → (i ≡ part_of t.place → ⊥) → is_same_name name t ≡ false
    other_name t apart = go (is_same_name name t) refl
      where
        go : (b : Bool) → is_same_name name t ≡ b → b ≡ false
        go true is = absurd (apart (sym here ∙ ap (λ (x : Name). part_of x.place) (same_name name t is)))
        go false is = refl

    shift_case' : (how : ℕ → ℕ → ℕ) → ((sum : ℕ) → how 0 sum ≡ sum) → (field amount : ℕ) (t : Name) (n : ℕ) (b : Bool) → (i == part_of t.place) ≡ b
        → Shifts is_same_name how (names_by (by_key is_same_long part)) (names_by (by_key is_same_long part')) name field amount
        → names_by (by_parts is_same_long part_of (set parts i part')) t n
        ≡ how (cond (is_same_name name t && (field == n && nat_lt n 9)) amount 0) (names_by (by_parts is_same_long part_of parts) t n)
    shift_case' how none field amount t n true is more =
        let e = eqb-true i (part_of t.place) is in
        new_of t n e ∙ more t n ∙ ap (how (cond (is_same_name name t && (field == n && nat_lt n 9)) amount 0)) (sym (old_of t n e))
    shift_case' how none field amount t n false is more =
        let apart = eqb-false i (part_of t.place) is in
        far_of t n apart ∙ sym (none (names_by (by_parts is_same_long part_of parts) t n))
        ∙ ap (λ x. how x (names_by (by_parts is_same_long part_of parts) t n)) (sym (other_amount (is_same_name name t) (field == n && nat_lt n 9) amount (other_name t apart)))

    pub shifts_set : (how : ℕ → ℕ → ℕ) → ((sum : ℕ) → how 0 sum ≡ sum) → (field amount : ℕ)
        → Shifts is_same_name how (names_by (by_key is_same_long part)) (names_by (by_key is_same_long part')) name field amount
        → Shifts is_same_name how (names_by (by_parts is_same_long part_of parts)) (names_by (by_parts is_same_long part_of (set parts i part'))) name field amount
    shifts_set how none field amount more = λ t n. shift_case' how none field amount t n (i == part_of t.place) refl more

    pub has_set : has_sums (names_by (by_parts is_same_long part_of parts) name) ≡ has_sums (names_by (by_key is_same_long part) name)
    has_set = ap (λ o. has_sums (side_of (sums_at o) name.side)) (here_old is_same_long same_long part_of parts i part part' within at name.place (sym here))

    pub posted_set : (may_begin : Bool) (field amount : ℕ) (full : Option Bool)
        → Posted is_same_name may_begin name field amount (names_by (by_key is_same_long part)) (names_by (by_key is_same_long part')) full
        → Posted is_same_name may_begin name field amount (names_by (by_parts is_same_long part_of parts)) (names_by (by_parts is_same_long part_of (set parts i part'))) full
    posted_set may_begin field amount None is = (has_set ∙ is.0, rests_set is.1)
    posted_set may_begin field amount (Some full) is = (
      shifts_set raise raise_none field amount is.0,
      (λ low. subst (λ x. x < greatest) (sym (new_of name field (sym here))) (is.1.0 low), λ no. has_set ∙ is.1.1 no),
    )

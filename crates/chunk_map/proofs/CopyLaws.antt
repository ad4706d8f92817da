-- Copies by offset, of which none meet: the search for one, and one more.
use Rattle.std.proofs.Common.{◌≡◌, ℕ, ◌<◌, ◌≤◌, ◌≢◌, ◌⊎◌, inl, inr, false, List, [], ◌∷◌, ◌++◌, refl, sym, ap, subst, ◌∙◌, arith, ⊎_elim}
use Rattle.std.specs.Prelude.{Option, Some, None, IsSome}
use Rattle.std.specs.Ordering.{nat_cmp, is_lt}
use Rattle.std.specs.Map.{lookup}
use Rattle.std.specs.Cmp.{unsigned_tied}
use Rattle.std.specs.BTreeMap.{BTreeMap, is_at}
use Rattle.std.specs.BTreeMap.Range.{IsRangeOf}
use Rattle.std.specs.declared.ops.Bound.TheVariants.{Included, Unbounded}
use Rattle.std.proofs.lemmas.Bool.{ne_eqb}
use Rattle.std.proofs.lemmas.Map.Keys.{le_from_not_gt, ge_from_not_lt}
use Rattle.verdict.proofs.Numbers.{same_or_not, not_above}
use Rattle.verdict.specs.declared.place.Chunk.{Chunk}
use Rattle.chunk_map.specs.Order.{copy_from, Has, AreTurned, AreOutside, NoneFrom, IsLast}

-- what the ordered map finds at an offset
from_found : (copies : List (ℕ × Chunk)) (k : ℕ) (o : Option Chunk) → lookup (is_at (nat_cmp k)) copies ≡ o → copy_from copies k ≡ o
unfolding copy_from
from_found copies k o h = h

none_above : (m : BTreeMap ℕ Chunk) (e : ℕ × Chunk) (k : ℕ) (o : Option Chunk) → lookup (is_at (nat_cmp k)) m.entries ≡ o → e.0 < k → (IsSome (lookup (is_at (nat_cmp k)) m.entries) → is_lt (nat_cmp e.0 k) ≡ false) → copy_from m.entries k ≡ None
none_above m e k None is low least = from_found m.entries k None is
none_above m e k (Some v) is low least =
    let up : k ≤ e.0 = ge_from_not_lt e.0 k (least (rw is refl)) in
    absurd (omega arith)

pub last_found : (m : BTreeMap ℕ Chunk) (to : ℕ) (r : List (ℕ × Chunk)) → IsRangeOf nat_cmp Unbounded (Included to) m r → (e : ℕ × Chunk) (t : List (ℕ × Chunk)) → r ≡ t ++ e ∷ [] → IsLast m.entries to e.0 e.1
last_found m to r range e t is =
    let inside = range.3 e t is in
    record {
      low = le_from_not_gt e.0 to inside.0.1;
      here = from_found m.entries e.0 (Some e.1) inside.1;
      last = λ k low high. none_above m e k _ refl low (λ some. range.4 e t is k (tt, not_above k to high) some);
    }

pub none_found : (m : BTreeMap ℕ Chunk) (to : ℕ) (r : List (ℕ × Chunk)) → IsRangeOf nat_cmp Unbounded (Included to) m r → r ≡ [] → NoneFrom m.entries to
none_found m to r range is k high = from_found m.entries k None (range.5 is k (tt, not_above k to high))

-- one copy more, outside the others
module _ (copies more : List (ℕ × Chunk)) (y : Chunk) (kept : AreTurned copies) (outside : AreOutside copies y.start y.length) (some : 0 < y.length) (here : copy_from more y.start ≡ Some y) (others : (k : ℕ) → k ≢ y.start → copy_from more k ≡ copy_from copies k) where
  which : (k : ℕ) (copy : Chunk) → copy_from more k ≡ Some copy → ((k ≡ y.start) × (copy ≡ y)) ⊎ (copy_from copies k ≡ Some copy)
  which k copy h =
      elim (same_or_not k y.start) [
        | inl e ↦ let found : copy_from more k ≡ Some y = subst (λ i. copy_from more i ≡ Some y) (sym e) here in inl (e, cc)
        | inr e ↦ inr (sym (others k e) ∙ h)
      ]

  pub put_turned : AreTurned more
  put_turned = record {
    at_start = λ k copy h. ⊎_elim (λ e. ap (λ (c : Chunk). c.start) e.1 ∙ sym e.0) (λ old. kept.at_start k copy old) (which k copy h);
    some = λ k copy h. ⊎_elim (λ e. subst (λ (c : Chunk). 0 < c.length) (sym e.1) some) (λ old. kept.some k copy old) (which k copy h);
    apart = λ k l copy next h g low.
        elim (which k copy h) [
          | inl e ↦ elim (which l next g) [
            | inl f ↦ absurd (let a : k ≡ y.start = e.0 in let b : l ≡ y.start = f.0 in omega arith)
            | inr old ↦
                let long : copy.length ≡ y.length = ap (λ (c : Chunk). c.length) e.1 in
                let at_it : k ≡ y.start = e.0 in
                ⊎_elim (λ b. absurd (let size : 0 < next.length = kept.some l next old in omega arith)) (λ b. omega arith) (outside l next old)
          ]
          | inr old ↦ elim (which l next g) [
            | inl f ↦
                let at_it : l ≡ y.start = f.0 in
                ⊎_elim (λ b. omega arith) (λ b. absurd (omega arith)) (outside k copy old)
            | inr new ↦ kept.apart k l copy next old new low
          ]
        ];
  }

  pub put_more : (copy : Chunk) → Has copies copy → Has more copy
  put_more copy has =
      elim (same_or_not copy.start y.start) [
        | inl e ↦ absurd (let size : 0 < copy.length = kept.some copy.start copy has in
            ⊎_elim {C = ⊥} (λ b. omega arith) (λ b. omega arith) (outside copy.start copy has))
        | inr e ↦ others copy.start e ∙ has
      ]

  pub put_old : (copy : Chunk) → Has more copy → Has copies copy ⊎ (copy ≡ y)
  put_old copy has = ⊎_elim (λ e. inr e.1) (λ old. inl old) (which copy.start copy has)

-- what an insertion leaves
pub insert_others : (copies more : List (ℕ × Chunk)) (at : ℕ) → ((q : ℕ) → is_at (nat_cmp at) q ≡ false → lookup (is_at (nat_cmp q)) more ≡ lookup (is_at (nat_cmp q)) copies) → (k : ℕ) → k ≢ at → copy_from more k ≡ copy_from copies k
unfolding copy_from
insert_others copies more at stay k other = stay k (unsigned_tied at k ∙ ne_eqb at k (λ e. other (sym e)))

pub insert_here : (more : List (ℕ × Chunk)) (at : ℕ) (o : Option Chunk) → lookup (is_at (nat_cmp at)) more ≡ o → copy_from more at ≡ o
insert_here more at o h = from_found more at o h

-- no copies
pub none_there : (copies : List (ℕ × Chunk)) → copies ≡ [] → (copy : Chunk) → Has copies copy → ⊥
unfolding copy_from
none_there copies e copy has = let absent : copy_from copies copy.start ≡ None = ap (λ cs. copy_from cs copy.start) e in cc

pub none_turned : (copies : List (ℕ × Chunk)) → copies ≡ [] → AreTurned copies
unfolding copy_from
none_turned copies e =
    let none : (k : ℕ) → copy_from copies k ≡ None = λ k. ap (λ cs. copy_from cs k) e in
    record {
      at_start = λ k copy h. (let absent : copy_from copies k ≡ None = none k in cc);
      some = λ k copy h. (let absent : copy_from copies k ≡ None = none k in cc);
      apart = λ k l copy next h g low. (let absent : copy_from copies k ≡ None = none k in cc);
    }

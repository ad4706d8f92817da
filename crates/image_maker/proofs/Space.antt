-- The room that the items of a leaf take.
use Rattle.std.proofs.Common.{◌≡◌, ℕ, ◌+◌, ◌<◌, ◌≤◌, Bool, true, List, [], ◌∷◌, ◌++◌, length, get_or, take, drop, nat_le, refl, sym, ap, ◌∙◌, arith, add-one, drop-cons}
use Rattle.std.proofs.lemmas.Grind.{common_steps}
use Rattle.std.proofs.lemmas.List.{append_assoc, take_more}
use Rattle.std.specs.Prelude.{if◌then◌else◌}
use Rattle.image_maker.specs.Maker.{item}
use Rattle.image_maker.specs.declared.leaf_item.LeafItem.{LeafItem}
use Rattle.image_maker.specs.Leaf.{space_of}

pub space_after_item : (xs : List LeafItem) (x : LeafItem) → space_of (xs ++ x ∷ []) ≡ space_of xs + (25 + length x.bytes)
space_after_item [] x = omega arith
space_after_item (y ∷ ys) x = omega (arith, space_after_item ys x)

-- the room of what is left is that of the next item and of what is left behind it
pub space_left : (xs : List LeafItem) (i : ℕ) (d : LeafItem) → i < length xs → space_of (drop i xs) ≡ 25 + length (get_or xs i d).bytes + space_of (drop (i + 1) xs)
space_left xs i d h = rw add-one (rw (drop-cons xs i d h) refl)

pub count_within_space : (xs : List LeafItem) → length xs ≤ space_of xs
count_within_space [] = omega arith
count_within_space (y ∷ ys) = omega (arith, count_within_space ys)

-- where all items fit, the next fits, and what came so far then ends with it
pub next_item : (old now new items : List LeafItem) (i size : ℕ) (x : LeafItem) (bytes : List ℕ) (fits : Bool) →
    i < length items → x ≡ get_or items i x → bytes ≡ x.bytes →
    fits ≡ nat_le (126 + space_of now + length bytes) size →
    new ≡ (if fits then now ++ item x.key bytes ∷ [] else now) →
    101 + (space_of old + space_of items) ≤ size →
    (space_of now + space_of (drop i items) ≡ space_of old + space_of items) × (now ≡ old ++ take i items) →
    (space_of new + space_of (drop (i + 1) items) ≡ space_of old + space_of items) × (new ≡ old ++ take (i + 1) items)
next_item old now new items i size x bytes fits inside is same tested put room before =
    let long : length bytes ≡ length (get_or items i x).bytes = ap length same ∙ ap (λ (y : LeafItem). length y.bytes) is in
    let left = space_left items i x inside in
    let within : 126 + space_of now + length bytes ≤ size = omega (arith, left, long, before.0, room) in
    let yes : fits ≡ true = tested ∙ holds_at (126 + space_of now + length bytes) size within in
    let pushed : LeafItem = item x.key bytes in
    let whole : pushed ≡ x = ap (λ b. item x.key b) same in
    let after : new ≡ now ++ pushed ∷ [] = put ∙ ap (λ f. if f then now ++ pushed ∷ [] else now) yes in
    let behind : new ≡ old ++ take (i + 1) items =
    after ∙ ap (λ l. l ++ pushed ∷ []) before.1 ∙ append_assoc old (take i items) (pushed ∷ [])
    ∙ ap (λ y. old ++ (take i items ++ y ∷ [])) (whole ∙ is) ∙ ap (λ l. old ++ l) (sym (take_more items i x inside)) in
    (omega (arith, ap space_of after, space_after_item now pushed, left, long, before.0), behind)
  where
    holds_at : (a b : ℕ) → a ≤ b → nat_le a b ≡ true
    holds_at a b is = grind (arith, common_steps)

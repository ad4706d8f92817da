-- Any two chunks of a system array lie apart or are the same.
use Rattle.std.proofs.Common.{◌≡◌, ℕ, ◌==◌, Bool, true, false, ◌&&◌, ◌||◌, List, [], ◌∷◌, length, inl, inr, refl, ap, sym, subst, ◌∙◌}
use Rattle.std.proofs.lemmas.Bool.{eqb-true}
use Rattle.std.specs.Prelude.{Option, Some, None, nat_eq}
use Rattle.std.specs.List.{AllByRecursion, list_any}
use Rattle.std.specs.Option.{option_eq}
use Rattle.verdict.proofs.Lists.{all_map as each_map}
use Rattle.verdict.proofs.Numbers.{itself}
use Rattle.verdict.specs.declared.place.Chunk.{Chunk}
use Rattle.verdict.proofs.Tables.{joined_none}
use Rattle.volume_items.specs.ChunkOrder.{by_start}
use Rattle.volume_items.specs.MapRules.{array_rows, rows_by_start, same_chunk}
use Rattle.touched_blocks.specs.Moves.{AreApart, LieApart, same_second}
use Rattle.tree_laws.specs.ArrayMoves.{ArrayApartLaw, LieApartOrSame}
use Rattle.tree_laws.proofs.ArrayPlaces.{array_is}
use Rattle.tree_laws.proofs.ArrayTree.{array_has}
use Rattle.tree_laws.proofs.Picking.{one_of}
use Rattle.tree_laws.proofs.Premises.{chunks_apart, flip}
use Rattle.tree_laws.proofs.Treed.{map_kept, steps_of}

-- two chunks hold the same addresses at the same places
record Agree (c d : Chunk) : Type 0 where
  pub start : c.start ≡ d.start
  pub length_is : c.length ≡ d.length
  pub first : c.first ≡ d.first
  pub second : c.second ≡ d.second

agree : (c d : Chunk) → same_chunk c d ≡ true → Agree c d
agree c d same =
    let parts =
    five (c.start == d.start) (c.length == d.length) (c.class == d.class) (c.first == d.first) (option_eq nat_eq c.second d.second) same in
    record {
      start = eqb-true c.start d.start parts.0;
      length_is = eqb-true c.length d.length parts.1;
      first = eqb-true c.first d.first parts.2;
      second = seconds c.second d.second parts.3;
    }
  where
    five : (p q r s t : Bool) → (p && q && r && s && t) ≡ true → (p ≡ true) × (q ≡ true) × (s ≡ true) × (t ≡ true)
    five false q r s t is = absurd (cc)
    five true false r s t is = absurd (cc)
    five true true false s t is = absurd (cc)
    five true true true false t is = absurd (cc)
    five true true true true false is = absurd (cc)
    five true true true true true is = (refl, refl, refl, refl)

    seconds : (x y : Option ℕ) → option_eq nat_eq x y ≡ true → x ≡ y
    seconds None None is = refl
    seconds None (Some y) is = absurd (cc)
    seconds (Some x) None is = absurd (cc)
    seconds (Some x) (Some y) is = ap (λ (k : ℕ). Some k) (eqb-true x y is)

second_itself : (x : Option ℕ) → same_second x x ≡ true
second_itself None = refl
second_itself (Some n) = itself n

all_true : (p q r s : Bool) → p ≡ true → q ≡ true → r ≡ true → s ≡ true → ((p && q) && (r && s)) ≡ true
all_true p q r s a b c d = rw (a, b, c, d) refl

-- two that agree with one are the same
are_same : (c d x : Chunk) → Agree c x → Agree d x → LieApartOrSame c d
are_same c d x a b =
    inr (all_true (c.start == d.start) (c.length == d.length) (c.first == d.first) (same_second c.second d.second)
    (rw (a.start ∙ sym b.start) (itself d.start)) (rw (a.length_is ∙ sym b.length_is) (itself d.length))
    (rw (a.first ∙ sym b.first) (itself d.first)) (rw (a.second ∙ sym b.second) (second_itself d.second)))

-- two that agree with two that lie apart lie apart
apart_as : (c d x y : Chunk) → Agree c x → Agree d y → LieApart x y → LieApart c d
apart_as c d x y a b (inl before) = inl (rw (a.start, a.length_is, b.start) before)
apart_as c d x y a b (inr behind) = inr (rw (b.start, b.length_is, a.start) behind)

two : (c d : Chunk) (chunks : List Chunk) → AreApart chunks → list_any (same_chunk c) chunks ≡ true → list_any (same_chunk d) chunks ≡ true
    → LieApartOrSame c d
two c d [] apart some other = absurd (cc)
two c d (x ∷ xs) apart some other = by (same_chunk c x) (same_chunk d x) refl refl some other (two c d xs apart.1)
  where
    by : (p q : Bool) → same_chunk c x ≡ p → same_chunk d x ≡ q → (p || list_any (same_chunk c) xs) ≡ true → (q || list_any (same_chunk d) xs) ≡ true
        → (list_any (same_chunk c) xs ≡ true → list_any (same_chunk d) xs ≡ true → LieApartOrSame c d) → LieApartOrSame c d
    by true true c_is d_is some other rest = are_same c d x (agree c x c_is) (agree d x d_is)
    by true false c_is d_is some other rest =
        let pick = one_of (LieApart x) (same_chunk d) xs apart.0 other in
        inl (apart_as c d x pick.0 (agree c x c_is) (agree d pick.0 pick.2) pick.1)
    by false true c_is d_is some other rest =
        let pick = one_of (LieApart x) (same_chunk c) xs apart.0 some in
        inl (apart_as c d pick.0 x (agree c pick.0 pick.2) (agree d x d_is) (flip x pick.0 pick.1))
    by false false c_is d_is some other rest = rest some other

pub array_apart : ArrayApartLaw
array_apart image whole array has =
    let s = steps_of image whole has.walks in
    let same = array_is image whole array s has in
    let none = map_kept whole.sup s.array whole.chunks image s.chunks_are in
    let both = joined_none (array_rows whole.chunks s.array) (rows_by_start [] (by_start whole.chunks) (length image)) none in
    let In = λ (c : Chunk). list_any (same_chunk c) whole.chunks ≡ true in
    let each : AllByRecursion In array = subst (AllByRecursion In) same (array_has whole.chunks s.array both.0) in
    each_map In (λ c. AllByRecursion (LieApartOrSame c) array) array
    (λ c here. each_map In (LieApartOrSame c) array
    (λ d there. two c d whole.chunks (chunks_apart image whole has.walks) here there) each) each

-- Chunks that hold a range, in lists of chunks that stand apart.
use Rattle.std.proofs.Common.{◌≡◌, ℕ, zero, suc, ◌+◌, ◌<◌, ◌≤◌, true, List, [], ◌∷◌, length, get_or, inl, inr, refl, sym, ap, ◌∙◌, subst}
use Rattle.std.proofs.Common.{arith, nat_le}
use Rattle.std.specs.Prelude.{Option, Some, None, IsSome}
use Rattle.std.specs.List.{AllPairs, Contains}
use Rattle.std.proofs.lemmas.Bool.{and_from, and_parts, cases_order, eq-eqb, le-leb, leb-true, ltb-true}
use Rattle.std.proofs.lemmas.List.{get_or_default}
use Rattle.std.proofs.lemmas.List.Elements.{All-from_recursion}
use Rattle.verdict.specs.Chunks.{holds_range, home}
use Rattle.verdict.specs.declared.place.Chunk.{Chunk}
use Rattle.accounts.specs.Context.{home_in}
use Rattle.accounts.specs.declared.context.Home.{Home}
use Rattle.tree_laws.specs.MergedLaw.{begins_before}
use Rattle.touched_blocks.specs.Moves.{AreApart, LieApart}
use Rattle.change_records.specs.Homes.{StandApart, is_kept, is_like}
use Rattle.change_records.proofs.HomeLaws.{IsHolder, home_some, nowhere, one_holder}

-- a chunk that holds a range of some bytes has some
pub holder_some : (c : Chunk) (a n : ℕ) → 0 < n → holds_range c a n ≡ true → 0 < c.length
holder_some c a n some holds =
    let both = and_parts (nat_le c.start a) (nat_le (a + n) (c.start + c.length)) holds in
    let first : c.start ≤ a = leb-true _ _ both.0 in
    let last : a + n ≤ c.start + c.length = leb-true _ _ both.1 in
    omega (arith, first, last, some)

-- a chunk with the start, length and class of one in a list of chunks that stand apart is kept there
pub kept_by : (others : List Chunk) (c d : Chunk) → StandApart others → 0 < c.length → Contains others d → home_in d ≡ home_in c
    → is_kept others c ≡ true
unfolding is_kept
kept_by others c d apart some among same = by (home others c.start c.length) refl
  where
    start : d.start ≡ c.start
    start = ap (λ (h : Home). h.start) same

    size : d.length ≡ c.length
    size = ap (λ (h : Home). h.length) same

    holds : holds_range d c.start c.length ≡ true
    holds =
        let low : d.start ≤ c.start = omega (arith, start) in
        let high : c.start + c.length ≤ d.start + d.length = omega (arith, start, size) in
        and_from _ _ (le-leb _ _ low) (le-leb _ _ high)

    holder : IsHolder others c.start c.length d
    holder = record { among = among; holds = holds }

    alike : is_like c (Some d) ≡ true
    alike =
        and_from _ _ (eq-eqb d.start c.start start)
        (and_from _ _ (eq-eqb d.length c.length size) (eq-eqb d.class c.class (ap (λ (h : Home). h.class) same)))

    by : (o : Option Chunk) → home others c.start c.length ≡ o → is_like c o ≡ true
    by None none = absurd (nowhere others c.start c.length d holder none)
    by (Some e) found =
        let one : e ≡ d = one_holder others c.start c.length e d apart some (home_some others c.start c.length e found) holder in
        subst (λ x. is_like c (Some x) ≡ true) (sym one) alike

-- chunks that have no address in common and begin one before the other stand apart
first_apart : (c d : Chunk) → LieApart c d → begins_before c d ≡ true → c.start + c.length ≤ d.start
first_apart c d (inl low) before = low
first_apart c d (inr high) before =
    let less : c.start < d.start = ltb-true c.start d.start before in
    absurd (omega (arith, high, less))

pub stand_apart : (chunks : List Chunk) → AreApart chunks → AllPairs (λ a b. begins_before a b ≡ true) chunks → StandApart chunks
stand_apart [] apart ascend i j d less small = absurd (omega (arith, small))
stand_apart (c ∷ chunks) apart ascend zero zero d less small = absurd (omega (arith, less))
stand_apart (c ∷ chunks) apart ascend zero (suc j) d less small =
    first_apart c (get_or chunks j d) (All-from_recursion (LieApart c) chunks apart.0 j d (omega (arith, small)))
    (ascend zero (suc j) d less small)
stand_apart (c ∷ chunks) apart ascend (suc i) zero d less small = absurd (omega (arith, less))
stand_apart (c ∷ chunks) apart ascend (suc i) (suc j) d less small =
    stand_apart chunks apart.1 (λ k m e before within. ascend (suc k) (suc m) e (omega (arith, before)) (omega (arith, within))) i j d
    (omega (arith, less)) (omega (arith, small))

-- The blocks that are in use, and those that are free.
use Rattle.std.proofs.Common.{◌≡◌, ℕ, ◌+◌, ◌<◌, Bool, true, List, length, get_or, set, take, inl, inr, sym, ◌∙◌, subst, arith}
use Rattle.std.specs.List.{All}
use Rattle.std.proofs.lemmas.Bool.{cases_eq, cases_lt}
use Rattle.std.proofs.lemmas.List.{get_or-set_same, get_or-set_other, get_or_past, length-set}
use Rattle.std.proofs.lemmas.List.Elements.{All-more, All-weaker}
use Rattle.volume_maker.specs.declared.block.BlockAt.{BlockAt}
use Rattle.volume_maker.specs.Remade.{IsFree, IsBusy}

-- a block that is taken is in use, or is none of the chunk
pub taken_is_busy : (space : List Bool) (number : ℕ) → IsBusy (set space number true) number
taken_is_busy space number =
    elim (cases_lt number (length space)) [
      | inl within ↦ get_or-set_same space number true true within
      | inr past ↦ get_or_past (set space number true) number true (omega (arith, length-set space number true))
    ]

-- what is in use stays so where another block is taken
pub still_busy : (space : List Bool) (number other : ℕ) → IsBusy space other → IsBusy (set space number true) other
still_busy space number other h =
    let P : ℕ → Type 0 = λ n. IsBusy (set space number true) n in
    elim (cases_eq other number) [
      | inl same ↦ subst P (sym same) (taken_is_busy space number)
      | inr apart ↦ get_or-set_other space number other true true apart ∙ h
    ]

-- a block that is in use is not free
pub busy_not_free : (space : List Bool) (number : ℕ) → IsBusy space number → IsFree space number → ⊥
busy_not_free space number busy free = let e = sym busy ∙ free in cc

-- one more block is in use
pub one_more_busy : (space after : List Bool) (blocks : List BlockAt) (i : ℕ) (d : BlockAt) → i < length blocks
    → after ≡ set space (get_or blocks i d).number true
    → All (λ o. IsBusy space o.number) (take i blocks) → All (λ o. IsBusy after o.number) (take (i + 1) blocks)
one_more_busy space after blocks i d within taken h =
    let b = get_or blocks i d in
    let P : BlockAt → Type 0 = λ o. IsBusy space o.number in
    let Q : BlockAt → Type 0 = λ o. IsBusy (set space b.number true) o.number in
    let R : List Bool → Type 0 = λ s. All (λ o. IsBusy s o.number) (take (i + 1) blocks) in
    subst R (sym taken)
    (All-more Q blocks i d within (All-weaker P Q (λ o busy. still_busy space b.number o.number busy) (take i blocks) h)
    (taken_is_busy space b.number))

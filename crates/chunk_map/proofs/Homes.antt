-- The chunk that holds a range whole, found by its start.
use Rattle.std.proofs.Common.{◌≡◌, ℕ, zero, suc, ◌+◌, ◌-◌, ◌<◌, ◌≤◌, ◌^◌, Bool, true, false, cond, List, [], ◌∷◌, length, get_or, refl, ap, sym, subst, ◌∙◌, arith, nat_le, ⊎_elim}
use Rattle.std.specs.Prelude.{Option, Some, None}
use Rattle.std.specs.Option.{IfSome}
use Rattle.std.specs.List.{All, Contains}
use Rattle.std.proofs.lemmas.Bool.{and_parts, leb-true, both_ways, cases_lt}
use Rattle.std.proofs.lemmas.Bool.Decides.{nat_tests}
use Rattle.std.proofs.lemmas.List.{get_or_default}
use Rattle.std.proofs.lemmas.List.Elements.{All-tail}
use Rattle.std.proofs.lemmas.List.Sorted.{All-permutation, Contains-permutation, IsPermutation-sym}
use Rattle.verdict.specs.Chunks.{holds_range, home}
use Rattle.verdict.specs.declared.place.Chunk.{Chunk}
use Rattle.volume_items.specs.ChunkOrder.{by_start}
use Rattle.chunk_map.specs.Order.{rank_by_start, AllFit, Ascend, AreApart, IsOnlyHome}
use Rattle.chunk_map.proofs.Ranks.{rank_below, rank_above, rank_low, by_start-permutes}

-- of chunks that are apart only the last that starts at most at a byte can hold it
holder_last : (chunks : List Chunk) (a n k : ℕ) (d : Chunk) → Ascend chunks → AreApart chunks → 0 < n → k < length chunks → holds_range (get_or chunks k d) a n ≡ true → k + 1 ≡ rank_by_start a chunks
holder_last chunks a n k d up apart some l held =
    let both = and_parts (nat_le (get_or chunks k d).start a) (nat_le (a + n) ((get_or chunks k d).start + (get_or chunks k d).length)) held in
    let low : (get_or chunks k d).start ≤ a = leb-true _ _ both.0 in
    let high : a + n ≤ (get_or chunks k d).start + (get_or chunks k d).length = leb-true _ _ both.1 in
    let rank : rank_by_start a chunks ≤ length chunks = rank_low a chunks in
    ⊎_elim (λ h. ⊎_elim (λ m.
    (let below : (get_or chunks (k + 1) d).start ≤ a = rank_below a chunks (k + 1) d m in
    let next : (get_or chunks k d).start + (get_or chunks k d).length ≤ (get_or chunks (k + 1) d).start = apart k d (omega arith) in
    absurd (omega arith))) (λ m. omega arith) (cases_lt (k + 1) (rank_by_start a chunks)))
    (λ h. (let above : a < (get_or chunks k d).start = rank_above a chunks k d up h l in absurd (omega arith)))
    (cases_lt k (rank_by_start a chunks))

-- none starts at most there
pub home_nowhere : (chunks : List Chunk) (a n r : ℕ) → Ascend chunks → AreApart chunks → 0 < n → r ≡ rank_by_start a chunks → r ≡ 0 → IsOnlyHome chunks a n None
home_nowhere chunks a n r up apart some is none = record {
  only = λ k d l held. (let last : k + 1 ≡ rank_by_start a chunks = holder_last chunks a n k d up apart some l held in absurd (omega arith));
  there = tt;
}

-- the last that starts at most there does not hold the range
pub home_not_last : (chunks : List Chunk) (a n r : ℕ) (e : Chunk) → Ascend chunks → AreApart chunks → 0 < n → r ≡ rank_by_start a chunks → holds_range (get_or chunks (r - 1) e) a n ≡ false → IsOnlyHome chunks a n None
home_not_last chunks a n r e up apart some is fails = record {
  only = λ k d l held.
      let last : k + 1 ≡ rank_by_start a chunks = holder_last chunks a n k d up apart some l held in
      let at : k ≡ r - 1 = omega arith in
      let same : get_or chunks k d ≡ get_or chunks (r - 1) e = get_or_default chunks k d e l ∙ ap (λ i. get_or chunks i e) at in
      let yes : holds_range (get_or chunks (r - 1) e) a n ≡ true = subst (λ c. holds_range c a n ≡ true) same held in
      absurd (both_ways _ fails yes);
  there = tt;
}

-- it holds it
pub home_last : (chunks : List Chunk) (a n r : ℕ) (e : Chunk) → Ascend chunks → AreApart chunks → 0 < n → r ≡ rank_by_start a chunks → 0 < r → holds_range (get_or chunks (r - 1) e) a n ≡ true → IsOnlyHome chunks a n (Some (get_or chunks (r - 1) e))
home_last chunks a n r e up apart some is rank holds =
    let low : rank_by_start a chunks ≤ length chunks = rank_low a chunks in
    record {
      only = λ k d l held.
          let last : k + 1 ≡ rank_by_start a chunks = holder_last chunks a n k d up apart some l held in
          let at : k ≡ r - 1 = omega arith in
          ap Some (sym (get_or_default chunks k d e l ∙ ap (λ i. get_or chunks i e) at));
      there = ((r - 1, omega arith, get_or_default chunks (r - 1) (get_or chunks (r - 1) e) e (omega arith)), holds);
    }

in_tail : (chunk : Chunk) (chunks : List Chunk) (c : Chunk) (a n : ℕ) → holds_range chunk a n ≡ false → holds_range c a n ≡ true → (k : ℕ) → k < suc (length chunks) → get_or (chunk ∷ chunks) k c ≡ c → Contains chunks c
in_tail chunk chunks c a n e held zero l is = absurd (both_ways _ e (subst (λ x. holds_range x a n ≡ true) (sym is) held))
in_tail chunk chunks c a n e held (suc k) l is = (k, omega arith, is)

behind : (chunk : Chunk) (chunks : List Chunk) (a n : ℕ) (found : Option Chunk) → holds_range chunk a n ≡ false → IfSome found (λ c. Contains (chunk ∷ chunks) c × (holds_range c a n ≡ true)) → IfSome found (λ c. Contains chunks c × (holds_range c a n ≡ true))
behind chunk chunks a n None e there = tt
behind chunk chunks a n (Some c) e there = (in_tail chunk chunks c a n e there.1 there.0.0 there.0.1 there.0.2, there.1)

-- the only one of some chunks that holds a range is the first
only_home : (chunks : List Chunk) (a n : ℕ) (found : Option Chunk) → All (λ (chunk : Chunk). holds_range chunk a n ≡ true → found ≡ Some chunk) chunks → IfSome found (λ chunk. Contains chunks chunk × (holds_range chunk a n ≡ true)) → home chunks a n ≡ found
only_home [] a n None only there = refl
only_home [] a n (Some chunk) only there = absurd (let low : there.0.0 < 0 = there.0.1 in omega arith)
only_home (chunk ∷ chunks) a n found only there =
    (elim (holds_range chunk a n) as (λ b. holds_range chunk a n ≡ b → cond b (Some chunk) (home chunks a n) ≡ found) [
      | true ↦ λ e. sym (only 0 chunk (omega arith) e)
      | false ↦ λ e. only_home chunks a n found (All-tail (λ (c : Chunk). holds_range c a n ≡ true → found ≡ Some c) chunk chunks only) (behind chunk chunks a n found e there)
    ]) refl

moved : (chunks sorted : List Chunk) (a n : ℕ) (found : Option Chunk) → sorted ≡ by_start chunks → IfSome found (λ c. Contains sorted c × (holds_range c a n ≡ true)) → IfSome found (λ c. Contains chunks c × (holds_range c a n ≡ true))
moved chunks sorted a n None order there = tt
moved chunks sorted a n (Some c) order there =
    (Contains-permutation (by_start chunks) chunks c (IsPermutation-sym chunks (by_start chunks) (by_start-permutes chunks)) (subst (λ cs. Contains cs c) order there.0), there.1)

-- the only one by start is the first of the list
pub home_by_start : (chunks sorted : List Chunk) (a n : ℕ) (found : Option Chunk) → sorted ≡ by_start chunks → IsOnlyHome sorted a n found → found ≡ home chunks a n
home_by_start chunks sorted a n found order is =
    let back = IsPermutation-sym chunks (by_start chunks) (by_start-permutes chunks) in
    let P : Chunk → Type 0 = λ chunk. holds_range chunk a n ≡ true → found ≡ Some chunk in
    let only : All P chunks = All-permutation P (by_start chunks) chunks back (subst (All P) order is.only) in
    sym (only_home chunks a n found only (moved chunks sorted a n found order is.there))

-- of chunks that all end at addresses of 64 bits, what the first that holds a range holds does
home_fits_in : (chunk : Chunk) (a n : ℕ) (holds : Bool) (later : Option Chunk) → holds_range chunk a n ≡ holds → chunk.start + chunk.length ≤ 18446744073709551615 → IfSome later (λ _. a + n < 2 ^ 64) → IfSome (cond holds (Some chunk) later) (λ _. a + n < 2 ^ 64)
home_fits_in chunk a n true later is fits rest = grind (arith, nat_tests)
home_fits_in chunk a n false later is fits rest = rest

pub home_fits : (chunks : List Chunk) (a n : ℕ) → AllFit chunks → IfSome (home chunks a n) (λ _. a + n < 2 ^ 64)
home_fits [] a n fit = tt
home_fits (chunk ∷ chunks) a n fit = home_fits_in chunk a n (holds_range chunk a n) (home chunks a n) refl fit.0 (home_fits chunks a n fit.1)

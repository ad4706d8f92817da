-- The place of a chunk among chunks by start, and that chunks by start ascend and are the same chunks.
use Rattle.std.proofs.Common.{◌≡◌, ℕ, zero, suc, ◌+◌, ◌-◌, ◌<◌, ◌≤◌, true, false, cond, List, [], ◌∷◌, ◌++◌, length, get_or, refl, ap, sym, subst, ◌∙◌, arith, nat_le, leb, inl, inr, ⊎_elim, ◌⊎◌}
use Rattle.std.specs.List.{insert}
use Rattle.std.specs.List.Sorted.{IsPermutation, IsPartitionPoint}
use Rattle.std.proofs.lemmas.Bool.{leb-true, leb-false, cases_lt}
use Rattle.std.proofs.lemmas.List.{append-nil, get_or_default}
use Rattle.std.proofs.lemmas.List.Edits.{length-insert, get_or-insert_below, get_or-insert_at, get_or-insert_above}
use Rattle.std.proofs.lemmas.List.Sorted.{IsNonDecreasingBy-drop, IsNonDecreasingBy-insert, IsNonDecreasingBy-short, IsPermutation-refl, IsPermutation-insert, IsPermutation-middle, IsPermutation-append_left, IsPermutation-trans}
use Rattle.verdict.specs.declared.place.Chunk.{Chunk}
use Rattle.volume_items.specs.ChunkOrder.{put_by_start, all_by_start, by_start}
use Rattle.chunk_map.specs.Order.{rank_by_start, Ascend, AreApart}

pub rank_low : (start : ℕ) (chunks : List Chunk) → rank_by_start start chunks ≤ length chunks
rank_low start [] = omega arith
rank_low start (chunk ∷ chunks) =
    let rest : rank_by_start start chunks ≤ length chunks = rank_low start chunks in
    elim (nat_le chunk.start start) as (λ b. cond b (rank_by_start start chunks + 1) 0 ≤ suc (length chunks)) [ true ↦ omega arith | false ↦ omega arith ]

-- what stands in front of the place does not start behind it
pub rank_below : (start : ℕ) (chunks : List Chunk) (k : ℕ) (d : Chunk) → k < rank_by_start start chunks → (get_or chunks k d).start ≤ start
rank_below start [] k d h = absurd (omega arith)
rank_below start (chunk ∷ chunks) zero d h =
    (elim (nat_le chunk.start start) as (λ b. nat_le chunk.start start ≡ b → zero < cond b (rank_by_start start chunks + 1) 0 → chunk.start ≤ start) [
      | true ↦ λ e _. leb-true _ _ e
      | false ↦ λ e h. absurd (omega arith)
    ]) refl h
rank_below start (chunk ∷ chunks) (suc k) d h =
    (elim (nat_le chunk.start start) as (λ b. suc k < cond b (rank_by_start start chunks + 1) 0 → (get_or chunks k d).start ≤ start) [
      | true ↦ λ h. rank_below start chunks k d (omega arith)
      | false ↦ λ h. absurd (omega arith)
    ]) h

ascend_tail : (chunk : Chunk) (chunks : List Chunk) → Ascend (chunk ∷ chunks) → Ascend chunks
ascend_tail chunk chunks up = IsNonDecreasingBy-drop (λ (c : Chunk). c.start) 1 (chunk ∷ chunks) up

-- what stands behind the place starts behind it
pub rank_above : (start : ℕ) (chunks : List Chunk) (k : ℕ) (d : Chunk) → Ascend chunks → rank_by_start start chunks ≤ k → k < length chunks → start < (get_or chunks k d).start
rank_above start [] k d up h l = absurd (omega arith)
rank_above start (chunk ∷ chunks) zero d up h l =
    (elim (nat_le chunk.start start) as (λ b. nat_le chunk.start start ≡ b → cond b (rank_by_start start chunks + 1) 0 ≤ 0 → start < chunk.start) [
      | true ↦ λ e h. absurd (omega arith)
      | false ↦ λ e h. leb-false _ _ e
    ]) refl h
rank_above start (chunk ∷ chunks) (suc k) d up h l =
    (elim (nat_le chunk.start start) as (λ b. nat_le chunk.start start ≡ b → cond b (rank_by_start start chunks + 1) 0 ≤ suc k → start < (get_or chunks k d).start) [
      | true ↦ λ e h. rank_above start chunks k d (ascend_tail chunk chunks up) (omega arith) (omega arith)
      | false ↦ λ e h. (let low : start < chunk.start = leb-false _ _ e in let first : chunk.start ≤ (get_or chunks k d).start = up 0 (suc k) d (omega arith) l in omega arith)
    ]) refl h

-- the place between those that do not start behind a start and those that do
pub rank_from_point : (start : ℕ) (chunks : List Chunk) (i : ℕ) → i ≤ length chunks → IsPartitionPoint (λ (c : Chunk). leb c.start start ≡ true) (λ (c : Chunk). leb c.start start ≡ false) chunks i → i ≡ rank_by_start start chunks
rank_from_point start [] i l point = omega arith
rank_from_point start (chunk ∷ chunks) zero l point = rw (point.1 0 chunk (omega arith) (omega arith)) refl
rank_from_point start (chunk ∷ chunks) (suc i) l point =
    let rest : i ≡ rank_by_start start chunks = rank_from_point start chunks i (omega arith) ((λ k d p q. point.0 (suc k) d (omega arith) (omega arith)), (λ k d p q. point.1 (suc k) d (omega arith) (omega arith))) in
    rw (point.0 0 chunk (omega arith) (omega arith)) (omega arith)

-- to insert a chunk at its place is to put it by start
pub insert_rank : (chunk : Chunk) (chunks : List Chunk) → insert chunks (rank_by_start chunk.start chunks) chunk ≡ put_by_start chunk chunks
insert_rank chunk [] = refl
insert_rank chunk (other ∷ others) =
    elim (nat_le other.start chunk.start) as (λ b. insert (other ∷ others) (cond b (rank_by_start chunk.start others + 1) 0) chunk ≡ cond b (other ∷ put_by_start chunk others) (chunk ∷ other ∷ others)) [
      | true ↦ (let one : rank_by_start chunk.start others + 1 ≡ suc (rank_by_start chunk.start others) = omega arith in ap (λ n. insert (other ∷ others) n chunk) one) ∙ ap (λ cs. other ∷ cs) (insert_rank chunk others)
      | false ↦ refl
    ]

pub put_ascends : (chunk : Chunk) (chunks : List Chunk) → Ascend chunks → Ascend (put_by_start chunk chunks)
put_ascends chunk chunks up =
    subst Ascend (insert_rank chunk chunks)
    (IsNonDecreasingBy-insert (λ (c : Chunk). c.start) chunks (rank_by_start chunk.start chunks) chunk up (rank_low chunk.start chunks)
    (λ k d h. rank_below chunk.start chunks k d h)
    (λ k d h l. let more : chunk.start < (get_or chunks k d).start = rank_above chunk.start chunks k d up h l in omega arith))

pub put_permutes : (chunk : Chunk) (chunks : List Chunk) → IsPermutation (chunk ∷ chunks) (put_by_start chunk chunks)
put_permutes chunk chunks = subst (λ cs. IsPermutation (chunk ∷ chunks) cs) (insert_rank chunk chunks) (IsPermutation-insert chunks (rank_by_start chunk.start chunks) chunk)

all_ascend : (sorted chunks : List Chunk) → Ascend sorted → Ascend (all_by_start sorted chunks)
unfolding all_by_start
all_ascend sorted [] up = up
all_ascend sorted (chunk ∷ chunks) up = all_ascend (put_by_start chunk sorted) chunks (put_ascends chunk sorted up)

all_permute : (sorted chunks : List Chunk) → IsPermutation (sorted ++ chunks) (all_by_start sorted chunks)
unfolding all_by_start
all_permute sorted [] = subst (λ cs. IsPermutation cs sorted) (sym (append-nil sorted)) (IsPermutation-refl sorted)
all_permute sorted (chunk ∷ chunks) =
    IsPermutation-trans (sorted ++ chunk ∷ chunks) (chunk ∷ (sorted ++ chunks)) (all_by_start (put_by_start chunk sorted) chunks)
    (IsPermutation-middle sorted chunk chunks)
    (IsPermutation-trans (chunk ∷ (sorted ++ chunks)) (put_by_start chunk sorted ++ chunks) (all_by_start (put_by_start chunk sorted) chunks)
    (IsPermutation-append_left chunks (chunk ∷ sorted) (put_by_start chunk sorted) (put_permutes chunk sorted))
    (all_permute (put_by_start chunk sorted) chunks))

pub by_start-ascends : (chunks : List Chunk) → Ascend (by_start chunks)
by_start-ascends chunks = all_ascend [] chunks (IsNonDecreasingBy-short (λ (c : Chunk). c.start) [] (omega arith))

pub by_start-permutes : (chunks : List Chunk) → IsPermutation chunks (by_start chunks)
by_start-permutes chunks = all_permute [] chunks

cases_up : (k i : ℕ) → (i ≤ k + 1 → (k + 1 ≡ i) ⊎ (i ≤ k))
cases_up k i h = ⊎_elim (λ e. inr (omega arith)) (λ e. inl (omega arith)) (cases_lt i (k + 1))

-- the neighbours of each place, where one more is inserted
in_front : (chunks : List Chunk) (i k : ℕ) (y d : Chunk) → AreApart chunks → i ≤ length chunks → k + 1 < i → (get_or (insert chunks i y) k d).start + (get_or (insert chunks i y) k d).length ≤ (get_or (insert chunks i y) (k + 1) d).start
in_front chunks i k y d apart l h =
    rw (get_or-insert_below chunks i y d k (omega arith) l, get_or-insert_below chunks i y d (k + 1) h l) (apart k d (omega arith))

just_before : (chunks : List Chunk) (i k : ℕ) (y d : Chunk) → i ≤ length chunks → (0 < i → (get_or chunks (i - 1) y).start + (get_or chunks (i - 1) y).length ≤ y.start) → k + 1 ≡ i → (get_or (insert chunks i y) k d).start + (get_or (insert chunks i y) k d).length ≤ (get_or (insert chunks i y) (k + 1) d).start
just_before chunks i k y d l before e =
    let last : k ≡ i - 1 = omega arith in
    let one : get_or (insert chunks i y) k d ≡ get_or chunks (i - 1) y = get_or-insert_below chunks i y d k (omega arith) l ∙ ap (λ j. get_or chunks j d) last ∙ get_or_default chunks (i - 1) d y (omega arith) in
    let two : get_or (insert chunks i y) (k + 1) d ≡ y = ap (λ j. get_or (insert chunks i y) j d) e ∙ get_or-insert_at chunks i y d l in
    rw (one, two) (before (omega arith))

at_it : (chunks : List Chunk) (i k : ℕ) (y d : Chunk) → i ≤ length chunks → (i < length chunks → y.start + y.length ≤ (get_or chunks i y).start) → i ≡ k → k < length chunks → (get_or (insert chunks i y) k d).start + (get_or (insert chunks i y) k d).length ≤ (get_or (insert chunks i y) (k + 1) d).start
at_it chunks i k y d l behind e h =
    let one : get_or (insert chunks i y) k d ≡ y = ap (λ j. get_or (insert chunks i y) j d) (sym e) ∙ get_or-insert_at chunks i y d l in
    let two : get_or (insert chunks i y) (k + 1) d ≡ get_or chunks i y = get_or-insert_above chunks i y d k (omega arith) l ∙ ap (λ j. get_or chunks j d) (sym e) ∙ get_or_default chunks i d y (omega arith) in
    rw (one, two) (behind (omega arith))

far_behind : (chunks : List Chunk) (i k : ℕ) (y d : Chunk) → AreApart chunks → i ≤ length chunks → i + 1 ≤ k → k < length chunks → (get_or (insert chunks i y) k d).start + (get_or (insert chunks i y) k d).length ≤ (get_or (insert chunks i y) (k + 1) d).start
far_behind chunks i k y d apart l e h =
    let back : k ≡ (k - 1) + 1 = omega arith in
    let one : get_or (insert chunks i y) k d ≡ get_or chunks (k - 1) d = ap (λ j. get_or (insert chunks i y) j d) back ∙ get_or-insert_above chunks i y d (k - 1) (omega arith) l in
    let two : get_or (insert chunks i y) (k + 1) d ≡ get_or chunks ((k - 1) + 1) d = get_or-insert_above chunks i y d k (omega arith) l ∙ ap (λ j. get_or chunks j d) back in
    rw (one, two) (apart (k - 1) d (omega arith))

-- a chunk between the end of the one before and the start of the one behind
pub insert_apart : (chunks : List Chunk) (i : ℕ) (y : Chunk) → AreApart chunks → i ≤ length chunks → (0 < i → (get_or chunks (i - 1) y).start + (get_or chunks (i - 1) y).length ≤ y.start) → (i < length chunks → y.start + y.length ≤ (get_or chunks i y).start) → AreApart (insert chunks i y)
insert_apart chunks i y apart l before behind k d h =
    ⊎_elim (λ b. in_front chunks i k y d apart l b) (λ b.
    ⊎_elim (λ e. just_before chunks i k y d l before e) (λ e.
    ⊎_elim (λ f. far_behind chunks i k y d apart l (omega arith) (let long : length (insert chunks i y) ≡ length chunks + 1 = length-insert chunks i y l in omega arith)) (λ f.
    at_it chunks i k y d l behind (omega arith) (let long : length (insert chunks i y) ≡ length chunks + 1 = length-insert chunks i y l in omega arith))
    (cases_lt i k)) (cases_up k i b)) (cases_lt (k + 1) i)

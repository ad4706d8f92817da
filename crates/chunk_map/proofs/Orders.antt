-- The laws on chunks by start, and on the pairs of the system chunk array.
use Rattle.std.proofs.Common.{◌≡◌, ℕ, zero, suc, ◌+◌, ◌<◌, ◌≤◌, ◌==◌, ◌||◌, not, true, false, cond, List, [], ◌∷◌, ◌++◌, get_or, refl, ap, sym, ◌∙◌, arith, nat_le, nat_lt}
use Rattle.std.specs.Prelude.{Ok, Err, ◌&&◌}
use Rattle.std.specs.List.{All, filter}
use Rattle.std.proofs.lemmas.Bool.{or_parts, leb-false, ltb-false, eqb-true, ne_eqb, eq-eqb}
use Rattle.std.proofs.lemmas.List.{append-nil, append_assoc}
use Rattle.std.proofs.lemmas.List.Elements.{filter-append, All-tail}
use Rattle.std.proofs.lemmas.List.Sorted.{IsNonDecreasingBy-drop, IsNonDecreasingBy-short}
use Rattle.verdict.specs.Image.{range}
use Rattle.verdict.specs.OnDisk.{key_of}
use Rattle.verdict.specs.Rules.{image_finding}
use Rattle.verdict.specs.declared.finding.Family.TheVariants.{S}
use Rattle.verdict.specs.declared.place.At.{At}
use Rattle.verdict.specs.declared.place.Chunk.{Chunk}
use Rattle.volume_items.specs.ChunkOrder.{put_by_start, all_by_start}
use Rattle.volume_items.specs.ChunkRow.{ChunkFields, chunk_row, chunk_of}
use Rattle.volume_items.specs.SystemArray.{item_size, pair_fails, pair_of, with_chunk, pairs_from}
use Rattle.chunk_map.specs.Order.{Ascend}
use Rattle.chunk_map.specs.Laws.{has_start, OrdersByStart}
use Rattle.chunk_map.proofs.Ranks.{put_ascends, by_start-ascends, by_start-permutes}

-- where all start behind a start none has it
none_at : (start : ℕ) (chunks : List Chunk) → All (λ (c : Chunk). start < c.start) chunks → filter (has_start start) chunks ≡ []
none_at start [] all = refl
none_at start (chunk ∷ chunks) all =
    let far : start < chunk.start = all 0 chunk (omega arith) in
    rw (ne_eqb chunk.start start (λ e. omega arith)) (none_at start chunks (All-tail (λ (c : Chunk). start < c.start) chunk chunks all))

-- a chunk put in front of those that start behind it
put_first : (start : ℕ) (chunk : Chunk) (chunks : List Chunk) → All (λ (c : Chunk). chunk.start < c.start) chunks → filter (has_start start) (chunk ∷ chunks) ≡ filter (has_start start) chunks ++ filter (has_start start) (chunk ∷ [])
put_first start chunk chunks all =
    (elim (chunk.start == start) as (λ b. chunk.start == start ≡ b → cond b (chunk ∷ filter (has_start start) chunks) (filter (has_start start) chunks) ≡ filter (has_start start) chunks ++ cond b (chunk ∷ []) []) [
      | true ↦ λ e. (let same : chunk.start ≡ start = eqb-true _ _ e in
          let none : filter (has_start start) chunks ≡ [] = none_at start chunks (λ k d l. (let far : chunk.start < (get_or chunks k d).start = all k d l in omega arith)) in
          rw none refl)
      | false ↦ λ e. sym (append-nil (filter (has_start start) chunks))
    ]) refl

old_rest : (start : ℕ) (chunk other : Chunk) (others : List Chunk) → filter (has_start start) (put_by_start chunk others) ≡ filter (has_start start) others ++ filter (has_start start) (chunk ∷ []) → filter (has_start start) (other ∷ put_by_start chunk others) ≡ filter (has_start start) (other ∷ others) ++ filter (has_start start) (chunk ∷ [])
old_rest start chunk other others is =
    elim (other.start == start) as (λ b. cond b (other ∷ filter (has_start start) (put_by_start chunk others)) (filter (has_start start) (put_by_start chunk others)) ≡ cond b (other ∷ filter (has_start start) others) (filter (has_start start) others) ++ filter (has_start start) (chunk ∷ [])) [
      | true ↦ ap (λ cs. other ∷ cs) is
      | false ↦ is
    ]

old_put : (start : ℕ) (chunk : Chunk) (chunks : List Chunk) → Ascend chunks → filter (has_start start) (put_by_start chunk chunks) ≡ filter (has_start start) chunks ++ filter (has_start start) (chunk ∷ [])
old_put start chunk [] up = refl
old_put start chunk (other ∷ others) up =
    (elim (nat_le other.start chunk.start) as (λ b. nat_le other.start chunk.start ≡ b → filter (has_start start) (cond b (other ∷ put_by_start chunk others) (chunk ∷ other ∷ others)) ≡ filter (has_start start) (other ∷ others) ++ filter (has_start start) (chunk ∷ [])) [
      | true ↦ λ e. old_rest start chunk other others (old_put start chunk others (IsNonDecreasingBy-drop (λ (c : Chunk). c.start) 1 (other ∷ others) up))
      | false ↦ λ e. put_first start chunk (other ∷ others) (λ k d l. (let far : chunk.start < other.start = leb-false _ _ e in let on : other.start ≤ (get_or (other ∷ others) k d).start = up 0 k d (omega arith) l in omega arith))
    ]) refl

old_all : (start : ℕ) (sorted chunks : List Chunk) → Ascend sorted → filter (has_start start) (all_by_start sorted chunks) ≡ filter (has_start start) sorted ++ filter (has_start start) chunks
unfolding all_by_start
old_all start sorted [] up = sym (append-nil (filter (has_start start) sorted))
old_all start sorted (chunk ∷ chunks) up =
    old_all start (put_by_start chunk sorted) chunks (put_ascends chunk sorted up)
    ∙ ap (λ cs. cs ++ filter (has_start start) chunks) (old_put start chunk sorted up)
    ∙ append_assoc (filter (has_start start) sorted) (filter (has_start start) (chunk ∷ [])) (filter (has_start start) chunks)
    ∙ ap (λ cs. filter (has_start start) sorted ++ cs) (sym (filter-append (has_start start) (chunk ∷ []) chunks))

pub orders_by_start : OrdersByStart
orders_by_start chunks = record {
  same = by_start-permutes chunks;
  ascend = by_start-ascends chunks;
  old_order = λ start. old_all start [] chunks (IsNonDecreasingBy-short (λ (c : Chunk). c.start) [] (omega arith));
}

-- a pair that is read ends inside the array
pair_inside : (place : At) (array : List ℕ) (size at : ℕ) (given : ChunkFields) → pair_of place array size at ≡ Ok given → at + 17 + item_size array at ≤ size
unfolding pair_of
pair_inside place array size at given is =
    (elim (pair_fails array size at) as (λ b. pair_fails array size at ≡ b → cond b (Err (image_finding S 9 at)) (chunk_row place (key_of array at) (range (at + 17) (item_size array at) array)) ≡ Ok given → at + 17 + item_size array at ≤ size) [
      | true ↦ λ e h. cc
      | false ↦ λ e h. ltb-false _ _ (or_parts (nat_lt size (at + 65) || not ((key_of array at).objectid == 256 && (key_of array at).kind == 228)) (nat_lt size (at + 17 + item_size array at)) e).1
    ]) refl is

pub never_run_out : (place : At) (array : List ℕ) (size n m at : ℕ) (chunks : List Chunk) → at ≤ size → size ≤ at + n → size ≤ at + m → pairs_from place array size n at chunks ≡ pairs_from place array size m at chunks
unfolding pairs_from
never_run_out place array size zero zero at chunks l a b = refl
never_run_out place array size zero (suc m) at chunks l a b = rw (eq-eqb at size (omega arith)) refl
never_run_out place array size (suc n) zero at chunks l a b = rw (eq-eqb at size (omega arith)) refl
never_run_out place array size (suc n) (suc m) at chunks l a b =
    (elim (at == size) as (λ t. at == size ≡ t → cond t (Ok chunks) (with_chunk (pair_of place array size at) (pairs_from place array size n (at + 17 + item_size array at)) chunks) ≡ cond t (Ok chunks) (with_chunk (pair_of place array size at) (pairs_from place array size m (at + 17 + item_size array at)) chunks)) [
      | true ↦ λ e. refl
      | false ↦ λ e. (elim (pair_of place array size at) as (λ r. pair_of place array size at ≡ r → with_chunk r (pairs_from place array size n (at + 17 + item_size array at)) chunks ≡ with_chunk r (pairs_from place array size m (at + 17 + item_size array at)) chunks) [
        | Ok given ↦ λ is. (let inside : at + 17 + item_size array at ≤ size = pair_inside place array size at given is in never_run_out place array size n m (at + 17 + item_size array at) (chunks ++ chunk_of given ∷ []) inside (omega arith) (omega arith))
        | Err finding ↦ λ is. refl
      ]) refl
    ]) refl

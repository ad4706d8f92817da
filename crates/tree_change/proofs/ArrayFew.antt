-- A system array of 2048 bytes has at most 21 chunks, since a chunk with its key has at least 97 bytes.
use Rattle.std.proofs.Common.{◌≡◌, ℕ, zero, suc, ◌+◌, ◌*◌, ◌≤◌, ◌==◌, ◌||◌, ◌&&◌, Bool, true, false, not, List, [], ◌∷◌, ◌++◌, length, take, drop, refl, subst, arith, if◌then◌else◌}
use Rattle.std.proofs.lemmas.Bool.{eqb-true, ltb-false, or_parts}
use Rattle.std.proofs.lemmas.List.{length-append}
use Rattle.std.specs.Prelude.{Result, Ok, Err, nat_lt}
use Rattle.verdict.proofs.Truth.{true_of_not}
use Rattle.recon_bytes.specs.Field.{field}
use Rattle.verdict.specs.Image.{range}
use Rattle.verdict.specs.OnDisk.{key_of}
use Rattle.verdict.specs.Rules.{finding_or, first_failing, image_finding}
use Rattle.verdict.specs.declared.finding.Family.TheVariants.{S}
use Rattle.verdict.specs.declared.finding.Finding.{Finding}
use Rattle.verdict.specs.declared.kinds.TheConstants.{CHUNK_ITEM}
use Rattle.verdict.specs.declared.place.At.{At}
use Rattle.verdict.specs.declared.place.Chunk.{Chunk}
use Rattle.verdict.proofs.Tables.{finding_or-ok, kept_at}
use Rattle.volume_items.specs.ChunkRow.{ChunkFields, chunk_fields, chunk_of, chunk_row, chunk_rows, field_rows, frame_rows, is_dup, stripes_wanted}
use Rattle.volume_items.specs.SystemArray.{array_chunks, item_size, pair_fails, pair_of, pairs_from, with_chunk}
use Rattle.tree_change.proofs.Olds.{same_ok}

take_most : {A : Type 0} (n : ℕ) (l : List A) → length (take n l) ≤ n
take_most zero l = omega arith
take_most (suc n) [] = omega arith
take_most (suc n) (x ∷ l) = let rest = take_most n l in omega (arith, rest)

one_wanted : (b : Bool) → 1 ≤ (if b then 2 else 1)
one_wanted true = omega arith
one_wanted false = omega arith

-- a chunk's pair ends in the array, and its item has at least 80 bytes
pair_big : (place : At) (array : List ℕ) (size at : ℕ) (fields : ChunkFields) → pair_of place array size at ≡ Ok fields
    → (at + 17 + item_size array at ≤ size) × (80 ≤ item_size array at)
unfolding pair_of chunk_row frame_rows field_rows
pair_big place array size at fields is = by (pair_fails array size at) refl is
  where
    bytes : List ℕ
    bytes = range (at + 17) (item_size array at) array

    sums : (n f w m : ℕ) → n ≡ 48 + 32 * f → f ≡ w → 1 ≤ w → n ≤ m → 80 ≤ m
    sums n f w m x y z most = omega (arith, x, y, z, most)

    by : (b : Bool) → pair_fails array size at ≡ b
        → (if b then Err (image_finding S 9 at) else
        finding_or (first_failing (chunk_rows place (key_of array at) bytes)) (chunk_fields (key_of array at) bytes)) ≡ Ok fields
        → (at + 17 + item_size array at ≤ size) × (80 ≤ item_size array at)
    by true fails is = absurd (cc)
    by false fails is =
        let key = key_of array at in
        let made = finding_or-ok (first_failing (chunk_rows place key bytes)) (chunk_fields key bytes) fields is in
        let ends = (or_parts (nat_lt size (at + 65) || not (key.objectid == 256 && key.kind == CHUNK_ITEM)) (nat_lt size (at + 17 + item_size array at)) fails).1 in
        let whole = true_of_not (length bytes == 48 + 32 * field 2 bytes 44) (kept_at 4 (chunk_rows place key bytes) made.0) in
        let wanted = true_of_not (field 2 bytes 44 == stripes_wanted (field 8 bytes 24)) (kept_at 8 (chunk_rows place key bytes) made.0) in
        let most = ltb-false size (at + 17 + item_size array at) ends in (
          omega (arith, most),
          sums (length bytes) (field 2 bytes 44) (stripes_wanted (field 8 bytes 24)) (item_size array at)
              (eqb-true (length bytes) (48 + 32 * field 2 bytes 44) whole)
              (eqb-true (field 2 bytes 44) (stripes_wanted (field 8 bytes 24)) wanted) (one_wanted (is_dup (field 8 bytes 24)))
              (take_most (item_size array at) (drop (at + 17) array)),
        )

pairs_few : (place : At) (array : List ℕ) (size n at : ℕ) (chunks all : List Chunk) → at ≤ size → pairs_from place array size n at chunks ≡ Ok all
    → 97 * length all + at ≤ 97 * length chunks + size
unfolding pairs_from
pairs_few place array size zero at chunks all most is =
    subst (λ (l : List Chunk). 97 * length l + at ≤ 97 * length chunks + size) (same_ok chunks all is) (omega (arith, most))
pairs_few place array size (suc n) at chunks all most is =
    by (at == size) is
    (λ (fields : ChunkFields) next more_is. pairs_few place array size n (at + 17 + item_size array at) (chunks ++ chunk_of fields ∷ []) all next more_is)
  where
    more : List Chunk → Result (List Chunk) Finding
    more = pairs_from place array size n (at + 17 + item_size array at)

    sums : (a c d i : ℕ) → d ≡ c + 1 → 80 ≤ i → 97 * a + (at + 17 + i) ≤ 97 * d + size → 97 * a + at ≤ 97 * c + size
    sums a c d i x y z = omega (arith, x, y, z)

    one : (row : Result ChunkFields Finding) → pair_of place array size at ≡ row → with_chunk row more chunks ≡ Ok all
        → ((fields : ChunkFields) → at + 17 + item_size array at ≤ size → more (chunks ++ chunk_of fields ∷ []) ≡ Ok all
        → 97 * length all + (at + 17 + item_size array at) ≤ 97 * length (chunks ++ chunk_of fields ∷ []) + size)
        → 97 * length all + at ≤ 97 * length chunks + size
    one (Err finding) row_is is rest = absurd (cc)
    one (Ok fields) row_is is rest =
        let big = pair_big place array size at fields row_is in
        sums (length all) (length chunks) (length (chunks ++ chunk_of fields ∷ [])) (item_size array at)
        (length-append chunks (chunk_of fields ∷ [])) big.1 (rest fields big.0 is)

    by : (b : Bool) → (if b then Ok chunks else with_chunk (pair_of place array size at) more chunks) ≡ Ok all
        → ((fields : ChunkFields) → at + 17 + item_size array at ≤ size → more (chunks ++ chunk_of fields ∷ []) ≡ Ok all
        → 97 * length all + (at + 17 + item_size array at) ≤ 97 * length (chunks ++ chunk_of fields ∷ []) + size)
        → 97 * length all + at ≤ 97 * length chunks + size
    by true is rest = subst (λ (l : List Chunk). 97 * length l + at ≤ 97 * length chunks + size) (same_ok chunks all is) (omega (arith, most))
    by false is rest = one (pair_of place array size at) refl is rest

pub array_few : (place : At) (array : List ℕ) (size : ℕ) (all : List Chunk) → size ≤ 2048 → array_chunks place array size ≡ Ok all → length all ≤ 21
array_few place array size all most is =
    let from : 0 ≤ size = omega arith in
    let few = pairs_few place array size size 0 [] all from is in
    sums (length all) few
  where
    sums : (n : ℕ) → 97 * n + 0 ≤ 97 * 0 + size → n ≤ 21
    sums n x = omega (arith, x, most)

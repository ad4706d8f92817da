-- The pairs of the system array, read one after the other.
use Rattle.std.proofs.Common.{◌≡◌, ℕ, zero, suc, ◌+◌, ◌-◌, ◌<◌, ◌≤◌, ◌==◌, Bool, true, false, cond, List, [], ◌∷◌, ◌++◌, take, drop, refl, ap, sym, ◌∙◌, arith}
use Rattle.std.specs.Prelude.{None, Ok, Err}
use Rattle.std.proofs.lemmas.Grind.{common_steps}
use Rattle.recon_bytes.specs.Field.{field}
use Rattle.verdict.specs.Image.{range}
use Rattle.verdict.specs.OnDisk.{key_of}
use Rattle.verdict.specs.Rules.{TableRow, first_failing, image_finding}
use Rattle.verdict.specs.declared.key.Key.{Key}
use Rattle.verdict.specs.declared.finding.Finding.{Finding}
use Rattle.verdict.specs.declared.finding.Family.TheVariants.{S}
use Rattle.verdict.specs.declared.place.At.{At}
use Rattle.verdict.specs.declared.place.Chunk.{Chunk}
use Rattle.super_reader.specs.declared.Super.{Super}
use Rattle.volume_items.specs.ChunkRow.{ChunkFields, chunk_row, chunk_rows, chunk_fields, chunk_of, frame_rows, field_rows, stripe_rows, stripes_of}
use Rattle.super_reader.specs.Superblock.{array_place}
use Rattle.volume_items.specs.SystemArray.{item_size, pair_fails, pair_of, pairs_from}
use Rattle.chunk_map.specs.SystemArray.{chunks_of}
use Rattle.verdict.proofs.Tables.{joined_none, finding_or-ok}

pub pair_bad : (sup : Super) (at : ℕ) → pair_fails sup.array sup.array_size at ≡ true → pair_of (array_place sup) sup.array sup.array_size at ≡ Err (image_finding S 9 at)
unfolding pair_of
pair_bad sup at bad = rw bad refl

-- the key and the item of a pair decide
pub pair_read : (sup : Super) (at size start end : ℕ) (key : Key) (bytes : List ℕ) (place : At) → pair_fails sup.array sup.array_size at ≡ false → key ≡ key_of sup.array at → size ≡ item_size sup.array at → start ≡ at + 17 → end ≡ start + size → bytes ≡ range start size sup.array → place ≡ array_place sup → pair_of (array_place sup) sup.array sup.array_size at ≡ chunk_row place key bytes
unfolding pair_of
pair_read sup at size start end key bytes place good k z s e b p = rw (good, b, p, k, s, z) refl

-- the bytes of a part of the array
pub part_is : (xs : List ℕ) (start size end : ℕ) → end ≡ start + size → take (end - start) (drop start xs) ≡ range start size xs
part_is xs start size end e = ap (λ n. take n (drop start xs)) (omega arith)

-- the range of a chunk item whose length, type and stripes keep their rules fits 64 bits
fields_fit : (at : At) (key : Key) (bytes : List ℕ) → first_failing (field_rows at key bytes) ≡ None → key.offset + field 8 bytes 0 ≤ 18446744073709551615
unfolding field_rows
fields_fit at key bytes kept = grind (arith, common_steps)

pub row_fits : (at : At) (key : Key) (bytes : List ℕ) (given : ChunkFields) → chunk_row at key bytes ≡ Ok given → (chunk_of given).start + (chunk_of given).length ≤ 18446744073709551615
unfolding chunk_row
row_fits at key bytes given is =
    let both = finding_or-ok (first_failing (chunk_rows at key bytes)) (chunk_fields key bytes) given is in
    let tail : List TableRow = stripe_rows at key (field 8 bytes 0) 48 (stripes_of (drop 48 bytes)) in
    let rows = (joined_none (field_rows at key bytes) tail (joined_none (frame_rows at key bytes) (field_rows at key bytes ++ tail) both.0).1).0 in
    rw both.1 (fields_fit at key bytes rows)

pub pair_fits : (sup : Super) (at : ℕ) (given : ChunkFields) → pair_of (array_place sup) sup.array sup.array_size at ≡ Ok given → (chunk_of given).start + (chunk_of given).length ≤ 18446744073709551615
unfolding pair_of
pair_fits sup at given is =
    let split : (fails : Bool) → cond fails (Err (image_finding S 9 at)) (chunk_row (array_place sup) (key_of sup.array at) (range (at + 17) (item_size sup.array at) sup.array)) ≡ Ok given → (chunk_of given).start + (chunk_of given).length ≤ 18446744073709551615 =
    λ fails. elim fails as (λ b. cond b (Err (image_finding S 9 at)) (chunk_row (array_place sup) (key_of sup.array at) (range (at + 17) (item_size sup.array at) sup.array)) ≡ Ok given → (chunk_of given).start + (chunk_of given).length ≤ 18446744073709551615) [ true ↦ λ e. cc | false ↦ λ e. row_fits _ _ _ given e ]
    in split (pair_fails sup.array sup.array_size at) is

-- so far the pairs before a byte of the array gave these chunks, and what is left decides
pub record ArrayLeft (sup : Super) (at : ℕ) (chunks : List Chunk) : Type 0 where
  pub pairs : ℕ
  pub room : sup.array_size ≤ at + pairs
  pub inside : at ≤ sup.array_size
  pub decides : pairs_from (array_place sup) sup.array sup.array_size pairs at chunks ≡ chunks_of sup

pub array_begins : (sup : Super) → ArrayLeft sup 0 []
array_begins sup = record { pairs = sup.array_size; room = omega arith; inside = omega arith; decides = refl }

-- a pair more
more_pairs : (sup : Super) (pairs at : ℕ) (chunks : List Chunk) (given : ChunkFields) → at < sup.array_size → sup.array_size ≤ at + pairs → pair_of (array_place sup) sup.array sup.array_size at ≡ Ok given → (n : ℕ) × (sup.array_size ≤ at + 17 + item_size sup.array at + n) × (pairs_from (array_place sup) sup.array sup.array_size n (at + 17 + item_size sup.array at) (chunks ++ chunk_of given ∷ []) ≡ pairs_from (array_place sup) sup.array sup.array_size pairs at chunks)
unfolding pairs_from
more_pairs sup zero at chunks given h room is = absurd (omega arith)
more_pairs sup (suc n) at chunks given h room is =
    let other : (at == sup.array_size) ≡ false = grind arith in
    (n, omega arith, rw (other, is) refl)

pub array_goes_on : (sup : Super) (at end : ℕ) (chunks more : List Chunk) (given : ChunkFields) (chunk : Chunk) → ArrayLeft sup at chunks → at < sup.array_size → pair_of (array_place sup) sup.array sup.array_size at ≡ Ok given → chunk ≡ chunk_of given → more ≡ chunks ++ chunk ∷ [] → end ≡ at + 17 + item_size sup.array at → end ≤ sup.array_size → ArrayLeft sup end more
array_goes_on sup at end chunks more given chunk left h is c m e low =
    let next = more_pairs sup left.pairs at chunks given h left.room is in
    rw (m, c, e) (record { pairs = next.0; room = next.1; inside = rw e at low; decides = next.2 ∙ left.decides })

-- a finding
stops_at : (sup : Super) (pairs at : ℕ) (chunks : List Chunk) (finding : Finding) → at < sup.array_size → sup.array_size ≤ at + pairs → pair_of (array_place sup) sup.array sup.array_size at ≡ Err finding → pairs_from (array_place sup) sup.array sup.array_size pairs at chunks ≡ Err finding
unfolding pairs_from
stops_at sup zero at chunks finding h room is = absurd (omega arith)
stops_at sup (suc n) at chunks finding h room is =
    let other : (at == sup.array_size) ≡ false = grind arith in
    rw (other, is) refl

pub array_stops : (sup : Super) (at : ℕ) (chunks : List Chunk) (finding : Finding) → ArrayLeft sup at chunks → at < sup.array_size → pair_of (array_place sup) sup.array sup.array_size at ≡ Err finding → chunks_of sup ≡ Err finding
array_stops sup at chunks finding left h is = sym left.decides ∙ stops_at sup left.pairs at chunks finding h left.room is

-- the end
ends_at : (sup : Super) (pairs at : ℕ) (chunks : List Chunk) → at ≡ sup.array_size → pairs_from (array_place sup) sup.array sup.array_size pairs at chunks ≡ Ok chunks
unfolding pairs_from
ends_at sup zero at chunks e = refl
ends_at sup (suc n) at chunks e =
    let same : (at == sup.array_size) ≡ true = grind arith in
    rw same refl

pub array_ends : (sup : Super) (at : ℕ) (chunks : List Chunk) → ArrayLeft sup at chunks → sup.array_size ≤ at → chunks_of sup ≡ Ok chunks
array_ends sup at chunks left h = sym left.decides ∙ ends_at sup left.pairs at chunks (let low : at ≤ sup.array_size = left.inside in omega arith)

-- The tables, held against the definition at each entry by computing.
use Rattle.std.proofs.Common.{◌≡◌, ℕ, zero, suc, ◌<◌, ◌≤◌, List, [], ◌∷◌, map, length, get_or, refl, ap, ◌∙◌, arith, le_of_suc-le-suc}
use Rattle.std.proofs.lemmas.List.{get_or-map, length-map}
use Rattle.std.proofs.lemmas.List.FromFn.{get_or-map-range_with_len, length-map-range_with_len}
use Rattle.std.specs.List.{range_with_len}
use Rattle.std.specs.Fn.{iterate}
use Rattle.recon_crc.specs.Checksum.{halved_step, eight_steps}
use Rattle.recon_crc.specs.declared.tables.TheConstants.{TABLES}

-- a row, and n more, each eight steps after the one before it
rows_from : ℕ → List ℕ → List (List ℕ)
rows_from zero row = row ∷ []
rows_from (suc n) row = row ∷ rows_from n (map eight_steps row)

-- the first row is eight steps after the bytes themselves
tables_are : TABLES ≡ rows_from 15 (map eight_steps (range_with_len 0 256))
unfolding rows_from eight_steps halved_step
tables_are = refl

row_entry : (n k i : ℕ) (row : List ℕ) → k ≤ n → i < length row → get_or (get_or (rows_from n row) k []) i 0 ≡ iterate eight_steps k (get_or row i 0)
unfolding rows_from
row_entry zero zero i row within inside = refl
row_entry zero (suc k) i row within inside = absurd (omega arith)
row_entry (suc n) zero i row within inside = refl
row_entry (suc n) (suc k) i row within inside =
    row_entry n k i (map eight_steps row) (le_of_suc-le-suc within) (rw (length-map row eight_steps) inside)
    ∙ ap (iterate eight_steps k) (get_or-map eight_steps row i 0 0 inside)

-- row k, entry i: the register after the byte i and then k bytes of zero, from 0
pub table_entry : (k i : ℕ) → k < 16 → i < 256 → get_or (get_or TABLES k []) i 0 ≡ iterate eight_steps (suc k) i
table_entry k i within byte =
    let first = map eight_steps (range_with_len 0 256) in
    ap (λ t. get_or (get_or t k []) i 0) tables_are
    ∙ row_entry 15 k i first (omega arith) (rw (length-map-range_with_len eight_steps 0 256) byte)
    ∙ ap (iterate eight_steps k) (get_or-map-range_with_len eight_steps 0 256 i i 0 byte (omega arith))

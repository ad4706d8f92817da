-- The stripes of a chunk, one behind the other, and the three parts of the rules on a chunk.
use Rattle.std.proofs.Common.{◌≡◌, ℕ, zero, suc, ◌+◌, ◌-◌, ◌==◌, not, nat_lt, true, false, cond, ◌*◌, ◌/◌, ◌<◌, ◌≤◌, List, [], ◌∷◌, ◌++◌, length, take, drop, refl, ap, sym, ◌∙◌, arith, length-drop}
use Rattle.std.proofs.lemmas.Grind.{common_steps}
use Rattle.std.proofs.lemmas.Bool.{eqb-true, not-false}
use Rattle.verdict.specs.Items.{item_rule, is_multiple, listed_rule}
use Rattle.verdict.specs.declared.finding.Family.TheVariants.{I}
use Rattle.std.specs.Prelude.{Option, Some, None, Ok, Err}
use Rattle.verdict.proofs.Lists.{all_behind}
use Rattle.verdict.specs.Rules.{TableRow, first_failing, or_found, finding_or}
use Rattle.verdict.proofs.Tables.{first_failing_joined, kept_first}
use Rattle.recon_bytes.specs.Field.{field}
use Rattle.verdict.specs.declared.finding.Finding.{Finding}
use Rattle.verdict.specs.declared.key.Key.{Key}
use Rattle.verdict.specs.declared.place.At.{At}
use Rattle.volume_items.specs.ChunkRow.{stripe_list, stripes_of, frame_rows, field_rows, stripe_rows, chunk_rows, chunk_row, chunk_fields}

-- one stripe more fits where 32 bytes are there, and none where fewer are
pub stripes_more : (bytes : List ℕ) → 32 ≤ length bytes → stripes_of bytes ≡ record { devid = field 8 bytes 0; physical = field 8 bytes 8 } ∷ stripes_of (drop 32 bytes)
stripes_more bytes h =
    let count : length bytes / 32 ≡ suc (length (drop 32 bytes) / 32) = omega (arith, length-drop 32 bytes) in
    ap (λ n. stripe_list n bytes) count

pub stripes_none : (bytes : List ℕ) → length bytes < 32 → stripes_of bytes ≡ []
stripes_none bytes h =
    let count : length bytes / 32 ≡ 0 = omega arith in
    ap (λ n. stripe_list n bytes) count

pub ruleset next_stripe = (stripes_more, stripes_none)

pub length-stripe_list : (n : ℕ) (bytes : List ℕ) → length (stripe_list n bytes) ≡ n
length-stripe_list zero bytes = refl
length-stripe_list (suc n) bytes = ap suc (length-stripe_list n (drop 32 bytes))

-- so many stripes have room in the bytes
pub stripes_fit : (bytes : List ℕ) → 32 * length (stripes_of bytes) ≤ length bytes
stripes_fit bytes = omega (arith, length-stripe_list (length bytes / 32) bytes)

-- the first of some stripes, as it is read, and those behind it
pub stripes_step : (bytes rest : List ℕ) (devid physical : ℕ) → 32 ≤ length bytes → devid ≡ field 8 bytes 0 → physical ≡ field 8 bytes 8 → rest ≡ drop 32 bytes → stripes_of bytes ≡ record { devid = devid; physical = physical } ∷ stripes_of rest
stripes_step bytes rest devid physical h d p r = rw (d, p, r) (stripes_more bytes h)

three : (at : At) (key : Key) (bytes rest : List ℕ) (size : ℕ) (frame fields : Option Finding) → frame ≡ first_failing (frame_rows at key bytes) → frame ≡ None → fields ≡ first_failing (field_rows at key bytes) → fields ≡ None → size ≡ field 8 bytes 0 → rest ≡ drop 48 bytes → first_failing (chunk_rows at key bytes) ≡ first_failing (stripe_rows at key size 48 (stripes_of rest))
three at key bytes rest size frame fields f f0 g g0 s r =
    let last : List TableRow = stripe_rows at key (field 8 bytes 0) 48 (stripes_of (drop 48 bytes)) in
    first_failing_joined (frame_rows at key bytes) (field_rows at key bytes ++ last)
    ∙ ap (λ o. or_found o (first_failing (field_rows at key bytes ++ last))) (sym f ∙ f0)
    ∙ first_failing_joined (field_rows at key bytes) last
    ∙ ap (λ o. or_found o (first_failing last)) (sym g ∙ g0)
    ∙ ap (λ n. first_failing (stripe_rows at key n 48 (stripes_of (drop 48 bytes)))) (sym s)
    ∙ ap (λ b. first_failing (stripe_rows at key size 48 (stripes_of b))) (sym r)

-- the finding of the last part of a chunk's rules, where the parts before it are kept
pub row_at_stripes : (at : At) (key : Key) (bytes rest : List ℕ) (size : ℕ) (frame fields : Option Finding) (finding : Finding) → frame ≡ first_failing (frame_rows at key bytes) → frame ≡ None → fields ≡ first_failing (field_rows at key bytes) → fields ≡ None → size ≡ field 8 bytes 0 → rest ≡ drop 48 bytes → Some finding ≡ first_failing (stripe_rows at key size 48 (stripes_of rest)) → chunk_row at key bytes ≡ Err finding
unfolding chunk_row
row_at_stripes at key bytes rest size frame fields finding f f0 g g0 s r last =
    ap (λ o. finding_or o (chunk_fields key bytes)) (three at key bytes rest size frame fields f f0 g g0 s r ∙ sym last)

fifth_kept : (a b c d e : TableRow) → first_failing (a ∷ b ∷ c ∷ d ∷ e ∷ []) ≡ None → e.fails ≡ false
fifth_kept a b c d e kept =
    (kept_first e [] (kept_first d (e ∷ []) (kept_first c (d ∷ e ∷ []) (kept_first b (c ∷ d ∷ e ∷ []) (kept_first a (b ∷ c ∷ d ∷ e ∷ []) kept).1).1).1).1).0

-- where the size keeps its rule, the whole stripes are as many as num_stripes says
frame_size : (at : At) (key : Key) (bytes : List ℕ) → first_failing (frame_rows at key bytes) ≡ None → length bytes ≡ 48 + 32 * field 2 bytes 44
unfolding frame_rows
frame_size at key bytes kept =
    let last : not (length bytes == 48 + 32 * field 2 bytes 44) ≡ false = fifth_kept
    (listed_rule at key)
    (item_rule at key (not (key.objectid == 256)) I 2 0)
    (item_rule at key (not (is_multiple key.offset)) I 2 0)
    (item_rule at key (nat_lt (length bytes) 48) I 1 (length bytes))
    (item_rule at key (not (length bytes == 48 + 32 * field 2 bytes 44)) I 1 (length bytes)) kept in
    eqb-true _ _ (not-false _ last)

counted : (bytes : List ℕ) (n : ℕ) → length bytes ≡ 48 + 32 * n → stripe_list n (drop 48 bytes) ≡ stripes_of (drop 48 bytes)
counted bytes n size =
    let count : n ≡ length (drop 48 bytes) / 32 = omega (arith, length-drop 48 bytes) in
    ap (λ m. stripe_list m (drop 48 bytes)) count

-- the fields, where all parts are kept
pub row_kept : (at : At) (key : Key) (bytes rest : List ℕ) (size class : ℕ) (frame fields stripes : Option Finding) → frame ≡ first_failing (frame_rows at key bytes) → frame ≡ None → fields ≡ first_failing (field_rows at key bytes) → fields ≡ None → size ≡ field 8 bytes 0 → class ≡ field 8 bytes 24 → rest ≡ drop 48 bytes → stripes ≡ first_failing (stripe_rows at key size 48 (stripes_of rest)) → stripes ≡ None → chunk_row at key bytes ≡ Ok (record { key = key; length = size; class = class; stripes = stripes_of rest })
unfolding chunk_row
row_kept at key bytes rest size class frame fields stripes f f0 g g0 s k r last last0 =
    ap (λ o. finding_or o (chunk_fields key bytes)) (three at key bytes rest size frame fields f f0 g g0 s r ∙ sym last ∙ last0)
    ∙ rw (s, k, r) (ap (λ x. Ok (record { key = key; length = field 8 bytes 0; class = field 8 bytes 24; stripes = x })) (counted bytes (field 2 bytes 44) (frame_size at key bytes (sym f ∙ f0))))

-- behind a stripe there are fewer
pub stripes_fewer : (bytes : List ℕ) → 32 ≤ length bytes → length (stripes_of (take (length bytes - 32) (drop 32 bytes))) < length (stripes_of bytes)
stripes_fewer bytes h =
    let rest : List ℕ = take (length bytes - 32) (drop 32 bytes) in
    omega (arith, length-stripe_list (length bytes / 32) bytes, length-stripe_list (length rest / 32) rest, ap length (all_behind 32 bytes), length-drop 32 bytes)

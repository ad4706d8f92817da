-- References that stand behind some bytes: what is read there is what is read of the bytes that are left.
use Rattle.std.proofs.Common.{◌≡◌, ℕ, zero, suc, ◌+◌, ◌-◌, ◌<◌, ◌≤◌, List, [], ◌∷◌, length, take, drop, get_or, false, refl, ap, sym, ◌∙◌, arith, add-zero}
use Rattle.std.proofs.lemmas.Grind.{common_steps}
use Rattle.std.specs.Prelude.{Option, Some, None, Ok, nat_lt}
use Rattle.verdict.proofs.Lists.{all_behind}
use Rattle.recon_bytes.specs.Field.{field}
use Rattle.verdict.specs.Rules.{first_failing, finding_or, or_found}
use Rattle.verdict.specs.declared.key.Key.{Key}
use Rattle.verdict.specs.declared.finding.Finding.{Finding}
use Rattle.verdict.specs.declared.place.At.{At}
use Rattle.verdict.proofs.Tables.{first_failing_joined}
use Rattle.extent_items.specs.References.{body_size, inline_reference, references_behind, references_of}
use Rattle.extent_items.specs.declared.reference.Reference.{Reference}
use Rattle.extent_items.specs.ReferenceRows.{one_reference_rows, reference_rows, rows_behind}
use Rattle.extent_items.specs.ExtentRow.{extent_fields, extent_row, extent_rows, head_rows}

-- the references behind n bytes are those of the rest
pub references_left_behind : (n : ℕ) (bytes : List ℕ) → references_behind n bytes ≡ references_of (drop n bytes)
references_left_behind n [] = grind (arith, common_steps)
references_left_behind zero (byte ∷ bytes) = refl
references_left_behind (suc n) (byte ∷ bytes) = references_left_behind n bytes

-- the first reference, where its body is whole, and those behind it
pub references_next : (kind size : ℕ) (bytes body rest : List ℕ) (reference : Reference) → bytes ≡ kind ∷ body → size ≡ body_size kind → size ≤ length body → rest ≡ drop size body → reference ≡ inline_reference kind body → references_of bytes ≡ reference ∷ references_of rest
references_next kind size bytes body rest reference e s h r is =
    let whole : nat_lt (length body) (body_size kind) ≡ false = grind arith in
    rw (e, whole, is, r, s) (ap (λ xs. inline_reference kind body ∷ xs) (references_left_behind (body_size kind) body))

-- and those are fewer
pub references_fewer : (kind size : ℕ) (bytes body rest : List ℕ) (reference : Reference) → bytes ≡ kind ∷ body → size ≡ body_size kind → size ≤ length body → rest ≡ drop size body → reference ≡ inline_reference kind body → length (references_of rest) < length (references_of bytes)
references_fewer kind size bytes body rest reference e s h r is =
    let more : length (references_of bytes) ≡ suc (length (references_of rest)) = ap length (references_next kind size bytes body rest reference e s h r is) in
    omega arith

-- the rules on the references behind n bytes are those of the rest
pub rows_left_behind : (at : At) (key : Key) (n offset : ℕ) (bytes : List ℕ) → rows_behind at key n offset bytes ≡ reference_rows at key (offset + n) (drop n bytes)
rows_left_behind at key n offset [] = grind (arith, common_steps)
rows_left_behind at key zero offset (byte ∷ bytes) = rw add-zero refl
rows_left_behind at key (suc n) offset (byte ∷ bytes) =
    let same : offset + 1 + n ≡ offset + suc n = omega arith in
    rows_left_behind at key n (offset + 1) bytes ∙ ap (λ i. reference_rows at key i (drop n bytes)) same

-- the rules on the first reference, and then those on what is left
pub rows_next : (at : At) (key : Key) (offset kind next : ℕ) (bytes body : List ℕ) → offset < length bytes → kind ≡ get_or bytes offset 0 → body ≡ drop (offset + 1) bytes → next ≡ offset + 1 + body_size kind → first_failing (reference_rows at key offset (drop offset bytes)) ≡ or_found (first_failing (one_reference_rows at key offset kind body)) (first_failing (reference_rows at key next (drop next bytes)))
rows_next at key offset kind next bytes body h k b n =
    let first : drop offset bytes ≡ kind ∷ body = grind (arith, common_steps) in
    let behind : drop (body_size kind) body ≡ drop next bytes = grind (arith, common_steps) in
    ap (λ xs. first_failing (reference_rows at key offset xs)) first
    ∙ first_failing_joined (one_reference_rows at key offset kind body) (rows_behind at key (body_size kind) (offset + 1) body)
    ∙ ap (λ rows. or_found (first_failing (one_reference_rows at key offset kind body)) (first_failing rows)) (rows_left_behind at key (body_size kind) (offset + 1) body)
    ∙ rw (behind, ← n) refl

-- no more rules where the bytes end
pub rows_none : (at : At) (key : Key) (offset : ℕ) (bytes : List ℕ) → length bytes ≤ offset → reference_rows at key offset (drop offset bytes) ≡ []
rows_none at key offset bytes h =
    let none : drop offset bytes ≡ [] = grind (arith, common_steps) in
    rw none refl

pub ruleset reference_steps = (rows_none)

pub ruleset extent_steps = (first_failing_joined, all_behind)

-- a finding on the first reference is that of the whole
pub rows_found : (at : At) (key : Key) (offset kind : ℕ) (bytes body : List ℕ) (found : Finding) → offset < length bytes → kind ≡ get_or bytes offset 0 → body ≡ drop (offset + 1) bytes → Some found ≡ first_failing (one_reference_rows at key offset kind body) → Some found ≡ first_failing (reference_rows at key offset (drop offset bytes))
rows_found at key offset kind bytes body found h k b is =
    let next : ℕ = offset + 1 + body_size kind in
    sym (rows_next at key offset kind next bytes body h k b refl ∙ ap (λ o. or_found o (first_failing (reference_rows at key next (drop next bytes)))) (sym is))

-- where the first reference keeps its rules, what is left decides
pub rows_kept : (at : At) (key : Key) (offset kind next : ℕ) (bytes body : List ℕ) (found : Option Finding) → offset < length bytes → kind ≡ get_or bytes offset 0 → body ≡ drop (offset + 1) bytes → next ≡ offset + 1 + body_size kind → found ≡ first_failing (one_reference_rows at key offset kind body) → found ≡ None → first_failing (reference_rows at key next (drop next bytes)) ≡ first_failing (reference_rows at key offset (drop offset bytes))
rows_kept at key offset kind next bytes body found h k b n is none =
    sym (rows_next at key offset kind next bytes body h k b n ∙ ap (λ o. or_found o (first_failing (reference_rows at key next (drop next bytes)))) (sym is ∙ none))

-- the fields of an extent's item, where both parts of its rules are kept
pub extent_kept : (at : At) (key : Key) (bytes rest : List ℕ) (refs generation flags : ℕ) (head references : Option Finding) → head ≡ first_failing (head_rows at key bytes) → head ≡ None → references ≡ first_failing (reference_rows at key 24 (drop 24 bytes)) → references ≡ None → refs ≡ field 8 bytes 0 → generation ≡ field 8 bytes 8 → flags ≡ field 8 bytes 16 → rest ≡ drop 24 bytes → extent_row at key bytes ≡ Ok (record { key = key; refs = refs; generation = generation; flags = flags; references = references_of rest })
unfolding extent_row
extent_kept at key bytes rest refs generation flags head references h h0 r r0 a b c d =
    let none : first_failing (extent_rows at key bytes) ≡ None =
    first_failing_joined (head_rows at key bytes) (reference_rows at key 24 (drop 24 bytes))
    ∙ ap (λ o. or_found o (first_failing (reference_rows at key 24 (drop 24 bytes)))) (sym h ∙ h0)
    ∙ sym r ∙ r0 in
    ap (λ o. finding_or o (extent_fields key bytes)) none ∙ rw (a, b, c, d) refl

-- How the pieces of a write or a fetch make its record.
use Rattle.std.proofs.Common.{◌≡◌, ℕ, zero, suc, ◌+◌, ◌<◌, ◌≤◌, ◌⊎◌, inl, inr, List, [], ◌∷◌, ◌++◌, length, Option, Some, None, SomeIff, Err, IfSome, refl, sym, ap, ◌∙◌, subst, append_assoc, length-append, arith}
use Rattle.std.proofs.lemmas.List.{append-nil}
use Rattle.recon_bytes.specs.Field.{field}
use Rattle.verdict.specs.declared.machine.Event.{Event}
use Rattle.verdict.specs.declared.machine.Event.TheVariants.{Write, Fetch}
use Rattle.trace_reader.specs.declared.fault.TraceFault.{TraceFault}
use Rattle.trace_reader.specs.declared.fault.TraceFault.TheVariants.{BadHeader, BadTag, BadLength, Truncated, ReadFault, NoMemory, TooMany}
use Rattle.trace_reader.specs.Trace.{IsBytes, IsWriteLength, IsFetchLength, write_length, fetch_length, IsCut, HasBadLength, spelling_of}
use Rattle.trace_reader.specs.Reading.{TakesWith}
use Rattle.trace_reader.specs.Pieces.{Takes, TakesBytes, TakesRecord, Fills, ReadsBytes, ReadsEvent}
use Rattle.trace_reader.proofs.Spelling.{field-append, write_spelled, write_lawful, fetch_spelled, fetch_lawful}

-- all of the bytes were taken
pub all_taken : (Holds : List ℕ → Type 0) (bytes : List ℕ) (after : Option (List ℕ)) → after ≡ Some [] → Holds bytes → TakesWith Holds bytes after
all_taken Holds bytes after left holds = record {
  taken = bytes;
  rest = [];
  parts = sym (append-nil bytes);
  left = left;
  of_all = holds;
  of_taken = holds;
}

-- The bytes behind the tag, so many, were not whole.
front_failed : (T : Type 0) (tag n : ℕ) (start after : Option (List ℕ)) (piece : List ℕ) (f : TraceFault) → length piece ≡ n
    → ((xs : List ℕ) → length xs < n → IsCut (tag ∷ xs))
    → IfSome start (λ b. Fills {T = T} b piece (Err f) after) → IfSome start (λ b. ReadsEvent (tag ∷ b) (Err f) after)
front_failed T tag n None after piece f size cut told = tt
front_failed T tag n (Some bytes) after piece BadHeader size cut told = absurd told
front_failed T tag n (Some bytes) after piece BadTag size cut told = absurd told
front_failed T tag n (Some bytes) after piece BadLength size cut told = absurd told
front_failed T tag n (Some bytes) after piece Truncated size cut told =
    let few = told.few in
    let short : IsCut (tag ∷ bytes) = cut bytes (omega arith) in
    all_taken IsCut (tag ∷ bytes) after told.left short
front_failed T tag n (Some bytes) after piece ReadFault size cut told =
    let few = told.few in
    record {
      taken = tag ∷ told.taken;
      takes = record { rest = told.rest; parts = ap (λ (r : List ℕ). tag ∷ r) told.parts; left = told.left };
      cut = cut told.taken (omega arith);
    }
front_failed T tag n (Some bytes) after piece NoMemory size cut told = absurd told
front_failed T tag n (Some bytes) after piece TooMany size cut told = absurd told

cut_write : (xs : List ℕ) → length xs < 14 → IsCut (1 ∷ xs)
cut_write xs few = inl (refl, inl (omega arith))

cut_fetch : (xs : List ℕ) → length xs < 12 → IsCut (3 ∷ xs)
cut_fetch xs few = inr (refl, omega arith)

-- The 14 bytes behind a write's tag were not whole.
pub write_failed : (T : Type 0) (start after : Option (List ℕ)) (piece : List ℕ) (f : TraceFault) → length piece ≡ 14
    → IfSome start (λ b. Fills {T = T} b piece (Err f) after) → IfSome start (λ b. ReadsEvent (1 ∷ b) (Err f) after)
write_failed T start after piece f size told = front_failed T 1 14 start after piece f size cut_write told

-- The 12 bytes behind a fetch's tag were not whole.
pub fetch_failed : (T : Type 0) (start after : Option (List ℕ)) (piece : List ℕ) (f : TraceFault) → length piece ≡ 12
    → IfSome start (λ b. Fills {T = T} b piece (Err f) after) → IfSome start (λ b. ReadsEvent (3 ∷ b) (Err f) after)
fetch_failed T start after piece f size told = front_failed T 3 12 start after piece f size cut_fetch told

-- the length field does not depend on what follows the 15 bytes
length_of : (piece rest bytes : List ℕ) → length piece ≡ 14 → bytes ≡ piece ++ rest → write_length (1 ∷ bytes) ≡ field 4 (1 ∷ piece) 11
length_of piece rest bytes size parts =
    ap (λ (r : List ℕ). field 4 (1 ∷ r) 11) parts ∙ field-append 4 (1 ∷ piece) rest 11 (omega arith)

not_good : (most len : ℕ) → (len ≡ 0) ⊎ ((¬ (len ≡ 0)) × (most < len)) → ¬ ((1 ≤ len) × (len ≤ most))
not_good most len (inl none) good = let low = good.0 in absurd (omega arith)
not_good most len (inr many) good = let high = good.1 in let more = many.1 in absurd (omega arith)

-- The length is one that no write may have.
pub length_bad : (start after : Option (List ℕ)) (piece : List ℕ) (len : ℕ) → length piece ≡ 14 → len ≡ field 4 (1 ∷ piece) 11
    → (len ≡ 0) ⊎ ((¬ (len ≡ 0)) × (1048576 < len))
    → IfSome start (λ b. Takes piece b after) → IfSome start (λ b. TakesWith HasBadLength (1 ∷ b) after)
length_bad None after piece len size e bad told = tt
length_bad (Some bytes) after piece len size e bad told =
    let all : length bytes ≡ length piece + length told.rest = ap length told.parts ∙ length-append piece told.rest in
    let same : len ≡ write_length (1 ∷ bytes) = e ∙ sym (length_of piece told.rest bytes size told.parts) in
    let P : ℕ → Type 0 = λ n. ¬ IsWriteLength n in
    let alone : len ≡ write_length (1 ∷ piece) = e in
    record {
      taken = 1 ∷ piece;
      rest = told.rest;
      parts = ap (λ (r : List ℕ). 1 ∷ r) told.parts;
      left = told.left;
      of_all = inl (refl, omega arith, subst P same (not_good 1048576 len bad));
      of_taken = inl (refl, omega arith, subst P alone (not_good 1048576 len bad));
    }

cut_more : (piece more : List ℕ) (len : ℕ) → length piece ≡ 14 → len ≡ field 4 (1 ∷ piece) 11 → IsWriteLength len
    → length more < len → IsCut (1 ∷ (piece ++ more))
cut_more piece more len size e good few =
    let same : len ≡ write_length (1 ∷ (piece ++ more)) = e ∙ sym (length_of piece more (piece ++ more) size refl) in
    let P : ℕ → Type 0 = λ n. IsWriteLength n × (length (1 ∷ (piece ++ more)) < 15 + n) in
    let short : length (1 ∷ (piece ++ more)) < 15 + len = omega (arith, length-append piece more) in
    inl (refl, inr (subst P same (good, short)))

failed_after : (bytes piece rest : List ℕ) (after : Option (List ℕ)) (len : ℕ) (f : TraceFault) → length piece ≡ 14
    → len ≡ field 4 (1 ∷ piece) 11 → IsWriteLength len → bytes ≡ piece ++ rest
    → ReadsBytes len rest (Err f) after → ReadsEvent (1 ∷ bytes) (Err f) after
failed_after bytes piece rest after len BadHeader size e good parts told = absurd told
failed_after bytes piece rest after len BadTag size e good parts told = absurd told
failed_after bytes piece rest after len BadLength size e good parts told = absurd told
failed_after bytes piece rest after len Truncated size e good parts told =
    let P : List ℕ → Type 0 = λ b. IsCut (1 ∷ b) in
    all_taken IsCut (1 ∷ bytes) after told.left (subst P (sym parts) (cut_more piece rest len size e good told.few))
failed_after bytes piece rest after len ReadFault size e good parts told = record {
  taken = 1 ∷ (piece ++ told.taken);
  takes = record {
    rest = told.rest;
    parts = ap (λ (r : List ℕ). 1 ∷ r) (parts ∙ ap (λ (r : List ℕ). piece ++ r) told.parts ∙ sym (append_assoc piece told.taken told.rest));
    left = told.left;
  };
  cut = cut_more piece told.taken len size e good told.few;
}
failed_after bytes piece rest after len NoMemory size e good parts told =
    let P : ℕ → Type 0 = λ n. IsWriteLength n in
    record {
      taken = 1 ∷ piece;
      takes = record { rest = rest; parts = ap (λ (r : List ℕ). 1 ∷ r) parts; left = told };
      size = omega arith;
      tag = refl;
      good = subst P e good;
    }
failed_after bytes piece rest after len TooMany size e good parts told = absurd told

-- The bytes to be written were not whole, or found no memory.
pub bytes_failed : (start mid after : Option (List ℕ)) (piece : List ℕ) (len : ℕ) (f : TraceFault) → length piece ≡ 14
    → len ≡ field 4 (1 ∷ piece) 11 → IsWriteLength len
    → IfSome start (λ b. Takes piece b mid) → IfSome mid (λ b. ReadsBytes len b (Err f) after)
    → IfSome start (λ b. ReadsEvent (1 ∷ b) (Err f) after)
bytes_failed None mid after piece len f size e good told more = tt
bytes_failed (Some bytes) mid after piece len f size e good told more =
    let P : Option (List ℕ) → Type 0 = λ o. IfSome o (λ b. ReadsBytes len b (Err f) after) in
    failed_after bytes piece told.rest after len f size e good told.parts (subst P told.left more)

tagged : (tag : ℕ) (piece : List ℕ) → tag < 256 → IsBytes piece → IsBytes (tag ∷ piece)
tagged tag piece small h zero d k = omega arith
tagged tag piece small h (suc i) d k = h i d (omega arith)

whole_after : (bytes piece rest held : List ℕ) (after : Option (List ℕ)) (submitter at len : ℕ) → length piece ≡ 14 → IsBytes piece
    → submitter ≡ field 2 (1 ∷ piece) 1 → at ≡ field 8 (1 ∷ piece) 3 → len ≡ field 4 (1 ∷ piece) 11 → IsWriteLength len
    → bytes ≡ piece ++ rest → TakesBytes len held rest after → TakesRecord (Write submitter at held) (1 ∷ bytes) after
whole_after bytes piece rest held after submitter at len size lawful s a e good parts told =
    let front : List ℕ = 1 ∷ piece in
    let front_lawful : IsBytes front = tagged 1 piece (omega arith) lawful in
    let P : ℕ → Type 0 = λ n. IsWriteLength n in
    let Q : Event → Type 0 = λ v. TakesRecord v (1 ∷ bytes) after in
    let mine : Write (field 2 front 1) (field 8 front 3) held ≡ Write submitter at held = cc in
    let spelled : spelling_of (Write (field 2 front 1) (field 8 front 3) held) ≡ front ++ held =
    write_spelled front held (omega arith) front_lawful refl (told.size ∙ e) in
    subst Q mine (record {
      lawful = write_lawful front held front_lawful (subst P (sym told.size) good) told.lawful;
      takes = record {
        rest = told.takes.rest;
        parts =
            ap (λ (r : List ℕ). 1 ∷ r) (parts ∙ ap (λ (r : List ℕ). piece ++ r) told.takes.parts ∙ sym (append_assoc piece held told.takes.rest))
            ∙ ap (λ (r : List ℕ). r ++ told.takes.rest) (sym spelled);
        left = told.takes.left;
      };
    })

-- A write was taken whole.
pub write_whole : (start mid after : Option (List ℕ)) (piece held : List ℕ) (submitter at len : ℕ) → length piece ≡ 14 → IsBytes piece
    → submitter ≡ field 2 (1 ∷ piece) 1 → at ≡ field 8 (1 ∷ piece) 3 → len ≡ field 4 (1 ∷ piece) 11 → IsWriteLength len
    → IfSome start (λ b. Takes piece b mid) → IfSome mid (λ b. TakesBytes len held b after)
    → IfSome start (λ b. TakesRecord (Write submitter at held) (1 ∷ b) after)
write_whole None mid after piece held submitter at len size lawful s a e good told more = tt
write_whole (Some bytes) mid after piece held submitter at len size lawful s a e good told more =
    let P : Option (List ℕ) → Type 0 = λ o. IfSome o (λ b. TakesBytes len held b after) in
    whole_after bytes piece told.rest held after submitter at len size lawful s a e good told.parts (subst P told.left more)

-- a field of the bytes with their tag, as it was read
pub field_read : (r : Option ℕ) (tag n at v : ℕ) (piece : List ℕ) (P : Type 0) → SomeIff r P (field n (tag ∷ (piece ++ [])) at) → r ≡ Some v
    → v ≡ field n (tag ∷ piece) at
field_read r tag n at v piece P read e =
    let Q : Option ℕ → Type 0 = λ o. SomeIff o P (field n (tag ∷ (piece ++ [])) at) in
    let some = subst Q e read in
    some.1 ∙ ap (λ (b : List ℕ). field n (tag ∷ b) at) (append-nil piece)

-- The length is one that no fetch may ask for.
pub fetch_length_bad : (start after : Option (List ℕ)) (piece : List ℕ) (len : ℕ) → length piece ≡ 12 → len ≡ field 4 (3 ∷ piece) 9
    → (len ≡ 0) ⊎ ((¬ (len ≡ 0)) × (65536 < len))
    → IfSome start (λ b. Takes piece b after) → IfSome start (λ b. TakesWith HasBadLength (3 ∷ b) after)
fetch_length_bad None after piece len size e bad told = tt
fetch_length_bad (Some bytes) after piece len size e bad told =
    let all : length bytes ≡ length piece + length told.rest = ap length told.parts ∙ length-append piece told.rest in
    let same : len ≡ fetch_length (3 ∷ bytes) =
    e ∙ sym (ap (λ (r : List ℕ). field 4 (3 ∷ r) 9) told.parts ∙ field-append 4 (3 ∷ piece) told.rest 9 (omega arith)) in
    let P : ℕ → Type 0 = λ n. ¬ IsFetchLength n in
    let alone : len ≡ fetch_length (3 ∷ piece) = e in
    record {
      taken = 3 ∷ piece;
      rest = told.rest;
      parts = ap (λ (r : List ℕ). 3 ∷ r) told.parts;
      left = told.left;
      of_all = inr (refl, omega arith, subst P same (not_good 65536 len bad));
      of_taken = inr (refl, omega arith, subst P alone (not_good 65536 len bad));
    }

fetch_after : (bytes piece : List ℕ) (after : Option (List ℕ)) (at len : ℕ) → length piece ≡ 12 → IsBytes piece
    → at ≡ field 8 (3 ∷ piece) 1 → len ≡ field 4 (3 ∷ piece) 9 → IsFetchLength len
    → Takes piece bytes after → TakesRecord (Fetch at len) (3 ∷ bytes) after
fetch_after bytes piece after at len size lawful a e good told =
    let front : List ℕ = 3 ∷ piece in
    let front_lawful : IsBytes front = tagged 3 piece (omega arith) lawful in
    let P : ℕ → Type 0 = λ n. IsFetchLength n in
    let Q : Event → Type 0 = λ v. TakesRecord v (3 ∷ bytes) after in
    let mine : Fetch (field 8 front 1) (field 4 front 9) ≡ Fetch at len = cc in
    let spelled : spelling_of (Fetch (field 8 front 1) (field 4 front 9)) ≡ front = fetch_spelled front (omega arith) front_lawful refl in
    subst Q mine (record {
      lawful = fetch_lawful front front_lawful (subst P e good);
      takes = record {
        rest = told.rest;
        parts = ap (λ (r : List ℕ). 3 ∷ r) told.parts ∙ ap (λ (r : List ℕ). r ++ told.rest) (sym spelled);
        left = told.left;
      };
    })

-- A fetch was taken whole.
pub fetch_whole : (start after : Option (List ℕ)) (piece : List ℕ) (at len : ℕ) → length piece ≡ 12 → IsBytes piece
    → at ≡ field 8 (3 ∷ piece) 1 → len ≡ field 4 (3 ∷ piece) 9 → IsFetchLength len
    → IfSome start (λ b. Takes piece b after) → IfSome start (λ b. TakesRecord (Fetch at len) (3 ∷ b) after)
fetch_whole None after piece at len size lawful a e good told = tt
fetch_whole (Some bytes) after piece at len size lawful a e good told = fetch_after bytes piece after at len size lawful a e good told

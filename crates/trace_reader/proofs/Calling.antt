-- A call that took the header, where there was one, and then failed in a record.
use Rattle.std.proofs.Common.{◌≡◌, ℕ, ◌+◌, ◌≤◌, ◌<◌, inl, inr, List, [], ◌∷◌, ◌++◌, length, get_or, Option, Some, None, Err, IfSome, refl, sym, ap, ◌∙◌, subst, append_assoc, arith}
use Rattle.std.proofs.lemmas.Grind.{common_steps}
use Rattle.trace_reader.specs.declared.fault.TraceFault.{TraceFault}
use Rattle.trace_reader.specs.declared.fault.TraceFault.TheVariants.{BadHeader, BadTag, BadLength, Truncated, ReadFault, NoMemory, TooMany}
use Rattle.trace_reader.specs.Trace.{Fault, EndsAs, HasBadLength, IsCut}
use Rattle.trace_reader.specs.Reader.{ReaderState}
use Rattle.trace_reader.specs.Reading.{front_of, Tells, MeetsEnding, TakesLess, TakesWith}
use Rattle.trace_reader.specs.Pieces.{Takes, TakesAllBut, ReadsEvent, ReadsRecord}

-- the ending of the bytes behind the header is that of the bytes
behind_front : (s : ReaderState) (bytes rest : List ℕ) (f : TraceFault) (k : ℕ) → bytes ≡ front_of s ++ rest → k ≡ s.whole + 1
    → EndsAs s.limit s.whole rest (Fault f (s.whole + 1)) → MeetsEnding s bytes (Fault f k)
behind_front s bytes rest f k parts e ends =
    let P : ℕ → Type 0 = λ m. EndsAs s.limit s.whole rest (Fault f m) in
    inr (rest, parts, subst P (sym e) ends)

with_each : (Holds Other : List ℕ → Type 0) (bytes : List ℕ) (after : Option (List ℕ)) → ((b : List ℕ) → Holds b → Other b)
    → TakesWith Holds bytes after → TakesWith Other bytes after
with_each Holds Other bytes after each t =
    record { taken = t.taken; rest = t.rest; parts = t.parts; left = t.left; of_all = each bytes t.of_all; of_taken = each t.taken t.of_taken }

-- a fault of the bytes, and of those that were taken
with_front : (s : ReaderState) (bytes rest : List ℕ) (f : TraceFault) (k : ℕ) (after : Option (List ℕ)) → bytes ≡ front_of s ++ rest → k ≡ s.whole + 1
    → TakesWith (λ b. EndsAs s.limit s.whole b (Fault f (s.whole + 1))) rest after → TakesWith (λ b. MeetsEnding s b (Fault f k)) bytes after
with_front s bytes rest f k after parts e t = record {
  taken = front_of s ++ t.taken;
  rest = t.rest;
  parts = parts ∙ ap (λ (r : List ℕ). front_of s ++ r) t.parts ∙ sym (append_assoc (front_of s) t.taken t.rest);
  left = t.left;
  of_all = behind_front s bytes rest f k parts e t.of_all;
  of_taken = behind_front s (front_of s ++ t.taken) t.taken f k refl e t.of_taken;
}

took_less : (s : ReaderState) (bytes rest taken : List ℕ) (k : ℕ) (after : Option (List ℕ)) → bytes ≡ front_of s ++ rest → k ≡ s.whole + 1
    → Takes taken rest after → EndsAs s.limit s.whole taken (Fault Truncated (s.whole + 1)) → TakesLess s bytes k after
took_less s bytes rest taken k after parts e t cut = record {
  taken = front_of s ++ taken;
  rest = t.rest;
  parts = parts ∙ ap (λ (r : List ℕ). front_of s ++ r) t.parts ∙ sym (append_assoc (front_of s) taken t.rest);
  left = t.left;
  cut = behind_front s (front_of s ++ taken) taken Truncated k refl e cut;
}

cut_before : (rest : List ℕ) (after : Option (List ℕ)) (t : TakesAllBut rest after) → IsCut t.taken
cut_before rest after t =
    let size = t.size in
    let some = t.good.0 in
    inl (t.tag, inr (t.good, omega arith))

fails : (s new : ReaderState) (bytes rest : List ℕ) (after : Option (List ℕ)) (f : TraceFault) → new.number ≡ s.whole + 1
    → bytes ≡ front_of s ++ rest → ReadsRecord s.limit s.whole rest (Err f) after → Tells s bytes (Err f) new after
fails s new bytes rest after BadHeader e parts told = with_front s bytes rest BadHeader new.number after parts e told
fails s new bytes rest after BadTag e parts told = with_front s bytes rest BadTag new.number after parts e told
fails s new bytes rest after BadLength e parts told = with_front s bytes rest BadLength new.number after parts e told
fails s new bytes rest after Truncated e parts told = with_front s bytes rest Truncated new.number after parts e told
fails s new bytes rest after ReadFault e parts told = took_less s bytes rest told.taken new.number after parts e told.takes told.cut
fails s new bytes rest after NoMemory e parts told =
    let t = told.1 in (
      took_less s bytes rest t.taken new.number after parts e t.takes (refl, inr (told.0, cut_before rest after t)),
      record {
        room = told.0;
        record_front = t.taken;
        rest = t.takes.rest;
        taken = parts ∙ ap (λ (r : List ℕ). front_of s ++ r) t.takes.parts;
        size = t.size;
        tag = t.tag;
        good = t.good;
      },
    )
fails s new bytes rest after TooMany e parts told = with_front s bytes rest TooMany new.number after parts e told

failed : (s new : ReaderState) (start mid after : Option (List ℕ)) (f : TraceFault) → new.number ≡ s.whole + 1
    → IfSome start (λ b. Takes (front_of s) b mid) → IfSome mid (λ b. ReadsRecord s.limit s.whole b (Err f) after)
    → IfSome start (λ b. Tells s b (Err f) new after)
failed s new None mid after f e told more = tt
failed s new (Some bytes) mid after f e told more =
    let P : Option (List ℕ) → Type 0 = λ o. IfSome o (λ b. ReadsRecord s.limit s.whole b (Err f) after) in
    fails s new bytes told.rest after f e told.parts (subst P told.left more)

pub record_failed : (old s new : ReaderState) (start mid after : Option (List ℕ)) (f : TraceFault) → s ≡ old → new.number ≡ s.whole + 1
    → IfSome start (λ b. Takes (front_of s) b mid) → IfSome mid (λ b. ReadsRecord s.limit s.whole b (Err f) after)
    → IfSome start (λ b. Tells old b (Err f) new after)
record_failed old s new start mid after f same e told more =
    let P : ReaderState → Type 0 = λ r. IfSome start (λ b. Tells r b (Err f) new after) in
    subst P same (failed s new start mid after f e told more)

-- a write or a fetch failed behind its tag
event_by : (limit n tag : ℕ) (rest : List ℕ) (after : Option (List ℕ)) (f : TraceFault) → n < limit → ReadsEvent (tag ∷ rest) (Err f) after → ReadsRecord limit n (tag ∷ rest) (Err f) after
event_by limit n tag rest after BadHeader room told = absurd told
event_by limit n tag rest after BadTag room told = absurd told
event_by limit n tag rest after BadLength room told =
    with_each HasBadLength (λ b. EndsAs limit n b (Fault BadLength (n + 1))) (tag ∷ rest) after (λ b bad. (refl, room, bad)) told
event_by limit n tag rest after Truncated room told =
    with_each IsCut (λ b. EndsAs limit n b (Fault Truncated (n + 1))) (tag ∷ rest) after (λ b cut. (refl, inr (room, cut))) told
event_by limit n tag rest after ReadFault room told = record { taken = told.taken; takes = told.takes; cut = (refl, inr (room, told.cut)) }
event_by limit n tag rest after NoMemory room told = (room, told)
event_by limit n tag rest after TooMany room told = absurd told

tag_is : (tag : ℕ) (piece : List ℕ) → length piece ≡ 1 → get_or piece 0 0 ≡ tag → piece ≡ tag ∷ []
tag_is tag [] size is = absurd (omega arith)
tag_is tag (x ∷ []) size is = ap (λ (y : ℕ). y ∷ []) is
tag_is tag (x ∷ y ∷ more) size is = absurd (omega arith)

pub event_failed : (limit n tag : ℕ) (start mid after : Option (List ℕ)) (piece : List ℕ) (f : TraceFault) → n ≤ limit → ¬ (n ≡ limit)
    → length piece ≡ 1 → get_or piece 0 0 ≡ tag → IfSome start (λ b. Takes piece b mid) → IfSome mid (λ b. ReadsEvent (tag ∷ b) (Err f) after)
    → IfSome start (λ b. ReadsRecord limit n b (Err f) after)
event_failed limit n tag None mid after piece f few other size is told more = tt
event_failed limit n tag (Some bytes) mid after piece f few other size is told more =
    let parts : bytes ≡ tag ∷ told.rest = told.parts ∙ ap (λ (p : List ℕ). p ++ told.rest) (tag_is tag piece size is) in
    let P : Option (List ℕ) → Type 0 = λ o. IfSome o (λ b. ReadsEvent (tag ∷ b) (Err f) after) in
    let Q : List ℕ → Type 0 = λ b. ReadsRecord limit n b (Err f) after in
    let room : n < limit = grind (arith, common_steps, few, other) in
    subst Q (sym parts) (event_by limit n tag told.rest after f room (subst P told.left more))

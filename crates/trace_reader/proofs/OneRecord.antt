-- What one record of a trace is, as a function of the bytes.
use Rattle.std.proofs.Common.{◌≡◌, ℕ, zero, suc, ◌+◌, ◌<◌, ◌≤◌, ◌⊎◌, inl, inr, true, false, ◌&&◌, not, nat_eq, nat_lt, if◌then◌else◌, List, [], ◌∷◌, ◌++◌, length, take, drop, refl, sym, ap, ◌∙◌, subst, append_assoc, length-append, length-drop, arith}
use Rattle.std.proofs.lemmas.Bool.{cases_lt}
use Rattle.std.proofs.lemmas.Bool.Decides.{nat_tests, eqb_tells}
use Rattle.std.proofs.lemmas.Grind.{common_steps}
use Rattle.std.proofs.lemmas.List.{length-take-le, take-append-drop}
use Rattle.std.proofs.lemmas.List.Elements.{All-drop, All-take}
use Rattle.recon_bytes.specs.Field.{field}
use Rattle.verdict.specs.declared.machine.Event.{Event}
use Rattle.verdict.specs.declared.machine.Event.TheVariants.{Write, Settle, Fetch}
use Rattle.trace_reader.specs.declared.fault.TraceFault.TheVariants.{BadHeader, BadTag, BadLength, Truncated, ReadFault, NoMemory, TooMany}
use Rattle.trace_reader.proofs.Spelling.{Fields, spelled_fields, field-append, write_spelled, write_lawful, FetchFields, spelled_fetch, fetch_spelled, fetch_lawful, settle_spelled}
use Rattle.trace_reader.specs.Trace.{Ending, End, Fault, EndsAs, IsSpelled, IsBytes, IsWriteLength, IsFetchLength, write_length, fetch_length, spelling_of, HasTag}

pub data Next : Type 0 where
  Stops : Ending → Next
  Reads : Event → List ℕ → Next

abbrev pub next_write : ℕ → List ℕ → Next
next_write n left =
    if nat_lt (length left) 15 then Stops (Fault Truncated (n + 1))
    else if nat_lt 0 (write_length left) && not (nat_lt 1048576 (write_length left)) then (
    if nat_lt (length left) (15 + write_length left) then Stops (Fault Truncated (n + 1))
    else Reads (Write (field 2 left 1) (field 8 left 3) (take (write_length left) (drop 15 left))) (drop (15 + write_length left) left)
    )
    else Stops (Fault BadLength (n + 1))

abbrev pub next_fetch : ℕ → List ℕ → Next
next_fetch n left =
    if nat_lt (length left) 13 then Stops (Fault Truncated (n + 1))
    else if nat_lt 0 (fetch_length left) && not (nat_lt 65536 (fetch_length left)) then Reads (Fetch (field 8 left 1) (fetch_length left)) (drop 13 left)
    else Stops (Fault BadLength (n + 1))

abbrev pub next_of : ℕ → ℕ → List ℕ → Next
next_of limit n [] = Stops (Fault Truncated (n + 1))
next_of limit n (tag ∷ rest) =
    if nat_eq tag 255 then Stops End
    else if nat_eq n limit then Stops (Fault TooMany (n + 1))
    else if nat_eq tag 1 then next_write n (tag ∷ rest)
    else if nat_eq tag 2 then Reads Settle rest
    else if nat_eq tag 3 then next_fetch n (tag ∷ rest)
    else Stops (Fault BadTag (n + 1))

no_tag : (tag k : ℕ) → ¬ (tag ≡ k) → nat_eq tag k ≡ false
no_tag tag k h = grind (arith, nat_tests)

is_tag : (tag k : ℕ) → tag ≡ k → nat_eq tag k ≡ true
is_tag tag k h = grind (arith, nat_tests)

has_room : (n limit : ℕ) → n < limit → nat_eq n limit ≡ false
has_room n limit h = grind (arith, nat_tests)

next_of-write : (limit n tag : ℕ) (rest : List ℕ) → n < limit → tag ≡ 1 → next_of limit n (tag ∷ rest) ≡ next_write n (tag ∷ rest)
next_of-write limit n tag rest h e =
    rw (no_tag tag 255 (λ q. omega arith), has_room n limit h, is_tag tag 1 e) refl

next_of-settle : (limit n tag : ℕ) (rest : List ℕ) → n < limit → tag ≡ 2 → next_of limit n (tag ∷ rest) ≡ Reads Settle rest
next_of-settle limit n tag rest h e =
    rw (no_tag tag 255 (λ q. omega arith), has_room n limit h, no_tag tag 1 (λ q. omega arith), is_tag tag 2 e) refl

next_of-fetch : (limit n tag : ℕ) (rest : List ℕ) → n < limit → tag ≡ 3 → next_of limit n (tag ∷ rest) ≡ next_fetch n (tag ∷ rest)
next_of-fetch limit n tag rest h e =
    rw (no_tag tag 255 (λ q. omega arith), has_room n limit h, no_tag tag 1 (λ q. omega arith), no_tag tag 2 (λ q. omega arith), is_tag tag 3 e) refl

good_length : (most len : ℕ) → 1 ≤ len → len ≤ most → (nat_lt 0 len && not (nat_lt most len)) ≡ true
good_length most len low high = grind (arith, nat_tests)

bad_length : (most len : ℕ) → ¬ ((1 ≤ len) × (len ≤ most)) → (nat_lt 0 len && not (nat_lt most len)) ≡ false
bad_length most zero h = grind (arith, nat_tests)
bad_length most (suc len) h = elim (cases_lt most (suc len)) [
  | inl over ↦ grind (arith, nat_tests)
  | inr within ↦ absurd (h (omega arith, omega arith))
]

next_write-cut : (n : ℕ) (left : List ℕ) → (length left < 15) ⊎ (IsWriteLength (write_length left) × (length left < 15 + write_length left))
    → next_write n left ≡ Stops (Fault Truncated (n + 1))
next_write-cut n left (inl short) = let a : nat_lt (length left) 15 ≡ true = grind (arith, nat_tests) in rw a refl
next_write-cut n left (inr cut) = elim (cases_lt (length left) 15) [
  | inl short ↦ let a : nat_lt (length left) 15 ≡ true = grind (arith, nat_tests) in rw a refl
  | inr long ↦
      let a : nat_lt (length left) 15 ≡ false = grind (arith, nat_tests) in
      let few = cut.1 in
      let b : nat_lt (length left) (15 + write_length left) ≡ true = grind (arith, nat_tests) in
      rw (a, good_length 1048576 (write_length left) cut.0.0 cut.0.1, b) refl
]

next_write-bad : (n : ℕ) (left : List ℕ) → 15 ≤ length left → ¬ IsWriteLength (write_length left)
    → next_write n left ≡ Stops (Fault BadLength (n + 1))
next_write-bad n left long bad =
    let a : nat_lt (length left) 15 ≡ false = grind (arith, nat_tests) in
    rw (a, bad_length 1048576 (write_length left) bad) refl

next_write-whole : (n : ℕ) (left : List ℕ) → IsWriteLength (write_length left) → 15 + write_length left ≤ length left
    → next_write n left
    ≡ Reads (Write (field 2 left 1) (field 8 left 3) (take (write_length left) (drop 15 left))) (drop (15 + write_length left) left)
next_write-whole n left good long =
    let a : nat_lt (length left) 15 ≡ false = grind (arith, nat_tests) in
    let b : nat_lt (length left) (15 + write_length left) ≡ false = grind (arith, nat_tests) in
    rw (a, good_length 1048576 (write_length left) good.0 good.1, b) refl

next_fetch-cut : (n : ℕ) (left : List ℕ) → length left < 13 → next_fetch n left ≡ Stops (Fault Truncated (n + 1))
next_fetch-cut n left short = let a : nat_lt (length left) 13 ≡ true = grind (arith, nat_tests) in rw a refl

next_fetch-bad : (n : ℕ) (left : List ℕ) → 13 ≤ length left → ¬ IsFetchLength (fetch_length left)
    → next_fetch n left ≡ Stops (Fault BadLength (n + 1))
next_fetch-bad n left long bad =
    let a : nat_lt (length left) 13 ≡ false = grind (arith, nat_tests) in
    rw (a, bad_length 65536 (fetch_length left) bad) refl

next_fetch-whole : (n : ℕ) (left : List ℕ) → IsFetchLength (fetch_length left) → 13 ≤ length left
    → next_fetch n left ≡ Reads (Fetch (field 8 left 1) (fetch_length left)) (drop 13 left)
next_fetch-whole n left good long =
    let a : nat_lt (length left) 13 ≡ false = grind (arith, nat_tests) in
    rw (a, good_length 65536 (fetch_length left) good.0 good.1) refl

pub next_of-ends : (limit n : ℕ) (left : List ℕ) (ending : Ending) → EndsAs limit n left ending → next_of limit n left ≡ Stops ending
next_of-ends limit n [] End h = absurd h
next_of-ends limit n (tag ∷ rest) End h = let a : nat_eq tag 255 ≡ true = grind (arith, nat_tests, h) in rw a refl
next_of-ends limit n [] (Fault TooMany k) h = absurd h.2
next_of-ends limit n (tag ∷ rest) (Fault TooMany k) h =
    let full = h.1 in
    let b : nat_eq n limit ≡ true = grind (arith, nat_tests) in
    rw (no_tag tag 255 h.2, b) (ap (λ (m : ℕ). Stops (Fault TooMany m)) (sym h.0))
next_of-ends limit n [] (Fault BadTag k) h = absurd h.2
next_of-ends limit n (tag ∷ rest) (Fault BadTag k) h =
    rw (no_tag tag 255 h.2.3, has_room n limit h.1, no_tag tag 1 h.2.0, no_tag tag 2 h.2.1, no_tag tag 3 h.2.2) (ap (λ (m : ℕ). Stops (Fault BadTag m)) (sym h.0))
next_of-ends limit n [] (Fault BadLength k) (e, room, inl bad) = absurd bad.0
next_of-ends limit n [] (Fault BadLength k) (e, room, inr bad) = absurd bad.0
next_of-ends limit n (tag ∷ rest) (Fault BadLength k) (e, room, inl bad) =
    next_of-write limit n tag rest room bad.0
    ∙ next_write-bad n (tag ∷ rest) bad.1 bad.2
    ∙ ap (λ (m : ℕ). Stops (Fault BadLength m)) (sym e)
next_of-ends limit n (tag ∷ rest) (Fault BadLength k) (e, room, inr bad) =
    next_of-fetch limit n tag rest room bad.0
    ∙ next_fetch-bad n (tag ∷ rest) bad.1 bad.2
    ∙ ap (λ (m : ℕ). Stops (Fault BadLength m)) (sym e)
next_of-ends limit n [] (Fault Truncated k) h = ap (λ (m : ℕ). Stops (Fault Truncated m)) (sym h.0)
next_of-ends limit n (tag ∷ rest) (Fault Truncated k) (e, inl none) = absurd (cc)
next_of-ends limit n (tag ∷ rest) (Fault Truncated k) (e, inr (room, inl cut)) =
    next_of-write limit n tag rest room cut.0
    ∙ next_write-cut n (tag ∷ rest) cut.1
    ∙ ap (λ (m : ℕ). Stops (Fault Truncated m)) (sym e)
next_of-ends limit n (tag ∷ rest) (Fault Truncated k) (e, inr (room, inr cut)) =
    next_of-fetch limit n tag rest room cut.0
    ∙ next_fetch-cut n (tag ∷ rest) cut.1
    ∙ ap (λ (m : ℕ). Stops (Fault Truncated m)) (sym e)
next_of-ends limit n left (Fault BadHeader k) h = absurd h
next_of-ends limit n left (Fault ReadFault k) h = absurd h
next_of-ends limit n left (Fault NoMemory k) h = absurd h

middle : (a b c : List ℕ) (n : ℕ) → length a ≡ n → take (length b) (drop n (a ++ (b ++ c))) ≡ b
middle a b c n e = grind (arith, common_steps)

behind : (a c : List ℕ) (n : ℕ) → length a ≡ n → drop n (a ++ c) ≡ c
behind a c n e = grind (arith, common_steps)

last : (a b c : List ℕ) (n : ℕ) → length a ≡ n → drop (n + length b) (a ++ (b ++ c)) ≡ c
last a b c n e =
    ap (drop (n + length b)) (sym (append_assoc a b c)) ∙ behind (a ++ b) c (n + length b) (omega (arith, length-append a b))

same_write : (submitter at : ℕ) (bytes rest left : List ℕ) → Fields submitter at bytes left rest
    → Reads (Write (field 2 left 1) (field 8 left 3) (take (write_length left) (drop 15 left))) (drop (15 + write_length left) left)
    ≡ Reads (Write submitter at bytes) rest
same_write submitter at bytes rest left f =
    let size = f.size in
    let mine : take (length bytes) (drop 15 left) ≡ bytes = rw f.parts (middle f.front bytes rest 15 f.size) in
    let behind : drop (15 + length bytes) left ≡ rest = rw f.parts (last f.front bytes rest 15 f.size) in
    rw (f.submitter_is, f.at_is, f.len_is, mine, behind) refl

long_enough : (submitter at : ℕ) (bytes rest left : List ℕ) → Fields submitter at bytes left rest → 15 + write_length left ≤ length left
long_enough submitter at bytes rest left f =
    let size = f.size in
    let len = f.len_is in
    let all : length left ≡ 15 + (length bytes + length rest) = rw f.parts (grind (arith, common_steps)) in
    omega arith

begins : (limit n submitter at : ℕ) (bytes rest left : List ℕ) → n < limit → Fields submitter at bytes left rest
    → next_of limit n left ≡ next_write n left
begins limit n submitter at bytes rest [] room f = absurd f.tag
begins limit n submitter at bytes rest (tag ∷ more) room f = next_of-write limit n tag more room f.tag

begins_fetch : (limit n at len : ℕ) (rest left : List ℕ) → n < limit → FetchFields at len left rest
    → next_of limit n left ≡ next_fetch n left
begins_fetch limit n at len rest [] room f = absurd f.tag
begins_fetch limit n at len rest (tag ∷ more) room f = next_of-fetch limit n tag more room f.tag

same_fetch : (at len : ℕ) (rest left : List ℕ) → FetchFields at len left rest
    → Reads (Fetch (field 8 left 1) (fetch_length left)) (drop 13 left) ≡ Reads (Fetch at len) rest
same_fetch at len rest left f = rw (f.at_is, f.len_is, f.behind) refl

pub next_of-reads : (limit n : ℕ) (e : Event) (rest : List ℕ) → IsSpelled e → n < limit → next_of limit n (spelling_of e ++ rest) ≡ Reads e rest
next_of-reads limit n (Write submitter at bytes) rest h room =
    let left : List ℕ = spelling_of (Write submitter at bytes) ++ rest in
    let f = spelled_fields submitter at bytes rest h in
    let P : ℕ → Type 0 = λ len. IsWriteLength len in
    begins limit n submitter at bytes rest left room f
    ∙ next_write-whole n left (subst P (sym f.len_is) h.2) (long_enough submitter at bytes rest left f)
    ∙ same_write submitter at bytes rest left f
next_of-reads limit n Settle rest h room = ap (λ (r : List ℕ). next_of limit n (r ++ rest)) settle_spelled ∙ next_of-settle limit n 2 rest room refl
next_of-reads limit n (Fetch at len) rest h room =
    let left : List ℕ = spelling_of (Fetch at len) ++ rest in
    let f = spelled_fetch at len rest h in
    let P : ℕ → Type 0 = λ k. IsFetchLength k in
    begins_fetch limit n at len rest left room f
    ∙ next_fetch-whole n left (subst P (sym f.len_is) h.1) f.long
    ∙ same_fetch at len rest left f

abbrev pub EndsOrReads : ℕ → ℕ → List ℕ → Type 0
EndsOrReads limit n left =
    ((ending : Ending) × EndsAs limit n left ending)
    ⊎ ((e : Event) × (rest : List ℕ) × IsSpelled e × (n < limit) × (left ≡ spelling_of e ++ rest))

still_begins : (tag n : ℕ) (left : List ℕ) → HasTag tag left → HasTag tag (take (suc n) left)
still_begins tag n [] h = absurd h
still_begins tag n (first ∷ rest) h = h

-- a whole write is one event
whole_write : (limit n : ℕ) (left : List ℕ) → IsBytes left → n < limit → HasTag 1 left
    → IsWriteLength (write_length left) → 15 + write_length left ≤ length left → EndsOrReads limit n left
whole_write limit n left h room tag good long =
    let front = take 15 left in
    let len = write_length left in
    let bytes = take len (drop 15 left) in
    let rest = drop len (drop 15 left) in
    let size : length front ≡ 15 = length-take-le 15 left (omega arith) in
    let parts : front ++ drop 15 left ≡ left = take-append-drop 15 left in
    let lawful : IsBytes front = All-take (λ b. b < 256) 15 left h in
    let lawful_bytes : IsBytes bytes = All-take (λ b. b < 256) len (drop 15 left) (All-drop (λ b. b < 256) 15 left h) in
    let many : length bytes ≡ len = length-take-le len (drop 15 left) (simp length-drop (omega arith)) in
    let same : field 4 front 11 ≡ len = sym (field-append 4 front (drop 15 left) 11 (omega arith)) ∙ ap (λ (b : List ℕ). field 4 b 11) parts in
    let P : ℕ → Type 0 = λ m. IsWriteLength m in
    let e : Event = Write (field 2 front 1) (field 8 front 3) bytes in
    let spelled : spelling_of e ≡ front ++ bytes = write_spelled front bytes size lawful (still_begins 1 14 left tag) (many ∙ sym same) in
    inr (
      e,
      rest,
      write_lawful front bytes lawful (subst P (sym many) good) lawful_bytes,
      room,
      sym parts
          ∙ ap (λ (r : List ℕ). front ++ r) (sym (take-append-drop len (drop 15 left)))
          ∙ sym (append_assoc front bytes rest)
          ∙ ap (λ (r : List ℕ). r ++ rest) (sym spelled),
    )

decides_write : (limit n : ℕ) (left : List ℕ) → IsBytes left → n < limit → HasTag 1 left → EndsOrReads limit n left
decides_write limit n left h room tag = elim (cases_lt (length left) 15) [
  | inl short ↦ inl (Fault Truncated (n + 1), (refl, inr (room, inl (tag, inl short))))
  | inr long ↦ elim (cases_lt 0 (write_length left)) [
    | inr none ↦ inl (Fault BadLength (n + 1), (refl, room, inl (tag, long, λ good. let low = good.0 in omega arith)))
    | inl some ↦ elim (cases_lt 1048576 (write_length left)) [
      | inl many ↦ inl (Fault BadLength (n + 1), (refl, room, inl (tag, long, λ good. let high = good.1 in omega arith)))
      | inr few ↦ elim (cases_lt (length left) (15 + write_length left)) [
        | inl cut ↦ inl (Fault Truncated (n + 1), (refl, inr (room, inl (tag, inr ((omega arith, omega arith), cut)))))
        | inr whole ↦ whole_write limit n left h room tag (omega arith, omega arith) whole
      ]
    ]
  ]
]

-- a whole fetch is one event
whole_fetch : (limit n : ℕ) (left : List ℕ) → IsBytes left → n < limit → HasTag 3 left
    → IsFetchLength (fetch_length left) → 13 ≤ length left → EndsOrReads limit n left
whole_fetch limit n left h room tag good long =
    let front = take 13 left in
    let rest = drop 13 left in
    let size : length front ≡ 13 = length-take-le 13 left (omega arith) in
    let parts : front ++ rest ≡ left = take-append-drop 13 left in
    let lawful : IsBytes front = All-take (λ b. b < 256) 13 left h in
    let same : field 4 front 9 ≡ fetch_length left = sym (field-append 4 front rest 9 (omega arith)) ∙ ap (λ (b : List ℕ). field 4 b 9) parts in
    let P : ℕ → Type 0 = λ m. IsFetchLength m in
    let e : Event = Fetch (field 8 front 1) (field 4 front 9) in
    let spelled : spelling_of e ≡ front = fetch_spelled front size lawful (still_begins 3 12 left tag) in
    inr (
      e,
      rest,
      fetch_lawful front lawful (subst P (sym same) good),
      room,
      sym parts ∙ ap (λ (r : List ℕ). r ++ rest) (sym spelled),
    )

decides_fetch : (limit n : ℕ) (left : List ℕ) → IsBytes left → n < limit → HasTag 3 left → EndsOrReads limit n left
decides_fetch limit n left h room tag = elim (cases_lt (length left) 13) [
  | inl short ↦ inl (Fault Truncated (n + 1), (refl, inr (room, inr (tag, short))))
  | inr long ↦ elim (cases_lt 0 (fetch_length left)) [
    | inr none ↦ inl (Fault BadLength (n + 1), (refl, room, inr (tag, long, λ good. let low = good.0 in omega arith)))
    | inl some ↦ elim (cases_lt 65536 (fetch_length left)) [
      | inl many ↦ inl (Fault BadLength (n + 1), (refl, room, inr (tag, long, λ good. let high = good.1 in omega arith)))
      | inr few ↦ whole_fetch limit n left h room tag (omega arith, omega arith) long
    ]
  ]
]

one_settle : (limit n tag : ℕ) (rest : List ℕ) → n < limit → tag ≡ 2 → EndsOrReads limit n (tag ∷ rest)
one_settle limit n tag rest room e =
    inr (Settle, rest, tt, room, ap (λ (t : ℕ). t ∷ rest) e ∙ ap (λ (r : List ℕ). r ++ rest) (sym settle_spelled))

-- the records that are no writes
decides_other : (limit n tag : ℕ) (rest : List ℕ) → IsBytes (tag ∷ rest) → n < limit → ¬ (tag ≡ 1) → ¬ (tag ≡ 255) → EndsOrReads limit n (tag ∷ rest)
decides_other limit n tag rest h room no_write more = elim (eqb_tells tag 2) [
  | inl settle ↦ one_settle limit n tag rest room settle.1
  | inr no_settle ↦ elim (eqb_tells tag 3) [
    | inl fetch ↦ decides_fetch limit n (tag ∷ rest) h room fetch.1
    | inr other ↦ inl (Fault BadTag (n + 1), (refl, room, (no_write, no_settle.1, other.1, more)))
  ]
]

-- after n whole records there is either an end or one more record
pub decides : (limit n : ℕ) (left : List ℕ) → IsBytes left → n ≤ limit → EndsOrReads limit n left
decides limit n [] h few = inl (Fault Truncated (n + 1), (refl, inl refl))
decides limit n (tag ∷ rest) h few = elim (eqb_tells tag 255) [
  | inl end ↦ inl (End, end.1)
  | inr more ↦ elim (cases_lt n limit) [
    | inr full ↦ inl (Fault TooMany (n + 1), (refl, omega arith, more.1))
    | inl room ↦ elim (eqb_tells tag 1) [
      | inl write ↦ decides_write limit n (tag ∷ rest) h room write.1
      | inr other ↦ decides_other limit n tag rest h room other.1 more.1
    ]
  ]
]

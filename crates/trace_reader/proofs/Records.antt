-- The records of a trace: there are always some, and only one way to read them.
use Rattle.std.proofs.Common.{◌≡◌, ℕ, zero, suc, ◌+◌, ◌<◌, ◌≤◌, ◌⊎◌, inl, inr, List, [], ◌∷◌, ◌++◌, length, take, drop, refl, sym, ap, ◌∙◌, subst, arith, append_assoc, length-append}
use Rattle.std.specs.List.{All}
use Rattle.std.proofs.lemmas.Bool.{cases_lt}
use Rattle.std.proofs.lemmas.Bool.Decides.{eqb_tells}
use Rattle.std.proofs.lemmas.List.{length-take}
use Rattle.std.proofs.lemmas.Grind.{common_steps}
use Rattle.std.proofs.lemmas.List.Elements.{All-drop}
use Rattle.verdict.specs.declared.machine.Event.{Event}
use Rattle.verdict.specs.declared.machine.Event.TheVariants.{Write, Settle, Fetch}
use Rattle.trace_reader.specs.declared.fault.TraceFault.TheVariants.{BadHeader, Truncated}
use Rattle.trace_reader.specs.Trace.{Ending, Fault, EndsAs, IsSpelled, IsBytes, spelling_of, spelling_of_all, IsRecords, IsTrace, header_bytes, OneTrace}
use Rattle.trace_reader.proofs.OneRecord.{Stops, Reads, next_of, next_of-ends, next_of-reads, decides}

-- no more records
pub records_end : (limit n : ℕ) (bytes : List ℕ) (ending : Ending) → EndsAs limit n bytes ending → n ≤ limit → IsRecords limit n bytes [] ending
records_end limit n bytes ending ends few = record {
  rest = bytes;
  spelled = refl;
  lawful = λ k d h. absurd (omega arith);
  few = omega arith;
  ends = let e : n + 0 ≡ n = omega arith in let P : ℕ → Type 0 = λ m. EndsAs limit m bytes ending in subst P (sym e) ends;
}

all_more : (P : Event → Type 0) (e : Event) (events : List Event) → P e → All P events → All P (e ∷ events)
all_more P e events first more zero d h = first
all_more P e events first more (suc k) d h = more k d (omega arith)

-- one more record in front
pub records_more : (limit n : ℕ) (e : Event) (rest : List ℕ) (events : List Event) (ending : Ending)
    → IsSpelled e → n < limit → IsRecords limit (n + 1) rest events ending
    → IsRecords limit n (spelling_of e ++ rest) (e ∷ events) ending
records_more limit n e rest events ending lawful room more = record {
  rest = more.rest;
  spelled = ap (λ (r : List ℕ). spelling_of e ++ r) more.spelled ∙ sym (append_assoc (spelling_of e) (spelling_of_all events) more.rest);
  lawful = all_more IsSpelled e events lawful more.lawful;
  few = let few = more.few in omega arith;
  ends = let k : n + 1 + length events ≡ n + length (e ∷ events) = omega arith in let P : ℕ → Type 0 = λ m. EndsAs limit m more.rest ending in subst P k more.ends;
}

-- the records behind the first
records_rest : (limit n : ℕ) (bytes : List ℕ) (e : Event) (events : List Event) (ending : Ending)
    → IsRecords limit n bytes (e ∷ events) ending
    → (rest : List ℕ) × (bytes ≡ spelling_of e ++ rest) × IsSpelled e × (n < limit) × IsRecords limit (n + 1) rest events ending
records_rest limit n bytes e events ending r =
    let few = r.few in (
      spelling_of_all events ++ r.rest,
      r.spelled ∙ append_assoc (spelling_of e) (spelling_of_all events) r.rest,
      r.lawful 0 e (omega arith),
      omega arith,
      record {
        rest = r.rest;
        spelled = refl;
        lawful = λ k d h. r.lawful (suc k) d (omega arith);
        few = omega arith;
        ends = let k : n + length (e ∷ events) ≡ n + 1 + length events = omega arith in let P : ℕ → Type 0 = λ m. EndsAs limit m r.rest ending in subst P k r.ends;
      },
    )

records_none : (limit n : ℕ) (bytes : List ℕ) (ending : Ending) → IsRecords limit n bytes [] ending → EndsAs limit n bytes ending
records_none limit n bytes ending r =
    let e : n + 0 ≡ n = omega arith in
    let P : ℕ → Type 0 = λ m. EndsAs limit m r.rest ending in
    let Q : List ℕ → Type 0 = λ b. EndsAs limit n b ending in
    subst Q (sym r.spelled) (subst P e r.ends)

behind_bytes : (spelled rest bytes : List ℕ) → bytes ≡ spelled ++ rest → IsBytes bytes → IsBytes rest
behind_bytes spelled rest bytes e h =
    let d : drop (length spelled) bytes ≡ rest = rw e (grind (arith, common_steps)) in
    let P : List ℕ → Type 0 = IsBytes in
    subst P d (All-drop (λ b. b < 256) (length spelled) bytes h)

shorter : (e : Event) (rest bytes : List ℕ) → bytes ≡ spelling_of e ++ rest → length rest < length bytes
unfolding spelling_of
shorter (Write submitter at written) rest bytes q =
    let n : length bytes ≡ length (spelling_of (Write submitter at written) ++ rest) = ap length q in
    omega (arith, length-append written rest)
shorter Settle rest bytes q = let n = ap length q in omega arith
shorter (Fetch at len) rest bytes q = let n = ap length q in omega arith

exist_within : (fuel limit n : ℕ) (bytes : List ℕ) → length bytes < fuel → IsBytes bytes → n ≤ limit
    → (events : List Event) × (ending : Ending) × IsRecords limit n bytes events ending
exist_within zero limit n bytes within h few = absurd (omega arith)
exist_within (suc fuel) limit n bytes within h few = elim (decides limit n bytes h few) [
  | inl w ↦ ([], w.0, records_end limit n bytes w.0 w.1 few)
  | inr w ↦
      let less = shorter w.0 w.1 bytes w.4 in
      let more = exist_within fuel limit (n + 1) w.1 (omega arith) (behind_bytes (spelling_of w.0) w.1 bytes w.4 h) (omega arith) in
      let P : List ℕ → Type 0 = λ b. IsRecords limit n b (w.0 ∷ more.0) more.1 in
      (w.0 ∷ more.0, more.1, subst P (sym w.4) (records_more limit n w.0 w.1 more.0 more.1 w.2 w.3 more.2))
]

-- bytes always hold some records and end in some way
pub records_exist : (limit n : ℕ) (bytes : List ℕ) → IsBytes bytes → n ≤ limit
    → (events : List Event) × (ending : Ending) × IsRecords limit n bytes events ending
records_exist limit n bytes h few = exist_within (length bytes + 1) limit n bytes (omega arith) h few

-- and only one way
pub records_same : (limit n : ℕ) (bytes : List ℕ) (events others : List Event) (ending other : Ending)
    → IsRecords limit n bytes events ending → IsRecords limit n bytes others other → (others ≡ events) × (other ≡ ending)
records_same limit n bytes [] [] ending other r s =
    let a : next_of limit n bytes ≡ Stops ending = next_of-ends limit n bytes ending (records_none limit n bytes ending r) in
    let b : next_of limit n bytes ≡ Stops other = next_of-ends limit n bytes other (records_none limit n bytes other s) in
    let c : Stops other ≡ Stops ending = sym b ∙ a in
    (refl, cc)
records_same limit n bytes [] (f ∷ others) ending other r s =
    let a : next_of limit n bytes ≡ Stops ending = next_of-ends limit n bytes ending (records_none limit n bytes ending r) in
    let t = records_rest limit n bytes f others other s in
    let b : next_of limit n bytes ≡ Reads f t.0 = ap (next_of limit n) t.1 ∙ next_of-reads limit n f t.0 t.2 t.3 in
    let c : Stops ending ≡ Reads f t.0 = sym a ∙ b in
    absurd (cc)
records_same limit n bytes (e ∷ events) [] ending other r s =
    let a : next_of limit n bytes ≡ Stops other = next_of-ends limit n bytes other (records_none limit n bytes other s) in
    let t = records_rest limit n bytes e events ending r in
    let b : next_of limit n bytes ≡ Reads e t.0 = ap (next_of limit n) t.1 ∙ next_of-reads limit n e t.0 t.2 t.3 in
    let c : Stops other ≡ Reads e t.0 = sym a ∙ b in
    absurd (cc)
records_same limit n bytes (e ∷ events) (f ∷ others) ending other r s =
    let t = records_rest limit n bytes e events ending r in
    let u = records_rest limit n bytes f others other s in
    let a : next_of limit n bytes ≡ Reads e t.0 = ap (next_of limit n) t.1 ∙ next_of-reads limit n e t.0 t.2 t.3 in
    let b : next_of limit n bytes ≡ Reads f u.0 = ap (next_of limit n) u.1 ∙ next_of-reads limit n f u.0 u.2 u.3 in
    let c : Reads f u.0 ≡ Reads e t.0 = sym b ∙ a in
    let first : f ≡ e = cc in
    let rest : u.0 ≡ t.0 = cc in
    let P : List ℕ → Type 0 = λ x. IsRecords limit (n + 1) x others other in
    let more = records_same limit (n + 1) t.0 events others ending other t.4 (subst P rest u.4) in
    let more_events : others ≡ events = more.0 in
    (cc, more.1)

same_list : (xs ys : List ℕ) → (xs ≡ ys) ⊎ (¬ (xs ≡ ys))
same_list [] [] = inl refl
same_list [] (y ∷ ys) = inr (λ e. cc)
same_list (x ∷ xs) [] = inr (λ e. cc)
same_list (x ∷ xs) (y ∷ ys) = elim (eqb_tells x y) [
  | inr differ ↦ inr (λ e. differ.1 (cc))
  | inl same ↦ elim (same_list xs ys) [
    | inl rest ↦ let first = same.1 in inl (cc)
    | inr differ ↦ inr (λ e. differ (cc))
  ]
]

whole_front : (n : ℕ) (xs ys : List ℕ) → take n xs ≡ ys → length ys ≡ n → n ≤ length xs
whole_front n xs ys e size =
    let m : length (take n xs) ≡ n = ap length e ∙ size in
    let k = length-take n xs in
    omega arith

one_short : (limit : ℕ) (bytes : List ℕ) → length bytes < 16 → (events : List Event) (ending : Ending) → IsTrace limit bytes events ending
    → (events ≡ []) × (ending ≡ Fault Truncated 0)
one_short limit bytes short events ending (inl (inl (s, q), none)) = (none, q)
one_short limit bytes short events ending (inl (inr (long, d, q), none)) = absurd (omega arith)
one_short limit bytes short events ending (inr (e, r)) =
    let long = whole_front 16 bytes header_bytes e refl in
    absurd (omega arith)

one_other : (limit : ℕ) (bytes : List ℕ) → 16 ≤ length bytes → ¬ (take 16 bytes ≡ header_bytes)
    → (events : List Event) (ending : Ending) → IsTrace limit bytes events ending → (events ≡ []) × (ending ≡ Fault BadHeader 0)
one_other limit bytes long differ events ending (inl (inl (short, q), none)) = absurd (omega arith)
one_other limit bytes long differ events ending (inl (inr (l, d, q), none)) = (none, q)
one_other limit bytes long differ events ending (inr (e, r)) = absurd (differ e)

one_whole : (limit : ℕ) (bytes : List ℕ) → take 16 bytes ≡ header_bytes
    → (events : List Event) (ending : Ending) → IsRecords limit 0 (drop 16 bytes) events ending
    → (others : List Event) (other : Ending) → IsTrace limit bytes others other → (others ≡ events) × (other ≡ ending)
one_whole limit bytes same events ending r others other (inl (inl (short, q), none)) =
    let long = whole_front 16 bytes header_bytes same refl in
    absurd (omega arith)
one_whole limit bytes same events ending r others other (inl (inr (l, d, q), none)) = absurd (d same)
one_whole limit bytes same events ending r others other (inr (e, s)) =
    records_same limit 0 (drop 16 bytes) events others ending other r s

-- every list of bytes is a trace in exactly one way
pub one : OneTrace
one limit bytes h = elim (cases_lt (length bytes) 16) [
  | inl short ↦
      ([], Fault Truncated 0, inl (inl (short, refl), refl), one_short limit bytes short)
  | inr long ↦ elim (same_list (take 16 bytes) header_bytes) [
    | inr differ ↦
        ([], Fault BadHeader 0, inl (inr (long, differ, refl), refl), one_other limit bytes long differ)
    | inl same ↦
        let r = records_exist limit 0 (drop 16 bytes) (All-drop (λ b. b < 256) 16 bytes h) (omega arith) in
        (r.0, r.1, inr (same, r.2), one_whole limit bytes same r.0 r.1 r.2)
  ]
]

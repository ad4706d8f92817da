-- Writes that do not meet apply equally in any order and wait as one map, and states of one image, one such map and one judged image are alike.
use Rattle.std.proofs.Common.{◌≡◌, ℕ, zero, suc, ◌+◌, ◌-◌, ◌<◌, ◌≤◌, ◌⊎◌, inl, inr, Bool, true, false, not, if◌then◌else◌, List, [], ◌∷◌, ◌++◌, length, take, drop, map, get_or, Option, Some, refl, sym, ap, ◌∙◌, arith, subst, cond, IsTrue}
use Rattle.std.specs.Prelude.{ltb, IsPermutation}
use Rattle.std.specs.List.{All, AllByRecursion, AllPairs, sum_by}
use Rattle.std.specs.Ordering.{nat_cmp}
use Rattle.std.specs.Cmp.{nat_cmp_total}
use Rattle.std.specs.FinMap.{FinMap, get, same_map, nat_cmp-IsAntisymmetric}
use Rattle.std.proofs.lemmas.Bool.{cases_lt, lt-ltb, le-ltb}
use Rattle.std.proofs.lemmas.Grind.{common_steps}
use Rattle.std.proofs.lemmas.List.{ext_get_or}
use Rattle.std.proofs.lemmas.List.Elements.{recursion_from_All}
use Rattle.std.proofs.lemmas.List.Sums.{sum_by-cons}
use Rattle.std.proofs.lemmas.List.Sorted.{All-permutation, IsPermutation-map, sum_by-IsPermutation}
use Rattle.verdict.specs.Image.{written, applied}
use Rattle.verdict.specs.Events.{begin_of, end_of, meets_superblock}
use Rattle.verdict.specs.declared.machine.HeldWrite.{HeldWrite}
use Rattle.verdict.specs.declared.machine.Event.{Event}
use Rattle.verdict.specs.declared.machine.Event.TheVariants.{Write, Settle, Fetch}
use Rattle.verdict.specs.declared.machine.Answer.{Answer}
use Rattle.verdict.specs.declared.machine.Answer.TheVariants.{Held, Fetched}
use Rattle.verdict.proofs.Images.{length-written_any, length-applied}
use Rattle.write_cache.specs.Cache.{cache_of, with_bytes, with_writes}
use Rattle.write_cache.proofs.CacheLaws.{cache_of-push, get-with_bytes_before, get-with_bytes_behind, get-with_bytes_in}
use Rattle.records.specs.FullCheck.{full_check}
use Rattle.commit_judge.specs.Counts.{blocks_between, hot_between}
use Rattle.recon_core.specs.Machine.{MachineState, Step, answer_to, image_by, judged_image, machine_step, settle_step, with_pending}
use Rattle.recon_core.specs.Standing.{waits}
use Rattle.recon_core.specs.Law.{AreApart, OrderDecidesNothing, Outcome, outcomes_from, state_after}

-- the byte of an image after a write, which may pass its end
get-written_any : (image bytes : List ℕ) (at i : ℕ) → i < length image → at ≤ i → i < at + length bytes → get_or (written image at bytes) i 0 ≡ get_or bytes (i - at) 0
unfolding written
get-written_any image bytes at i h low high = grind (arith, common_steps)

get-written_out : (image bytes : List ℕ) (at i : ℕ) → i < length image → (i < at) ⊎ (at + length bytes ≤ i) → get_or (written image at bytes) i 0 ≡ get_or image i 0
unfolding written
get-written_out image bytes at i h (inl low) = grind (arith, common_steps)
get-written_out image bytes at i h (inr high) = grind (arith, common_steps)

-- how often a write covers an offset, and the byte that it puts there
covers : ℕ → HeldWrite → ℕ
covers i w = cond (ltb i w.at) 0 (cond (ltb i (w.at + length w.bytes)) 1 0)

put_at : ℕ → HeldWrite → ℕ
put_at i w = cond (ltb i w.at) 0 (cond (ltb i (w.at + length w.bytes)) (get_or w.bytes (i - w.at) 0) 0)

data Covered (i : ℕ) (w : HeldWrite) : Type 0 where
  inside : w.at ≤ i → i < w.at + length w.bytes → covers i w ≡ 1 → put_at i w ≡ get_or w.bytes (i - w.at) 0 → Covered i w
  outside : (i < w.at) ⊎ (w.at + length w.bytes ≤ i) → covers i w ≡ 0 → put_at i w ≡ 0 → Covered i w

covered : (i : ℕ) (w : HeldWrite) → Covered i w
unfolding covers put_at
covered i w = elim (cases_lt i w.at) [
  | inl low ↦ outside (inl low) (rw (lt-ltb i w.at low) refl) (rw (lt-ltb i w.at low) refl)
  | inr from ↦ elim (cases_lt i (w.at + length w.bytes)) [
    | inl high ↦ inside from high (rw (le-ltb i w.at from, lt-ltb i (w.at + length w.bytes) high) refl) (rw (le-ltb i w.at from, lt-ltb i (w.at + length w.bytes) high) refl)
    | inr behind ↦ outside (inr behind) (rw (le-ltb i w.at from, le-ltb i (w.at + length w.bytes) behind) refl) (rw (le-ltb i w.at from, le-ltb i (w.at + length w.bytes) behind) refl)
  ]
]

-- the old byte where no write covers it
kept_byte : ℕ → ℕ → ℕ
kept_byte zero byte = byte
kept_byte (suc n) byte = 0

-- where each offset is covered at most once, the byte is that of the one write that covers it, or the old one
laid : (ws : List HeldWrite) (image : List ℕ) (i : ℕ) → i < length image → sum_by (covers i) ws ≤ 1
    → get_or (applied image ws) i 0 ≡ sum_by (put_at i) ws + kept_byte (sum_by (covers i) ws) (get_or image i 0)
unfolding kept_byte
laid [] image i low once = omega arith
laid (w ∷ ws) image i low once =
    let c : sum_by (covers i) (w ∷ ws) ≡ covers i w + sum_by (covers i) ws = sum_by-cons (covers i) w ws in
    let p : sum_by (put_at i) (w ∷ ws) ≡ put_at i w + sum_by (put_at i) ws = sum_by-cons (put_at i) w ws in
    let n : length (written image w.at w.bytes) ≡ length image = length-written_any image w.bytes w.at in
    let more = laid ws (written image w.at w.bytes) i (omega arith) (omega arith) in
    elim (covered i w) [
      | inside from high one byte ↦
          let none : sum_by (covers i) ws ≡ 0 = omega arith in
          let all : sum_by (covers i) (w ∷ ws) ≡ 1 = omega arith in
          let here : get_or (written image w.at w.bytes) i 0 ≡ put_at i w = get-written_any image w.bytes w.at i low from high ∙ sym byte in
          let left : get_or (applied (written image w.at w.bytes) ws) i 0 ≡ sum_by (put_at i) ws + get_or (written image w.at w.bytes) i 0 =
          more ∙ ap (λ k. sum_by (put_at i) ws + kept_byte k (get_or (written image w.at w.bytes) i 0)) none in
          let right : kept_byte (sum_by (covers i) (w ∷ ws)) (get_or image i 0) ≡ 0 = ap (λ k. kept_byte k (get_or image i 0)) all in
          omega arith
      | outside out zero_ byte ↦
          let same : sum_by (covers i) ws ≡ sum_by (covers i) (w ∷ ws) = omega arith in
          let here : get_or (written image w.at w.bytes) i 0 ≡ get_or image i 0 = get-written_out image w.bytes w.at i low out in
          let left : kept_byte (sum_by (covers i) ws) (get_or (written image w.at w.bytes) i 0) ≡ kept_byte (sum_by (covers i) (w ∷ ws)) (get_or image i 0) =
          ap (λ k. kept_byte k (get_or (written image w.at w.bytes) i 0)) same ∙ ap (kept_byte (sum_by (covers i) (w ∷ ws))) here in
          omega arith
    ]

-- so their order decides nothing
same_applied : (xs ys : List HeldWrite) → IsPermutation xs ys → ((i : ℕ) → sum_by (covers i) xs ≤ 1) → (image : List ℕ) → applied image xs ≡ applied image ys
same_applied xs ys moved once image =
    let n : length (applied image xs) ≡ length image = length-applied image xs in
    let m : length (applied image ys) ≡ length image = length-applied image ys in
    ext_get_or 0 (applied image xs) (applied image ys) (n ∙ sym m) (λ i h.
    let c : sum_by (covers i) ys ≡ sum_by (covers i) xs = sum_by-IsPermutation (covers i) xs ys moved in
    let p : sum_by (put_at i) ys ≡ sum_by (put_at i) xs = sum_by-IsPermutation (put_at i) xs ys moved in
    let few : sum_by (covers i) xs ≤ 1 = once i in
    laid xs image i (omega arith) few
    ∙ ap (λ k. k + kept_byte (sum_by (covers i) xs) (get_or image i 0)) (sym p)
    ∙ ap (λ k. sum_by (put_at i) ys + kept_byte k (get_or image i 0)) (sym c)
    ∙ sym (laid ys image i (omega arith) (omega arith)))

-- the same of the map of waiting bytes
kept_or : ℕ → ℕ → Option ℕ → Option ℕ
kept_or zero byte waiting = waiting
kept_or (suc n) byte waiting = Some byte

nothing_put : (ws : List HeldWrite) (i : ℕ) → sum_by (covers i) ws ≡ 0 → sum_by (put_at i) ws ≡ 0
nothing_put [] i none = refl
nothing_put (w ∷ ws) i none =
    let c : sum_by (covers i) (w ∷ ws) ≡ covers i w + sum_by (covers i) ws = sum_by-cons (covers i) w ws in
    let p : sum_by (put_at i) (w ∷ ws) ≡ put_at i w + sum_by (put_at i) ws = sum_by-cons (put_at i) w ws in
    elim (covered i w) [
      | inside from high one byte ↦ absurd (omega arith)
      | outside out zero_ byte ↦ let rest : sum_by (put_at i) ws ≡ 0 = nothing_put ws i (omega arith) in omega arith
    ]

get_out : (m : FinMap nat_cmp ℕ) (at : ℕ) (bytes : List ℕ) (i : ℕ) → (i < at) ⊎ (at + length bytes ≤ i) → get (with_bytes m at bytes) i ≡ get m i
get_out m at bytes i (inl low) = get-with_bytes_before m at bytes i low
get_out m at bytes i (inr high) = get-with_bytes_behind m at bytes i high

held_at : (ws : List HeldWrite) (m : FinMap nat_cmp ℕ) (i : ℕ) → sum_by (covers i) ws ≤ 1
    → get (with_writes m ws) i ≡ kept_or (sum_by (covers i) ws) (sum_by (put_at i) ws) (get m i)
unfolding kept_or with_writes
held_at [] m i once = refl
held_at (w ∷ ws) m i once =
    let c : sum_by (covers i) (w ∷ ws) ≡ covers i w + sum_by (covers i) ws = sum_by-cons (covers i) w ws in
    let p : sum_by (put_at i) (w ∷ ws) ≡ put_at i w + sum_by (put_at i) ws = sum_by-cons (put_at i) w ws in
    let more = held_at ws (with_bytes m w.at w.bytes) i (omega arith) in
    elim (covered i w) [
      | inside from high one byte ↦
          let none : sum_by (covers i) ws ≡ 0 = omega arith in
          let all : 1 ≡ sum_by (covers i) (w ∷ ws) = omega arith in
          let rest : sum_by (put_at i) ws ≡ 0 = nothing_put ws i none in
          let here : get_or w.bytes (i - w.at) 0 ≡ sum_by (put_at i) (w ∷ ws) = omega arith in
          more
          ∙ ap (λ k. kept_or k (sum_by (put_at i) ws) (get (with_bytes m w.at w.bytes) i)) none
          ∙ get-with_bytes_in m w.at w.bytes i from high
          ∙ ap Some here
          ∙ ap (λ k. kept_or k (sum_by (put_at i) (w ∷ ws)) (get m i)) all
      | outside out zero_ byte ↦
          let same : sum_by (covers i) ws ≡ sum_by (covers i) (w ∷ ws) = omega arith in
          let puts : sum_by (put_at i) ws ≡ sum_by (put_at i) (w ∷ ws) = omega arith in
          more
          ∙ ap (kept_or (sum_by (covers i) ws) (sum_by (put_at i) ws)) (get_out m w.at w.bytes i out)
          ∙ ap (λ k. kept_or k (sum_by (put_at i) ws) (get m i)) same
          ∙ ap (λ k. kept_or (sum_by (covers i) (w ∷ ws)) k (get m i)) puts
    ]

-- so they wait as one map in any order
same_held : (xs ys : List HeldWrite) → IsPermutation xs ys → ((i : ℕ) → sum_by (covers i) xs ≤ 1) → (m : FinMap nat_cmp ℕ) → with_writes m xs ≡ with_writes m ys
same_held xs ys moved once m = same_map nat_cmp_total nat_cmp-IsAntisymmetric (with_writes m xs) (with_writes m ys) (λ i.
    let c : sum_by (covers i) ys ≡ sum_by (covers i) xs = sum_by-IsPermutation (covers i) xs ys moved in
    let p : sum_by (put_at i) ys ≡ sum_by (put_at i) xs = sum_by-IsPermutation (put_at i) xs ys moved in
    let few : sum_by (covers i) xs ≤ 1 = once i in
    held_at xs m i few
    ∙ ap (λ k. kept_or k (sum_by (put_at i) xs) (get m i)) (sym c)
    ∙ ap (λ k. kept_or (sum_by (covers i) ys) k (get m i)) (sym p)
    ∙ sym (held_at ys m i (omega arith)))

-- the write of an event, of no bytes where it has none
write_of : Event → HeldWrite
write_of (Write submitter at bytes) = record { at = at; bytes = bytes }
write_of Settle = record { at = 0; bytes = [] }
write_of (Fetch at len) = record { at = at; bytes = [] }

nothing_covers : (i at : ℕ) → covers i (record { at = at; bytes = [] }) ≡ 0
nothing_covers i at = elim (covered i (record { at = at; bytes = [] })) [
  | inside from high one byte ↦ absurd (omega arith)
  | outside out none byte ↦ none
]

-- whether the write of an event covers an offset
data Hit (i : ℕ) (e : Event) : Type 0 where
  misses : covers i (write_of e) ≡ 0 → Hit i e
  hits : covers i (write_of e) ≡ 1 → begin_of e ≤ i → i < end_of e → Hit i e

hit : (i : ℕ) (e : Event) → Hit i e
unfolding write_of
hit i (Write submitter at bytes) = elim (covered i (record { at = at; bytes = bytes })) [
  | inside from high one byte ↦ hits one from high
  | outside out none byte ↦ misses none
]
hit i Settle = misses (nothing_covers i 0)
hit i (Fetch at len) = misses (nothing_covers i at)

-- of events that are apart from one another one at most covers an offset
one_covers : (i : ℕ) (e f : Event) → AreApart e f → covers i (write_of e) ≡ 1 → covers i (write_of f) ≡ 0
one_covers i e f apart one = elim (hit i f) [
  | misses none ↦ none
  | hits other low high ↦ elim (hit i e) [ misses none ↦ absurd (omega arith) | hits same from top ↦ absurd (apart i from top low high) ]
]

none_covers : (i : ℕ) (e : Event) (es : List Event) → covers i (write_of e) ≡ 1 → AllByRecursion (AreApart e) es → sum_by (covers i) (map write_of es) ≡ 0
none_covers i e [] one apart = refl
none_covers i e (f ∷ fs) one apart =
    let c : sum_by (covers i) (map write_of (f ∷ fs)) ≡ covers i (write_of f) + sum_by (covers i) (map write_of fs) = sum_by-cons (covers i) (write_of f) (map write_of fs) in
    let here : covers i (write_of f) ≡ 0 = one_covers i e f apart.0 one in
    let rest : sum_by (covers i) (map write_of fs) ≡ 0 = none_covers i e fs one apart.1 in
    omega arith

once_covered : (i : ℕ) (es : List Event) → AllPairs AreApart es → sum_by (covers i) (map write_of es) ≤ 1
once_covered i [] apart = omega arith
once_covered i (e ∷ es) apart =
    let c : sum_by (covers i) (map write_of (e ∷ es)) ≡ covers i (write_of e) + sum_by (covers i) (map write_of es) = sum_by-cons (covers i) (write_of e) (map write_of es) in
    let first : All (AreApart e) es = λ j d low. apart 0 (suc j) d (omega arith) (omega arith) in
    let rest : sum_by (covers i) (map write_of es) ≤ 1 = once_covered i es (λ j k d p q. apart (suc j) (suc k) d (omega arith) (omega arith)) in
    elim (hit i e) [
      | misses none ↦ omega arith
      | hits one from high ↦ let none : sum_by (covers i) (map write_of es) ≡ 0 = none_covers i e es one (recursion_from_All (AreApart e) es first) in omega arith
    ]

-- states of one image, one map of waiting bytes and one judged image
record AreSame (s t : MachineState) : Type 0 where
  image : s.image ≡ t.image
  cache : cache_of s.pending ≡ cache_of t.pending
  judged : judged_image s ≡ judged_image t

applied-push : (image : List ℕ) (ws : List HeldWrite) (w : HeldWrite) → applied image (ws ++ w ∷ []) ≡ written (applied image ws) w.at w.bytes
applied-push image [] w = refl
applied-push image (v ∷ vs) w = applied-push (written image v.at v.bytes) vs w

same_more : (s t : MachineState) (w : HeldWrite) → AreSame s t → AreSame (with_pending s w) (with_pending t w)
same_more s t w same = record {
  image = same.image;
  cache = cache_of-push s.pending w ∙ ap (λ m. with_bytes m w.at w.bytes) same.cache ∙ sym (cache_of-push t.pending w);
  judged = applied-push s.image s.pending w ∙ ap (λ image. written image w.at w.bytes) same.judged ∙ sym (applied-push t.image t.pending w);
}

-- steps with one answer, to states that are so
record AgreeInStep (one other : Step) : Type 0 where
  answer : one.answer ≡ other.answer
  after : AreSame one.after other.after

settled : (s t : MachineState) → AreSame s t → AgreeInStep (settle_step s) (settle_step t)
settled s t same =
    let image : image_by (full_check (judged_image s)) (judged_image s) s.image ≡ image_by (full_check (judged_image t)) (judged_image t) t.image =
    ap (λ judged. image_by (full_check judged) judged s.image) same.judged ∙ ap (image_by (full_check (judged_image t)) (judged_image t)) same.image in
    record {
      answer = ap (λ judged. answer_to (full_check judged) (blocks_between s.image (cache_of s.pending)) (hot_between s.image (cache_of s.pending))) same.judged
          ∙ ap (λ old. answer_to (full_check (judged_image t)) (blocks_between old (cache_of s.pending)) (hot_between old (cache_of s.pending))) same.image
          ∙ ap (λ m. answer_to (full_check (judged_image t)) (blocks_between t.image m) (hot_between t.image m)) same.cache;
      after = record { image = image; cache = refl; judged = image };
    }

-- a write, by whether it meets the superblock place
write_step : Bool → MachineState → HeldWrite → Step
write_step meets s w = if meets then settle_step (with_pending s w) else record { answer = Held; after = with_pending s w }

write_stepped : (meets : Bool) (s t : MachineState) (w : HeldWrite) → AreSame s t → AgreeInStep (write_step meets s w) (write_step meets t w)
unfolding write_step
write_stepped true s t w same = settled (with_pending s w) (with_pending t w) (same_more s t w same)
write_stepped false s t w same = record { answer = refl; after = same_more s t w same }

stepped : (s t : MachineState) (e : Event) → AreSame s t → AgreeInStep (machine_step s e) (machine_step t e)
unfolding write_step
stepped s t (Write submitter at bytes) same = write_stepped (meets_superblock at (length bytes)) s t (record { at = at; bytes = bytes }) same
stepped s t Settle same = settled s t same
stepped s t (Fetch at len) same = record { answer = ap (λ judged. Fetched (take len (drop at judged))) same.judged; after = same }

outcome_same : (a b : Answer) (i j : List ℕ) (os ps : List Outcome) → a ≡ b → i ≡ j → os ≡ ps
    → record { answer = a; image = i } ∷ os ≡ record { answer = b; image = j } ∷ ps
outcome_same a b i j os ps x y z = rw (x, y, z) refl

outcomes_same : (events : List Event) (s t : MachineState) → AreSame s t → outcomes_from s events ≡ outcomes_from t events
outcomes_same [] s t same = refl
outcomes_same (e ∷ es) s t same =
    let step = stepped s t e same in
    outcome_same _ _ _ _ _ _ step.answer step.after.image (outcomes_same es _ _ step.after)

-- what a run of writes that wait comes to
held_step : (meets : Bool) (s : MachineState) (w : HeldWrite) → IsTrue (not meets) → (write_step meets s w).after ≡ with_pending s w
unfolding write_step
held_step true s w held = absurd (cc)
held_step false s w held = refl

record Leaves (s : MachineState) (ws : List HeldWrite) (after : MachineState) : Type 0 where
  image : after.image ≡ s.image
  cache : cache_of after.pending ≡ with_writes (cache_of s.pending) ws
  judged : judged_image after ≡ applied (judged_image s) ws

one_more : (s : MachineState) (w : HeldWrite) (ws : List HeldWrite) (after : MachineState) → Leaves (with_pending s w) ws after → Leaves s (w ∷ ws) after
unfolding with_writes
one_more s w ws after rest = record {
  image = rest.image;
  cache = rest.cache ∙ ap (λ m. with_writes m ws) (cache_of-push s.pending w);
  judged = rest.judged ∙ ap (λ image. applied image ws) (applied-push s.image s.pending w);
}

leaves : (es : List Event) (s : MachineState) → AllByRecursion (λ e. IsTrue (waits e)) es → Leaves s (map write_of es) (state_after s es)
unfolding write_of write_step with_writes
leaves [] s held = record { image = refl; cache = refl; judged = refl }
leaves (Write submitter at bytes ∷ es) s held =
    let w : HeldWrite = record { at = at; bytes = bytes } in
    one_more s w (map write_of es) _
    (subst (λ next. Leaves (with_pending s w) (map write_of es) (state_after next es)) (sym (held_step (meets_superblock at (length bytes)) s w held.0))
    (leaves es (with_pending s w) held.1))
leaves (Settle ∷ es) s held = absurd (cc)
leaves (Fetch at len ∷ es) s held = absurd (cc)

-- the law
pub order_decides_nothing : OrderDecidesNothing
order_decides_nothing state one other held apart moved =
    let waiting = All-permutation (λ e. IsTrue (waits e)) one other moved held in
    let a = leaves one state (recursion_from_All (λ e. IsTrue (waits e)) one held) in
    let b = leaves other state (recursion_from_All (λ e. IsTrue (waits e)) other waiting) in
    let once : (i : ℕ) → sum_by (covers i) (map write_of one) ≤ 1 = λ i. once_covered i one apart in
    let writes = IsPermutation-map write_of one other moved in
    let applies = same_applied (map write_of one) (map write_of other) writes once (judged_image state) in
    let held_same = same_held (map write_of one) (map write_of other) writes once (cache_of state.pending) in
    let same : AreSame (state_after state one) (state_after state other) = record {
      image = a.image ∙ sym b.image;
      cache = a.cache ∙ held_same ∙ sym b.cache;
      judged = a.judged ∙ applies ∙ sym b.judged;
    } in
    record { image = same.image; outcomes = λ events. outcomes_same events _ _ same }

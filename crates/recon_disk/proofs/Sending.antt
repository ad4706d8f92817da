-- What a run of bytes makes of a disk that may not tell its bytes, call by call.
use Rattle.std.proofs.Common.{◌≡◌, ℕ, suc, ◌+◌, ◌-◌, ◌/◌, ◌<◌, ◌≤◌, inl, inr, min, List, [], ◌∷◌, ◌++◌, get_or, length, take, drop, Option, Some, None, IfSome, option_map, Result, Ok, Err, IsErr, OnOk, refl, sym, ap, ◌∙◌, arith, subst, add-one, add-zero}
use Rattle.std.specs.Option.{IsSomeAnd}
use Rattle.std.proofs.Math.Nat.{add-div_right, div-eq_of_lt}
use Rattle.std.proofs.lemmas.Bool.{cases_lt}
use Rattle.std.proofs.lemmas.Grind.{common_steps}
use Rattle.std.proofs.lemmas.List.{append-nil, append_assoc, drop-drop, take_all, ext_get_or, length-take, length-drop, length-take-le, get_or-take, get_or-drop, take-append-drop}
use Rattle.verdict.specs.Image.{written}
use Rattle.verdict.proofs.Images.{length-written, get-written_in, get-written_before, get-written_behind}
use Rattle.recon_disk.specs.declared.disk.Disk.{Ghosts}
use Rattle.recon_disk.specs.Calls.{Sent, Wrote, HasSentFront, and_sent, cut_calls, run_calls}
use Rattle.recon_disk.specs.Outside.{IsPartlyWritten, MayBeWritten, counted}
use Rattle.recon_disk.specs.Sending.{Sends, StaysOutside}

pub same_bytes : (xs ys : List ℕ) → length xs ≡ length ys → ((i : ℕ) → i < length xs → get_or xs i 0 ≡ get_or ys i 0) → xs ≡ ys
same_bytes xs ys = ext_get_or 0 xs ys

-- no byte written
pub written-nil : (image : List ℕ) (at : ℕ) → written image at [] ≡ image
unfolding written
written-nil image at = grind (arith, common_steps, take-append-drop at image)

-- a front was written, and then the bytes behind it
pub written-more : (image bytes : List ℕ) (at done n : ℕ) → at + length bytes ≤ length image → done + n ≤ length bytes
    → written (written image at (take done bytes)) (at + done) (take n (drop done bytes)) ≡ written image at (take (done + n) bytes)
written-more image bytes at done n fits few =
    let a : length (take done bytes) ≡ done = length-take-le done bytes (omega arith) in
    let b : length (take n (drop done bytes)) ≡ n = omega (arith, length-take n (drop done bytes), length-drop done bytes) in
    let c : length (take (done + n) bytes) ≡ done + n = length-take-le (done + n) bytes few in
    let front : List ℕ = written image at (take done bytes) in
    let same : length front ≡ length image = length-written image (take done bytes) at (omega arith) in
    let left : length (written front (at + done) (take n (drop done bytes))) ≡ length image =
    length-written front (take n (drop done bytes)) (at + done) (omega arith) ∙ same in
    let right : length (written image at (take (done + n) bytes)) ≡ length image = length-written image (take (done + n) bytes) at (omega arith) in
    same_bytes _ _ (left ∙ sym right) (λ i h. elim (cases_lt i at) [
      | inl before ↦ get-written_before front (take n (drop done bytes)) (at + done) i (omega arith) (omega arith)
          ∙ get-written_before image (take done bytes) at i (omega arith) before
          ∙ sym (get-written_before image (take (done + n) bytes) at i (omega arith) before)
      | inr from ↦ elim (cases_lt i (at + done)) [
        | inl low ↦ get-written_before front (take n (drop done bytes)) (at + done) i (omega arith) low
            ∙ get-written_in image (take done bytes) at i (omega arith) from (omega arith)
            ∙ get_or-take done bytes (i - at) 0 (omega arith)
            ∙ sym (get-written_in image (take (done + n) bytes) at i (omega arith) from (omega arith) ∙ get_or-take (done + n) bytes (i - at) 0 (omega arith))
        | inr mid ↦ elim (cases_lt i (at + done + n)) [
          | inl high ↦ get-written_in front (take n (drop done bytes)) (at + done) i (omega arith) mid (omega arith)
              ∙ get_or-take n (drop done bytes) (i - (at + done)) 0 (omega arith)
              ∙ get_or-drop done bytes (i - (at + done)) 0
              ∙ ap (λ k. get_or bytes k 0) (omega arith)
              ∙ sym (get-written_in image (take (done + n) bytes) at i (omega arith) from (omega arith) ∙ get_or-take (done + n) bytes (i - at) 0 (omega arith))
          | inr behind ↦ get-written_behind front (take n (drop done bytes)) (at + done) i (omega arith) (omega arith)
              ∙ get-written_behind image (take done bytes) at i (omega arith) (omega arith)
              ∙ sym (get-written_behind image (take (done + n) bytes) at i (omega arith) (omega arith))
        ]
      ]
    ])

-- what holds of both an Ok and an Err
pub if_ok : {T E P : Type 0} (r : Result T E) → P → OnOk r P
if_ok (Ok x) p = p
if_ok (Err e) p = tt

-- a step that stops at a failed call
pub sends_err : {D T E : Type 0} (disk : Ghosts D) (old new : D) (r : Result T E) (makes : List ℕ → List ℕ) (leaves : List ℕ → List ℕ → Type 0) → IsErr r
    → IfSome (disk.bytes old) (λ image. IsSomeAnd (disk.bytes new) (leaves image)) → disk.len new ≡ disk.len old
    → disk.faults old ≤ disk.faults new → counted (disk.faults old) ≤ disk.faults new → Sends disk old new r makes leaves
sends_err disk old new (Ok x) makes leaves err left len grows failed = absurd (cc)
sends_err disk old new (Err e) makes leaves err left len grows failed =
    record { made = tt; left = left; len = len; cause = record { grows = grows; failed = failed; fine = tt } }

-- nothing was written yet
pub told_none : (o : Option (List ℕ)) (at : ℕ) (bytes : List ℕ) → o ≡ option_map (λ image. written image at (take 0 bytes)) o
told_none None at bytes = refl
told_none (Some image) at bytes = ap Some (sym (written-nil image at))

-- one more call wrote its bytes
pub told_more : (first mid last : Option (List ℕ)) (len at done n : ℕ) (bytes part : List ℕ) → IfSome first (λ image. length image ≡ len)
    → at + length bytes ≤ len → done + n ≤ length bytes → part ≡ take n (drop done bytes)
    → mid ≡ option_map (λ image. written image at (take done bytes)) first
    → last ≡ option_map (λ image. written image (at + done) part) mid
    → last ≡ option_map (λ image. written image at (take (done + n) bytes)) first
told_more None mid last len at done n bytes part size fits few is m l = l ∙ ap (option_map (λ image. written image (at + done) part)) m
told_more (Some image) mid last len at done n bytes part size fits few is m l =
    l ∙ ap (option_map (λ i. written i (at + done) part)) m
    ∙ ap (λ p. Some (written (written image at (take done bytes)) (at + done) p)) is
    ∙ ap Some (written-more image bytes at done n (omega arith) few)

-- what a failed write leaves outside its range
pub partly_outside : (image : List ℕ) (at : ℕ) (bytes left : List ℕ) → IsPartlyWritten image at bytes left → StaysOutside at (length bytes) image left
partly_outside image at bytes left h = record {
  same_length = h.same_length;
  others = λ i out. elim out [
    | inl low ↦ sym (get_or-take at left i 0 low) ∙ ap (λ xs. get_or xs i 0) h.before ∙ get_or-take at image i 0 low
    | inr high ↦ ap (λ k. get_or left k 0) (omega arith) ∙ sym (get_or-drop (at + length bytes) left (i - (at + length bytes)) 0)
        ∙ ap (λ xs. get_or xs (i - (at + length bytes)) 0) h.behind
        ∙ get_or-drop (at + length bytes) image (i - (at + length bytes)) 0 ∙ ap (λ k. get_or image k 0) (omega arith)
  ];
}

pub written_outside : (image : List ℕ) (at : ℕ) (bytes : List ℕ) → at + length bytes ≤ length image → StaysOutside at (length bytes) image (written image at bytes)
written_outside image at bytes fits = record {
  same_length = length-written image bytes at fits;
  others = λ i out. elim out [
    | inl low ↦ get-written_before image bytes at i fits low
    | inr high ↦ get-written_behind image bytes at i fits high
  ];
}

pub outside_wider : (at n b m : ℕ) (old left : List ℕ) → at ≤ b → b + m ≤ at + n → StaysOutside b m old left → StaysOutside at n old left
outside_wider at n b m old left from to h = record {
  same_length = h.same_length;
  others = λ i out. h.others i (elim out [ inl low ↦ inl (omega arith) | inr high ↦ inr (omega arith) ]);
}

pub outside_then : (at n : ℕ) (old mid left : List ℕ) → StaysOutside at n old mid → StaysOutside at n mid left → StaysOutside at n old left
outside_then at n old mid left a b = record {
  same_length = b.same_length ∙ a.same_length;
  others = λ i out. b.others i out ∙ a.others i out;
}

-- a call of a run failed behind those before it
pub run_left : (image : List ℕ) (last : Option (List ℕ)) (at done n : ℕ) (bytes part : List ℕ) → at + length bytes ≤ length image → done + n ≤ length bytes → length part ≡ n
    → MayBeWritten (Some (written image at (take done bytes))) (at + done) part last
    → IsSomeAnd last (StaysOutside at (length bytes) image)
run_left image last at done n bytes part fits few size may =
    let k : length (take done bytes) ≡ done = length-take-le done bytes (omega arith) in
    let mid : List ℕ = written image at (take done bytes) in
    subst (λ o. IsSomeAnd o (StaysOutside at (length bytes) image)) (sym may.1)
    (outside_then at (length bytes) image mid may.0
    (outside_wider at (length bytes) at (length (take done bytes)) image mid (omega arith) (omega arith) (written_outside image at (take done bytes) (omega arith)))
    (outside_wider at (length bytes) (at + done) (length part) mid may.0 (omega arith) (omega arith) (partly_outside mid (at + done) part may.0 may.2)))

pub run_fails : (first mid last : Option (List ℕ)) (len at done n : ℕ) (bytes part : List ℕ) → IfSome first (λ image. length image ≡ len)
    → at + length bytes ≤ len → done + n ≤ length bytes → length part ≡ n
    → mid ≡ option_map (λ image. written image at (take done bytes)) first → MayBeWritten mid (at + done) part last
    → IfSome first (λ image. IsSomeAnd last (StaysOutside at (length bytes) image))
run_fails None mid last len at done n bytes part size fits few n_is m may = tt
run_fails (Some image) mid last len at done n bytes part size fits few n_is m may =
    run_left image last at done n bytes part (omega arith) few n_is (subst (λ o. MayBeWritten o (at + done) part last) m may)

-- nothing more, and one thing after the other
pub sent_none : (o : Option (List Sent)) → and_sent o [] ≡ o
sent_none None = refl
sent_none (Some calls) = ap Some (append-nil calls)

pub sent_then : (o : Option (List Sent)) (a b : List Sent) → and_sent (and_sent o a) b ≡ and_sent o (a ++ b)
sent_then None a b = refl
sent_then (Some calls) a b = ap Some (append_assoc calls a b)

-- how many calls bytes need, by the first of them
pub count_more : (n : ℕ) → 0 < n → (n + 1048575) / 1048576 ≡ suc ((n - 1048576 + 1048575) / 1048576)
count_more n some =
    let same : (n - 1) / 1048576 ≡ (n - 1048576 + 1048575) / 1048576 = elim (cases_lt n 1048576) [
      | inl low ↦ div-eq_of_lt {n = n - 1} {m = 1048576} (omega arith) ∙ sym (div-eq_of_lt {n = n - 1048576 + 1048575} {m = 1048576} (omega arith))
      | inr high ↦ ap (λ k. k / 1048576) (omega arith)
    ] in
    ap (λ k. k / 1048576) (omega arith) ∙ add-div_right (n - 1) {k = 1048576} (omega arith) ∙ add-one ((n - 1) / 1048576) ∙ ap suc same

-- no bytes need no call, and other bytes one and those of the rest
pub no_run : (at : ℕ) (bytes : List ℕ) → length bytes ≡ 0 → run_calls at bytes ≡ []
unfolding run_calls
no_run at bytes none = ap (λ n. cut_calls ((n + 1048575) / 1048576) at bytes) none

pub run_first : (at : ℕ) (bytes : List ℕ) → 0 < length bytes → run_calls at bytes ≡ Wrote at (take 1048576 bytes) ∷ run_calls (at + 1048576) (drop 1048576 bytes)
unfolding run_calls
run_first at bytes some =
    ap (λ n. cut_calls n at bytes) (count_more (length bytes) some)
    ∙ ap (λ n. Wrote at (take 1048576 bytes) ∷ cut_calls ((n + 1048575) / 1048576) (at + 1048576) (drop 1048576 bytes)) (sym (length-drop 1048576 bytes))

-- the next call of a run
pub next_call : (at n : ℕ) (rest : List ℕ) → 0 < length rest → n ≡ min 1048576 (length rest)
    → run_calls at rest ≡ Wrote at (take n rest) ∷ run_calls (at + n) (drop n rest)
next_call at n rest some is = elim (cases_lt (length rest) 1048576) [
  | inl short ↦ run_first at rest some
      ∙ ap (λ bytes. Wrote at bytes ∷ run_calls (at + 1048576) (drop 1048576 rest)) (take_all 1048576 rest (omega arith) ∙ sym (take_all n rest (omega arith)))
      ∙ ap (λ calls. Wrote at (take n rest) ∷ calls) (no_run (at + 1048576) (drop 1048576 rest) (length-drop 1048576 rest ∙ omega arith) ∙ sym (no_run (at + n) (drop n rest) (length-drop n rest ∙ omega arith)))
  | inr long ↦
      let all : 1048576 ≡ n = omega arith in
      subst (λ k. run_calls at rest ≡ Wrote at (take k rest) ∷ run_calls (at + k) (drop k rest)) all (run_first at rest some)
]

-- a front of calls of which others follow, and of those that follow them
pub front_first : (first last : Option (List Sent)) (a b all : List Sent) → all ≡ a ++ b → HasSentFront a first last → HasSentFront all first last
front_first first last a b all e h = (h.0, h.1 ++ b, e ∙ ap (λ calls. calls ++ b) h.2 ∙ append_assoc h.0 h.1 b, h.3)

pub front_second : (first mid last : Option (List Sent)) (a b all : List Sent) → all ≡ a ++ b → mid ≡ and_sent first a → HasSentFront b mid last → HasSentFront all first last
front_second first mid last a b all e m h =
    (a ++ h.0, h.1, e ∙ ap (λ calls. a ++ calls) h.2 ∙ sym (append_assoc a h.0 h.1), h.3 ∙ ap (λ o. and_sent o h.0) m ∙ sent_then first a h.0)

-- of all calls a front was sent, and these are left
pub record SentSoFar (first now : Option (List Sent)) (all left : List Sent) : Type 0 where
  pub front : List Sent
  pub whole : all ≡ front ++ left
  pub out : now ≡ and_sent first front

pub none_sent : (first : Option (List Sent)) (all left : List Sent) → left ≡ all → SentSoFar first first all left
none_sent first all left e = record { front = []; whole = sym e; out = sym (sent_none first) }

pub some_sent : (first now last : Option (List Sent)) (all more left : List Sent) → SentSoFar first now all (more ++ left) → last ≡ and_sent now more → SentSoFar first last all left
some_sent first now last all more left so h = record {
  front = so.front ++ more;
  whole = so.whole ∙ sym (append_assoc so.front more left);
  out = h ∙ ap (λ o. and_sent o more) so.out ∙ sent_then first so.front more;
}

pub each_sent : (first now : Option (List Sent)) (all left : List Sent) → left ≡ [] → SentSoFar first now all left → now ≡ and_sent first all
each_sent first now all left none so = so.out ∙ ap (and_sent first) (sym (so.whole ∙ ap (λ calls. so.front ++ calls) none ∙ append-nil so.front))

-- a further call failed, or those of a part
pub part_sent : (first now last : Option (List Sent)) (all left : List Sent) → SentSoFar first now all left → last ≡ now → HasSentFront all first last
part_sent first now last all left so same = (so.front, left, so.whole, same ∙ so.out)

pub part_more : (first now last : Option (List Sent)) (all more left : List Sent) → SentSoFar first now all (more ++ left) → HasSentFront more now last → HasSentFront all first last
part_more first now last all more left so h = front_second first now last so.front (more ++ left) all so.whole so.out (front_first now last more left (more ++ left) refl h)

-- the calls of a run that are left
pub run_begins : (first : Option (List Sent)) (at : ℕ) (bytes : List ℕ) → SentSoFar first first (run_calls at bytes) (run_calls (at + 0) (drop 0 bytes))
run_begins first at bytes = none_sent first (run_calls at bytes) (run_calls (at + 0) (drop 0 bytes)) (ap (λ k. run_calls k bytes) (add-zero at))

pub next_left : (at done n : ℕ) (bytes part : List ℕ) → done < length bytes → n ≡ min 1048576 (length bytes - done) → part ≡ take n (drop done bytes)
    → run_calls (at + done) (drop done bytes) ≡ Wrote (at + done) part ∷ run_calls (at + (done + n)) (drop (done + n) bytes)
next_left at done n bytes part more is part_is =
    let rest : List ℕ = drop done bytes in
    let left : length rest ≡ length bytes - done = length-drop done bytes in
    next_call (at + done) n rest (omega arith) (is ∙ ap (min 1048576) (sym left))
    ∙ ap (λ l. Wrote (at + done) (take n rest) ∷ run_calls (at + done + n) l) (drop-drop n done bytes)
    ∙ ap (λ k. Wrote (at + done) (take n rest) ∷ run_calls k (drop (done + n) bytes)) (omega arith)
    ∙ ap (λ p. Wrote (at + done) p ∷ run_calls (at + (done + n)) (drop (done + n) bytes)) (sym part_is)

pub run_more : (first now last : Option (List Sent)) (at done n : ℕ) (bytes part : List ℕ) → done < length bytes → n ≡ min 1048576 (length bytes - done) → part ≡ take n (drop done bytes)
    → SentSoFar first now (run_calls at bytes) (run_calls (at + done) (drop done bytes)) → last ≡ and_sent now (Wrote (at + done) part ∷ [])
    → SentSoFar first last (run_calls at bytes) (run_calls (at + (done + n)) (drop (done + n) bytes))
run_more first now last at done n bytes part more is part_is so h =
    some_sent first now last (run_calls at bytes) (Wrote (at + done) part ∷ []) (run_calls (at + (done + n)) (drop (done + n) bytes))
    (subst (SentSoFar first now (run_calls at bytes)) (next_left at done n bytes part more is part_is) so) h

pub run_ends : (first now : Option (List Sent)) (at done : ℕ) (bytes : List ℕ) → length bytes ≤ done
    → SentSoFar first now (run_calls at bytes) (run_calls (at + done) (drop done bytes)) → now ≡ and_sent first (run_calls at bytes)
run_ends first now at done bytes past so =
    each_sent first now (run_calls at bytes) (run_calls (at + done) (drop done bytes)) (no_run (at + done) (drop done bytes) (length-drop done bytes ∙ omega arith)) so

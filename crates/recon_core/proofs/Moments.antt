-- What a stop may leave while what waits goes out.
use Rattle.std.proofs.Common.{◌≡◌, ℕ, ◌+◌, ◌-◌, ◌<◌, ◌≤◌, ◌⊎◌, inl, inr, min, nat_eq, List, [], ◌∷◌, ◌++◌, get_or, length, IsSome, Option, Some, None, IfSome, option_map, Result, Ok, Err, OnOk, OnErr, if◌then◌else◌, refl, sym, ap, ◌∙◌, arith, subst}
use Rattle.std.specs.Option.{IsSomeAnd}
use Rattle.std.specs.Ordering.{nat_cmp}
use Rattle.std.specs.FinMap.{FinMap, get}
use Rattle.std.proofs.lemmas.Bool.{cases_lt}
use Rattle.std.proofs.lemmas.List.{append_assoc}
use Rattle.verdict.specs.Image.{written}
use Rattle.verdict.proofs.Images.{length-written, get-written_in, get-written_before, get-written_behind}
use Rattle.write_cache.proofs.CacheLaws.{get-range}
use Rattle.recon_disk.specs.Stops.{Moment, Unflushed, OfPlace, OfRange, EachIs, HasWritten, LiesIn, MayRemain, NoneCovers, and_flushed, and_wrote, flushed_as, unflushed, with_write, with_writes}
use Rattle.recon_disk.proofs.Sending.{same_bytes}
use Rattle.recon_core.specs.Moments.{EachLeaves, IsAtRest, IsFlushedAs, LeavesAfter}
use Rattle.recon_core.specs.Sent.{IsOut, IsOutIn, LeavesBy}
use Rattle.recon_core.specs.Stops.{IsPartlySent}
use Rattle.recon_core.proofs.Places.{inside_place, outside_place, where_is}

none_some : (o : Option ℕ) → o ≡ None → IsSome o → ⊥
none_some None e h = cc
none_some (Some x) e h = cc

-- writes of waiting bytes outside the place cover no byte of the place, and none that does not wait
miss_place : (m : FinMap nat_cmp ℕ) (since : List Unflushed) → EachIs (IsOut m) since → (i : ℕ) → 65536 ≤ i → i < 69632 → NoneCovers since i
miss_place m [] outs i low high = tt
miss_place m (OfPlace bytes ∷ since) outs i low high = absurd outs.0
miss_place m (OfRange from n ∷ since) outs i low high =
    (elim outs.0.1 [ inl before ↦ inr (omega arith) | inr behind ↦ inl (omega arith) ], miss_place m since outs.1 i low high)

miss_others : (m : FinMap nat_cmp ℕ) (since : List Unflushed) → EachIs (IsOut m) since → (i : ℕ) → get m i ≡ None → NoneCovers since i
miss_others m [] outs i none = tt
miss_others m (OfPlace bytes ∷ since) outs i none = absurd outs.0
miss_others m (OfRange from n ∷ since) outs i none = (
  elim (cases_lt i from) [
    | inl low ↦ inl low
    | inr at ↦ elim (cases_lt i (from + n)) [
      | inl in_ ↦ absurd (none_some (get m i) none (outs.0.0 i at in_))
      | inr behind ↦ inr behind
    ]
  ],
  miss_others m since outs.1 i none,
)

-- a moment behind which only such writes came
record AreOut (m : FinMap nat_cmp ℕ) (image : List ℕ) (moment : Moment) : Type 0 where
  flushed : moment.flushed ≡ image
  outs : EachIs (IsOut m) moment.since

leaves_part : (m : FinMap nat_cmp ℕ) (image left : List ℕ) (moment : Moment) → AreOut m image moment → MayRemain moment left → IsPartlySent m image left
leaves_part m image left moment are remains = record {
  same_length = remains.same_length ∙ ap length are.flushed;
  place = λ i low high. remains.others i (miss_place m moment.since are.outs i low high) ∙ ap (λ xs. get_or xs i 0) are.flushed;
  others = λ i none. remains.others i (miss_others m moment.since are.outs i none) ∙ ap (λ xs. get_or xs i 0) are.flushed;
}

each_then : (Leaves : List ℕ → Type 0) (a b : List Moment) → EachLeaves Leaves a → EachLeaves Leaves b → EachLeaves Leaves (a ++ b)
each_then Leaves [] b x y = y
each_then Leaves (m ∷ a) b x y = (x.0, each_then Leaves a b x.1 y)

-- what such writes add to moments
record Added (Leaves : List ℕ → Type 0) (before now : List Moment) : Type 0 where
  added : List Moment
  moments : now ≡ added ++ before
  each : EachLeaves Leaves added

add_writes : (m : FinMap nat_cmp ℕ) (image : List ℕ) (moment : Moment) (older : List Moment) (writes : List Unflushed) → AreOut m image moment
    → EachIs (IsOut m) writes → Added (IsPartlySent m image) (moment ∷ older) (with_writes (moment ∷ older) writes)
add_writes m image moment older [] are outs = record { added = []; moments = refl; each = tt }
add_writes m image moment older (w ∷ writes) are outs =
    let next : Moment = record { flushed = moment.flushed; since = w ∷ moment.since } in
    let is : AreOut m image next = record { flushed = are.flushed; outs = (outs.0, are.outs) } in
    let rest : Added (IsPartlySent m image) (next ∷ moment ∷ older) (with_writes (next ∷ moment ∷ older) writes) = add_writes m image next (moment ∷ older) writes is outs.1 in
    record {
      added = rest.added ++ next ∷ [];
      moments = rest.moments ∙ sym (append_assoc rest.added (next ∷ []) (moment ∷ older));
      each = each_then (IsPartlySent m image) rest.added (next ∷ []) rest.each (λ left remains. leaves_part m image left next is remains, tt);
    }

each_wider : (Leaves Also : List ℕ → Type 0) (moments : List Moment) → ((left : List ℕ) → Leaves left → Also left) → EachLeaves Leaves moments → EachLeaves Also moments
each_wider Leaves Also [] f x = tt
each_wider Leaves Also (m ∷ ms) f x = (λ left remains. f left (x.0 left remains), each_wider Leaves Also ms f x.1)

pub leaves_wider : (Leaves Also : List ℕ → Type 0) (before : List Moment) (now : Option (List Moment)) → ((left : List ℕ) → Leaves left → Also left)
    → LeavesAfter Leaves before now → LeavesAfter Also before now
leaves_wider Leaves Also before now f x = record { added = x.added; moments = x.moments; each = each_wider Leaves Also x.added f x.each }

sent_moments : (m : FinMap nat_cmp ℕ) (image : List ℕ) (before : List Moment) (now : Option (List Moment)) → IsFlushedAs image before
    → HasWritten (IsOut m) (Some before) now → LeavesAfter (IsPartlySent m image) before now
sent_moments m image [] now flushed has = absurd flushed
sent_moments m image (moment ∷ older) now flushed has =
    let is : AreOut m image moment = record { flushed = ap (λ k. k.flushed) flushed; outs = subst (λ k. EachIs (IsOut m) k.since) (sym flushed) tt } in
    let rest : Added (IsPartlySent m image) (moment ∷ older) (with_writes (moment ∷ older) has.0) = add_writes m image moment older has.0 is has.1 in
    record { added = rest.added; moments = has.2 ∙ ap Some rest.moments; each = rest.each }

-- writes of waiting bytes outside the place went out
pub leaves_sent : (Is : List ℕ → Type 0) (Leaves : List ℕ → List ℕ → Type 0) (m : FinMap nat_cmp ℕ) (bytes : Option (List ℕ)) (before now : Option (List Moment))
    → ((image left : List ℕ) → IsPartlySent m image left → Leaves image left)
    → HasWritten (IsOut m) before now → LeavesBy Is Leaves bytes before now
leaves_sent Is Leaves m None before now f has = tt
leaves_sent Is Leaves m (Some image) None now f has = λ is. tt
leaves_sent Is Leaves m (Some image) (Some ms) now f has = λ is flushed.
    leaves_wider (IsPartlySent m image) (Leaves image) ms now (f image) (sent_moments m image ms now flushed has)

pub leaves_same : (Is : List ℕ → Type 0) (Leaves : List ℕ → List ℕ → Type 0) (bytes : Option (List ℕ)) (before now last : Option (List Moment))
    → last ≡ now → LeavesBy Is Leaves bytes before now → LeavesBy Is Leaves bytes before last
leaves_same Is Leaves bytes before now last same x = subst (LeavesBy Is Leaves bytes before) (sym same) x

-- nothing was written
pub leaves_none : (Is : List ℕ → Type 0) (Leaves : List ℕ → List ℕ → Type 0) (bytes : Option (List ℕ)) (before now : Option (List Moment))
    → now ≡ before → LeavesBy Is Leaves bytes before now
leaves_none Is Leaves None before now same = tt
leaves_none Is Leaves (Some image) None now same = λ is. tt
leaves_none Is Leaves (Some image) (Some ms) now same = λ is flushed. record { added = []; moments = same; each = tt }

-- just behind a flush a stop leaves what a read gives
remains_same : (image left : List ℕ) → MayRemain (flushed_as image) left → left ≡ image
remains_same image left remains = same_bytes left image remains.same_length (λ i h. remains.others i tt)

after_flush : (Leaves : List ℕ → Type 0) (before : List Moment) (now last : Option (List Moment)) (image : List ℕ) → Leaves image
    → last ≡ and_flushed now (Some image) → LeavesAfter Leaves before now → LeavesAfter Leaves before last
after_flush Leaves before now last image here more x = record {
  added = flushed_as image ∷ x.added;
  moments = more ∙ ap (λ o. and_flushed o (Some image)) x.moments;
  each = (λ left remains. subst Leaves (sym (remains_same image left remains)) here, x.each);
}

-- a flush behind what leaves such images
pub leaves_flushed : (Is : List ℕ → Type 0) (Leaves : List ℕ → List ℕ → Type 0) (bytes read : Option (List ℕ)) (before now last : Option (List Moment))
    → IfSome bytes (λ image. Is image → IsSomeAnd read (Leaves image))
    → last ≡ and_flushed now read
    → LeavesBy Is Leaves bytes before now → LeavesBy Is Leaves bytes before last
leaves_flushed Is Leaves None read before now last here more x = tt
leaves_flushed Is Leaves (Some image) None before now last here more x = λ is. absurd (here is)
leaves_flushed Is Leaves (Some image) (Some over) None now last here more x = λ is. tt
leaves_flushed Is Leaves (Some image) (Some over) (Some ms) now last here more x = λ is flushed.
    after_flush (Leaves image) ms now last over (here is) more (x is flushed)

-- a write of the whole place behind a flush leaves the place old or new
place_or_not : (image left place : List ℕ) → 69632 ≤ length image → length place ≡ 4096
    → MayRemain (record { flushed = image; since = OfPlace place ∷ [] }) left → (left ≡ image) ⊎ (left ≡ written image 65536 place)
place_or_not image left place long size remains =
    let n : length left ≡ length image = remains.same_length in
    let k : length (written image 65536 place) ≡ length image = length-written image place 65536 (omega arith) in
    elim (remains.place tt) [
      | inl new ↦ inr (same_bytes left (written image 65536 place) (n ∙ sym k) (λ i h. elim (where_is i) [
        | inside_place low high ↦ ap (λ j. get_or left j 0) (omega arith) ∙ sym (get-range 65536 4096 left (i - 65536) (omega arith))
            ∙ ap (λ xs. get_or xs (i - 65536) 0) new ∙ sym (get-written_in image place 65536 i (omega arith) low (omega arith))
        | outside_place w ↦ remains.others i (w, tt) ∙ elim w [
          | inl l ↦ sym (get-written_before image place 65536 i (omega arith) l)
          | inr l ↦ sym (get-written_behind image place 65536 i (omega arith) (omega arith))
        ]
      ]))
      | inr old ↦ inl (same_bytes left image n (λ i h. elim (where_is i) [
        | inside_place low high ↦ ap (λ j. get_or left j 0) (omega arith) ∙ sym (get-range 65536 4096 left (i - 65536) (omega arith))
            ∙ ap (λ xs. get_or xs (i - 65536) 0) old ∙ get-range 65536 4096 image (i - 65536) (omega arith) ∙ ap (λ j. get_or image j 0) (omega arith)
        | outside_place w ↦ remains.others i (w, tt)
      ]))
    ]

is_place : (place : List ℕ) → length place ≡ 4096 → unflushed 65536 place ≡ OfPlace place
is_place place size = ap (λ n. if nat_eq n 4096 then OfPlace place else OfRange 65536 n) size

after_place : (Leaves : List ℕ → Type 0) (before : List Moment) (now mid last : Option (List Moment)) (image place : List ℕ) → 69632 ≤ length image → length place ≡ 4096
    → Leaves image → Leaves (written image 65536 place)
    → mid ≡ and_flushed now (Some image) → last ≡ and_wrote mid 65536 place → LeavesAfter Leaves before now → LeavesAfter Leaves before last
after_place Leaves before now mid last image place long size here there m l x =
    let next : Moment = record { flushed = image; since = OfPlace place ∷ [] } in
    record {
      added = next ∷ flushed_as image ∷ x.added;
      moments = l ∙ ap (λ o. and_wrote o 65536 place) (m ∙ ap (λ o. and_flushed o (Some image)) x.moments)
          ∙ ap (λ w. Some (with_write (flushed_as image ∷ x.added ++ before) w)) (is_place place size);
      each = (
        λ left remains. elim (place_or_not image left place long size remains) [
          | inl same ↦ subst Leaves (sym same) here
          | inr new ↦ subst Leaves (sym new) there
        ],
        (λ left remains. subst Leaves (sym (remains_same image left remains)) here, x.each),
      );
    }

-- the same of a disk
pub leaves_placed : (Is : List ℕ → Type 0) (Leaves : List ℕ → List ℕ → Type 0) (bytes read : Option (List ℕ)) (len : ℕ) (place : List ℕ) (before now mid last : Option (List Moment))
    → IfSome read (λ image. length image ≡ len) → 69632 ≤ len → length place ≡ 4096
    → IfSome bytes (λ image. Is image → IsSomeAnd read (Leaves image))
    → IfSome bytes (λ image. Is image → IsSomeAnd (option_map (λ i. written i 65536 place) read) (Leaves image))
    → mid ≡ and_flushed now read → last ≡ and_wrote mid 65536 place
    → LeavesBy Is Leaves bytes before now → LeavesBy Is Leaves bytes before last
leaves_placed Is Leaves None read len place before now mid last fits long size here there m l x = tt
leaves_placed Is Leaves (Some image) None len place before now mid last fits long size here there m l x = λ is. absurd (here is)
leaves_placed Is Leaves (Some image) (Some over) len place None now mid last fits long size here there m l x = λ is. tt
leaves_placed Is Leaves (Some image) (Some over) len place (Some ms) now mid last fits long size here there m l x = λ is flushed.
    after_place (Leaves image) ms now mid last over place (omega arith) size (here is) (there is) m l (x is flushed)

-- behind a flush the disk is at rest
pub at_rest : (read bytes : Option (List ℕ)) (now last : Option (List Moment)) → last ≡ and_flushed now read → bytes ≡ read → IsAtRest bytes last
at_rest None bytes now last more same = subst (λ o. IsAtRest o last) (sym same) tt
at_rest (Some image) bytes None last more same = subst (λ o. IsAtRest o last) (sym same) (subst (λ o. IfSome o (IsFlushedAs image)) (sym more) tt)
at_rest (Some image) bytes (Some ms) last more same = subst (λ o. IsAtRest o last) (sym same) (subst (λ o. IfSome o (IsFlushedAs image)) (sym more) refl)

-- and where neither bytes nor moments changed
pub still_at_rest : (bytes read : Option (List ℕ)) (before now : Option (List Moment)) → read ≡ bytes → now ≡ before → IsAtRest bytes before → IsAtRest read now
still_at_rest bytes read before now same none rest = subst (λ o. IsAtRest o now) (sym same) (subst (IsAtRest bytes) (sym none) rest)

-- a piece's writes outside the place are of waiting bytes
pub out_wider : (m : FinMap nat_cmp ℕ) (at n : ℕ) → ((i : ℕ) → at ≤ i → i < at + n → IsSome (get m i)) → (w : Unflushed) → IsOutIn at n w → IsOut m w
out_wider m at n waits (OfPlace bytes) out = out
out_wider m at n waits (OfRange from k) out = (λ i low high. waits i (omega (arith, out.0)) (omega (arith, out.1)), out.2)

-- the front of a piece, and what is behind the place
pub front_out : (at n b : ℕ) → b ≤ n → b ≤ 65536 - at → (w : Unflushed) → LiesIn at b w → IsOutIn at n w
front_out at n b few low (OfPlace bytes) lies = absurd (omega (arith, lies.0, lies.1))
front_out at n b few low (OfRange from m) lies = elim (cases_lt 65536 (from + m)) [
  | inl high ↦ absurd (omega (arith, lies.0, lies.1, lies.2))
  | inr before ↦ (lies.1, omega (arith, lies.2), inl before)
]

pub rest_out : (at n spot k : ℕ) → spot ≡ at + min (69632 - at) n → k ≡ n - min (69632 - at) n → (w : Unflushed) → LiesIn spot k w → IsOutIn at n w
rest_out at n spot k spot_is k_is (OfPlace bytes) lies = absurd (omega (arith, lies.0, lies.1))
rest_out at n spot k spot_is k_is (OfRange from m) lies = elim (cases_lt from 69632) [
  | inl low ↦ absurd (omega (arith, lies.0, lies.1, lies.2))
  | inr high ↦ (omega (arith, lies.1), omega (arith, lies.1, lies.2), inr high)
]

-- a flush that may have failed
pub leaves_either : {T E : Type 0} (r : Result T E) (Is : List ℕ → Type 0) (Leaves : List ℕ → List ℕ → Type 0) (bytes read : Option (List ℕ)) (before now last : Option (List Moment))
    → IfSome bytes (λ image. Is image → IsSomeAnd read (Leaves image))
    → OnOk r (last ≡ and_flushed now read) → OnErr r (last ≡ now)
    → LeavesBy Is Leaves bytes before now → LeavesBy Is Leaves bytes before last
leaves_either (Ok x) Is Leaves bytes read before now last here done failed leaves = leaves_flushed Is Leaves bytes read before now last here done leaves
leaves_either (Err e) Is Leaves bytes read before now last here done failed leaves = leaves_same Is Leaves bytes before now last failed leaves

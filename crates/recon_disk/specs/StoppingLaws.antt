-- What a disk reads, by its records, is such as a stop now may leave. This is a proof and nothing to believe: the trait's law is given by it,
-- and such a law reaches no other folder.
use Rattle.std.proofs.Common.{◌≡◌, ℕ, ◌+◌, ◌-◌, ◌<◌, ◌≤◌, ◌⊎◌, inl, inr, true, nat_eq, ◌&&◌, min, List, [], ◌∷◌, length, drop, get_or, refl, sym, ap, ◌∙◌, arith, subst}
use Rattle.std.proofs.lemmas.Bool.{cases_lt, cases_Bool, eqb-true, and_parts}
use Rattle.std.proofs.lemmas.Grind.{common_steps}
use Rattle.std.proofs.lemmas.List.{ext_get_or, get_or_past, get_or-take, get_or-drop, length-take, length-drop}
use Rattle.verdict.specs.Image.{range, written}
use Rattle.verdict.proofs.Images.{length-written_any, get-written_behind}
use Rattle.recon_disk.specs.declared.stop.Record.{Record}
use Rattle.recon_disk.specs.declared.stop.Record.TheVariants.{Wrote, Missed, Flushed}
use Rattle.recon_disk.specs.Stopping.{last_of, before_last, write_of, moments_from}
use Rattle.recon_disk.specs.Stops.{Unflushed, OfPlace, OfRange, Moment, IsPlaceOfOne, MayRemain, RemainsNow, with_write, flushed_as}

-- a write leaves what lies before its range and behind it
get_before : (image bytes : List ℕ) (at i : ℕ) → i < at → get_or (written image at bytes) i 0 ≡ get_or image i 0
unfolding written
get_before image bytes at i low = elim (cases_lt i (length image)) [
  | inl inside ↦ grind (arith, common_steps)
  | inr past ↦ get_or_past (written image at bytes) i 0 (omega (arith, length-written_any image bytes at)) ∙ sym (get_or_past image i 0 past)
]

get_behind : (image bytes : List ℕ) (at i : ℕ) → at + length bytes ≤ i → get_or (written image at bytes) i 0 ≡ get_or image i 0
get_behind image bytes at i high = elim (cases_lt i (length image)) [
  | inl inside ↦ get-written_behind image bytes at i (omega arith) high
  | inr past ↦ get_or_past (written image at bytes) i 0 (omega (arith, length-written_any image bytes at)) ∙ sym (get_or_past image i 0 past)
]

get_outside : (image bytes : List ℕ) (at n i : ℕ) → length bytes ≤ n → (i < at) ⊎ (at + n ≤ i) → get_or (written image at bytes) i 0 ≡ get_or image i 0
get_outside image bytes at n i few (inl low) = get_before image bytes at i low
get_outside image bytes at n i few (inr high) = get_behind image bytes at i (omega arith)

-- and so the superblock place, where it lies outside
place_few : (image : List ℕ) → length (range 65536 4096 image) ≤ 4096
place_few image = omega (arith, length-take 4096 (drop 65536 image))

place_as_long : (image left : List ℕ) → length left ≡ length image → length (range 65536 4096 image) ≡ length (range 65536 4096 left)
place_as_long image left same =
    length-take 4096 (drop 65536 image) ∙ ap (min 4096) (length-drop 65536 image ∙ ap (λ k. k - 65536) (sym same) ∙ sym (length-drop 65536 left))
    ∙ sym (length-take 4096 (drop 65536 left))

get_place : (image : List ℕ) (i : ℕ) → i < 4096 → get_or (range 65536 4096 image) i 0 ≡ get_or image (65536 + i) 0
get_place image i few = get_or-take 4096 (drop 65536 image) i 0 few ∙ get_or-drop 65536 image i 0

out_of_place : (at n i : ℕ) → i < 4096 → (at + n ≤ 65536) ⊎ (69632 ≤ at) → (65536 + i < at) ⊎ (at + n ≤ 65536 + i)
out_of_place at n i few (inl low) = inr (omega arith)
out_of_place at n i few (inr high) = inl (omega arith)

below : (i n m : ℕ) → n ≤ m → i < n → i < m
below i n m few h = omega arith

place_outside : (image bytes : List ℕ) (at n : ℕ) → length bytes ≤ n → (at + n ≤ 65536) ⊎ (69632 ≤ at) → range 65536 4096 image ≡ range 65536 4096 (written image at bytes)
place_outside image bytes at n few out =
    ext_get_or 0 (range 65536 4096 image) (range 65536 4096 (written image at bytes)) (place_as_long image (written image at bytes) (length-written_any image bytes at)) (λ i h.
    let k : i < 4096 = below i (length (range 65536 4096 image)) 4096 (place_few image) h in
    get_place image i k ∙ sym (get_outside image bytes at n (65536 + i) few (out_of_place at n i k out)) ∙ sym (get_place (written image at bytes) i k))

-- what stood before a write may remain, so what stands after it may
after_place : (m : Moment) (image bytes : List ℕ) → length bytes ≤ 4096 → MayRemain m (written image 65536 bytes)
    → MayRemain (record { flushed = m.flushed; since = OfPlace (range 65536 4096 image) ∷ m.since }) image
after_place m image bytes few h = record {
  same_length = sym (length-written_any image bytes 65536) ∙ h.same_length;
  others = λ i out. sym (get_outside image bytes 65536 4096 i few (elim out.0 [ inl low ↦ inl low | inr high ↦ inr high ])) ∙ h.others i out.1;
  place = λ mind. inl refl;
}

after_range : (m : Moment) (image bytes : List ℕ) (at n : ℕ) → length bytes ≤ n → MayRemain m (written image at bytes)
    → MayRemain (record { flushed = m.flushed; since = OfRange at n ∷ m.since }) image
after_range m image bytes at n few h = record {
  same_length = sym (length-written_any image bytes at) ∙ h.same_length;
  others = λ i out. sym (get_outside image bytes at n i few out.0) ∙ h.others i out.1;
  place = λ mind. subst (λ place. IsPlaceOfOne place m.flushed m.since) (sym (place_outside image bytes at n few mind.0)) (h.place mind.1);
}

after_missed : (m : Moment) (image bytes : List ℕ) → MayRemain m image → MayRemain (record { flushed = m.flushed; since = OfPlace bytes ∷ m.since }) image
after_missed m image bytes h = record {
  same_length = h.same_length;
  others = λ i out. h.others i out.1;
  place = λ mind. inr (h.place mind);
}

-- the same of the newest of moments
newest : (ms : List Moment) (before image : List ℕ) (w : Unflushed)
    → ((m : Moment) → MayRemain m before → MayRemain (record { flushed = m.flushed; since = w ∷ m.since }) image)
    → RemainsNow ms before → RemainsNow (with_write ms w) image
newest [] before image w step h = h
newest (m ∷ ms) before image w step h = step m h

after_write : (ms : List Moment) (image bytes : List ℕ) (at n : ℕ) → length bytes ≤ n → RemainsNow ms (written image at bytes)
    → RemainsNow (with_write ms (write_of at n image)) image
after_write ms image bytes at n few h = elim (cases_Bool (nat_eq at 65536 && nat_eq n 4096)) [
  | inl same ↦
      let both : (nat_eq at 65536 ≡ true) × (nat_eq n 4096 ≡ true) = and_parts (nat_eq at 65536) (nat_eq n 4096) same in
      let a : at ≡ 65536 = eqb-true at 65536 both.0 in
      let b : n ≡ 4096 = eqb-true n 4096 both.1 in
      rw same (subst (λ k. RemainsNow (with_write ms (OfPlace (range k n image))) image) (sym a)
      (subst (λ k. RemainsNow (with_write ms (OfPlace (range 65536 k image))) image) (sym b)
      (newest ms (written image 65536 bytes) image (OfPlace (range 65536 4096 image)) (λ m. after_place m image bytes (omega arith)) (subst (λ k. RemainsNow ms (written image k bytes)) a h))))
  | inr other ↦ rw other (newest ms (written image at bytes) image (OfRange at n) (λ m. after_range m image bytes at n few) h)
]

-- a flush leaves what reads
after_flush : (image : List ℕ) → MayRemain (flushed_as image) image
after_flush image = record { same_length = refl; others = λ i out. refl; place = λ mind. refl }

last_few : (n : ℕ) (pool : List ℕ) → length (last_of n pool) ≤ n
last_few n pool = omega (arith, length-drop (length pool - n) pool)

pub remains : (records : List Record) (pool image : List ℕ) → RemainsNow (moments_from records pool image) image
remains [] pool image = after_flush image
remains (Wrote at n ∷ older) pool image =
    after_write (moments_from older (before_last n pool) (written image at (last_of n pool))) image (last_of n pool) at n (last_few n pool)
    (remains older (before_last n pool) (written image at (last_of n pool)))
remains (Missed ∷ older) pool image =
    newest (moments_from older (before_last 4096 pool) image) image image (OfPlace (last_of 4096 pool)) (λ m. after_missed m image (last_of 4096 pool)) (remains older (before_last 4096 pool) image)
remains (Flushed ∷ older) pool image = after_flush image

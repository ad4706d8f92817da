-- What a disk holds while writes go out to it piece by piece.
use Rattle.std.proofs.Common.{◌≡◌, ℕ, ◌-◌, ◌<◌, ◌≤◌, ◌⊎◌, inl, inr, List, length, get_or, refl, sym, ap, ◌∙◌, arith}
use Rattle.std.proofs.lemmas.Bool.{cases_lt}
use Rattle.verdict.specs.Image.{range, written}
use Rattle.verdict.proofs.Images.{length-written, get-written_in, get-written_before, get-written_behind}
use Rattle.write_cache.proofs.CacheLaws.{length-range, get-range}
use Rattle.recon_core.specs.Sent.{with_place_of}
use Rattle.recon_disk.proofs.Sending.{same_bytes}

-- an image with the superblock place of another: its length, and each byte in and outside the place
pub length-with_place_of : (other image : List ℕ) → length other ≡ length image → 69632 ≤ length image → length (with_place_of other image) ≡ length image
unfolding with_place_of
length-with_place_of other image same long =
    let n : length (range 65536 4096 other) ≡ 4096 = omega (arith, length-range 65536 4096 other) in
    length-written image (range 65536 4096 other) 65536 (omega arith)

pub get-with_place_of_in : (other image : List ℕ) (i : ℕ) → length other ≡ length image → 69632 ≤ length image → 65536 ≤ i → i < 69632 → get_or (with_place_of other image) i 0 ≡ get_or other i 0
unfolding with_place_of
get-with_place_of_in other image i same long low high =
    let n : length (range 65536 4096 other) ≡ 4096 = omega (arith, length-range 65536 4096 other) in
    get-written_in image (range 65536 4096 other) 65536 i (omega arith) low (omega arith)
    ∙ get-range 65536 4096 other (i - 65536) (omega arith) ∙ ap (λ k. get_or other k 0) (omega arith)

pub get-with_place_of_out : (other image : List ℕ) (i : ℕ) → length other ≡ length image → 69632 ≤ length image → (i < 65536) ⊎ (69632 ≤ i) → get_or (with_place_of other image) i 0 ≡ get_or image i 0
unfolding with_place_of
get-with_place_of_out other image i same long (inl low) =
    let n : length (range 65536 4096 other) ≡ 4096 = omega (arith, length-range 65536 4096 other) in
    get-written_before image (range 65536 4096 other) 65536 i (omega arith) low
get-with_place_of_out other image i same long (inr high) =
    let n : length (range 65536 4096 other) ≡ 4096 = omega (arith, length-range 65536 4096 other) in
    get-written_behind image (range 65536 4096 other) 65536 i (omega arith) (omega arith)

-- in the superblock place or outside it
pub data Where (i : ℕ) : Type 0 where
  inside_place : 65536 ≤ i → i < 69632 → Where i
  outside_place : (i < 65536) ⊎ (69632 ≤ i) → Where i

pub where_is : (i : ℕ) → Where i
where_is i = elim (cases_lt i 65536) [
  | inl low ↦ outside_place (inl low)
  | inr from ↦ elim (cases_lt i 69632) [ inl high ↦ inside_place from high | inr behind ↦ outside_place (inr behind) ]
]

-- an image is determined by its bytes in the place and those outside it
pub place_ext : (xs other image : List ℕ) → length xs ≡ length image → length other ≡ length image → 69632 ≤ length image
    → ((i : ℕ) → 65536 ≤ i → i < 69632 → get_or xs i 0 ≡ get_or other i 0)
    → ((i : ℕ) → i < length image → (i < 65536) ⊎ (69632 ≤ i) → get_or xs i 0 ≡ get_or image i 0)
    → xs ≡ with_place_of other image
place_ext xs other image n same long in_ out =
    same_bytes _ _ (n ∙ sym (length-with_place_of other image same long)) (λ i h. elim (where_is i) [
      | inside_place low high ↦ in_ i low high ∙ sym (get-with_place_of_in other image i same long low high)
      | outside_place w ↦ out i (omega arith) w ∙ sym (get-with_place_of_out other image i same long w)
    ])

-- the place of an image itself is no change
pub place_same : (image over : List ℕ) → length over ≡ length image → 69632 ≤ length image
    → ((i : ℕ) → 65536 ≤ i → i < 69632 → get_or over i 0 ≡ get_or image i 0) → with_place_of image over ≡ over
place_same image over same long agree = sym (place_ext over image over refl (sym same) (omega arith) agree (λ i h w. refl))

-- the place last: it is that of the whole
pub place_last : (image over : List ℕ) → length over ≡ length image → 69632 ≤ length image
    → written (with_place_of image over) 65536 (range 65536 4096 over) ≡ over
place_last image over same long =
    let n : length (with_place_of image over) ≡ length over = length-with_place_of image over (sym same) (omega arith) in
    let k : length (range 65536 4096 over) ≡ 4096 = omega (arith, length-range 65536 4096 over) in
    let m : length (written (with_place_of image over) 65536 (range 65536 4096 over)) ≡ length over =
    length-written (with_place_of image over) (range 65536 4096 over) 65536 (omega arith) ∙ n in
    same_bytes _ _ m (λ i h. elim (where_is i) [
      | inside_place low high ↦ get-written_in (with_place_of image over) (range 65536 4096 over) 65536 i (omega arith) low (omega arith)
          ∙ get-range 65536 4096 over (i - 65536) (omega arith) ∙ ap (λ j. get_or over j 0) (omega arith)
      | outside_place w ↦ elim w [
        | inl l ↦ get-written_before (with_place_of image over) (range 65536 4096 over) 65536 i (omega arith) l
            ∙ get-with_place_of_out image over i (sym same) (omega arith) (inl l)
        | inr l ↦ get-written_behind (with_place_of image over) (range 65536 4096 over) 65536 i (omega arith) (omega arith)
            ∙ get-with_place_of_out image over i (sym same) (omega arith) (inr l)
      ]
    ])

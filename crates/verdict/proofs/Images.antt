-- What a write leaves of an image: its length, what lies before, in and behind the range, and each byte.
use Rattle.std.proofs.Common.{◌≡◌, ℕ, ◌+◌, ◌-◌, ◌<◌, ◌≤◌, List, [], ◌∷◌, ◌++◌, length, take, drop, get_or, ap, ◌∙◌, arith}
use Rattle.std.proofs.lemmas.Grind.{common_steps}
use Rattle.std.proofs.lemmas.List.{take_all}
use Rattle.std.proofs.lemmas.Slice.{drop-append-drop}
use Rattle.verdict.specs.Image.{range, written, applied}
use Rattle.verdict.specs.declared.machine.HeldWrite.{HeldWrite}

-- a write that lies inside the image stands between what lies before it and what lies behind
pub written_inside : (image bytes : List ℕ) (at : ℕ) → at + length bytes ≤ length image → written image at bytes ≡ take at image ++ bytes ++ drop (at + length bytes) image
unfolding written
written_inside image bytes at h = take_all (length image) (take at image ++ bytes ++ drop (at + length bytes) image) (grind (arith, common_steps))

-- the length stays, also where the write passes the image's end
pub length-written_any : (image bytes : List ℕ) (at : ℕ) → length (written image at bytes) ≡ length image
unfolding written
length-written_any image bytes at = grind (arith, common_steps)

pub length-applied : (image : List ℕ) (writes : List HeldWrite) → length (applied image writes) ≡ length image
length-applied image [] = grind arith
length-applied image (w ∷ ws) = length-applied (written image w.at w.bytes) ws ∙ length-written_any image w.bytes w.at

pub length-written : (image bytes : List ℕ) (at : ℕ) → at + length bytes ≤ length image → length (written image at bytes) ≡ length image
length-written image bytes at h = length-written_any image bytes at

pub take-written : (image bytes : List ℕ) (at n : ℕ) → n ≤ at → at ≤ length image → take n (written image at bytes) ≡ take n image
unfolding written
take-written image bytes at n h g = grind (arith, common_steps)

pub drop-written : (image bytes : List ℕ) (at n : ℕ) → at + length bytes ≤ n → at + length bytes ≤ length image → drop n (written image at bytes) ≡ drop n image
drop-written image bytes at n h g =
    ap (drop n) (written_inside image bytes at g)
    ∙ drop-append-drop (at + length bytes) image (take at image ++ bytes) n h (grind (arith, common_steps))

pub range-written : (image bytes : List ℕ) (at : ℕ) → at + length bytes ≤ length image → range at (length bytes) (written image at bytes) ≡ bytes
range-written image bytes at h = ap (range at (length bytes)) (written_inside image bytes at h) ∙ grind (arith, common_steps)

-- the byte of an image after a write, in and outside its range
pub get-written_in : (image bytes : List ℕ) (at i : ℕ) → at + length bytes ≤ length image → at ≤ i → i < at + length bytes → get_or (written image at bytes) i 0 ≡ get_or bytes (i - at) 0
get-written_in image bytes at i h low high = ap (λ b. get_or b i 0) (written_inside image bytes at h) ∙ grind (arith, common_steps)

pub get-written_before : (image bytes : List ℕ) (at i : ℕ) → at + length bytes ≤ length image → i < at → get_or (written image at bytes) i 0 ≡ get_or image i 0
get-written_before image bytes at i h low = ap (λ b. get_or b i 0) (written_inside image bytes at h) ∙ grind (arith, common_steps)

pub get-written_behind : (image bytes : List ℕ) (at i : ℕ) → at + length bytes ≤ length image → at + length bytes ≤ i → get_or (written image at bytes) i 0 ≡ get_or image i 0
get-written_behind image bytes at i h low = ap (λ b. get_or b i 0) (written_inside image bytes at h) ∙ grind (arith, common_steps)

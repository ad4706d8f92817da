-- Pieces that go out in their order, each but for its bytes in the superblock place, make the image with the whole map
-- over it, but for that place.
use Rattle.std.proofs.Common.{◌≡◌, ℕ, ◌+◌, ◌-◌, ◌<◌, ◌≤◌, ◌⊎◌, inl, inr, min, List, [], ◌∷◌, length, take, drop, get_or, Option, Some, None, IsSome, refl, sym, ap, ◌∙◌, arith, subst}
use Rattle.std.specs.Option.{unwrap_or}
use Rattle.std.specs.Ordering.{nat_cmp}
use Rattle.std.specs.FinMap.{get, get-empty}
use Rattle.std.proofs.lemmas.Bool.{cases_lt}
use Rattle.std.proofs.lemmas.List.{length-drop, length-take-le, get_or-take, get_or-drop}
use Rattle.verdict.specs.Image.{written}
use Rattle.verdict.proofs.Images.{length-written, get-written_in, get-written_before, get-written_behind}
use Rattle.write_cache.specs.Cache.{with_bytes, overlaid}
use Rattle.write_cache.specs.Pieces.{Piece, map_of, AreApart}
use Rattle.write_cache.proofs.CacheLaws.{length-overlaid, get-overlaid, get-with_bytes_before, get-with_bytes_behind, get-with_bytes_in}
use Rattle.recon_core.specs.Standing.{IsBelow}
use Rattle.recon_core.specs.Sent.{sent_piece, with_place_of}
use Rattle.recon_core.proofs.Places.{place_ext}

-- an image to which pieces went out in their order
unfoldable pub sent_all : List Piece → List ℕ → List ℕ
sent_all [] image = image
sent_all (piece ∷ pieces) image = sent_all pieces (sent_piece image piece.at piece.bytes)

pub length-sent_piece : (image : List ℕ) (at : ℕ) (bytes : List ℕ) → at + length bytes ≤ length image → length (sent_piece image at bytes) ≡ length image
unfolding sent_piece
length-sent_piece image at bytes fits =
    let b : ℕ = min (65536 - at) (length bytes) in
    let h : ℕ = min (69632 - at) (length bytes) in
    let front : length (take b bytes) ≡ b = length-take-le b bytes (omega arith) in
    let rest : length (drop h bytes) ≡ length bytes - h = length-drop h bytes in
    let first : length (written image at (take b bytes)) ≡ length image = length-written image (take b bytes) at (omega arith) in
    length-written (written image at (take b bytes)) (drop h bytes) (at + h) (omega arith) ∙ first

-- a byte of the piece outside the place is there
pub sent_piece-in : (image : List ℕ) (at : ℕ) (bytes : List ℕ) (i : ℕ) → at + length bytes ≤ length image → at ≤ i → i < at + length bytes → (i < 65536) ⊎ (69632 ≤ i)
    → get_or (sent_piece image at bytes) i 0 ≡ get_or bytes (i - at) 0
unfolding sent_piece
sent_piece-in image at bytes i fits from to outside =
    let b : ℕ = min (65536 - at) (length bytes) in
    let h : ℕ = min (69632 - at) (length bytes) in
    let front : length (take b bytes) ≡ b = length-take-le b bytes (omega arith) in
    let rest : length (drop h bytes) ≡ length bytes - h = length-drop h bytes in
    let first : length (written image at (take b bytes)) ≡ length image = length-written image (take b bytes) at (omega arith) in
    elim outside [
      | inl low ↦ get-written_before (written image at (take b bytes)) (drop h bytes) (at + h) i (omega arith) (omega arith)
          ∙ get-written_in image (take b bytes) at i (omega arith) from (omega arith)
          ∙ get_or-take b bytes (i - at) 0 (omega arith)
      | inr high ↦ get-written_in (written image at (take b bytes)) (drop h bytes) (at + h) i (omega arith) (omega arith) (omega arith)
          ∙ get_or-drop h bytes (i - (at + h)) 0
          ∙ ap (λ k. get_or bytes k 0) (omega arith)
    ]

-- a byte outside the piece or in the place stays
pub sent_piece-out : (image : List ℕ) (at : ℕ) (bytes : List ℕ) (i : ℕ) → at + length bytes ≤ length image → (i < at) ⊎ (at + length bytes ≤ i)
    → get_or (sent_piece image at bytes) i 0 ≡ get_or image i 0
unfolding sent_piece
sent_piece-out image at bytes i fits out =
    let b : ℕ = min (65536 - at) (length bytes) in
    let h : ℕ = min (69632 - at) (length bytes) in
    let front : length (take b bytes) ≡ b = length-take-le b bytes (omega arith) in
    let rest : length (drop h bytes) ≡ length bytes - h = length-drop h bytes in
    let first : length (written image at (take b bytes)) ≡ length image = length-written image (take b bytes) at (omega arith) in
    elim out [
      | inl low ↦ get-written_before (written image at (take b bytes)) (drop h bytes) (at + h) i (omega arith) (omega arith)
          ∙ get-written_before image (take b bytes) at i (omega arith) low
      | inr high ↦ get-written_behind (written image at (take b bytes)) (drop h bytes) (at + h) i (omega arith) (omega arith)
          ∙ get-written_behind image (take b bytes) at i (omega arith) (omega arith)
    ]

pub sent_piece-place : (image : List ℕ) (at : ℕ) (bytes : List ℕ) (i : ℕ) → at + length bytes ≤ length image → 65536 ≤ i → i < 69632
    → get_or (sent_piece image at bytes) i 0 ≡ get_or image i 0
unfolding sent_piece
sent_piece-place image at bytes i fits low high =
    let b : ℕ = min (65536 - at) (length bytes) in
    let h : ℕ = min (69632 - at) (length bytes) in
    let front : length (take b bytes) ≡ b = length-take-le b bytes (omega arith) in
    let rest : length (drop h bytes) ≡ length bytes - h = length-drop h bytes in
    let first : length (written image at (take b bytes)) ≡ length image = length-written image (take b bytes) at (omega arith) in
    let same : get_or (written image at (take b bytes)) i 0 ≡ get_or image i 0 = elim (cases_lt i at) [
      | inl before ↦ get-written_before image (take b bytes) at i (omega arith) before
      | inr from ↦ get-written_behind image (take b bytes) at i (omega arith) (omega arith)
    ] in
    elim (cases_lt i (at + h)) [
      | inl before ↦ get-written_before (written image at (take b bytes)) (drop h bytes) (at + h) i (omega arith) before ∙ same
      | inr behind ↦ get-written_behind (written image at (take b bytes)) (drop h bytes) (at + h) i (omega arith) (omega arith) ∙ same
    ]

pub some_is : (o : Option ℕ) (x : ℕ) → o ≡ Some x → IsSome o
some_is (Some y) x h = refl
some_is None x h = absurd (cc)

-- pieces apart: none has a byte before the first, the first lies below the end, and so do the others
pub none_before : (from : ℕ) (pieces : List Piece) (i : ℕ) → AreApart from pieces → i < from → get (map_of pieces) i ≡ None
unfolding map_of
none_before from [] i apart low = get-empty nat_cmp i
none_before from (p ∷ ps) i apart low =
    let begins : from ≤ p.at = apart.0 in
    get-with_bytes_before (map_of ps) p.at p.bytes i (omega arith) ∙ none_before (p.at + length p.bytes + 1) ps i apart.2 (omega arith)

pub first_inside : (end from : ℕ) (p : Piece) (ps : List Piece) → AreApart from (p ∷ ps) → IsBelow end (map_of (p ∷ ps)) → p.at + length p.bytes ≤ end
unfolding map_of
first_inside end from p ps apart below =
    let some : 0 < length p.bytes = apart.1 in
    let q : ℕ = p.at + (length p.bytes - 1) in
    let last : q < end = below q (some_is (get (with_bytes (map_of ps) p.at p.bytes) q) _ (get-with_bytes_in (map_of ps) p.at p.bytes q (omega arith) (omega arith))) in
    omega arith

-- at an offset that the first piece does not have, the map is that of the others
pub get-map_of_rest : (p : Piece) (ps : List Piece) (i : ℕ) → (i < p.at) ⊎ (p.at + length p.bytes ≤ i) → get (map_of (p ∷ ps)) i ≡ get (map_of ps) i
unfolding map_of
get-map_of_rest p ps i (inl low) = get-with_bytes_before (map_of ps) p.at p.bytes i low
get-map_of_rest p ps i (inr high) = get-with_bytes_behind (map_of ps) p.at p.bytes i high

pub get-map_of_first : (p : Piece) (ps : List Piece) (i : ℕ) → p.at ≤ i → i < p.at + length p.bytes → get (map_of (p ∷ ps)) i ≡ Some (get_or p.bytes (i - p.at) 0)
unfolding map_of
get-map_of_first p ps i low high = get-with_bytes_in (map_of ps) p.at p.bytes i low high

-- an offset in a range or outside it
pub data Ranged (at n i : ℕ) : Type 0 where
  in_range : at ≤ i → i < at + n → Ranged at n i
  out_of_range : (i < at) ⊎ (at + n ≤ i) → Ranged at n i

pub ranged : (at n i : ℕ) → Ranged at n i
ranged at n i = elim (cases_lt i at) [
  | inl low ↦ out_of_range (inl low)
  | inr from ↦ elim (cases_lt i (at + n)) [ inl high ↦ in_range from high | inr behind ↦ out_of_range (inr behind) ]
]

pub rest_below : (end from : ℕ) (p : Piece) (ps : List Piece) → AreApart from (p ∷ ps) → IsBelow end (map_of (p ∷ ps)) → IsBelow end (map_of ps)
rest_below end from p ps apart below i some =
    elim (ranged p.at (length p.bytes) i) [
      | in_range low high ↦ below i (some_is (get (map_of (p ∷ ps)) i) _ (get-map_of_first p ps i low high))
      | out_of_range out ↦ below i (subst IsSome (sym (get-map_of_rest p ps i out)) some)
    ]

pub length-sent_all : (from : ℕ) (pieces : List Piece) (image : List ℕ) → AreApart from pieces → IsBelow (length image) (map_of pieces) → length (sent_all pieces image) ≡ length image
unfolding sent_all
length-sent_all from [] image apart below = refl
length-sent_all from (p ∷ ps) image apart below =
    let n : length (sent_piece image p.at p.bytes) ≡ length image = length-sent_piece image p.at p.bytes (first_inside (length image) from p ps apart below) in
    length-sent_all (p.at + length p.bytes + 1) ps (sent_piece image p.at p.bytes) apart.2 (subst (λ k. IsBelow k (map_of ps)) (sym n) (rest_below (length image) from p ps apart below)) ∙ n

sent_all-place : (from : ℕ) (pieces : List Piece) (image : List ℕ) (i : ℕ) → AreApart from pieces → IsBelow (length image) (map_of pieces) → 65536 ≤ i → i < 69632
    → get_or (sent_all pieces image) i 0 ≡ get_or image i 0
unfolding sent_all
sent_all-place from [] image i apart below low high = refl
sent_all-place from (p ∷ ps) image i apart below low high =
    let fits : p.at + length p.bytes ≤ length image = first_inside (length image) from p ps apart below in
    let n : length (sent_piece image p.at p.bytes) ≡ length image = length-sent_piece image p.at p.bytes fits in
    sent_all-place (p.at + length p.bytes + 1) ps (sent_piece image p.at p.bytes) i apart.2 (subst (λ k. IsBelow k (map_of ps)) (sym n) (rest_below (length image) from p ps apart below)) low high
    ∙ sent_piece-place image p.at p.bytes i fits low high

sent_all-others : (from : ℕ) (pieces : List Piece) (image : List ℕ) (i : ℕ) → AreApart from pieces → IsBelow (length image) (map_of pieces) → (i < 65536) ⊎ (69632 ≤ i)
    → get_or (sent_all pieces image) i 0 ≡ unwrap_or (get (map_of pieces) i) (get_or image i 0)
unfolding sent_all map_of
sent_all-others from [] image i apart below outside = sym (ap (λ o. unwrap_or o (get_or image i 0)) (get-empty nat_cmp i))
sent_all-others from (p ∷ ps) image i apart below outside =
    let fits : p.at + length p.bytes ≤ length image = first_inside (length image) from p ps apart below in
    let n : length (sent_piece image p.at p.bytes) ≡ length image = length-sent_piece image p.at p.bytes fits in
    sent_all-others (p.at + length p.bytes + 1) ps (sent_piece image p.at p.bytes) i apart.2 (subst (λ k. IsBelow k (map_of ps)) (sym n) (rest_below (length image) from p ps apart below)) outside
    ∙ elim (ranged p.at (length p.bytes) i) [
      | in_range low high ↦ ap (λ o. unwrap_or o (get_or (sent_piece image p.at p.bytes) i 0)) (none_before (p.at + length p.bytes + 1) ps i apart.2 (omega arith))
          ∙ sent_piece-in image p.at p.bytes i fits low high outside
          ∙ sym (ap (λ o. unwrap_or o (get_or image i 0)) (get-map_of_first p ps i low high))
      | out_of_range out ↦ ap (λ x. unwrap_or (get (map_of ps) i) x) (sent_piece-out image p.at p.bytes i fits out)
          ∙ sym (ap (λ o. unwrap_or o (get_or image i 0)) (get-map_of_rest p ps i out))
    ]

-- the law
pub all_sent : (from : ℕ) (pieces : List Piece) (image : List ℕ) → AreApart from pieces → IsBelow (length image) (map_of pieces) → 69632 ≤ length image
    → sent_all pieces image ≡ with_place_of image (overlaid (map_of pieces) 0 image)
all_sent from pieces image apart below long =
    let over : List ℕ = overlaid (map_of pieces) 0 image in
    let n : length over ≡ length image = length-overlaid (map_of pieces) 0 image in
    place_ext (sent_all pieces image) image over (length-sent_all from pieces image apart below ∙ sym n) (sym n) (omega arith)
    (λ i low high. sent_all-place from pieces image i apart below low high)
    (λ i h outside. sent_all-others from pieces image i apart below outside
    ∙ sym (get-overlaid (map_of pieces) 0 image i (omega arith) ∙ ap (λ k. unwrap_or (get (map_of pieces) k) (get_or image i 0)) (omega arith)))

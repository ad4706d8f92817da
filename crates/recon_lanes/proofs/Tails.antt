-- The places of the buffer, and the bytes that are left at the end.
use Rattle.std.proofs.Common.{◌≡◌, ℕ, zero, suc, ◌+◌, ◌-◌, ◌<◌, ◌≤◌, List, [], ◌∷◌, ◌++◌, length, get_or, take, drop, set, replicate, length-set, length-drop, drop-drop, subst, ◌⊎◌, inl, inr, refl, sym, ap, ap₂, ◌∙◌, arith}
use Rattle.std.proofs.lemmas.Nat.{xor_lt}
use Rattle.std.proofs.lemmas.List.{drop_all, length-take, take-append-drop, ext_get_or, get_or-drop, get_or-set_same, get_or-set_other, length-take-le, length-replicate, take_all}
use Rattle.std.proofs.lemmas.Bool.{cases_lt}
use Rattle.std.proofs.lemmas.List.Edits.{paste_all}
use Rattle.std.proofs.Math.Seq.{take-append_seam}
use Rattle.std.specs.Int.Bits.{bit_xor, xor_zero_r}
use Rattle.std.specs.List.{copy_within}
use Rattle.recon_lanes.specs.Folded.{Folds, folded, laid, inverted, window}
use Rattle.recon_crc.specs.Checksum.{register_after, crc32c_of}
use Rattle.recon_lanes.proofs.Inverted.{from_ones, laid-inverted, length-inverted, sum-inverted}
use Rattle.recon_lanes.proofs.Folds.{length-laid, folded-of, six}

-- the first four of the places, each with its byte inverted
abbrev pub inverted_at : List ℕ → ℕ → List ℕ
inverted_at l place = set l place (bit_xor (get_or l place 0) 255)

pub four_inverted : (l : List ℕ) → 4 ≤ length l → inverted_at (inverted_at (inverted_at (inverted_at l 0) 1) 2) 3 ≡ inverted l
unfolding inverted
four_inverted [] four = absurd (omega arith)
four_inverted (a ∷ []) four = absurd (omega arith)
four_inverted (a ∷ b ∷ []) four = absurd (omega arith)
four_inverted (a ∷ b ∷ c ∷ []) four = absurd (omega arith)
four_inverted (a ∷ b ∷ c ∷ d ∷ l) four = refl

-- the last bytes of the buffer are its first ones then
kept_are : (buffer : List ℕ) → copy_within buffer 4096 (length buffer) 0 ≡ drop 4096 buffer ++ drop (length buffer - 4096) buffer
kept_are buffer =
    let rest : 0 + (length buffer - 4096) ≡ length buffer - 4096 = omega arith in
    paste_all buffer 0 (drop 4096 buffer) (length buffer - 4096) (sym (length-drop 4096 buffer)) ∙ ap (λ n. drop 4096 buffer ++ drop n buffer) rest

pub kept_last : (buffer : List ℕ) → length buffer ≡ 4514 → window (copy_within buffer 4096 (length buffer) 0) 0 ≡ window buffer 4096
kept_last buffer long =
    let last : List ℕ = drop 4096 buffer in
    let size : length last ≡ 418 = length-drop 4096 buffer ∙ ap (λ n. n - 4096) long in
    ap (take 418) (kept_are buffer)
    ∙ ap (λ n. take n (last ++ drop (length buffer - 4096) buffer)) (sym size)
    ∙ take-append_seam last (drop (length buffer - 4096) buffer)
    ∙ sym (take_all 418 last (omega arith))

-- each is a byte
abbrev pub AreBytes : List ℕ → Type 0
AreBytes l = (place : ℕ) → get_or l place 0 < 256

joined-bytes : (l m : List ℕ) → AreBytes l → AreBytes m → AreBytes (l ++ m)
joined-bytes [] m p q place = q place
joined-bytes (a ∷ l) m p q zero = p 0
joined-bytes (a ∷ l) m p q (suc place) = joined-bytes l m (λ k. p (suc k)) q place

dropped-bytes : (n : ℕ) (l : List ℕ) → AreBytes l → AreBytes (drop n l)
dropped-bytes n l p place = subst (λ x. x < 256) (sym (get_or-drop n l place 0)) (p (n + place))

pub kept-bytes : (buffer : List ℕ) → AreBytes buffer → AreBytes (copy_within buffer 4096 (length buffer) 0)
kept-bytes buffer p = subst AreBytes (sym (kept_are buffer)) (joined-bytes (drop 4096 buffer) (drop (length buffer - 4096) buffer) (dropped-bytes 4096 buffer p) (dropped-bytes (length buffer - 4096) buffer p))

-- zeros send nothing
abbrev pub zeros : ℕ → List ℕ
zeros n = replicate n 0

pub length-zeros : (n : ℕ) → length (zeros n) ≡ n
length-zeros n = length-replicate n 0

zero_byte : (n k : ℕ) → get_or (zeros n) k 0 ≡ 0
zero_byte zero k = refl
zero_byte (suc n) zero = refl
zero_byte (suc n) (suc k) = zero_byte n k

xor-zeros : (x a b c d e : ℕ) → a ≡ 0 → b ≡ 0 → c ≡ 0 → d ≡ 0 → e ≡ 0 → six x a b c d e ≡ x
xor-zeros x a b c d e p q r s t =
    (λ i. six x (p i) (q i) (r i) (s i) (t i))
    ∙ xor_zero_r (bit_xor (bit_xor (bit_xor (bit_xor x 0) 0) 0) 0) ∙ xor_zero_r (bit_xor (bit_xor (bit_xor x 0) 0) 0) ∙ xor_zero_r (bit_xor (bit_xor x 0) 0) ∙ xor_zero_r (bit_xor x 0) ∙ xor_zero_r x

one_fewer : (n : ℕ) → drop 1 (zeros n) ≡ zeros (n - 1)
one_fewer zero = refl
one_fewer (suc n) = let same : suc n - 1 ≡ n = omega arith in ap zeros (sym same)

pub laid-zeros : (n : ℕ) (bytes : List ℕ) → laid (zeros n) bytes ≡ bytes
unfolding laid folded
laid-zeros n [] = refl
laid-zeros n (byte ∷ bytes) =
    ap₂ (λ x l. x ∷ l) (xor-zeros byte _ _ _ _ _ (zero_byte n 288) (zero_byte n 108) (zero_byte n 78) (zero_byte n 28) (zero_byte n 0))
    (ap (λ l. laid l bytes) (one_fewer n) ∙ laid-zeros (n - 1) bytes)

-- zeros behind what stands before send nothing
with_zeros : (before : List ℕ) (n k : ℕ) → get_or (before ++ zeros n) k 0 ≡ get_or before k 0
with_zeros [] n k = zero_byte n k
with_zeros (a ∷ before) n zero = refl
with_zeros (a ∷ before) n (suc k) = with_zeros before n k

pub laid-wide : (before bytes : List ℕ) (n : ℕ) → laid (before ++ zeros n) bytes ≡ laid before bytes
unfolding laid folded
laid-wide before [] n = refl
laid-wide [] (byte ∷ bytes) n = laid-zeros n (byte ∷ bytes) ∙ sym (laid-zeros 0 (byte ∷ bytes))
laid-wide (a ∷ before) (byte ∷ bytes) n =
    let all : List ℕ = a ∷ before in
    (λ i. six byte (with_zeros all n 288 i) (with_zeros all n 108 i) (with_zeros all n 78 i) (with_zeros all n 28 i) (with_zeros all n 0 i) ∷ laid-wide before bytes n i)

-- the byte of a place, with what is sent there
pub laid-place : (before bytes : List ℕ) (i : ℕ) → i < length bytes → get_or (laid before bytes) i 0 ≡ folded (drop i before) (get_or bytes i 0)
unfolding laid
laid-place before [] i inside = absurd (omega arith)
laid-place before (byte ∷ bytes) zero inside = refl
laid-place before (byte ∷ bytes) (suc i) inside =
    let next : 1 + i ≡ suc i = omega arith in
    laid-place (drop 1 before) bytes i (omega arith) ∙ ap (λ l. folded l (get_or bytes i 0)) (drop-drop i 1 before ∙ ap (λ n. drop n before) next)

-- sums of the first places
pub record Sums (before bytes sums : List ℕ) (i : ℕ) : Type 0 where
  pub long : length sums ≡ 418
  pub here : (k : ℕ) → k < i → get_or sums k 0 ≡ get_or (laid before bytes) k 0

pub sums_none : (before bytes sums : List ℕ) → length sums ≡ 418 → Sums before bytes sums 0
sums_none before bytes sums long = record { long = long; here = λ k low. absurd (omega arith) }

pub sums_more : (before bytes sums : List ℕ) (i : ℕ) → Sums before bytes sums i → i < 418 → length bytes ≡ 418
    → Sums before bytes (set sums i (six (get_or bytes i 0) (get_or before (288 + i) 0) (get_or before (108 + i) 0) (get_or before (78 + i) 0) (get_or before (28 + i) 0) (get_or before i 0))) (i + 1)
sums_more before bytes sums i so inside long =
    let sum : ℕ = six (get_or bytes i 0) (get_or before (288 + i) 0) (get_or before (108 + i) 0) (get_or before (78 + i) 0) (get_or before (28 + i) 0) (get_or before i 0) in
    record {
      long = length-set sums i sum ∙ so.long;
      here = λ k low. elim (same_or_less k i (omega arith)) [
        | inl same ↦ subst (λ j. get_or (set sums i sum) j 0 ≡ get_or (laid before bytes) j 0) (sym same)
            (get_or-set_same sums i sum 0 (omega (arith, so.long)) ∙ sym (laid-place before bytes i (omega arith) ∙ folded-of before i (get_or bytes i 0)))
        | inr less ↦ get_or-set_other sums i k sum 0 (omega arith) ∙ so.here k less
      ];
    }
  where
    same_or_less : (k i : ℕ) → k < i + 1 → (k ≡ i) ⊎ (k < i)
    same_or_less k i low = elim (cases_lt k i) [ inl less ↦ inr less | inr not ↦ inl (omega arith) ]

pub sums_all : (before bytes sums : List ℕ) → length bytes ≡ 418 → Sums before bytes sums 418 → sums ≡ laid before bytes
sums_all before bytes sums long so =
    ext_get_or 0 sums (laid before bytes) (so.long ∙ sym (length-laid before bytes ∙ long)) (λ k low. so.here k (omega (arith, so.long)))

inverted-joined : (l m : List ℕ) → 4 ≤ length l → inverted (l ++ m) ≡ inverted l ++ m
unfolding inverted
inverted-joined [] m four = absurd (omega arith)
inverted-joined (a ∷ []) m four = absurd (omega arith)
inverted-joined (a ∷ b ∷ []) m four = absurd (omega arith)
inverted-joined (a ∷ b ∷ c ∷ []) m four = absurd (omega arith)
inverted-joined (a ∷ b ∷ c ∷ d ∷ l) m four = refl

-- what stands before, with zeros behind it
pub laid_last : (before bytes wide front : List ℕ) → length before ≡ 418 → front ≡ before → wide ≡ inverted (front ++ drop 418 (zeros 836))
    → laid wide bytes ≡ laid (inverted before) bytes
laid_last before bytes wide front long is are =
    let behind : drop 418 (zeros 836) ≡ zeros 418 = refl in
    ap (λ l. laid l bytes) (are ∙ ap₂ (λ l z. inverted (l ++ z)) is behind ∙ inverted-joined before (zeros 418) (omega arith)) ∙ laid-wide (inverted before) bytes 418

zeros-bytes : (n : ℕ) → AreBytes (zeros n)
zeros-bytes n place = let none : get_or (zeros n) place 0 ≡ 0 = zero_byte n place in omega arith

inverted-bytes : (l : List ℕ) → AreBytes l → AreBytes (inverted l)
unfolding inverted
inverted-bytes [] p place = p place
inverted-bytes (a ∷ []) p place = p place
inverted-bytes (a ∷ b ∷ []) p place = p place
inverted-bytes (a ∷ b ∷ c ∷ []) p place = p place
inverted-bytes (a ∷ b ∷ c ∷ d ∷ l) p zero = xor_lt 8 a 255 (p 0) (omega arith)
inverted-bytes (a ∷ b ∷ c ∷ d ∷ l) p (suc zero) = xor_lt 8 b 255 (p 1) (omega arith)
inverted-bytes (a ∷ b ∷ c ∷ d ∷ l) p (suc (suc zero)) = xor_lt 8 c 255 (p 2) (omega arith)
inverted-bytes (a ∷ b ∷ c ∷ d ∷ l) p (suc (suc (suc zero))) = xor_lt 8 d 255 (p 3) (omega arith)
inverted-bytes (a ∷ b ∷ c ∷ d ∷ l) p (suc (suc (suc (suc place)))) = p (suc (suc (suc (suc place))))

-- what is left, with what stands before it, comes to the same as all bytes from a register of ones
pub record Left (all buffer rest : List ℕ) : Type 0 where
  pub enough : 418 ≤ length rest
  pub size : length buffer ≡ 4514
  pub bytes : AreBytes buffer
  pub same : register_after 0 (laid (window buffer 0) rest) ≡ register_after 0xFFFFFFFF all

front_inverted : window (inverted (zeros 4514)) 0 ≡ inverted (zeros 418)
unfolding inverted
front_inverted = refl

pub left_begins : (all buffer : List ℕ) → 1024 ≤ length all → buffer ≡ inverted (zeros 4514) → Left all buffer all
left_begins all buffer long is = record {
  enough = omega arith;
  size = ap length is ∙ length-inverted (zeros 4514) ∙ length-zeros 4514;
  bytes = subst AreBytes (sym is) (inverted-bytes (zeros 4514) (zeros-bytes 4514));
  same = ap (λ b. register_after 0 (laid (window b 0) all)) is
      ∙ ap (λ b. register_after 0 (laid b all)) front_inverted
      ∙ ap (register_after 0) (laid-inverted (zeros 418) all (omega (arith, length-zeros 418)) (omega arith) ∙ ap inverted (laid-zeros 418 all))
      ∙ from_ones all (omega arith);
}

part-gone : (n : ℕ) (rest : List ℕ) → drop n (take n rest) ++ drop n rest ≡ drop n rest
part-gone n rest = ap (λ l. l ++ drop n rest) (drop_all n (take n rest) (omega (arith, length-take n rest)))

pub left_goes_on : (all buffer sent kept rest turn behind : List ℕ) → Left all buffer rest → 4514 ≤ length rest → turn ≡ take 4096 rest → behind ≡ drop 4096 rest
    → Folds buffer sent turn (length turn) → window kept 0 ≡ window sent 4096 → AreBytes kept → length kept ≡ 4514 → Left all kept behind
left_goes_on all buffer sent kept rest turn behind so long front back folds last bytes size =
    let enough : 418 ≤ length behind = omega (arith, ap length back, length-drop 4096 rest) in
    let count : length turn ≡ 4096 = ap length front ∙ length-take-le 4096 rest (omega arith) in
    let gone : drop 4096 turn ≡ [] = drop_all 4096 turn (omega arith) in
    record {
      enough = enough;
      size = size;
      bytes = bytes;
      same = ap (λ w. register_after 0 (laid w behind)) last
          ∙ ap (λ l. register_after 0 (laid (window sent 4096) (l ++ behind))) (sym gone)
          ∙ ap (λ n. register_after 0 (laid (window sent n) (drop n turn ++ behind))) (sym count)
          ∙ folds.same behind enough
          ∙ ap (λ l. register_after 0 (laid (window buffer 0) l)) (ap₂ (λ l m. l ++ m) front back ∙ take-append-drop 4096 rest)
          ∙ so.same;
    }

pub left_ends : (all buffer sent rest : List ℕ) (last : ℕ) → Left all buffer rest → last ≡ length rest - 418 → last ≤ 4096
    → Folds buffer sent (take last rest) (length (take last rest)) → crc32c_of (laid (inverted (window sent last)) (drop last rest)) ≡ crc32c_of all
left_ends all buffer sent rest last so is few folds =
    let left : length (drop last rest) ≡ 418 = omega (arith, length-drop last rest, so.enough) in
    let count : length (take last rest) ≡ last = length-take-le last rest (omega (arith, so.enough)) in
    let wide : length (window sent last) ≡ 418 = length-take-le 418 (drop last sent) (omega (arith, length-drop last sent, folds.long, so.size)) in
    sum-inverted (window sent last) (drop last rest) all (omega arith) (omega arith)
    (ap (λ l. register_after 0 (laid (window sent last) l)) (sym (part-gone last rest))
    ∙ ap (λ n. register_after 0 (laid (window sent n) (drop n (take last rest) ++ drop last rest))) (sym count)
    ∙ folds.same (drop last rest) (omega arith)
    ∙ ap (λ l. register_after 0 (laid (window buffer 0) l)) (take-append-drop last rest)
    ∙ so.same)

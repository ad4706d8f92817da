-- The register after bytes is that after the same bytes with the first of them sent to five places behind it.
use Rattle.std.proofs.Common.{◌≡◌, ℕ, zero, suc, ◌+◌, ◌-◌, ◌<◌, ◌≤◌, List, [], ◌∷◌, ◌++◌, length, get_or, take, drop, set, map, subst, length-set, length-append, length-drop, drop-drop, drop-cons, add-one, refl, sym, ap, ap₂, ◌∙◌, arith}
use Rattle.std.proofs.lemmas.Nat.{xor_comm, xor_lt}
use Rattle.std.proofs.lemmas.List.{get_or-drop, get_or-take, drop-append-le, drop-set-add, drop-take, length-take-le, take_more_set}
use Rattle.std.proofs.lemmas.List.FromFn.{get_or-map-range_with_len}
use Rattle.std.specs.Int.Bits.{bit_xor, xor_assoc, xor_self, xor_zero_r}
use Rattle.std.specs.Fn.{iterate}
use Rattle.std.specs.List.{range_with_len}
use Rattle.recon_crc.specs.Checksum.{halved_step, eight_steps, register_after}
use Rattle.recon_crc.proofs.Slicing.{eight_steps-xor, register_after-xor}
use Rattle.recon_crc.specs.ChecksumLaws.{register_after_byte}
use Rattle.recon_lanes.specs.Folded.{Folds, folded, laid, window}

-- a register after so many bytes of zero
abbrev later : ℕ → ℕ → ℕ
later n x = iterate eight_steps n x

later-xor : (n x y : ℕ) → later n (bit_xor x y) ≡ bit_xor (later n x) (later n y)
later-xor zero x y = refl
later-xor (suc n) x y = ap (later n) (eight_steps-xor x y) ∙ later-xor n (eight_steps x) (eight_steps y)

later-both : (m n x : ℕ) → later n (later m x) ≡ later (n + m) x
later-both zero n x = let same : n ≡ n + 0 = omega arith in ap (λ k. later k x) same
later-both (suc m) n x = let same : suc (n + m) ≡ n + suc m = omega arith in later-both m n (eight_steps x) ∙ ap (λ k. later k x) same

-- what a byte sends to the five places
abbrev sent : ℕ → ℕ
sent x = bit_xor (bit_xor (bit_xor (bit_xor (later 288 x) (later 108 x)) (later 78 x)) (later 28 x)) x

-- by computing, at each byte
sent_each : map (iterate eight_steps 418) (range_with_len 0 256) ≡ map sent (range_with_len 0 256)
unfolding eight_steps halved_step
sent_each = refl

sent_all : (x : ℕ) → x < 256 → later 418 x ≡ sent x
sent_all x byte =
    sym (get_or-map-range_with_len (iterate eight_steps 418) 0 256 x x 0 byte (omega arith))
    ∙ ap (λ l. get_or l x 0) sent_each
    ∙ get_or-map-range_with_len sent 0 256 x x 0 byte (omega arith)

later-none : (n : ℕ) → later n 0 ≡ 0
later-none n =
    let twice : later n (bit_xor 1 1) ≡ bit_xor (later n 1) (later n 1) = later-xor n 1 1 in
    ap (later n) (sym (xor_self 1)) ∙ twice ∙ xor_self (later n 1)

later-sum : (m n k x : ℕ) → n + m ≡ k → later k x ≡ later n (later m x)
later-sum m n k x sum = ap (λ j. later j x) (sym sum) ∙ sym (later-both m n x)

later-sent : (n x : ℕ) → later n (sent x) ≡ bit_xor (bit_xor (bit_xor (bit_xor (later n (later 288 x)) (later n (later 108 x))) (later n (later 78 x))) (later n (later 28 x))) (later n x)
later-sent n x =
    later-xor n (bit_xor (bit_xor (bit_xor (later 288 x) (later 108 x)) (later 78 x)) (later 28 x)) x
    ∙ ap (λ z. bit_xor z (later n x)) (later-xor n (bit_xor (bit_xor (later 288 x) (later 108 x)) (later 78 x)) (later 28 x)
    ∙ ap (λ z. bit_xor z (later n (later 28 x))) (later-xor n (bit_xor (later 288 x) (later 108 x)) (later 78 x)
    ∙ ap (λ z. bit_xor z (later n (later 78 x))) (later-xor n (later 288 x) (later 108 x))))

-- the register after bytes, from 0
abbrev after : List ℕ → ℕ
after s = register_after 0 s

-- the first byte goes through those behind it
after-first : (x : ℕ) (s : List ℕ) → after (x ∷ s) ≡ bit_xor (later (suc (length s)) x) (after s)
after-first x s =
    register_after_byte 0 x s
    ∙ ap (λ z. register_after z s) (sym (xor_zero_r (eight_steps x)))
    ∙ register_after-xor (eight_steps x) 0 s

-- the first bytes of a list, and zeros behind its end
padded : ℕ → List ℕ → List ℕ
padded zero q = []
padded (suc m) q = get_or q 0 0 ∷ padded m (drop 1 q)

length-padded : (m : ℕ) (q : List ℕ) → length (padded m q) ≡ m
unfolding padded
length-padded zero q = refl
length-padded (suc m) q = ap suc (length-padded m (drop 1 q))

abbrev part : ℕ → List ℕ → ℕ
part m q = after (padded m q)

part-first : (m : ℕ) (q : List ℕ) → part (suc m) q ≡ bit_xor (later (suc m) (get_or q 0 0)) (part m (drop 1 q))
unfolding padded
part-first m q =
    after-first (get_or q 0 0) (padded m (drop 1 q))
    ∙ ap (λ n. bit_xor (later (suc n) (get_or q 0 0)) (part m (drop 1 q))) (length-padded m (drop 1 q))

-- a byte more at the end of a list, where zeros would follow
part-more : (m r : ℕ) (q : List ℕ) (x : ℕ) → m ≡ length q + r → 0 < r → part m (q ++ x ∷ []) ≡ bit_xor (later r x) (part m q)
part-more zero r q x long room = absurd (omega arith)
part-more (suc m) r [] x long room =
    let same : suc m ≡ r = omega arith in
    part-first m (x ∷ [])
    ∙ ap (λ n. bit_xor (later n x) (part m [])) same
    ∙ sym (ap (bit_xor (later r x)) (part-first m [] ∙ ap (λ z. bit_xor z (part m [])) (later-none (suc m))))
part-more (suc m) r (a ∷ q) x long room =
    part-first m (a ∷ q ++ x ∷ [])
    ∙ ap (bit_xor (later (suc m) a)) (part-more m r q x (omega arith) room)
    ∙ sym (xor_assoc (later (suc m) a) (later r x) (part m q))
    ∙ ap (λ z. bit_xor z (part m q)) (xor_comm (later (suc m) a) (later r x))
    ∙ xor_assoc (later r x) (later (suc m) a) (part m q)
    ∙ ap (bit_xor (later r x)) (sym (part-first m (a ∷ q)))

shuffle : (a b c d : ℕ) → bit_xor (bit_xor a b) (bit_xor c d) ≡ bit_xor (bit_xor a c) (bit_xor b d)
shuffle a b c d =
    xor_assoc a b (bit_xor c d)
    ∙ ap (bit_xor a) (sym (xor_assoc b c d) ∙ ap (λ z. bit_xor z d) (xor_comm b c) ∙ xor_assoc c b d)
    ∙ sym (xor_assoc a c (bit_xor b d))

abbrev pub six : ℕ → ℕ → ℕ → ℕ → ℕ → ℕ → ℕ
six a b c d e f = bit_xor (bit_xor (bit_xor (bit_xor (bit_xor a b) c) d) e) f

six-both : (a b c d e f g h i j k l : ℕ) → bit_xor (six a b c d e f) (six g h i j k l)
    ≡ six (bit_xor a g) (bit_xor b h) (bit_xor c i) (bit_xor d j) (bit_xor e k) (bit_xor f l)
six-both a b c d e f g h i j k l =
    shuffle (bit_xor (bit_xor (bit_xor (bit_xor a b) c) d) e) f (bit_xor (bit_xor (bit_xor (bit_xor g h) i) j) k) l
    ∙ ap (λ z. bit_xor z (bit_xor f l)) (shuffle (bit_xor (bit_xor (bit_xor a b) c) d) e (bit_xor (bit_xor (bit_xor g h) i) j) k
    ∙ ap (λ z. bit_xor z (bit_xor e k)) (shuffle (bit_xor (bit_xor a b) c) d (bit_xor (bit_xor g h) i) j
    ∙ ap (λ z. bit_xor z (bit_xor d j)) (shuffle (bit_xor a b) c (bit_xor g h) i
    ∙ ap (λ z. bit_xor z (bit_xor c i)) (shuffle a b g h))))

later-six : (n a b c d e f : ℕ) → later n (six a b c d e f) ≡ six (later n a) (later n b) (later n c) (later n d) (later n e) (later n f)
later-six n a b c d e f =
    later-xor n (bit_xor (bit_xor (bit_xor (bit_xor a b) c) d) e) f
    ∙ ap (λ z. bit_xor z (later n f)) (later-xor n (bit_xor (bit_xor (bit_xor a b) c) d) e
    ∙ ap (λ z. bit_xor z (later n e)) (later-xor n (bit_xor (bit_xor a b) c) d
    ∙ ap (λ z. bit_xor z (later n d)) (later-xor n (bit_xor a b) c
    ∙ ap (λ z. bit_xor z (later n c)) (later-xor n a b))))

pub length-laid : (before bytes : List ℕ) → length (laid before bytes) ≡ length bytes
unfolding laid
length-laid before [] = refl
length-laid before (byte ∷ bytes) = ap suc (length-laid (drop 1 before) bytes)

-- the bytes and what is sent to them, each apart
abbrev apart : List ℕ → List ℕ → ℕ
apart before bytes =
    let m = length bytes in
    six (after bytes) (part m (drop 288 before)) (part m (drop 108 before)) (part m (drop 78 before)) (part m (drop 28 before)) (part m (drop 0 before))

one-past : (k : ℕ) (before : List ℕ) → drop 1 (drop k before) ≡ drop k (drop 1 before)
one-past k before = drop-drop 1 k before ∙ ap (λ n. drop n before) (omega arith) ∙ sym (drop-drop k 1 before)

part-next : (k m : ℕ) (before : List ℕ) → part (suc m) (drop k before) ≡ bit_xor (later (suc m) (get_or before k 0)) (part m (drop k (drop 1 before)))
part-next k m before =
    part-first m (drop k before)
    ∙ ap₂ (λ x q. bit_xor (later (suc m) x) (part m q)) (get_or-drop k before 0 0 ∙ ap (λ n. get_or before n 0) (omega arith)) (one-past k before)

later-folded : (n : ℕ) (before : List ℕ) (byte : ℕ) → later n (folded before byte) ≡ six (later n byte) (later n (get_or before 288 0)) (later n (get_or before 108 0)) (later n (get_or before 78 0)) (later n (get_or before 28 0)) (later n (get_or before 0 0))
unfolding folded
later-folded n before byte = later-six n byte (get_or before 288 0) (get_or before 108 0) (get_or before 78 0) (get_or before 28 0) (get_or before 0 0)

after-laid : (before bytes : List ℕ) → after (laid before bytes) ≡ apart before bytes
unfolding laid padded register_after
after-laid before [] = refl
after-laid before (byte ∷ bytes) =
    let m = length bytes in
    after-first (folded before byte) (laid (drop 1 before) bytes)
    ∙ ap₂ (λ n z. bit_xor (later (suc n) (folded before byte)) z) (length-laid (drop 1 before) bytes) (after-laid (drop 1 before) bytes)
    ∙ ap (λ z. bit_xor z (apart (drop 1 before) bytes)) (later-folded (suc m) before byte)
    ∙ six-both (later (suc m) byte) (later (suc m) (get_or before 288 0)) (later (suc m) (get_or before 108 0)) (later (suc m) (get_or before 78 0)) (later (suc m) (get_or before 28 0)) (later (suc m) (get_or before 0 0))
    (after bytes) (part m (drop 288 (drop 1 before))) (part m (drop 108 (drop 1 before))) (part m (drop 78 (drop 1 before))) (part m (drop 28 (drop 1 before))) (part m (drop 0 (drop 1 before)))
    ∙ sym (λ i. six (after-first byte bytes i) (part-next 288 m before i) (part-next 108 m before i) (part-next 78 m before i) (part-next 28 m before i) (part-next 0 m before i))

-- a byte more before the bytes: it goes through them from the place behind them where it would stand
part-sent : (k m : ℕ) (p : List ℕ) (x : ℕ) → length p ≡ 417 → k ≤ 417 → 418 ≤ m → part m (drop k (p ++ x ∷ [])) ≡ bit_xor (later (m - 417) (later k x)) (part m (drop k p))
part-sent k m p x long inside room =
    ap (part m) (drop-append-le k p (x ∷ []) (omega arith))
    ∙ part-more m (m - 417 + k) (drop k p) x (omega (arith, length-drop k p)) (omega arith)
    ∙ ap (λ z. bit_xor z (part m (drop k p))) (later-sum k (m - 417) (m - 417 + k) x refl)

-- the first byte, sent behind
first-sent : (p bytes : List ℕ) (x : ℕ) → length p ≡ 417 → 418 ≤ length bytes → x < 256
    → after (laid (p ++ x ∷ []) bytes) ≡ bit_xor (later (suc (length bytes)) x) (after (laid p bytes))
first-sent p bytes x long room byte =
    let m = length bytes in
    let n = m - 417 in
    after-laid (p ++ x ∷ []) bytes
    ∙ (λ i. six (after bytes) (part-sent 288 m p x long (omega arith) room i) (part-sent 108 m p x long (omega arith) room i) (part-sent 78 m p x long (omega arith) room i) (part-sent 28 m p x long (omega arith) room i) (part-sent 0 m p x long (omega arith) room i))
    ∙ sym (six-both 0 (later n (later 288 x)) (later n (later 108 x)) (later n (later 78 x)) (later n (later 28 x)) (later n (later 0 x))
    (after bytes) (part m (drop 288 p)) (part m (drop 108 p)) (part m (drop 78 p)) (part m (drop 28 p)) (part m (drop 0 p)))
    ∙ ap₂ bit_xor (sym (later-sent n x) ∙ ap (later n) (sym (sent_all x byte)) ∙ sym (later-sum 418 n (suc m) x (omega arith))) (sym (after-laid p bytes))

first-laid : (before bytes : List ℕ) (byte : ℕ) → length before ≡ 418 → 418 ≤ length bytes → folded before byte < 256
    → after (laid (drop 1 before ++ folded before byte ∷ []) bytes) ≡ after (laid before (byte ∷ bytes))
unfolding laid
first-laid before bytes byte long room fits =
    first-sent (drop 1 before) bytes (folded before byte) (omega (arith, length-drop 1 before)) room fits
    ∙ ap (λ n. bit_xor (later (suc n) (folded before byte)) (after (laid (drop 1 before) bytes))) (sym (length-laid (drop 1 before) bytes))
    ∙ sym (after-first (folded before byte) (laid (drop 1 before) bytes))

-- the window a byte further on
window-next : (buffer : List ℕ) (i x : ℕ) → i + 418 < length buffer → window (set buffer (418 + i) x) (i + 1) ≡ drop 1 (window buffer i) ++ x ∷ []
window-next buffer i x inside =
    let past : drop (i + 1) (set buffer (418 + i) x) ≡ set (drop (i + 1) buffer) 417 x =
    ap (λ n. drop (i + 1) (set buffer n x)) (omega arith) ∙ drop-set-add (i + 1) buffer 417 x in
    ap (take 418) past
    ∙ take_more_set (drop (i + 1) buffer) 417 x (omega (arith, length-drop (i + 1) buffer))
    ∙ ap (λ l. l ++ x ∷ []) (sym (drop-take 1 417 (drop i buffer) ∙ ap (take 417) (drop-drop 1 i buffer)))

-- what the fold of a byte is, by the places of what stands before
pub folded-of : (before : List ℕ) (i byte : ℕ) → folded (drop i before) byte
    ≡ six byte (get_or before (288 + i) 0) (get_or before (108 + i) 0) (get_or before (78 + i) 0) (get_or before (28 + i) 0) (get_or before i 0)
unfolding folded
folded-of before i byte = λ j. six byte (there 288 j) (there 108 j) (there 78 j) (there 28 j) (here j)
  where
    there : (k : ℕ) → get_or (drop i before) k 0 ≡ get_or before (k + i) 0
    there k = let same : i + k ≡ k + i = omega arith in get_or-drop i before k 0 ∙ ap (λ n. get_or before n 0) same

    here : get_or (drop i before) 0 0 ≡ get_or before i 0
    here = let same : 0 + i ≡ i = omega arith in there 0 ∙ ap (λ n. get_or before n 0) same

-- what the fold of the next byte is, by the places of the buffer
pub folded-there : (buffer : List ℕ) (i byte : ℕ) → folded (window buffer i) byte
    ≡ six byte (get_or buffer (288 + i) 0) (get_or buffer (108 + i) 0) (get_or buffer (78 + i) 0) (get_or buffer (28 + i) 0) (get_or buffer i 0)
unfolding folded
folded-there buffer i byte =
    λ j. six byte (there 288 (omega arith) j) (there 108 (omega arith) j) (there 78 (omega arith) j) (there 28 (omega arith) j) (here j)
  where
    there : (k : ℕ) → k < 418 → get_or (window buffer i) k 0 ≡ get_or buffer (k + i) 0
    there k low = let same : i + k ≡ k + i = omega arith in get_or-take 418 (drop i buffer) k 0 low ∙ get_or-drop i buffer k 0 ∙ ap (λ n. get_or buffer n 0) same

    here : get_or (window buffer i) 0 0 ≡ get_or buffer i 0
    here = let same : 0 + i ≡ i = omega arith in there 0 (omega arith) ∙ ap (λ n. get_or buffer n 0) same

pub folds_none : (buffer bytes : List ℕ) → ((place : ℕ) → get_or buffer place 0 < 256) → Folds buffer buffer bytes 0
folds_none buffer bytes fits = record { long = refl; fits = fits; same = λ rest room. refl }

six-fits : (a b c d e f : ℕ) → a < 256 → b < 256 → c < 256 → d < 256 → e < 256 → f < 256 → six a b c d e f < 256
six-fits a b c d e f p q r s t u =
    xor_lt 8 (bit_xor (bit_xor (bit_xor (bit_xor a b) c) d) e) f (xor_lt 8 (bit_xor (bit_xor (bit_xor a b) c) d) e (xor_lt 8 (bit_xor (bit_xor a b) c) d (xor_lt 8 (bit_xor a b) c (xor_lt 8 a b p q) r) s) t) u

set-fits : (l : List ℕ) (i x : ℕ) → ((place : ℕ) → get_or l place 0 < 256) → x < 256 → (place : ℕ) → get_or (set l i x) place 0 < 256
set-fits [] i x fits byte place = fits place
set-fits (a ∷ l) zero x fits byte zero = byte
set-fits (a ∷ l) zero x fits byte (suc place) = fits (suc place)
set-fits (a ∷ l) (suc i) x fits byte zero = fits 0
set-fits (a ∷ l) (suc i) x fits byte (suc place) = set-fits l i x (λ k. fits (suc k)) byte place

pub folds_more : (old buffer bytes : List ℕ) (i : ℕ) → Folds old buffer bytes i → i < length bytes → length bytes + 418 ≤ length buffer
    → ((place : ℕ) → get_or bytes place 0 < 256)
    → Folds old (set buffer (418 + i) (six (get_or bytes i 0) (get_or buffer (288 + i) 0) (get_or buffer (108 + i) 0) (get_or buffer (78 + i) 0) (get_or buffer (28 + i) 0) (get_or buffer i 0))) bytes (i + 1)
folds_more old buffer bytes i so inside room are_bytes =
    let byte : ℕ = get_or bytes i 0 in
    let x : ℕ = six byte (get_or buffer (288 + i) 0) (get_or buffer (108 + i) 0) (get_or buffer (78 + i) 0) (get_or buffer (28 + i) 0) (get_or buffer i 0) in
    let there : x ≡ folded (window buffer i) byte = sym (folded-there buffer i byte) in
    let small : x < 256 = six-fits byte _ _ _ _ _ (are_bytes i) (so.fits (288 + i)) (so.fits (108 + i)) (so.fits (78 + i)) (so.fits (28 + i)) (so.fits i) in
    let next : drop i bytes ≡ byte ∷ drop (i + 1) bytes = drop-cons bytes i 0 inside ∙ ap (λ n. byte ∷ drop n bytes) (sym (add-one i)) in
    record {
      long = length-set buffer (418 + i) x ∙ so.long;
      fits = set-fits buffer (418 + i) x so.fits small;
      same = λ rest enough.
          ap (λ w. after (laid w (drop (i + 1) bytes ++ rest))) (window-next buffer i x (omega arith) ∙ ap (λ z. drop 1 (window buffer i) ++ z ∷ []) there)
          ∙ first-laid (window buffer i) (drop (i + 1) bytes ++ rest) byte (length-take-le 418 (drop i buffer) (omega (arith, length-drop i buffer)))
          (omega (arith, length-append (drop (i + 1) bytes) rest)) (subst (λ z. z < 256) there small)
          ∙ ap (λ l. after (laid (window buffer i) (l ++ rest))) (sym next)
          ∙ so.same rest enough;
    }

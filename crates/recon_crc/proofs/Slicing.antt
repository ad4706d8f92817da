-- The register is linear under xor, so the bytes of a run can go in apart.
use Rattle.std.proofs.Common.{◌≡◌, ℕ, zero, suc, ◌+◌, ◌-◌, ◌*◌, ◌/◌, ◌%◌, ◌^◌, ◌<◌, ◌≤◌, ◌==◌, List, [], ◌∷◌, length, get_or, take, drop, length-drop, drop-drop, add-zero, add-suc, refl, sym, ap, ap₂, ◌∙◌, cond, arith}
use Rattle.std.proofs.lemmas.Nat.{xor_comm}
use Rattle.std.specs.Int.Bits.{bit_xor, xor_assoc, xor_self, xor_zero_r, xor_shr, xor_mod, xor_shifted}
use Rattle.std.specs.Fn.{iterate}
use Rattle.std.proofs.lemmas.List.{take_all, take-append-drop}
use Rattle.recon_crc.specs.ChecksumLaws.{register_after_joined, register_after_place}
use Rattle.recon_crc.specs.Checksum.{halved_step, eight_steps, register_after}

-- a step, from the half and the lowest bit
abbrev step_from : ℕ → ℕ → ℕ
step_from half low = cond (low == 1) (bit_xor half 0x82F63B78) half

-- xor with one number twice cancels
xor_twice : (a b p : ℕ) → bit_xor a b ≡ bit_xor (bit_xor a p) (bit_xor b p)
xor_twice a b p =
    ap (bit_xor a) (sym (ap (bit_xor b) (xor_self p) ∙ xor_zero_r b) ∙ sym (xor_assoc b p p) ∙ xor_comm (bit_xor b p) p)
    ∙ sym (xor_assoc a p (bit_xor b p))

xor_left : (a b p : ℕ) → bit_xor (bit_xor a b) p ≡ bit_xor (bit_xor a p) b
xor_left a b p = xor_assoc a b p ∙ ap (bit_xor a) (xor_comm b p) ∙ sym (xor_assoc a p b)

step_from-xor : (a b d e : ℕ) → d < 2 → e < 2 → step_from (bit_xor a b) (bit_xor d e) ≡ bit_xor (step_from a d) (step_from b e)
step_from-xor a b zero zero p q = refl
step_from-xor a b zero (suc zero) p q = xor_assoc a b 0x82F63B78
step_from-xor a b zero (suc (suc e)) p q = absurd (omega arith)
step_from-xor a b (suc zero) zero p q = xor_left a b 0x82F63B78
step_from-xor a b (suc zero) (suc zero) p q = xor_twice a b 0x82F63B78
step_from-xor a b (suc zero) (suc (suc e)) p q = absurd (omega arith)
step_from-xor a b (suc (suc d)) e p q = absurd (omega arith)

halved_step-xor : (x y : ℕ) → halved_step (bit_xor x y) ≡ bit_xor (halved_step x) (halved_step y)
unfolding halved_step
halved_step-xor x y =
    ap₂ step_from (xor_shr x y 1) (xor_mod x y 1)
    ∙ step_from-xor (x / 2) (y / 2) (x % 2) (y % 2) (omega arith) (omega arith)

-- eight steps are linear
pub eight_steps-xor : (x y : ℕ) → eight_steps (bit_xor x y) ≡ bit_xor (eight_steps x) (eight_steps y)
unfolding eight_steps
eight_steps-xor x y = simp halved_step-xor

even_step : (half x : ℕ) → x ≡ half * 2 → halved_step x ≡ half
unfolding halved_step
even_step half x twice =
    let low : x % 2 ≡ 0 = omega arith in
    let high : x / 2 ≡ half = omega arith in
    ap₂ step_from high low

-- eight steps drop a byte of zeros
pub eight_steps-shifted : (x : ℕ) → eight_steps (x * 256) ≡ x
unfolding eight_steps
eight_steps-shifted x =
    ap (λ y. halved_step (halved_step (halved_step (halved_step (halved_step (halved_step (halved_step y))))))) (even_step (x * 128) (x * 256) (omega arith))
    ∙ ap (λ y. halved_step (halved_step (halved_step (halved_step (halved_step (halved_step y)))))) (even_step (x * 64) (x * 128) (omega arith))
    ∙ ap (λ y. halved_step (halved_step (halved_step (halved_step (halved_step y))))) (even_step (x * 32) (x * 64) (omega arith))
    ∙ ap (λ y. halved_step (halved_step (halved_step (halved_step y)))) (even_step (x * 16) (x * 32) (omega arith))
    ∙ ap (λ y. halved_step (halved_step (halved_step y))) (even_step (x * 8) (x * 16) (omega arith))
    ∙ ap (λ y. halved_step (halved_step y)) (even_step (x * 4) (x * 8) (omega arith))
    ∙ ap halved_step (even_step (x * 2) (x * 4) (omega arith))
    ∙ even_step x (x * 2) refl

-- a part of the register that is put in by xor goes through the bytes as if they were zeros
pub register_after-xor : (x y : ℕ) (s : List ℕ) → register_after (bit_xor x y) s ≡ bit_xor (iterate eight_steps (length s) x) (register_after y s)
unfolding register_after
register_after-xor x y [] = refl
register_after-xor x y (b ∷ s) =
    ap (λ z. register_after (eight_steps z) s) (xor_assoc x y b)
    ∙ ap (λ z. register_after z s) (eight_steps-xor x (bit_xor y b))
    ∙ register_after-xor (eight_steps x) (eight_steps (bit_xor y b)) s

-- the lowest byte apart
xor_byte : (r b : ℕ) → b < 256 → bit_xor r b ≡ bit_xor (r / 256 * 256) (bit_xor r b % 256)
xor_byte r b byte =
    let none : b / 256 ≡ 0 = omega arith in
    let high : bit_xor r b / 256 ≡ r / 256 = xor_shr r b 8 ∙ ap (bit_xor (r / 256)) none ∙ xor_zero_r (r / 256) in
    let low : bit_xor r b % 256 < 256 = omega arith in
    let whole : bit_xor r b ≡ r / 256 * 256 + bit_xor r b % 256 = omega arith in
    whole ∙ sym (xor_shifted (r / 256) 8 (bit_xor r b % 256) low)

-- one byte: the step by the table of 256 entries
pub eight_steps-byte : (r b : ℕ) → b < 256 → eight_steps (bit_xor r b) ≡ bit_xor (eight_steps (bit_xor r b % 256)) (r / 256)
eight_steps-byte r b byte =
    ap eight_steps (xor_byte r b byte)
    ∙ eight_steps-xor (r / 256 * 256) (bit_xor r b % 256)
    ∙ ap (λ z. bit_xor z (eight_steps (bit_xor r b % 256))) (eight_steps-shifted (r / 256))
    ∙ xor_comm (r / 256) (eight_steps (bit_xor r b % 256))

-- the first byte of a run goes in apart: its table's entry, and the run behind it from the register without its lowest byte
pub register_after-apart : (r b : ℕ) (s : List ℕ) → b < 256 → register_after r (b ∷ s) ≡ bit_xor (iterate eight_steps (suc (length s)) (bit_xor r b % 256)) (register_after (r / 256) s)
unfolding register_after
register_after-apart r b s byte =
    ap (λ z. register_after z s) (eight_steps-byte r b byte)
    ∙ register_after-xor (eight_steps (bit_xor r b % 256)) (r / 256) s

-- the same, where what the rest comes to is known
apart : (r b : ℕ) (s : List ℕ) (next rest : ℕ) → b < 256 → r / 256 ≡ next → register_after next s ≡ rest → register_after r (b ∷ s) ≡ bit_xor (iterate eight_steps (suc (length s)) (bit_xor r b % 256)) rest
apart r b s next rest byte shifted is =
    register_after-apart r b s byte
    ∙ ap (bit_xor (iterate eight_steps (suc (length s)) (bit_xor r b % 256))) (ap (λ z. register_after z s) shifted ∙ is)

-- a byte at its place, by the table of 256 entries
pub register_after-place : (r i : ℕ) (s : List ℕ) → i < length s → get_or s i 0 < 256 → register_after (bit_xor (eight_steps (bit_xor r (get_or s i 0) % 256)) (r / 256)) (drop (i + 1) s) ≡ register_after r (drop i s)
register_after-place r i s within byte =
    ap (λ z. register_after z (drop (i + 1) s)) (sym (eight_steps-byte r (get_or s i 0) byte))
    ∙ sym (register_after_place r i s within)

iterate-xor : (n x y : ℕ) → iterate eight_steps n (bit_xor x y) ≡ bit_xor (iterate eight_steps n x) (iterate eight_steps n y)
iterate-xor zero x y = refl
iterate-xor (suc n) x y = ap (iterate eight_steps n) (eight_steps-xor x y) ∙ iterate-xor n (eight_steps x) (eight_steps y)

iterate-add : (m n x : ℕ) → iterate eight_steps n (iterate eight_steps m x) ≡ iterate eight_steps (n + m) x
iterate-add zero n x = ap (λ k. iterate eight_steps k x) (sym (add-zero n))
iterate-add (suc m) n x = iterate-add m n (eight_steps x) ∙ ap (λ k. iterate eight_steps k x) (sym (add-suc n m))

four_of : (s : List ℕ) → length s ≡ 4 → s ≡ get_or s 0 0 ∷ get_or s 1 0 ∷ get_or s 2 0 ∷ get_or s 3 0 ∷ []
four_of [] four = absurd (omega arith)
four_of (a ∷ []) four = absurd (omega arith)
four_of (a ∷ b ∷ []) four = absurd (omega arith)
four_of (a ∷ b ∷ c ∷ []) four = absurd (omega arith)
four_of (a ∷ b ∷ c ∷ d ∷ []) four = refl
four_of (a ∷ b ∷ c ∷ d ∷ e ∷ s) four = absurd (omega arith)

in_order : (a b c d : ℕ) → bit_xor a (bit_xor b (bit_xor c (bit_xor d 0))) ≡ bit_xor (bit_xor (bit_xor a b) c) d
in_order a b c d = simp (xor_assoc, xor_zero_r)

-- four bytes: each goes in apart, with the byte of the register at its place
four_apart : (r a b c d : ℕ) → r < 2 ^ 32 → a < 256 → b < 256 → c < 256 → d < 256
    → register_after r (a ∷ b ∷ c ∷ d ∷ []) ≡
    bit_xor (bit_xor (bit_xor
    (iterate eight_steps 4 (bit_xor r a % 256))
    (iterate eight_steps 3 (bit_xor (r / 2 ^ 8) b % 256)))
    (iterate eight_steps 2 (bit_xor (r / 2 ^ 16) c % 256)))
    (iterate eight_steps 1 (bit_xor (r / 2 ^ 24) d % 256))
unfolding register_after
four_apart r a b c d fits ba bb bc bd =
    let second : r / 2 ^ 8 / 256 ≡ r / 2 ^ 16 = omega arith in
    let third : r / 2 ^ 16 / 256 ≡ r / 2 ^ 24 = omega arith in
    let fourth : r / 2 ^ 24 / 256 ≡ 0 = omega arith in
    apart r a (b ∷ c ∷ d ∷ []) (r / 2 ^ 8) _ ba refl
    (apart (r / 2 ^ 8) b (c ∷ d ∷ []) (r / 2 ^ 16) _ bb second
    (apart (r / 2 ^ 16) c (d ∷ []) (r / 2 ^ 24) _ bc third
    (apart (r / 2 ^ 24) d [] 0 0 bd fourth refl)))
    ∙ in_order (iterate eight_steps 4 (bit_xor r a % 256)) (iterate eight_steps 3 (bit_xor (r / 2 ^ 8) b % 256))
    (iterate eight_steps 2 (bit_xor (r / 2 ^ 16) c % 256)) (iterate eight_steps 1 (bit_xor (r / 2 ^ 24) d % 256))

spread : (n a b c d : ℕ) → iterate eight_steps n (bit_xor (bit_xor (bit_xor a b) c) d) ≡
    bit_xor (bit_xor (bit_xor (iterate eight_steps n a) (iterate eight_steps n b)) (iterate eight_steps n c)) (iterate eight_steps n d)
spread n a b c d =
    iterate-xor n (bit_xor (bit_xor a b) c) d
    ∙ ap (λ z. bit_xor z (iterate eight_steps n d)) (iterate-xor n (bit_xor a b) c
    ∙ ap (λ z. bit_xor z (iterate eight_steps n c)) (iterate-xor n a b))

longer : (m n k x : ℕ) → n + m ≡ k → iterate eight_steps n (iterate eight_steps m x) ≡ iterate eight_steps k x
longer m n k x sum = iterate-add m n x ∙ ap (λ j. iterate eight_steps j x) sum

-- the four, and then bytes of zero behind them
pub register_after-four : (r n : ℕ) (s : List ℕ) → r < 2 ^ 32 → length s ≡ 4 → ((i : ℕ) → get_or s i 0 < 256)
    → bit_xor (bit_xor (bit_xor
    (iterate eight_steps (n + 3 + 1) (bit_xor r (get_or s 0 0) % 256))
    (iterate eight_steps (n + 2 + 1) (bit_xor (r / 2 ^ 8) (get_or s 1 0) % 256)))
    (iterate eight_steps (n + 1 + 1) (bit_xor (r / 2 ^ 16) (get_or s 2 0) % 256)))
    (iterate eight_steps (n + 1) (bit_xor (r / 2 ^ 24) (get_or s 3 0) % 256))
    ≡ iterate eight_steps n (register_after r s)
register_after-four r n s fits four bytes =
    let first = bit_xor r (get_or s 0 0) % 256 in
    let second = bit_xor (r / 2 ^ 8) (get_or s 1 0) % 256 in
    let third = bit_xor (r / 2 ^ 16) (get_or s 2 0) % 256 in
    let fourth = bit_xor (r / 2 ^ 24) (get_or s 3 0) % 256 in
    sym (ap (λ t. iterate eight_steps n (register_after r t)) (four_of s four)
    ∙ ap (iterate eight_steps n) (four_apart r (get_or s 0 0) (get_or s 1 0) (get_or s 2 0) (get_or s 3 0) fits (bytes 0) (bytes 1) (bytes 2) (bytes 3))
    ∙ spread n (iterate eight_steps 4 first) (iterate eight_steps 3 second) (iterate eight_steps 2 third) (iterate eight_steps 1 fourth)
    ∙ (λ i. bit_xor (bit_xor (bit_xor
    (longer 4 n (n + 3 + 1) first (omega arith) i)
    (longer 3 n (n + 2 + 1) second (omega arith) i))
    (longer 2 n (n + 1 + 1) third (omega arith) i))
    (longer 1 n (n + 1) fourth refl i)))

-- the bytes of the first part go through those behind them as if they were zeros
split_at : (r n : ℕ) (s : List ℕ) → register_after r s ≡ bit_xor (iterate eight_steps (length s - n) (register_after r (take n s))) (register_after 0 (drop n s))
split_at r n s =
    ap (register_after r) (sym (take-append-drop n s))
    ∙ register_after_joined r (take n s) (drop n s)
    ∙ ap (λ z. register_after z (drop n s)) (sym (xor_zero_r (register_after r (take n s))))
    ∙ register_after-xor (register_after r (take n s)) 0 (drop n s)
    ∙ ap (λ k. bit_xor (iterate eight_steps k (register_after r (take n s))) (register_after 0 (drop n s))) (length-drop n s)

next_four : (r at behind : ℕ) (s : List ℕ) → length s ≡ at + 4 + behind → register_after r (drop at s) ≡
    bit_xor (iterate eight_steps behind (register_after r (take 4 (drop at s)))) (register_after 0 (drop (at + 4) s))
next_four r at behind s long =
    let left : length (drop at s) - 4 ≡ behind = omega (arith, length-drop at s) in
    let past : drop 4 (drop at s) ≡ drop (at + 4) s = drop-drop 4 at s in
    split_at r 4 (drop at s)
    ∙ ap₂ (λ k t. bit_xor (iterate eight_steps k (register_after r (take 4 (drop at s)))) (register_after 0 t)) left past

-- sixteen bytes: each four go in apart
pub register_after-sixteen : (r : ℕ) (s : List ℕ) → length s ≡ 16 →
    bit_xor (iterate eight_steps 12 (register_after r (take 4 s))) (bit_xor (bit_xor
    (iterate eight_steps 8 (register_after 0 (take 4 (drop 4 s))))
    (iterate eight_steps 4 (register_after 0 (take 4 (drop 8 s)))))
    (iterate eight_steps 0 (register_after 0 (take 4 (drop 12 s)))))
    ≡ register_after r s
register_after-sixteen r s long =
    let last : register_after 0 (take 4 (drop 12 s)) ≡ register_after 0 (drop 12 s) =
    ap (register_after 0) (take_all 4 (drop 12 s) (omega (arith, length-drop 12 s))) in
    sym (next_four r 0 12 s long
    ∙ ap (bit_xor (iterate eight_steps 12 (register_after r (take 4 s))))
    (next_four 0 4 8 s long
    ∙ ap (bit_xor (iterate eight_steps 8 (register_after 0 (take 4 (drop 4 s)))))
    (next_four 0 8 4 s long
    ∙ ap (bit_xor (iterate eight_steps 4 (register_after 0 (take 4 (drop 8 s))))) (sym last))
    ∙ sym (xor_assoc (iterate eight_steps 8 (register_after 0 (take 4 (drop 4 s)))) (iterate eight_steps 4 (register_after 0 (take 4 (drop 8 s)))) (register_after 0 (take 4 (drop 12 s))))))

-- the first n bytes go in before the rest
pub register_after-first : (r next n : ℕ) (s : List ℕ) → n ≤ length s → next ≡ register_after r (take n s) → register_after next (take (length s - n) (drop n s)) ≡ register_after r s
register_after-first r next n s enough is =
    ap (register_after next) (take_all (length s - n) (drop n s) (omega (arith, length-drop n s)))
    ∙ ap (λ z. register_after z (drop n s)) is
    ∙ sym (register_after_joined r (take n s) (drop n s))
    ∙ ap (register_after r) (take-append-drop n s)

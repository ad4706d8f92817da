-- How the fields of a record are read back.
use Rattle.std.proofs.Common.{◌≡◌, ℕ, zero, suc, ◌+◌, ◌*◌, ◌/◌, ◌%◌, ◌^◌, ◌<◌, ◌≤◌, List, [], ◌∷◌, ◌++◌, length, take, drop, get_or, slice_index, refl, sym, ap, ◌∙◌, append_assoc, inl, inr, arith}
use Rattle.std.proofs.Math.Nat.{div-div-eq-div-mul, div-one, pow-succ'}
use Rattle.std.proofs.lemmas.Bool.{cases_lt}
use Rattle.std.proofs.lemmas.Grind.{common_steps}
use Rattle.std.proofs.lemmas.List.{take-append-drop, append-nil}
use Rattle.std.proofs.lemmas.List.Elements.{All-drop}
use Rattle.std.specs.Int.{byte_at, bytes_low_first}
use Rattle.byteorder.specs.Endian.{little_from, little_number, little_bytes}
use Rattle.byteorder.specs.Numbers.{little_from-cons, little_from-append, little_from-lt, little_number-reads_back}
use Rattle.recon_bytes.specs.Field.{field}
use Rattle.verdict.specs.declared.machine.Event.TheVariants.{Write, Settle, Fetch}
use Rattle.trace_reader.specs.Trace.{IsBytes, HasTag, IsSpelled, IsWriteLength, IsFetchLength, spelling_of}

byte_at-pow : (k x : ℕ) → byte_at k x ≡ x / 256 ^ k % 256
byte_at-pow zero x = ap (λ (y : ℕ). y % 256) (sym (div-one x))
byte_at-pow (suc k) x = refl

-- a byte below moves the places on
byte_at-above : (k b x : ℕ) → b < 256 → byte_at (suc k) (b + 256 * x) ≡ byte_at k x
byte_at-above k b x h =
    let moved : (b + 256 * x) / 256 ≡ x = omega arith in
    let shift : (b + 256 * x) / 256 ^ suc k ≡ (b + 256 * x) / 256 / 256 ^ k =
    ap (λ (p : ℕ). (b + 256 * x) / p) (pow-succ' 256 k) ∙ sym (div-div-eq-div-mul (b + 256 * x) 256 (256 ^ k)) in
    ap (λ (y : ℕ). y % 256) (shift ∙ ap (λ (y : ℕ). y / 256 ^ k) moved) ∙ sym (byte_at-pow k x)

low_first-above : (j n b x : ℕ) → b < 256 → bytes_low_first (suc j) n (b + 256 * x) ≡ bytes_low_first j n x
low_first-above j zero b x h = refl
low_first-above j (suc n) b x h = rw (byte_at-above j b x h, low_first-above (suc j) n b x h) refl

grouped : (a b c d : List ℕ) → a ++ (b ++ (c ++ d)) ≡ a ++ b ++ c ++ d
grouped a b c d = simp append_assoc

tail_bytes : (x : ℕ) (xs : List ℕ) → IsBytes (x ∷ xs) → IsBytes xs
tail_bytes x xs h = λ k d b. h (suc k) d (omega arith)

-- the bytes of the number that bytes make are these
pub little_bytes-number : (n : ℕ) (xs : List ℕ) → IsBytes xs → n ≤ length xs → little_bytes n (little_number n xs) ≡ take n xs
little_bytes-number zero xs h k = refl
little_bytes-number (suc n) [] h k = absurd (omega arith)
little_bytes-number (suc n) (x ∷ xs) h k =
    let moved = little_from-cons 0 n x xs in
    let rest = little_bytes-number n xs (tail_bytes x xs h) (omega arith) in
    let small : x < 256 = h 0 0 (omega arith) in
    let low : (x + 256 * little_from 0 n xs) % 256 ≡ x = omega arith in
    rw (moved, low_first-above 0 n x (little_from 0 n xs) small, rest, low) refl

any_byte : (xs : List ℕ) → IsBytes xs → (k : ℕ) → slice_index xs k < 256
any_byte xs h k = elim (cases_lt k (length xs)) [
  | inl inside ↦ h k 0 inside
  | inr outside ↦ let e : get_or xs k 0 ≡ 0 = grind (arith, common_steps) in rw e (omega arith)
]

-- a field is below its bound
pub field-lt : (n : ℕ) (xs : List ℕ) (at : ℕ) → IsBytes xs → field n xs at < 256 ^ n
unfolding field
field-lt n xs at h = little_from-lt 0 n (drop at xs) (any_byte (drop at xs) (All-drop (λ b. b < 256) at xs h))

-- a field is read from the bytes where it stands
pub field-append : (n : ℕ) (xs ys : List ℕ) (at : ℕ) → at + n ≤ length xs → field n (xs ++ ys) at ≡ field n xs at
unfolding field
field-append n xs ys at h =
    let e : drop at (xs ++ ys) ≡ drop at xs ++ ys = grind (arith, common_steps) in
    rw e (little_from-append n (drop at xs) ys (grind (arith, common_steps)))

pub bytes_of_field : (n : ℕ) (xs : List ℕ) (at : ℕ) → IsBytes xs → at + n ≤ length xs → little_bytes n (field n xs at) ≡ take n (drop at xs)
unfolding field
bytes_of_field n xs at h k =
    little_bytes-number n (drop at xs) (All-drop (λ b. b < 256) at xs h) (grind (arith, common_steps))

-- a field that was written reads back
pub field-written : (n x : ℕ) (front rest : List ℕ) (at : ℕ) → length front ≡ at → x < 256 ^ n
    → field n (front ++ (little_bytes n x ++ rest)) at ≡ x
unfolding field
field-written n x front rest at e h =
    let d : drop at (front ++ (little_bytes n x ++ rest)) ≡ little_bytes n x ++ rest = grind (arith, common_steps) in
    rw d (little_number-reads_back n x rest h)

-- a list is cut at two places
cut : (a b c : ℕ) (xs : List ℕ) → a + b ≡ c → drop a xs ≡ take b (drop a xs) ++ drop c xs
cut a b c xs e =
    let d : drop b (drop a xs) ≡ drop c xs = grind (arith, common_steps) in
    sym (take-append-drop b (drop a xs)) ∙ ap (λ (r : List ℕ). take b (drop a xs) ++ r) d

front_parts : (front : List ℕ) → length front ≡ 15
    → front ≡ take 1 front ++ take 2 (drop 1 front) ++ take 8 (drop 3 front) ++ take 4 (drop 11 front)
front_parts front e =
    let none : drop 15 front ≡ [] = grind (arith, common_steps) in
    let d : drop 11 front ≡ take 4 (drop 11 front) = cut 11 4 15 front (omega arith) ∙ ap (λ (r : List ℕ). take 4 (drop 11 front) ++ r) none ∙ append-nil (take 4 (drop 11 front)) in
    let c : drop 3 front ≡ take 8 (drop 3 front) ++ take 4 (drop 11 front) =
    cut 3 8 11 front (omega arith) ∙ ap (λ (r : List ℕ). take 8 (drop 3 front) ++ r) d in
    let b : drop 1 front ≡ take 2 (drop 1 front) ++ (take 8 (drop 3 front) ++ take 4 (drop 11 front)) =
    cut 1 2 3 front (omega arith) ∙ ap (λ (r : List ℕ). take 2 (drop 1 front) ++ r) c in
    sym (take-append-drop 1 front)
    ∙ ap (λ (r : List ℕ). take 1 front ++ r) b
    ∙ grouped (take 1 front) (take 2 (drop 1 front)) (take 8 (drop 3 front)) (take 4 (drop 11 front))

first_tag : (tag : ℕ) (front : List ℕ) → HasTag tag front → tag ∷ [] ≡ take 1 front
first_tag tag [] h = absurd h
first_tag tag (x ∷ xs) h = ap (λ (b : ℕ). b ∷ []) (sym h)

joined : (a b c d x y z w : List ℕ) → a ≡ x → b ≡ y → c ≡ z → d ≡ w → a ++ b ++ c ++ d ≡ x ++ y ++ z ++ w
joined a b c d x y z w p q r s = cc

-- the 15 bytes in front of a write's own are spelled by its numbers
pub write_front : (front : List ℕ) → length front ≡ 15 → IsBytes front → HasTag 1 front
    → 1 ∷ little_bytes 2 (field 2 front 1) ++ little_bytes 8 (field 8 front 3) ++ little_bytes 4 (field 4 front 11) ≡ front
write_front front e h tag =
    joined (1 ∷ []) (little_bytes 2 (field 2 front 1)) (little_bytes 8 (field 8 front 3)) (little_bytes 4 (field 4 front 11))
    (take 1 front) (take 2 (drop 1 front)) (take 8 (drop 3 front)) (take 4 (drop 11 front))
    (first_tag 1 front tag)
    (bytes_of_field 2 front 1 h (omega arith))
    (bytes_of_field 8 front 3 h (omega arith))
    (bytes_of_field 4 front 11 h (omega arith))
    ∙ sym (front_parts front e)

-- a write's record is these 15 bytes and its own
pub write_spelled : (front bytes : List ℕ) → length front ≡ 15 → IsBytes front → HasTag 1 front
    → length bytes ≡ field 4 front 11
    → spelling_of (Write (field 2 front 1) (field 8 front 3) bytes) ≡ front ++ bytes
unfolding spelling_of
write_spelled front bytes e h tag len =
    ap (λ (n : ℕ). 1 ∷ little_bytes 2 (field 2 front 1) ++ little_bytes 8 (field 8 front 3) ++ little_bytes 4 n ++ bytes) len
    ∙ ap (λ (r : List ℕ). r ++ bytes) (write_front front e h tag)

-- and it is one that a trace may hold
pub write_lawful : (front bytes : List ℕ) → IsBytes front → IsWriteLength (length bytes) → IsBytes bytes
    → IsSpelled (Write (field 2 front 1) (field 8 front 3) bytes)
write_lawful front bytes h len b =
    let submitter = field-lt 2 front 1 h in
    let at = field-lt 8 front 3 h in
    (omega arith, omega arith, len, b)

-- what the fields of a spelled write read
pub record Fields (submitter at : ℕ) (bytes left : List ℕ) (rest : List ℕ) : Type 0 where
  pub front : List ℕ
  pub size : length front ≡ 15
  pub parts : left ≡ front ++ (bytes ++ rest)
  pub tag : HasTag 1 left
  pub submitter_is : field 2 left 1 ≡ submitter
  pub at_is : field 8 left 3 ≡ at
  pub len_is : field 4 left 11 ≡ length bytes

pub spelled_fields : (submitter at : ℕ) (bytes rest : List ℕ) → IsSpelled (Write submitter at bytes)
    → Fields submitter at bytes (spelling_of (Write submitter at bytes) ++ rest) rest
unfolding spelling_of
spelled_fields submitter at bytes rest h =
    let len = h.2.1 in
    record {
      front = 1 ∷ little_bytes 2 submitter ++ little_bytes 8 at ++ little_bytes 4 (length bytes);
      size = refl;
      parts = refl;
      tag = refl;
      submitter_is = field-written 2 submitter (1 ∷ []) (little_bytes 8 at ++ (little_bytes 4 (length bytes) ++ (bytes ++ rest))) 1 refl (let s = h.0 in omega arith);
      at_is = field-written 8 at (1 ∷ little_bytes 2 submitter) (little_bytes 4 (length bytes) ++ (bytes ++ rest)) 3 refl (let s = h.1 in omega arith);
      len_is = field-written 4 (length bytes) (1 ∷ little_bytes 2 submitter ++ little_bytes 8 at) (bytes ++ rest) 11 refl (omega arith);
    }

-- a settle's record is its tag
pub settle_spelled : spelling_of Settle ≡ 2 ∷ []
unfolding spelling_of
settle_spelled = refl

fetch_parts : (front : List ℕ) → length front ≡ 13 → front ≡ take 1 front ++ take 8 (drop 1 front) ++ take 4 (drop 9 front)
fetch_parts front e =
    let none : drop 13 front ≡ [] = grind (arith, common_steps) in
    let c : drop 9 front ≡ take 4 (drop 9 front) = cut 9 4 13 front (omega arith) ∙ ap (λ (r : List ℕ). take 4 (drop 9 front) ++ r) none ∙ append-nil (take 4 (drop 9 front)) in
    let b : drop 1 front ≡ take 8 (drop 1 front) ++ take 4 (drop 9 front) =
    cut 1 8 9 front (omega arith) ∙ ap (λ (r : List ℕ). take 8 (drop 1 front) ++ r) c in
    sym (take-append-drop 1 front)
    ∙ ap (λ (r : List ℕ). take 1 front ++ r) b
    ∙ sym (append_assoc (take 1 front) (take 8 (drop 1 front)) (take 4 (drop 9 front)))

joined_three : (a b c x y z : List ℕ) → a ≡ x → b ≡ y → c ≡ z → a ++ b ++ c ≡ x ++ y ++ z
joined_three a b c x y z p q r = cc

-- a fetch's record is these 13 bytes
pub fetch_spelled : (front : List ℕ) → length front ≡ 13 → IsBytes front → HasTag 3 front
    → spelling_of (Fetch (field 8 front 1) (field 4 front 9)) ≡ front
unfolding spelling_of
fetch_spelled front e h tag =
    joined_three (3 ∷ []) (little_bytes 8 (field 8 front 1)) (little_bytes 4 (field 4 front 9))
    (take 1 front) (take 8 (drop 1 front)) (take 4 (drop 9 front))
    (first_tag 3 front tag)
    (bytes_of_field 8 front 1 h (omega arith))
    (bytes_of_field 4 front 9 h (omega arith))
    ∙ sym (fetch_parts front e)

-- and it is one that a trace may hold
pub fetch_lawful : (front : List ℕ) → IsBytes front → IsFetchLength (field 4 front 9) → IsSpelled (Fetch (field 8 front 1) (field 4 front 9))
fetch_lawful front h len = let at = field-lt 8 front 1 h in (omega arith, len)

-- what the fields of a spelled fetch read
pub record FetchFields (at len : ℕ) (left rest : List ℕ) : Type 0 where
  pub tag : HasTag 3 left
  pub at_is : field 8 left 1 ≡ at
  pub len_is : field 4 left 9 ≡ len
  pub behind : drop 13 left ≡ rest
  pub long : 13 ≤ length left

pub spelled_fetch : (at len : ℕ) (rest : List ℕ) → IsSpelled (Fetch at len) → FetchFields at len (spelling_of (Fetch at len) ++ rest) rest
unfolding spelling_of
spelled_fetch at len rest h =
    let most = h.1.1 in
    record {
      tag = refl;
      at_is = field-written 8 at (3 ∷ []) (little_bytes 4 len ++ rest) 1 refl (let s = h.0 in omega arith);
      len_is = field-written 4 len (3 ∷ little_bytes 8 at) rest 9 refl (omega arith);
      behind = refl;
      long = omega arith;
    }

-- What the map of waiting writes holds at each offset, and what a buffer is with it laid over.
use Rattle.std.proofs.Common.{subst, ◌≡◌, ℕ, zero, suc, ◌+◌, ◌-◌, ◌<◌, ◌≤◌, ◌≢◌, ◌⊎◌, inl, inr, min, max, true, false, cond, ◌==◌, List, [], ◌∷◌, ◌++◌, length, take, drop, get_or, refl, sym, ap, ◌∙◌, arith}
use Rattle.std.specs.Option.{unwrap_or}
use Rattle.std.specs.Ordering.{nat_cmp}
use Rattle.std.specs.Prelude.{Some, IsSome}
use Rattle.std.specs.Cmp.{nat_cmp_total, unsigned_tied}
use Rattle.std.specs.FinMap.{FinMap, empty, get, insert, get-insert, get-empty}
use Rattle.std.proofs.lemmas.Bool.{cases_lt}
use Rattle.std.proofs.lemmas.List.{take_more, ext_get_or, length-take, length-drop, get_or-take, get_or-drop}
use Rattle.verdict.specs.declared.machine.HeldWrite.{HeldWrite}
use Rattle.verdict.specs.Image.{range, written, applied}
use Rattle.verdict.proofs.Images.{length-written, get-written_in, get-written_before, get-written_behind}
use Rattle.write_cache.specs.Cache.{with_bytes, with_writes, cache_of, overlaid, AllInside}

pub eqb-same : (n : ℕ) → (n == n) ≡ true
eqb-same n = grind arith

pub eqb-other : (m n : ℕ) → m ≢ n → (m == n) ≡ false
eqb-other m n h = grind arith

-- at the offset of an insertion, and at another
get-insert_same : (m : FinMap nat_cmp ℕ) (k v : ℕ) → get (insert m k v) k ≡ Some v
get-insert_same m k v = get-insert nat_cmp_total m k v k ∙ ap (λ b. cond b (Some v) (get m k)) (unsigned_tied k k ∙ eqb-same k)

get-insert_other : (m : FinMap nat_cmp ℕ) (k v q : ℕ) → q ≢ k → get (insert m k v) q ≡ get m q
get-insert_other m k v q h = get-insert nat_cmp_total m k v q ∙ ap (λ b. cond b (Some v) (get m q)) (unsigned_tied q k ∙ eqb-other q k h)

-- at an offset before or behind the bytes that were put, and at one of theirs
pub get-with_bytes_before : (m : FinMap nat_cmp ℕ) (at : ℕ) (bs : List ℕ) (q : ℕ) → q < at → get (with_bytes m at bs) q ≡ get m q
unfolding with_bytes
get-with_bytes_before m at [] q h = refl
get-with_bytes_before m at (b ∷ bs) q h =
    get-with_bytes_before (insert m at b) (at + 1) bs q (omega arith) ∙ get-insert_other m at b q (omega arith)

pub get-with_bytes_behind : (m : FinMap nat_cmp ℕ) (at : ℕ) (bs : List ℕ) (q : ℕ) → at + length bs ≤ q → get (with_bytes m at bs) q ≡ get m q
unfolding with_bytes
get-with_bytes_behind m at [] q h = refl
get-with_bytes_behind m at (b ∷ bs) q h =
    get-with_bytes_behind (insert m at b) (at + 1) bs q (omega arith) ∙ get-insert_other m at b q (omega arith)

pub get-with_bytes_at : (m : FinMap nat_cmp ℕ) (at : ℕ) (bs : List ℕ) (i : ℕ) → i < length bs → get (with_bytes m at bs) (at + i) ≡ Some (get_or bs i 0)
unfolding with_bytes
get-with_bytes_at m at [] i h = absurd (omega arith)
get-with_bytes_at m at (b ∷ bs) zero h =
    ap (get (with_bytes (insert m at b) (at + 1) bs)) (omega arith)
    ∙ get-with_bytes_before (insert m at b) (at + 1) bs at (omega arith) ∙ get-insert_same m at b
get-with_bytes_at m at (b ∷ bs) (suc i) h =
    ap (get (with_bytes (insert m at b) (at + 1) bs)) (omega arith)
    ∙ get-with_bytes_at (insert m at b) (at + 1) bs i (omega arith)

pub get-with_bytes_in : (m : FinMap nat_cmp ℕ) (at : ℕ) (bs : List ℕ) (q : ℕ) → at ≤ q → q < at + length bs → get (with_bytes m at bs) q ≡ Some (get_or bs (q - at) 0)
get-with_bytes_in m at bs q low high =
    ap (get (with_bytes m at bs)) (omega arith) ∙ get-with_bytes_at m at bs (q - at) (omega arith)

-- to put no bytes
pub with_bytes_none : (m : FinMap nat_cmp ℕ) (at : ℕ) (bs : List ℕ) → length bs ≡ 0 → m ≡ with_bytes m at bs
unfolding with_bytes
with_bytes_none m at [] h = refl
with_bytes_none m at (b ∷ bs) h = absurd (omega arith)

-- to put some bytes, and then those behind them
pub with_bytes-append : (m : FinMap nat_cmp ℕ) (at : ℕ) (xs ys : List ℕ) → with_bytes m at (xs ++ ys) ≡ with_bytes (with_bytes m at xs) (at + length xs) ys
unfolding with_bytes
with_bytes-append m at [] ys = ap (λ p. with_bytes m p ys) (omega arith)
with_bytes-append m at (x ∷ xs) ys =
    with_bytes-append (insert m at x) (at + 1) xs ys ∙ ap (λ p. with_bytes (with_bytes (insert m at x) (at + 1) xs) p ys) (omega arith)

-- to put one write more
with_writes-push : (m : FinMap nat_cmp ℕ) (ws : List HeldWrite) (w : HeldWrite) → with_writes m (ws ++ w ∷ []) ≡ with_bytes (with_writes m ws) w.at w.bytes
unfolding with_writes
with_writes-push m [] w = refl
with_writes-push m (v ∷ ws) w = with_writes-push (with_bytes m v.at v.bytes) ws w

pub cache_of-push : (ws : List HeldWrite) (w : HeldWrite) → cache_of (ws ++ w ∷ []) ≡ with_bytes (cache_of ws) w.at w.bytes
cache_of-push ws w = with_writes-push empty ws w

pub cache_of-none : cache_of [] ≡ empty
unfolding with_writes
cache_of-none = refl

-- a laid-over buffer: its length, and each of its bytes
pub length-overlaid : (m : FinMap nat_cmp ℕ) (at : ℕ) (xs : List ℕ) → length (overlaid m at xs) ≡ length xs
unfolding overlaid
length-overlaid m at [] = refl
length-overlaid m at (x ∷ xs) = ap suc (length-overlaid m (at + 1) xs)

pub get-overlaid : (m : FinMap nat_cmp ℕ) (at : ℕ) (xs : List ℕ) (i : ℕ) → i < length xs → get_or (overlaid m at xs) i 0 ≡ unwrap_or (get m (at + i)) (get_or xs i 0)
unfolding overlaid
get-overlaid m at [] i h = absurd (omega arith)
get-overlaid m at (x ∷ xs) zero h = ap (λ q. unwrap_or (get m q) x) (omega arith)
get-overlaid m at (x ∷ xs) (suc i) h =
    get-overlaid m (at + 1) xs i (omega arith) ∙ ap (λ q. unwrap_or (get m q) (get_or xs i 0)) (omega arith)

-- two buffers of one length that agree at each place are one
pub same_bytes : (xs ys : List ℕ) → length xs ≡ length ys → ((i : ℕ) → i < length xs → get_or xs i 0 ≡ get_or ys i 0) → xs ≡ ys
same_bytes xs ys = ext_get_or 0 xs ys

pub overlaid-empty : (at : ℕ) (xs : List ℕ) → overlaid empty at xs ≡ xs
overlaid-empty at xs = same_bytes _ _ (length-overlaid empty at xs) (λ i h.
    let k : i < length xs = omega (arith, length-overlaid empty at xs) in
    get-overlaid empty at xs i k ∙ ap (λ o. unwrap_or o (get_or xs i 0)) (get-empty nat_cmp (at + i)))

pub overlaid-nothing : (m : FinMap nat_cmp ℕ) (at : ℕ) (xs : List ℕ) → length xs ≡ 0 → xs ≡ overlaid m at xs
overlaid-nothing m at xs none = sym (same_bytes _ _ (length-overlaid m at xs) (λ i h. absurd (omega (arith, length-overlaid m at xs))))

-- a byte of a laid-over buffer after bytes were put: before them, behind them, and one of theirs
get-overlaid_put_before : (m : FinMap nat_cmp ℕ) (a : ℕ) (bs : List ℕ) (at : ℕ) (xs : List ℕ) (i : ℕ) → i < length xs → at + i < a → get_or (overlaid (with_bytes m a bs) at xs) i 0 ≡ get_or (overlaid m at xs) i 0
get-overlaid_put_before m a bs at xs i h low =
    get-overlaid (with_bytes m a bs) at xs i h
    ∙ ap (λ o. unwrap_or o (get_or xs i 0)) (get-with_bytes_before m a bs (at + i) low)
    ∙ sym (get-overlaid m at xs i h)

get-overlaid_put_behind : (m : FinMap nat_cmp ℕ) (a : ℕ) (bs : List ℕ) (at : ℕ) (xs : List ℕ) (i : ℕ) → i < length xs → a + length bs ≤ at + i → get_or (overlaid (with_bytes m a bs) at xs) i 0 ≡ get_or (overlaid m at xs) i 0
get-overlaid_put_behind m a bs at xs i h high =
    get-overlaid (with_bytes m a bs) at xs i h
    ∙ ap (λ o. unwrap_or o (get_or xs i 0)) (get-with_bytes_behind m a bs (at + i) high)
    ∙ sym (get-overlaid m at xs i h)

get-overlaid_put_in : (m : FinMap nat_cmp ℕ) (a : ℕ) (bs : List ℕ) (at : ℕ) (xs : List ℕ) (i : ℕ) → i < length xs → a ≤ at + i → at + i < a + length bs → get_or (overlaid (with_bytes m a bs) at xs) i 0 ≡ get_or bs (at + i - a) 0
get-overlaid_put_in m a bs at xs i h low high =
    get-overlaid (with_bytes m a bs) at xs i h
    ∙ ap (λ o. unwrap_or o (get_or xs i 0)) (get-with_bytes_in m a bs (at + i) low high)

-- to lay a map over after bytes were put is to lay the old map over, and then these bytes
pub overlaid-with_bytes : (m : FinMap nat_cmp ℕ) (a : ℕ) (bs : List ℕ) (at : ℕ) (xs : List ℕ) → overlaid (with_bytes m a bs) at xs ≡ overlaid (with_bytes empty a bs) at (overlaid m at xs)
overlaid-with_bytes m a bs at xs =
    let same : length (overlaid m at xs) ≡ length xs = length-overlaid m at xs in
    let left : length (overlaid (with_bytes m a bs) at xs) ≡ length xs = length-overlaid (with_bytes m a bs) at xs in
    let right : length (overlaid (with_bytes empty a bs) at (overlaid m at xs)) ≡ length xs = length-overlaid (with_bytes empty a bs) at (overlaid m at xs) ∙ same in
    let none : get_or (overlaid empty at (overlaid m at xs)) ≡ get_or (overlaid m at xs) = ap get_or (overlaid-empty at (overlaid m at xs)) in
    same_bytes _ _ (left ∙ sym right) (λ i h.
    let k : i < length xs = omega arith in
    let j : i < length (overlaid m at xs) = omega arith in
    elim (cases_lt (at + i) a) [
      | inr low ↦ elim (cases_lt (at + i) (a + length bs)) [
        | inr high ↦ get-overlaid_put_behind m a bs at xs i k high
            ∙ sym (get-overlaid_put_behind empty a bs at (overlaid m at xs) i j high ∙ ap (λ f. f i 0) none)
        | inl high ↦ get-overlaid_put_in m a bs at xs i k low high
            ∙ sym (get-overlaid_put_in empty a bs at (overlaid m at xs) i j low high)
      ]
      | inl low ↦ get-overlaid_put_before m a bs at xs i k low
          ∙ sym (get-overlaid_put_before empty a bs at (overlaid m at xs) i j low ∙ ap (λ f. f i 0) none)
    ])

pub length-range : (at n : ℕ) (xs : List ℕ) → length (range at n xs) ≡ min n (length xs - at)
length-range at n xs = length-take n (drop at xs) ∙ ap (min n) (length-drop at xs)

pub get-range : (at n : ℕ) (xs : List ℕ) (i : ℕ) → i < n → get_or (range at n xs) i 0 ≡ get_or xs (at + i) 0
get-range at n xs i h = get_or-take n (drop at xs) i 0 h ∙ get_or-drop at xs i 0

-- bytes that were put, laid over a buffer: the part that lies in the buffer is written there
pub overlaid-meets : (m : FinMap nat_cmp ℕ) (a : ℕ) (bs : List ℕ) (at : ℕ) (xs : List ℕ) (low high : ℕ) → a ≤ low → at ≤ low → low ≤ high → high ≤ a + length bs → high ≤ at + length xs → (low ≡ a) ⊎ (low ≡ at) → (high ≡ a + length bs) ⊎ (high ≡ at + length xs) → overlaid (with_bytes m a bs) at xs ≡ written (overlaid m at xs) (low - at) (range (low - a) (high - low) bs)
overlaid-meets m a bs at xs low high al tl lh hb hx begins ends =
    let part : List ℕ = range (low - a) (high - low) bs in
    let size : length part ≡ high - low = omega (arith, length-range (low - a) (high - low) bs) in
    let same : length (overlaid m at xs) ≡ length xs = length-overlaid m at xs in
    let left : length (overlaid (with_bytes m a bs) at xs) ≡ length xs = length-overlaid (with_bytes m a bs) at xs in
    let fits : low - at + length part ≤ length (overlaid m at xs) = omega arith in
    let right : length (written (overlaid m at xs) (low - at) part) ≡ length xs = length-written (overlaid m at xs) part (low - at) fits ∙ same in
    same_bytes _ _ (left ∙ sym right) (λ i h.
    let k : i < length xs = omega arith in
    elim (cases_lt (at + i) low) [
      | inl before ↦ elim begins [
        | inl e ↦ get-overlaid_put_before m a bs at xs i k (omega arith)
            ∙ sym (get-written_before (overlaid m at xs) part (low - at) i fits (omega arith))
        | inr e ↦ absurd (omega arith)
      ]
      | inr from ↦ elim (cases_lt (at + i) high) [
        | inl to ↦ get-overlaid_put_in m a bs at xs i k (omega arith) (omega arith)
            ∙ sym (get-written_in (overlaid m at xs) part (low - at) i fits (omega arith) (omega arith)
            ∙ get-range (low - a) (high - low) bs (i - (low - at)) (omega arith)
            ∙ ap (λ p. get_or bs p 0) (omega arith))
        | inr behind ↦ elim ends [
          | inl e ↦ get-overlaid_put_behind m a bs at xs i k (omega arith)
              ∙ sym (get-written_behind (overlaid m at xs) part (low - at) i fits (omega arith))
          | inr e ↦ absurd (omega arith)
        ]
      ]
    ])

-- bytes that were put away from a buffer change nothing in it
pub overlaid-misses : (m : FinMap nat_cmp ℕ) (a : ℕ) (bs : List ℕ) (at : ℕ) (xs : List ℕ) → (a + length bs ≤ at) ⊎ (at + length xs ≤ a) ⊎ (length bs ≡ 0) → overlaid (with_bytes m a bs) at xs ≡ overlaid m at xs
overlaid-misses m a bs at xs apart =
    let left : length (overlaid (with_bytes m a bs) at xs) ≡ length xs = length-overlaid (with_bytes m a bs) at xs in
    same_bytes _ _ (left ∙ sym (length-overlaid m at xs)) (λ i h.
    let k : i < length xs = omega arith in
    elim (cases_lt (at + i) a) [
      | inl low ↦ get-overlaid_put_before m a bs at xs i k low
      | inr low ↦ get-overlaid_put_behind m a bs at xs i k (omega arith)
    ])

whole_range : (bs : List ℕ) (at n : ℕ) → at ≡ 0 → length bs ≡ n → range at n bs ≡ bs
whole_range bs at n z e = same_bytes _ _ (omega (arith, length-range at n bs)) (λ i h.
    let j : i < n = omega (arith, length-range at n bs) in
    get-range at n bs i j ∙ ap (λ p. get_or bs p 0) (omega arith))

-- bytes that were put, laid over a whole image, are written there
pub overlaid-written : (m : FinMap nat_cmp ℕ) (a : ℕ) (bs image : List ℕ) → a + length bs ≤ length image → overlaid (with_bytes m a bs) 0 image ≡ written (overlaid m 0 image) a bs
overlaid-written m a bs image h =
    overlaid-meets m a bs 0 image a (a + length bs) (omega arith) (omega arith) (omega arith) (omega arith) (omega arith) (inl refl) (inl refl)
    ∙ ap (λ p. written (overlaid m 0 image) p (range (a - a) (a + length bs - a) bs)) (omega arith)
    ∙ ap (written (overlaid m 0 image) a) (whole_range bs (a - a) (a + length bs - a) (omega arith) (omega arith))

-- a part of a laid-over buffer is that part, laid over at its own offset
pub range-overlaid : (m : FinMap nat_cmp ℕ) (base : ℕ) (xs : List ℕ) (at n : ℕ) → range at n (overlaid m base xs) ≡ overlaid m (base + at) (range at n xs)
range-overlaid m base xs at n =
    let same : length (overlaid m base xs) ≡ length xs = length-overlaid m base xs in
    let left : length (range at n (overlaid m base xs)) ≡ min n (length xs - at) = length-range at n (overlaid m base xs) ∙ ap (λ k. min n (k - at)) same in
    let right : length (overlaid m (base + at) (range at n xs)) ≡ length (range at n xs) = length-overlaid m (base + at) (range at n xs) in
    let size : length (range at n xs) ≡ min n (length xs - at) = length-range at n xs in
    same_bytes _ _ (left ∙ sym (right ∙ size)) (λ i h.
    let k : i < length (range at n xs) = omega arith in
    let j : i < n = omega arith in
    let inside : at + i < length xs = omega arith in
    get-range at n (overlaid m base xs) i j
    ∙ get-overlaid m base xs (at + i) inside
    ∙ ap (λ q. unwrap_or (get m q) (get_or xs (at + i) 0)) (omega arith)
    ∙ sym (get-overlaid m (base + at) (range at n xs) i k ∙ ap (unwrap_or (get m (base + at + i))) (get-range at n xs i j)))

pub range-overlaid_image : (m : FinMap nat_cmp ℕ) (image : List ℕ) (at n : ℕ) → range at n (overlaid m 0 image) ≡ overlaid m at (range at n image)
range-overlaid_image m image at n = range-overlaid m 0 image at n ∙ ap (λ a. overlaid m a (range at n image)) (omega arith)

-- writes that lie inside an image, laid over it, are applied to it
overlaid-with_writes : (m : FinMap nat_cmp ℕ) (ws : List HeldWrite) (image : List ℕ) → AllInside (length image) ws → overlaid (with_writes m ws) 0 image ≡ applied (overlaid m 0 image) ws
unfolding with_writes
overlaid-with_writes m [] image h = refl
overlaid-with_writes m (w ∷ ws) image h =
    overlaid-with_writes (with_bytes m w.at w.bytes) ws image h.1
    ∙ ap (λ b. applied b ws) (overlaid-written m w.at w.bytes image h.0)

pub overlaid-applied : (ws : List HeldWrite) (image : List ℕ) → AllInside (length image) ws → overlaid (cache_of ws) 0 image ≡ applied image ws
overlaid-applied ws image h = overlaid-with_writes empty ws image h ∙ ap (λ b. applied b ws) (overlaid-empty 0 image)

-- all writes but one, and one more, inside
pub AllInside-push : (end : ℕ) (ws : List HeldWrite) (w : HeldWrite) → AllInside end ws → w.at + length w.bytes ≤ end → AllInside end (ws ++ w ∷ [])
AllInside-push end [] w h g = (g, tt)
AllInside-push end (v ∷ ws) w h g = (h.0, AllInside-push end ws w h.1 g)

pub AllInside-get : (end : ℕ) (ws : List HeldWrite) (i : ℕ) (d : HeldWrite) → AllInside end ws → i < length ws → (get_or ws i d).at + length (get_or ws i d).bytes ≤ end
AllInside-get end [] i d h g = absurd (omega arith)
AllInside-get end (w ∷ ws) zero d h g = h.0
AllInside-get end (w ∷ ws) (suc i) d h g = AllInside-get end ws i d h.1 (omega arith)

-- where a byte was put, one stays
with_bytes-keeps : (m : FinMap nat_cmp ℕ) (a : ℕ) (bs : List ℕ) (q : ℕ) → IsSome (get m q) → IsSome (get (with_bytes m a bs) q)
with_bytes-keeps m a bs q some =
    elim (cases_lt q a) [
      | inl low ↦ rw get-with_bytes_before some
      | inr low ↦ elim (cases_lt q (a + length bs)) [
        | inl high ↦ rw (get-with_bytes_in m a bs q low high) refl
        | inr high ↦ rw get-with_bytes_behind some
      ]
    ]

with_writes-keeps : (m : FinMap nat_cmp ℕ) (ws : List HeldWrite) (q : ℕ) → IsSome (get m q) → IsSome (get (with_writes m ws) q)
unfolding with_writes
with_writes-keeps m [] q some = some
with_writes-keeps m (w ∷ ws) q some = with_writes-keeps (with_bytes m w.at w.bytes) ws q (with_bytes-keeps m w.at w.bytes q some)

with_writes-covers : (m : FinMap nat_cmp ℕ) (ws : List HeldWrite) (k : ℕ) (d : HeldWrite) (q : ℕ) → k < length ws → (get_or ws k d).at ≤ q → q < (get_or ws k d).at + length (get_or ws k d).bytes → IsSome (get (with_writes m ws) q)
unfolding with_writes
with_writes-covers m [] k d q h low high = absurd (omega arith)
with_writes-covers m (w ∷ ws) zero d q h low high =
    with_writes-keeps (with_bytes m w.at w.bytes) ws q (rw (get-with_bytes_in m w.at w.bytes q low high) refl)
with_writes-covers m (w ∷ ws) (suc k) d q h low high = with_writes-covers (with_bytes m w.at w.bytes) ws k d q (omega arith) low high

-- an offset that one of the writes covers has a byte in the map that they make
pub cache_of-covers : (ws : List HeldWrite) (k : ℕ) (d : HeldWrite) (q : ℕ) → k < length ws → (get_or ws k d).at ≤ q → q < (get_or ws k d).at + length (get_or ws k d).bytes → IsSome (get (cache_of ws) q)
cache_of-covers ws k d q h low high = with_writes-covers empty ws k d q h low high

-- an offset that a write does not cover keeps what it has
pub get-with_bytes_out : (m : FinMap nat_cmp ℕ) (a : ℕ) (bs : List ℕ) (q : ℕ) → ((a ≤ q) × (q < a + length bs) → ⊥) → get (with_bytes m a bs) q ≡ get m q
get-with_bytes_out m a bs q out =
    elim (cases_lt q a) [
      | inl low ↦ get-with_bytes_before m a bs q low
      | inr low ↦ elim (cases_lt q (a + length bs)) [
        | inl high ↦ absurd (out (low, high))
        | inr high ↦ get-with_bytes_behind m a bs q high
      ]
    ]

-- the map that one write more of a list makes
pub cache_of-take_more : (ws : List HeldWrite) (k : ℕ) (d : HeldWrite) → k < length ws → cache_of (take (k + 1) ws) ≡ with_bytes (cache_of (take k ws)) (get_or ws k d).at (get_or ws k d).bytes
cache_of-take_more ws k d h = ap cache_of (take_more ws k d h) ∙ cache_of-push (take k ws) (get_or ws k d)

-- the greatest of two numbers is one of them, and the least too
max_one : (m n : ℕ) → (max m n ≡ n) ⊎ (max m n ≡ m)
max_one m n = elim (cases_lt m n) [ inl h ↦ inl (omega arith) | inr h ↦ inr (omega arith) ]

min_one : (m n : ℕ) → (min m n ≡ n) ⊎ (min m n ≡ m)
min_one m n = elim (cases_lt m n) [ inl h ↦ inr (omega arith) | inr h ↦ inl (omega arith) ]

-- one write over a buffer: where they meet, and where they do not
pub over-meets : (a at : ℕ) (bs cs xs ys : List ℕ) (low high n : ℕ) → cs ≡ bs → low ≡ max at a → high ≡ min (at + length xs) (a + length cs) → low < high → n ≡ high - low → ys ≡ written xs (low - at) (range (low - a) n cs) → ys ≡ overlaid (with_bytes empty a bs) at xs
over-meets a at bs cs xs ys low high n same l h lh e put =
    let size : length cs ≡ length bs = ap length same in
    let begins : (low ≡ a) ⊎ (low ≡ at) = subst (λ k. (k ≡ a) ⊎ (k ≡ at)) (sym l) (max_one at a) in
    let ends : (high ≡ a + length bs) ⊎ (high ≡ at + length xs) = subst (λ k. (high ≡ a + k) ⊎ (high ≡ at + length xs)) size (subst (λ k. (k ≡ a + length cs) ⊎ (k ≡ at + length xs)) (sym h) (min_one (at + length xs) (a + length cs))) in
    put
    ∙ ap (λ k. written xs (low - at) (range (low - a) k cs)) e
    ∙ ap (λ b. written xs (low - at) (range (low - a) (high - low) b)) same
    ∙ sym (overlaid-meets empty a bs at xs low high (omega arith) (omega arith) (omega arith) (omega arith) (omega arith) begins ends
    ∙ ap (λ b. written b (low - at) (range (low - a) (high - low) bs)) (overlaid-empty at xs))

pub over-misses : (a at : ℕ) (bs cs xs : List ℕ) (low high : ℕ) → cs ≡ bs → low ≡ max at a → high ≡ min (at + length xs) (a + length cs) → high ≤ low → xs ≡ overlaid (with_bytes empty a bs) at xs
over-misses a at bs cs xs low high same l h hl =
    let size : length cs ≡ length bs = ap length same in
    sym (same_bytes _ _ (length-overlaid (with_bytes empty a bs) at xs) (λ i k.
    let j : i < length xs = omega (arith, length-overlaid (with_bytes empty a bs) at xs) in
    get-overlaid (with_bytes empty a bs) at xs i j
    ∙ ap (λ o. unwrap_or o (get_or xs i 0)) (get-with_bytes_out empty a bs (at + i) (λ p. let p0 : a ≤ at + i = p.0 in let p1 : at + i < a + length bs = p.1 in omega arith) ∙ get-empty nat_cmp (at + i))))

-- the write at a place of a list that keeps inside
pub next-fits : (end : ℕ) (ws vs : List HeldWrite) (k : ℕ) (w : HeldWrite) → vs ≡ ws → w ≡ get_or vs k w → k < length vs → AllInside end ws → w.at + length w.bytes ≤ end
next-fits end ws vs k w same is h all =
    subst (λ u. u.at + length u.bytes ≤ end) (sym is) (AllInside-get end vs k w (subst (AllInside end) (sym same) all) h)

-- the map that a list makes with its next write
next-map : (ws : List HeldWrite) (k : ℕ) (w : HeldWrite) → w ≡ get_or ws k w → k < length ws → cache_of (take (k + 1) ws) ≡ with_bytes (cache_of (take k ws)) w.at w.bytes
next-map ws k w is h = cache_of-take_more ws k w h ∙ ap (λ u. with_bytes (cache_of (take k ws)) u.at u.bytes) (sym is)

-- an offset that the write at a place covers
pub next-covers : (ws : List HeldWrite) (k : ℕ) (w : HeldWrite) (q : ℕ) → w ≡ get_or ws k w → k < length ws → w.at ≤ q → q < w.at + length w.bytes → IsSome (get (cache_of ws) q)
next-covers ws k w q is h low high =
    cache_of-covers ws k w q h (subst (λ u. u.at ≤ q) is low) (subst (λ u. q < u.at + length u.bytes) is high)

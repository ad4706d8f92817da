-- The logical address of a byte of the device, found among copies by offset that are apart.
use Rattle.std.proofs.Common.{◌≡◌, ℕ, ◌+◌, ◌-◌, ◌<◌, ◌≤◌, ◌&&◌, ◌⊎◌, Bool, true, false, cond, List, [], ◌∷◌, refl, ap, sym, subst, ◌∙◌, arith, nat_le, ⊎_elim, inl, inr}
use Rattle.std.specs.Prelude.{Option, Some, None, nat_lt, is_some}
use Rattle.std.specs.Option.{IfSome}
use Rattle.std.specs.List.{All, Contains}
use Rattle.std.proofs.lemmas.Bool.{and_parts, and_from, leb-true, ltb-true, le-leb, lt-ltb, both_ways}
use Rattle.std.proofs.lemmas.List.Elements.{All-cons, All-tail, All-contains}
use Rattle.verdict.specs.Chunks.{holds_range, logical_in_copies, logical_or, logical_of}
use Rattle.verdict.specs.declared.place.Chunk.{Chunk}
use Rattle.chunk_map.specs.Order.{AllFit, turned, Has, HasCopies, IsCopyOf, IsOfOne, IsOnlyCopy}
use Rattle.chunk_map.proofs.Ordered.{AllFit-get}

-- whether a byte is one of n bytes at an offset
abbrev has_byte : ℕ → ℕ → ℕ → Bool
has_byte at n p = nat_le at p && nat_lt p (at + n)

-- the address of a byte in a copy
abbrev pub address_in : Option Chunk → ℕ → Option ℕ
address_in None p = None
address_in (Some copy) p = Some (copy.first + (p - copy.start))

-- the address of a byte by a chunk
abbrev of_chunk : ℕ → Chunk → Option ℕ
of_chunk p chunk = logical_in_copies chunk.start chunk.length chunk.first chunk.second p

byte_held : (at n p : ℕ) → has_byte at n p ≡ true → (nat_le at p && nat_le (p + 1) (at + n)) ≡ true
byte_held at n p h =
    let both = and_parts (nat_le at p) (nat_lt p (at + n)) h in
    let low : p < at + n = ltb-true _ _ both.1 in
    and_from _ _ both.0 (le-leb (p + 1) (at + n) (omega arith))

held_byte : (at n p : ℕ) → (nat_le at p && nat_le (p + 1) (at + n)) ≡ true → has_byte at n p ≡ true
held_byte at n p h =
    let both = and_parts (nat_le at p) (nat_le (p + 1) (at + n)) h in
    let low : p + 1 ≤ at + n = leb-true _ _ both.1 in
    and_from _ _ both.0 (lt-ltb p (at + n) (omega arith))

some_none : (x : ℕ) → Some x ≡ None → ⊥
some_none x e = both_ways true (ap is_some e) refl

cond_none : (b : Bool) (x : ℕ) (o : Option ℕ) → b ≡ true → cond b (Some x) o ≡ None → ⊥
cond_none true x o e n = some_none x n
cond_none false x o e n = both_ways false refl e

cond_behind : (b : Bool) (x : ℕ) (o : Option ℕ) → cond b (Some x) o ≡ None → o ≡ None
cond_behind true x o n = absurd (some_none x n)
cond_behind false x o n = n

-- a copy that has the byte is the one found
copy_decides : (copies : List (ℕ × Chunk)) (p : ℕ) (found : Option Chunk) (chunk : Chunk) (at : ℕ) → ((copy : Chunk) → Has copies copy → holds_range copy p 1 ≡ true → found ≡ Some copy) → Has copies (turned chunk at) → has_byte at chunk.length p ≡ true → Some (chunk.start + (p - at)) ≡ address_in found p
copy_decides copies p found chunk at only there byte =
    sym (ap (λ o. address_in o p) (only (turned chunk at) there (byte_held at chunk.length p byte)))

by_one : (b : Bool) (x : ℕ) (o given : Option ℕ) → (b ≡ true → Some x ≡ given) → (o ≡ None) ⊎ (o ≡ given) → (cond b (Some x) o ≡ None) ⊎ (cond b (Some x) o ≡ given)
by_one true x o given first rest = inr (first refl)
by_one false x o given first rest = rest

by_chunk : (copies : List (ℕ × Chunk)) (p : ℕ) (found : Option Chunk) (chunk : Chunk) (second : Option ℕ) → ((copy : Chunk) → Has copies copy → holds_range copy p 1 ≡ true → found ≡ Some copy) → Has copies (turned chunk chunk.first) → IfSome second (λ at. Has copies (turned chunk at)) → (logical_in_copies chunk.start chunk.length chunk.first second p ≡ None) ⊎ (logical_in_copies chunk.start chunk.length chunk.first second p ≡ address_in found p)
by_chunk copies p found chunk None only one two =
    by_one (has_byte chunk.first chunk.length p) (chunk.start + (p - chunk.first)) None (address_in found p) (copy_decides copies p found chunk chunk.first only one) (inl refl)
by_chunk copies p found chunk (Some at) only one two =
    by_one (has_byte chunk.first chunk.length p) (chunk.start + (p - chunk.first)) (cond (has_byte at chunk.length p) (Some (chunk.start + (p - at))) None) (address_in found p) (copy_decides copies p found chunk chunk.first only one)
    (by_one (has_byte at chunk.length p) (chunk.start + (p - at)) None (address_in found p) (copy_decides copies p found chunk at only two) (inl refl))

or_either : (first later given : Option ℕ) → (first ≡ None) ⊎ (first ≡ given) → (later ≡ None) ⊎ (later ≡ given) → (logical_or first later ≡ None) ⊎ (logical_or first later ≡ given)
or_either None later given a b = b
or_either (Some x) later given a b = ⊎_elim (λ e. absurd (some_none x e)) (λ e. inr e) a

-- the list gives no address, or that in the copy found
by_list : (chunks : List Chunk) (copies : List (ℕ × Chunk)) (p : ℕ) (found : Option Chunk) → ((copy : Chunk) → Has copies copy → holds_range copy p 1 ≡ true → found ≡ Some copy) → All (HasCopies copies) chunks → (logical_of chunks p ≡ None) ⊎ (logical_of chunks p ≡ address_in found p)
by_list [] copies p found only has = inl refl
by_list (chunk ∷ chunks) copies p found only has =
    let here : HasCopies copies chunk = has 0 chunk (omega arith) in
    or_either (of_chunk p chunk) (logical_of chunks p) (address_in found p)
    (by_chunk copies p found chunk chunk.second only here.first here.second)
    (by_list chunks copies p found only (All-tail (HasCopies copies) chunk chunks has))

-- a chunk one of whose copies has the byte gives an address
gives : (chunk : Chunk) (second : Option ℕ) (at p : ℕ) → (chunk.first ≡ at) ⊎ (second ≡ Some at) → has_byte at chunk.length p ≡ true → logical_in_copies chunk.start chunk.length chunk.first second p ≡ None → ⊥
gives chunk None at p which byte none =
    ⊎_elim (λ e. cond_none (has_byte chunk.first chunk.length p) (chunk.start + (p - chunk.first)) None (subst (λ a. has_byte a chunk.length p ≡ true) (sym e) byte) none) (λ e. some_none at (sym e)) which
gives chunk (Some o) at p which byte none =
    let rest : Option ℕ = cond (has_byte o chunk.length p) (Some (chunk.start + (p - o))) None in
    ⊎_elim (λ e. cond_none (has_byte chunk.first chunk.length p) (chunk.start + (p - chunk.first)) rest (subst (λ a. has_byte a chunk.length p ≡ true) (sym e) byte) none)
    (λ e. cond_none (has_byte o chunk.length p) (chunk.start + (p - o)) None (subst (λ s. IfSome s (λ a. has_byte a chunk.length p ≡ true)) (sym e) byte) (cond_behind (has_byte chunk.first chunk.length p) (chunk.start + (p - chunk.first)) rest none)) which

or_none : (first later : Option ℕ) → logical_or first later ≡ None → (first ≡ None) × (later ≡ None)
or_none None later e = (refl, e)
or_none (Some x) later e = absurd (some_none x e)

none_each : (chunks : List Chunk) (p : ℕ) → logical_of chunks p ≡ None → All (λ (chunk : Chunk). of_chunk p chunk ≡ None) chunks
none_each [] p e = λ k d l. absurd (omega arith)
none_each (chunk ∷ chunks) p e =
    let both = or_none (of_chunk p chunk) (logical_of chunks p) e in
    All-cons (λ (c : Chunk). of_chunk p c ≡ None) chunk chunks both.0 (none_each chunks p both.1)

none_found : (chunks : List Chunk) (copies : List (ℕ × Chunk)) (p : ℕ) (found : Option Chunk) → ((copy : Chunk) → Has copies copy → IsOfOne chunks copy) → IfSome found (λ copy. Has copies copy × (holds_range copy p 1 ≡ true)) → logical_of chunks p ≡ None → address_in found p ≡ None
none_found chunks copies p None sources there e = refl
none_found chunks copies p (Some copy) sources there e =
    let one : IsOfOne chunks copy = sources copy there.0 in
    let is : IsCopyOf one.0 copy = one.2 in
    let held : holds_range (turned one.0 is.0) p 1 ≡ true = subst (λ (c : Chunk). holds_range c p 1 ≡ true) is.1 there.1 in
    absurd (gives one.0 one.0.second is.0 p is.2 (held_byte is.0 one.0.length p held) (All-contains (λ (c : Chunk). of_chunk p c ≡ None) chunks one.0 (none_each chunks p e) one.1))

-- the only copy that has a byte gives the address that the first chunk of the list gives
pub address_found : (chunks : List Chunk) (copies : List (ℕ × Chunk)) (p : ℕ) (found : Option Chunk) → All (HasCopies copies) chunks → ((copy : Chunk) → Has copies copy → IsOfOne chunks copy) → IsOnlyCopy copies p found → address_in found p ≡ logical_of chunks p
address_found chunks copies p found has sources is =
    ⊎_elim (λ e. none_found chunks copies p found sources is.there e ∙ sym e) (λ e. sym e) (by_list chunks copies p found is.only has)

-- it fits 64 bits
pub address_fits : (chunks : List Chunk) (copies : List (ℕ × Chunk)) (p : ℕ) (copy : Chunk) → AllFit chunks → ((copy : Chunk) → Has copies copy → IsOfOne chunks copy) → IsOnlyCopy copies p (Some copy) → (copy.start ≤ p) × (copy.first + (p - copy.start) ≤ 18446744073709551615)
address_fits chunks copies p copy fit sources is =
    let one : IsOfOne chunks copy = sources copy is.there.0 in
    let at : IsCopyOf one.0 copy = one.2 in
    let among : Contains chunks one.0 = one.1 in
    let fits : one.0.start + one.0.length ≤ 18446744073709551615 = subst (λ (c : Chunk). c.start + c.length ≤ 18446744073709551615) among.2 (AllFit-get chunks chunks among.0 one.0 fit refl among.1) in
    let here : copy.first + copy.length ≤ 18446744073709551615 = subst (λ (c : Chunk). c.first + c.length ≤ 18446744073709551615) (sym at.1) fits in
    let both = and_parts (nat_le copy.start p) (nat_le (p + 1) (copy.start + copy.length)) is.there.1 in
    let low : copy.start ≤ p = leb-true _ _ both.0 in
    let high : p + 1 ≤ copy.start + copy.length = leb-true _ _ both.1 in
    (low, omega arith)

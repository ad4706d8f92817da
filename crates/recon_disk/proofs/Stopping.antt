-- What a stop may leave of a disk behind writes.
use Rattle.std.proofs.Common.{◌≡◌, ℕ, ◌+◌, ◌-◌, ◌<◌, ◌≤◌, inl, inr, true, nat_eq, ◌&&◌, List, [], ◌∷◌, ◌++◌, length, take, drop, Option, Some, None, refl, sym, ap, ◌∙◌, arith, subst}
use Rattle.std.proofs.lemmas.Bool.{cases_Bool, eqb-true}
use Rattle.std.proofs.lemmas.List.{length-take, length-drop}
use Rattle.verdict.proofs.Truth.{and_parts}
use Rattle.recon_disk.specs.Stops.{Unflushed, Moment, unflushed, with_write, with_writes, and_wrote, EachIs, LiesIn, HasWritten}

pub with_writes-then : (ms : List Moment) (a b : List Unflushed) → with_writes ms (a ++ b) ≡ with_writes (with_writes ms a) b
with_writes-then ms [] b = refl
with_writes-then ms (w ∷ a) b = with_writes-then (with_write ms w) a b

pub each-then : (Is : Unflushed → Type 0) (a b : List Unflushed) → EachIs Is a → EachIs Is b → EachIs Is (a ++ b)
each-then Is [] b x y = y
each-then Is (w ∷ a) b x y = (x.0, each-then Is a b x.1 y)

pub each-wider : (Is Also : Unflushed → Type 0) (ws : List Unflushed) → ((w : Unflushed) → Is w → Also w) → EachIs Is ws → EachIs Also ws
each-wider Is Also [] h x = tt
each-wider Is Also (w ∷ ws) h x = (h w x.0, each-wider Is Also ws h x.1)

-- nothing more was written
pub written_none : (Is : Unflushed → Type 0) (o : Option (List Moment)) → HasWritten Is o o
written_none Is None = refl
written_none Is (Some ms) = ([], tt, refl)

pub written_same : (Is : Unflushed → Type 0) (o now : Option (List Moment)) → now ≡ o → HasWritten Is o now
written_same Is o now e = subst (HasWritten Is o) (sym e) (written_none Is o)

-- one thing after the other
pub written_then : (Is : Unflushed → Type 0) (first mid last : Option (List Moment)) → HasWritten Is first mid → HasWritten Is mid last → HasWritten Is first last
written_then Is None mid last a b = subst (λ o. HasWritten Is o last) a b
written_then Is (Some ms) mid last a b =
    let c : HasWritten Is (Some (with_writes ms a.0)) last = subst (λ o. HasWritten Is o last) a.2 b in
    (a.0 ++ c.0, each-then Is a.0 c.0 a.1 c.1, c.2 ∙ ap Some (sym (with_writes-then ms a.0 c.0)))

-- one write
pub written_one : (Is : Unflushed → Type 0) (o : Option (List Moment)) (at : ℕ) (bytes : List ℕ) → Is (unflushed at bytes) → HasWritten Is o (and_wrote o at bytes)
written_one Is None at bytes is = refl
written_one Is (Some ms) at bytes is = (unflushed at bytes ∷ [], (is, tt), refl)

-- more is allowed
pub written_wider : (Is Also : Unflushed → Type 0) (o now : Option (List Moment)) → ((w : Unflushed) → Is w → Also w) → HasWritten Is o now → HasWritten Also o now
written_wider Is Also None now h x = x
written_wider Is Also (Some ms) now h x = (x.0, each-wider Is Also x.0 h x.1, x.2)

pub place_is : (from n : ℕ) → (nat_eq from 65536 && nat_eq n 4096) ≡ true → (from ≡ 65536) × (n ≡ 4096)
place_is from n same =
    let both : (nat_eq from 65536 ≡ true) × (nat_eq n 4096 ≡ true) = and_parts (nat_eq from 65536) (nat_eq n 4096) same in
    (eqb-true from 65536 both.0, eqb-true n 4096 both.1)

-- a write lies in a range that has its own
pub lies_in : (at n from : ℕ) (bytes : List ℕ) → 0 < length bytes → at ≤ from → from + length bytes ≤ at + n → LiesIn at n (unflushed from bytes)
lies_in at n from bytes some low high = elim (cases_Bool (nat_eq from 65536 && nat_eq (length bytes) 4096)) [
  | inl same ↦
      let both : (from ≡ 65536) × (length bytes ≡ 4096) = place_is from (length bytes) same in
      rw same (subst (λ k. at ≤ k) both.0 low, omega (arith, both.0, both.1, high))
  | inr other ↦ rw other (some, low, high)
]

-- the next part of bytes ends with them at most
pub size_of : (done n : ℕ) (bytes : List ℕ) (at : ℕ) → done + n ≤ length bytes → at + done + length (take (done + n - done) (drop done bytes)) ≤ at + length bytes
size_of done n bytes at few = omega (arith, length-take (done + n - done) (drop done bytes), length-drop done bytes)

pub some_of : (done n : ℕ) (bytes : List ℕ) → done + n ≤ length bytes → 0 < n → 0 < length (take (done + n - done) (drop done bytes))
some_of done n bytes few some = omega (arith, length-take (done + n - done) (drop done bytes), length-drop done bytes)

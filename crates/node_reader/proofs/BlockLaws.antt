-- What callers need of a block that was read, and of the lists of its pointers and items.
use Rattle.std.proofs.Common.{◌≡◌, ℕ, zero, suc, ◌+◌, ◌-◌, ◌<◌, ◌≤◌, List, [], ◌∷◌, length, get_or, drop, refl, sym, ap, ◌∙◌, arith}
use Rattle.std.specs.Prelude.{Some, None, Ok, Err}
use Rattle.verdict.specs.declared.finding.Finding.{Finding}
use Rattle.node_reader.specs.Places.{each_from}
use Rattle.verdict.proofs.Tables.{finding_or-ok, finding_or-err}
use Rattle.node_reader.specs.Faults.{block_fault, block_of}
use Rattle.node_reader.specs.declared.expect.Expect.{Expect}

-- a block that is read breaks no rule, and is seen as the bytes
pub block_read : (bytes fsid : List ℕ) (e : Expect) (block : List ℕ) → block_of bytes fsid e ≡ Ok block → (block_fault bytes fsid e ≡ None) × (block ≡ bytes)
block_read bytes fsid e block is = finding_or-ok (block_fault bytes fsid e) bytes block is

each_of_some : {A : Type 0} (entry : ℕ → A) (at n : ℕ) → each_from entry at (suc n) ≡ entry at ∷ each_from entry (suc at) n
unfolding each_from
each_of_some entry at n = refl

each_of_none : {A : Type 0} (entry : ℕ → A) (at : ℕ) → each_from entry at zero ≡ []
unfolding each_from
each_of_none entry at = refl

-- as many stand there as there are places
pub length_each : {A : Type 0} (entry : ℕ → A) (at n : ℕ) → length (each_from entry at n) ≡ n
length_each entry at zero = ap length (each_of_none entry at)
length_each entry at (suc n) = ap length (each_of_some entry at n) ∙ ap suc (length_each entry (suc at) n)

-- what is left from a place on is what stands there, and what is left behind it
pub each_left : {A : Type 0} (entry : ℕ → A) (at end : ℕ) → at < end → each_from entry at (end - at) ≡ entry at ∷ each_from entry (at + 1) (end - (at + 1))
each_left entry at end inside =
    let left : end - at ≡ suc (end - (at + 1)) = omega arith in
    let next : at + 1 ≡ suc at = omega arith in
    ap (each_from entry at) left ∙ each_of_some entry at (end - (at + 1)) ∙ ap (λ n. entry at ∷ each_from entry n (end - (at + 1))) (sym next)

-- nothing is left from the end on
pub each_left_none : {A : Type 0} (entry : ℕ → A) (at end : ℕ) → end ≤ at → each_from entry at (end - at) ≡ []
each_left_none entry at end past =
    let left : end - at ≡ zero = omega arith in
    ap (each_from entry at) left ∙ each_of_none entry at

-- what stands at a place of the list
pub get_each : {A : Type 0} (entry : ℕ → A) (i at n : ℕ) (default : A) → i < n → get_or (each_from entry at n) i default ≡ entry (at + i)
get_each entry i at zero default inside = absurd (omega arith)
get_each entry zero at (suc n) default inside =
    let start : at + 0 ≡ at = omega arith in
    rw (each_of_some entry at n, start) refl
get_each entry (suc i) at (suc n) default inside =
    let start : at + suc i ≡ suc at + i = omega arith in
    rw (each_of_some entry at n, start) (get_each entry i (suc at) n default (omega arith))

-- How an amount to a sum of an account of a name changes what is kept. It serves to state what private functions keep.
use Rattle.std.specs.Prelude.{◌≡◌, ℕ, ◌<◌, Bool, true, false, ◌&&◌, ◌==◌, nat_lt, Option, Some, None, if◌then◌else◌}
use Rattle.ledger_keys.specs.Side.{has_sums}
use Rattle.ledger_keys.specs.Sums.{greatest, raise}

-- an amount to one sum under a key changed exactly that one
abbrev pub Shifts : {K : Type 0} → (K → K → Bool) → (ℕ → ℕ → ℕ) → (K → ℕ → ℕ) → (K → ℕ → ℕ) → K → ℕ → ℕ → Type 0
Shifts {K} same how old new key field amount =
    (other : K) (n : ℕ) → new other n ≡ how (if same key other && (field == n && nat_lt n 9) then amount else 0) (old other n)

-- all sums stayed
abbrev pub Rests : {K : Type 0} → (K → ℕ → ℕ) → (K → ℕ → ℕ) → Type 0
Rests {K} old new = (other : K) (n : ℕ) → new other n ≡ old other n

-- An amount was added to a sum under a key, which had sums before where none may be begun; or nothing was, since it had none.
abbrev pub Posted : {K : Type 0} → (K → K → Bool) → Bool → K → ℕ → ℕ → (K → ℕ → ℕ) → (K → ℕ → ℕ) → Option Bool → Type 0
Posted same may_begin key field amount old new None = (has_sums (old key) ≡ false) × Rests old new
Posted same may_begin key field amount old new (Some full) =
    Shifts same raise old new key field amount × ((full ≡ false → new key field < greatest) × (may_begin ≡ false → has_sums (old key) ≡ true))

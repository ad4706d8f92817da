-- Sums of accounts, and how an amount changes one of them.
use Rattle.std.specs.Prelude.{ℕ, ◌+◌, ◌-◌, ◌^◌, ◌&&◌, ◌==◌, nat_lt, min, if◌then◌else◌}
use Rattle.accounts.specs.declared.account.Account.{Account}
use Rattle.accounts.specs.Sums.{is_same}
use Rattle.accounts.specs.Tally.{Sums}

-- the greatest number of 128 bits
abbrev pub greatest : ℕ
greatest = 2 ^ 128 - 1

-- a sum with an amount more, or with as much of it as there is room for in 128 bits
abbrev pub raise : ℕ → ℕ → ℕ
raise amount sum = sum + min amount (greatest - sum)

-- a sum with an amount less, or nothing where the amount is more
abbrev pub lower : ℕ → ℕ → ℕ
lower amount sum = sum - amount

-- an amount to one of nine sums: what it is to the sum with another number; to a field above 8 it is to none
abbrev pub amount_at : ℕ → ℕ → ℕ → ℕ
amount_at field amount other = if field == other && nat_lt other 9 then amount else 0

-- an amount to one sum of an account: what it is to each sum of each account
abbrev pub amount_to : Account → ℕ → ℕ → Account → ℕ → ℕ
amount_to account field amount other n = if is_same account other && (field == n && nat_lt n 9) then amount else 0

-- the sums of accounts once an amount to one of them changed it: exactly this sum, and no other
unfoldable pub changed : (ℕ → ℕ → ℕ) → Sums → Account → ℕ → ℕ → Sums
changed how sums account field amount other n = how (amount_to account field amount other n) (sums other n)

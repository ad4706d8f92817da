-- The calls that reached a disk, where it tells them.
use Rattle.std.specs.Prelude.{ℕ, zero, suc, ◌≡◌, ◌+◌, ◌/◌, List, [], ◌∷◌, ◌++◌, length, take, drop, Option}
use Rattle.std.specs.Option.{option_map}

-- a call that answered Ok: bytes written from an offset on, or a flush
pub data Sent : Type 0 where
  Wrote : ℕ → List ℕ → Sent
  Flushed : Sent

-- calls with these behind them, where they are told
abbrev pub and_sent : Option (List Sent) → List Sent → Option (List Sent)
and_sent before later = option_map (λ calls. calls ++ later) before

-- so many calls, each with 1,048,576 bytes from the front of those that are left, the last with what is left
abbrev pub cut_calls : ℕ → ℕ → List ℕ → List Sent
cut_calls zero at bytes = []
cut_calls (suc n) at bytes = Wrote at (take 1048576 bytes) ∷ cut_calls n (at + 1048576) (drop 1048576 bytes)

-- a run of bytes from an offset on, cut from its front into calls of 1,048,576 bytes and a shorter last one
unfoldable pub run_calls : ℕ → List ℕ → List Sent
run_calls at bytes = cut_calls ((length bytes + 1048575) / 1048576) at bytes

-- of these calls those in front were sent, in their order
abbrev pub HasSentFront : List Sent → Option (List Sent) → Option (List Sent) → Type 0
HasSentFront calls before now = (front : List Sent) × (rest : List Sent) × (calls ≡ front ++ rest) × (now ≡ and_sent before front)

-- The range of an event on the device, and the sizes that it may have.
use Rattle.std.specs.Prelude.{ℕ, ◌+◌, ◌≤◌, Bool, nat_lt, ◌&&◌, length}
use Rattle.verdict.specs.declared.machine.Event.{Event}
use Rattle.verdict.specs.declared.machine.Event.TheVariants.{Write, Settle, Fetch}

-- where the range of an event begins, 0 where it has none
abbrev pub begin_of : Event → ℕ
begin_of (Write submitter at bytes) = at
begin_of Settle = 0
begin_of (Fetch at len) = at

-- the length of the range, 0 where there is none
abbrev pub length_of : Event → ℕ
length_of (Write submitter at bytes) = length bytes
length_of Settle = 0
length_of (Fetch at len) = len

-- the byte behind the range of an event, 0 where it has none
abbrev pub end_of : Event → ℕ
end_of (Write submitter at bytes) = at + length bytes
end_of Settle = 0
end_of (Fetch at len) = at + len

-- whether a range of so many bytes has one of the superblock place, bytes 65536 to 69631; a range of none has none
abbrev pub meets_superblock : ℕ → ℕ → Bool
meets_superblock at len = nat_lt 0 len && nat_lt at 69632 && nat_lt 65536 (at + len)

-- the sizes that an event may have
abbrev pub IsSized : Event → Type 0
IsSized (Write submitter at bytes) = (1 ≤ length bytes) × (length bytes ≤ 1048576)
IsSized Settle = Unit {0}
IsSized (Fetch at len) = (1 ≤ len) × (len ≤ 65536)

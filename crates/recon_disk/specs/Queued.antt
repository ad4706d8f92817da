-- What a disk lets wait: calls that answered Ok and have not gone out to the disk beneath it.
use Rattle.std.specs.Prelude.{ℕ, ◌≡◌, ◌+◌, ◌-◌, ◌≤◌, List, [], ◌∷◌, ◌++◌, length, Option, Some, Result, OnErr, IfSome}
use Rattle.recon_disk.specs.Calls.{Sent, Wrote, Flushed}

-- The bytes beneath, the calls that wait above them, the oldest first, and for how many more calls and bytes of writes there is room.
pub record Queue : Type 0 where
  pub beneath : List ℕ
  pub waiting : List Sent
  pub entries : ℕ
  pub room : ℕ

-- how many bytes the writes of these calls have
abbrev pub bytes_of : List Sent → ℕ
bytes_of [] = 0
bytes_of (Wrote at bytes ∷ calls) = length bytes + bytes_of calls
bytes_of (Flushed ∷ calls) = bytes_of calls

-- there is room for these calls
abbrev pub HasRoomFor : Queue → List Sent → Type 0
HasRoomFor queue calls = (length calls ≤ queue.entries) × (bytes_of calls ≤ queue.room)

-- the queue with these calls behind the others, which takes their room
abbrev pub with_entries : Queue → List Sent → Queue
with_entries queue calls = record {
  beneath = queue.beneath;
  waiting = queue.waiting ++ calls;
  entries = queue.entries - length calls;
  room = queue.room - bytes_of calls;
}

-- Of a queue with room for these calls, a step that makes them answers Ok, and they wait behind the others; the bytes beneath stay.
abbrev pub Queues : {T E : Type 0} → List Sent → Option Queue → Option Queue → Result T E → Type 0
Queues calls before now result = IfSome before (λ queue. HasRoomFor queue calls → OnErr result ⊥ × (now ≡ Some (with_entries queue calls)))

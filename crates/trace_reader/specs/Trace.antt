-- A trace of a file system's traffic with its device: a header, records, and an end tag. Numbers stand
-- with the lowest byte first. Nothing after the end tag is read.
use Rattle.std.specs.Prelude.{ℕ, ◌≡◌, ◌+◌, ◌^◌, ◌<◌, ◌≤◌, ◌⊎◌, List, [], ◌∷◌, ◌++◌, length, take, drop, codes}
use Rattle.std.specs.List.{All}
use Rattle.byteorder.specs.Endian.{little_bytes}
use Rattle.recon_bytes.specs.Field.{field}
use Rattle.verdict.specs.declared.machine.Event.{Event}
use Rattle.verdict.specs.declared.machine.Event.TheVariants.{Write, Settle, Fetch}
use Rattle.trace_reader.specs.declared.fault.TraceFault.{TraceFault}
use Rattle.trace_reader.specs.declared.fault.TraceFault.TheVariants.{BadHeader, BadTag, BadLength, Truncated, ReadFault, NoMemory, TooMany}

-- each number of the list is a byte
abbrev pub IsBytes : List ℕ → Type 0
IsBytes = All (λ b. b < 256)

-- the header, 16 bytes: a name, the version 1 and a zero
abbrev pub header_bytes : List ℕ
header_bytes = codes "RECONTRC" ++ 1 ∷ 0 ∷ 0 ∷ 0 ∷ 0 ∷ 0 ∷ 0 ∷ 0 ∷ []

-- The record of an event. A write: the tag 1, the submitter, where it begins, its length, its bytes.
-- A settle: the tag 2. A fetch: the tag 3, where its range begins, the length of the range.
unfoldable pub spelling_of : Event → List ℕ
spelling_of (Write submitter at bytes) =
    1 ∷ little_bytes 2 submitter ++ little_bytes 8 at ++ little_bytes 4 (length bytes) ++ bytes
spelling_of Settle = 2 ∷ []
spelling_of (Fetch at len) = 3 ∷ little_bytes 8 at ++ little_bytes 4 len

-- the records of several events, one after the other
abbrev pub spelling_of_all : List Event → List ℕ
spelling_of_all [] = []
spelling_of_all (e ∷ es) = spelling_of e ++ spelling_of_all es

-- a length that a write may have, in bytes
abbrev pub IsWriteLength : ℕ → Type 0
IsWriteLength len = (1 ≤ len) × (len ≤ 1048576)

-- a length that a fetch may ask for, in bytes
abbrev pub IsFetchLength : ℕ → Type 0
IsFetchLength len = (1 ≤ len) × (len ≤ 65536)

-- the events that a trace may hold: each number within its field, and each length in its range
abbrev pub IsSpelled : Event → Type 0
IsSpelled (Write submitter at bytes) =
    (submitter < 2 ^ 16) × (at < 2 ^ 64) × IsWriteLength (length bytes) × IsBytes bytes
IsSpelled Settle = Unit {0}
IsSpelled (Fetch at len) = (at < 2 ^ 64) × IsFetchLength len

-- how a trace ends: with its end tag, or with a fault at a record, the header being record 0
pub data Ending : Type 0 where
  End : Ending
  Fault : TraceFault → ℕ → Ending

-- there is a first byte, and it is such a one
abbrev pub BeginsWith : (ℕ → Type 0) → List ℕ → Type 0
BeginsWith is_such [] = ⊥
BeginsWith is_such (tag ∷ rest) = is_such tag

-- The length field of a write's record: four bytes at byte 11, behind the tag, the submitter and the
-- place. They are whole where the record has at least 15 bytes.
abbrev pub write_length : List ℕ → ℕ
write_length left = field 4 left 11

-- The length field of a fetch's record: four bytes at byte 9, behind the tag and the place. They are
-- whole where the record has its 13 bytes.
abbrev pub fetch_length : List ℕ → ℕ
fetch_length left = field 4 left 9

-- a record with this tag stands here
abbrev pub HasTag : ℕ → List ℕ → Type 0
HasTag expected = BeginsWith (λ tag. tag ≡ expected)

-- a write's record of which bytes are wanting: of the 15 in front, or of those to be written
abbrev pub IsCutWrite : List ℕ → Type 0
IsCutWrite left =
    HasTag 1 left
    × ((length left < 15) ⊎ (IsWriteLength (write_length left) × (length left < 15 + write_length left)))

-- a fetch's record of which bytes are wanting
abbrev pub IsCutFetch : List ℕ → Type 0
IsCutFetch left = HasTag 3 left × (length left < 13)

-- a record of which bytes are wanting behind its tag
abbrev pub IsCut : List ℕ → Type 0
IsCut left = IsCutWrite left ⊎ IsCutFetch left

-- a record whose length is out of its range: a write's, or a fetch's
abbrev pub HasBadLength : List ℕ → Type 0
HasBadLength left =
    (HasTag 1 left × (15 ≤ length left) × (¬ IsWriteLength (write_length left)))
    ⊎ (HasTag 3 left × (13 ≤ length left) × (¬ IsFetchLength (fetch_length left)))

-- a tag that no record has, and that is not the end tag
abbrev pub IsOtherTag : ℕ → Type 0
IsOtherTag tag = (¬ (tag ≡ 1)) × (¬ (tag ≡ 2)) × (¬ (tag ≡ 3)) × (¬ (tag ≡ 255))

-- How a trace ends of which these bytes are left after n whole records, and which may have `limit`
-- records. The record at fault is the next one.
abbrev pub EndsAs : ℕ → ℕ → List ℕ → Ending → Type 0
EndsAs limit n left End = HasTag 255 left
EndsAs limit n left (Fault TooMany k) = (k ≡ n + 1) × (n ≡ limit) × BeginsWith (λ tag. ¬ (tag ≡ 255)) left
EndsAs limit n left (Fault BadTag k) = (k ≡ n + 1) × (n < limit) × BeginsWith IsOtherTag left
EndsAs limit n left (Fault BadLength k) = (k ≡ n + 1) × (n < limit) × HasBadLength left
EndsAs limit n left (Fault Truncated k) = (k ≡ n + 1) × ((left ≡ []) ⊎ ((n < limit) × IsCut left))
EndsAs limit n left (Fault BadHeader k) = ⊥
EndsAs limit n left (Fault ReadFault k) = ⊥
EndsAs limit n left (Fault NoMemory k) = ⊥

-- After n whole records the bytes hold the records of these events, at most `limit` of them all
-- together, and then end so.
pub record IsRecords (limit n : ℕ) (bytes : List ℕ) (events : List Event) (ending : Ending) : Type 0 where
  pub rest : List ℕ
  pub spelled : bytes ≡ spelling_of_all events ++ rest
  pub lawful : All IsSpelled events
  pub few : n + length events ≤ limit
  pub ends : EndsAs limit (n + length events) rest ending

-- how a trace ends in its header: it has fewer than 16 bytes, or its first 16 are another header
abbrev pub HeaderEnds : List ℕ → Ending → Type 0
HeaderEnds bytes ending =
    ((length bytes < 16) × (ending ≡ Fault Truncated 0))
    ⊎ ((16 ≤ length bytes) × (¬ (take 16 bytes ≡ header_bytes)) × (ending ≡ Fault BadHeader 0))

-- the events of a trace that may have `limit` records, and its ending
abbrev pub IsTrace : ℕ → List ℕ → List Event → Ending → Type 0
IsTrace limit bytes events ending =
    (HeaderEnds bytes ending × (events ≡ []))
    ⊎ ((take 16 bytes ≡ header_bytes) × IsRecords limit 0 (drop 16 bytes) events ending)

-- every list of bytes is a trace in exactly one way
abbrev pub OneTrace : Type 0
OneTrace =
    (limit : ℕ) (bytes : List ℕ) → IsBytes bytes
    → (events : List Event) × (ending : Ending) × IsTrace limit bytes events ending
    × ((others : List Event) (other : Ending) → IsTrace limit bytes others other → (others ≡ events) × (other ≡ ending))

-- How one piece of a trace is read from a source that tells its bytes.
use Rattle.std.specs.Prelude.{ℕ, ◌≡◌, ◌+◌, ◌<◌, Bool, List, [], ◌∷◌, ◌++◌, length, Option, Some, Result, Ok, Err, if◌then◌else◌}
use Rattle.verdict.specs.declared.machine.Event.{Event}
use Rattle.trace_reader.specs.declared.reader.Item.{Item}
use Rattle.trace_reader.specs.declared.reader.Item.TheVariants.{Event as an_event, End as the_end}
use Rattle.trace_reader.specs.declared.fault.TraceFault.{TraceFault}
use Rattle.trace_reader.specs.declared.fault.TraceFault.TheVariants.{BadLength, Truncated, ReadFault, NoMemory}
use Rattle.trace_reader.specs.Reading.{TakesWith}
use Rattle.trace_reader.specs.Trace.{header_bytes, spelling_of, IsSpelled, IsBytes, IsWriteLength, write_length, HasTag, IsCut, HasBadLength, Fault, HeaderEnds, EndsAs}

-- fewer than n of the bytes were taken
pub record TakesFewer (n : ℕ) (bytes : List ℕ) (after : Option (List ℕ)) : Type 0 where
  pub taken : List ℕ
  pub rest : List ℕ
  pub parts : bytes ≡ taken ++ rest
  pub left : after ≡ Some rest
  pub few : length taken < n

-- exactly these were taken
pub record Takes (piece bytes : List ℕ) (after : Option (List ℕ)) : Type 0 where
  pub rest : List ℕ
  pub parts : bytes ≡ piece ++ rest
  pub left : after ≡ Some rest

-- all of the bytes were taken, and they are fewer than n
pub record TakesShort (n : ℕ) (bytes : List ℕ) (after : Option (List ℕ)) : Type 0 where
  pub left : after ≡ Some []
  pub few : length bytes < n

-- a piece was taken whole, or the bytes end before it is, or a call of the source failed
abbrev pub Fills : {T : Type 0} → List ℕ → List ℕ → Result T TraceFault → Option (List ℕ) → Type 0
Fills bytes piece (Ok _) after = Takes piece bytes after
Fills bytes piece (Err ReadFault) after = TakesFewer (length piece) bytes after
Fills bytes piece (Err Truncated) after = TakesShort (length piece) bytes after
Fills bytes piece (Err _) after = ⊥

-- the bytes of a write were taken
pub record TakesBytes (n : ℕ) (written bytes : List ℕ) (after : Option (List ℕ)) : Type 0 where
  pub takes : Takes written bytes after
  pub size : length written ≡ n
  pub lawful : IsBytes written

abbrev pub ReadsBytes : ℕ → List ℕ → Result (List ℕ) TraceFault → Option (List ℕ) → Type 0
ReadsBytes n bytes (Ok written) after = TakesBytes n written bytes after
ReadsBytes n bytes (Err ReadFault) after = TakesFewer n bytes after
ReadsBytes n bytes (Err NoMemory) after = after ≡ Some bytes
ReadsBytes n bytes (Err Truncated) after = TakesShort n bytes after
ReadsBytes n bytes (Err _) after = ⊥

-- the header was taken, where there was one to take
abbrev pub ReadsFront : {T : Type 0} → Bool → List ℕ → Result T TraceFault → Option (List ℕ) → Type 0
ReadsFront at_header bytes (Ok _) after = Takes (if at_header then header_bytes else []) bytes after
ReadsFront at_header bytes (Err ReadFault) after = TakesFewer 16 bytes after
ReadsFront at_header bytes (Err f) after = TakesWith (λ b. HeaderEnds b (Fault f 0)) bytes after

-- an event's record was taken, of which the tag is the first byte
pub record TakesRecord (e : Event) (bytes : List ℕ) (after : Option (List ℕ)) : Type 0 where
  pub lawful : IsSpelled e
  pub takes : Takes (spelling_of e) bytes after

-- of a record only a part was taken
pub record TakesPart (bytes : List ℕ) (after : Option (List ℕ)) : Type 0 where
  pub taken : List ℕ
  pub takes : Takes taken bytes after
  pub cut : IsCut taken

-- of a write's record all was taken but the bytes to be written
pub record TakesAllBut (bytes : List ℕ) (after : Option (List ℕ)) : Type 0 where
  pub taken : List ℕ
  pub takes : Takes taken bytes after
  pub size : length taken ≡ 15
  pub tag : HasTag 1 taken
  pub good : IsWriteLength (write_length taken)

-- a write or a fetch was read, of which the tag is the first byte
abbrev pub ReadsEvent : List ℕ → Result Event TraceFault → Option (List ℕ) → Type 0
ReadsEvent bytes (Ok e) after = TakesRecord e bytes after
ReadsEvent bytes (Err ReadFault) after = TakesPart bytes after
ReadsEvent bytes (Err NoMemory) after = TakesAllBut bytes after
ReadsEvent bytes (Err BadLength) after = TakesWith HasBadLength bytes after
ReadsEvent bytes (Err Truncated) after = TakesWith IsCut bytes after
ReadsEvent bytes (Err _) after = ⊥

-- a front was taken that is no whole record
pub record TakesCut (limit n : ℕ) (bytes : List ℕ) (after : Option (List ℕ)) : Type 0 where
  pub taken : List ℕ
  pub takes : Takes taken bytes after
  pub cut : EndsAs limit n taken (Fault Truncated (n + 1))

-- no event is given where as many records as there may be were read
abbrev pub HasRoom : ℕ → ℕ → Result Item TraceFault → Type 0
HasRoom limit n (Ok (an_event e)) = n < limit
HasRoom limit n (Ok the_end) = Unit {0}
HasRoom limit n (Err f) = Unit {0}

-- one record was read, or the end tag
abbrev pub ReadsRecord : ℕ → ℕ → List ℕ → Result Item TraceFault → Option (List ℕ) → Type 0
ReadsRecord limit n bytes (Ok (an_event e)) after = (n < limit) × TakesRecord e bytes after
ReadsRecord limit n bytes (Ok the_end) after = Takes (255 ∷ []) bytes after
ReadsRecord limit n bytes (Err ReadFault) after = TakesCut limit n bytes after
ReadsRecord limit n bytes (Err NoMemory) after = (n < limit) × TakesAllBut bytes after
ReadsRecord limit n bytes (Err f) after = TakesWith (λ b. EndsAs limit n b (Fault f (n + 1))) bytes after

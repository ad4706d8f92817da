-- What one call of a trace's reader gives.
use Rattle.std.specs.Prelude.{ℕ, ◌≡◌, ◌+◌, ◌≤◌, ◌<◌, ◌⊎◌, true, false, List, [], ◌∷◌, ◌++◌, length, Option, Some, Result, Ok, Err, if◌then◌else◌}
use Rattle.recon_disk.specs.Outside.{counted}
use Rattle.verdict.specs.declared.machine.Event.{Event}
use Rattle.verdict.specs.Events.{IsSized}
use Rattle.trace_reader.specs.declared.reader.Item.{Item}
use Rattle.trace_reader.specs.declared.reader.Item.TheVariants.{Event as an_event, End as the_end}
use Rattle.trace_reader.specs.declared.fault.TraceFault.{TraceFault}
use Rattle.trace_reader.specs.declared.fault.TraceFault.TheVariants.{Truncated, ReadFault, NoMemory}
use Rattle.trace_reader.specs.Trace.{header_bytes, spelling_of, HasTag, IsSpelled, IsWriteLength, write_length, Ending, Fault, HeaderEnds, EndsAs}
use Rattle.trace_reader.specs.Reader.{ReaderState}

-- what stands in front of the next record: the header, where it is still to be read
abbrev pub front_of : ReaderState → List ℕ
front_of s = if s.at_header then header_bytes else []

-- a reader that has read nothing
abbrev pub first_state : ℕ → ReaderState
first_state limit = record { limit = limit; whole = 0; number = 0; at_header = true; live = true }

-- the reader after one more whole record
abbrev pub after_event : ReaderState → ReaderState
after_event s =
    record { limit = s.limit; whole = s.whole + 1; number = s.whole + 1; at_header = false; live = true }

-- a reader that has met the end tag, which stands in the place of the next record
pub record IsEnded (old new : ReaderState) : Type 0 where
  pub limit : new.limit ≡ old.limit
  pub whole : new.whole ≡ old.whole
  pub number : new.number ≡ old.whole + 1
  pub live : new.live ≡ false

-- a reader that has met a fault, after as many whole records as before: in the header, or in the next record
pub record IsOver (old new : ReaderState) : Type 0 where
  pub limit : new.limit ≡ old.limit
  pub whole : new.whole ≡ old.whole
  pub number : ((old.at_header ≡ true) × (new.number ≡ 0)) ⊎ (new.number ≡ old.whole + 1)
  pub live : new.live ≡ false

-- the state that a call leaves
abbrev pub IsAfter : ReaderState → Result Item TraceFault → ReaderState → Type 0
IsAfter old (Ok (an_event e)) new = new ≡ after_event old
IsAfter old (Ok the_end) new = IsEnded old new
IsAfter old (Err f) new = IsOver old new

-- these bytes, at which a reader stands, end so before one more record is whole
abbrev pub MeetsEnding : ReaderState → List ℕ → Ending → Type 0
MeetsEnding s bytes ending =
    ((s.at_header ≡ true) × HeaderEnds bytes ending)
    ⊎ ((left : List ℕ) × (bytes ≡ front_of s ++ left) × EndsAs s.limit s.whole left ending)

-- an event was taken: its whole record and no more
pub record TakesEvent (s : ReaderState) (bytes : List ℕ) (e : Event) (after : Option (List ℕ)) : Type 0 where
  pub rest : List ℕ
  pub room : s.whole < s.limit
  pub lawful : IsSpelled e
  pub taken : bytes ≡ front_of s ++ (spelling_of e ++ rest)
  pub left : after ≡ Some rest

-- the end tag was taken and no more
pub record TakesEnd (s : ReaderState) (bytes : List ℕ) (after : Option (List ℕ)) : Type 0 where
  pub rest : List ℕ
  pub taken : bytes ≡ front_of s ++ 255 ∷ rest
  pub left : after ≡ Some rest

-- What was taken is a front of the bytes. Were it all, the next record would be cut: it holds no whole
-- record and no end tag.
pub record TakesLess (s : ReaderState) (bytes : List ℕ) (k : ℕ) (after : Option (List ℕ)) : Type 0 where
  pub taken : List ℕ
  pub rest : List ℕ
  pub parts : bytes ≡ taken ++ rest
  pub left : after ≡ Some rest
  pub cut : MeetsEnding s taken (Fault Truncated k)

-- what was taken is a write's record up to its bytes, whose length is one that a write may have, and fewer records than
-- the limit stand before it
pub record TakesLength (s : ReaderState) (bytes : List ℕ) : Type 0 where
  pub room : s.whole < s.limit
  pub record_front : List ℕ
  pub rest : List ℕ
  pub taken : bytes ≡ front_of s ++ (record_front ++ rest)
  pub size : length record_front ≡ 15
  pub tag : HasTag 1 record_front
  pub good : IsWriteLength (write_length record_front)

-- What was taken is a front of the bytes, and this holds of it as of all of them.
pub record TakesWith (Holds : List ℕ → Type 0) (bytes : List ℕ) (after : Option (List ℕ)) : Type 0 where
  pub taken : List ℕ
  pub rest : List ℕ
  pub parts : bytes ≡ taken ++ rest
  pub left : after ≡ Some rest
  pub of_all : Holds bytes
  pub of_taken : Holds taken

-- What a call answers at a source that has these bytes left, and how many it leaves. A fault of the
-- bytes is that with which they end, at the record of the reader's number, and so do those of them
-- that were taken.
abbrev pub Tells : ReaderState → List ℕ → Result Item TraceFault → ReaderState → Option (List ℕ) → Type 0
Tells s bytes (Ok (an_event e)) new after = TakesEvent s bytes e after
Tells s bytes (Ok the_end) new after = TakesEnd s bytes after
Tells s bytes (Err ReadFault) new after = TakesLess s bytes new.number after
Tells s bytes (Err NoMemory) new after = TakesLess s bytes new.number after × TakesLength s bytes
Tells s bytes (Err f) new after = TakesWith (λ b. MeetsEnding s b (Fault f new.number)) bytes after

-- a read fault comes only where the source's count of faults rose or stands at its greatest value, and
-- with every other answer the count stays
abbrev pub HasReadCause : {T : Type 0} → ℕ → ℕ → Result T TraceFault → Type 0
HasReadCause before now (Err ReadFault) = (before ≤ now) × (counted before ≤ now)
HasReadCause before now _ = now ≡ before

-- an event that was read has such a size, whether or not the source tells its bytes
abbrev pub IsSizedItem : Item → Type 0
IsSizedItem (an_event e) = IsSized e
IsSizedItem the_end = Unit {0}

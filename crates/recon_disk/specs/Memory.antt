-- What a disk, a source and a sink in memory hold, and which of their calls fail.
use Rattle.std.specs.Prelude.{ℕ, ◌≡◌, ◌+◌, Bool, true, false, ◌&&◌, ◌||◌, ◌++◌, nat_eq, nat_lt, List, take, drop, length, min, Option, Some, None, Result, OnErr, is_err, is_some, if◌then◌else◌}
use Rattle.verdict.specs.Image.{written}
use Rattle.std.specs.List.{find, list_any}
use Rattle.recon_disk.specs.declared.memory.Op.{Op}
use Rattle.recon_disk.specs.declared.memory.Op.TheVariants.{Length, Read, Write, Flush}
use Rattle.recon_disk.specs.declared.memory.Fail.{Fail}
use Rattle.recon_disk.specs.Listed.{listed_piece}
use Rattle.recon_disk.specs.Outside.{counted, superblock_at, superblock_size}
use Rattle.recon_disk.specs.declared.memory.MemDisk.{MemDisk}
use Rattle.recon_disk.specs.declared.source.MemSource.{MemSource}
use Rattle.recon_disk.specs.declared.sink.MemSink.{MemSink}

-- the bytes of a disk
abbrev pub bytes_in : MemDisk → List ℕ
bytes_in d = d.bytes.items

-- how often it was read
abbrev pub reads_of : MemDisk → ℕ
reads_of d = d.reads

-- how often a call of it failed
abbrev pub faults_of : MemDisk → ℕ
faults_of d = d.faults

-- whether two calls are of one kind
abbrev pub same_op : Op → Op → Bool
same_op Length Length = true
same_op Read Read = true
same_op Write Write = true
same_op Flush Flush = true
same_op _ _ = false

-- the first entry of a list that names the call of a kind with this number
unfoldable pub listed_call : List Fail → Op → ℕ → Option Fail
listed_call fails op nth = find (λ f. same_op f.op op && nat_eq f.nth nth) fails

-- how often each kind of call was made
pub record CallCounts : Type 0 where
  pub lengths : ℕ
  pub reads : ℕ
  pub writes : ℕ
  pub flushes : ℕ

-- none yet
abbrev pub no_calls : CallCounts
no_calls = record { lengths = 0; reads = 0; writes = 0; flushes = 0 }

-- how often each kind of call of a disk was made
abbrev pub calls_of : MemDisk → CallCounts
calls_of d = record { lengths = d.lengths; reads = d.reads; writes = d.writes; flushes = d.flushes }

-- how often a kind of call was made
abbrev pub count_of : Op → CallCounts → ℕ
count_of Length n = n.lengths
count_of Read n = n.reads
count_of Write n = n.writes
count_of Flush n = n.flushes

-- the counts after one more call of a kind
abbrev pub after_call : Op → CallCounts → CallCounts
after_call Length n = record n { lengths = counted n.lengths }
after_call Read n = record n { reads = counted n.reads }
after_call Write n = record n { writes = counted n.writes }
after_call Flush n = record n { flushes = counted n.flushes }

-- the calls of a disk that are to fail
abbrev pub fails_of : MemDisk → List Fail
fails_of d = d.fails.items

-- the entry of a disk's list for its next call of a kind
abbrev pub fail_of_next : Op → MemDisk → Option Fail
fail_of_next op d = listed_call (fails_of d) op (count_of op (after_call op (calls_of d)))

-- A call of a kind was counted, and the disk's list is as it was. It failed exactly where the list
-- names it, and then one more fault was counted.
pub record IsCalled {T E : Type 0} (op : Op) (before after : MemDisk) (result : Result T E) : Type 0 where
  pub list : fails_of after ≡ fails_of before
  pub calls : calls_of after ≡ after_call op (calls_of before)
  pub failed : is_err result ≡ is_some (fail_of_next op before)
  pub faults : OnErr result (faults_of after ≡ counted (faults_of before))

-- how many bytes of a failing write stay, of those that its entry keeps
abbrev pub front_kept : ℕ → ℕ → ℕ → ℕ
front_kept at n keep = if nat_eq at superblock_at && nat_eq n superblock_size && nat_lt keep superblock_size then 0 else min keep n

-- what a write leaves of an image, where its entry is this one
abbrev pub left_by : Option Fail → List ℕ → ℕ → List ℕ → List ℕ
left_by None image at bytes = written image at bytes
left_by (Some f) image at bytes = written image at (take (front_kept at (length bytes) f.keep) bytes)

-- what a source has left
abbrev pub bytes_left : MemSource → List ℕ
bytes_left s = drop s.at s.bytes.items

-- whether a source has nothing left
abbrev pub is_at_end : MemSource → Bool
is_at_end s = nat_eq s.at (length s.bytes.items)

-- how many bytes a source gives in one call at most
abbrev pub step_of : MemSource → ℕ
step_of s = s.step

-- the numbers of the calls of a source that are to fail
abbrev pub fails_of_source : MemSource → List ℕ
fails_of_source s = s.fails.items

-- how often a source was asked
abbrev pub source_calls : MemSource → ℕ
source_calls s = s.calls

-- how often a call of a source failed
abbrev pub source_faults : MemSource → ℕ
source_faults s = s.faults

-- A call of a source was counted, and its list and step are as they were. It failed exactly where the
-- list has its number, and then one more fault was counted.
pub record IsAsked {T E : Type 0} (before after : MemSource) (result : Result T E) : Type 0 where
  pub list : fails_of_source after ≡ fails_of_source before
  pub step : step_of after ≡ step_of before
  pub calls : source_calls after ≡ counted (source_calls before)
  pub failed : is_err result ≡ list_any (λ nth. nat_eq nth (counted (source_calls before))) (fails_of_source before)
  pub faults : OnErr result (source_faults after ≡ counted (source_faults before))

-- what a sink was given
abbrev pub bytes_kept : MemSink → List ℕ
bytes_kept s = s.bytes.items

-- how many bytes a sink keeps at most
abbrev pub room_of : MemSink → ℕ
room_of s = s.room

-- the calls of a sink that are to fail, by number, and how many bytes of its piece each keeps
abbrev pub fails_of_sink : MemSink → List (ℕ × ℕ)
fails_of_sink s = s.fails.items

-- how often a sink was given a piece
abbrev pub sink_calls : MemSink → ℕ
sink_calls s = s.calls

-- how often a call of a sink failed
abbrev pub sink_faults : MemSink → ℕ
sink_faults s = s.faults

-- the entry of a sink's list for its next call
abbrev pub piece_of_next : MemSink → Option (ℕ × ℕ)
piece_of_next s = listed_piece (fails_of_sink s) (counted (sink_calls s))

-- whether so many bytes more would pass a sink's room
abbrev pub passes_room : MemSink → ℕ → Bool
passes_room s n = nat_lt (room_of s) (length (bytes_kept s) + n)

-- what a sink keeps of a piece where its entry is this one
abbrev pub kept_by : Option (ℕ × ℕ) → List ℕ → List ℕ
kept_by None piece = piece
kept_by (Some p) piece = take (min p.1 (length piece)) piece

-- A call of a sink was counted, and its list and room are as they were. It failed exactly where the
-- piece would pass the room, and then kept nothing, or where the list names it, and then kept what
-- its entry says. One more fault was counted where it failed.
pub record IsGiven {T E : Type 0} (before : MemSink) (piece : List ℕ) (after : MemSink) (result : Result T E) : Type 0 where
  pub list : fails_of_sink after ≡ fails_of_sink before
  pub room : room_of after ≡ room_of before
  pub calls : sink_calls after ≡ counted (sink_calls before)
  pub failed : is_err result ≡ (passes_room before (length piece) || is_some (piece_of_next before))
  pub bytes : bytes_kept after ≡ (if passes_room before (length piece) then bytes_kept before else bytes_kept before ++ kept_by (piece_of_next before) piece)
  pub faults : OnErr result (sink_faults after ≡ counted (sink_faults before))

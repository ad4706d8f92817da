-- The plan of a workload: which operation each commit has, by the draws of a generator from a seed. A commit is
-- numbered from 1, and the inode that commit k makes has the number 256 + k.
use Rattle.std.specs.Prelude.{ℕ, zero, suc, ◌+◌, ◌*◌, ◌/◌, ◌%◌, ◌^◌, Bool, true, false, ◌==◌, List, [], ◌∷◌, ◌++◌, length, map, filter, remove, slice_index, bit_xor, if◌then◌else◌}
use Rattle.trace_maker.specs.declared.operation.Operation.{Operation}
use Rattle.trace_maker.specs.declared.operation.Operation.TheVariants.{Subvolume, Directory, File, Filled, Shared, Removed}
use Rattle.trace_maker.specs.declared.planner.ListedFile.{ListedFile}

-- a number of 64 bits with itself laid over it, shifted down by so many places
abbrev pub folded : ℕ → ℕ → ℕ
folded places z = bit_xor z (z / 2 ^ places)

-- the generator's state after a draw from this one
unfoldable pub next_state : ℕ → ℕ
next_state state = (state + 0x9E3779B97F4A7C15) % 2 ^ 64

-- what is drawn from a state
unfoldable pub drawn : ℕ → ℕ
drawn state =
    let first = folded 30 (next_state state) * 0xBF58476D1CE4E5B9 % 2 ^ 64 in
    let second = folded 27 first * 0x94D049BB133111EB % 2 ^ 64 in
    folded 31 second

-- a pick from a list of n entries: the draw modulo n
abbrev pub pick : ℕ → ℕ → ℕ
pick state n = drawn state % n

-- What is planned so far: the generator's state, the directories and the files in order of making, without the
-- files removed, and how many subvolumes were made.
pub record Planned : Type 0 where
  pub state : ℕ
  pub directories : List ℕ
  pub files : List ListedFile
  pub subvolumes : ℕ

-- the plan before the first commit: the top directory 256 alone
abbrev pub first_planned : ℕ → Planned
first_planned seed = record { state = seed; directories = 256 ∷ []; files = []; subvolumes = 0 }

-- the same after one more draw
abbrev pub after_draw : Planned → Planned
after_draw p = record p { state = next_state p.state }

-- the directory that the next draw picks
abbrev pub picked_directory : Planned → ℕ
picked_directory p = slice_index p.directories (pick p.state (length p.directories))

-- the same with one more file at the end of the list; the flag says whether its extent may be shared
abbrev pub with_file : ℕ → Bool → Planned → Planned
with_file ino may_share p = record p { files = p.files ++ record { ino = ino; may_share = may_share } ∷ [] }

-- commit k makes an empty file in a picked directory
abbrev pub plan_file : ℕ → Planned → Operation × Planned
plan_file k p = (File (256 + k) (picked_directory p), with_file (256 + k) false (after_draw p))

-- the same with 1 to 8 sectors of data of a sort: 3 with sums, 4 without sums, 5 preallocated
abbrev pub plan_filled : ℕ → ℕ → Planned → Operation × Planned
plan_filled sort k p = (
  Filled (256 + k) (picked_directory p) (1 + pick (after_draw p).state 8) sort,
  with_file (256 + k) (sort == 3) (after_draw (after_draw p)),
)

-- the numbers of the files whose extent may be shared, in order of making
abbrev pub sharers : List ListedFile → List ℕ
sharers files = map (λ f. f.ino) (filter (λ f. f.may_share) files)

-- commit k makes a file that shares the extent of a picked one, or an empty file where there is none
abbrev pub plan_shared : ℕ → Planned → Operation × Planned
plan_shared k p =
    let others = sharers p.files in
    if length others == 0 then plan_file k p
    else (
      Shared (256 + k) (picked_directory p) (slice_index others (pick (after_draw p).state (length others))),
      with_file (256 + k) true (after_draw (after_draw p)),
    )

-- commit k removes a picked file, and those after it move up; where there is none it makes an empty file
abbrev pub plan_removed : ℕ → Planned → Operation × Planned
plan_removed k p =
    let place = pick p.state (length p.files) in
    if length p.files == 0 then plan_file k p
    else (
      Removed (slice_index (map (λ f. f.ino) p.files) place),
      record (after_draw p) { files = remove p.files place },
    )

-- commit k makes a subvolume, whose number is 256 and the number of those made before
abbrev pub plan_subvolume : Planned → Operation × Planned
plan_subvolume p = (Subvolume (256 + p.subvolumes), record p { subvolumes = p.subvolumes + 1 })

-- commit k makes a directory in the top directory
abbrev pub plan_directory : ℕ → Planned → Operation × Planned
plan_directory k p = (Directory (256 + k), record p { directories = p.directories ++ (256 + k) ∷ [] })

-- the operation of commit k by the first draw of it, a number from 0 to 7, and the plan behind it
abbrev pub plan_by : ℕ → ℕ → Planned → Operation × Planned
plan_by row k p =
    if row == 0 then plan_subvolume p
    else (if row == 1 then plan_directory k p
    else (if row == 2 then plan_file k p
    else (if row == 6 then plan_shared k p
    else (if row == 7 then plan_removed k p
    else plan_filled row k p))))

-- the operation of commit k, and the plan behind it
abbrev pub plan_commit : ℕ → Planned → Operation × Planned
plan_commit k p = plan_by (pick p.state 8) k (after_draw p)

-- the operations of n commits from commit k on
unfoldable pub plan_from : ℕ → ℕ → Planned → List Operation
plan_from zero k p = []
plan_from (suc n) k p = (plan_commit k p).0 ∷ plan_from n (k + 1) (plan_commit k p).1

-- the operations of so many commits, by a seed
abbrev pub plan_of : ℕ → ℕ → List Operation
plan_of seed commits = plan_from commits 1 (first_planned seed)

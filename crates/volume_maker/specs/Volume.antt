-- What stands in a volume, without its bytes: the directories in the top directory, the files, the subvolumes, and the
-- extents in the 2048 sectors of the data chunk. All are listed in order of making.
use Rattle.std.specs.Prelude.{ℕ, ◌+◌, ◌-◌, ◌%◌, Bool, false, not, ◌&&◌, ◌==◌, List, [], ◌∷◌, ◌++◌, replicate, filter, find, Option, Some, None, option_and_then, nat_lt, if◌then◌else◌}
use Rattle.std.specs.List.{list_any, before_first, after_first}
use Rattle.recon_crc.specs.Checksum.{crc32c_of}
use Rattle.node_reader.specs.Places.{least_from}
use Rattle.volume_maker.specs.declared.volume.Extent.{Extent}
use Rattle.volume_maker.specs.declared.volume.FileAt.{FileAt}
use Rattle.volume_maker.specs.declared.volume.SubvolumeAt.{SubvolumeAt}

-- what stands; a directory is the commit that made it
pub record Standing : Type 0 where
  pub directories : List ℕ
  pub files : List FileAt
  pub subvolumes : List SubvolumeAt
  pub extents : List Extent

-- nothing, as in the base image
abbrev pub nothing_stands : Standing
nothing_stands = record { directories = []; files = []; subvolumes = []; extents = [] }

-- whether an extent has one of n sectors from one on
abbrev pub meets : ℕ → ℕ → Extent → Bool
meets sector n extent = nat_lt extent.sector (sector + n) && nat_lt sector (extent.sector + extent.sectors)

-- whether no extent has one of n sectors from one on
abbrev pub is_free : List Extent → ℕ → ℕ → Bool
is_free extents n sector = not (list_any (meets sector n) extents)

-- the lowest place of n free sectors in the data chunk, if there is one
abbrev pub lowest_free : List Extent → ℕ → Option ℕ
lowest_free extents n = least_from (is_free extents n) 0 (2049 - n)

-- the sum of a sector of one byte
unfoldable pub sum_of : ℕ → ℕ
sum_of byte = crc32c_of (replicate 4096 byte)

-- the extent that a commit makes: of sort 3 with the sum of its sectors, which are of the byte k modulo 256 at commit k, of
-- sort 4 without sums, of sort 5 preallocated
abbrev pub new_extent : ℕ → ℕ → ℕ → ℕ → Extent
new_extent commit sector sectors sort = record {
  sector = sector;
  sectors = sectors;
  commit = commit;
  sum = if sort == 3 then Some (sum_of (commit % 256)) else None;
  preallocated = sort == 5;
}

-- a file that a commit makes in a directory
abbrev pub file_at : ℕ → ℕ → Option Extent → Bool → FileAt
file_at commit dir extent sum_free = record { commit = commit; dir = dir; extent = extent; sum_free = sum_free }

-- the same with one more file
abbrev pub with_file : FileAt → Standing → Standing
with_file file s = record s { files = s.files ++ file ∷ [] }

-- the same with one more extent
abbrev pub with_extent : Extent → Standing → Standing
with_extent extent s = record s { extents = s.extents ++ extent ∷ [] }

-- a commit makes a directory
abbrev pub with_directory : ℕ → Standing → Standing
with_directory commit s = record s { directories = s.directories ++ commit ∷ [] }

-- a commit makes a subvolume, whose tree has this number
abbrev pub with_subvolume : ℕ → ℕ → Standing → Standing
with_subvolume commit id s = record s { subvolumes = s.subvolumes ++ record { id = id; commit = commit } ∷ [] }

-- a commit makes an empty file in a directory
abbrev pub with_empty_file : ℕ → ℕ → Standing → Standing
with_empty_file commit dir s = with_file (file_at commit dir None false) s

-- a commit makes a file in a directory, with a new extent of a sort at a place, where there is one
abbrev pub filled_at : Option ℕ → ℕ → ℕ → ℕ → ℕ → Standing → Standing
filled_at None commit dir sectors sort s = s
filled_at (Some sector) commit dir sectors sort s =
    let extent = new_extent commit sector sectors sort in
    with_file (file_at commit dir (Some extent) (sort == 4)) (with_extent extent s)

-- a commit makes a file in a directory, with a new extent of so many sectors and of a sort in the lowest free place
abbrev pub filled : ℕ → ℕ → ℕ → ℕ → Standing → Standing
filled commit dir sectors sort s = filled_at (lowest_free s.extents sectors) commit dir sectors sort s

-- whether a file has this inode
abbrev pub is_inode : ℕ → FileAt → Bool
is_inode ino file = 256 + file.commit == ino

-- a commit makes a file in a directory, which has the whole extent of the first file of an inode
abbrev pub shared : ℕ → ℕ → ℕ → Standing → Standing
shared commit dir of s =
    with_file (file_at commit dir (option_and_then (λ f. f.extent) (find (is_inode of) s.files)) false) s

-- files without the first of an inode
abbrev pub without : ℕ → List FileAt → List FileAt
without ino files = before_first (is_inode ino) files ++ after_first (is_inode ino) files

-- whether two extents are one: an extent is named by its first sector
abbrev pub is_extent : Extent → Option Extent → Bool
is_extent extent None = false
is_extent extent (Some other) = other.sector == extent.sector

-- whether a file has an extent
abbrev pub is_used : List FileAt → Extent → Bool
is_used files extent = list_any (λ f. is_extent extent f.extent) files

-- the first file of an inode is taken away, and an extent stands as long as a file has it
abbrev pub removed : ℕ → Standing → Standing
removed ino s = record s { files = without ino s.files; extents = filter (is_used (without ino s.files)) s.extents }

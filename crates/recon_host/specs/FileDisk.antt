-- A file that is a disk: whether it could be opened, its length, how often it was read, how often a call failed.
use Rattle.std.specs.Prelude.{ℕ, Bool, is_some}
use Rattle.recon_host.specs.declared.file_disk.FileDisk.{FileDisk}

-- the file was opened for reading and writing and locked, and its length learned
abbrev pub is_opened : {F : Type 0} → FileDisk F → Bool
is_opened disk = is_some disk.file

-- another program holds the file
abbrev pub is_held : {F : Type 0} → FileDisk F → Bool
is_held disk = disk.in_use

-- the length in bytes that was learned, 0 where none was
abbrev pub size_of : {F : Type 0} → FileDisk F → ℕ
size_of disk = disk.size

-- how often a read was asked for
abbrev pub reads_of : {F : Type 0} → FileDisk F → ℕ
reads_of disk = disk.reads

-- how often a call failed
abbrev pub faults_of : {F : Type 0} → FileDisk F → ℕ
faults_of disk = disk.faults

-- The status of a run that stops before its outcome, and of one that does not.
use Rattle.std.specs.Prelude.{ℕ, Result, Ok, Err}
use Rattle.recon_cli.specs.declared.run_fault.RunFault.{RunFault}
use Rattle.recon_cli.specs.declared.run_fault.RunFault.TheVariants.{Device, Trace, Lines, Memory}

-- 4 for a call of the disk, 5 for a read of the trace, 6 for a write of a line, 7 for want of memory
abbrev pub fault_status : RunFault → ℕ
fault_status Device = 4
fault_status Trace = 5
fault_status Lines = 6
fault_status Memory = 7

-- the status of a run as it ended
abbrev pub status_from : Result ℕ RunFault → ℕ
status_from (Ok status) = status
status_from (Err fault) = fault_status fault

-- What can be wrong with a trace: the number of each fault.
use Rattle.std.specs.Prelude.{ℕ}
use Rattle.trace_reader.specs.declared.fault.TraceFault.{TraceFault}
use Rattle.trace_reader.specs.declared.fault.TraceFault.TheVariants.{BadHeader, BadTag, BadLength, Truncated, ReadFault, NoMemory, TooMany}

-- the number of a fault, which a trace's line prints with the name that the table of the lines has for it
abbrev pub fault_number : TraceFault → ℕ
fault_number BadHeader = 1
fault_number BadTag = 2
fault_number BadLength = 3
fault_number Truncated = 4
fault_number ReadFault = 5
fault_number NoMemory = 6
fault_number TooMany = 7

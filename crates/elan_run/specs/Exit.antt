-- The numbers with which the program ends.
use Rattle.std.specs.Prelude.{ℕ}
use Rattle.elan_run.specs.declared.status.Status.{Status}
use Rattle.elan_run.specs.declared.status.Status.TheVariants.{Done, Usage, ReadFault, WriteFault, Refused, LoaderFault, NoMemory}

-- 1 is left for the machine
abbrev pub exit_of : Status → ℕ
exit_of Done = 0
exit_of Usage = 2
exit_of ReadFault = 3
exit_of WriteFault = 4
exit_of (Refused code) = 5
exit_of LoaderFault = 6
exit_of NoMemory = 7

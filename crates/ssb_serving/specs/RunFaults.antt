-- Why a run did not begin, or did not come to its end.
use Rattle.std.specs.Prelude.{◌≢◌, ℕ}
use Rattle.ssb_server.specs.Opening.{AreCounts, IsOpenFault}
use Rattle.ssb_server.specs.declared.opening.OpenFault.{OpenFault}
use Rattle.ssb_server.specs.declared.opening.OpenFault.TheVariants as opening
use Rattle.ssb_serving.specs.declared.run_fault.RunFault.{RunFault}
use Rattle.ssb_serving.specs.declared.run_fault.RunFault.TheVariants.{Open, OutOfMemory}

-- how a fault of the opening is told: want of memory is one fault, wherever it is met
abbrev pub fault_of : OpenFault → RunFault
fault_of opening.OutOfMemory = OutOfMemory
fault_of opening.ClientCount = Open opening.ClientCount
fault_of opening.DispatcherCount = Open opening.DispatcherCount
fault_of opening.NoReader = Open opening.NoReader

-- a count is refused where it is out of its range, that of the clients first; the other faults come where both are
-- right
abbrev pub IsRunFault : ℕ → ℕ → RunFault → Type 0
IsRunFault clients dispatchers (Open fault) = (fault ≢ opening.OutOfMemory) × IsOpenFault clients dispatchers fault
IsRunFault clients dispatchers OutOfMemory = AreCounts clients dispatchers

-- The rows of the table of answers that refuse a command, by their numbers.
-- Assumes nothing.
use Rattle.std.specs.Prelude.{ℕ, Result, Ok, Err}
use Rattle.table.specs.declared.Fault.{Fault}
use Rattle.table.specs.declared.Fault.TheVariants.{NotBuilt, Format, Host, Off, Meet}

abbrev pub fault_number : Fault → ℕ
fault_number NotBuilt = 4
fault_number Format = 5
fault_number Host = 6
fault_number Off = 7
fault_number Meet = 8

-- of a verdict: 0 where no row refuses
abbrev pub verdict_number : {A : Type 0} → Result A Fault → ℕ
verdict_number (Ok a) = 0
verdict_number (Err f) = fault_number f

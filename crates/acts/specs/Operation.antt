-- The command that the registers name, as functions say it. No promise rests on it: the definitions go by the number.
-- Assumes nothing.
use Rattle.registers.specs.declared.Regs.{Regs}
use Rattle.cuts.specs.Cut.{number}
use Rattle.acts.specs.declared.Operation.{Operation}
use Rattle.acts.specs.declared.Operation.TheVariants.{Nop, Copy, Stretch, HostBlit, Fill, Line, NotBuilt}
use Rattle.acts.specs.Deed.{by_number}

abbrev pub operation_of : Regs → Operation
operation_of r = by_number (number r) Nop Copy Stretch HostBlit Fill Line NotBuilt

-- by that command
abbrev pub by_operation : {A : Type 0} → Operation → A → A → A → A → A → A → A → A
by_operation Nop nop copy stretch host fill line other = nop
by_operation Copy nop copy stretch host fill line other = copy
by_operation Stretch nop copy stretch host fill line other = stretch
by_operation HostBlit nop copy stretch host fill line other = host
by_operation Fill nop copy stretch host fill line other = fill
by_operation Line nop copy stretch host fill line other = line
by_operation NotBuilt nop copy stretch host fill line other = other

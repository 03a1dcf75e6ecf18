-- `registers::get` meets its contract: in an arm the offset is that arm's number, and `get_reg` computes there.
-- Assumes nothing.
use mathlib.Core.Path.{sym}
use Rattle.registers.specs.Regs.{get_reg}
use Rattle.registers.proofs.Arms.{missed}
use Rattle.registers.proofs.RegsLaws.{registers, get-nowhere}
use Rattle.registers.proofs.Regs.get.Goals as goal

pub returns-in_default : goal.returns-in_default
returns-in_default c = sym (get-nowhere _ c.args.self (missed _ registers c.in_default.in_default-own.rest).1)

pub returns-in-8 : goal.returns-in-8
unfolding get_reg
returns-in-8 c = rw c.in-8.is

pub returns-in-12 : goal.returns-in-12
unfolding get_reg
returns-in-12 c = rw c.in-12.is

pub returns-in-16 : goal.returns-in-16
unfolding get_reg
returns-in-16 c = rw c.in-16.is

pub returns-in-20 : goal.returns-in-20
unfolding get_reg
returns-in-20 c = rw c.in-20.is

pub returns-in-24 : goal.returns-in-24
unfolding get_reg
returns-in-24 c = rw c.in-24.is

pub returns-in-28 : goal.returns-in-28
unfolding get_reg
returns-in-28 c = rw c.in-28.is

pub returns-in-32 : goal.returns-in-32
unfolding get_reg
returns-in-32 c = rw c.in-32.is

pub returns-in-36 : goal.returns-in-36
unfolding get_reg
returns-in-36 c = rw c.in-36.is

pub returns-in-40 : goal.returns-in-40
unfolding get_reg
returns-in-40 c = rw c.in-40.is

pub returns-in-44 : goal.returns-in-44
unfolding get_reg
returns-in-44 c = rw c.in-44.is

pub returns-in-48 : goal.returns-in-48
unfolding get_reg
returns-in-48 c = rw c.in-48.is

pub returns-in-52 : goal.returns-in-52
unfolding get_reg
returns-in-52 c = rw c.in-52.is

pub returns-in-56 : goal.returns-in-56
unfolding get_reg
returns-in-56 c = rw c.in-56.is

pub returns-in-60 : goal.returns-in-60
unfolding get_reg
returns-in-60 c = rw c.in-60.is

pub returns-in-64 : goal.returns-in-64
unfolding get_reg
returns-in-64 c = rw c.in-64.is

pub returns-in-76 : goal.returns-in-76
unfolding get_reg
returns-in-76 c = rw c.in-76.is

pub returns-in-80 : goal.returns-in-80
unfolding get_reg
returns-in-80 c = rw c.in-80.is

pub returns-in-84 : goal.returns-in-84
unfolding get_reg
returns-in-84 c = rw c.in-84.is

pub returns-in-88 : goal.returns-in-88
unfolding get_reg
returns-in-88 c = rw c.in-88.is

pub returns-in-92 : goal.returns-in-92
unfolding get_reg
returns-in-92 c = rw c.in-92.is

pub returns-in-96 : goal.returns-in-96
unfolding get_reg
returns-in-96 c = rw c.in-96.is

pub returns-in-100 : goal.returns-in-100
unfolding get_reg
returns-in-100 c = rw c.in-100.is

pub returns-in-104 : goal.returns-in-104
unfolding get_reg
returns-in-104 c = rw c.in-104.is

pub returns-in-108 : goal.returns-in-108
unfolding get_reg
returns-in-108 c = rw c.in-108.is

pub returns-in-112 : goal.returns-in-112
unfolding get_reg
returns-in-112 c = rw c.in-112.is

-- `trail::sieve_of` meets its contract: by the command's number.
-- Assumes nothing.
use borrow.Author.Tests.{ne_eqb}
use Rattle.command.specs.Decode.{stretch_of}
use Rattle.trail.specs.Trail.{sieve_of}
use Rattle.trail.proofs.sieve_of.Goals as goal

pub returns-in-1 : goal.returns-in-1
unfolding sieve_of
returns-in-1 c = rw (c.in-1.is, c.plainly.ensures, c.copy_task.ensures)

pub returns-in-2 : goal.returns-in-2
unfolding sieve_of stretch_of
returns-in-2 c = rw (c.in-2.is, c.decode_stretch-t.ensures)

pub returns-in_default : goal.returns-in_default
unfolding sieve_of
returns-in_default c =
    rw (ne_eqb _ _ c.in_default.in_default-own.rest.0.1, ne_eqb _ _ c.in_default.in_default-own.rest.1, c.plainly-in_default.ensures, c.fill_task.ensures)

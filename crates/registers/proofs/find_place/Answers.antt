-- `find_place` meets its contract: what the tests on the way to a return say of the offset picks its place.
-- Assumes nothing.
use mathlib.Core.Path.{sym}
use native.Mathlib.Omega.{arith}
use borrow.Author.Tests.{ne_eqb}
use Rattle.registers.specs.Offsets.{place_of}
use Rattle.registers.proofs.OffsetLaws.{register-place, launch-place, pattern-place, nowhere-place}
use Rattle.registers.proofs.find_place.Goals as goal

pub returns-then-offset-ne0 : goal.returns-then-offset-ne0
unfolding place_of
returns-then-offset-ne0 c = simp (ne_eqb _ _ c.if-offset-ne0.true)

pub returns-in-68 : goal.returns-in-68
unfolding place_of
returns-in-68 c = rw c.in-68.is

pub returns-in-72 : goal.returns-in-72
unfolding place_of
returns-in-72 c = rw c.in-72.is

pub returns-in-8-to-112 : goal.returns-in-8-to-112
returns-in-8-to-112 c = let m = c.in-8-to-112.in_default-own.rest in sym (register-place _ (omega arith) m.0.1 m.1 (omega arith) (omega arith))

pub returns-in-128-to-252 : goal.returns-in-128-to-252
returns-in-128-to-252 c = sym (launch-place _ (omega arith) (omega arith) (omega arith))

pub returns-in-256-to-508 : goal.returns-in-256-to-508
returns-in-256-to-508 c = sym (pattern-place _ (omega arith) (omega arith) (omega arith))

pub returns-in_default : goal.returns-in_default
returns-in_default c = sym (nowhere-place _ (λ l. omega arith) (λ l. omega arith) (λ l. omega arith))

pub returns-in_default-2 : goal.returns-in_default-2
returns-in_default-2 c = sym (nowhere-place _ (λ l. omega arith) (λ l. omega arith) (λ l. omega arith))

pub returns-in_default-3 : goal.returns-in_default-3
returns-in_default-3 c = sym (nowhere-place _ (λ l. omega arith) (λ l. omega arith) (λ l. omega arith))

pub returns-in_default-4 : goal.returns-in_default-4
returns-in_default-4 c = sym (nowhere-place _ (λ l. omega arith) (λ l. omega arith) (λ l. omega arith))

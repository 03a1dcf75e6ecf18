-- `strokes::seek` meets its contract: a point is what is sought, or it is passed.
-- Assumes nothing.
use Rattle.std.proofs.Common.{not, eqb}
use Rattle.strokes.proofs.PartLaws.{Passing}
use Rattle.strokes.proofs.seek.Given as goal

abbrev pub invariant-loop-at : goal.invariant-loop-at
invariant-loop-at g l = Passing l.c l.l (not (eqb g.row.INSIDE 0)) l.n l.m l.initial.at l.at l.tread

-- `trail::box_of` meets its contract: by the command's number.
-- Assumes nothing.
use mathlib.Core.Path.{◌∙◌}
use native.Mathlib.Omega.{arith}
use Rattle.trail.proofs.Boxes.{box-copy, box-host, box-line, box-fill}
use Rattle.trail.proofs.box_of.Goals as goal

pub returns-in-1 : goal.returns-in-1
returns-in-1 c = c.copy_cut.ensures ∙ box-copy c.args.r c.args.taken c.args.n c.requires.goes c.in-1.is

pub returns-in-3 : goal.returns-in-3
returns-in-3 c = c.data_cut.ensures ∙ box-host c.args.r c.args.taken c.args.n c.requires.goes c.in-3.is

pub returns-in-6-to-4294967295 : goal.returns-in-6-to-4294967295
returns-in-6-to-4294967295 c =
    c.line_cut.ensures ∙ box-line c.args.r c.args.taken c.args.n c.requires.goes (omega (arith, c.in-6-to-4294967295.if-this-lt6-own.false))

pub returns-in_default : goal.returns-in_default
returns-in_default c =
    c.fill_cut.ensures
    ∙ box-fill c.args.r c.args.taken c.args.n c.requires.goes c.in_default.in_default-own.rest.0.1 c.in_default.in_default-own.rest.1 (omega (arith, c.in_default.if-this-lt6-own.true))

-- `pages::band` meets its contract.
-- Assumes nothing.
use native.Mathlib.Omega.{arith}
use Rattle.pages.proofs.Bands.{band-tiled, band-close, band-far}
use Rattle.pages.proofs.band.Goals as goal

pub returns-then-s : goal.returns-then-s
returns-then-s c = let a = c.args in omega (arith, band-tiled a.s a.y a.h c.if-s.true)

pub returns-then-s-le4096 : goal.returns-then-s-le4096
returns-then-s-le4096 c = let a = c.args in omega (arith, band-close a.s a.y a.h c.if-s.false c.if-s-le4096.true)

pub returns : goal.returns
returns c =
    let a = c.args in omega (arith, band-far a.s a.y a.h c.if-s.false c.if-s-le4096.false)

-- `straight::straight_pixel` meets its contract: the pixel is left, which gives it what it has, or it is put there.
-- Assumes nothing.
use borrow.Author.Tests.{eq-eqb}
use mathlib.Core.Path.{◌≡◌, refl, sym, ◌∙◌}
use mathlib.Core.Bool.{false, not}
use Prim.Native.Nat.{◌+◌}
use native.Mathlib.Omega.{arith}
use lib.Dec.{eqb}
use Rattle.surface.specs.Place.{read_bytes}
use Rattle.paint.proofs.Frame.{Bytes}
use Rattle.straight.proofs.StraightLaws.{keeps, puts}
use Rattle.straight.proofs.straight_pixel.Goals as goal

pub returns-then-is_keyed : goal.returns-then-is_keyed
returns-then-is_keyed c =
    let a = c.args in
    let p = c.requires in
    let bytes : Bytes a.mem.now = (λ i. omega (arith, c.slice_known-1.given i)) in
    let old = read_bytes a.mem.now (λ k. a.d + k) 0 a.to in
    let same : false ≡ not (eqb old old) = rw (eq-eqb old old refl) in (
      keeps a.t a.from a.to a.d a.s c.get_bytes-v.result a.mem.now p.formats c.get_bytes-v.ensures
          (omega (arith, p.formats.target, p.stored.few)) bytes (sym c.is_keyed.ensures ∙ c.if-is_keyed.true),
      same,
    )

pub returns : goal.returns
returns c =
    let a = c.args in
    let p = c.requires in
    let value = c.convert_by_rule in
    let v = c.get_bytes-v in (
      puts a.t a.from a.to a.d a.s v.result a.mem.now p.formats v.ensures
          value.result _ (omega arith) (sym c.is_keyed.ensures ∙ c.if-is_keyed.false) value.ensures
          c.store_bytes.ensures.0,
      c.store_bytes.ensures.1,
    )

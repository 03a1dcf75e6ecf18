-- When two surfaces are one: the test and the equation.
-- Assumes nothing.
use mathlib.Core.Path.{◌≡◌, refl, sym, ap, ap₂}
use mathlib.Core.Bool.{Bool, true, false, ◌&&◌}
use lib.Dec.{eqb}
use borrow.Author.Tests.{eq-eqb, eqb-true}
use Rattle.surface.specs.declared.Surface.{Surface}
use Rattle.surface.specs.Place.{alike, same_surface}
use Rattle.surface.proofs.OnLaws.{and_left, and_right}

same_flag : (a b : Bool) → alike a b ≡ true → a ≡ b
same_flag true true e = refl
same_flag true false e = sym e
same_flag false true e = e
same_flag false false e = refl

one-layout : (a b : Bool) → a ≡ b → alike a b ≡ true
one-layout true b e = ap (λ t. alike true t) (sym e)
one-layout false b e = ap (λ t. alike false t) (sym e)

pub same-as : (a b : Surface) → same_surface a b ≡ true → b ≡ a
same-as a b e =
    let p = eqb-true a.base b.base (and_left (eqb a.base b.base) _ e) in
    let q = and_right (eqb a.base b.base) _ e in
    let u = eqb-true a.stride b.stride (and_left (eqb a.stride b.stride) _ q) in
    let n = and_right (eqb a.stride b.stride) _ q in
    let v = eqb-true a.bytes b.bytes (and_left (eqb a.bytes b.bytes) _ n) in
    let w = same_flag a.tiled b.tiled (and_right (eqb a.bytes b.bytes) _ n) in
    sym (λ i. record { base = p i; stride = u i; bytes = v i; tiled = w i })

pub same-surface : (s t : Surface) → s ≡ t → same_surface s t ≡ true
same-surface s t e =
    ap₂ ◌&&◌ (eq-eqb s.base t.base (ap (λ (k : Surface). k.base) e))
    (ap₂ ◌&&◌ (eq-eqb s.stride t.stride (ap (λ (k : Surface). k.stride) e))
    (ap₂ ◌&&◌ (eq-eqb s.bytes t.bytes (ap (λ (k : Surface). k.bytes) e)) (one-layout s.tiled t.tiled (ap (λ (k : Surface). k.tiled) e))))

-- `strokes::seek` meets its contract: a point is what is sought, or it is passed.
-- Assumes nothing.
use Rattle.std.proofs.Common.{◌≡◌, Bool, true, false, not, refl, arith}
use mathlib.Core.Bool.{beq}
use Rattle.line.proofs.Sides.{count-le}
use Rattle.line.proofs.TreadLaws.{way-placed, way-small}
use Rattle.strokes.proofs.PartLaws.{search-finds, search-goes, search-past}
use Rattle.strokes.proofs.seek.Goals as goal

-- the two sides of a test of two flags
as-sought : (a b : Bool) → beq a b ≡ true → a ≡ b
as-sought true true e = refl
as-sought true false e = absurd (cc)
as-sought false true e = absurd (cc)
as-sought false false e = refl

not-sought : (a b : Bool) → beq a b ≡ false → a ≡ not b
not-sought true true e = absurd (cc)
not-sought true false e = refl
not-sought false true e = refl
not-sought false false e = absurd (cc)

pub loop-at-init : goal.loop-at-init
loop-at-init g c = record {
  ahead = omega arith;
  upto = c.requires.2.within;
  way = λ h. record {
    long = c.long_side-n.ensures;
    short = c.short_side-m.ensures;
    upto = omega (arith, count-le c.args.l);
    at = rw (c.long_side-n.ensures, c.short_side-m.ensures) (c.requires.2.walk h);
  };
  passed = λ j g h. absurd (omega arith);
}

pub place_point-p-requires : goal.place_point-p-requires
place_point-p-requires g c = way-placed (c.loop-at.invariant.way (omega arith))

pub returns-then-covers : goal.returns-then-covers
returns-then-covers g c = search-finds c.loop-at.invariant (omega arith) c.place_point-p.ensures c.covers.ensures (as-sought _ _ c.if-covers.true)

pub tread_on-tread-requires : goal.tread_on-tread-requires
tread_on-tread-requires g c = way-small (c.loop-at.invariant.way (omega arith)) c.requires.0

pub loop-at-preserved : goal.loop-at-preserved
loop-at-preserved g c = search-goes c.loop-at.invariant (omega arith) c.place_point-p.ensures c.covers.ensures c.tread_on-tread.ensures (not-sought _ _ c.if-covers.false)

pub returns : goal.returns
returns g c = search-past c.loop-at.invariant c.point_count-total.ensures c.loop-at-test.false

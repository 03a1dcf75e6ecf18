-- `plain::Row::draw_bits` meets its contract: the bits of one byte, or its pixels one by one.
-- Assumes nothing.
use native.Mathlib.Omega.{arith}
use borrow.Author.Tests.{eq-eqb, not-true}
use mathlib.Core.Path.{◌≡◌, sym, ◌∙◌}
use mathlib.Core.Bool.{true}
use Prim.Native.Nat.{◌+◌, ◌-◌, ◌/◌, ◌<◌, ◌≤◌}
use Rattle.surface.proofs.OnLaws.{and_left, and_right}
use Rattle.paint.specs.Clip.{in_clip}
use Rattle.paint.specs.Paint.{tallied}
use Rattle.paint.proofs.Tallies.{room-less}
use Rattle.paint.proofs.ClipLaws.{in-clip}
use Rattle.host.proofs.Places.{mono-column}
use Rattle.plain.specs.Plain.{plain_ink}
use Rattle.plain.proofs.Bits.{between, byte-drawn}
use Rattle.plain.proofs.Row.draw_bits.Goals as goal
use Rattle.plain.proofs.Row.draw_bits.Goals.{Then-covers-p}

-- the byte of the word that holds the pixels
held : (c : Then-covers-p) → let a = c.args in (a.self.column ≤ a.i / 8) × (a.self.t + a.i / 8 - a.self.column < 4)
held c =
    let a = c.args in
    let w = c.requires.1.0 in
    let k = mono-column a.self.blit.feed a.i c.requires.1.1.0 in
    let h = w.here a.i (omega arith) (omega arith) in
    (omega (arith, k, h.low), omega (arith, k, h.high))

pub overflow_add-b : goal.overflow_add-b
overflow_add-b c = omega (arith, held (goal.at.overflow_add-b c).Then-covers-p)

pub overflow_sub-b : goal.overflow_sub-b
overflow_sub-b c = omega (arith, held (goal.at.overflow_sub-b c).Then-covers-p)

pub overflow_mul-byte : goal.overflow_mul-byte
overflow_mul-byte c = omega (arith, held (goal.at.overflow_mul-byte c).Then-covers-p)

pub overflow_shr-byte : goal.overflow_shr-byte
overflow_shr-byte c = omega (arith, held (goal.at.overflow_shr-byte c).Then-covers-p)

first-in : (c : Then-covers-p) → let a = c.args in in_clip a.self.blit.clip (a.self.blit.feed.x + a.i) (a.self.blit.feed.y + a.self.j) ≡ true
first-in c = sym c.covers.ensures ∙ c.if-covers.true

last-in : (c : Then-covers-p) → let a = c.args in in_clip a.self.blit.clip (a.self.blit.feed.x + a.i + (a.m - 1)) (a.self.blit.feed.y + a.self.j) ≡ true
last-in c = sym c.covers-then-covers.ensures ∙ and_left c.covers-then-covers.result _ c.if-covers-p.true

pub overflow_sub-x : goal.overflow_sub-x
overflow_sub-x c = omega (arith, in-clip _ _ _ (first-in (goal.at.overflow_sub-x c).Then-covers-p))

pub overflow_sub-y : goal.overflow_sub-y
overflow_sub-y c = omega (arith, in-clip _ _ _ (first-in (goal.at.overflow_sub-y c).Then-covers-p))

pub put_bits-requires : goal.put_bits-requires
unfolding plain_ink
put_bits-requires c =
    let a = c.args in
    let p = c.requires in
    let t = (goal.at.put_bits-requires c).Then-covers-p in
    let k = in-clip _ _ _ (first-in t) in
    let w = p.1.0 in (
      (
        (p.0.colour, not-true a.self.blit.plain.target.tiled (and_right c.covers-then-covers.result _ c.if-covers-p.true)),
        (
          record {
            wide = omega (arith, in-clip _ _ _ (last-in t), p.0.bits12);
            on = λ q l h.
                let e : a.self.blit.feed.x + (a.i + (q - (a.self.blit.feed.x + a.i - 16384))) - 16384 ≡ q = omega (arith, k) in
                let f : a.self.blit.feed.x + a.i + (q - (a.self.blit.feed.x + a.i - 16384)) ≡ a.self.blit.feed.x + (a.i + (q - (a.self.blit.feed.x + a.i - 16384))) = omega arith in
                rw e at (p.0.covered.on (a.i + (q - (a.self.blit.feed.x + a.i - 16384))) a.self.j (omega (arith, k, w.past)) w.row
                (rw f at (between a.self.blit.clip (a.self.blit.feed.x + a.i) (a.self.blit.feed.y + a.self.j) a.m (q - (a.self.blit.feed.x + a.i - 16384)) (first-in t) (last-in t) (omega (arith, k)))));
          },
          room-less w.room (omega arith),
        ),
      ),
      omega (arith, p.1.1.1.1),
    )

pub returns-then-covers-p : goal.returns-then-covers-p
returns-then-covers-p c =
    let t = (goal.at.returns-then-covers-p c).Then-covers-p in
    let a = c.args in
    let mono = c.requires.1.1.0 in
    let fits = c.requires.1.1.1.1 in
    c.put_bits.ensures
    ∙ byte-drawn a.self.blit.plain a.self.blit.clip a.self.blit.feed a.self.last a.self.word (a.self.t + a.i / 8 - a.self.column) a.self.j a.i mono (omega (arith, c.well_formed)) (omega (arith, c.well_formed)) (omega (arith, c.well_formed))
    (held t).1 (omega (arith, in-clip _ _ _ (first-in t))) a.m (tallied a.mem.now a.n)
    (λ q h. between a.self.blit.clip (a.self.blit.feed.x + a.i) (a.self.blit.feed.y + a.self.j) a.m q (first-in t) (last-in t) h)
    (λ q h. omega (arith, mono-column a.self.blit.feed (a.i + q) mono, (c.requires.1.0.here (a.i + q) (omega arith) (omega arith)).byte, fits)) fits

pub draw_each-requires : goal.draw_each-requires
draw_each-requires c = let p = c.requires in (p.0, (p.1.0, sym (eq-eqb _ _ p.1.1.0)))

pub returns : goal.returns
returns c =
    let a = c.args in
    let e : a.i + a.m - a.i ≡ a.m = omega arith in
    rw e at c.draw_each.ensures

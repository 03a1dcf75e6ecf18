-- `surface::get_at` meets its contract: three bytes one by one, or one piece.
-- Assumes nothing.
use mathlib.Core.Path.{◌∙◌}
use native.Mathlib.Omega.{arith}
use Rattle.surface.proofs.OnLaws.{colour-byte}
use Rattle.surface.proofs.Run.{has-three, on-tiles, pixel-held, read-run, read-three}
use Rattle.surface.proofs.get_at.Goals as goal

pub get_three-requires : goal.get_three-requires
get_three-requires g c =
    let n = has-three c.args.s c.if-s.true in
    let h = colour-byte c.requires.on in
    let there = c.requires.there in (
      rw (there 0 _ (omega arith) c.place-at.ensures) (h 0 (omega arith)).inside,
      rw (there 1 _ (omega arith) c.place.ensures) (h 1 (omega arith)).inside,
      rw (there 2 _ (omega arith) c.place-then-s.ensures) (h 2 (omega arith)).inside,
    )

pub returns-then-s : goal.returns-then-s
returns-then-s g c =
    let a = c.args in
    let n = has-three a.s c.if-s.true in
    let there = c.requires.there in
    c.get_three.ensures
    ∙ read-three a.s n a.x a.y (there 0 _ (omega arith) c.place-at.ensures) (there 1 _ (omega arith) c.place.ensures)
    (there 2 _ (omega arith) c.place-then-s.ensures) a.mem.now

pub get_bytes-requires : goal.get_bytes-requires
get_bytes-requires g c =
    let on = c.requires.on in
    pixel-held (on-tiles _ on.colour c.if-s.false) on _ (c.requires.there 0 _ on.colour.some c.place-at.ensures)

pub returns : goal.returns
returns g c =
    let a = c.args in
    let colour = c.requires.on.colour in
    c.get_bytes.ensures
    ∙ read-run a.s (on-tiles a.s colour c.if-s.false) a.x a.y _ (c.requires.there 0 _ colour.some c.place-at.ensures) a.mem.now

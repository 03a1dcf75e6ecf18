-- `strokes::paint_line` meets its contract: walking, with a stipple or without, with the pattern or in part, and going point by point come to the same.
-- Assumes nothing.
use Rattle.std.proofs.Common.{◌≡◌, false, not, ◌&&◌, List, sym, ap, ◌∙◌, arith}
use borrow.Author.Tests.{not-true}
use Rattle.surface.proofs.OnLaws.{and_left, and_right}
use Rattle.paint.specs.Paint.{state, Touch, paint}
use Rattle.line.specs.Line.{point_count, points}
use Rattle.strokes.proofs.WalkDraw.{is-direct, from-inside, to_inside, walkable, plain-walkable, plain_walk, plain-style, walk-drawn, mixed-drawn}
use Rattle.strokes.proofs.MixedLaws.{mix-from, mix-to, mix-solid, mixable}
use Rattle.strokes.proofs.PartLaws.{clip-drawn}
use Rattle.strokes.proofs.paint_line.Goals as goal

pub walk_plain-tally-requires : goal.walk_plain-tally-requires
walk_plain-tally-requires c =
    let a = c.args in
    plain-walkable (walkable a.ink a.c a.l a.style (sym c.can_walk.ensures ∙ c.if-can_walk.true) c.requires)

pub returns-then-not-pen : goal.returns-then-not-pen
returns-then-not-pen c =
    let a = c.args in
    let no : a.pen.stippled ≡ false = not-true _ c.if-not-pen.true in
    let drawn = walk-drawn a.c a.l (from-inside a.ink a.c a.l a.style (sym c.can_walk.ensures ∙ c.if-can_walk.true)) (to_inside a.ink a.c a.l a.style (sym c.can_walk.ensures ∙ c.if-can_walk.true)) a.ink a.pattern.now a.pen
    (is-direct a.ink a.c a.l a.style (sym c.can_walk.ensures ∙ c.if-can_walk.true)) (omega arith) (omega arith) a.style in (
      c.walk_plain-tally.ensures ∙ ap (λ (ts : List Touch). paint a.ink.target ts (state a.mem.now 0 0)) (plain_walk a.ink a.pen no a.style (points a.l) ∙ drawn),
      plain-style a.ink a.pen no (point_count a.l) a.style,
    )

pub walk_line-requires : goal.walk_line-requires
walk_line-requires c =
    let a = c.args in
    walkable a.ink a.c a.l a.style (sym c.can_walk.ensures ∙ c.if-can_walk.true) c.requires

pub returns-then-can_walk : goal.returns-then-can_walk
returns-then-can_walk c =
    let a = c.args in
    let drawn = walk-drawn a.c a.l (from-inside a.ink a.c a.l a.style (sym c.can_walk.ensures ∙ c.if-can_walk.true)) (to_inside a.ink a.c a.l a.style (sym c.can_walk.ensures ∙ c.if-can_walk.true)) a.ink a.pattern.now a.pen
    (is-direct a.ink a.c a.l a.style (sym c.can_walk.ensures ∙ c.if-can_walk.true)) (omega arith) (omega arith) a.style in
    (c.walk_line.ensures.0 ∙ ap (λ (ts : List Touch). paint a.ink.target ts (state a.mem.now 0 0)) drawn, c.walk_line.ensures.1)

pub walk_mixed-tally-requires : goal.walk_mixed-tally-requires
walk_mixed-tally-requires c =
    let a = c.args in
    mixable a.ink a.c a.l a.pen (sym c.can_mix.ensures ∙ c.if-can_mix.true) c.requires

pub returns-then-can_mix : goal.returns-then-can_mix
returns-then-can_mix c =
    let a = c.args in
    let can = (sym c.can_mix.ensures ∙ c.if-can_mix.true) in
    let no = mix-solid a.ink a.c a.l a.pen can in (
      c.walk_mixed-tally.ensures
          ∙ ap (λ (ts : List Touch). paint a.ink.target ts (state a.mem.now 0 0)) (mixed-drawn a.c a.l (mix-from a.ink a.c a.l a.pen can) (mix-to a.ink a.c a.l a.pen can) a.ink a.pattern.now a.pen no a.style),
      plain-style a.ink a.pen no (point_count a.l) a.style,
    )

pub walk_clipped-tally-requires : goal.walk_clipped-tally-requires
walk_clipped-tally-requires c = (c.requires, not-true c.args.ink.target.tiled (and_right (c.is_direct.result && not c.args.pen.stippled) (not c.args.ink.target.tiled) c.if-is_direct-pen.true))

pub returns-then-is_direct-pen : goal.returns-then-is_direct-pen
returns-then-is_direct-pen c =
    let a = c.args in
    let both = and_left (c.is_direct.result && not a.pen.stippled) (not a.ink.target.tiled) c.if-is_direct-pen.true in
    let d = sym c.is_direct.ensures ∙ and_left c.is_direct.result (not a.pen.stippled) both in
    let no = not-true a.pen.stippled (and_right c.is_direct.result (not a.pen.stippled) both) in (
      c.walk_clipped-tally.ensures ∙ ap (λ (ts : List Touch). paint a.ink.target ts (state a.mem.now 0 0)) (clip-drawn a.ink a.pattern.now a.c a.pen d no (omega arith) (omega arith) a.style (points a.l)),
      plain-style a.ink a.pen no (point_count a.l) a.style,
    )

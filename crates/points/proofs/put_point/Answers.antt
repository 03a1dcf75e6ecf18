-- `points::put_point` meets its contract: a pixel that gets its source needs neither the pattern nor what stands there.
-- Assumes nothing.
use native.Mathlib.Omega.{arith}
use mathlib.Core.Path.{sym, ap, ap₂, ◌∙◌}
use mathlib.Core.Option.{Option}
use Prim.Native.Nat.{ℕ}
use Rattle.surface.specs.Place.{read_px}
use Rattle.surface.specs.Pixels.{px}
use Rattle.paint.specs.declared.Source.{Source}
use Rattle.paint.specs.Paint.{tallied, dab}
use Rattle.paint.specs.Mix.{mixed, sourced}
use Rattle.paint.proofs.MixLaws.{mixed-by}
use Rattle.ink.specs.Pattern.{pattern_value}
use Rattle.points.proofs.PutLaws.{direct-source}
use Rattle.points.proofs.put_point.Goals as goal

pub returns-then-is_direct : goal.returns-then-is_direct
returns-then-is_direct c =
    let a = c.args in
    let s = a.ink.target in
    let direct = direct-source a.ink (pattern_value a.ink a.pattern.now a.x a.y) (read_px a.mem.now s a.x a.y) a.bit
    (sym c.is_direct.ensures ∙ c.if-is_direct.true) (omega (arith, c.well_formed)) (omega (arith, c.well_formed)) in
    c.put_close.ensures ∙ ap (λ (source : Source). dab s (px a.x a.y) (sourced source) (tallied a.mem.now a.n)) c.bit_source-source.ensures
    ∙ ap (λ (v : Option ℕ). dab s (px a.x a.y) v (tallied a.mem.now a.n)) (sym direct)

pub returns : goal.returns
returns c =
    let a = c.args in
    let s = a.ink.target in
    c.put_close-2.ensures
    ∙ ap (λ (v : Option ℕ). dab s (px a.x a.y) v (tallied a.mem.now a.n)) (mixed-by a.ink c.pattern_seen-value.result c.bit_source-source.result c.get_close-old.ensures c.mix-v.ensures)
    ∙ ap₂ (λ (v : ℕ) (source : Source). dab s (px a.x a.y) (mixed a.ink v source (read_px a.mem.now s a.x a.y)) (tallied a.mem.now a.n))
    c.pattern_seen-value.ensures c.bit_source-source.ensures

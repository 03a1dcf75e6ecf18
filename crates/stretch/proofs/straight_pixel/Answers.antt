-- `stretch::straight_pixel` meets its contract: with a key or without.
-- Assumes nothing.
use mathlib.Core.Path.{◌≡◌, sym, ap, subst⁻¹, ◌∙◌}
use mathlib.Core.Bool.{false}
use lib.ListN.{length}
use Rattle.straight.specs.declared.Straight.{Straight}
use Rattle.straight.specs.Straight.{copied}
use Rattle.straight.specs.Asked.{PixelCopies}
use Rattle.rect.specs.Fast.{straight_of}
use Rattle.stretch.proofs.straight_pixel.Goals as goal

pub straight_pixel-requires : goal.straight_pixel-requires
straight_pixel-requires c =
    let a = c.args in
    subst⁻¹ (λ (k : Straight). PixelCopies k a.from a.to a.d a.s (length a.mem.now)) (c.straight_of-k.ensures ∙ ap straight_of c.task_of.ensures) c.requires.0

pub returns-then-keyed : goal.returns-then-keyed
returns-then-keyed c =
    let a = c.args in (
      c.straight_pixel.ensures.0 ∙ ap (λ (k : Straight). copied k a.d a.s a.mem.now) (c.straight_of-k.ensures ∙ ap straight_of c.task_of.ensures),
      c.straight_pixel.ensures.1,
    )

pub plain_pixel-requires : goal.plain_pixel-requires
unfolding straight_of
plain_pixel-requires c =
    let a = c.args in
    subst⁻¹ (λ (k : Straight). PixelCopies k a.from a.to a.d a.s (length a.mem.now) × (k.key ≡ false)) (c.straight_of-k.ensures ∙ ap straight_of c.task_of.ensures)
    (c.requires.0, sym c.requires.1 ∙ c.if-keyed.false)

pub returns : goal.returns
returns c =
    let a = c.args in (
      c.plain_pixel.ensures.0 ∙ ap (λ (k : Straight). copied k a.d a.s a.mem.now) (c.straight_of-k.ensures ∙ ap straight_of c.task_of.ensures),
      c.plain_pixel.ensures.1,
    )

-- The source of a copied pixel: its bit, or its colour.
-- Assumes nothing.
use mathlib.Core.Path.{◌≡◌, ap, ◌∙◌}
use mathlib.Core.Bool.{Bool, true, cond}
use mathlib.Core.List.{List}
use Prim.Native.Nat.{ℕ}
use lib.Dec.{eqb}
use borrow.Author.Tests.{eq-eqb, ne_eqb}
use Rattle.surface.specs.Place.{read_px, mono_bit}
use Rattle.surface.specs.Pixels.{Px}
use Rattle.paint.specs.declared.Source.{Source}
use Rattle.paint.specs.Mix.{bit_source, fill_source, colour_source}
use Rattle.sweep.specs.declared.Task.{Task}
use Rattle.sweep.specs.Copy.{source_place, source_by}

module _ (t : Task) (copies : t.copies ≡ true) (bit : ℕ) (now : List ℕ) (p : Px) where
  abbrev mono : Source
  mono = bit_source t.ink (mono_bit now t.from (source_place t p).x (source_place t p).y)

  abbrev deep : Source
  deep = colour_source t.ink t.from.bytes (read_px now t.from (source_place t p).x (source_place t p).y)

  copied_source : source_by t bit now p ≡ cond (eqb t.from.bytes 0) mono deep
  unfolding source_by
  copied_source = ap (λ (c : Bool). cond c (cond (eqb t.from.bytes 0) mono deep) (fill_source t.ink bit)) copies

  pub mono-source : t.from.bytes ≡ 0 → source_by t bit now p ≡ mono
  mono-source e = copied_source ∙ ap (λ (z : Bool). cond z mono deep) (eq-eqb t.from.bytes 0 e)

  pub colour-source : (t.from.bytes ≡ 0 → ⊥) → source_by t bit now p ≡ deep
  colour-source e = copied_source ∙ ap (λ (z : Bool). cond z mono deep) (ne_eqb t.from.bytes 0 e)

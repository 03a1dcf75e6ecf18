-- `plan::source_of` meets its contract: the key by its range.
-- Assumes nothing.
use mathlib.Core.Path.{refl, ap₂, ◌∙◌}
use mathlib.Core.Bool.{Bool, false}
use Prim.Native.Nat.{ℕ}
use Rattle.paint.specs.Mix.{source, colour_source}
use Rattle.plan.proofs.PlanLaws.{hit}
use Rattle.plan.proofs.source_of.Goals as goal

pub returns : goal.returns
unfolding colour_source
returns c =
    let a = c.args in
    ap₂ (λ (v : ℕ) (k : Bool). source v k false) c.convert_by_rule.ensures (c.is_hit.ensures ∙ hit a.ink.src_key a.ink.src_min a.ink.src_max a.v refl c.requires)

-- `plan::quad_at` meets its contract: the key by its range.
-- Assumes nothing.
use native.Mathlib.Omega.{arith}
use mathlib.Core.Path.{refl, ap, ◌∙◌}
use mathlib.Core.Bool.{Bool}
use Prim.Native.Nat.{ℕ, ◌+◌, ◌*◌}
use Rattle.plan.specs.Plan.{code_at}
use Rattle.plan.proofs.PlanLaws.{hit}
use Rattle.plan.proofs.quad_at.Goals as goal

pub returns : goal.returns
returns c =
    let a = c.args in (
      ap (λ (k : ℕ). k + a.column * 4)
          (c.code_at.ensures.0 ∙ ap (λ (t : Bool). code_at a.key t) (c.is_hit.ensures ∙ hit a.ink.dst_key a.ink.dst_min a.ink.dst_max a.old refl c.requires.0)),
      omega (arith, c.code_at.ensures.1, c.requires.1),
    )

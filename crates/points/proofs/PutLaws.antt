-- A law of a pixel put: one whose command is direct is given its source.
-- Assumes nothing.
use mathlib.Core.Path.{◌≡◌}
use mathlib.Core.Bool.{true, cond, ◌&&◌}
use Prim.Native.Nat.{ℕ, ◌^◌, ◌<◌}
use lib.Dec.{eqb}
use Rattle.ink.specs.declared.Ink.{Ink}
use Rattle.paint.specs.Mix.{bit_source, mixed, direct, sourced}
use Rattle.paint.proofs.MixLaws.{direct-mixed}
use Rattle.line.proofs.Sides.{either}

pub direct-source : (ink : Ink) (value old bit : ℕ) → direct ink ≡ true → ink.fore < 2 ^ 32 → ink.back < 2 ^ 32
    → mixed ink value (bit_source ink bit) old ≡ sourced (bit_source ink bit)
unfolding bit_source
direct-source ink value old bit d fore back =
    direct-mixed ink value (cond (eqb bit 1) ink.fore ink.back) old (ink.clear && eqb bit 0) d
    (either (eqb bit 1) (λ e. rw e fore) (λ e. rw e back))

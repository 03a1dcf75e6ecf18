-- `ink::pattern_in` meets its contract: the pixel's bytes are the first of the four that are read.
-- Assumes nothing.
use borrow.Author.Rules.{rules}
use native.Mathlib.Omega.{arith}
use lib.ListN.{get_or}
use mir.Val.{Fits}
use mir.Syntax.{w8}
use mathlib.Core.Path.{◌∙◌, ap}
use Prim.Native.Nat.{ℕ, ◌%◌, ◌^◌}
use Rattle.ink.specs.Pattern.{pattern_in}
use Rattle.ink.proofs.PatternLaws.{pixel_there}
use Rattle.ink.proofs.pattern_in.Goals as goal

small : (c : goal.After-low_bytes) (i : ℕ) → Fits w8 (get_or c.args.pattern.now i 0)
small c i = search rules

pub returns : goal.returns
unfolding pattern_in
returns c =
    let a = c.args in
    let n = a.ink.target.bytes in
    rw c.if-ink.false
    (c.low_bytes.ensures ∙ ap (λ w. w % 256 ^ n) c.get_bytes.ensures ∙ pixel_there a.pattern.now a.column a.row n c.requires (λ i. omega (arith, small c i)))

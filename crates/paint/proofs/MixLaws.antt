-- Laws of one covered pixel: what it is given, by the steps of the code, where no raster operation looks at the pattern, and where it gets its source.
-- Assumes nothing.
use mathlib.Core.Path.{◌≡◌, refl, sym, ap, ◌∙◌}
use mathlib.Core.Bool.{Bool, true, false, cond, not, ◌&&◌}
use mathlib.Core.Option.{Option, none, some}
use Prim.Native.Nat.{ℕ, ◌%◌, ◌^◌, ◌<◌}
use native.Mathlib.Nat.{mod-eq_of_lt}
use lib.Dec.{eqb}
use borrow.Author.Tests.{eqb-true}
use Rattle.raster.specs.Rop.{rop_bits, pattern_free}
use Rattle.keys.specs.Key.{key_match}
use Rattle.raster.proofs.RopLaws.{copies, pattern-free}
use Rattle.surface.proofs.OnLaws.{and_left, and_right}
use Rattle.ink.specs.declared.Ink.{Ink}
use Rattle.paint.specs.declared.Source.{Source}
use Rattle.paint.specs.Mix.{source, chosen, target_match, patternless, mixed, direct}

-- a pixel is given what pattern, source and target make
pub mixed-by : (ink : Ink) (pattern : ℕ) (s : Source) {old v now : ℕ} → old ≡ now → v ≡ rop_bits 32 (chosen ink s.key (target_match ink old)) pattern s.value old
    → cond s.left none (some v) ≡ mixed ink pattern s now
unfolding mixed
mixed-by ink pattern s o r = rw (← o, ← r)

-- ---- a pattern that no raster operation looks at
pub pattern-unread : (ink : Ink) (p q : ℕ) (s : Source) (old : ℕ) → patternless ink ≡ true → mixed ink p s old ≡ mixed ink q s old
unfolding mixed chosen
pattern-unread ink p q s old e =
    ap {B = Option ℕ} (λ (v : ℕ). cond s.left none (some v)) (pattern-free 32 (chosen ink s.key (target_match ink old)) p q s.value old (free s.key (target_match ink old)))
  where
    low : Bool
    low = pattern_free ink.rop0 && pattern_free ink.rop1

    high : Bool
    high = pattern_free ink.rop2 && pattern_free ink.rop3

    free : (a b : Bool) → pattern_free (chosen ink a b) ≡ true
    free true true = and_right (pattern_free ink.rop2) (pattern_free ink.rop3) (and_right low high e)
    free true false = and_left (pattern_free ink.rop2) (pattern_free ink.rop3) (and_right low high e)
    free false true = and_right (pattern_free ink.rop0) (pattern_free ink.rop1) (and_left low high e)
    free false false = and_left (pattern_free ink.rop0) (pattern_free ink.rop1) (and_left low high e)

-- ---- a pixel that gets its source
pub not-true : (b : Bool) → not b ≡ true → b ≡ false
not-true true e = sym e
not-true false e = refl

pub direct-low : (ink : Ink) (pattern v old : ℕ) (left : Bool) → direct ink ≡ true
    → mixed ink pattern (source v false left) old ≡ cond left none (some (v % 2 ^ 32))
unfolding mixed chosen
direct-low ink pattern v old left e =
    let key = not-true ink.dst_key (and_right (eqb ink.rop0 0xcc) (not ink.dst_key) e) in
    let code = eqb-true ink.rop0 0xcc (and_left (eqb ink.rop0 0xcc) (not ink.dst_key) e) in
    ap {B = Option ℕ} (λ (k : Bool). cond left none (some (rop_bits 32 (chosen ink false (k && key_match ink.target.bytes ink.dst_min ink.dst_max old)) pattern v old))) key
    ∙ ap {B = Option ℕ} (λ (c : ℕ). cond left none (some (rop_bits 32 c pattern v old))) code
    ∙ ap {B = Option ℕ} (λ (u : ℕ). cond left none (some u)) (copies 32 pattern v old)

pub direct-mixed : (ink : Ink) (pattern v old : ℕ) (left : Bool) → direct ink ≡ true → v < 2 ^ 32
    → mixed ink pattern (source v false left) old ≡ cond left none (some v)
direct-mixed ink pattern v old left e small =
    direct-low ink pattern v old left e ∙ ap {B = Option ℕ} (λ (u : ℕ). cond left none (some u)) (mod-eq_of_lt small)

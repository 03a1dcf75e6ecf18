-- Laws of what a surface's words say: whatever they are, the surface is small; and a target that is named is no mono one.
-- Assumes nothing.
use mathlib.Core.Path.{◌≡◌, refl, ◌∙◌}
use mathlib.Core.Bool.{Bool, true, false, cond, not, ◌||◌, false≢true}
use Prim.Native.Nat.{ℕ, ◌+◌, ◌*◌, ◌/◌, ◌%◌, ◌^◌, ◌<◌, ◌≤◌}
use native.Mathlib.Omega.{arith}
use lib.Dec.{eqb}
use borrow.Author.Tests.{not-true}
use Rattle.surface.specs.Asked.{Small, Colour}
use Rattle.formats.specs.Format.{is_tiled, target_code, source_code, coloured, bytes_of, target_named, view_named, target_of, source_of}
use Rattle.formats.specs.Step.{packing_of, bits_per, row_length, step_of}
use Rattle.surface.proofs.Bytes.{product_lt}
use Rattle.surface.proofs.OnLaws.{and_left, and_right}

bytes-cases : (a b c d : Bool) → cond a 2 (cond b 3 (cond c 4 (cond d 1 0))) < 5
bytes-cases true b c d = omega arith
bytes-cases false true c d = omega arith
bytes-cases false false true d = omega arith
bytes-cases false false false true = omega arith
bytes-cases false false false false = omega arith

pub bytes_small : (code : ℕ) → bytes_of code < 5
bytes_small code = bytes-cases (eqb code 3) (eqb code 4) (eqb code 5) (eqb code 1)

colour-cases : (a b c d : Bool) → (d || (a || (b || c))) ≡ true → 0 < cond a 2 (cond b 3 (cond c 4 (cond d 1 0)))
colour-cases true b c d e = omega arith
colour-cases false true c d e = omega arith
colour-cases false false true d e = omega arith
colour-cases false false false true e = omega arith
colour-cases false false false false e = absurd (false≢true e)

pub coloured-bytes : (code : ℕ) → coloured code ≡ true → 0 < bytes_of code
coloured-bytes code e = colour-cases (eqb code 3) (eqb code 4) (eqb code 5) (eqb code 1) e

pub target_small : (base format : ℕ) → Small (target_of base format)
unfolding target_of
target_small base format = record { base = omega arith; stride = omega arith; bytes = bytes_small (target_code format) }

pub target-colour : (base format : ℕ) → target_named format ≡ true → Colour (target_of base format)
unfolding target_of
target-colour base format e = record { small = target_small base format; some = coloured-bytes (target_code format) e }

-- the flag is the word's
pub target-layout : (base format : ℕ) → (target_of base format).tiled ≡ is_tiled base
unfolding target_of
target-layout base format = refl

pub source-layout : (base format width : ℕ) → (source_of base format width).tiled ≡ is_tiled base
unfolding source_of
source-layout base format width = refl

-- a surface whose rows can be viewed is a target in rows
pub view-target : (base format : ℕ) → view_named base format ≡ true → target_named format ≡ true
view-target base format e = and_right (not (is_tiled base)) (target_named format) e

pub view-flat : (base format : ℕ) → view_named base format ≡ true → (target_of base format).tiled ≡ false
view-flat base format e = target-layout base format ∙ not-true (is_tiled base) (and_left (not (is_tiled base)) (target_named format) e)

-- ---- steps
bits-le : (bytes : ℕ) → bytes < 5 → bits_per bytes < 2 ^ 6
bits-le bytes h = by-test (eqb bytes 0)
  where
    by-test : (t : Bool) → cond t 1 (8 * bytes) < 2 ^ 6
    by-test true = omega arith
    by-test false = omega arith

pub row_small : (bytes width : ℕ) → bytes < 5 → width < 2 ^ 13 → row_length bytes width ≤ 2 ^ 16
unfolding row_length
row_small bytes width h k = omega (arith, product_lt 13 6 {a = width} {b = bits_per bytes} k (bits-le bytes h))

step_small : (packing bytes width stride : ℕ) → bytes < 5 → width < 2 ^ 13 → stride < 2 ^ 14 → step_of packing bytes width stride < 2 ^ 17
unfolding step_of
step_small packing bytes width stride h k l =
    let row = row_small bytes width h k in by-test (eqb packing 0) (eqb packing 1) (eqb packing 2) row
  where
    by-test : (a b c : Bool) → row_length bytes width ≤ 2 ^ 16
        → cond a stride (cond b (row_length bytes width) (cond c ((row_length bytes width + 1) / 2 * 2) ((row_length bytes width + 3) / 4 * 4))) < 2 ^ 17
    by-test true b c row = omega arith
    by-test false true c row = omega arith
    by-test false false true row = omega arith
    by-test false false false row = omega arith

pub source-small : (base format width : ℕ) → width < 2 ^ 13 → Small (source_of base format width)
unfolding source_of
source-small base format width h = record {
  base = omega arith;
  stride = step_small (packing_of format) (bytes_of (source_code format)) width (format % 2 ^ 14) (bytes_small (source_code format)) h (omega arith);
  bytes = bytes_small (source_code format);
}

-- A row of at most 256 pixels, tinted: the pixels that are not as they were kept are those that painting changes.
-- Assumes nothing.
use mathlib.Core.Path.{◌≡◌, sym, ap, subst, ◌∙◌}
use mathlib.Core.Bool.{false}
use mathlib.Core.List.{List, append-nil}
use Prim.Native.Nat.{ℕ, ◌+◌, ◌*◌, ◌≤◌}
use native.Mathlib.Omega.{arith}
use lib.ListN.{length, get_or}
use Rattle.surface.specs.declared.Surface.{Surface}
use Rattle.surface.specs.Place.{byte_of}
use Rattle.surface.specs.Pixels.{across, rect}
use Rattle.surface.proofs.OnLaws.{on-column}
use Rattle.surface.proofs.Rects.{Distinct, in-across, rect-distinct}
use Rattle.surface.proofs.Run.{in-rows, pixel-held, run-byte, run-pixel}
use Rattle.paint.specs.declared.Tally.{Tally}
use Rattle.paint.specs.Tally.{tally, noted}
use Rattle.paint.specs.Paint.{State, tallied, state, Touch, paint, changing, summed}
use Rattle.paint.proofs.Frame.{pixels, pixels-of, changed-most, painted-after}
use Rattle.paint.proofs.Changes.{Columns, told}
use Rattle.runs.specs.Runs.{unlikes, RowKept}
use Rattle.runs.specs.Asked.{PixelsOn}
use Rattle.runs.proofs.Alike.{row-unlike}
use Rattle.runs.proofs.Keeping.{pixels-kept}
use Rattle.tint.specs.Masking.{tinting, tintings, Painted}
use Rattle.tint.specs.Asked.{CanTint}
use Rattle.tint.proofs.RowLaws.{run-begun, run-few}

-- no pixel of a row twice
row-distinct : (x w y : ℕ) → Distinct (across false x w y)
unfolding rect
row-distinct x w y = subst Distinct (append-nil (across false x w y)) (rect-distinct false false x y w 1)

-- where the row's pixels are
pub row_on : {s : Surface} {keep flip adds : List ℕ} {first len x w y : ℕ} → CanTint s keep flip adds first len x w y → (at : ℕ) → at ≡ byte_of s x y 0 → PixelsOn at s.bytes w len
row_on {s} {x = x} {y = y} can at e = record {
  some = can.colour.some;
  few = can.colour.small.bytes;
  wide = omega (arith, can.on.wide);
  held = λ i l. pixel-held (in-rows can.flat) (can.on.on (x + i) (omega arith) (omega arith)) _ (run-pixel s can.flat x y at e i);
}

module _ {s : Surface} {keep flip adds : List ℕ} {first x w y : ℕ} {m₀ m o old : List ℕ} {count c : ℕ} (can : CanTint s keep flip adds first (length m₀) x w y)
    (kept : RowKept s m₀ (x * s.bytes) y (w * s.bytes) o old) (put : Painted s (tintings s keep flip adds first x (across false x w y)) m₀ m count)
    (at : ℕ) (there : at ≡ byte_of s x y 0) (sum : c ≡ unlikes old m s.bytes 0 at w) where
  abbrev ts : List Touch
  ts = tintings s keep flip adds first x (across false x w y)

  its : pixels ts ≡ across false x w y
  its = pixels-of (λ p now. tinting s keep flip adds first x now p) (across false x w y)

  part-told : state m count c ≡ paint s ts (state m₀ 0 0)
  part-told =
      let changed : c ≡ summed (changing s m₀ m) (across false x w y) =
      sum ∙ row-unlike s y m₀ m old m x 0 at w (pixels-kept can.colour.some x y w kept) (λ i k l u. ap (λ (a : ℕ). get_or m a 0) (run-byte s can.flat x y at there i k)) in
      told s can.colour.some ts m₀ (tally 0 0) (subst Distinct (sym its) (row-distinct x w y))
      (subst (Columns s) (sym its) (λ p i. let b = in-across false x w y p i in on-column s (length m₀) p.x y (can.on.on p.x b.0 b.1).on))
      (ap (λ (st : State). st.mem) put.1) (ap (λ (st : State). st.tally.count) put.1)
      (changed ∙ ap (summed (changing s m₀ m)) (sym its) ∙ omega arith)

  -- it changes no more than it writes, and writes no more than there are
  pub part-few : (c ≤ count) × (count ≤ w)
  part-few = (
    subst (λ (st : State). st.tally.changed ≤ st.tally.count) (sym part-told) (changed-most s ts (state m₀ 0 0) (omega arith)),
    run-few can (run-begun can w (omega arith) put),
  )

  pub part-after : (n : Tally) → tallied m (noted count c n) ≡ paint s ts (tallied m₀ n)
  part-after n = painted-after s ts m₀ n part-told

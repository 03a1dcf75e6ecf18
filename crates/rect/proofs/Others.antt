-- A plain copy that shares no pixel with its source: the pixels that are not their source pixels, counted row by row before it, are those that it changes.
-- Assumes nothing.
use mathlib.Core.Path.{◌≡◌, refl, sym, ap, ap₂, ◌∙◌}
use mathlib.Core.Bool.{false}
use mathlib.Core.List.{List}
use Prim.Native.Nat.{ℕ, zero, suc, ◌+◌, ◌-◌, ◌<◌, ◌≤◌}
use native.Mathlib.Omega.{arith}
use lib.ListN.{get_or}
use Rattle.surface.specs.Place.{byte_of, read_bytes, read_px}
use Rattle.surface.specs.Pixels.{px, across, rect}
use Rattle.surface.proofs.Bytes.{read_as}
use Rattle.paint.specs.Paint.{changing, summed}
use Rattle.paint.proofs.Changes.{summed-append}
use Rattle.sweep.specs.declared.Task.{Task}
use Rattle.sweep.specs.Copy.{source_place}
use Rattle.sweep.proofs.TaskLaws.{can-number}
use Rattle.runs.specs.Runs.{Given}
use Rattle.blocks.specs.Blocks.{others_down}
use Rattle.blocks.specs.Asked.{PartOn, RowsOn}
use Rattle.blocks.proofs.Others.{others-sum}
use Rattle.rect.specs.Fast.{source_byte}
use Rattle.rect.specs.Asked.{Apart}
use Rattle.rect.proofs.Plain.{PlainCopy, plainly-plain}

module _ {t : Task} {w h len : ℕ} (apart : Apart t w h len) where
  plain : PlainCopy t
  plain = plainly-plain t apart.plain

  -- a row and its source can be held to each other
  down-part : (j : ℕ) → j < h → PartOn t.ink.target t.from t.x (t.y + j) t.sx (t.sy + j) w len
  down-part j l = record {
    format = plain.format;
    wide = omega (arith, apart.can.wide);
    right = apart.can.wide;
    source_right = apart.can.source_wide;
    down = omega (arith, apart.can.high);
    source_down = omega (arith, apart.can.source_high);
    target = apart.can.colour;
    source = record { small = apart.can.small; some = omega (arith, apart.can.colour.some, plain.format) };
    on = λ i u. (can-number apart.can i j u l).0.on;
    source_on = λ i u. (can-number apart.can i j u l).1 plain.copies;
  }

  pub down-on : RowsOn t.ink.target t.from t.x t.y t.sx t.sy w h len
  down-on = record { wide = omega (arith, apart.can.wide); high = omega (arith, apart.can.high); each = down-part }

  -- ---- once the bytes have come
  module _ {m m' : List ℕ} (given : Given t.ink.target (source_byte t m) t.x t.y w h m m') where
    come : (c j : ℕ) → c < w → j < h → read_px m' t.ink.target (t.x + c) (t.y + j) ≡ read_px m t.from (t.sx + c) (t.sy + j)
    unfolding read_px source_place
    come c j l u =
        let column : t.sx + (t.x + c - t.x) ≡ t.sx + c = omega arith in
        let row : t.sy + (t.y + j - t.y) ≡ t.sy + j = omega arith in
        read_as (byte_of t.ink.target (t.x + c) (t.y + j)) (byte_of t.from (t.sx + c) (t.sy + j)) 0 t.ink.target.bytes m' m
        (λ k _ n. given.inside (px (t.x + c) (t.y + j)) (omega arith) k (omega arith) ∙ ap₂ (λ (a b : ℕ). get_or m (byte_of t.from a b k) 0) column row)
        ∙ ap (read_bytes m (byte_of t.from (t.sx + c) (t.sy + j)) 0) (sym plain.format)

    rows-changed : (j n : ℕ) → j + n ≤ h → others_down t.ink.target t.from m t.x t.y t.sx t.sy w j n ≡ summed (changing t.ink.target m m') (rect false false t.x (t.y + j) w n)
    unfolding others_down rect summed
    rows-changed j zero fits = refl
    rows-changed j (suc n) fits =
        let next : t.y + (j + 1) ≡ t.y + j + 1 = omega arith in
        let rest = rw next at (rows-changed (j + 1) n (omega arith)) in
        ap₂ (λ (a b : ℕ). a + b)
        (others-sum t.ink.target t.from m (t.y + j) (t.sy + j) (λ p. read_px m' t.ink.target p.x p.y) t.x t.sx w (λ c l. come c j l (omega arith)))
        rest
        ∙ sym (summed-append (changing t.ink.target m m') (across false t.x w (t.y + j)) (rect false false t.x (t.y + j + 1) w n))

    pub down-changed : {r : ℕ} → r ≡ others_down t.ink.target t.from m t.x t.y t.sx t.sy w 0 h → r ≡ summed (changing t.ink.target m m') (rect false false t.x t.y w h)
    down-changed e = let z : t.y + 0 ≡ t.y = omega arith in e ∙ (rw z at (rows-changed 0 h (omega arith)))

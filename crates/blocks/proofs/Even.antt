-- Rows of one value: those that are there go on below.
-- Assumes nothing.
use mathlib.Core.Path.{◌≡◌, refl, ap, ap₂, ◌∙◌}
use mathlib.Core.List.{List}
use Prim.Native.Nat.{ℕ, ◌+◌, ◌-◌, ◌*◌, ◌/◌, ◌%◌, ◌^◌, ◌<◌, ◌≤◌}
use native.Mathlib.Omega.{arith}
use lib.Arith.{digits_mod}
use lib.ListN.{get_or}
use Rattle.surface.specs.declared.Surface.{Surface}
use Rattle.surface.specs.Place.{row_bytes, byte_at}
use Rattle.surface.specs.Pixels.{Px, px, Inside}
use Rattle.surface.proofs.Rows.{byte_at-inj}
use Rattle.runs.specs.Runs.{Given}
use Rattle.runs.specs.Asked.{RectOn}
use Rattle.runs.proofs.Even.{byte_number}
use Rattle.blocks.specs.declared.Way.{Way}
use Rattle.blocks.specs.Blocks.{Put, origin, origin_byte}
use Rattle.blocks.specs.Asked.{Goes}
use Rattle.blocks.proofs.Blocks.{way, put-below}
use Rattle.blocks.proofs.Pixels.{put-given, given-put, byte-held, bytes-wide}

-- the byte of the value at a column
abbrev pub column_byte : Surface → ℕ → Px → ℕ
column_byte s v q = v / 256 ^ (q.x % s.bytes) % 256

module _ (s : Surface) (v x y w h : ℕ) {len : ℕ} (on : RectOn s len x y w h) (pw : 0 < w) (ph : 0 < h) where
  abbrev left : ℕ
  left = x * s.bytes

  abbrev wide : ℕ
  wide = w * s.bytes

  fits : left + wide ≤ row_bytes s
  fits = bytes-wide s on.colour.some x y w h on.on pw ph

  pub even-put : (j : ℕ) {m m' : List ℕ} → Given s (byte_number v) x y w j m m' → Put s (column_byte s v) left y wide j m m'
  even-put j {m} {m'} = given-put s on.colour.some (byte_number v) (column_byte s v) x y w j m m' (λ q i. refl)

  pub put-even : (j : ℕ) {m m' : List ℕ} → Put s (column_byte s v) left y wide j m m' → Given s (byte_number v) x y w j m m'
  put-even j {m} {m'} = put-given s on.colour.some (byte_number v) (column_byte s v) x y w j m m'
      (λ p k i l. ap (λ (n : ℕ). v / 256 ^ n % 256) (digits_mod p.x l))

  -- k rows more, of those that are there
  module _ (j k : ℕ) (there : k ≤ j) (room : j + k ≤ h) where
    abbrev down : Way
    down = way s s left (y + j) left y

    above : (p : Px) → Inside left (y + j) wide k p → Inside left y wide j (px p.x (p.y - j))
    above p i = omega arith

    from-above : (p : Px) → Inside left (y + j) wide k p → origin down p ≡ byte_at s p.x (p.y - j)
    from-above p i = ap₂ (byte_at s) (omega arith) (omega arith)

    pub rows-go : Goes down wide k len
    rows-go = record {
      small = on.colour.small;
      small' = on.colour.small;
      wide = fits;
      wide' = fits;
      high = omega (arith, on.high);
      high' = omega (arith, on.high);
      to = λ p i. byte-held s on.colour.some x y w h on.on p (omega arith);
      from = λ p i. rw (from-above p i) (byte-held s on.colour.some x y w h on.on (px p.x (p.y - j)) (omega arith));
      apart = λ p q i u e.
          let same = byte_at-inj s p.x p.y q.x (q.y - j) (omega (arith, fits)) (omega (arith, fits)) (e ∙ from-above q u) in
          omega (arith, same.0);
    }

    pub rows_more : {m₀ m m₁ : List ℕ} → Put s (column_byte s v) left y wide j m₀ m → Put s (origin_byte down m) left (y + j) wide k m m₁
        → Put s (column_byte s v) left y wide (j + k) m₀ m₁
    rows_more {m₀} {m} {m₁} rows more =
        put-below s (column_byte s v) left y wide (j + k) fits j k (omega arith) (omega arith) rows
        (record {
          inside = λ p i. more.inside p i ∙ ap (λ (a : ℕ). get_or m a 0) (from-above p i) ∙ rows.inside (px p.x (p.y - j)) (above p i);
          others = more.others;
          long = more.long;
        })

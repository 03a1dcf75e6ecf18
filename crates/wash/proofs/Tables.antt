-- Wide tables: their rows repeat, a rectangle of pixels can be changed by them, and they change it as the tables do that they were made of.
-- Assumes nothing.
use mathlib.Core.Path.{◌≡◌, sym, ap, ap₂, ◌∙◌}
use mathlib.Core.Bool.{true}
use mathlib.Core.List.{List}
use Prim.Native.Nat.{ℕ, ◌+◌, ◌-◌, ◌*◌, ◌%◌, ◌<◌, ◌≤◌}
use native.Mathlib.Nat.{mod-lt, mod-le, mod-mod, add-mul, mul-le-mul_right}
use native.Mathlib.Omega.{arith}
use lib.ListN.{get_or}
use Rattle.surface.specs.declared.Surface.{Surface}
use Rattle.surface.specs.Place.{byte_at}
use Rattle.surface.specs.Asked.{Colour}
use Rattle.surface.specs.Pixels.{px}
use Rattle.runs.specs.Asked.{RectOn}
use Rattle.tint.specs.Masking.{masked}
use Rattle.blocks.specs.Blocks.{Put}
use Rattle.blocks.proofs.Pixels.{byte-held, bytes-wide}
use Rattle.wash.specs.declared.Washing.{Washing}
use Rattle.wash.specs.Wash.{washed, in_rows, by_rows, Widened}
use Rattle.wash.specs.Asked.{Again, Period, CanWash}

abbrev pub washing : Surface → List ℕ → List ℕ → Washing
washing s keep flip = record { s = s; keep = keep; flip = flip }

pub period-of : {s : Surface} → Colour s → Period (8 * s.bytes)
period-of colour = record { some = omega (arith, colour.some); few = omega (arith, colour.small.bytes) }

module _ {rows period n wide : ℕ} (steps : Period period) (enough : (i : ℕ) → i < 160 → i < n → i < wide) {table new : List ℕ} (widened : Widened table rows period wide new)
    (r : ℕ) (there : r < rows) where
  rest : (i : ℕ) → i < n → get_or new (r * 160 + i % period) 0 ≡ get_or table (r * period + i % period) 0
  rest i l =
      widened.bytes r (i % period) there (enough (i % period) (omega (arith, steps.few, mod-lt i steps.some)) (omega (arith, mod-le i period)))
      ∙ ap (λ (a : ℕ). get_or table (r * period + a) 0) (mod-mod i period)

  again : Again new (r * 160) period n
  again = record { same = λ i u l. widened.bytes r i there (enough i u l) ∙ sym (rest i l) }

module _ (s : Surface) {x y w h rows wide : ℕ} {keep flip keep' flip' : List ℕ} (enough : (i : ℕ) → i < 160 → i < w * s.bytes → i < wide)
    (lines : (j : ℕ) → j < h → j % 8 < rows) (keeps : Widened keep rows (8 * s.bytes) wide keep') (flips : Widened flip rows (8 * s.bytes) wide flip') {len : ℕ}
    (on : RectOn s len x y w h) where
  pub rows-can : s.tiled ≡ true → 0 < w → 0 < h → (j : ℕ) → j < h → CanWash (washing s keep' flip') (j % 8 * 160) (x * s.bytes) (y + j) (w * s.bytes) len
  rows-can tiled pw ph j l =
      let steps = period-of on.colour in
      record {
        tiled = tiled;
        small = on.colour.small;
        wide = bytes-wide s on.colour.some x y w h on.on pw ph;
        high = omega (arith, on.high);
        steps = steps;
        room = omega arith;
        held = λ c low high. byte-held s on.colour.some x y w h on.on (px c (y + j)) (omega arith);
        keeps = again steps enough keeps (j % 8) (lines j l);
        flips = again steps enough flips (j % 8) (lines j l);
      }

  pub as-tables : {m m' : List ℕ} → Put s (by_rows (washing s keep' flip') (x * s.bytes) y m) (x * s.bytes) y (w * s.bytes) h m m'
      → Put s (washed s keep flip (in_rows (8 * s.bytes) (8 * s.bytes) (x * s.bytes) y) m) (x * s.bytes) y (w * s.bytes) h m m'
  as-tables {m} put =
      let steps = period-of on.colour in
      record {
        inside = λ p i.
            let r = (p.y - y) % 8 in
            let there : r < rows = lines (p.y - y) (omega arith) in
            put.inside p i ∙ ap₂ (masked (get_or m (byte_at s p.x p.y) 0)) (rest steps enough keeps r there (p.x - x * s.bytes) (omega arith)) (rest steps enough flips r there (p.x - x * s.bytes) (omega arith));
        others = put.others;
        long = put.long;
      }

-- ---- some pixels of a row that can be changed
pub can-part : {t : Washing} {first y len : ℕ} (x w : ℕ) → CanWash t first (x * t.s.bytes) y (w * t.s.bytes) len → (i k : ℕ) → i + k ≤ w
    → CanWash t first ((x + i) * t.s.bytes) y (k * t.s.bytes) len
can-part {t} x w can i k fits =
    let b = t.s.bytes in
    let inside : i * b + k * b ≤ w * b = omega (arith, mul-le-mul_right {m = i + k} {n = w} b fits, add-mul i k b) in
    rw (add-mul x i b)
    (record {
      tiled = can.tiled;
      small = can.small;
      wide = omega (arith, can.wide);
      high = can.high;
      steps = can.steps;
      room = can.room;
      held = λ c low high. can.held c (omega arith) (omega arith);
      keeps = record { same = λ j u l. can.keeps.same j u (omega arith) };
      flips = record { same = λ j u l. can.flips.same j u (omega arith) };
    })

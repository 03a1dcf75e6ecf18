-- Which pixels some words of the data finish, and in which rows: a pixel is in the list of a run exactly if it is one of the rectangle's and its last byte lies in
-- one of the run's words.
-- Assumes nothing.
use mathlib.Core.Path.{◌≡◌, refl}
use mathlib.Core.Logic.{⊎_elim}
use mathlib.Core.List.Memᴰ
use mathlib.Core.List.{List, [], ◌∷◌}
use Prim.Native.Nat.{ℕ, ◌+◌, ◌-◌, ◌*◌, ◌/◌, ◌%◌, ◌<◌, ◌≤◌}
use native.Mathlib.Nat.{add-mul, div-le_self, div-lt_iff_lt-mul, le-div_iff_mul-le}
use native.Mathlib.Decide.{dec_lt}
use native.Mathlib.Omega.{arith}
use lib.ListN.{length}
use Rattle.surface.proofs.Lists.{by_cases}
use Rattle.host.specs.declared.Feed.{Feed}
use Rattle.host.specs.Host.{last_column, last_byte_of, Pixel, pixel, value_of, whole, by_word, by_run}
use Rattle.host.specs.Asked.{Rows}
use Rattle.host.proofs.Places.{whole-rises, of-column, column-held, step-some}
use Rattle.host.proofs.Finished.{Has, finished-by}
use Rattle.drips.specs.Drips.{first_row, past_row}

-- pixel (i, j) is one of the rectangle's, and its last byte lies in one of n words from number k on
pub record Reached (f : Feed) (k n i j : ℕ) : Type 0 where
  pub column : i < f.width
  pub row : j < f.height
  pub from : 4 * k ≤ last_byte_of f i j
  pub up_to : last_byte_of f i j < 4 * (k + n)

-- the rows that words reach are few
pub first_small : (f : Feed) (k : ℕ) → first_row f k ≤ 4 * k
unfolding first_row
first_small f k = div-le_self (4 * k) f.step

pub past-small : (f : Feed) (k n : ℕ) → past_row f k n ≤ 4 * (k + n) + (f.step - 1)
unfolding past_row
past-small f k n = div-le_self (4 * (k + n) + (f.step - 1)) f.step

module _ (f : Feed) (ok : Rows f) where
  pub run-reached : (ws : List ℕ) (last k : ℕ) (p : Pixel) → Has p (by_run f last ws k) → Reached f k (length ws) p.i p.j
  unfolding by_run
  run-reached [] last k p m = absurd (Memᴰ.not-nil m)
  run-reached (w ∷ ws) last k p m =
      ⊎_elim
      (λ i. let r = (finished-by f last w ok k p).0 i in
      record { column = r.ends.column; row = r.ends.row; from = omega (arith, r.here); up_to = omega (arith, r.here) })
      (λ i. let r = run-reached ws w (k + 1) p i in record { column = r.column; row = r.row; from = omega (arith, r.from); up_to = omega (arith, r.up_to) })
      (Memᴰ.append_cases (by_word f last w k) m)

  pub reached-run : (ws : List ℕ) (last k i j : ℕ) → Reached f k (length ws) i j → (v : ℕ) × Has (pixel i j v) (by_run f last ws k)
  unfolding by_run
  reached-run [] last k i j r = absurd (omega (arith, r.from, r.up_to))
  reached-run (w ∷ ws) last k i j r =
      by_cases (dec_lt (last_byte_of f i j) (4 * (k + 1)))
      (λ h. (
        value_of f last w (last_byte_of f i j % 4) i,
        Memᴰ.append_left (by_run f w ws (k + 1))
            ((finished-by f last w ok k _).1
            (record { ends = record { column = r.column; row = r.row; value = refl }; here = omega (arith, r.from) })),
      ))
      (λ h.
      let s = reached-run ws w (k + 1) i j (record { column = r.column; row = r.row; from = omega arith; up_to = omega (arith, r.up_to) }) in
      (s.0, Memᴰ.append_right (by_word f last w k) s.1))

  -- ---- the rows that they lie in
  pub row_first : (k n i j : ℕ) → Reached f k n i j → first_row f k ≤ j
  unfolding first_row last_byte_of
  row_first k n i j r =
      let q : 4 * k / f.step < j + 1 =
      (div-lt_iff_lt-mul {k = f.step} {x = 4 * k} {y = j + 1} (step-some f ok)).1 (omega (arith, r.from, add-mul j 1 f.step, column-held f i r.column, ok.held)) in
      omega arith

  pub row-past : (k n i j : ℕ) → Reached f k n i j → j < past_row f k n
  unfolding past_row last_byte_of
  row-past k n i j r =
      let q : j + 1 ≤ (4 * (k + n) + (f.step - 1)) / f.step =
      (le-div_iff_mul-le {k = f.step} {x = j + 1} {y = 4 * (k + n) + (f.step - 1)} (step-some f ok)).1 (omega (arith, r.up_to, add-mul j 1 f.step, step-some f ok)) in
      omega arith

  -- ---- the columns: whether a pixel is whole with the first c bytes of its row goes by its last byte
  pub whole_before : (c i : ℕ) → i < f.width → last_column f i < c → i < whole f c
  whole_before c i h l =
      let d = c - (last_column f i + 1) in
      let e : last_column f i + 1 + d ≡ c = omega arith in
      omega (arith, (of-column f (last_column f i) i h refl).1, rw e at (whole-rises f (last_column f i + 1) d))

  pub whole-behind : (c i : ℕ) → i < f.width → c ≤ last_column f i → whole f c ≤ i
  whole-behind c i h l =
      let d = last_column f i - c in
      let e : c + d ≡ last_column f i = omega arith in
      omega (arith, (of-column f (last_column f i) i h refl).0, rw e at (whole-rises f c d))

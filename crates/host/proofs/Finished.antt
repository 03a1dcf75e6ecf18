-- A pixel is in the list of word k exactly if it is one of the rectangle's and its last byte lies in that word.
-- Assumes nothing.
use mathlib.Core.Path.{◌≡◌, refl, sym, ap, subst, ◌∙◌}
use mathlib.Core.Logic.{◌↔◌, ⊎_elim}
use mathlib.Core.Bool.{Bool, true, false, cond}
use mathlib.Core.List.Memᴰ
use mathlib.Core.List.{List, [], Memᴰ}
use Prim.Native.Nat.{ℕ, zero, suc, ◌+◌, ◌-◌, ◌*◌, ◌/◌, ◌%◌, ◌<◌, ◌≤◌}
use native.Mathlib.Nat.{div-add-mod', eq-or-lt_of_le}
use native.Mathlib.Omega.{arith}
use borrow.Author.Tests.{ltb-true, lt-ltb}
use lib.Dec.{ltb}
use Rattle.host.specs.declared.Feed.{Feed}
use Rattle.host.specs.Host.{last_column, last_byte_of, Pixel, pixel, value_of, whole, run, by_byte, by_bytes, by_word}
use Rattle.host.specs.Asked.{Rows}
use Rattle.host.proofs.Places.{whole-width, column-of, of-column, row_of, rest_of}

abbrev pub Has : Pixel → List Pixel → Type 0
Has p ps = Memᴰ p ps

-- pixel p of the rectangle, with the value that ends with its last byte
pub record Ends (f : Feed) (last word : ℕ) (p : Pixel) : Type 0 where
  pub column : p.i < f.width
  pub row : p.j < f.height
  pub value : p.value ≡ value_of f last word (last_byte_of f p.i p.j % 4) p.i

-- the same, where that byte lies in word k
pub record Finished (f : Feed) (last word k : ℕ) (p : Pixel) : Type 0 where
  pub ends : Ends f last word p
  pub here : last_byte_of f p.i p.j / 4 ≡ k

-- and where it is one of n bytes from byte o on
record Among (f : Feed) (last word o n : ℕ) (p : Pixel) : Type 0 where
  ends : Ends f last word p
  from : o ≤ last_byte_of f p.i p.j
  up_to : last_byte_of f p.i p.j < o + n

module _ (f : Feed) (last word : ℕ) where
  -- ---- a run of a byte's pixels
  abbrev ended : ℕ → ℕ → Pixel
  ended o i = pixel i (o / f.step) (value_of f last word (o % 4) i)

  record InRun (o i n : ℕ) (p : Pixel) : Type 0 where
    low : i ≤ p.i
    high : p.i < i + n
    same : p ≡ ended o p.i

  run_sound : (o i n : ℕ) (p : Pixel) → Has p (run f last word o i n) → InRun o i n p
  unfolding run
  run_sound o i zero p m = absurd (Memᴰ.not-nil m)
  run_sound o i (suc n) p m =
      ⊎_elim
      (λ e.
      let a : p.i ≡ i = ap (λ (q : Pixel). q.i) e in
      record { low = omega arith; high = omega arith; same = e ∙ ap (ended o) (sym a) })
      (λ r. let s = run_sound o (i + 1) n p r in record { low = omega (arith, s.low); high = omega (arith, s.high); same = s.same })
      (Memᴰ.cases_cons m)

  run-complete : (o i n a : ℕ) → i ≤ a → a < i + n → Has (ended o a) (run f last word o i n)
  unfolding run
  run-complete o i zero a l u = absurd (omega arith)
  run-complete o i (suc n) a l u =
      ⊎_elim (λ e. Memᴰ.head (ap (ended o) (sym e)))
      (λ lt. Memᴰ.tail (run-complete o (i + 1) n a (omega arith) (omega arith))) (eq-or-lt_of_le l)

  module _ (ok : Rows f) where
    -- ---- a byte
    byte-sound : (o : ℕ) (p : Pixel) → Has p (by_byte f last word o) → Among f last word o 1 p
    unfolding by_byte last_byte_of
    byte-sound o p m = by-test (ltb (o / f.step) f.height) refl m
      where
        by-test : (t : Bool) → ltb (o / f.step) f.height ≡ t
            → Has p (cond t (run f last word o (whole f (o % f.step)) (whole f (o % f.step + 1) - whole f (o % f.step))) []) → Among f last word o 1 p
        by-test true e m' =
            let r = run_sound o (whole f (o % f.step)) (whole f (o % f.step + 1) - whole f (o % f.step)) p m' in
            let w = whole-width f (o % f.step + 1) in
            let col = column-of f (o % f.step) p.i r.low (omega (arith, r.low, r.high)) in
            let j : p.j ≡ o / f.step = ap (λ (q : Pixel). q.j) r.same in
            let at : p.j * f.step + last_column f p.i ≡ o = rw j (omega (arith, col, div-add-mod' o f.step)) in
            record {
              ends = record {
                column = omega (arith, r.low, r.high);
                row = rw j (ltb-true _ _ e);
                value = rw at (ap (λ (q : Pixel). q.value) r.same);
              };
              from = omega (arith, at);
              up_to = omega (arith, at);
            }
        by-test false e m' = absurd (Memᴰ.not-nil m')

    byte-complete : (i j : ℕ) → i < f.width → j < f.height
        → Has (pixel i j (value_of f last word (last_byte_of f i j % 4) i)) (by_byte f last word (last_byte_of f i j))
    unfolding by_byte
    byte-complete i j hi hj =
        let o = last_byte_of f i j in
        let q : o / f.step ≡ j = row_of f ok i j hi in
        let w = of-column f (o % f.step) i hi (sym (rest_of f ok i j hi)) in
        let g : ltb (o / f.step) f.height ≡ true = lt-ltb (o / f.step) f.height (rw q hj) in
        let m = run-complete o (whole f (o % f.step)) (whole f (o % f.step + 1) - whole f (o % f.step)) i w.0 (omega (arith, w.0, w.1)) in
        rw g
        (subst (λ (k : ℕ). Has (pixel i k (value_of f last word (o % 4) i)) (run f last word o (whole f (o % f.step)) (whole f (o % f.step + 1) - whole f (o % f.step)))) q m)

    -- ---- some bytes
    bytes-sound : (o n : ℕ) (p : Pixel) → Has p (by_bytes f last word o n) → Among f last word o n p
    unfolding by_bytes
    bytes-sound o zero p m = absurd (Memᴰ.not-nil m)
    bytes-sound o (suc n) p m =
        ⊎_elim (λ r. let s = byte-sound o p r in record { ends = s.ends; from = s.from; up_to = omega (arith, s.up_to) })
        (λ r. let s = bytes-sound (o + 1) n p r in record { ends = s.ends; from = omega (arith, s.from); up_to = omega (arith, s.up_to) })
        (Memᴰ.append_cases (by_byte f last word o) m)

    bytes-complete : (o n i j : ℕ) → i < f.width → j < f.height → o ≤ last_byte_of f i j → last_byte_of f i j < o + n
        → Has (pixel i j (value_of f last word (last_byte_of f i j % 4) i)) (by_bytes f last word o n)
    unfolding by_bytes
    bytes-complete o zero i j hi hj l u = absurd (omega arith)
    bytes-complete o (suc n) i j hi hj l u =
        ⊎_elim (λ e. Memᴰ.append_left {s = by_byte f last word o} (by_bytes f last word (o + 1) n) (rw e (byte-complete i j hi hj)))
        (λ lt. Memᴰ.append_right (by_byte f last word o) (bytes-complete (o + 1) n i j hi hj (omega arith) (omega arith))) (eq-or-lt_of_le l)

    -- ---- a word
    pub finished-by : (k : ℕ) (p : Pixel) → Has p (by_word f last word k) ↔ Finished f last word k p
    unfolding by_word
    finished-by k p = (sound, complete)
      where
        sound : Has p (by_bytes f last word (4 * k) 4) → Finished f last word k p
        sound m = let r = bytes-sound (4 * k) 4 p m in record { ends = r.ends; here = omega (arith, r.from, r.up_to) }

        complete : Finished f last word k p → Has p (by_bytes f last word (4 * k) 4)
        complete r =
            subst (λ (v : ℕ). Has (pixel p.i p.j v) (by_bytes f last word (4 * k) 4)) (sym r.ends.value)
            (bytes-complete (4 * k) 4 p.i p.j r.ends.column r.ends.row (omega (arith, r.here)) (omega (arith, r.here)))

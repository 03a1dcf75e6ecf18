-- Bytes of a word that lie in one row finish a stretch of its pixels; bytes past the last row finish none.
-- Assumes nothing.
use mathlib.Core.Path.{◌≡◌, refl, sym, ap, ap₂, ◌∙◌}
use mathlib.Core.List.{List, [], ◌∷◌, ◌++◌}
use Prim.Native.Nat.{ℕ, zero, suc, ◌+◌, ◌-◌, ◌*◌, ◌/◌, ◌%◌, ◌^◌, ◌<◌, ◌≤◌}
use native.Mathlib.Nat.{le-div_iff_mul-le, add-zero, zero-add, suc-add}
use native.Mathlib.Omega.{arith}
use borrow.Author.Tests.{lt-ltb, le-ltb}
use lib.Arith.{digits_div, digits_mod}
use lib.ListN.{length}
use Rattle.paint.specs.declared.Tally.{Tally}
use Rattle.paint.specs.Asked.{Room}
use Rattle.paint.proofs.Tallies.{room-less}
use Rattle.host.specs.declared.Feed.{Feed}
use Rattle.host.specs.Asked.{Rows}
use Rattle.host.specs.Host.{last_column, last_byte_of, Pixel, pixel, value_of, whole, run, by_byte, by_bytes}
use Rattle.plain.specs.Plain.{stretch}
use Rattle.plain.specs.Asked.{Part, Here, Within}
use Rattle.host.proofs.Places.{whole-width, whole-more, whole-rises, column-in, column-of, column-held}

module _ (f : Feed) (last word : ℕ) where
  pub past-none : 0 < f.step → (o n : ℕ) → f.height * f.step ≤ o → by_bytes f last word o n ≡ []
  unfolding by_bytes by_byte
  past-none s o zero l = refl
  past-none s o (suc n) l =
      let past : f.height ≤ o / f.step = (le-div_iff_mul-le {k = f.step} {x = f.height} {y = o} s).1 l in
      rw (le-ltb (o / f.step) f.height past) (past-none s (o + 1) n (omega arith))

  pub stretch-append : (j i m n : ℕ) → stretch f last word j i m ++ stretch f last word j (i + m) n ≡ stretch f last word j i (m + n)
  unfolding stretch
  stretch-append j i zero n = rw (add-zero i, zero-add n)
  stretch-append j i (suc m) n =
      let p : i + suc m ≡ i + 1 + m = omega arith in
      rw (suc-add, p) (ap (λ (t : List Pixel). pixel i j (value_of f last word (last_byte_of f i j % 4) i) ∷ t) (stretch-append j (i + 1) m n))

  pub stretch-length : (j i n : ℕ) → length (stretch f last word j i n) ≡ n
  unfolding stretch
  stretch-length j i zero = refl
  stretch-length j i (suc n) = ap suc (stretch-length j (i + 1) n)

  run-stretch : (o j i n : ℕ) → o / f.step ≡ j → ((a : ℕ) → i ≤ a → a < i + n → last_byte_of f a j ≡ o) → run f last word o i n ≡ stretch f last word j i n
  unfolding run stretch
  run-stretch o j i zero e h = refl
  run-stretch o j i (suc n) e h =
      ap₂ (λ (p : Pixel) (t : List Pixel). p ∷ t)
      (ap₂ (λ (r b : ℕ). pixel i r (value_of f last word (b % 4) i)) e (sym (h i (omega arith) (omega arith))))
      (run-stretch o j (i + 1) n e (λ a l u. h a (omega arith) (omega arith)))

  byte-stretch : (o j c : ℕ) → o ≡ j * f.step + c → c < f.step → j < f.height
      → by_byte f last word o ≡ stretch f last word j (whole f c) (whole f (c + 1) - whole f c)
  unfolding by_byte last_byte_of
  byte-stretch o j c e l h =
      let row : o / f.step ≡ j = ap (λ (n : ℕ). n / f.step) e ∙ digits_div j l in
      let column : o % f.step ≡ c = ap (λ (n : ℕ). n % f.step) e ∙ digits_mod j l in
      let inside : o / f.step < f.height = omega arith in
      rw (lt-ltb (o / f.step) f.height inside, column)
      (run-stretch o j (whole f c) (whole f (c + 1) - whole f c) row
      (λ a lo hi. let k = column-of f c a lo (omega (arith, whole-more f c)) in omega (arith, k, e)))

  pub bytes-stretch : (m o j c : ℕ) → o ≡ j * f.step + c → c + m ≤ f.step → j < f.height
      → by_bytes f last word o m ≡ stretch f last word j (whole f c) (whole f (c + m) - whole f c)
  unfolding by_bytes stretch
  bytes-stretch zero o j c e l h = let z : whole f (c + 0) - whole f c ≡ 0 = rw (add-zero c) (omega arith) in rw z
  bytes-stretch (suc m) o j c e l h =
      let next : c + suc m ≡ c + 1 + m = omega arith in
      let w : whole f c + (whole f (c + 1) - whole f c) ≡ whole f (c + 1) = omega (arith, whole-more f c) in
      let all : whole f (c + 1) - whole f c + (whole f (c + 1 + m) - whole f (c + 1)) ≡ whole f (c + 1 + m) - whole f c = omega (arith, whole-more f c, whole-rises f (c + 1) m) in
      rw next
      (ap₂ (λ (x y : List Pixel). x ++ y) (byte-stretch o j c e (omega arith) h) (bytes-stretch m (o + 1) j (c + 1) (omega arith) (omega arith) h)
      ∙ ap (λ (i : ℕ). stretch f last word j (whole f c) (whole f (c + 1) - whole f c) ++ stretch f last word j i (whole f (c + 1 + m) - whole f (c + 1))) (sym w)
      ∙ stretch-append j (whole f c) (whole f (c + 1) - whole f c) (whole f (c + 1 + m) - whole f (c + 1))
      ∙ ap (stretch f last word j (whole f c)) all)

  pub part_bytes : (t j c m start end : ℕ) → Part f t j c m → start ≡ whole f c → end ≡ whole f (c + m)
      → stretch f last word j start (end - start) ≡ by_bytes f last word (j * f.step + c) m
  part_bytes t j c m start end p a b = rw (a, b) (sym (bytes-stretch m (j * f.step + c) j c refl p.held p.row))

-- ---- the last bytes of the pixels
pub here-small : {f : Feed} {t j c i : ℕ} → Rows f → i < f.width → Here f t j c i → t + last_column f i < 2 ^ 18
here-small {f} {i = i} rows inside here = omega (arith, here, column-held f i inside, rows.held, rows.sizes.step)

-- of those that a part finishes
pub part-within : (f : Feed) (t j c m start end : ℕ) {n : Tally} → Part f t j c m → Room n f.width → start ≡ whole f c → end ≡ whole f (c + m) → Within f t j c start end n
unfolding last_byte_of
part-within f t j c m start end p room a b = record {
  row = p.row;
  past = omega (arith, whole-width f (c + m));
  room = room-less room (omega (arith, whole-width f (c + m)));
  here = λ i l u. let k = column-in f c m i (omega arith) (omega arith) in record { low = k.0; high = omega (arith, k, p.inside); byte = omega (arith, k, p.inside, p.place) };
}

-- of m of them
pub within-part : {f : Feed} {t j c start end : ℕ} {n r : Tally} → Within f t j c start end n → (i m : ℕ) → start ≤ i → i + m ≤ end → Room r m → Within f t j c i (i + m) r
within-part w i m l u room = record {
  row = w.row;
  past = omega (arith, w.past);
  room = room-less room (omega arith);
  here = λ q a b. w.here q (omega arith) (omega arith);
}

-- The words of a blit, one after the other, finish each pixel of the rectangle once, row by row, with the value that the data says.
-- Assumes nothing.
use mathlib.Core.Path.{◌≡◌, refl, sym, ap, ap₂, ◌∙◌}
use mathlib.Core.Logic.{◌⊎◌, inl, inr, ⊎_elim}
use mathlib.Core.Bool.{Bool, true, false, cond}
use mathlib.Core.List.{List, ◌∷◌, ◌++◌, append_assoc, append-nil}
use Prim.Native.Nat.{ℕ, zero, suc, ◌+◌, ◌-◌, ◌*◌, ◌/◌, ◌%◌, ◌^◌, ◌<◌, ◌≤◌}
use native.Mathlib.Nat.{div-add-mod', mod-lt, le-div_iff_mul-le, zero-add, add-zero, suc-add, zero-div, zero-mod, add-mul, eq-or-lt_of_le}
use native.Mathlib.Numerals.{add-one}
use native.Mathlib.Omega.{arith}
use borrow.Author.Tests.{ltb-true, ltb-false, lt-ltb, le-ltb}
use lib.Arith.{digits_div, digits_mod}
use lib.Dec.{ltb}
use Rattle.formats.specs.Step.{row_length, data_bytes, data_words}
use Rattle.host.specs.declared.Feed.{Feed}
use Rattle.host.specs.Host.{last_byte_of, words_of, Pixel, pixel, value_of, whole, run, by_byte, by_bytes, by_word}
use Rattle.host.specs.Asked.{Rows}
use Rattle.host.specs.Stream.{value_at, row_from, rows, before, by_words}
use Rattle.host.proofs.Places.{whole-none, whole-all, whole-more, column-of, step-some}
use Rattle.host.proofs.Finished.{Has, finished-by}
use Rattle.host.proofs.Needed.{some-pixel, some-needed}
use Rattle.host.proofs.Values.{value-right}

pub record Data (ws : ℕ → ℕ) (f : Feed) : Type 0 where
  pub held : Rows f
  pub words : (k : ℕ) → ws k < 2 ^ 32

lt-or-le : (a b : ℕ) → (a < b) ⊎ (b ≤ a)
lt-or-le a b = by-test (ltb a b) refl
  where
    by-test : (t : Bool) → ltb a b ≡ t → (a < b) ⊎ (b ≤ a)
    by-test true e = inl (ltb-true a b e)
    by-test false e = inr (ltb-false a b e)

before_small : (ws : ℕ → ℕ) → ((n : ℕ) → ws n < 2 ^ 32) → (k : ℕ) → before ws k < 2 ^ 32
unfolding before
before_small ws w zero = omega arith
before_small ws w (suc k) = w k

before-prior : (ws : ℕ → ℕ) (k : ℕ) → 0 < k → before ws k ≡ ws (k - 1)
unfolding before
before-prior ws zero l = absurd (omega arith)
before-prior ws (suc k) l = let q : k ≡ suc k - 1 = omega arith in ap ws q

-- what can be kept as the word before word k: that word, and before the first any word
pub record Prior (ws : ℕ → ℕ) (k last : ℕ) : Type 0 where
  pub word : 0 < k → last ≡ ws (k - 1)
  pub small : last < 2 ^ 32

module _ (ws : ℕ → ℕ) (f : Feed) (d : Data ws f) where
  its-prior : (k : ℕ) → Prior ws k (before ws k)
  its-prior k = record { word = before-prior ws k; small = before_small ws d.words k }

  pub right : (i j k last : ℕ) → Prior ws k last → last_byte_of f i j / 4 ≡ k → value_of f last (ws k) (last_byte_of f i j % 4) i ≡ value_at ws f i j
  right i j k last p e = value-right ws f i j k last e p.word p.small d.held.sizes.bytes

  -- each pixel that a word finishes has the value that the data says
  pub word-values : (k : ℕ) (p : Pixel) → Has p (by_word f (before ws k) (ws k) k) → p.value ≡ value_at ws f p.i p.j
  word-values k p m = let r = (finished-by f (before ws k) (ws k) d.held k p).0 m in r.ends.value ∙ right p.i p.j k (before ws k) (its-prior k) r.here

  -- ---- a row's pixels
  run_row : (o k last i n : ℕ) → Prior ws k last → o / 4 ≡ k → ((a : ℕ) → i ≤ a → a < i + n → last_byte_of f a (o / f.step) ≡ o)
      → run f last (ws k) o i n ≡ row_from ws f (o / f.step) i n
  unfolding run row_from
  run_row o k last i zero p e h = refl
  run_row o k last i (suc n) p e h =
      let q = h i (omega arith) (omega arith) in
      let v : value_of f last (ws k) (o % 4) i ≡ value_at ws f i (o / f.step) =
      ap (λ (m : ℕ). value_of f last (ws k) (m % 4) i) (sym q) ∙ right i (o / f.step) k last p (ap (λ (m : ℕ). m / 4) q ∙ e) in
      ap₂ (λ (u : ℕ) (t : List Pixel). pixel i (o / f.step) u ∷ t) v (run_row o k last (i + 1) n p e (λ a l u. h a (omega arith) (omega arith)))

  pub row-append : (j i m n : ℕ) → row_from ws f j i m ++ row_from ws f j (i + m) n ≡ row_from ws f j i (m + n)
  unfolding row_from
  row-append j i zero n = rw (add-zero i, zero-add n)
  row-append j i (suc m) n =
      let p : i + suc m ≡ i + 1 + m = omega arith in
      rw (suc-add, p) (ap (λ (t : List Pixel). pixel i j (value_at ws f i j) ∷ t) (row-append j (i + 1) m n))

  row_done : (j : ℕ) → rows ws f j ++ row_from ws f j 0 (whole f f.step) ≡ rows ws f (j + 1)
  unfolding rows
  row_done j = rw (whole-all f f.step d.held.held, add-one)

  -- ---- the pixels whose last byte is before byte o
  up_to : ℕ → List Pixel
  up_to o = cond (ltb (o / f.step) f.height) (rows ws f (o / f.step) ++ row_from ws f (o / f.step) 0 (whole f (o % f.step))) (rows ws f f.height)

  up_in : (o j c : ℕ) → o / f.step ≡ j → o % f.step ≡ c → j < f.height → up_to o ≡ rows ws f j ++ row_from ws f j 0 (whole f c)
  unfolding up_to
  up_in o j c p q l = rw (p, q, lt-ltb j f.height l)

  up-past : (o : ℕ) → f.height ≤ o / f.step → up_to o ≡ rows ws f f.height
  unfolding up_to
  up-past o l = rw (le-ltb (o / f.step) f.height l)

  row-start : (o j : ℕ) → o / f.step ≡ j → o % f.step ≡ 0 → j ≤ f.height → up_to o ≡ rows ws f j
  unfolding row_from
  row-start o j p q l =
      ⊎_elim (λ e. up-past o (omega (arith, p, e)) ∙ ap (rows ws f) (sym e))
      (λ lt. up_in o j 0 p q lt ∙ rw (whole-none f) (append-nil (rows ws f j))) (eq-or-lt_of_le l)

  -- ---- one byte more
  byte-row : (o k last : ℕ) → Prior ws k last → o / 4 ≡ k → o / f.step < f.height
      → by_byte f last (ws k) o ≡ row_from ws f (o / f.step) (whole f (o % f.step)) (whole f (o % f.step + 1) - whole f (o % f.step))
  unfolding by_byte last_byte_of
  byte-row o k last p e l =
      rw (lt-ltb (o / f.step) f.height l)
      (run_row o k last (whole f (o % f.step)) (whole f (o % f.step + 1) - whole f (o % f.step)) p e
      (λ a lo hi.
      let col = column-of f (o % f.step) a lo (omega (arith, whole-more f (o % f.step))) in
      omega (arith, col, div-add-mod' o f.step)))

  byte-adds : (o k : ℕ) → o / 4 ≡ k → o / f.step < f.height
      → up_to o ++ by_byte f (before ws k) (ws k) o ≡ rows ws f (o / f.step) ++ row_from ws f (o / f.step) 0 (whole f (o % f.step + 1))
  byte-adds o k e l =
      let j = o / f.step in
      let c = o % f.step in
      let q : whole f c + (whole f (c + 1) - whole f c) ≡ whole f (c + 1) = omega (arith, whole-more f c) in
      ap₂ (λ (x y : List Pixel). x ++ y) (up_in o j c refl refl l) (byte-row o k (before ws k) (its-prior k) e l)
      ∙ append_assoc (rows ws f j) (row_from ws f j 0 (whole f c)) (row_from ws f j (whole f c) (whole f (c + 1) - whole f c))
      ∙ ap (λ (t : List Pixel). rows ws f j ++ t)
      (ap (λ (n : ℕ). row_from ws f j 0 (whole f c) ++ row_from ws f j n (whole f (c + 1) - whole f c)) (sym (zero-add (whole f c)))
      ∙ row-append j 0 (whole f c) (whole f (c + 1) - whole f c) ∙ ap (row_from ws f j 0) q)

  -- in the row, at its end, or past the last row
  next-in : (o : ℕ) → o % f.step + 1 < f.step → ((o + 1) / f.step ≡ o / f.step) × ((o + 1) % f.step ≡ o % f.step + 1)
  next-in o l =
      let e : o + 1 ≡ o / f.step * f.step + (o % f.step + 1) = omega (arith, div-add-mod' o f.step) in
      (ap (λ (n : ℕ). n / f.step) e ∙ digits_div (o / f.step) l, ap (λ (n : ℕ). n % f.step) e ∙ digits_mod (o / f.step) l)

  next_row : (o : ℕ) → o % f.step + 1 ≡ f.step → ((o + 1) / f.step ≡ o / f.step + 1) × ((o + 1) % f.step ≡ 0)
  next_row o l =
      let e : o + 1 ≡ (o / f.step + 1) * f.step + 0 = omega (arith, div-add-mod' o f.step, add-mul (o / f.step) 1 f.step) in
      let s = step-some f d.held in
      (ap (λ (n : ℕ). n / f.step) e ∙ digits_div (o / f.step + 1) s, ap (λ (n : ℕ). n % f.step) e ∙ digits_mod (o / f.step + 1) s)

  past-byte : (o k : ℕ) → f.height ≤ o / f.step → up_to o ++ by_byte f (before ws k) (ws k) o ≡ up_to (o + 1)
  unfolding by_byte
  past-byte o k l =
      let s = step-some f d.held in
      let a : f.height * f.step ≤ o = (le-div_iff_mul-le {k = f.step} {x = f.height} {y = o} s).0 l in
      let more : f.height ≤ (o + 1) / f.step = (le-div_iff_mul-le {k = f.step} {x = f.height} {y = o + 1} s).1 (omega arith) in
      rw (le-ltb (o / f.step) f.height l) (append-nil (up_to o) ∙ up-past o l ∙ sym (up-past (o + 1) more))

  byte_next : (o k : ℕ) → o / 4 ≡ k → up_to o ++ by_byte f (before ws k) (ws k) o ≡ up_to (o + 1)
  byte_next o k e = ⊎_elim inside (past-byte o k) (lt-or-le (o / f.step) f.height)
    where
      at-end : o / f.step < f.height → o % f.step + 1 ≡ f.step → up_to o ++ by_byte f (before ws k) (ws k) o ≡ up_to (o + 1)
      at-end l q =
          byte-adds o k e l ∙ ap (λ (n : ℕ). rows ws f (o / f.step) ++ row_from ws f (o / f.step) 0 (whole f n)) q ∙ row_done (o / f.step)
          ∙ sym (row-start (o + 1) (o / f.step + 1) (next_row o q).0 (next_row o q).1 (omega arith))

      within : o / f.step < f.height → o % f.step + 1 < f.step → up_to o ++ by_byte f (before ws k) (ws k) o ≡ up_to (o + 1)
      within l q = byte-adds o k e l ∙ sym (up_in (o + 1) (o / f.step) (o % f.step + 1) (next-in o q).0 (next-in o q).1 l)

      inside : o / f.step < f.height → up_to o ++ by_byte f (before ws k) (ws k) o ≡ up_to (o + 1)
      inside l = ⊎_elim (at-end l) (within l) (eq-or-lt_of_le (omega (arith, mod-lt o (step-some f d.held))))

  -- ---- four bytes, and so a word
  bytes_next : (o k n : ℕ) → ((t : ℕ) → t < n → (o + t) / 4 ≡ k) → up_to o ++ by_bytes f (before ws k) (ws k) o n ≡ up_to (o + n)
  unfolding by_bytes
  bytes_next o k zero e = append-nil (up_to o) ∙ ap up_to (sym (add-zero o))
  bytes_next o k (suc n) e =
      let z : o / 4 ≡ k = rw (add-zero o) at (e 0 (omega arith)) in
      let q : o + 1 + n ≡ o + suc n = omega arith in
      sym (append_assoc (up_to o) (by_byte f (before ws k) (ws k) o) (by_bytes f (before ws k) (ws k) (o + 1) n))
      ∙ ap (λ (t : List Pixel). t ++ by_bytes f (before ws k) (ws k) (o + 1) n) (byte_next o k z)
      ∙ bytes_next (o + 1) k n (λ t l. let r : o + 1 + t ≡ o + suc t = omega arith in rw r (e (suc t) (omega arith)))
      ∙ ap up_to q

  words_up : (n : ℕ) → by_words ws f n ≡ up_to (4 * n)
  unfolding by_words by_word rows
  words_up zero = sym (row-start 0 0 (zero-div f.step) (zero-mod f.step) (omega arith))
  words_up (suc n) =
      let q : 4 * n + 4 ≡ 4 * suc n = omega arith in
      ap (λ (t : List Pixel). t ++ by_bytes f (before ws n) (ws n) (4 * n) 4) (words_up n)
      ∙ bytes_next (4 * n) n 4 (λ t l. omega arith) ∙ ap up_to q

  -- ---- what is kept before the first word counts for nothing
  byte-any : (o k last : ℕ) → Prior ws k last → o / 4 ≡ k → by_byte f last (ws k) o ≡ by_byte f (before ws k) (ws k) o
  unfolding by_byte
  byte-any o k last p e =
      ⊎_elim (λ l. byte-row o k last p e l ∙ sym (byte-row o k (before ws k) (its-prior k) e l)) (λ l. rw (le-ltb (o / f.step) f.height l))
      (lt-or-le (o / f.step) f.height)

  pub word-any : (k last : ℕ) → Prior ws k last → by_word f last (ws k) k ≡ by_word f (before ws k) (ws k) k
  unfolding by_word by_bytes
  word-any k last p =
      rw (
        byte-any (4 * k) k last p (omega arith),
        byte-any (4 * k + 1) k last p (omega arith),
        byte-any (4 * k + 1 + 1) k last p (omega arith),
        byte-any (4 * k + 1 + 1 + 1) k last p (omega arith),
      )

  -- ---- once all bytes have come, all rows are there
  up-all : (o : ℕ) → 0 < f.height → (f.height - 1) * f.step + row_length f.bytes f.width ≤ o → up_to o ≡ rows ws f f.height
  up-all o h l = ⊎_elim last_row (up-past o) (lt-or-le (o / f.step) f.height)
    where
      last_row : o / f.step < f.height → up_to o ≡ rows ws f f.height
      last_row u =
          let a : f.height - 1 ≤ o / f.step = (le-div_iff_mul-le {k = f.step} {x = f.height - 1} {y = o} (step-some f d.held)).1 (omega arith) in
          let j : o / f.step ≡ f.height - 1 = omega arith in
          let p = ap (λ (n : ℕ). n * f.step) j in
          let c : row_length f.bytes f.width ≤ o % f.step = omega (arith, p, div-add-mod' o f.step) in
          let q : f.height - 1 + 1 ≡ f.height = omega arith in
          up_in o (f.height - 1) (o % f.step) j refl (omega arith)
          ∙ ap (λ (n : ℕ). rows ws f (f.height - 1) ++ row_from ws f (f.height - 1) 0 n) (whole-all f (o % f.step) c ∙ sym (whole-all f f.step d.held.held))
          ∙ row_done (f.height - 1) ∙ ap (rows ws f) q

  pub all_words : 0 < f.height → by_words ws f (words_of f) ≡ rows ws f f.height
  unfolding data_words
  all_words h =
      let w = some-pixel f d.held in
      let e = some-needed f.bytes f.step f.width f.height (λ z. omega arith) (λ z. omega arith) in
      words_up ((data_bytes f.bytes f.step f.width f.height + 3) / 4)
      ∙ up-all (4 * ((data_bytes f.bytes f.step f.width f.height + 3) / 4)) h (omega arith)

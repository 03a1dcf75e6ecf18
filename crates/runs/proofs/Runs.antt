-- Laws of runs of bytes: a turn of a loop over one, the pixels that a run of a row's bytes is, a rectangle given row by row as runs, and that what is shifted or given is one memory.
-- Assumes nothing.
use mathlib.Core.Path.{◌≡◌, refl, sym, ap, subst, ◌∙◌}
use mathlib.Core.Logic.{◌⊎◌, inl, inr, ⊎_elim}
use mathlib.Core.Bool.{false}
use mathlib.Core.List.{List}
use Prim.Native.Nat.{ℕ, ◌+◌, ◌-◌, ◌*◌, ◌/◌, ◌%◌, ◌<◌, ◌≤◌}
use native.Mathlib.Nat.{add-mul, mod-lt, div-add-mod', div-lt_iff_lt-mul, mul-le-mul_right}
use native.Mathlib.Omega.{arith}
use native.Mathlib.Decide.{ℕ_discrete, dec_lt, dec_le}
use lib.ListN.{length, get_or, set, length-set}
use lib.Seq.{get_or-set_same, get_or-set_other, ext_get_or}
use Rattle.surface.specs.declared.Surface.{Surface}
use Rattle.surface.specs.Place.{byte_of, row_pixels}
use Rattle.surface.specs.Pixels.{Px, px, Inside}
use Rattle.surface.proofs.Lists.{by_cases}
use Rattle.surface.proofs.Pixels.{same_byte}
use Rattle.surface.proofs.Run.{run-byte}
use Rattle.surface.proofs.Rects.{same-px}
use Rattle.runs.specs.Runs.{Shifted, Given}

-- two memories of one length are the same where no byte of them can differ
pub same_memory : {a b : List ℕ} → length a ≡ length b → ((i : ℕ) → (get_or a i 0 ≡ get_or b i 0 → ⊥) → get_or a i 0 ≡ get_or b i 0) → a ≡ b
same_memory {a} {b} long same = ext_get_or 0 a b long (λ i l. by_cases (ℕ_discrete (get_or a i 0) (get_or b i 0)) (λ e. e) (same i))

-- ---- a run
pub not-shifted : (d s : ℕ) (m : List ℕ) → Shifted d s 0 0 m m
not-shifted d s m = record { came = λ i l h. absurd (omega arith); below = λ a h. refl; above = λ a h. refl; long = refl }

pub none-shifted : (d s n : ℕ) (m : List ℕ) → Shifted d s n n m m
none-shifted d s n m = record { came = λ i l h. absurd (omega arith); below = λ a h. refl; above = λ a h. refl; long = refl }

-- an address that is none of the run's
pub untouched : {d s lo hi : ℕ} {m m' : List ℕ} → Shifted d s lo hi m m' → (a : ℕ) → ((j : ℕ) → lo ≤ j → j < hi → d + j ≡ a → ⊥) → get_or m' a 0 ≡ get_or m a 0
untouched {d} {s} {lo} {hi} k a out =
    by_cases (dec_lt a (d + lo)) (k.below a)
    (λ u. by_cases (dec_le (d + hi) a) (k.above a) (λ v. absurd (out (a - d) (omega arith) (omega arith) (omega arith))))

-- any two memories that a run may leave are the same
pub shifted-once : {d s lo hi : ℕ} {m a b : List ℕ} → Shifted d s lo hi m a → Shifted d s lo hi m b → a ≡ b
shifted-once {d} {s} {lo} {hi} {m} {a} {b} f g =
    same_memory (f.long ∙ sym g.long) (λ i n.
    let none : (j : ℕ) → lo ≤ j → j < hi → d + j ≡ i → ⊥ =
    (λ j l h e. n (ap (λ (k : ℕ). get_or a k 0) (sym e) ∙ f.came j l h ∙ sym (g.came j l h) ∙ ap (λ (k : ℕ). get_or b k 0) e)) in
    untouched f i none ∙ sym (untouched g i none))

-- one byte more, at the upper end, or at the lower one
module _ (d s lo hi i : ℕ) {m₀ m : List ℕ} (k : Shifted d s lo hi m₀ m) (room : d + i < length m) (unread : (j : ℕ) → lo ≤ j → j < hi → d + j ≡ s + i → ⊥) where
  abbrev next : List ℕ
  next = set m (d + i) (get_or m (s + i) 0)

  here : get_or next (d + i) 0 ≡ get_or m₀ (s + i) 0
  here = get_or-set_same m (d + i) (get_or m (s + i) 0) 0 room ∙ untouched k (s + i) unread

  there : (a : ℕ) → (a ≡ d + i → ⊥) → get_or next a 0 ≡ get_or m a 0
  there a n = get_or-set_other m (d + i) a (get_or m (s + i) 0) 0 n

  came-to : (j : ℕ) → ((lo ≤ j) × (j < hi)) ⊎ (j ≡ i) → get_or next (d + j) 0 ≡ get_or m₀ (s + j) 0
  came-to j =
      ⊎_elim
      (λ r. by_cases (ℕ_discrete j i) (λ e. subst (λ (n : ℕ). get_or next (d + n) 0 ≡ get_or m₀ (s + n) 0) (sym e) here)
      (λ n. there (d + j) (λ e. n (omega arith)) ∙ k.came j r.0 r.1))
      (λ e. subst (λ (n : ℕ). get_or next (d + n) 0 ≡ get_or m₀ (s + n) 0) (sym e) here)

  pub up_next : hi ≡ i → lo ≤ i → Shifted d s lo (i + 1) m₀ next
  up_next e l = record {
    came = λ j lj h. came-to j (by_cases (ℕ_discrete j i) (λ q. inr q) (λ q. inl (omega arith)));
    below = λ a h. there a (λ q. omega arith) ∙ k.below a h;
    above = λ a h. there a (λ q. omega arith) ∙ k.above a (omega arith);
    long = length-set m (d + i) (get_or m (s + i) 0) ∙ k.long;
  }

  pub down-next : lo ≡ i + 1 → i < hi → Shifted d s i hi m₀ next
  down-next e l = record {
    came = λ j lj h. came-to j (by_cases (ℕ_discrete j i) (λ q. inr q) (λ q. inl (omega arith)));
    below = λ a h. there a (λ q. omega arith) ∙ k.below a (omega arith);
    above = λ a h. there a (λ q. omega arith) ∙ k.above a h;
    long = length-set m (d + i) (get_or m (s + i) 0) ∙ k.long;
  }

-- the same of a run from its first byte on
pub up_begun : {d s i : ℕ} {m₀ m : List ℕ} → Shifted d s 0 i m₀ m → d + i < length m → ((j : ℕ) → j < i → d + j ≡ s + i → ⊥)
    → Shifted d s 0 (i + 1) m₀ (set m (d + i) (get_or m (s + i) 0))
up_begun {d} {s} {i} k room unread = up_next d s 0 i i k room (λ j _ l. unread j l) refl (omega arith)

-- ---- the bytes of a row's pixels are a run
module _ (s : Surface) (colour : 0 < s.bytes) (x y : ℕ) where
  pub run_inside : (w c k : ℕ) → c < w → k < s.bytes → c * s.bytes + k < w * s.bytes
  run_inside w c k h l =
      let e : (c + 1) * s.bytes ≡ c * s.bytes + 1 * s.bytes = add-mul c 1 s.bytes in
      let f : (c + 1) * s.bytes ≤ w * s.bytes = mul-le-mul_right s.bytes (omega arith) in
      omega (arith, e, f)

  -- byte number i of the run
  pub run-column : (w i : ℕ) → i < w * s.bytes → i / s.bytes < w
  run-column w i h = (div-lt_iff_lt-mul colour).1 h

  pub run-place : s.tiled ≡ false → (i : ℕ) → byte_of s x y 0 + i ≡ byte_of s (x + i / s.bytes) y (i % s.bytes)
  run-place flat i = ap (λ (n : ℕ). byte_of s x y 0 + n) (sym (div-add-mod' i s.bytes)) ∙ run-byte s flat x y (byte_of s x y 0) refl (i / s.bytes) (i % s.bytes)

-- ---- a rectangle given
pub given-none : (s : Surface) (byte : Px → ℕ → ℕ) (x y w : ℕ) (m : List ℕ) → Given s byte x y w 0 m m
given-none s byte x y w m = record { inside = λ p i k l. absurd (omega arith); others = λ a f. refl; long = refl }

pub given-once : {s : Surface} {byte : Px → ℕ → ℕ} {x y w h : ℕ} {m a b : List ℕ} → Given s byte x y w h m a → Given s byte x y w h m b → a ≡ b
given-once {s} {byte} {x} {y} {w} {h} {m} {a} {b} f g =
    same_memory (f.long ∙ sym g.long) (λ i n.
    let none : (p : Px) → Inside x y w h p → (k : ℕ) → k < s.bytes → i ≡ byte_of s p.x p.y k → ⊥ =
    (λ p q k o e. n (ap (λ (j : ℕ). get_or a j 0) e ∙ f.inside p q k o ∙ sym (g.inside p q k o) ∙ ap (λ (j : ℕ). get_or b j 0) (sym e))) in
    f.others i none ∙ sym (g.others i none))

-- one row more, above or below, as a run of bytes that have the row's values
module _ (s : Surface) (flat : s.tiled ≡ false) (colour : 0 < s.bytes) (byte : Px → ℕ → ℕ) (x w : ℕ) (columns : (c : ℕ) → c < w → x + c < row_pixels s) where
  pub given-row : (top h top' y from : ℕ) (m₀ m m₁ : List ℕ) → ((top' ≡ top) × (y ≡ top + h)) ⊎ ((top' ≡ y) × (top ≡ y + 1))
      → Given s byte x top w h m₀ m → Shifted (byte_of s x y 0) from 0 (w * s.bytes) m m₁
      → ((c k : ℕ) → c < w → k < s.bytes → get_or m (from + (c * s.bytes + k)) 0 ≡ byte (px (x + c) y) k)
      → Given s byte x top' w (h + 1) m₀ m₁
  given-row top h top' y from m₀ m m₁ rows given run values = record {
    inside = λ p i k l.
        by_cases (ℕ_discrete p.y y)
        (λ e. let c = p.x - x in
        let same : px (x + c) y ≡ p = same-px (px (x + c) y) p (omega arith) (sym e) in
        subst (λ (q : Px). get_or m₁ (byte_of s q.x q.y k) 0 ≡ byte q k) same
        (ap (λ (a : ℕ). get_or m₁ a 0) (sym (run-byte s flat x y (byte_of s x y 0) refl c k))
        ∙ run.came (c * s.bytes + k) (omega arith) (run_inside s colour x y w c k (omega arith) l) ∙ values c k (omega arith) l))
        (λ n. let old : Inside x top w h p = ⊎_elim (λ r. omega arith) (λ r. omega arith) rows in
        untouched run (byte_of s p.x p.y k) (λ j _ r e. n (elsewhere p i k l j r e)) ∙ given.inside p old k l);
    others = λ a f.
        untouched run a (λ j _ r e.
        f (px (x + j / s.bytes) y) (let c = run-column s colour x y w j r in ⊎_elim (λ z. omega arith) (λ z. omega arith) rows) (j % s.bytes) (mod-lt j colour)
        (sym e ∙ run-place s colour x y flat j))
        ∙ given.others a (λ p i. f p (⊎_elim (λ z. omega arith) (λ z. omega arith) rows));
    long = run.long ∙ given.long;
  }
    where
      elsewhere : (p : Px) → Inside x top' w (h + 1) p → (k : ℕ) → k < s.bytes → (j : ℕ) → j < w * s.bytes → byte_of s x y 0 + j ≡ byte_of s p.x p.y k → p.y ≡ y
      elsewhere p i k l j r e =
          let c = run-column s colour x y w j r in
          let column : p.x < row_pixels s = subst (λ (n : ℕ). n < row_pixels s) (omega arith) (columns (p.x - x) (omega arith)) in
          sym (same_byte s (x + j / s.bytes) y (j % s.bytes) p.x p.y k (columns (j / s.bytes) c) column (mod-lt j colour) l (sym (run-place s colour x y flat j) ∙ e)).1

-- Rectangles of bytes: a block lies in lines, two rectangles make one, what is put is one memory, and what goes a part of a way goes that part of the whole.
-- Assumes nothing.
use mathlib.Core.Path.{◌≡◌, refl, sym, ap, ap₂, ◌∙◌}
use mathlib.Core.Logic.{◌⊎◌, inl, inr, ⊎_elim}
use mathlib.Core.Bool.{true, false}
use mathlib.Core.List.{List}
use Prim.Native.Nat.{ℕ, ◌+◌, ◌-◌, ◌*◌, ◌^◌, ◌<◌, ◌≤◌}
use native.Mathlib.Omega.{arith}
use native.Mathlib.Decide.{dec_lt}
use lib.ListN.{get_or}
use Rattle.surface.specs.declared.Surface.{Surface}
use Rattle.surface.specs.Place.{row_bytes, byte_at}
use Rattle.surface.specs.Asked.{Small, Near}
use Rattle.surface.specs.Pixels.{Px, px, Inside}
use Rattle.surface.proofs.Lists.{by_cases}
use Rattle.surface.proofs.Rows.{by_layout, row_bytes-flat, row_bytes-tiled, byte_at-inj, byte_at-small, byte_at-rows, byte_at-tile}
use Rattle.runs.proofs.Runs.{same_memory}
use Rattle.blocks.specs.declared.Way.{Way}
use Rattle.blocks.specs.Blocks.{Put, origin, origin_byte, Laid, pitch}
use Rattle.blocks.specs.Asked.{Lines, Goes, Columns, Rows}

-- ---- where the bytes of a block are
flat-pitch : (s : Surface) → s.tiled ≡ false → pitch s ≡ s.stride
flat-pitch s e = rw e

tiled-pitch : (s : Surface) → s.tiled ≡ true → pitch s ≡ 128
tiled-pitch s e = rw e

pub block_at : (s : Surface) (x y i q n h : ℕ) → Columns s x n → Rows s y h → i < n → q < h → byte_at s (x + i) (y + q) ≡ byte_at s x y + (q * pitch s + i)
block_at s x y i q n h columns rows li lq =
    by_layout s (λ e. rw (flat-pitch s e) (byte_at-rows s e x y i q))
    (λ e. let c = columns.one e in
    let r = rows.one e in
    rw (tiled-pitch s e) (byte_at-tile s e x y i q (omega arith) (omega arith)))

pitch-small : (s : Surface) → Small s → pitch s < 2 ^ 17
pitch-small s small = by_layout s (λ e. rw (flat-pitch s e) small.stride) (λ e. rw (tiled-pitch s e) (omega arith))

pub row_small : (s : Surface) → Small s → row_bytes s < 2 ^ 24
row_small s small = by_layout s (λ e. omega (arith, row_bytes-flat s e, small.stride)) (λ e. omega (arith, row_bytes-tiled s e, small.stride))

slim-block : (s : Surface) (x n : ℕ) → Columns s x n → x + n ≤ row_bytes s → n ≤ pitch s
slim-block s x n columns wide = by_layout s (λ e. omega (arith, flat-pitch s e, row_bytes-flat s e)) (λ e. let c = columns.one e in omega (arith, tiled-pitch s e))

low_byte : (s : Surface) (x y n h : ℕ) → Small s → x + n ≤ row_bytes s → y + h < 2 ^ 32 → Near s x y
low_byte s x y n h small wide high = record { small = small; across = omega (arith, row_small s small); down = omega arith }

module _ (b : Way) {n h len : ℕ} (goes : Goes b n h len) where
  pub near-to : Near b.to b.x b.y
  near-to = low_byte b.to b.x b.y n h goes.small goes.wide goes.high

  pub near-from : Near b.from b.sx b.sy
  near-from = low_byte b.from b.sx b.sy n h goes.small' goes.wide' goes.high'

  module _ (columns : Columns b.to b.x n) (columns' : Columns b.from b.sx n) (rows : Rows b.to b.y h) (rows' : Rows b.from b.sy h) where
    to-line : (q i : ℕ) → q < h → i < n → byte_at b.to b.x b.y + (q * pitch b.to + i) ≡ byte_at b.to (b.x + i) (b.y + q)
    to-line q i lq li = sym (block_at b.to b.x b.y i q n h columns rows li lq)

    from-line : (q i : ℕ) → q < h → i < n → byte_at b.from b.sx b.sy + (q * pitch b.from + i) ≡ origin b (px (b.x + i) (b.y + q))
    from-line q i lq li =
        sym (block_at b.from b.sx b.sy i q n h columns' rows' li lq)
        ∙ ap₂ (λ (c r : ℕ). byte_at b.from (b.sx + c) (b.sy + r)) (omega arith) (omega arith)

    pub block-lines : Lines (byte_at b.to b.x b.y) (pitch b.to) (byte_at b.from b.sx b.sy) (pitch b.from) n h len
    block-lines = record {
      slim = slim-block b.to b.x n columns goes.wide;
      low = byte_at-small near-to;
      low' = byte_at-small near-from;
      short = pitch-small b.to goes.small;
      short' = pitch-small b.from goes.small';
      few = omega (arith, goes.high);
      to = λ q i lq li. rw (to-line q i lq li) (goes.to (px (b.x + i) (b.y + q)) (omega arith));
      from = λ q i lq li. rw (from-line q i lq li) (goes.from (px (b.x + i) (b.y + q)) (omega arith));
      apart = λ q i q' i' lq li lq' li' e.
          goes.apart (px (b.x + i) (b.y + q)) (px (b.x + i') (b.y + q')) (omega arith) (omega arith) (sym (to-line q i lq li) ∙ e ∙ from-line q' i' lq' li');
    }

    pub block-put : {m m' : List ℕ} → Laid (byte_at b.to b.x b.y) (pitch b.to) (byte_at b.from b.sx b.sy) (pitch b.from) n h m m'
        → Put b.to (origin_byte b m) b.x b.y n h m m'
    block-put {m} {m'} laid = record {
      inside = λ p i.
          let c = p.x - b.x in
          let q = p.y - b.y in
          ap₂ (λ (x y : ℕ). get_or m' (byte_at b.to x y) 0) (omega arith) (omega arith)
          ∙ ap (λ (a : ℕ). get_or m' a 0) (sym (to-line q c (omega arith) (omega arith)))
          ∙ laid.came q c (omega arith) (omega arith)
          ∙ ap (λ (a : ℕ). get_or m a 0) (sym (block_at b.from b.sx b.sy c q n h columns' rows' (omega arith) (omega arith)));
      others = λ a out. laid.others a (λ q i lq li e. out (px (b.x + i) (b.y + q)) (omega arith) (e ∙ to-line q i lq li));
      long = laid.long;
    }

-- ---- two rectangles make one
pub put-none : (s : Surface) (value : Px → ℕ) (x y n h : ℕ) (m : List ℕ) → ((p : Px) → Inside x y n h p → ⊥) → Put s value x y n h m m
put-none s value x y n h m none = record { inside = λ p i. absurd (none p i); others = λ a out. refl; long = refl }

-- any two memories that a rectangle of bytes may leave are the same
pub put-once : {s : Surface} {value : Px → ℕ} {x y n h : ℕ} {m a b : List ℕ} → Put s value x y n h m a → Put s value x y n h m b → a ≡ b
put-once {s} {value} {x} {y} {n} {h} {m} {a} {b} f g =
    same_memory (f.long ∙ sym g.long) (λ i differ.
    let none : (p : Px) → Inside x y n h p → i ≡ byte_at s p.x p.y → ⊥ =
    (λ p q e. differ (ap (λ (j : ℕ). get_or a j 0) e ∙ f.inside p q ∙ sym (g.inside p q) ∙ ap (λ (j : ℕ). get_or b j 0) (sym e))) in
    f.others i none ∙ sym (g.others i none))

module _ (s : Surface) (value : Px → ℕ) {m m₁ m₂ : List ℕ} (x y n h : ℕ) (wide : x + n ≤ row_bytes s) where
  both : (x₁ y₁ n₁ h₁ x₂ y₂ n₂ h₂ : ℕ) → ((p : Px) → Inside x y n h p → Inside x₁ y₁ n₁ h₁ p ⊎ Inside x₂ y₂ n₂ h₂ p)
      → ((p : Px) → Inside x₁ y₁ n₁ h₁ p → Inside x y n h p) → ((p : Px) → Inside x₂ y₂ n₂ h₂ p → Inside x y n h p)
      → ((p q : Px) → Inside x₁ y₁ n₁ h₁ p → Inside x₂ y₂ n₂ h₂ q → p.x ≡ q.x → p.y ≡ q.y → ⊥)
      → Put s value x₁ y₁ n₁ h₁ m m₁ → Put s value x₂ y₂ n₂ h₂ m₁ m₂ → Put s value x y n h m m₂
  both x₁ y₁ n₁ h₁ x₂ y₂ n₂ h₂ which in₁ in₂ apart first second = record {
    inside = λ p i.
        ⊎_elim
        (λ j. second.others (byte_at s p.x p.y)
        (λ q k e. let l = in₂ q k in
        let same = byte_at-inj s p.x p.y q.x q.y (omega arith) (omega arith) e in apart p q j k same.1 same.0)
        ∙ first.inside p j)
        (λ j. second.inside p j) (which p i);
    others = λ a out. second.others a (λ q k. out q (in₂ q k)) ∙ first.others a (λ q k. out q (in₁ q k));
    long = second.long ∙ first.long;
  }

  pub put-beside : (i k : ℕ) → i + k ≤ n → n ≤ i + k → Put s value x y i h m m₁ → Put s value (x + i) y k h m₁ m₂ → Put s value x y n h m m₂
  put-beside i k l u = both x y i h (x + i) y k h
      (λ p j. by_cases (dec_lt p.x (x + i)) (λ c. inl (omega arith)) (λ c. inr (omega arith)))
      (λ p j. omega arith) (λ p j. omega arith) (λ p q j j' e f. omega arith)

  pub put-below : (j k : ℕ) → j + k ≤ h → h ≤ j + k → Put s value x y n j m m₁ → Put s value x (y + j) n k m₁ m₂ → Put s value x y n h m m₂
  put-below j k l u = both x y n j x (y + j) n k
      (λ p i. by_cases (dec_lt p.y (y + j)) (λ c. inl (omega arith)) (λ c. inr (omega arith)))
      (λ p i. omega arith) (λ p i. omega arith) (λ p q i i' e f. omega arith)

-- ---- a part of a way
abbrev pub way : Surface → Surface → ℕ → ℕ → ℕ → ℕ → Way
way to from x y sx sy = record { to = to; from = from; x = x; y = y; sx = sx; sy = sy }

-- k columns by l rows of it, after i columns and j rows
pub record Part (b : Way) (n h x y sx sy i j k l : ℕ) : Type 0 where
  pub left : x ≡ b.x + i
  pub top : y ≡ b.y + j
  pub left' : sx ≡ b.sx + i
  pub top' : sy ≡ b.sy + j
  pub wide : i + k ≤ n
  pub high : j + l ≤ h

module _ (b : Way) {n h len : ℕ} (goes : Goes b n h len) {x y sx sy i j k l : ℕ} (part : Part b n h x y sx sy i j k l) where
  abbrev of : Way
  of = way b.to b.from x y sx sy

  within : (p : Px) → Inside x y k l p → Inside b.x b.y n h p
  within p q = omega arith

  part-origin : (p : Px) → Inside x y k l p → origin of p ≡ origin b p
  part-origin p q = ap₂ (λ (c r : ℕ). byte_at b.from c r) (omega arith) (omega arith)

  pub part-goes : Goes of k l len
  part-goes = record {
    small = goes.small;
    small' = goes.small';
    wide = omega (arith, goes.wide);
    wide' = omega (arith, goes.wide');
    high = omega (arith, goes.high);
    high' = omega (arith, goes.high');
    to = λ p q. goes.to p (within p q);
    from = λ p q. rw (part-origin p q) (goes.from p (within p q));
    apart = λ p q u v e. goes.apart p q (within p u) (within q v) (e ∙ part-origin q v);
  }

  -- what comes after other bytes have come comes from the memory as it was
  pub part-put : (x' y' n' h' : ℕ) {value : Px → ℕ} {m₀ m m₁ : List ℕ} → ((p : Px) → Inside x' y' n' h' p → Inside b.x b.y n h p) → Put b.to value x' y' n' h' m₀ m
      → Put b.to (origin_byte of m) x y k l m m₁ → Put b.to (origin_byte b m₀) x y k l m m₁
  part-put x' y' n' h' {value} {m₀} {m} {m₁} ins done put = record {
    inside = λ p q. put.inside p q ∙ ap (λ (a : ℕ). get_or m a 0) (part-origin p q)
        ∙ done.others (origin b p) (λ u v e. goes.apart u p (ins u v) (within p q) (sym e));
    others = put.others;
    long = put.long;
  }

-- Rectangles of bytes changed by masks: a piece that reaches over no edge of a tile, and one piece, one part or one row more.
-- Assumes nothing.
use mathlib.Core.Path.{◌≡◌, sym, ap, ap₂, subst, ◌∙◌}
use mathlib.Core.List.{List}
use Prim.Native.Nat.{ℕ, ◌+◌, ◌-◌, ◌*◌, ◌/◌, ◌%◌, ◌<◌, ◌≤◌}
use native.Mathlib.Nat.{mod-lt, mod-le, mod-add-mod, add-mul, mul_assoc, add-mul-mod_self_right}
use native.Mathlib.Omega.{arith}
use lib.ListN.{length, get_or}
use Rattle.surface.specs.declared.Surface.{Surface}
use Rattle.surface.specs.Place.{row_bytes, byte_at}
use Rattle.surface.specs.Pixels.{Px, px, Inside}
use Rattle.surface.proofs.Rows.{byte_at-inj}
use Rattle.tint.specs.Masking.{masked, blended}
use Rattle.blocks.specs.Blocks.{Put}
use Rattle.blocks.specs.Asked.{Columns, Rows}
use Rattle.blocks.proofs.Blocks.{block_at, put-beside, put-below}
use Rattle.wash.specs.Wash.{washed, in_row, in_rows}
use Rattle.wash.specs.Asked.{Again, Period}
use Rattle.wash.proofs.Blend.{blended-length, blended-other, blended-byte}

-- ---- a piece
module _ (s : Surface) (keep flip : List ℕ) (x y n : ℕ) (edge : x % 128 + n ≤ 128) where
  columns : Columns s x n
  columns = record { one = λ e. edge }

  rows : Rows s y 1
  rows = record { one = λ e. omega arith }

  pub piece-at : (i : ℕ) → i < n → byte_at s (x + i) y ≡ byte_at s x y + i
  piece-at i l =
      let e : y ≡ y + 0 = omega arith in
      ap (byte_at s (x + i)) e ∙ block_at s x y i 0 n 1 columns rows l (omega arith) ∙ omega arith

  pub piece-put : (from : ℕ) (m : List ℕ) → ((c : ℕ) → x ≤ c → c < x + n → byte_at s c y < length m)
      → Put s (washed s keep flip (λ q. from + (q.x - x)) m) x y n 1 m (blended keep flip from (byte_at s x y) n m)
  piece-put from m held = record {
    inside = λ p i.
        let there = place p i in
        let c = p.x - x in
        ap (λ (a : ℕ). get_or (blended keep flip from (byte_at s x y) n m) a 0) there
        ∙ blended-byte keep flip from (byte_at s x y) n m c (omega arith) (subst (λ (a : ℕ). a < length m) (piece-at c (omega arith)) (held (x + c) (omega arith) (omega arith)))
        ∙ ap (λ (a : ℕ). masked (get_or m a 0) (get_or keep (from + c) 0) (get_or flip (from + c) 0)) (sym there);
    others = λ a out. blended-other keep flip from (byte_at s x y) n m a (λ i l e. out (px (x + i) y) (omega arith) (e ∙ sym (piece-at i l)));
    long = blended-length keep flip from (byte_at s x y) n m;
  }
    where
      place : (p : Px) → Inside x y n 1 p → byte_at s p.x p.y ≡ byte_at s x y + (p.x - x)
      place p i = ap₂ (byte_at s) (omega arith) (omega arith) ∙ piece-at (p.x - x) (omega arith)

-- ---- one more
module _ (s : Surface) (keep flip : List ℕ) where
  -- what is changed after other bytes were is changed as it was at the start
  later : (number number' : Px → ℕ) (x y k l x' y' n' h' : ℕ) {value : Px → ℕ} {m₀ m m₁ : List ℕ} → x + k ≤ row_bytes s → x' + n' ≤ row_bytes s
      → ((p : Px) → Inside x y k l p → get_or keep (number' p) 0 ≡ get_or keep (number p) 0)
      → ((p : Px) → Inside x y k l p → get_or flip (number' p) 0 ≡ get_or flip (number p) 0)
      → ((p q : Px) → Inside x y k l p → Inside x' y' n' h' q → p.x ≡ q.x → p.y ≡ q.y → ⊥)
      → Put s value x' y' n' h' m₀ m → Put s (washed s keep flip number' m) x y k l m m₁ → Put s (washed s keep flip number m₀) x y k l m m₁
  later number number' x y k l x' y' n' h' {value} {m₀} {m} {m₁} wide wide' keeps flips apart done put = record {
    inside = λ p i.
        let old : get_or m (byte_at s p.x p.y) 0 ≡ get_or m₀ (byte_at s p.x p.y) 0 =
        done.others (byte_at s p.x p.y) (λ q j e. let same = byte_at-inj s p.x p.y q.x q.y (omega arith) (omega arith) e in apart p q i j same.1 same.0) in
        put.inside p i ∙ ap (λ (d : ℕ). masked d (get_or keep (number' p) 0) (get_or flip (number' p) 0)) old
        ∙ ap₂ (masked (get_or m₀ (byte_at s p.x p.y) 0)) (keeps p i) (flips p i);
    others = put.others;
    long = put.long;
  }

  -- a piece
  module _ (first period x y n i k : ℕ) (steps : Period period) (wide : x + n ≤ row_bytes s) (part : i + k ≤ n) (short : k ≤ 128) where
    -- the masks go on as the row's do
    goes_on : {table : List ℕ} → Again table first period n → (p : Px) → Inside (x + i) y k 1 p
        → get_or table (first + i % period + (p.x - (x + i))) 0 ≡ get_or table (in_row first period x p) 0
    goes_on {table} again p j =
        let d = p.x - (x + i) in
        let low = mod-lt i steps.some in
        let e : first + i % period + d ≡ first + (i % period + d) = omega arith in
        let f : i + d ≡ p.x - x = omega arith in
        ap (λ (a : ℕ). get_or table a 0) e ∙ again.same (i % period + d) (omega (arith, steps.few)) (omega (arith, mod-le i period))
        ∙ ap (λ (a : ℕ). get_or table (first + a) 0) (mod-add-mod i period d ∙ ap (λ (a : ℕ). a % period) f)

    pub piece-more : {m₀ m m₁ : List ℕ} → Again keep first period n → Again flip first period n → Put s (washed s keep flip (in_row first period x) m₀) x y i 1 m₀ m
        → Put s (washed s keep flip (λ q. first + i % period + (q.x - (x + i))) m) (x + i) y k 1 m m₁
        → Put s (washed s keep flip (in_row first period x) m₀) x y (i + k) 1 m₀ m₁
    piece-more {m₀} keeps flips done put =
        put-beside s (washed s keep flip (in_row first period x) m₀) x y (i + k) 1 (omega arith) i k (omega arith) (omega arith) done
        (later (in_row first period x) (λ q. first + i % period + (q.x - (x + i))) (x + i) y k 1 x y i 1 (omega arith) (omega arith)
        (goes_on keeps) (goes_on flips) (λ p q u v e f. omega arith) done put)

  -- so many pixels of a row, after eights of them: the masks begin again there
  module _ (first x y i k : ℕ) (wide : x * s.bytes + (i + k) * s.bytes ≤ row_bytes s) (eights : i % 8 ≡ 0) where
    begins-again : (p : Px) → Inside (x * s.bytes + i * s.bytes) y (k * s.bytes) 1 p
        → in_row first (8 * s.bytes) (x * s.bytes + i * s.bytes) p ≡ in_row first (8 * s.bytes) (x * s.bytes) p
    begins-again p j =
        let b = s.bytes in
        let d = p.x - (x * b + i * b) in
        let whole : i ≡ i / 8 * 8 = omega arith in
        let turns : i * b ≡ i / 8 * (8 * b) = ap (λ (n : ℕ). n * b) whole ∙ mul_assoc (i / 8) 8 b in
        let e : p.x - x * b ≡ d + i / 8 * (8 * b) = omega (arith, turns) in
        ap (λ (n : ℕ). first + n) (sym (ap (λ (n : ℕ). n % (8 * b)) e ∙ add-mul-mod_self_right d (i / 8) (8 * b)))

    pub part-more : {m₀ m m₁ : List ℕ} → Put s (washed s keep flip (in_row first (8 * s.bytes) (x * s.bytes)) m₀) (x * s.bytes) y (i * s.bytes) 1 m₀ m
        → Put s (washed s keep flip (in_row first (8 * s.bytes) ((x + i) * s.bytes)) m) ((x + i) * s.bytes) y (k * s.bytes) 1 m m₁
        → Put s (washed s keep flip (in_row first (8 * s.bytes) (x * s.bytes)) m₀) (x * s.bytes) y ((i + k) * s.bytes) 1 m₀ m₁
    part-more {m₀} {m} {m₁} done put =
        let b = s.bytes in
        let all = add-mul i k b in
        put-beside s (washed s keep flip (in_row first (8 * b) (x * b)) m₀) (x * b) y ((i + k) * b) 1 wide (i * b) (k * b) (omega arith) (omega arith) done
        (later (in_row first (8 * b) (x * b)) (in_row first (8 * b) (x * b + i * b)) (x * b + i * b) y (k * b) 1 (x * b) y (i * b) 1 (omega arith) (omega arith)
        (λ p j. ap (λ (a : ℕ). get_or keep a 0) (begins-again p j)) (λ p j. ap (λ (a : ℕ). get_or flip a 0) (begins-again p j)) (λ p q u v e f. omega arith) done
        (subst (λ (n : ℕ). Put s (washed s keep flip (in_row first (8 * b) n) m) n y (k * b) 1 m m₁) (add-mul x i b) put))

  -- a row
  module _ (period x y n j : ℕ) (wide : x + n ≤ row_bytes s) where
    pub row_more : {m₀ m m₁ : List ℕ} → Put s (washed s keep flip (in_rows 160 period x y) m₀) x y n j m₀ m
        → Put s (washed s keep flip (in_row (j % 8 * 160) period x) m) x (y + j) n 1 m m₁
        → Put s (washed s keep flip (in_rows 160 period x y) m₀) x y n (j + 1) m₀ m₁
    row_more {m₀} done put =
        put-below s (washed s keep flip (in_rows 160 period x y) m₀) x y n (j + 1) wide j 1 (omega arith) (omega arith) done
        (later (in_rows 160 period x y) (in_row (j % 8 * 160) period x) x (y + j) n 1 x y n j wide wide
        (λ p i. ap (λ (a : ℕ). get_or keep a 0) (row_number p i)) (λ p i. ap (λ (a : ℕ). get_or flip a 0) (row_number p i)) (λ p q u v e f. omega arith) done put)
      where
        row_number : (p : Px) → Inside x (y + j) n 1 p → in_row (j % 8 * 160) period x p ≡ in_rows 160 period x y p
        row_number p i = let e : j ≡ p.y - y = omega arith in ap (λ (r : ℕ). r % 8 * 160 + (p.x - x) % period) e

-- Pixels of a row that are not those of another: as bytes kept in two buffers, part by part, and as a sum over the row's pixels.
-- Assumes nothing.
use mathlib.Core.Path.{◌≡◌, refl, sym, ap, ap₂, subst, ◌∙◌}
use mathlib.Core.Bool.{false, not}
use mathlib.Core.List.{List}
use Prim.Native.Nat.{ℕ, zero, suc, ◌+◌, ◌*◌, ◌^◌, ◌<◌, ◌≤◌}
use native.Mathlib.Nat.{add-mul, mul-le-mul}
use native.Mathlib.Omega.{arith}
use lib.Dec.{eqb}
use lib.ListN.{get_or}
use Rattle.surface.specs.declared.Surface.{Surface}
use Rattle.surface.specs.Place.{byte_at, byte_of, read_bytes, read_px, one}
use Rattle.surface.specs.Pixels.{Px, px, across}
use Rattle.surface.proofs.Bytes.{read_as}
use Rattle.surface.proofs.OnLaws.{one-most}
use Rattle.paint.specs.Paint.{summed}
use Rattle.runs.specs.Runs.{unlikes, RowKept}
use Rattle.runs.specs.Asked.{RowHeld}
use Rattle.runs.proofs.Runs.{run_inside}
use Rattle.runs.proofs.Keeping.{row-held}
use Rattle.blocks.specs.Blocks.{others, others_down}
use Rattle.blocks.specs.Asked.{PartOn}

-- ---- rows that can be kept
module _ {to from : Surface} {x y sx sy w len : ℕ} (on : PartOn to from x y sx sy w len) where
  pub part_held : RowHeld to (x * to.bytes) y (w * to.bytes) len
  part_held = row-held on.target.some x y w on.target.small (omega (arith, on.right)) (omega (arith, on.down)) (λ i l. record { colour = on.target; on = on.on i l })

  pub source-held : RowHeld from (sx * to.bytes) sy (w * to.bytes) len
  source-held =
      subst (λ (b : ℕ). RowHeld from (sx * b) sy (w * b) len) on.format
      (row-held on.source.some sx sy w on.source.small on.source_right (omega (arith, on.source_down)) (λ i l. record { colour = on.source; on = on.source_on i l }))

  -- as buffers hold them
  pub part-fits : w ≤ 256 → w * to.bytes ≤ 1024
  part-fits few = mul-le-mul {n₂ = 256} {m₂ = 4} few (omega (arith, on.target.small.bytes))

  -- some columns of them
  pub part-part : (i k : ℕ) → i + k ≤ w → PartOn to from (x + i) y (sx + i) sy k len
  part-part i k fits = record {
    format = on.format;
    wide = omega (arith, on.wide);
    right = omega (arith, on.right);
    source_right = omega (arith, on.source_right);
    down = on.down;
    source_down = on.source_down;
    target = on.target;
    source = on.source;
    on = λ j l. let p : x + i + j ≡ x + (i + j) = omega arith in rw p (on.on (i + j) (omega arith));
    source_on = λ j l. let p : sx + i + j ≡ sx + (i + j) = omega arith in rw p (on.source_on (i + j) (omega arith));
  }

-- ---- bytes kept
module _ (to from : Surface) (format : from.bytes ≡ to.bytes) (y sy : ℕ) (m a a' : List ℕ) where
  unlike-bytes : (x sx d e w : ℕ) → ((c k : ℕ) → c < w → k < to.bytes → get_or a (d + (c * to.bytes + k)) 0 ≡ get_or m (byte_of to (x + c) y k) 0)
      → ((c k : ℕ) → c < w → k < to.bytes → get_or a' (e + (c * to.bytes + k)) 0 ≡ get_or m (byte_of from (sx + c) sy k) 0)
      → unlikes a a' to.bytes d e w ≡ others to from m x y sx sy w
  unfolding unlikes others read_px
  unlike-bytes x sx d e zero f g = refl
  unlike-bytes x sx d e (suc w) f g =
      let b = to.bytes in
      let first : (n : ℕ) → n + 0 ≡ n = (λ n. omega arith) in
      let old : read_bytes a (λ k. d + k) 0 b ≡ read_px m to x y =
      read_as (λ k. d + k) (byte_of to x y) 0 b a m (λ k l u. let h = f 0 k (omega arith) (omega arith) in let p : d + (0 * b + k) ≡ d + k = omega arith in rw (p, first x) at h) in
      let new : read_bytes a' (λ k. e + k) 0 b ≡ read_px m from sx sy =
      read_as (λ k. e + k) (byte_of from sx sy) 0 b a' m (λ k l u. let h = g 0 k (omega arith) (omega arith) in let p : e + (0 * b + k) ≡ e + k = omega arith in rw (p, first sx) at h)
      ∙ ap (read_bytes m (byte_of from sx sy) 0) (sym format) in
      let next : (n c k : ℕ) → n + b + (c * b + k) ≡ n + ((c + 1) * b + k) = (λ n c k. omega (arith, add-mul c 1 b)) in
      let column : (n c : ℕ) → n + 1 + c ≡ n + (c + 1) = (λ n c. omega arith) in
      ap₂ (λ (p q : ℕ). p + q) (ap₂ (λ (p q : ℕ). one (not (eqb p q))) old new)
      (unlike-bytes (x + 1) (sx + 1) (d + b) (e + b) w (λ c k l u. rw (next d c k, column x c) (f (c + 1) k (omega arith) u)) (λ c k l u. rw (next e c k, column sx c) (g (c + 1) k (omega arith) u)))

  pub kept-others : (some : 0 < to.bytes) (x sx w : ℕ) {o o' : List ℕ} → RowKept to m (x * to.bytes) y (w * to.bytes) o a → RowKept from m (sx * to.bytes) sy (w * to.bytes) o' a'
      → unlikes a a' to.bytes 0 0 w ≡ others to from m x y sx sy w
  unfolding byte_of
  kept-others some x sx w old new =
      let b = to.bytes in
      let column : (n c k : ℕ) → n * b + (c * b + k) ≡ (n + c) * b + k = (λ n c k. omega (arith, add-mul n c b)) in
      unlike-bytes x sx 0 0 w
      (λ c k l u. let z : 0 + (c * b + k) ≡ c * b + k = omega arith in
      rw z (old.came (c * b + k) (run_inside to some x y w c k l u) ∙ ap (λ (n : ℕ). get_or m (byte_at to n y) 0) (column x c k)))
      (λ c k l u. let z : 0 + (c * b + k) ≡ c * b + k = omega arith in
      rw z (new.came (c * b + k) (run_inside to some x y w c k l u)
      ∙ ap (λ (n : ℕ). get_or m (byte_at from n sy) 0) (column sx c k ∙ ap (λ (n : ℕ). (sx + c) * n + k) (sym format))))

-- ---- part by part
module _ (to from : Surface) (m : List ℕ) (y sy : ℕ) where
  pub others-split : (x sx k w : ℕ) → others to from m x y sx sy (k + w) ≡ others to from m x y sx sy k + others to from m (x + k) y (sx + k) sy w
  unfolding others
  others-split x sx zero w = let p : x + 0 ≡ x = omega arith in let q : sx + 0 ≡ sx = omega arith in let z : 0 + w ≡ w = omega arith in rw (p, q, z) (omega arith)
  others-split x sx (suc k) w =
      let p : x + suc k ≡ x + 1 + k = omega arith in
      let q : sx + suc k ≡ sx + 1 + k = omega arith in
      let z : suc k + w ≡ suc (k + w) = omega arith in
      rw (p, q, z) (omega (arith, others-split (x + 1) (sx + 1) k w))

  pub others-most : (x sx w : ℕ) → others to from m x y sx sy w ≤ w
  unfolding others
  others-most x sx zero = omega arith
  others-most x sx (suc w) = omega (arith, one-most (not (eqb (read_px m to x y) (read_px m from sx sy))), others-most (x + 1) (sx + 1) w)

  -- pixels that would get others: a sum over the row
  pub others-sum : (get : Px → ℕ) (x sx w : ℕ) → ((c : ℕ) → c < w → get (px (x + c) y) ≡ read_px m from (sx + c) sy)
      → others to from m x y sx sy w ≡ summed (λ p. one (not (eqb (read_px m to p.x p.y) (get p)))) (across false x w y)
  unfolding others summed across
  others-sum get x sx zero h = refl
  others-sum get x sx (suc w) h =
      let first : (n : ℕ) → n + 0 ≡ n = (λ n. omega arith) in
      let column : (n c : ℕ) → n + 1 + c ≡ n + (c + 1) = (λ n c. omega arith) in
      let here = rw (first x, first sx) at (h 0 (omega arith)) in
      ap₂ (λ (p q : ℕ). p + q) (ap (λ (v : ℕ). one (not (eqb (read_px m to x y) v))) (sym here))
      (others-sum get (x + 1) (sx + 1) w (λ c l. rw (column x c, column sx c) (h (c + 1) (omega arith))))

-- a loop that counts: r of the first i pixels are not alike
pub record Told (to from : Surface) (m : List ℕ) (x y sx sy w i r : ℕ) : Type 0 where
  pub sum : r ≡ others to from m x y sx sy i
  pub within : i ≤ w

module _ {to from : Surface} {m : List ℕ} {x y sx sy w : ℕ} where
  pub told_none : Told to from m x y sx sy w 0 0
  unfolding others
  told_none = record { sum = refl; within = omega arith }

  module _ {i r : ℕ} (now : Told to from m x y sx sy w i r) where
    pub told_part : {c n : ℕ} (k : ℕ) → c ≡ others to from m (x + i) y (sx + i) sy k → i + k ≡ n → n ≤ w → Told to from m x y sx sy w n (r + c)
    told_part k e f fits = record { sum = rw (← f) (omega (arith, now.sum, e, others-split to from m y sy x sx i k)); within = fits }

    pub told-few : r ≤ i
    told-few = omega (arith, now.sum, others-most to from m y sy x sx i)

-- ---- a loop over rows that counts: r of the pixels of the first j rows are others
module _ (to from : Surface) (m : List ℕ) (x y sx sy w : ℕ) where
  down-more : (j h : ℕ) → others_down to from m x y sx sy w j (h + 1) ≡ others_down to from m x y sx sy w j h + others to from m x (y + (j + h)) sx (sy + (j + h)) w
  unfolding others_down
  down-more j zero = let e : j + 0 ≡ j = omega arith in rw e (omega arith)
  down-more j (suc h) =
      let more : suc h + 1 ≡ suc (h + 1) = omega arith in
      let row : j + 1 + h ≡ j + suc h = omega arith in
      let next = rw row at (down-more (j + 1) h) in
      rw more (omega (arith, next))

  down-most : (j h : ℕ) → others_down to from m x y sx sy w j h ≤ h * w
  unfolding others_down
  down-most j zero = omega arith
  down-most j (suc h) = omega (arith, others-most to from m (y + j) (sy + j) x sx w, down-most (j + 1) h, add-mul h 1 w)

pub record ToldDown (to from : Surface) (m : List ℕ) (x y sx sy w j r : ℕ) : Type 0 where
  pub sum : r ≡ others_down to from m x y sx sy w 0 j

module _ {to from : Surface} {m : List ℕ} {x y sx sy w : ℕ} where
  pub down-none : ToldDown to from m x y sx sy w 0 0
  unfolding others_down
  down-none = record { sum = refl }

  module _ {j r : ℕ} (now : ToldDown to from m x y sx sy w j r) where
    pub down-row : {c : ℕ} → c ≡ others to from m x (y + j) sx (sy + j) w → ToldDown to from m x y sx sy w (j + 1) (r + c)
    down-row e =
        let z : 0 + j ≡ j = omega arith in
        let more = rw z at (down-more to from m x y sx sy w 0 j) in
        record { sum = omega (arith, now.sum, e, more) }

    -- what was counted is few enough
    pub down-few : w ≤ 2 ^ 13 → j ≤ 2 ^ 13 → r < 2 ^ 32
    down-few wide high = omega (arith, now.sum, down-most to from m x y sx sy w 0 j, mul-le-mul {n₁ = j} {m₁ = w} {n₂ = 2 ^ 13} {m₂ = 2 ^ 13} high wide)

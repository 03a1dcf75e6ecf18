-- A rectangle of bytes that is put part by part: the pixels that each part changes are, together, those that change in all.
-- Assumes nothing.
use mathlib.Core.Path.{◌≡◌, sym, ap, subst, ◌∙◌}
use mathlib.Core.Bool.{false}
use mathlib.Core.List.{List, ◌++◌}
use Prim.Native.Nat.{ℕ, ◌+◌, ◌*◌, ◌/◌, ◌%◌, ◌<◌, ◌≤◌}
use native.Mathlib.Nat.{mod-lt, div-add-mod'}
use native.Mathlib.Omega.{arith}
use lib.ListN.{get_or}
use Rattle.surface.specs.declared.Surface.{Surface}
use Rattle.surface.specs.Place.{byte_at, byte_of, row_pixels}
use Rattle.surface.specs.Pixels.{Px, px, across, rect, Inside}
use Rattle.surface.proofs.Lists.{In}
use Rattle.surface.proofs.Pixels.{same_byte}
use Rattle.surface.proofs.Rects.{same-px, in-across, in-rect, across-length, rect-length}
use Rattle.paint.specs.Paint.{changing, summed}
use Rattle.paint.proofs.Owners.{of-byte}
use Rattle.paint.proofs.Turns.{across-append, rect-append}
use Rattle.paint.proofs.Changes.{changing-most, summed-then}
use Rattle.blocks.specs.Blocks.{Put}
use Rattle.blocks.proofs.Pixels.{pixel-of}

module _ (s : Surface) (some : 0 < s.bytes) where
  -- a pixel that is none of the rectangle's keeps its bytes
  put-leaves : {value : Px → ℕ} {m m' : List ℕ} (x y w h : ℕ) → ((q : Px) → Inside x y w h q → q.x < row_pixels s) → Put s value (x * s.bytes) y (w * s.bytes) h m m'
      → (p : Px) → p.x < row_pixels s → (Inside x y w h p → ⊥) → (k : ℕ) → k < s.bytes → get_or m' (byte_of s p.x p.y k) 0 ≡ get_or m (byte_of s p.x p.y k) 0
  unfolding byte_of
  put-leaves x y w h columns put p column out k l =
      put.others (byte_of s p.x p.y k) (λ q i e.
      let in-it = pixel-of s.bytes some x y w h q i in
      let r = px (q.x / s.bytes) q.y in
      let same = same_byte s p.x p.y k r.x r.y (q.x % s.bytes) column (columns r in-it) l (mod-lt q.x some) (e ∙ place q) in
      out (subst (Inside x y w h) (sym (same-px p r same.0 same.1)) in-it))
    where
      place : (q : Px) → byte_at s q.x q.y ≡ byte_of s (q.x / s.bytes) q.y (q.x % s.bytes)
      place q = ap (λ (c : ℕ). byte_at s c q.y) (sym (div-add-mod' q.x s.bytes))

  module _ {value value' : Px → ℕ} {m₀ m m' : List ℕ} where
    both-sum : (x y w h x' y' w' h' : ℕ) → ((p : Px) → Inside x y w h p → p.x < row_pixels s) → ((p : Px) → Inside x' y' w' h' p → p.x < row_pixels s)
        → ((p : Px) → Inside x y w h p → Inside x' y' w' h' p → ⊥) → Put s value (x * s.bytes) y (w * s.bytes) h m₀ m → Put s value' (x' * s.bytes) y' (w' * s.bytes) h' m m'
        → (ps qs : List Px) → ((p : Px) → In p ps → Inside x y w h p) → ((p : Px) → In p qs → Inside x' y' w' h' p)
        → summed (changing s m₀ m') (ps ++ qs) ≡ summed (changing s m₀ m) ps + summed (changing s m m') qs
    both-sum x y w h x' y' w' h' columns columns' apart done put ps qs ins ins' =
        summed-then s some m₀ m m' ps qs
        (λ p i a b. let f = of-byte s some p a b in
        subst (λ (n : ℕ). get_or m' n 0 ≡ get_or m n 0) (sym f.1) (put-leaves x' y' w' h' columns' put p (columns p (ins p i)) (apart p (ins p i)) b.k f.0))
        (λ q i a b. let f = of-byte s some q a b in
        subst (λ (n : ℕ). get_or m n 0 ≡ get_or m₀ n 0) (sym f.1) (put-leaves x y w h columns done q (columns' q (ins' q i)) (λ j. apart q j (ins' q i)) b.k f.0))

    -- some more pixels of a row
    pub part-sum : (x y i k : ℕ) → ((c : ℕ) → x ≤ c → c < x + (i + k) → c < row_pixels s) → Put s value (x * s.bytes) y (i * s.bytes) 1 m₀ m
        → Put s value' ((x + i) * s.bytes) y (k * s.bytes) 1 m m'
        → summed (changing s m₀ m') (across false x (i + k) y) ≡ summed (changing s m₀ m) (across false x i y) + summed (changing s m m') (across false (x + i) k y)
    part-sum x y i k columns done put =
        ap (summed (changing s m₀ m')) (across-append x i k y)
        ∙ both-sum x y i 1 (x + i) y k 1 (λ p j. columns p.x (omega arith) (omega arith)) (λ p j. columns p.x (omega arith) (omega arith)) (λ p u v. omega arith) done put
        (across false x i y) (across false (x + i) k y) (λ p j. let r = in-across false x i y p j in omega arith) (λ p j. let r = in-across false (x + i) k y p j in omega arith)

    -- a row more
    pub row-sum : (x y w j : ℕ) → ((c : ℕ) → x ≤ c → c < x + w → c < row_pixels s) → Put s value (x * s.bytes) y (w * s.bytes) j m₀ m
        → Put s value' (x * s.bytes) (y + j) (w * s.bytes) 1 m m'
        → summed (changing s m₀ m') (rect false false x y w (j + 1)) ≡ summed (changing s m₀ m) (rect false false x y w j) + summed (changing s m m') (across false x w (y + j))
    row-sum x y w j columns done put =
        ap (summed (changing s m₀ m')) (rect-append x y w j)
        ∙ both-sum x y w j x (y + j) w 1 (λ p i. columns p.x (omega arith) (omega arith)) (λ p i. columns p.x (omega arith) (omega arith)) (λ p u v. omega arith) done put
        (rect false false x y w j) (across false x w (y + j)) (λ p i. in-rect false false x y w j p i) (λ p i. let r = in-across false x w (y + j) p i in omega arith)

-- no more than there are
pub line-few : (s : Surface) (m m' : List ℕ) (x w y : ℕ) → summed (changing s m m') (across false x w y) ≤ w
line-few s m m' x w y = omega (arith, changing-most s m m' (across false x w y), across-length false x w y)

pub rows_few : (s : Surface) (m m' : List ℕ) (x y w h : ℕ) → summed (changing s m m') (rect false false x y w h) ≤ h * w
rows_few s m m' x y w h = omega (arith, changing-most s m m' (rect false false x y w h), rect-length false false x y w h)

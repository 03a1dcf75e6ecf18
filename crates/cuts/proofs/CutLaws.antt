-- Laws of what the clip leaves: how large it is, exactly which pixels it has, and the source pixels that they need.
-- Assumes nothing.
use mathlib.Core.Path.{◌≡◌, refl, sym, ap, ap₂, ◌∙◌}
use mathlib.Core.Bool.{Bool, true, false, cond}
use mathlib.Core.List.Memᴰ
use mathlib.Core.List.{List, [], ◌∷◌, ◌++◌, map}
use Prim.Native.Nat.{ℕ, zero, suc, ◌+◌, ◌-◌, ◌/◌, ◌^◌, ◌<◌, ◌≤◌}
use native.Mathlib.Omega.{arith}
use Rattle.surface.specs.Pixels.{Px, px, across, rect, origin}
use Rattle.surface.proofs.Lists.{In}
use Rattle.surface.proofs.Rects.{same-px, in-rect}
use Rattle.paint.specs.declared.Clip.{Clip}
use Rattle.paint.specs.Asked.{Bits12}
use Rattle.registers.specs.declared.Regs.{Regs}
use Rattle.cuts.specs.declared.Cut.{Cut}
use Rattle.positions.specs.Position.{placed}
use Rattle.cuts.specs.Cut.{bit, width, height, clip_by, clip_of, first_of, cut_low, cut_at, copy_cut, needed}
use Rattle.cuts.specs.Asked.{CutRange}

-- ---- the clip
pub clip-bits : (r : Regs) → Bits12 (clip_of r)
unfolding clip_of
clip-bits r = by-test (bit r.command 23)
  where
    by-test : (t : Bool) → Bits12 (cond t (clip_by r.clip1_min r.clip1_max) (clip_by r.clip0_min r.clip0_max))
    by-test true = omega arith
    by-test false = omega arith

-- the same, by a name that an attribute can hold
pub ruleset clips = clip-bits

-- ---- sizes
pub record Bounded (c : Cut) : Type 0 where
  pub wide : c.x + c.w ≤ 2 ^ 13
  pub high : c.y + c.h ≤ 2 ^ 13
  pub source_wide : c.sx - origin + c.w ≤ 2 ^ 15
  pub source_high : c.sy - origin + c.h ≤ 2 ^ 15

pub cut-bounded : {c : Clip} {x y w h sx sy : ℕ} → CutRange c x y w h sx sy → Bounded (cut_at c x y w h sx sy)
unfolding cut_at
cut-bounded {c} {x} {y} {w} {h} {sx} {sy} range = record {
  wide = omega (arith, range, range.clip);
  high = omega (arith, range, range.clip);
  source_wide = omega (arith, range, range.clip);
  source_high = omega (arith, range, range.clip);
}

-- ---- a copy's source is as far from what the clip leaves as srcXY is from dstXY

-- on one axis: n places that begin or end at `at`, and their source
axis-shift : (last : Bool) (least at from n : ℕ) → n ≤ at → n ≤ from
    → first_of last from n + (cut_low least (first_of last at n) - first_of last at n) + at ≡ origin + (cut_low least (first_of last at n) - origin) + from
axis-shift false least at from n h l = omega arith
axis-shift true least at from n h l = omega arith

module _ (r : Regs) where
  pub copy-columns : (copy_cut r).sx + placed r.dst_xy ≡ origin + (copy_cut r).x + placed r.src_xy
  unfolding copy_cut cut_at
  copy-columns = axis-shift (bit r.command 14) (clip_of r).left (placed r.dst_xy) (placed r.src_xy) (width r) (omega arith) (omega arith)

  pub copy-rows : (copy_cut r).sy + placed (r.dst_xy / 2 ^ 16) ≡ origin + (copy_cut r).y + placed (r.src_xy / 2 ^ 16)
  unfolding copy_cut cut_at
  copy-rows = axis-shift (bit r.command 15) (clip_of r).top (placed (r.dst_xy / 2 ^ 16)) (placed (r.src_xy / 2 ^ 16)) (height r) (omega arith) (omega arith)

-- ---- the source pixels are a rectangle too
module _ (f : Px → Px) (a b x y : ℕ) where
  across-map : (i n j : ℕ) → ((k : ℕ) → k < n → f (px (x + i + k) (y + j)) ≡ px (a + i + k) (b + j))
      → map f (across false (x + i) n (y + j)) ≡ across false (a + i) n (b + j)
  unfolding across
  across-map i zero j h = refl
  across-map i (suc n) j h =
      let e : x + i + 0 ≡ x + i = omega arith in
      let g : a + i + 0 ≡ a + i = omega arith in
      let u : x + i + 1 ≡ x + (i + 1) = omega arith in
      let v : a + i + 1 ≡ a + (i + 1) = omega arith in
      ap₂ (λ (p : Px) (ps : List Px). p ∷ ps)
      (ap (λ (k : ℕ). f (px k (y + j))) (sym e) ∙ h 0 (omega arith) ∙ ap (λ (k : ℕ). px k (b + j)) g)
      (ap (λ (k : ℕ). map f (across false k n (y + j))) u
      ∙ across-map (i + 1) n j (λ k l.
      let s : x + (i + 1) + k ≡ x + i + suc k = omega arith in
      let t : a + i + suc k ≡ a + (i + 1) + k = omega arith in
      ap (λ (q : ℕ). f (px q (y + j))) s ∙ h (suc k) (omega arith) ∙ ap (λ (q : ℕ). px q (b + j)) t)
      ∙ ap (λ (k : ℕ). across false k n (b + j)) (sym v))

  map-append : (ps qs : List Px) → map f (ps ++ qs) ≡ map f ps ++ map f qs
  map-append [] qs = refl
  map-append (p ∷ ps) qs = ap (λ (rs : List Px). f p ∷ rs) (map-append ps qs)

  rows-map : (w j n : ℕ) → ((k l : ℕ) → k < w → l < n → f (px (x + 0 + k) (y + (j + l))) ≡ px (a + 0 + k) (b + (j + l)))
      → map f (rect false false (x + 0) (y + j) w n) ≡ rect false false (a + 0) (b + j) w n
  unfolding rect
  rows-map w j zero h = refl
  rows-map w j (suc n) h =
      let u : y + j + 1 ≡ y + (j + 1) = omega arith in
      let v : b + j + 1 ≡ b + (j + 1) = omega arith in
      let z : j + 0 ≡ j = omega arith in
      map-append (across false (x + 0) w (y + j)) (rect false false (x + 0) (y + j + 1) w n)
      ∙ ap₂ (λ (ps qs : List Px). ps ++ qs)
      (across-map 0 w j (λ k l. ap (λ (q : ℕ). f (px (x + 0 + k) (y + q))) (sym z) ∙ h k 0 l (omega arith) ∙ ap (λ (q : ℕ). px (a + 0 + k) (b + q)) z))
      (ap (λ (q : ℕ). map f (rect false false (x + 0) q w n)) u
      ∙ rows-map w (j + 1) n (λ k l p q.
      let s : j + 1 + l ≡ j + suc l = omega arith in
      ap (λ (t : ℕ). f (px (x + 0 + k) (y + t))) s ∙ h k (suc l) p (omega arith) ∙ ap (λ (t : ℕ). px (a + 0 + k) (b + t)) (sym s))
      ∙ ap (λ (q : ℕ). rect false false (a + 0) q w n) (sym v))

  pub rect-map : (w h : ℕ) → ((k l : ℕ) → k < w → l < h → f (px (x + k) (y + l)) ≡ px (a + k) (b + l))
      → map f (rect false false x y w h) ≡ rect false false a b w h
  rect-map w h g =
      let p : x + 0 ≡ x = omega arith in
      let q : y + 0 ≡ y = omega arith in
      let s : a + 0 ≡ a = omega arith in
      let t : b + 0 ≡ b = omega arith in
      ap₂ (λ (i j : ℕ). map f (rect false false i j w h)) (sym p) (sym q)
      ∙ rows-map w 0 h (λ k l u v.
      let z : 0 + l ≡ l = omega arith in
      ap₂ (λ (i j : ℕ). f (px (i + k) (y + j))) p z ∙ g k l u v ∙ ap₂ (λ (i j : ℕ). px (i + k) (b + j)) (sym s) (sym z))
      ∙ ap₂ (λ (i j : ℕ). rect false false i j w h) s t

pub needed-rect : (c : Cut) → needed c ≡ rect false false c.sx c.sy c.w c.h
needed-rect c =
    rect-map (λ p. px (c.sx + (p.x - c.x)) (c.sy + (p.y - c.y))) c.sx c.sy c.x c.y c.w c.h
    (λ k l u v. same-px (px (c.sx + (c.x + k - c.x)) (c.sy + (c.y + l - c.y))) (px (c.sx + k) (c.sy + l)) (omega arith) (omega arith))

pub none_left : (c : Cut) → (0 < c.w → 0 < c.h → ⊥) → (f : Px → Px) → map f (rect false false c.x c.y c.w c.h) ≡ []
none_left c none f = no-pixel (rect false false c.x c.y c.w c.h) (λ p i. let r = in-rect false false c.x c.y c.w c.h p i in none (omega arith) (omega arith))
  where
    no-pixel : (ps : List Px) → ((p : Px) → In p ps → ⊥) → map f ps ≡ []
    no-pixel [] g = refl
    no-pixel (p ∷ ps) g = absurd (g p (Memᴰ.head refl))

-- Laws of the part of a line inside the clip: between two points of a line lie those between them in number, so that its points inside the clip follow each other.
-- Assumes nothing.
use Rattle.std.proofs.Common.{◌≡◌, ℕ, zero, suc, ◌+◌, ◌-◌, ◌*◌, ◌^◌, ◌<◌, ◌≤◌, min, Bool, true, false, cond, not, ltb, leb, List, [], ◌∷◌, sym, refl, ap, ◌∙◌, subst, ap₂, true≢false, arith, ltb-false, ltb-true, leb-false, leb-true}
use mathlib.Core.Option.{some}
use native.Mathlib.Decide.{ℕ_discrete}
use Rattle.surface.specs.Place.{read_px}
use Rattle.surface.specs.Pixels.{Px, origin}
use Rattle.surface.proofs.Lists.{by_cases}
use Rattle.ink.specs.declared.Ink.{Ink}
use Rattle.ink.specs.Pattern.{pattern_value}
use Rattle.paint.specs.declared.Clip.{Clip}
use Rattle.paint.specs.Paint.{Touch, touch}
use Rattle.paint.specs.Mix.{bit_source, placed, direct}
use Rattle.paint.specs.Clip.{in_clip, pixel_at}
use Rattle.paint.proofs.ClipLaws.{Covered, in-clip, clip-in}
use Rattle.line.specs.declared.Point.{Point}
use Rattle.line.specs.declared.Line.{Line}
use Rattle.line.specs.declared.Pen.{Pen}
use Rattle.line.specs.declared.Tread.{Tread}
use Rattle.line.specs.Line.{far, towards, x_major, longer, shorter, aside, place, point_at, points_from, point_count, points}
use Rattle.line.specs.Tread.{left_over, trodden}
use Rattle.line.specs.Stipple.{stipple_bit, after}
use Rattle.line.specs.Draw.{line_touches}
use Rattle.line.proofs.Sides.{either, longer-x, longer-y, shorter-x, shorter-y, shorter-le, count-le, aside_none, aside-le}
use Rattle.line.proofs.TreadLaws.{OnWay, aside-stays, aside_grows, way-point, way-goes}
use Rattle.line.proofs.PointLaws.{Between, place-x, place-y, last}
use Rattle.points.proofs.PutLaws.{direct-source}
use Rattle.strokes.specs.declared.Spot.{Spot}
use Rattle.strokes.specs.Walk.{plain_touches, clip_touches}
use Rattle.strokes.specs.Asked.{Entered, LeftAt, Sought}
use Rattle.strokes.proofs.WalkDraw.{fore-given}

-- ---- the steps aside do not go back
aside_up : (n m i : ℕ) → m ≤ n → aside n m i ≤ aside n m (i + 1)
aside_up zero m i h = omega (arith, aside_none zero m i refl, aside_none zero m (i + 1) refl)
aside_up (suc n) m i h =
    either (ltb (left_over (suc n) m i) (2 * suc n - 2 * m))
    (λ e. let a = aside-stays (suc n) m i h (omega arith) (ltb-true _ _ e) in omega (arith, a.0))
    (λ e. let a = aside_grows (suc n) m i h (omega arith) (ltb-false _ _ e) in omega (arith, a.0))

aside-on : (n m i k : ℕ) → m ≤ n → aside n m i ≤ aside n m (i + k)
aside-on n m i zero h = let q : i + 0 ≡ i = omega arith in rw q (omega arith)
aside-on n m i (suc k) h = let q : i + suc k ≡ i + k + 1 = omega arith in rw q (omega (arith, aside-on n m i k h, aside_up n m (i + k) h))

aside-mono : (n m i j : ℕ) → m ≤ n → i ≤ j → aside n m i ≤ aside n m j
aside-mono n m i j h g = let q : i + (j - i) ≡ j = omega arith in rw q at (aside-on n m i (j - i) h)

-- ---- what lies between
towards-mid : (a b i j k : ℕ) → i ≤ j → j ≤ k → k ≤ far a b → Between (towards a b i) (towards a b k) (towards a b j)
unfolding towards far
towards-mid a b i j k g h f =
    either (leb a b) (λ e. let q = leb-true a b e in rw e (record { low = omega arith; high = omega arith }))
    (λ e. let q = leb-false a b e in rw e (record { low = omega arith; high = omega arith }))

module _ (l : Line) (i j k : ℕ) (g : i ≤ j) (h : j ≤ k) (f : k ≤ longer l) where
  abbrev n : ℕ
  n = longer l

  abbrev m : ℕ
  m = shorter l

  low : aside n m i ≤ aside n m j
  low = aside-mono n m i j (shorter-le l) g

  high : aside n m j ≤ aside n m k
  high = aside-mono n m j k (shorter-le l) h

  most : aside n m k ≤ m
  most = aside-le n m k (shorter-le l) f

  pub mid-x : Between (point_at l i).x (point_at l k).x (point_at l j).x
  unfolding point_at
  mid-x =
      either (x_major l)
      (λ e. rw (place-x l i _ e, place-x l j _ e, place-x l k _ e) (towards-mid l.x0 l.x1 i j k g h (omega (arith, longer-x l e))))
      (λ e. rw (place-y l i _ e, place-y l j _ e, place-y l k _ e) (towards-mid l.x0 l.x1 _ _ _ low high (omega (arith, most, shorter-x l e))))

  pub mid-y : Between (point_at l i).y (point_at l k).y (point_at l j).y
  unfolding point_at
  mid-y =
      either (x_major l)
      (λ e. rw (place-x l i _ e, place-x l j _ e, place-x l k _ e) (towards-mid l.y0 l.y1 _ _ _ low high (omega (arith, most, shorter-y l e))))
      (λ e. rw (place-y l i _ e, place-y l j _ e, place-y l k _ e) (towards-mid l.y0 l.y1 i j k g h (omega (arith, longer-y l e))))

-- so what is inside the clip follows each other
pub between-inside : (c : Clip) (l : Line) (i j k : ℕ) → i ≤ j → j ≤ k → k ≤ longer l
    → in_clip c (point_at l i).x (point_at l i).y ≡ true → in_clip c (point_at l k).x (point_at l k).y ≡ true → in_clip c (point_at l j).x (point_at l j).y ≡ true
between-inside c l i j k g h f p q =
    let a = in-clip c (point_at l i).x (point_at l i).y p in
    let b = in-clip c (point_at l k).x (point_at l k).y q in
    let x = mid-x l i j k g h f in
    let y = mid-y l i j k g h f in
    clip-in c (point_at l j).x (point_at l j).y (record { left = omega arith; right = omega arith; top = omega arith; bottom = omega arith })

pub never_back : (c : Clip) (l : Line) (i j k : ℕ) → i ≤ j → j ≤ k → k ≤ longer l
    → in_clip c (point_at l i).x (point_at l i).y ≡ true → in_clip c (point_at l j).x (point_at l j).y ≡ false → in_clip c (point_at l k).x (point_at l k).y ≡ false
never_back c l i j k g h f p q =
    either (in_clip c (point_at l k).x (point_at l k).y) (λ e. absurd (true≢false (sym (between-inside c l i j k g h f p e) ∙ q))) (λ e. e)

-- ---- a search on its way: what is passed is not what is sought
pub record Passing (c : Clip) (l : Line) (inside : Bool) (n m from i : ℕ) (t : Tread) : Type 0 where
  pub ahead : from ≤ i
  pub upto : i ≤ point_count l
  pub way : i < point_count l → OnWay l n m i t
  pub passed : (j : ℕ) → from ≤ j → j < i → in_clip c (point_at l j).x (point_at l j).y ≡ not inside

module _ {c : Clip} {l : Line} {inside : Bool} {n m from i : ℕ} {t : Tread} (s : Passing c l inside n m from i t) where
  -- the point that was placed is looked at
  module _ (h : i < point_count l) {p : Point} {looked : Bool} (placed : p ≡ place l i t.aside) (seen : looked ≡ in_clip c p.x p.y) where
    here : in_clip c (point_at l i).x (point_at l i).y ≡ looked
    here = ap (λ (q : Point). in_clip c q.x q.y) (sym (way-point (s.way h) placed)) ∙ sym seen

    pub search-finds : looked ≡ inside → Sought c l inside from (record { at = i; tread = t })
    search-finds e = record {
      spot = record { within = s.upto; walk = λ g. rw (← (s.way h).long, ← (s.way h).short) (s.way h).at };
      ahead = s.ahead;
      passed = s.passed;
      stops = λ g. here ∙ e;
    }

    pub search-goes : {r : Tread} → r ≡ trodden n m t → looked ≡ not inside → Passing c l inside n m from (i + 1) r
    search-goes f e = record {
      ahead = omega (arith, s.ahead);
      upto = omega arith;
      way = way-goes (s.way h) f refl;
      passed = λ j g k.
          by_cases (ℕ_discrete j i) (λ q. ap (λ (o : ℕ). in_clip c (point_at l o).x (point_at l o).y) q ∙ here ∙ e) (λ q. s.passed j g (omega arith));
    }

  pub search-ends : point_count l ≤ i → Sought c l inside from (record { at = i; tread = t })
  search-ends h = record { spot = record { within = s.upto; walk = λ g. absurd (omega arith) }; ahead = s.ahead; passed = s.passed; stops = λ g. absurd (omega arith) }

  -- the same of the count of points by a name of its own
  pub search-past : {e : ℕ} → e ≡ point_count l → e ≤ i → Sought c l inside from (record { at = e; tread = t })
  search-past f h = record {
    spot = record { within = omega arith; walk = λ g. absurd (omega arith) };
    ahead = omega (arith, s.ahead, s.upto);
    passed = λ j g k. s.passed j g (omega arith);
    stops = λ g. absurd (omega arith);
  }

-- ---- what is touched
module _ (v : ℕ) (c : Clip) (l : Line) where
  none-clipped : (i k : ℕ) → ((j : ℕ) → i ≤ j → j < i + k → in_clip c (point_at l j).x (point_at l j).y ≡ false) → clip_touches v c (points_from l i k) ≡ []
  unfolding clip_touches points_from
  none-clipped i zero out = refl
  none-clipped i (suc k) out = rw (out i (omega arith) (omega arith)) (none-clipped (i + 1) k (λ j g h. out j (omega arith) (omega arith)))

  -- points inside, and then none
  part-clipped : (i k r : ℕ) → ((j : ℕ) → i ≤ j → j < i + k → in_clip c (point_at l j).x (point_at l j).y ≡ true)
      → ((j : ℕ) → i + k ≤ j → j < i + k + r → in_clip c (point_at l j).x (point_at l j).y ≡ false) → clip_touches v c (points_from l i (k + r)) ≡ plain_touches v (points_from l i k)
  unfolding clip_touches points_from
  part-clipped i zero r ins out =
      let q : 0 + r ≡ r = omega arith in rw q (none-clipped i r (λ j g h. out j (omega arith) (omega arith)))
  part-clipped i (suc k) r ins out =
      let q : suc k + r ≡ suc (k + r) = omega arith in
      rw (q, ins i (omega arith) (omega arith))
      (ap (λ (ts : List Touch). touch (pixel_at (point_at l i).x (point_at l i).y) (λ m. some v) ∷ ts)
      (part-clipped (i + 1) k r (λ j g h. ins j (omega arith) (omega arith)) (λ j g h. out j (omega arith) (omega arith))))

  -- none, then points inside, and then none
  skip-clipped : (i s k r : ℕ) → ((j : ℕ) → i ≤ j → j < i + s → in_clip c (point_at l j).x (point_at l j).y ≡ false)
      → ((j : ℕ) → i + s ≤ j → j < i + s + k → in_clip c (point_at l j).x (point_at l j).y ≡ true)
      → ((j : ℕ) → i + s + k ≤ j → j < i + s + k + r → in_clip c (point_at l j).x (point_at l j).y ≡ false)
      → clip_touches v c (points_from l i (s + (k + r))) ≡ plain_touches v (points_from l (i + s) k)
  unfolding clip_touches points_from
  skip-clipped i zero k r before ins out =
      let q : 0 + (k + r) ≡ k + r = omega arith in
      let o : i + 0 ≡ i = omega arith in
      rw (q, o) (part-clipped i k r (λ j g h. ins j (omega arith) (omega arith)) (λ j g h. out j (omega arith) (omega arith)))
  skip-clipped i (suc s) k r before ins out =
      let q : suc s + (k + r) ≡ suc (s + (k + r)) = omega arith in
      let o : i + suc s ≡ i + 1 + s = omega arith in
      rw (q, o, before i (omega arith) (omega arith))
      (skip-clipped (i + 1) s k r (λ j g h. before j (omega arith) (omega arith)) (λ j g h. ins j (omega arith) (omega arith)) (λ j g h. out j (omega arith) (omega arith)))

  pub clipped-part : (first past : ℕ) → first ≤ past → past ≤ point_count l
      → ((j : ℕ) → j < first → in_clip c (point_at l j).x (point_at l j).y ≡ false)
      → ((j : ℕ) → first ≤ j → j < past → in_clip c (point_at l j).x (point_at l j).y ≡ true)
      → ((j : ℕ) → past ≤ j → j < point_count l → in_clip c (point_at l j).x (point_at l j).y ≡ false)
      → plain_touches v (points_from l first (past - first)) ≡ clip_touches v c (points l)
  unfolding points
  clipped-part first past g h before ins out =
      let q : first + (past - first + (point_count l - past)) ≡ point_count l = omega arith in
      let o : 0 + first ≡ first = omega arith in
      sym (rw (q, o) at (skip-clipped 0 first (past - first) (point_count l - past) (λ j a b. before j (omega arith)) (λ j a b. ins j (omega arith) (omega arith)) (λ j a b. out j (omega arith) (omega arith))))

  pub clipped-none : ((j : ℕ) → j < point_count l → in_clip c (point_at l j).x (point_at l j).y ≡ false) → [] ≡ clip_touches v c (points l)
  unfolding points
  clipped-none out = sym (none-clipped 0 (point_count l) (λ j g h. out j (omega arith)))

-- which is what a line touches that gets its source and has no stipple
module _ (ink : Ink) (pattern : List ℕ) (c : Clip) (pen : Pen) (d : direct ink ≡ true) (solid : pen.stippled ≡ false) (fore : ink.fore < 2 ^ 32) (back : ink.back < 2 ^ 32) where
  point-same : (p : Px) (style : ℕ) → touch p (λ m. some ink.fore) ≡ placed ink pattern p (bit_source ink (stipple_bit pen style))
  point-same p style =
      λ i. touch p (λ m. (fore-given ink pen solid style ∙ sym (direct-source ink (pattern_value ink pattern p.x p.y) (read_px m ink.target p.x p.y) (stipple_bit pen style) d fore back)) i)

  pub clip-drawn : (style : ℕ) (ps : List Point) → clip_touches ink.fore c ps ≡ line_touches ink pattern c pen style ps
  unfolding clip_touches line_touches
  clip-drawn style [] = refl
  clip-drawn style (p ∷ ps) =
      either (in_clip c p.x p.y)
      (λ e. rw e (ap₂ {A = Touch} {B = List Touch} (λ t ts. t ∷ ts) (point-same (pixel_at p.x p.y) style) (clip-drawn (after pen style) ps)))
      (λ e. rw e (clip-drawn (after pen style) ps))

-- ---- how a part ends
clip-out : (c : Clip) (x y : ℕ) → (Covered c x y → ⊥) → in_clip c x y ≡ false
clip-out c x y f = either (in_clip c x y) (λ e. absurd (f (in-clip c x y e))) (λ e. e)

-- a point before the last but one's end
numbered : (l : Line) {past i : ℕ} → past ≤ point_count l → i < past → i ≤ longer l
numbered l h g = omega (arith, count-le l)

between-two : {a b p low high : ℕ} → Between a b p → low ≤ a → low ≤ b → a < high → b < high → (low ≤ p) × (p < high)
between-two m la lb ha hb = (omega (arith, m.low), omega (arith, m.high))

-- from a towards b, beginning at number f between `low` and `high`: which numbers are before the first that is not between them
module _ (a b f n low high past : ℕ) (lo : low ≤ towards a b f) (hi : towards a b f < high) (e : past ≡ min n (f + cond (leb a b) (high - towards a b f) (towards a b f + 1 - low))) where
  pub axis-some : f < n → f < past
  axis-some g = either (leb a b) (λ q. let k = rw q at e in omega arith) (λ q. let k = rw q at e in omega arith)

  pub axis-upto : past ≤ n
  axis-upto = omega arith

  pub axis-stays : (i : ℕ) → f ≤ i → i < past → (low ≤ towards a b i) × (towards a b i < high)
  unfolding towards
  axis-stays i g h =
      either (leb a b) (λ q. let k = rw q at e in let l = rw q at lo in let m = rw q at hi in rw q (omega arith, omega arith))
      (λ q. let k = rw q at e in let l = rw q at lo in let m = rw q at hi in rw q (omega arith, omega arith))

  pub axis-leaves : 1 ≤ low → (i : ℕ) → past ≤ i → i < n → low ≤ towards a b i → towards a b i < high → ⊥
  unfolding towards
  axis-leaves p i g h l m =
      either (leb a b) (λ q. let k = rw q at e in let u = rw q at lo in let w = rw q at m in omega arith)
      (λ q. let k = rw q at e in let u = rw q at lo in let w = rw q at l in omega arith)

-- along the major axis, where the line ends between the clip's sides along the minor one
module _ (c : Clip) (l : Line) (from : Spot) (e : Entered c l from) where
  abbrev first : ℕ
  first = from.at

  inside-first : Covered c (point_at l first).x (point_at l first).y
  inside-first = in-clip c (point_at l first).x (point_at l first).y e.inside

  pub leaves-x : x_major l ≡ true → in_clip c (point_at l first).x l.y1 ≡ true → (past : ℕ)
      → past ≡ min (point_count l) (first + cond (leb l.x0 l.x1) (origin + c.right - (point_at l first).x) ((point_at l first).x + 1 - (origin + c.left))) → LeftAt c l from past
  unfolding point_at
  leaves-x major ends past q =
      let a = inside-first in
      let b = in-clip c (point_at l first).x l.y1 ends in
      let end : (point_at l (longer l)).y ≡ l.y1 = ap (λ (p : Point). p.y) (last l) in
      let side : (i : ℕ) → (point_at l i).x ≡ towards l.x0 l.x1 i = λ i. ap (λ (p : Point). p.x) (place-x l i _ major) in
      let axis-lo : origin + c.left ≤ towards l.x0 l.x1 first = subst (λ (x : ℕ). origin + c.left ≤ x) (side first) a.left in
      let axis-hi : towards l.x0 l.x1 first < origin + c.right = subst (λ (x : ℕ). x < origin + c.right) (side first) a.right in
      let way = q ∙ ap (λ (x : ℕ). min (point_count l) (first + cond (leb l.x0 l.x1) (origin + c.right - x) (x + 1 - (origin + c.left)))) (side first) in
      let upto = axis-upto l.x0 l.x1 first (point_count l) (origin + c.left) (origin + c.right) past axis-lo axis-hi way in
      record {
        some = axis-some l.x0 l.x1 first (point_count l) (origin + c.left) (origin + c.right) past axis-lo axis-hi way e.before;
        upto = upto;
        inside = λ i g h.
            let x = axis-stays l.x0 l.x1 first (point_count l) (origin + c.left) (origin + c.right) past axis-lo axis-hi way i g h in
            let y = between-two (subst (λ (y : ℕ). Between (point_at l first).y y (point_at l i).y) end (mid-y l first i (longer l) g (numbered l upto h) (omega arith))) a.top b.top a.bottom b.bottom in
            clip-in c (point_at l i).x (point_at l i).y (record { left = omega (arith, side i, x.0); right = omega (arith, side i, x.1); top = y.0; bottom = y.1 });
        outside = λ i g h. clip-out c (point_at l i).x (point_at l i).y
            (λ k. axis-leaves l.x0 l.x1 first (point_count l) (origin + c.left) (origin + c.right) past axis-lo axis-hi way (omega arith) i g h (omega (arith, side i, k.left)) (omega (arith, side i, k.right)));
      }

  pub leaves-y : x_major l ≡ false → in_clip c l.x1 (point_at l first).y ≡ true → (past : ℕ)
      → past ≡ min (point_count l) (first + cond (leb l.y0 l.y1) (origin + c.bottom - (point_at l first).y) ((point_at l first).y + 1 - (origin + c.top))) → LeftAt c l from past
  unfolding point_at
  leaves-y major ends past q =
      let a = inside-first in
      let b = in-clip c l.x1 (point_at l first).y ends in
      let end : (point_at l (longer l)).x ≡ l.x1 = ap (λ (p : Point). p.x) (last l) in
      let side : (i : ℕ) → (point_at l i).y ≡ towards l.y0 l.y1 i = λ i. ap (λ (p : Point). p.y) (place-y l i _ major) in
      let axis-lo : origin + c.top ≤ towards l.y0 l.y1 first = subst (λ (y : ℕ). origin + c.top ≤ y) (side first) a.top in
      let axis-hi : towards l.y0 l.y1 first < origin + c.bottom = subst (λ (y : ℕ). y < origin + c.bottom) (side first) a.bottom in
      let way = q ∙ ap (λ (y : ℕ). min (point_count l) (first + cond (leb l.y0 l.y1) (origin + c.bottom - y) (y + 1 - (origin + c.top)))) (side first) in
      let upto = axis-upto l.y0 l.y1 first (point_count l) (origin + c.top) (origin + c.bottom) past axis-lo axis-hi way in
      record {
        some = axis-some l.y0 l.y1 first (point_count l) (origin + c.top) (origin + c.bottom) past axis-lo axis-hi way e.before;
        upto = upto;
        inside = λ i g h.
            let y = axis-stays l.y0 l.y1 first (point_count l) (origin + c.top) (origin + c.bottom) past axis-lo axis-hi way i g h in
            let x = between-two (subst (λ (x : ℕ). Between (point_at l first).x x (point_at l i).x) end (mid-x l first i (longer l) g (numbered l upto h) (omega arith))) a.left b.left a.right b.right in
            clip-in c (point_at l i).x (point_at l i).y (record { left = x.0; right = x.1; top = omega (arith, side i, y.0); bottom = omega (arith, side i, y.1) });
        outside = λ i g h. clip-out c (point_at l i).x (point_at l i).y
            (λ k. axis-leaves l.y0 l.y1 first (point_count l) (origin + c.top) (origin + c.bottom) past axis-lo axis-hi way (omega arith) i g h (omega (arith, side i, k.top)) (omega (arith, side i, k.bottom)));
      }

  -- where the first point outside was sought
  pub leaves-sought : {r : Spot} → Sought c l false first r → LeftAt c l from r.at
  leaves-sought {r} s =
      let some : first < r.at = by_cases (ℕ_discrete r.at first)
      (λ q. absurd (true≢false (sym e.inside ∙ ap (λ (i : ℕ). in_clip c (point_at l i).x (point_at l i).y) (sym q) ∙ s.stops (omega (arith, e.before)))))
      (λ q. omega (arith, s.ahead)) in
      record {
        some = some;
        upto = s.spot.within;
        inside = s.passed;
        outside = λ i g h. never_back c l first r.at i s.ahead g (omega (arith, count-le l)) e.inside (s.stops (omega arith));
      }

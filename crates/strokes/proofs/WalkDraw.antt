-- Laws of drawing by address: one point and the others, and that a line inside the clip whose points get their source is drawn so.
-- Assumes nothing.
use Rattle.std.proofs.Common.{◌≡◌, ℕ, zero, suc, ◌+◌, ◌-◌, ◌/◌, ◌%◌, ◌^◌, ◌<◌, ◌≤◌, Bool, true, false, cond, not, ◌&&◌, eqb, List, [], ◌∷◌, ◌++◌, sym, refl, ap, ◌∙◌, subst, ap₂, arith}
use mathlib.Core.Option.{Option, none, some}
use native.Mathlib.Decide.{ℕ_discrete}
use borrow.Author.Tests.{not-true}
use Rattle.surface.specs.declared.Surface.{Surface}
use Rattle.surface.specs.Place.{read_px, on_surface}
use Rattle.surface.specs.Pixels.{Px, origin}
use Rattle.spans.specs.Span.{all_on}
use Rattle.surface.proofs.OnLaws.{and_left, and_right}
use Rattle.surface.proofs.Lists.{by_cases}
use Rattle.paint.specs.declared.Clip.{Clip}
use Rattle.ink.specs.declared.Ink.{Ink}
use Rattle.paint.specs.Paint.{Touch, touch}
use Rattle.ink.specs.Pattern.{pattern_value}
use Rattle.paint.specs.Mix.{source, bit_source, placed, direct, sourced}
use Rattle.paint.specs.Clip.{in_clip, pixel_at}
use Rattle.paint.proofs.ClipLaws.{in-clip, clip-in}
use Rattle.line.specs.declared.Line.{Line}
use Rattle.line.specs.declared.Pen.{Pen}
use Rattle.line.specs.Line.{longer, point_at, points_from, point_count, points}
use Rattle.line.specs.declared.Point.{Point}
use Rattle.line.specs.Stipple.{bit_number, stepped, stipple_bit, after, style_after}
use Rattle.line.specs.Draw.{covered_points, line_touches}
use Rattle.line.specs.Asked.{Drawable}
use Rattle.strokes.specs.Walk.{plain_touches, walk_touches, whole, walks}
use Rattle.strokes.specs.Mixed.{mix_touches}
use Rattle.strokes.specs.Asked.{Walkable}
use Rattle.line.proofs.Sides.{either, count-le}
use Rattle.line.proofs.PointLaws.{point-box, from_cons, from-none}
use Rattle.line.proofs.DrawLaws.{point-on, on-turn}
use Rattle.points.proofs.PutLaws.{direct-source}

-- ---- one point, and the others
module _ (ink : Ink) (pen : Pen) (l : Line) (i e style : ℕ) where
  pub walk-left : {next : ℕ} → i < e → next ≡ after pen style
      → walk_touches ink pen style (points_from l i (e - i)) ≡ walk_touches ink pen style (point_at l i ∷ []) ++ walk_touches ink pen next (points_from l (i + 1) (e - (i + 1)))
  unfolding walk_touches
  walk-left h n = rw (from_cons l i e h, n)

  pub walk_none : e ≤ i → walk_touches ink pen style (points_from l i (e - i)) ≡ []
  unfolding walk_touches
  walk_none h = rw (from-none l i e h)

stipple-bit : (pen : Pen) (style : ℕ) → stipple_bit pen style < 2
unfolding stipple_bit
stipple-bit pen style = either pen.stippled (λ e. rw e (omega arith)) (λ e. rw e (omega arith))

-- what a point is given
bit-given : (ink : Ink) (b : ℕ) → b < 2 → cond (ink.clear && not (eqb b 1)) none (some (cond (eqb b 1) ink.fore ink.back)) ≡ sourced (bit_source ink b)
unfolding bit_source
bit-given ink zero h = refl
bit-given ink (suc zero) h = refl
bit-given ink (suc (suc b)) h = absurd (omega arith)

pub stipple-given : (ink : Ink) (pen : Pen) (style : ℕ) {bit v : ℕ} → bit ≡ stipple_bit pen style → v ≡ cond (eqb bit 1) ink.fore ink.back
    → cond (ink.clear && not (eqb bit 1)) none (some v) ≡ sourced (bit_source ink (stipple_bit pen style))
stipple-given ink pen style e f = rw (f, e) (bit-given ink (stipple_bit pen style) (stipple-bit pen style))

-- the same where each is given one value
module _ (v : ℕ) (l : Line) (i e : ℕ) where
  pub plain-left : i < e → plain_touches v (points_from l i (e - i)) ≡ plain_touches v (point_at l i ∷ []) ++ plain_touches v (points_from l (i + 1) (e - (i + 1)))
  plain-left h = ap (plain_touches v) (from_cons l i e h)

  pub plain-none : e ≤ i → plain_touches v (points_from l i (e - i)) ≡ []
  plain-none h = ap (plain_touches v) (from-none l i e h)

-- without a stipple each is given colorFore, and the stipple's word stays
module _ (ink : Ink) (pen : Pen) (no : pen.stippled ≡ false) where
  given : (clear : Bool) → some ink.fore ≡ sourced (source ink.fore false (clear && false))
  given true = refl
  given false = refl

  pub fore-given : (style : ℕ) → some ink.fore ≡ sourced (bit_source ink (stipple_bit pen style))
  unfolding stipple_bit bit_source
  fore-given style = given ink.clear ∙ ap (λ (b : Bool). sourced (bit_source ink (cond b (pen.stipple / 2 ^ bit_number style % 2) 1))) (sym no)

  pub plain_walk : (style : ℕ) (ps : List Point) → plain_touches ink.fore ps ≡ walk_touches ink pen style ps
  unfolding walk_touches
  plain_walk style [] = refl
  plain_walk style (p ∷ ps) =
      ap₂ {A = Touch} {B = List Touch} (λ t ts. t ∷ ts) (ap (λ (o : Option ℕ). touch (pixel_at p.x p.y) (λ m. o)) (fore-given style)) (plain_walk (after pen style) ps)

  style-stays : (style : ℕ) → style ≡ after pen style
  unfolding after
  style-stays style = ap (λ (b : Bool). cond b (stepped style) style) (sym no)

  pub plain-style : (n style : ℕ) → style ≡ style_after pen n style
  unfolding style_after
  plain-style zero style = refl
  plain-style (suc n) style = style-stays style ∙ plain-style n (after pen style)

-- ---- where each covered point is on the surface, so is one inside the clip
pub covered-on : (c : Clip) (l : Line) (s : Surface) (len i k : ℕ) → all_on s len (covered_points c (points_from l i k)) ≡ true
    → (j : ℕ) → i ≤ j → j < i + k → in_clip c (point_at l j).x (point_at l j).y ≡ true → on_surface s len ((point_at l j).x - origin) ((point_at l j).y - origin) ≡ true
unfolding points_from
covered-on c l s len i zero on j a b ins = absurd (omega arith)
covered-on c l s len i (suc k) on j a b ins =
    let both = sym (on-turn s len c (point_at l i) (points_from l (i + 1) k)) ∙ on in
    by_cases (ℕ_discrete j i)
    (λ e. point-on s len c (point_at l j) (and_left _ (all_on s len (covered_points c (points_from l (i + 1) k))) (subst (λ (n : ℕ). (all_on s len (covered_points c (point_at l n ∷ [])) && all_on s len (covered_points c (points_from l (i + 1) k))) ≡ true) (sym e) both)) ins)
    (λ e. covered-on c l s len (i + 1) k (and_right (all_on s len (covered_points c (point_at l i ∷ []))) _ both) j (omega arith) (omega arith) ins)

-- ---- a line whose ends are inside the clip
module _ (c : Clip) (l : Line) (start : in_clip c l.x0 l.y0 ≡ true) (end : in_clip c l.x1 l.y1 ≡ true) where
  points-inside : (i : ℕ) → i ≤ longer l → in_clip c (point_at l i).x (point_at l i).y ≡ true
  points-inside i h =
      let a = in-clip c l.x0 l.y0 start in
      let b = in-clip c l.x1 l.y1 end in
      let box = point-box l i h in
      clip-in c (point_at l i).x (point_at l i).y (record { left = omega arith; right = omega arith; top = omega arith; bottom = omega arith })

  each_on : (s : Surface) (len i k : ℕ) → i + k ≤ longer l + 1 → all_on s len (covered_points c (points_from l i k)) ≡ true
      → (j : ℕ) → i ≤ j → j < i + k → on_surface s len ((point_at l j).x - origin) ((point_at l j).y - origin) ≡ true
  each_on s len i k g on j a b = covered-on c l s len i k on j a b (points-inside j (omega arith))

  pub inside-walkable : (s : Surface) (style : ℕ) → s.tiled ≡ false → whole style ≡ true → {len : ℕ} → Drawable s len c l → Walkable s len l style
  unfolding points
  inside-walkable s style flat fields {len} h =
      let a = in-clip c l.x0 l.y0 start in
      let b = in-clip c l.x1 l.y1 end in
      record {
        flat = flat;
        surface = h.surface;
        ahead = record { line = h.line; left = omega arith; top = omega arith; right = omega arith; bottom = omega arith };
        fields = fields;
        on = λ i g. each_on s len 0 (point_count l) (omega (arith, count-le l)) h.on i (omega arith) (omega arith);
      }

  -- without a stipple each point has colorFore for its source
  module _ (ink : Ink) (pattern : List ℕ) (pen : Pen) (no : pen.stippled ≡ false) where
    fore-bit : (style : ℕ) → 1 ≡ stipple_bit pen style
    unfolding stipple_bit
    fore-bit style = ap (λ (b : Bool). cond b (pen.stipple / 2 ^ bit_number style % 2) 1) (sym no)

    mixed-touches : (i k style : ℕ) → i + k ≤ longer l + 1
        → mix_touches ink pattern (points_from l i k) ≡ line_touches ink pattern c pen style (points_from l i k)
    unfolding points_from line_touches
    mixed-touches i zero style h = refl
    mixed-touches i (suc k) style h =
        rw (points-inside i (omega arith))
        (ap₂ {A = Touch} {B = List Touch} (λ t ts. t ∷ ts)
        (ap (λ (b : ℕ). placed ink pattern (pixel_at (point_at l i).x (point_at l i).y) (bit_source ink b)) (fore-bit style))
        (mixed-touches (i + 1) k (after pen style) (omega arith)))

    pub mixed-drawn : (style : ℕ) → mix_touches ink pattern (points l) ≡ line_touches ink pattern c pen style (points l)
    unfolding points
    mixed-drawn style = mixed-touches 0 (point_count l) style (omega (arith, count-le l))

  module _ (ink : Ink) (pattern : List ℕ) (pen : Pen) (d : direct ink ≡ true) (fore : ink.fore < 2 ^ 32) (back : ink.back < 2 ^ 32) where
    same-touch : (p : Px) (bit : ℕ) → placed ink pattern p (bit_source ink bit) ≡ touch p (λ m. sourced (bit_source ink bit))
    same-touch p bit = λ i. touch p (λ m. direct-source ink (pattern_value ink pattern p.x p.y) (read_px m ink.target p.x p.y) bit d fore back i)

    same-touches : (i k style : ℕ) → i + k ≤ longer l + 1
        → walk_touches ink pen style (points_from l i k) ≡ line_touches ink pattern c pen style (points_from l i k)
    unfolding points_from walk_touches line_touches
    same-touches i zero style h = refl
    same-touches i (suc k) style h =
        rw (points-inside i (omega arith))
        (ap₂ {A = Touch} {B = List Touch} (λ t ts. t ∷ ts) (sym (same-touch (pixel_at (point_at l i).x (point_at l i).y) (stipple_bit pen style)))
        (same-touches (i + 1) k (after pen style) (omega arith)))

    pub walk-drawn : (style : ℕ) → walk_touches ink pen style (points l) ≡ line_touches ink pattern c pen style (points l)
    unfolding points
    walk-drawn style = same-touches 0 (point_count l) style (omega (arith, count-le l))

-- ---- when a line is walked
module _ (ink : Ink) (c : Clip) (l : Line) (style : ℕ) (can : walks ink c l style ≡ true) where
  first-four : (((direct ink && whole style) && in_clip c l.x0 l.y0) && in_clip c l.x1 l.y1) ≡ true
  first-four = and_left _ (not ink.target.tiled) can

  first_three : ((direct ink && whole style) && in_clip c l.x0 l.y0) ≡ true
  first_three = and_left _ (in_clip c l.x1 l.y1) first-four

  first_two : (direct ink && whole style) ≡ true
  first_two = and_left _ (in_clip c l.x0 l.y0) first_three

  pub is-direct : direct ink ≡ true
  is-direct = and_left _ (whole style) first_two

  pub from-inside : in_clip c l.x0 l.y0 ≡ true
  from-inside = and_right (direct ink && whole style) _ first_three

  pub to_inside : in_clip c l.x1 l.y1 ≡ true
  to_inside = and_right ((direct ink && whole style) && in_clip c l.x0 l.y0) _ first-four

  pub walkable : {len : ℕ} → Drawable ink.target len c l → Walkable ink.target len l style
  walkable h =
      inside-walkable c l from-inside to_inside ink.target style
      (not-true ink.target.tiled (and_right (((direct ink && whole style) && in_clip c l.x0 l.y0) && in_clip c l.x1 l.y1) _ can))
      (and_right (direct ink) _ first_two) h

-- with any word of the stipple
pub plain-walkable : {s : Surface} {len : ℕ} {l : Line} {style : ℕ} → Walkable s len l style → Walkable s len l 0
plain-walkable h = record { flat = h.flat; surface = h.surface; ahead = h.ahead; fields = refl; on = h.on }

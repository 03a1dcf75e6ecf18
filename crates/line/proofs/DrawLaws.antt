-- Laws of drawing: what is touched is what is covered, each covered pixel is inside the clip; and one turn of a loop over the points.
-- Assumes nothing.
use mathlib.Core.Path.{◌≡◌, refl, sym, ap, ap₂, subst, ◌∙◌}
use mathlib.Core.Logic.{⊎_elim}
use mathlib.Core.Bool.{Bool, true, false, not, ◌&&◌, ◌||◌, and-true}
use mathlib.Core.List.Memᴰ
use mathlib.Core.List.{List, [], ◌∷◌, ◌++◌, map, Memᴰ}
use Prim.Native.Nat.{ℕ, ◌+◌, ◌-◌, ◌<◌, ◌≤◌, min, max}
use native.Mathlib.Omega.{arith}
use lib.ListN.{length}
use Rattle.surface.specs.declared.Surface.{Surface}
use Rattle.surface.specs.Place.{on_surface, read_px}
use Rattle.surface.specs.Pixels.{Px, rect, origin}
use Rattle.spans.specs.Span.{all_on}
use Rattle.surface.proofs.OnLaws.{and_left, and_right}
use Rattle.surface.proofs.Lists.{In}
use Rattle.surface.proofs.Rects.{rect-in}
use Rattle.spans.proofs.Corner.{all-each, each_all}
use Rattle.paint.specs.declared.Clip.{Clip}
use Rattle.ink.specs.declared.Ink.{Ink}
use Rattle.paint.specs.Paint.{State, dab, Touch, paint}
use Rattle.ink.specs.Pattern.{pattern_value}
use Rattle.paint.specs.Mix.{bit_source, mixed}
use Rattle.paint.specs.Clip.{in_clip, pixel_at}
use Rattle.paint.proofs.ClipLaws.{in-clip}
use Rattle.line.specs.declared.Point.{Point}
use Rattle.line.specs.declared.Line.{Line}
use Rattle.line.specs.declared.Pen.{Pen}
use Rattle.line.specs.Line.{point_at, points_from, points}
use Rattle.line.specs.Stipple.{stipple_bit, after}
use Rattle.line.specs.Draw.{covered_points, line_touches, line_off}
use Rattle.line.proofs.Sides.{either}
use Rattle.line.proofs.PointLaws.{points-in-box, from_cons, from-none}

not-and : (a b : Bool) → not (a && b) ≡ (not a || not b)
not-and true b = refl
not-and false b = refl

-- ---- what is touched is what is covered
pub touches-covered : (ink : Ink) (pattern : List ℕ) (c : Clip) (pen : Pen) (style : ℕ) (ps : List Point)
    → map (λ t. t.at) (line_touches ink pattern c pen style ps) ≡ covered_points c ps
unfolding line_touches covered_points
touches-covered ink pattern c pen style [] = refl
touches-covered ink pattern c pen style (p ∷ ps) =
    let more = touches-covered ink pattern c pen (after pen style) ps in
    either (in_clip c p.x p.y) (λ e. rw e (ap (λ (qs : List Px). pixel_at p.x p.y ∷ qs) more)) (λ e. rw e more)

-- what holds of each point inside the clip holds of each covered pixel
pub covered-each : (P : Px → Type 0) (c : Clip) (ps : List Point)
    → ((p : Point) → Memᴰ p ps → in_clip c p.x p.y ≡ true → P (pixel_at p.x p.y)) → (q : Px) → In q (covered_points c ps) → P q
unfolding covered_points
covered-each P c [] f q m = absurd (Memᴰ.not-nil m)
covered-each P c (p ∷ ps) f q m =
    let more = covered-each P c ps (λ r n. f r (Memᴰ.tail n)) q in
    either (in_clip c p.x p.y)
    (λ e. ⊎_elim (λ w. subst P (sym w) (f p (Memᴰ.head refl) e)) more (Memᴰ.cases_cons (rw e at m)))
    (λ e. more (rw e at m))

pub covered-in-clip : (c : Clip) (ps : List Point) (q : Px) → In q (covered_points c ps) → in_clip c (origin + q.x) (origin + q.y) ≡ true
covered-in-clip c ps = covered-each (λ q. in_clip c (origin + q.x) (origin + q.y) ≡ true) c ps (λ p m e.
    let h = in-clip c p.x p.y e in
    let x : origin + (p.x - origin) ≡ p.x = omega arith in
    let y : origin + (p.y - origin) ≡ p.y = omega arith in
    ap₂ (in_clip c) x y ∙ e)

pub touched-in-clip : (ink : Ink) (pattern : List ℕ) (c : Clip) (pen : Pen) (style : ℕ) (ps : List Point) (t : Touch)
    → Memᴰ t (line_touches ink pattern c pen style ps) → in_clip c (origin + t.at.x) (origin + t.at.y) ≡ true
touched-in-clip ink pattern c pen style ps t m =
    covered-in-clip c ps t.at (subst (In t.at) (touches-covered ink pattern c pen style ps) (Memᴰ.map (λ u. u.at) m))

-- ---- where the rectangle is on the surface that holds them, all are
pub box-on : (s : Surface) (len : ℕ) (c : Clip) (l : Line) (w h : ℕ) → w ≡ min (max l.x0 l.x1 + 1) (origin + c.right) - origin
    → h ≡ min (max l.y0 l.y1 + 1) (origin + c.bottom) - origin → all_on s len (rect false false 0 0 w h) ≡ true → false ≡ line_off s len c (points l)
unfolding line_off
box-on s len c l w h e f on =
    sym (ap not (each_all s len (covered_points c (points l)) (covered-each (λ q. on_surface s len q.x q.y ≡ true) c (points l) (λ p m g.
    let k = in-clip c p.x p.y g in
    let b = points-in-box l p m in
    all-each s len (rect false false 0 0 w h) on (pixel_at p.x p.y)
    (rect-in false false 0 0 w h _ (record { left = omega arith; right = omega arith; top = omega arith; bottom = omega arith }))))))

-- ---- one point
module _ (s : Surface) (len : ℕ) (c : Clip) (p : Point) where
  pub point-on : all_on s len (covered_points c (p ∷ [])) ≡ true → in_clip c p.x p.y ≡ true → on_surface s len (p.x - origin) (p.y - origin) ≡ true
  unfolding all_on covered_points
  point-on e h = and_left _ _ (rw h at e)

  pub off-covered : (t : Bool) → t ≡ on_surface s len (p.x - origin) (p.y - origin) → in_clip c p.x p.y ≡ true → not t ≡ line_off s len c (p ∷ [])
  unfolding line_off all_on covered_points
  off-covered t e h = rw (h, and-true) (ap not e)

  pub off-clipped : in_clip c p.x p.y ≡ false → false ≡ line_off s len c (p ∷ [])
  unfolding line_off all_on covered_points
  off-clipped h = rw h

module _ (ink : Ink) (pattern : List ℕ) (c : Clip) (pen : Pen) (p : Point) (style : ℕ) (st : State) where
  pub paint-covered : {bit : ℕ} {st' : State} → in_clip c p.x p.y ≡ true → bit ≡ stipple_bit pen style
      → st' ≡ dab ink.target (pixel_at p.x p.y)
      (mixed ink (pattern_value ink pattern (p.x - origin) (p.y - origin)) (bit_source ink bit) (read_px st.mem ink.target (p.x - origin) (p.y - origin))) st
      → st' ≡ paint ink.target (line_touches ink pattern c pen style (p ∷ [])) st
  unfolding paint line_touches
  paint-covered h b e = rw (h, ← b) e

  pub paint-clipped : in_clip c p.x p.y ≡ false → st ≡ paint ink.target (line_touches ink pattern c pen style (p ∷ [])) st
  unfolding paint line_touches
  paint-clipped h = rw h

-- no more is touched than a point
pub one-touch : (ink : Ink) (pattern : List ℕ) (c : Clip) (pen : Pen) (p : Point) (style : ℕ) → length (line_touches ink pattern c pen style (p ∷ [])) ≤ 1
unfolding line_touches
one-touch ink pattern c pen p style = either (in_clip c p.x p.y) (λ e. rw e (omega arith)) (λ e. rw e (omega arith))

-- ---- one point, and the others
module _ (s : Surface) (len : ℕ) (c : Clip) (p : Point) (ps : List Point) where
  pub on-turn : all_on s len (covered_points c (p ∷ ps)) ≡ (all_on s len (covered_points c (p ∷ [])) && all_on s len (covered_points c ps))
  unfolding all_on covered_points
  on-turn = either (in_clip c p.x p.y) (λ e. rw (e, and-true)) (λ e. rw e)

  pub off-turn : line_off s len c (p ∷ ps) ≡ (line_off s len c (p ∷ []) || line_off s len c ps)
  unfolding line_off
  off-turn = rw on-turn (not-and (all_on s len (covered_points c (p ∷ []))) (all_on s len (covered_points c ps)))

-- ---- the points that a loop has left
module _ (s : Surface) (len : ℕ) (c : Clip) (l : Line) (i e : ℕ) where
  pub on-left : i < e → all_on s len (covered_points c (points_from l i (e - i))) ≡ true
      → (all_on s len (covered_points c (point_at l i ∷ [])) ≡ true) × (all_on s len (covered_points c (points_from l (i + 1) (e - (i + 1)))) ≡ true)
  on-left h q =
      let r = sym (on-turn s len c (point_at l i) (points_from l (i + 1) (e - (i + 1)))) ∙ (rw (from_cons l i e h) at q) in
      (and_left _ (all_on s len (covered_points c (points_from l (i + 1) (e - (i + 1))))) r, and_right (all_on s len (covered_points c (point_at l i ∷ []))) _ r)

  pub off-left : (p : Point) (t : Bool) → i < e → p ≡ point_at l i → t ≡ line_off s len c (p ∷ [])
      → (t || line_off s len c (points_from l (i + 1) (e - (i + 1)))) ≡ line_off s len c (points_from l i (e - i))
  off-left p t h q r = rw (from_cons l i e h, off-turn, r, q)

  pub off-none : e ≤ i → false ≡ line_off s len c (points_from l i (e - i))
  unfolding line_off all_on covered_points
  off-none h = rw (from-none l i e h)

module _ (ink : Ink) (pattern : List ℕ) (c : Clip) (pen : Pen) (l : Line) (i e style : ℕ) where
  pub touches-left : {p : Point} {next : ℕ} → i < e → p ≡ point_at l i → next ≡ after pen style
      → line_touches ink pattern c pen style (points_from l i (e - i))
      ≡ line_touches ink pattern c pen style (p ∷ []) ++ line_touches ink pattern c pen next (points_from l (i + 1) (e - (i + 1)))
  unfolding line_touches
  touches-left h p n = rw (from_cons l i e h, n, p) (either (in_clip c (point_at l i).x (point_at l i).y) (λ t. rw t) (λ t. rw t))

  pub touches_none : e ≤ i → line_touches ink pattern c pen style (points_from l i (e - i)) ≡ []
  unfolding line_touches
  touches_none h = rw (from-none l i e h)

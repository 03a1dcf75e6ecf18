-- Laws of a line's written points: they are those that painting the line writes, a part of the covered ones, and none comes twice; and one turn of a loop over the
-- points.
-- Assumes nothing.
use mathlib.Core.Path.{◌≡◌, refl, sym, ap, ◌∙◌}
use mathlib.Core.Bool.{Bool, true, false}
use mathlib.Core.List.{List, [], ◌∷◌, ◌++◌}
use Prim.Native.Nat.{ℕ, ◌+◌, ◌-◌, ◌<◌, ◌≤◌}
use Rattle.surface.specs.declared.Surface.{Surface}
use Rattle.surface.specs.Pixels.{Px, px, origin}
use Rattle.surface.proofs.Lists.{In}
use Rattle.surface.proofs.Rects.{Distinct}
use Rattle.spans.specs.Span.{addresses}
use Rattle.ink.specs.declared.Ink.{Ink}
use Rattle.paint.specs.declared.Clip.{Clip}
use Rattle.paint.specs.Clip.{in_clip, pixel_at}
use Rattle.paint.specs.Mix.{bit_source, mixed}
use Rattle.paint.specs.Paint.{wrote}
use Rattle.line.specs.declared.Point.{Point}
use Rattle.line.specs.declared.Line.{Line}
use Rattle.line.specs.declared.Pen.{Pen}
use Rattle.line.specs.Line.{point_at, points_from, points}
use Rattle.line.specs.Stipple.{stipple_bit, after}
use Rattle.line.specs.Draw.{covered_points, line_touches}
use Rattle.line.proofs.Sides.{either}
use Rattle.line.proofs.PointLaws.{from_cons, from-none}
use Rattle.line.proofs.Once.{covered-distinct}
use Rattle.pages.specs.Pages.{marked_at, marking}
use Rattle.pages.proofs.MarkLaws.{marking-append}
use Rattle.dots.specs.Dots.{dotted}
use Rattle.dots.proofs.Parts.{Part, end, kept, passed, part_in, part-distinct}

-- whether the stipple leaves a point
abbrev left : Ink → Pen → ℕ → Bool
left ink pen style = (bit_source ink (stipple_bit pen style)).left

-- ---- painting the line writes these points
pub dotted-wrote : (s : Surface) (ink : Ink) (pattern : List ℕ) (c : Clip) (pen : Pen) (style : ℕ) (ps : List Point) (m : List ℕ)
    → wrote s (line_touches ink pattern c pen style ps) m ≡ dotted ink c pen style ps
unfolding wrote line_touches dotted mixed
dotted-wrote s ink pattern c pen style [] m = refl
dotted-wrote s ink pattern c pen style (p ∷ ps) m =
    either (in_clip c p.x p.y)
    (λ e. either (left ink pen style) (λ f. rw (e, f) (dotted-wrote s ink pattern c pen (after pen style) ps _))
    (λ f. rw (e, f) (ap (λ (qs : List Px). pixel_at p.x p.y ∷ qs) (dotted-wrote s ink pattern c pen (after pen style) ps _))))
    (λ e. rw e (dotted-wrote s ink pattern c pen (after pen style) ps m))

-- ---- they are a part of the covered ones
dotted-part : (ink : Ink) (c : Clip) (pen : Pen) (style : ℕ) (ps : List Point) → Part (dotted ink c pen style ps) (covered_points c ps)
unfolding dotted covered_points
dotted-part ink c pen style [] = end
dotted-part ink c pen style (p ∷ ps) =
    let more = dotted-part ink c pen (after pen style) ps in
    either (in_clip c p.x p.y) (λ e. either (left ink pen style) (λ f. rw (e, f) (passed more)) (λ f. rw (e, f) (kept more))) (λ e. rw e more)

module _ (ink : Ink) (c : Clip) (pen : Pen) (style : ℕ) where
  pub dotted-covered : (ps : List Point) (p : Px) → In p (dotted ink c pen style ps) → In p (covered_points c ps)
  dotted-covered ps = part_in (dotted-part ink c pen style ps)

  pub dotted-distinct : (l : Line) → Distinct (dotted ink c pen style (points l))
  dotted-distinct l = part-distinct (dotted-part ink c pen style (points l)) (covered-distinct c l)

-- ---- one point
module _ (ink : Ink) (c : Clip) (pen : Pen) (style : ℕ) (p : Point) (marks : List Bool) where
  pub dot-written : in_clip c p.x p.y ≡ true → left ink pen style ≡ false
      → marking ink.target (px (p.x - origin) (p.y - origin) ∷ []) marks ≡ marking ink.target (dotted ink c pen style (p ∷ [])) marks
  unfolding dotted
  dot-written e f = rw (e, f)

  pub dot-left : left ink pen style ≡ true → marks ≡ marking ink.target (dotted ink c pen style (p ∷ [])) marks
  unfolding dotted addresses marked_at
  dot-left f = either (in_clip c p.x p.y) (λ e. rw (e, f)) (λ e. rw e)

  pub dot-clipped : in_clip c p.x p.y ≡ false → marks ≡ marking ink.target (dotted ink c pen style (p ∷ [])) marks
  unfolding dotted addresses marked_at
  dot-clipped e = rw e

-- ---- the points that a loop has left
dotted-cons : (ink : Ink) (c : Clip) (pen : Pen) (style : ℕ) (p : Point) (ps : List Point)
    → dotted ink c pen style (p ∷ ps) ≡ dotted ink c pen style (p ∷ []) ++ dotted ink c pen (after pen style) ps
unfolding dotted
dotted-cons ink c pen style p ps =
    either (in_clip c p.x p.y) (λ e. either (left ink pen style) (λ f. rw (e, f)) (λ f. rw (e, f))) (λ e. rw e)

module _ (ink : Ink) (c : Clip) (pen : Pen) (l : Line) (i e style : ℕ) (marks : List Bool) where
  pub dots-turn : {p : Point} {next : ℕ} {marks' : List Bool} → i < e → p ≡ point_at l i → next ≡ after pen style
      → marks' ≡ marking ink.target (dotted ink c pen style (p ∷ [])) marks
      → marking ink.target (dotted ink c pen next (points_from l (i + 1) (e - (i + 1)))) marks'
      ≡ marking ink.target (dotted ink c pen style (points_from l i (e - i))) marks
  dots-turn {p} h q n w =
      rw (w, n) (sym (marking-append ink.target (dotted ink c pen style (p ∷ [])) (dotted ink c pen (after pen style) (points_from l (i + 1) (e - (i + 1)))) marks)
      ∙ ap (λ (ps : List Px). marking ink.target ps marks) (sym (dotted-cons ink c pen style p (points_from l (i + 1) (e - (i + 1)))))
      ∙ rw (from_cons l i e h, q))

  pub dots-none : e ≤ i → marking ink.target (dotted ink c pen style (points_from l i (e - i))) marks ≡ marks
  unfolding dotted addresses marked_at
  dots-none h = rw (from-none l i e h)

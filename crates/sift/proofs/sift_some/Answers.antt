-- `sift::sift_some` meets its contract: pixels in a marked page mark nothing more, and one by itself marks its pages or is left.
-- Assumes nothing.
use mathlib.Core.Path.{◌≡◌, sym, ap, ◌∙◌}
use mathlib.Core.Bool.{true, false, not}
use mathlib.Core.List.{List}
use Prim.Native.Nat.{ℕ, ◌/◌}
use native.Mathlib.Omega.{arith}
use lib.ListN.{get_or}
use Rattle.surface.specs.Pixels.{Px, px}
use Rattle.spans.specs.Span.{addresses}
use Rattle.pages.specs.Pages.{marked_at, marking}
use Rattle.pages.proofs.PixelLaws.{pixel-page}
use Rattle.sweep.specs.declared.Task.{Task}
use Rattle.sift.specs.Sift.{task_at, left_at, wet}
use Rattle.sift.proofs.SiftLaws.{chosen-one, chosen-left, passed_over, pixel-can}
use Rattle.sift.proofs.sift_some.Goals as goal

pub bounds-marks-at : goal.bounds-marks-at
bounds-marks-at c =
    pixel-page (pixel-can c.requires.0 c.requires.1 (omega arith)) 0 c.requires.0.colour.some c.byte_of-at.ensures

pub returns-then-n-gt0 : goal.returns-then-n-gt0
returns-then-n-gt0 c =
    let marks = c.args.marks.now in (
      c.if-n-gt0.true,
      omega (arith, c.min-n.ensures),
      sym (passed_over c.args.v.task.ink.target c.requires.0.colour c.args.x c.args.y (wet c.args.v c.args.pattern.now c.args.mem.now) marks
          c.min-n.result (omega (arith, c.min-n.ensures, c.run_of.ensures))
          (ap (λ (a : ℕ). get_or marks (a / 4096) false) (sym c.byte_of-at.ensures) ∙ c.if-marks-at.true)),
    )

pub task_at-requires : goal.task_at-requires
task_at-requires c = (
  omega (arith, c.requires.0.wide, c.requires.1),
  omega (arith, c.requires.0.high),
  (c.requires.0.each (px c.args.x c.args.y) (record { left = omega arith; right = omega (arith, c.requires.1); top = omega arith; bottom = omega arith })).scales,
)

pub is_left-requires : goal.is_left-requires
is_left-requires c =
    rw c.task_at.ensures
    (c.requires.0.each (px c.args.x c.args.y) (record { left = omega arith; right = omega (arith, c.requires.1); top = omega arith; bottom = omega arith })).source

pub returns-then-is_left : goal.returns-then-is_left
unfolding addresses marked_at
returns-then-is_left c =
    let a = c.args in
    let left : left_at (task_at a.v (px a.x a.y)) a.pattern.now a.mem.now (px a.x a.y) ≡ true =
    ap (λ (t : Task). left_at t a.pattern.now a.mem.now (px a.x a.y)) (sym c.task_at.ensures) ∙ sym c.is_left.ensures ∙ c.if-is_left.true in (
      omega arith,
      omega (arith, c.requires.1),
      ap (λ (ps : List Px). marking a.v.task.ink.target ps a.marks.now)
          (sym (chosen-left (wet a.v a.pattern.now a.mem.now) a.x a.y (ap not left))),
    )

pub mark_pixel-requires : goal.mark_pixel-requires
mark_pixel-requires c = pixel-can c.requires.0 c.requires.1 (omega arith)

pub returns : goal.returns
returns c =
    let a = c.args in
    let written : left_at (task_at a.v (px a.x a.y)) a.pattern.now a.mem.now (px a.x a.y) ≡ false =
    ap (λ (t : Task). left_at t a.pattern.now a.mem.now (px a.x a.y)) (sym c.task_at.ensures) ∙ sym c.is_left.ensures
    ∙ c.if-is_left.false in (
      omega arith,
      omega (arith, c.requires.1),
      c.mark_pixel.ensures
          ∙ ap (λ (ps : List Px). marking a.v.task.ink.target ps a.marks.now)
          (sym (chosen-one (wet a.v a.pattern.now a.mem.now) a.x a.y (ap not written))),
    )

-- A single write counts fewer than 2^32 pixels: it touches none twice, and none that its command does not cover, and a command covers 2^26 at most.
-- Assumes nothing.
use mathlib.Core.Path.{◌≡◌, refl, sym, ap, ◌∙◌}
use mathlib.Core.Bool.{Bool, false}
use mathlib.Core.Logic.{⊎_elim}
use mathlib.Core.List.Memᴰ
use mathlib.Core.List.{List, [], ◌∷◌, map}
use mathlib.Core.Option.{Option, none, some}
use Prim.Native.Nat.{ℕ, suc, ◌^◌, ◌<◌, ◌≤◌}
use native.Mathlib.Nat.{mul-le-mul}
use native.Mathlib.Omega.{arith}
use native.Mathlib.Decide.{ℕ_discrete}
use lib.ListN.{length, length-map}
use Rattle.surface.specs.Pixels.{Px}
use Rattle.surface.proofs.Lists.{In, by_cases}
use Rattle.surface.proofs.Rects.{Distinct, rect-length}
use Rattle.paint.specs.declared.Clip.{Clip}
use Rattle.paint.specs.Clip.{in_clip}
use Rattle.paint.specs.Paint.{state, Touch}
use Rattle.paint.proofs.Frame.{paint-upto}
use Rattle.line.specs.declared.Point.{Point}
use Rattle.line.specs.Line.{points}
use Rattle.line.specs.Draw.{covered_points}
use Rattle.line.proofs.Sides.{either, longer-lt, count-le}
use Rattle.line.proofs.PointLaws.{points-length}
use Rattle.registers.specs.declared.Regs.{Regs}
use Rattle.command.specs.Decode.{target, line_of}
use Rattle.cuts.specs.declared.Cut.{Cut}
use Rattle.cuts.specs.Cut.{number, clip_of, fill_cut, covered_from, covered}
use Rattle.cuts.proofs.CutLaws.{Bounded}
use Rattle.table.proofs.Verdicts.{fill-bounded, copy-bounded, line-placed}
use Rattle.engine.specs.declared.Engine.{Engine}
use Rattle.engine.specs.Step.{Step, number_of, count_of, written}
use Rattle.engine.specs.Orders.{order, covered_by, touches_of}
use Rattle.acts.proofs.Cases.{by-number}
use Rattle.engine.proofs.Undone.{refused-undone}
use Rattle.engine.proofs.Commands.{PaintingOf, write-written}
use Rattle.engine.proofs.Once.{touches-once}

-- ---- pixels that all differ, each of them one of qs, are no more than qs

-- qs without p: one less, and every other pixel is still there
without : {p : Px} (qs : List Px) → In p qs → (rest : List Px) × (length qs ≡ suc (length rest)) × ((q : Px) → (p ≡ q → ⊥) → In q qs → In q rest)
without [] i = absurd (Memᴰ.not-nil i)
without (a ∷ qs) i =
    ⊎_elim (λ e. (qs, refl, λ q other j. ⊎_elim (λ f. absurd (other (e ∙ sym f))) (λ k. k) (Memᴰ.cases_cons j)))
    (λ h. let w = without qs h in (a ∷ w.0, ap suc w.1, λ q other j. ⊎_elim Memᴰ.head (λ k. Memᴰ.tail (w.2 q other k)) (Memᴰ.cases_cons j)))
    (Memᴰ.cases_cons i)

no_more : (ps qs : List Px) → Distinct ps → ((p : Px) → In p ps → In p qs) → length ps ≤ length qs
no_more [] qs d f = omega arith
no_more (p ∷ ps) qs d f =
    let w = without qs (f p (Memᴰ.head refl)) in
    omega (arith, w.1, no_more ps w.0 d.1 (λ q i. w.2 q (d.0 q i) (f q (Memᴰ.tail i))))

-- ---- what a command covers: a rectangle of at most 2^13 to a side, or some of a line's points
cut_most : (to_left to_top : Bool) {c : Cut} → Bounded c → length (covered_from to_left to_top c) ≤ 2 ^ 26
cut_most to_left to_top b = rw rect-length (mul-le-mul {n₂ = 2 ^ 13} {m₂ = 2 ^ 13} (omega (arith, b.high)) (omega (arith, b.wide)))

covered-points : (c : Clip) (ps : List Point) → length (covered_points c ps) ≤ length ps
unfolding covered_points
covered-points c [] = omega arith
covered-points c (p ∷ ps) = let more = covered-points c ps in either (in_clip c p.x p.y) (λ e. rw e (omega arith)) (λ e. rw e (omega arith))

pub covered-most : (r : Regs) → length (covered_by r) ≤ 2 ^ 26
unfolding covered_by
covered-most r =
    let l = line_of r in
    let fill : length (covered (fill_cut r)) ≤ 2 ^ 26 = cut_most false false (fill-bounded r) in
    by-number (λ (ps : List Px). length ps ≤ 2 ^ 26) (number r) _ _ _ _ _ _ _ (λ _. omega arith) (λ _. cut_most _ _ (copy-bounded r)) (λ _. fill) (λ _. fill) (λ _. fill)
    (λ _ _. omega (arith, covered-points (clip_of r) (points l), points-length l, count-le l, longer-lt (line-placed r))) (λ _. omega arith)

-- ---- no more is counted than touched, and no more touched than covered
counted : (r : Option Regs) (ts : List Touch) (m : List ℕ) (s : Step) → Distinct (map (λ t. t.at) ts) → PaintingOf r ts m s → count_of s.answer ≤ 2 ^ 26
counted none ts m s d p = omega (arith, p.1)
counted (some r) ts m s d p =
    let touched : length ts ≤ length (covered_by r) = rw length-map at (no_more (map (λ t. t.at) ts) (covered_by r) d (λ q i. (p.touched q i).0)) in
    omega (arith, p.count, (paint-upto (target r) ts (state m 0 0)).count, covered-most r)

pub count_fits : (e : Engine) (m : List ℕ) (o d : ℕ) → count_of (written e m o d).answer < 2 ^ 32
count_fits e m o d =
    by_cases (ℕ_discrete (number_of (written e m o d).answer) 0)
    (λ z. omega (arith, counted (order e o d) (touches_of e m o d) m (written e m o d) (touches-once e m o d) ((write-written e m o d).paints z)))
    (λ no'. omega (arith, (refused-undone e m o d no').2))

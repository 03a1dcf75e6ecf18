-- The rectangle of a command that the table takes: which it is, by the command's number, and that its numbers fit.
-- Assumes nothing.
use mathlib.Core.Path.{◌≡◌, sym, ap, ◌∙◌}
use mathlib.Core.Bool.{not}
use mathlib.Core.List.{List, []}
use lib.ListN.{length}
use Prim.Native.Nat.{ℕ, ◌+◌, ◌^◌, ◌<◌, ◌≤◌}
use native.Mathlib.Omega.{arith}
use native.Mathlib.Decide.{ℕ_discrete}
use Rattle.surface.specs.Asked.{Colour}
use Rattle.surface.proofs.Lists.{by_cases}
use Rattle.surface.specs.Pixels.{Px}
use Rattle.line.specs.Line.{points}
use Rattle.host.specs.Host.{by_run}
use Rattle.registers.specs.declared.Regs.{Regs}
use Rattle.bank.specs.declared.Bank.{Bank}
use Rattle.scale.specs.Stretch.{pixel_task}
use Rattle.cuts.specs.declared.Cut.{Cut}
use Rattle.cuts.specs.Cut.{number, clip_of, fill_cut, copy_cut, covered, copy_order}
use Rattle.command.specs.Decode.{target, ink_of, fill_task, copy_task, stretch_of, line_of, pen_of, feed_of}
use Rattle.table.specs.Table.{fill_verdict, copy_verdict, stretch_verdict, host_verdict, line_verdict}
use Rattle.table.proofs.Verdicts.{fill-bounded, copy-bounded, fill-can, copy-can, line-can}
use Rattle.table.proofs.Stretches.{stretch-can}
use Rattle.pages.specs.Asked.{Sized}
use Rattle.sift.specs.Sift.{chosen, left_at}
use Rattle.dots.specs.Dots.{dotted, line_box}
use Rattle.dots.specs.Asked.{Dottable}
use Rattle.dots.proofs.BoxLaws as dots
use Rattle.drips.specs.Drips.{dripped, data_box}
use Rattle.drips.specs.Asked.{Drippable, Boxable}
use Rattle.drips.proofs.Boxes as drips
use Rattle.acts.specs.declared.Blit.{Blit}
use Rattle.acts.specs.Deed.{by_number}
use Rattle.acts.proofs.Cases.{unbuilt-high, pick, by_tests}
use Rattle.trail.specs.Trail.{wet_by, verdict_by, no_cut, box_by}
use Rattle.trail.specs.Asked.{Goes, Gone, Went}
use Rattle.trail.proofs.Wets.{goes-waits}

-- ---- which it is
module _ (r : Regs) (taken n : ℕ) where
  box-at : ℕ → Cut
  box-at k = by_number k no_cut (copy_cut r) (fill_cut r) (data_box (feed_of r) (fill_cut r) taken n) (fill_cut r) (line_box (line_of r) (clip_of r)) no_cut

  verdict-at : ℕ → ℕ → ℕ
  verdict-at len k = by_number k 0 (copy_verdict r len) (stretch_verdict r len) (host_verdict r len) (fill_verdict r len) (line_verdict r len) 4

  box-is : {k : ℕ} → number r ≡ k → box_by r taken n ≡ box-at k
  unfolding box_by box-at
  box-is e = ap box-at e

  verdict-is : {k len : ℕ} → number r ≡ k → Goes r taken n len → verdict-at len k ≡ 0
  unfolding verdict_by verdict-at
  verdict-is {k} {len} e g = sym (ap (verdict-at len) e) ∙ g.fine

  module _ {len : ℕ} (g : Goes r taken n len) where
    pub box-copy : number r ≡ 1 → copy_cut r ≡ box_by r taken n
    unfolding box-at
    box-copy e = sym (box-is e)

    pub box-host : number r ≡ 3 → data_box (feed_of r) (fill_cut r) taken n ≡ box_by r taken n
    unfolding box-at
    box-host e = sym (box-is e)

    -- a number from 6 on that is taken is a line's
    pub line-number : 6 ≤ number r → (number r ≡ 6 → ⊥) → number r ≡ 7
    unfolding verdict_by
    line-number low not6 =
        by_cases (ℕ_discrete (number r) 7) (λ e. e)
        (λ not7.
        let u = unbuilt-high (number r) (λ e. omega arith) (λ e. omega arith) (λ e. omega arith) (λ e. omega arith) (λ e. omega arith) (omega arith) in
        let z : ◌≡◌ {A = ℕ} 4 0 = rw (u.not0, u.not1, u.not2, u.not3, u.not5, u.not6) at g.fine in absurd (omega arith))

    pub box-line : 6 ≤ number r → line_box (line_of r) (clip_of r) ≡ box_by r taken n
    unfolding box-at
    box-line low = by_cases (ℕ_discrete (number r) 6) (λ e. sym (box-is e)) (λ not6. sym (box-is (line-number low not6)))

    -- any other that is taken is a stretch's or a fill's
    pub other-number : (number r ≡ 1 → ⊥) → (number r ≡ 3 → ⊥) → number r < 6 → (number r ≡ 5 → ⊥) → number r ≡ 2
    unfolding verdict-at
    other-number not1 not3 low not5 =
        by_cases (ℕ_discrete (number r) 2) (λ e. e)
        (λ not2. let four : number r ≡ 4 = omega (arith, g.draws) in let z : ◌≡◌ {A = ℕ} 4 0 = verdict-is four g in absurd (omega arith))

    pub box-fill : (number r ≡ 1 → ⊥) → (number r ≡ 3 → ⊥) → number r < 6 → fill_cut r ≡ box_by r taken n
    unfolding box-at
    box-fill not1 not3 low =
        by_cases (ℕ_discrete (number r) 5) (λ e. sym (box-is e)) (λ not5. sym (box-is (other-number not1 not3 low not5)))

-- ---- its numbers fit
pub fill-boxable : (r : Regs) (taken n : ℕ) → number r ≡ 3 → Gone r taken n → Boxable (feed_of r) (fill_cut r) taken n
unfolding verdict_by
fill-boxable r taken n host gone =
    let waits = goes-waits r taken n gone.len host (rw host at gone.goes.fine) gone.goes in
    let rows = waits.opened.rows in
    record {
      some = omega (arith, rows.held, rows.some);
      step = rows.sizes.step;
      y = waits.opened.y;
      few = waits.few;
      high = omega (arith, (fill-bounded r).high);
    }

pub sized : (r : Regs) (taken n : ℕ) → Gone r taken n → Sized (target r) (box_by r taken n).x (box_by r taken n).y (box_by r taken n).w (box_by r taken n).h
unfolding box_by verdict_by copy_task fill_task stretch_of ink_of
sized r taken n gone =
    by_tests
    (λ t0 t1 t2 t3 t5 t6.
    pick t0 t1 t2 t3 t5 t6 0 (copy_verdict r len) (stretch_verdict r len) (host_verdict r len) (fill_verdict r len) (line_verdict r len) 4 ≡ 0
    → In-sizes (pick t0 t1 t2 t3 t5 t6 no_cut (copy_cut r) (fill_cut r) (data_box (feed_of r) (fill_cut r) taken n) (fill_cut r) (line_box (line_of r) (clip_of r)) no_cut))
    (number r) (λ e v. absurd (gone.goes.draws e)) (λ e v. fits (copy_cut r) (copy-can r len v).colour (copy-bounded r).wide (copy-bounded r).high)
    (λ e v. fits (fill_cut r) (stretch-can r len v).colour (fill-bounded r).wide (fill-bounded r).high)
    (λ e v.
    let rows = drips.box-rows (feed_of r) (fill_cut r) taken n in
    fits (data_box (feed_of r) (fill_cut r) taken n) (goes-waits r taken n len e v gone.goes).opened.colour (omega (arith, (fill-bounded r).wide, rows.x, rows.w)) (omega (arith, (fill-bounded r).high, rows.bottom)))
    (λ e v. fits (fill_cut r) (fill-can r len v).colour (fill-bounded r).wide (fill-bounded r).high)
    (λ low high v.
    let can = line-can r len v in
    let box = dots.box-sized can.line can.clip in
    fits (line_box (line_of r) (clip_of r)) can.surface box.0 box.1)
    (λ u v. let z : ◌≡◌ {A = ℕ} 4 0 = v in absurd (omega arith)) gone.goes.fine
  where
    len : ℕ
    len = gone.len

    In-sizes : Cut → Type 0
    In-sizes c = Sized (target r) c.x c.y c.w c.h

    fits : (c : Cut) → Colour (target r) → c.x + c.w ≤ 2 ^ 13 → c.y + c.h ≤ 2 ^ 13 → In-sizes c
    fits c colour wide high = record { colour = colour; wide = wide; high = high }

-- ---- what its walk asks for, and finds: of a host blit's words, and of a line
module _ (b : Bank) (k : Blit) (ws m : List ℕ) (count : ℕ) (w : Went b k ws m count) where
  abbrev r : Regs
  r = b.regs

  wet-at : ℕ → List Px
  wet-at n = by_number n []
      (chosen (λ p. not (left_at (copy_task r) b.pattern m p)) (copy_order r))
      (chosen (λ p. not (left_at (pixel_task (stretch_of r) p) b.pattern m p)) (covered (fill_cut r)))
      (dripped (ink_of r) (clip_of r) (feed_of r) (by_run (feed_of r) k.last ws k.taken))
      (chosen (λ p. not (left_at (fill_task r) b.pattern m p)) (covered (fill_cut r)))
      (dotted (ink_of r) (clip_of r) (pen_of r) r.line_style (points (line_of r))) []

  wet-is : {n : ℕ} → number r ≡ n → wet_by b k ws m ≡ wet-at n
  unfolding wet_by wet-at
  wet-is e = ap wet-at e

  pub host-asked : number r ≡ 3 → Drippable (ink_of r) (clip_of r) (feed_of r) k.taken (length ws)
  unfolding verdict-at
  host-asked e = record {
    len = length m;
    limit = w.goes.limit;
    waits = goes-waits r k.taken (length ws) (length m) e (verdict-is r k.taken (length ws) e w.goes) w.goes;
  }

  pub host-wet : number r ≡ 3 → dripped (ink_of r) (clip_of r) (feed_of r) (by_run (feed_of r) k.last ws k.taken) ≡ wet_by b k ws m
  unfolding wet-at
  host-wet e = sym (wet-is e)

  -- line or polyline
  by-line : {A : Type 0} → 6 ≤ number r → (number r ≡ 6 → A) → (number r ≡ 7 → A) → A
  by-line low f g = by_cases (ℕ_discrete (number r) 6) f (λ not6. g (line-number r k.taken (length ws) w.goes low not6))

  pub line-asked : 6 ≤ number r → Dottable (ink_of r) (clip_of r) (line_of r)
  unfolding verdict-at ink_of
  line-asked low =
      let fine : line_verdict r (length m) ≡ 0 = by-line low (λ e. verdict-is r k.taken (length ws) e w.goes) (λ e. verdict-is r k.taken (length ws) e w.goes) in
      record { len = length m; limit = w.goes.limit; drawable = line-can r (length m) fine }

  pub line-wet : 6 ≤ number r → dotted (ink_of r) (clip_of r) (pen_of r) r.line_style (points (line_of r)) ≡ wet_by b k ws m
  unfolding wet-at
  line-wet low = by-line low (λ e. sym (wet-is e)) (λ e. sym (wet-is e))

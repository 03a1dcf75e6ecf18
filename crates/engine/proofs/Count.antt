-- The count: the number of covered pixels written; and how many of them were altered, never more.
-- Assumes nothing.
use mathlib.Core.Path.{◌≡◌, sym, subst, ◌∙◌}
use mathlib.Core.Bool.{cond, ◌&&◌}
use mathlib.Core.List.{List, [], map, Memᴰ}
use mathlib.Core.Option.{Option, none, some}
use Prim.Native.Nat.{ℕ, ◌<◌, ◌≤◌}
use native.Mathlib.Nat.{zero-add}
use native.Mathlib.Omega.{arith}
use native.Mathlib.Decide.{ℕ_discrete}
use lib.Dec.{eqb, ltb}
use Rattle.surface.specs.Pixels.{Px}
use Rattle.surface.proofs.Lists.{by_cases}
use Rattle.paint.specs.Tally.{tally}
use Rattle.paint.specs.Paint.{state, Touch}
use Rattle.paint.proofs.Frame.{count-wrote, changed-most}
use Rattle.paint.proofs.Changes.{changed-altered}
use Rattle.registers.specs.declared.Regs.{Regs}
use Rattle.registers.specs.declared.Place.{Place}
use Rattle.registers.specs.declared.Place.TheVariants.{Register, Pattern, Launch, Nowhere}
use Rattle.registers.specs.Regs.{put_reg}
use Rattle.bank.specs.Bank.{stored}
use Rattle.registers.specs.Offsets.{place_of}
use Rattle.host.specs.Host.{words_of}
use Rattle.command.specs.Decode.{target, copy_task, fill_task, feed_of}
use Rattle.cuts.specs.Cut.{bit, number, covered, copy_order, fill_cut}
use Rattle.engine.specs.declared.Engine.{Engine}
use Rattle.engine.specs.Step.{Step, number_of, count_of, changed_of, regs, stored_in, written}
use Rattle.engine.specs.Orders.{launching, order_at, order, carried_touches, launched_touches, touches_at, touches_of, covered_by}
use Rattle.engine.specs.Promises.{Paints, CountsWritten, ChangedMost, TouchesCovered, WordCovered}
use Rattle.engine.proofs.Short.{copy_touches, stretch_touches, fill_touches, draw_touches, word_touches}
use Rattle.acts.proofs.Cases.{by-test, pick, by_tests, by-number}
use Rattle.engine.proofs.Orders.{the_same, nothing-ordered}
use Rattle.engine.proofs.Undone.{refused-undone}
use Rattle.engine.proofs.Commands.{PaintingOf, covered_none, covered-copy, covered-stretch, covered-fill, covered-line, covered-other, rect-pixels, stretch-pixels, line-pixels, write-written}

paints : (r : Option Regs) (ts : List Touch) (m : List ℕ) (s : Step) → PaintingOf r ts m s → Paints r ts m s
paints none ts m s p = p
paints (some r) ts m s p =
    (p.memory, p.count ∙ count-wrote (target r) ts m (tally 0 0) ∙ zero-add _, p.changed ∙ changed-altered (target r) ts m (tally 0 0) ∙ zero-add _)

pub counts-written : CountsWritten
counts-written e m o d z = paints (order e o d) (touches_of e m o d) m (written e m o d) ((write-written e m o d).paints z)

-- no more are changed than written
most : (r : Option Regs) (ts : List Touch) (m : List ℕ) (s : Step) → PaintingOf r ts m s → changed_of s.answer ≤ count_of s.answer
most none ts m s p = omega (arith, p.1, p.2)
most (some r) ts m s p = omega (arith, p.count, p.changed, changed-most (target r) ts (state m 0 0) (omega arith))

pub no-more-changed : ChangedMost
no-more-changed e m o d =
    by_cases (ℕ_discrete (number_of (written e m o d).answer) 0) (λ z. most (order e o d) (touches_of e m o d) m (written e m o d) ((write-written e m o d).paints z))
    (λ no'. let undone = refused-undone e m o d no' in omega (arith, undone.2, undone.3))

-- what is touched by a write that has the command of r carried out
touched-of : (k : Option Regs) (r : Regs) (ts : List Touch) (m : List ℕ) (s : Step) → k ≡ some r → PaintingOf k ts m s
    → (p : Px) → Memᴰ p (map (λ t. t.at) ts) → Memᴰ p (covered_by r)
touched-of k r ts m s h p q i = ((subst (λ (k : Option Regs). PaintingOf k ts m s) h p).touched q i).0

pub word-covered : WordCovered
word-covered e m o d r h z = touched-of (order e o d) r (touches_of e m o d) m (written e m o d) h ((write-written e m o d).paints z)

-- ---- a copy, a stretch, a fill and a line touch what they cover
module _ (e : Engine) where
  copy_covered : number (regs e) ≡ 1 → map (λ t. t.at) (copy_touches e) ≡ covered_by (regs e)
  copy_covered n = rect-pixels (copy_task (regs e)) e.bank.pattern (copy_order (regs e)) ∙ sym (covered-copy (regs e) n)

  stretch-covered : (m : List ℕ) → number (regs e) ≡ 2 → map (λ t. t.at) (stretch_touches e m) ≡ covered_by (regs e)
  stretch-covered m n = stretch-pixels e m ∙ sym (covered-stretch (regs e) n)

  fill-covered : number (regs e) ≡ 5 → map (λ t. t.at) (fill_touches e) ≡ covered_by (regs e)
  fill-covered n = rect-pixels (fill_task (regs e)) e.bank.pattern (covered (fill_cut (regs e))) ∙ sym (covered-fill (regs e) n)

  draw-covered : 6 ≤ number (regs e) → number (regs e) < 8 → map (λ t. t.at) (draw_touches e) ≡ covered_by (regs e)
  draw-covered low high = line-pixels e ∙ sym (covered-line (regs e) low high)

abbrev Covers : List Touch → Regs → Type 0
Covers ts r = (number r ≡ 3 → ⊥) → map (λ t. t.at) ts ≡ covered_by r

carried-covers : (e : Engine) (m : List ℕ) → Covers (carried_touches e m) (regs e)
unfolding carried_touches
carried-covers e m =
    by-number (λ ts. Covers ts (regs e)) (number (regs e)) _ _ _ _ _ _ _ (λ n _. sym (covered_none (regs e) n)) (λ n _. copy_covered e n) (λ n _. stretch-covered e m n)
    (λ n other. absurd (other n)) (λ n _. fill-covered e n) (λ low high _. draw-covered e low high) (λ u _. sym (covered-other (regs e) u))

launched-covers : (e : Engine) (m : List ℕ) (d : ℕ) → Covers (launched_touches e m d) (launching e d)
unfolding launched_touches launching stored_in stored put_reg
launched-covers e m d =
    let to_source = stored_in e 0x5c d in
    let to_target = stored_in e 0x6c d in
    by_tests
    (λ a b c f g h. Covers
    (pick a b c f g h [] (copy_touches to_source) (stretch_touches to_source m) (cond (ltb e.blit.taken (words_of (feed_of (regs e)))) (word_touches e d) [])
    (fill_touches to_target) (draw_touches to_target) [])
    (pick a b c f g h (regs e) (regs to_source) (regs to_source) (regs e) (regs to_target) (regs to_target) (regs e)))
    (number (regs e)) (λ n _. sym (covered_none (regs e) n)) (λ n _. copy_covered to_source n) (λ n _. stretch-covered to_source m n) (λ n other. absurd (other n))
    (λ n _. fill-covered to_target n) (λ low high _. draw-covered to_target low high) (λ u _. sym (covered-other (regs e) u))

place-covers : (p : Place) (e : Engine) (m : List ℕ) (o d : ℕ) (r : Regs) → order_at p e o d ≡ some r → Covers (touches_at p e m o d) r
place-covers Register e m o d r =
    let command = stored_in e 0x70 d in
    by-test (λ t. cond t (some (regs command)) none ≡ some r → Covers (cond t (carried_touches command m) []) r) (eqb o 0x70 && bit d 8)
    (λ _ h. subst (Covers (carried_touches command m)) (the_same (regs command) r h) (carried-covers command m)) (λ _. nothing-ordered r)
place-covers (Pattern i) e m o d r = nothing-ordered r
place-covers Launch e m o d r = λ h. subst (Covers (launched_touches e m d)) (the_same (launching e d) r h) (launched-covers e m d)
place-covers Nowhere e m o d r = nothing-ordered r

pub touches-covered : TouchesCovered
touches-covered e m o d = place-covers (place_of o) e m o d

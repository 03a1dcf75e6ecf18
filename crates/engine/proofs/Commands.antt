-- Each command, and each write, with the registers it is carried out with and the pixels it touches: its number is that of the first row that applies, and where
-- that is 0 it has painted what it touches, all of it covered.
-- Assumes nothing.
use mathlib.Core.Path.{◌≡◌, refl, sym, ap, ap₂, subst, subst⁻¹, ◌∙◌}
use mathlib.Core.Bool.{Bool, true, false, cond, not, ◌&&◌, ◌||◌, true≢false}
use mathlib.Core.List.Memᴰ
use mathlib.Core.List.{List, [], ◌∷◌, map, Memᴰ}
use mathlib.Core.Logic.{⊎_elim}
use mathlib.Core.Option.{Option, none, some}
use Prim.Native.Nat.{ℕ, suc, ◌+◌, ◌-◌, ◌^◌, ◌<◌, ◌≤◌}
use native.Mathlib.Omega.{arith}
use native.Mathlib.Decide.{ℕ_discrete}
use lib.Dec.{eqb, ltb}
use lib.ListN.{length}
use borrow.Author.Tests.{eq-eqb, ltb-true}
use Rattle.std.specs.Prelude.{Ok, Err}
use Rattle.surface.specs.Place.{same_surface}
use Rattle.surface.specs.Pixels.{Px, origin}
use Rattle.spans.specs.Span.{all_on, span_of, meet}
use Rattle.surface.proofs.Lists.{In, by_cases}
use Rattle.surface.proofs.Rects.{rect-in}
use Rattle.spans.proofs.Corner.{any-corner}
use Rattle.sweep.specs.declared.Task.{Task}
use Rattle.paint.specs.Tally.{tally}
use Rattle.paint.specs.Paint.{state, Touch, paint}
use Rattle.sweep.specs.Copy.{giving, in_turn}
use Rattle.scale.specs.Stretch.{stretch_giving}
use Rattle.paint.proofs.ClipLaws.{in-clip}
use Rattle.paint.proofs.Frame.{pixels-of}
use Rattle.line.specs.Line.{points, point_count}
use Rattle.line.specs.Stipple.{style_after}
use Rattle.line.specs.Draw.{covered_points, line_off}
use Rattle.line.proofs.DrawLaws.{touches-covered}
use Rattle.host.specs.Host.{words_of}
use Rattle.host.proofs.Touched.{touched-inside}
use Rattle.registers.specs.declared.Regs.{Regs}
use Rattle.registers.specs.declared.Place.{Place}
use Rattle.registers.specs.declared.Place.TheVariants.{Register, Pattern, Launch, Nowhere}
use Rattle.registers.specs.Regs.{put_reg}
use Rattle.bank.specs.Bank.{stored, patterned}
use Rattle.registers.specs.Offsets.{place_of}
use Rattle.command.specs.Decode.{target, origins, stretch_origins, ink_of, fill_task, copy_task, stretch_of, line_of, pen_of, feed_of}
use Rattle.cuts.specs.Cut.{bit, number, clip_of, cut_at, fill_cut, copy_cut, covered, copy_order, needed}
use Rattle.table.specs.Table.{target_fine, both_fine, host_fine, all_on_at, pixels, stretch_needed, stretch_fault, host_fault, fill_verdict, copy_verdict, stretch_verdict, host_verdict, line_verdict}
use Rattle.table.proofs.Stretches.{stretch-can}
use Rattle.table.proofs.Verdicts.{fill-can, copy-can, line-can, host-can}
use Rattle.engine.specs.declared.Engine.{Engine}
use Rattle.engine.specs.declared.Refusal.TheVariants.{Memory, Waiting, NotBuilt}
use Rattle.acts.specs.Deed.{no_blit, rect_ended, Made, made, painted_by, idling, unbuilt, filling, copying, stretching, lining, opening, feeding, carrying, starting, by_number}
use Rattle.engine.specs.Step.{Step, step, done, making, judging, number_of, count_of, changed_of, refusal, regs, idle, with_bank, stored_in, carried, launched, commanded, to_register, to_pattern, to_place, written}
use Rattle.engine.specs.Orders.{launching, order_at, order, covered_by, carried_touches, launched_touches, touches_at, touches_of}
use Rattle.engine.specs.Promises.{row1, row2, row3, row4, row5, row6, row7, row8, ordered}
use Rattle.engine.proofs.Short.{after_rect, after_line, filled, copied, stretched, lined, begun, fed, fill_touches, copy_touches, stretch_touches, draw_touches, word_touches}
use Rattle.acts.proofs.Cases.{by-test, picked, Unbuilt, pick, by_tests}

-- ---- the first of the rows from number k on
unfoldable pub first_of : ℕ → List Bool → ℕ
first_of k [] = 0
first_of k (t ∷ ts) = cond t k (first_of (suc k) ts)

abbrev pub command_row : Regs → ℕ → ℕ
command_row r len = first_of 4 (row4 r ∷ row5 r ∷ row6 r ∷ row7 len r ∷ row8 r ∷ [])

-- rows 4 to 8 by the number, with what else they look at
abbrev rows : ℕ → Bool → Bool → Bool → Bool → Bool → (List Px → Bool) → List Px → List Px → List Px → Bool → Bool → Bool → Bool → ℕ
rows n both host one fault2 fault3 on copy fill line need1 need2 clash1 clash2 =
    first_of 4
    (by_number n false false false false false false true
    ∷ by_number n false both both host one one false
    ∷ ((eqb n 2 && fault2) || (eqb n 3 && fault3))
    ∷ (not (on (by_number n [] copy fill fill fill line [])) || ((eqb n 1 && need1) || (eqb n 2 && need2)))
    ∷ ((eqb n 1 && clash1) || (eqb n 2 && clash2))
    ∷ [])

or-false : (a : Bool) → (a || false) ≡ a
or-false true = refl
or-false false = refl

module _ (r : Regs) (len : ℕ) where
  -- the source of a copy and of a stretch: off its surface, or its span met
  abbrev copy_off : Bool
  copy_off = not (all_on_at (origins r) len (needed (copy_cut r)))

  abbrev stretch_off : Bool
  stretch_off = not (all_on_at (stretch_origins r) len (stretch_needed r))

  abbrev copy_meets : Bool
  copy_meets = not (same_surface (target r) (origins r)) && meet (span_of (target r) (covered (copy_cut r))) (span_of (origins r) (pixels (needed (copy_cut r))))

  abbrev stretch_meets : Bool
  stretch_meets = meet (span_of (target r) (covered (fill_cut r))) (span_of (stretch_origins r) (pixels (stretch_needed r)))

  abbrev rows_at : ℕ → ℕ
  rows_at n =
      rows n (not (both_fine r)) (not (host_fine r)) (not (target_fine r)) (stretch_fault r) (host_fault r) (all_on (target r) len) (copy_order r) (covered (fill_cut r))
      (covered_points (clip_of r) (points (line_of r))) copy_off stretch_off copy_meets stretch_meets

  pub row-nop : number r ≡ 0 → command_row r len ≡ 0
  unfolding covered_by all_on first_of
  row-nop n = ap rows_at n

  pub row-copy : number r ≡ 1 → command_row r len ≡ copy_verdict r len
  unfolding covered_by copy_verdict first_of
  row-copy n =
      ap rows_at n
      ∙ ap₂ (λ s t. cond (not (both_fine r)) 5 (cond (not (all_on (target r) len (copy_order r)) || s) 7 (cond t 8 0))) (or-false copy_off) (or-false copy_meets)
      ∙ ap (λ on. cond (not (both_fine r)) 5 (cond (not on || copy_off) 7 (cond copy_meets 8 0))) (any-corner (target r) len (bit r.command 14) (bit r.command 15) _ _ _ _)

  pub row-stretch : number r ≡ 2 → command_row r len ≡ stretch_verdict r len
  unfolding covered_by stretch_verdict first_of
  row-stretch n =
      ap rows_at n
      ∙ ap (λ t. cond (not (both_fine r)) 5 (cond t 6 (cond (not (all_on (target r) len (covered (fill_cut r))) || stretch_off) 7 (cond stretch_meets 8 0)))) (or-false (stretch_fault r))

  pub row-host : number r ≡ 3 → command_row r len ≡ host_verdict r len
  unfolding covered_by host_verdict first_of
  row-host n = ap rows_at n ∙ ap (λ t. cond (not (host_fine r)) 5 (cond (host_fault r) 6 (cond t 7 0))) (or-false (not (all_on (target r) len (covered (fill_cut r)))))

  pub row-fill : number r ≡ 5 → command_row r len ≡ fill_verdict r len
  unfolding covered_by fill_verdict first_of
  row-fill n = ap rows_at n ∙ ap (λ t. cond (not (target_fine r)) 5 (cond t 7 0)) (or-false (not (all_on (target r) len (covered (fill_cut r)))))

  pub row_line : 6 ≤ number r → number r < 8 → command_row r len ≡ line_verdict r len
  unfolding covered_by line_verdict line_off first_of
  row_line low high =
      by_cases (ℕ_discrete (number r) 6) (λ n. ap rows_at n) (λ n. let seven : number r ≡ 7 = omega arith in ap rows_at seven)
      ∙ ap (λ t. cond (not (target_fine r)) 5 (cond t 7 0)) (or-false (line_off (target r) len (clip_of r) (points (line_of r))))

  pub row_other : Unbuilt (number r) → command_row r len ≡ 4
  unfolding first_of
  row_other u = rw (u.not0, u.not1, u.not2, u.not3, u.not5, u.not6)

-- ---- one command
pub record Painting (r : Regs) (ts : List Touch) (m : List ℕ) (s : Step) : Type 0 where
  pub memory : s.memory ≡ (paint (target r) ts (state m 0 0)).mem
  pub count : count_of s.answer ≡ (paint (target r) ts (state m 0 0)).tally.count
  pub changed : changed_of s.answer ≡ (paint (target r) ts (state m 0 0)).tally.changed
  pub touched : (p : Px) → In p (map (λ t. t.at) ts) → In p (covered_by r) × (0 < (target r).bytes)

pub record Carried (r : Regs) (ts : List Touch) (m : List ℕ) (s : Step) : Type 0 where
  pub number : number_of s.answer ≡ command_row r (length m)
  pub paints : command_row r (length m) ≡ 0 → Painting r ts m s

-- the first of rows 5 to 8 by their four tests; each command's verdict is one
abbrev first : Bool → Bool → Bool → Bool → ℕ
first a b c d = cond a 5 (cond b 6 (cond c 7 (cond d 8 0)))

first-number : (a b c d : Bool) (old : Engine) (m : List ℕ) (s : Step) → number_of s.answer ≡ 0
    → number_of (cond (eqb (first a b c d) 0) s (step old m (Err (refusal (first a b c d))))).answer ≡ first a b c d
unfolding refusal
first-number true b c d old m s z = refl
first-number false true c d old m s z = refl
first-number false false true d old m s z = refl
first-number false false false true old m s z = refl
first-number false false false false old m s z = z

-- a command that its verdict refuses, or that paints
judged : {r : Regs} {ts : List Touch} {m : List ℕ} (old : Engine) (s : Step) (a b c d : Bool) → command_row r (length m) ≡ first a b c d → number_of s.answer ≡ 0
    → (first a b c d ≡ 0 → Painting r ts m s) → Carried r ts m (cond (eqb (first a b c d) 0) s (step old m (Err (refusal (first a b c d)))))
judged {r} {ts} {m} old s a b c d row zero' paints = record {
  number = first-number a b c d old m s zero' ∙ sym row;
  paints = λ z.
      let v : first a b c d ≡ 0 = sym row ∙ z in
      picked (Painting r ts m) (eqb (first a b c d) 0) _ _ (λ _. paints v) (λ no'. absurd (true≢false (sym (eq-eqb (first a b c d) 0 v) ∙ no')));
}

nothing : (r : Regs) (e : Engine) (m : List ℕ) → Painting r [] m (step e m (Ok (tally 0 0)))
unfolding paint
nothing r e m = record { memory = refl; count = refl; changed = refl; touched = λ p i. absurd (Memᴰ.not-nil i) }

painting : (r : Regs) (e : Engine) (m : List ℕ) (ts : List Touch) (ps : List Px) → covered_by r ≡ ps → 0 < (target r).bytes
    → ((p : Px) → In p (map (λ t. t.at) ts) → In p ps) → Painting r ts m (done e (paint (target r) ts (state m 0 0)))
painting r e m ts ps same colour inside = record { memory = refl; count = refl; changed = refl; touched = λ p i. (subst⁻¹ (In p) same (inside p i), colour) }

module _ (r : Regs) where
  pub covered_none : number r ≡ 0 → covered_by r ≡ []
  unfolding covered_by
  covered_none n = rw n

  pub covered-other : Unbuilt (number r) → covered_by r ≡ []
  unfolding covered_by
  covered-other u = rw (u.not0, u.not1, u.not2, u.not3, u.not5, u.not6)

  covered-at : ℕ → List Px
  covered-at n = by_number n [] (copy_order r) (covered (fill_cut r)) (covered (fill_cut r)) (covered (fill_cut r)) (covered_points (clip_of r) (points (line_of r))) []

  pub covered-copy : number r ≡ 1 → covered_by r ≡ copy_order r
  unfolding covered_by covered-at
  covered-copy n = ap covered-at n

  pub covered-stretch : number r ≡ 2 → covered_by r ≡ covered (fill_cut r)
  unfolding covered_by covered-at
  covered-stretch n = ap covered-at n

  pub covered-host : number r ≡ 3 → covered_by r ≡ covered (fill_cut r)
  unfolding covered_by covered-at
  covered-host n = ap covered-at n

  pub covered-fill : number r ≡ 5 → covered_by r ≡ covered (fill_cut r)
  unfolding covered_by covered-at
  covered-fill n = ap covered-at n

  pub covered-line : 6 ≤ number r → number r < 8 → covered_by r ≡ covered_points (clip_of r) (points (line_of r))
  unfolding covered_by covered-at
  covered-line low high = by_cases (ℕ_discrete (number r) 6) (λ n. ap covered-at n) (λ n. let seven : number r ≡ 7 = omega arith in ap covered-at seven)

-- the pixels of a rectangle's touches are those of the rectangle
pub rect-pixels : (k : Task) (pattern : List ℕ) (ps : List Px) → map (λ t. t.at) (in_turn k pattern ps) ≡ ps
rect-pixels k pattern ps = pixels-of (λ (q : Px) (now : List ℕ). giving k pattern now now q) ps

filled-carried : (old e : Engine) (m : List ℕ) → number (regs e) ≡ 5 → Carried (regs e) (fill_touches e) m (filled old e m)
unfolding fill_verdict fill_task ink_of
filled-carried old e m n =
    let r = regs e in
    judged old _ (not (target_fine r)) false (not (all_on (target r) (length m) (covered (fill_cut r)))) false (row-fill r (length m) n) refl
    (λ v. painting r (after_rect e) m (fill_touches e) (covered (fill_cut r)) (covered-fill r n) (fill-can r (length m) v).colour.some
    (λ p i. subst (In p) (rect-pixels (fill_task r) e.bank.pattern (covered (fill_cut r))) i))

copied-carried : (old e : Engine) (m : List ℕ) → number (regs e) ≡ 1 → Carried (regs e) (copy_touches e) m (copied old e m)
unfolding copy_verdict copy_task ink_of
copied-carried old e m n =
    let r = regs e in
    judged old _ (not (both_fine r)) false (not (all_on (target r) (length m) (covered (copy_cut r))) || copy_off r (length m)) (copy_meets r (length m))
    (row-copy r (length m) n) refl
    (λ v. painting r (after_rect e) m (copy_touches e) (copy_order r) (covered-copy r n) (copy-can r (length m) v).colour.some
    (λ p i. subst (In p) (rect-pixels (copy_task r) e.bank.pattern (copy_order r)) i))

-- the pixels of a stretch's touches are those it covers
pub stretch-pixels : (e : Engine) (m : List ℕ) → map (λ t. t.at) (stretch_touches e m) ≡ covered (fill_cut (regs e))
stretch-pixels e m = pixels-of (λ (q : Px) (now : List ℕ). stretch_giving (stretch_of (regs e)) e.bank.pattern m now q) (covered (fill_cut (regs e)))

stretched-carried : (old e : Engine) (m : List ℕ) → number (regs e) ≡ 2 → Carried (regs e) (stretch_touches e m) m (stretched old e m)
unfolding stretch_verdict stretch_of ink_of
stretched-carried old e m n =
    let r = regs e in
    judged old _ (not (both_fine r)) (stretch_fault r) (not (all_on (target r) (length m) (covered (fill_cut r))) || stretch_off r (length m)) (stretch_meets r (length m))
    (row-stretch r (length m) n) refl
    (λ v. painting r (after_rect e) m (stretch_touches e m) (covered (fill_cut r)) (covered-stretch r n) (stretch-can r (length m) v).colour.some
    (λ p i. subst (In p) (stretch-pixels e m) i))

pub line-pixels : (e : Engine) → map (λ t. t.at) (draw_touches e) ≡ covered_points (clip_of (regs e)) (points (line_of (regs e)))
line-pixels e = touches-covered (ink_of (regs e)) e.bank.pattern (clip_of (regs e)) (pen_of (regs e)) (regs e).line_style (points (line_of (regs e)))

lined-carried : (old e : Engine) (m : List ℕ) → 6 ≤ number (regs e) → number (regs e) < 8 → Carried (regs e) (draw_touches e) m (lined old e m)
unfolding line_verdict
lined-carried old e m low high =
    let r = regs e in
    let after = after_line e (style_after (pen_of r) (point_count (line_of r)) r.line_style) in
    judged old _ (not (target_fine r)) false (line_off (target r) (length m) (clip_of r) (points (line_of r))) false (row_line r (length m) low high) refl
    (λ v. painting r after m (draw_touches e) (covered_points (clip_of r) (points (line_of r))) (covered-line r low high) (line-can r (length m) v).surface.some
    (λ p i. subst (In p) (line-pixels e) i))

begun-carried : (old e : Engine) (m : List ℕ) → number (regs e) ≡ 3 → Carried (regs e) [] m (begun old e m)
unfolding host_verdict
begun-carried old e m n =
    let r = regs e in
    judged old _ (not (host_fine r)) (host_fault r) (not (all_on (target r) (length m) (covered (fill_cut r)))) false (row-host r (length m) n)
    refl
    (λ v. picked (λ (k : Made). Painting r [] m (making e k)) (ltb 0 (words_of (feed_of r))) _ _ (λ _. nothing r _ m) (λ _. nothing r _ m))

-- ---- a word of data

-- what holds of each touch's pixel
pub each-pixel : (P : Px → Type 0) (ts : List Touch) → ((t : Touch) → Memᴰ t ts → P t.at) → (p : Px) → In p (map (λ t. t.at) ts) → P p
each-pixel P [] f p i = absurd (Memᴰ.not-nil i)
each-pixel P (t ∷ ts) f p i =
    ⊎_elim (λ e. subst P (sym e) (f t (Memᴰ.head refl))) (λ j. each-pixel P ts (λ u k. f u (Memᴰ.tail k)) p j) (Memᴰ.cases_cons i)

word-covered : (e : Engine) (len word : ℕ) → host_verdict (regs e) len ≡ 0 → 0 < words_of (feed_of (regs e)) → (u : Touch) → Memᴰ u (word_touches e word)
    → In u.at (covered (fill_cut (regs e)))
unfolding fill_cut cut_at feed_of
word-covered e len word v words u i =
    let r = regs e in
    let feed = feed_of r in
    let k = touched-inside (ink_of r) e.bank.pattern (clip_of r) feed (host-can r len v words).rows e.blit.last word e.blit.taken u i in
    let h = in-clip (clip_of r) (feed.x + k.i) (feed.y + k.j) k.inside in
    let x : u.at.x ≡ feed.x + k.i - origin = ap (λ (p : Px). p.x) k.place in
    let y : u.at.y ≡ feed.y + k.j - origin = ap (λ (p : Px). p.y) k.place in
    rect-in false false _ _ _ _ u.at (omega (arith, h, k.column, k.row))

fed-carried : (e : Engine) (m : List ℕ) (d : ℕ) → number (regs e) ≡ 3
    → Carried (regs e) (cond (ltb e.blit.taken (words_of (feed_of (regs e)))) (word_touches e d) []) m (fed e m d)
unfolding host_verdict ink_of
fed-carried e m d n =
    let r = regs e in
    let more = words_of (feed_of r) in
    judged e _ (not (host_fine r)) (host_fault r) (not (all_on (target r) (length m) (covered (fill_cut r)))) false (row-host r (length m) n)
    refl
    (λ v. by-test
    (λ t. Painting r (cond t (word_touches e d) []) m
    (making e
    (cond t
    (cond (ltb (e.blit.taken + 1) more) (made e.bank (record { waiting = true; taken = e.blit.taken + 1; last = d }) (painted_by e.bank (word_touches e d) m))
    (made (rect_ended e.bank) no_blit (painted_by e.bank (word_touches e d) m)))
    (made (rect_ended e.bank) no_blit (state m 0 0)))))
    (ltb e.blit.taken more)
    (λ t.
    let few = ltb-true e.blit.taken more t in
    let words : 0 < more = omega arith in
    let inside = each-pixel (λ (p : Px). In p (covered (fill_cut r))) (word_touches e d) (word-covered e (length m) d v words) in
    let colour = (host-can r (length m) v words).colour.some in
    picked (λ (k : Made). Painting r (word_touches e d) m (making e k)) (ltb (e.blit.taken + 1) more) _ _
    (λ _. painting r _ m (word_touches e d) (covered (fill_cut r)) (covered-host r n) colour inside)
    (λ _. painting r _ m (word_touches e d) (covered (fill_cut r)) (covered-host r n) colour inside))
    (λ t. nothing r (after_rect (idle e)) m))

-- ---- by the number
idle-carried : (r : Regs) (e : Engine) (m : List ℕ) → number r ≡ 0 → Carried r [] m (step e m (Ok (tally 0 0)))
idle-carried r e m n = record { number = sym (row-nop r (length m) n); paints = λ _. nothing r e m }

unbuilt-carried : (r : Regs) (e : Engine) (m : List ℕ) → Unbuilt (number r) → Carried r [] m (step e m (Err NotBuilt))
unbuilt-carried r e m u = record {
  number = sym (row_other r (length m) u);
  paints = λ z. let four : ◌≡◌ {A = ℕ} 4 0 = sym (row_other r (length m) u) ∙ z in absurd (omega arith);
}

carried-carried : (old e : Engine) (m : List ℕ) → Carried (regs e) (carried_touches e m) m (carried old e m)
unfolding carried carrying carried_touches refusal
carried-carried old e m =
    by_tests
    (λ a b c d f g. Carried (regs e) (pick a b c d f g [] (copy_touches e) (stretch_touches e m) [] (fill_touches e) (draw_touches e) []) m
    (judging old e m
    (pick a b c d f g (idling e.bank e.blit m) (copying e.bank e.blit m) (stretching e.bank e.blit m) (opening e.bank m)
    (filling e.bank e.blit m) (lining e.bank e.blit m) (unbuilt e.bank e.blit m))))
    (number (regs e)) (idle-carried (regs e) e m) (copied-carried old e m) (stretched-carried old e m) (begun-carried old e m) (filled-carried old e m)
    (lined-carried old e m) (unbuilt-carried (regs e) old m)

launched-carried : (e : Engine) (m : List ℕ) (d : ℕ) → Carried (launching e d) (launched_touches e m d) m (launched e m d)
unfolding launched starting launching launched_touches stored_in stored put_reg refusal
launched-carried e m d =
    let to_source = stored_in e 0x5c d in
    let to_target = stored_in e 0x6c d in
    by_tests
    (λ a b c f g h. Carried (pick a b c f g h (regs e) (regs to_source) (regs to_source) (regs e) (regs to_target) (regs to_target) (regs e))
    (pick a b c f g h [] (copy_touches to_source) (stretch_touches to_source m) (cond (ltb e.blit.taken (words_of (feed_of (regs e)))) (word_touches e d) [])
    (fill_touches to_target) (draw_touches to_target) [])
    m
    (judging e e m
    (pick a b c f g h (idling e.bank e.blit m) (copying to_source.bank e.blit m) (stretching to_source.bank e.blit m) (feeding e.bank e.blit m d)
    (filling to_target.bank e.blit m) (lining to_target.bank e.blit m) (unbuilt e.bank e.blit m))))
    (number (regs e)) (idle-carried (regs e) e m) (copied-carried e to_source m) (stretched-carried e to_source m) (fed-carried e m d) (filled-carried e to_target m)
    (lined-carried e to_target m) (unbuilt-carried (regs e) e m)

-- its number is the verdict's
pub launched-number : (e : Engine) (m : List ℕ) (d : ℕ) → number_of (launched e m d).answer ≡ (starting e.bank e.blit m d).verdict
unfolding launched starting copy_verdict stretch_verdict host_verdict fill_verdict line_verdict refusal
launched-number e m d =
    let to_source = stored e.bank 0x5c d in
    let to_target = stored e.bank 0x6c d in
    let s = to_source.regs in
    let r = regs e in
    let t = to_target.regs in
    let len = length m in
    by_tests
    (λ a b c f g h. let started = pick a b c f g h (idling e.bank e.blit m) (copying to_source e.blit m) (stretching to_source e.blit m) (feeding e.bank e.blit m d)
    (filling to_target e.blit m) (lining to_target e.blit m) (unbuilt e.bank e.blit m) in
    number_of (judging e e m started).answer ≡ started.verdict)
    (number r) (λ _. refl) (λ _. first-number (not (both_fine s)) false (not (all_on (target s) len (covered (copy_cut s))) || copy_off s len) (copy_meets s len) e m _ refl)
    (λ _. first-number (not (both_fine s)) (stretch_fault s) (not (all_on (target s) len (covered (fill_cut s))) || stretch_off s len) (stretch_meets s len) e m _ refl)
    (λ _. first-number (not (host_fine r)) (host_fault r) (not (all_on (target r) len (covered (fill_cut r)))) false e m _ refl)
    (λ _. first-number (not (target_fine t)) false (not (all_on (target t) len (covered (fill_cut t)))) false e m _ refl)
    (λ _ _. first-number (not (target_fine t)) false (line_off (target t) len (clip_of t) (points (line_of t))) false e m _ refl) (λ _. refl)

-- ---- any write: `two` and `three` say whether rows 2 and 3 apply
abbrev pub PaintingOf : Option Regs → List Touch → List ℕ → Step → Type 0
PaintingOf none ts m s = (s.memory ≡ m) × (count_of s.answer ≡ 0) × (changed_of s.answer ≡ 0)
PaintingOf (some r) ts m s = Painting r ts m s

abbrev pub later_rows : Bool → Bool → Option Regs → ℕ → List Bool
later_rows two three r len = two ∷ three ∷ ordered r row4 ∷ ordered r row5 ∷ ordered r row6 ∷ ordered r (row7 len) ∷ ordered r row8 ∷ []

pub record Placed (two three : Bool) (r : Option Regs) (ts : List Touch) (m : List ℕ) (s : Step) : Type 0 where
  pub number : number_of s.answer ≡ first_of 2 (later_rows two three r (length m))
  pub paints : number_of s.answer ≡ 0 → PaintingOf r ts m s

-- one that has no command carried out
no-command : (e : Engine) (m : List ℕ) (ts : List Touch) → Placed false false none ts m (step e m (Ok (tally 0 0)))
unfolding first_of
no-command e m ts = record { number = refl; paints = λ _. (refl, refl, refl) }

held_up : (e : Engine) (m : List ℕ) (ts : List Touch) → Placed false true none ts m (step e m (Err Waiting))
unfolding first_of
held_up e m ts = record { number = refl; paints = λ _. (refl, refl, refl) }

one-command : {r : Regs} {ts : List Touch} {m : List ℕ} {s : Step} → Carried r ts m s → Placed false false (some r) ts m s
unfolding first_of
one-command c = record { number = c.number; paints = λ z. c.paints (sym c.number ∙ z) }

-- a write to a register: command, with bit 8 or without, or another, while a blit waits or not
register-placed : (waits command starts : Bool) {r : Regs} {ts : List Touch} {m : List ℕ} {s : Step} (e after next : Engine) → Carried r ts m s
    → Placed false (waits && not command) (cond (command && starts) (some r) none) (cond (command && starts) ts []) m
    (cond command (cond starts s (step after m (Ok (tally 0 0)))) (cond waits (step e m (Err Waiting)) (step next m (Ok (tally 0 0)))))
register-placed true true true {m = m} e after next c = one-command c
register-placed false true true {m = m} e after next c = one-command c
register-placed true true false {m = m} e after next c = no-command after m []
register-placed false true false {m = m} e after next c = no-command after m []
register-placed true false starts {m = m} e after next c = held_up e m []
register-placed false false starts {m = m} e after next c = no-command next m []

place-placed : (p : Place) (e : Engine) (m : List ℕ) (o d : ℕ) → Placed (row2 p) (row3 p e o) (order_at p e o d) (touches_at p e m o d) m (to_place p e m o d)
unfolding to_register to_pattern commanded first_of carried_touches
place-placed Register e m o d =
    let after = idle (stored_in e 0x70 d) in
    register-placed e.blit.waiting (eqb o 0x70) (bit d 8) e after (stored_in e o d) (carried-carried e after m)
place-placed (Pattern i) e m o d =
    let next = with_bank e (patterned e.bank i d) in
    by-test (λ t. Placed false t none [] m (cond t (step e m (Err Waiting)) (step next m (Ok (tally 0 0))))) e.blit.waiting (λ _. held_up e m []) (λ _. no-command next m [])
place-placed Launch e m o d = one-command (launched-carried e m d)
place-placed Nowhere e m o d = record { number = refl; paints = λ _. (refl, refl, refl) }

-- row 1 first
pub record Written (one : Bool) (later : List Bool) (r : Option Regs) (ts : List Touch) (m : List ℕ) (s : Step) : Type 0 where
  pub number : number_of s.answer ≡ first_of 1 (one ∷ later)
  pub paints : number_of s.answer ≡ 0 → PaintingOf r ts m s

memory-written : (big fits : Bool) {two three : Bool} {r : Option Regs} {ts : List Touch} {m : List ℕ} {s : Step} (e : Engine) → Placed two three r ts m s
    → Written (big || not fits) (later_rows two three r (length m)) r ts m (cond big (step e m (Err Memory)) (cond fits s (step e m (Err Memory))))
unfolding first_of
memory-written true fits e p = record { number = refl; paints = λ z. let one : ◌≡◌ {A = ℕ} 1 0 = z in absurd (omega arith) }
memory-written false true e p = record { number = p.number; paints = p.paints }
memory-written false false e p = record { number = refl; paints = λ z. let one : ◌≡◌ {A = ℕ} 1 0 = z in absurd (omega arith) }

pub write-written : (e : Engine) (m : List ℕ) (o d : ℕ)
    → Written (row1 e (length m)) (later_rows (row2 (place_of o)) (row3 (place_of o) e o) (order e o d) (length m)) (order e o d) (touches_of e m o d) m (written e m o d)
unfolding written
write-written e m o d = memory-written (ltb (2 ^ 24) (length m)) (eqb (length m) e.opened) e (place-placed (place_of o) e m o d)

-- A host blit that waits: a fresh engine is sound, every write keeps it so, and so every engine is; and the later words of a blit are taken.
-- Assumes nothing.
use mathlib.Core.Path.{◌≡◌, refl, sym, ap, subst, ◌∙◌}
use mathlib.Core.Bool.{Bool, true, false, not, ◌||◌, true≢false}
use mathlib.Core.List.{List, [], ◌∷◌}
use Prim.Native.Nat.{ℕ, ◌+◌, ◌^◌}
use native.Mathlib.Omega.{arith}
use lib.Dec.{eqb, ltb}
use lib.ListN.{length}
use borrow.Author.Tests.{eqb-true, eq-eqb, le-ltb, ltb-true}
use Rattle.registers.specs.declared.Regs.{Regs}
use Rattle.registers.specs.declared.Place.{Place}
use Rattle.registers.specs.declared.Place.TheVariants.{Register, Pattern, Launch, Nowhere}
use Rattle.bank.specs.Bank.{patterned}
use Rattle.registers.specs.Offsets.{place_of}
use Rattle.line.specs.Line.{point_count}
use Rattle.line.specs.Stipple.{style_after}
use Rattle.host.specs.Host.{words_of}
use Rattle.command.specs.Decode.{line_of, pen_of, feed_of}
use Rattle.cuts.specs.Cut.{bit, number}
use Rattle.table.specs.Table.{fill_verdict, copy_verdict, stretch_verdict, host_verdict, line_verdict}
use Rattle.acts.specs.declared.Blit.{Blit}
use Rattle.acts.specs.Deed.{no_blit, Made, Deed, carrying, starting}
use Rattle.engine.specs.declared.Engine.{Engine}
use Rattle.engine.specs.Step.{Step, making, judging, fresh_engine, with_bank, with_blit, regs, idle, stored_in, carried, launched, commanded, to_register, to_pattern, to_place, written}
use Rattle.engine.specs.Orders.{order_at, order}
use Rattle.engine.specs.Writes.{Lent, lent_to, by}
use Rattle.engine.specs.Promises.{row1, row2, row3, Sound, SoundFresh, SoundKept, SoundAlways, WordsTaken}
use Rattle.engine.proofs.Short.{after_rect, after_line, filled, copied, stretched, lined, begun, fed}
use Rattle.acts.proofs.Cases.{picked, by-number}
use Rattle.engine.proofs.Orders.{launch-host}
use Rattle.engine.proofs.Commands.{first_of, later_rows, command_row, row-host, write-written}

resting : (e : Engine) → e.blit ≡ no_blit → Sound e
resting e h = record { waits = λ w. absurd (true≢false (sym w ∙ ap (λ (b : Blit). b.waiting) h)); rests = λ r. h }

-- only a host blit waits
quiet : (e : Engine) → Sound e → (number (regs e) ≡ 3 → ⊥) → e.blit ≡ no_blit
quiet e s other = by e.blit.waiting refl
  where
    by : (t : Bool) → e.blit.waiting ≡ t → e.blit ≡ no_blit
    by true w = absurd (other (s.waits w).0)
    by false w = s.rests w

abbrev SoundAfter : Step → Type 0
SoundAfter s = Sound s.engine

abbrev SoundMade : Engine → Made → Type 0
SoundMade e k = Sound (making e k).engine

filled-sound : (old e : Engine) (m : List ℕ) → Sound old → e.blit ≡ no_blit → Sound (filled old e m).engine
filled-sound old e m s h = picked SoundAfter (eqb (fill_verdict (regs e) (length m)) 0) _ _ (λ _. resting (after_rect e) h) (λ _. s)

copied-sound : (old e : Engine) (m : List ℕ) → Sound old → e.blit ≡ no_blit → Sound (copied old e m).engine
copied-sound old e m s h = picked SoundAfter (eqb (copy_verdict (regs e) (length m)) 0) _ _ (λ _. resting (after_rect e) h) (λ _. s)

stretched-sound : (old e : Engine) (m : List ℕ) → Sound old → e.blit ≡ no_blit → Sound (stretched old e m).engine
stretched-sound old e m s h = picked SoundAfter (eqb (stretch_verdict (regs e) (length m)) 0) _ _ (λ _. resting (after_rect e) h) (λ _. s)

lined-sound : (old e : Engine) (m : List ℕ) → Sound old → e.blit ≡ no_blit → Sound (lined old e m).engine
lined-sound old e m s h =
    picked SoundAfter (eqb (line_verdict (regs e) (length m)) 0) _ _
    (λ _. resting (after_line e (style_after (pen_of (regs e)) (point_count (line_of (regs e))) (regs e).line_style)) h) (λ _. s)

-- a blit that has taken n words and needs more
waiting-sound : (e : Engine) (len n last : ℕ) → number (regs e) ≡ 3 → len ≡ e.opened → eqb (host_verdict (regs e) len) 0 ≡ true → ltb n (words_of (feed_of (regs e))) ≡ true
    → Sound (with_blit e (record { waiting = true; taken = n; last = last }))
waiting-sound e len n last three fits fine more = record {
  waits = λ _. (three, (ap (host_verdict (regs e)) (sym fits) ∙ eqb-true (host_verdict (regs e) len) 0 fine, ltb-true n (words_of (feed_of (regs e))) more));
  rests = λ r. absurd (true≢false r);
}

begun-sound : (old e : Engine) (m : List ℕ) → Sound old → number (regs e) ≡ 3 → length m ≡ e.opened → Sound (begun old e m).engine
begun-sound old e m s three fits =
    picked SoundAfter (eqb (host_verdict (regs e) (length m)) 0) _ _
    (λ fine. picked (SoundMade e) (ltb 0 (words_of (feed_of (regs e)))) _ _ (λ more. waiting-sound e (length m) 0 0 three fits fine more) (λ _. resting (after_rect (idle e)) refl))
    (λ _. s)

fed-sound : (e : Engine) (m : List ℕ) (d : ℕ) → Sound e → number (regs e) ≡ 3 → length m ≡ e.opened → Sound (fed e m d).engine
fed-sound e m d s three fits =
    picked SoundAfter (eqb (host_verdict (regs e) (length m)) 0) _ _
    (λ fine. picked (SoundMade e) (ltb e.blit.taken (words_of (feed_of (regs e)))) _ _
    (λ _. picked (SoundMade e) (ltb (e.blit.taken + 1) (words_of (feed_of (regs e)))) _ _
    (λ more. waiting-sound e (length m) (e.blit.taken + 1) d three fits fine more) (λ _. resting (after_rect (idle e)) refl))
    (λ _. resting (after_rect (idle e)) refl))
    (λ _. s)

carried-sound : (old e : Engine) (m : List ℕ) → Sound old → e.blit ≡ no_blit → length m ≡ e.opened → Sound (carried old e m).engine
unfolding carried carrying
carried-sound old e m s h fits =
    by-number (λ (d : Deed). SoundAfter (judging old e m d)) (number (regs e)) _ _ _ _ _ _ _ (λ _. resting e h) (λ _. copied-sound old e m s h)
    (λ _. stretched-sound old e m s h) (λ three. begun-sound old e m s three fits)
    (λ _. filled-sound old e m s h) (λ _ _. lined-sound old e m s h) (λ _. s)

launched-sound : (e : Engine) (m : List ℕ) (d : ℕ) → Sound e → length m ≡ e.opened → Sound (launched e m d).engine
unfolding launched starting stored_in
launched-sound e m d s fits =
    by-number (λ (k : Deed). SoundAfter (judging e e m k)) (number (regs e)) _ _ _ _ _ _ _ (λ _. s)
    (λ n. copied-sound e (stored_in e 0x5c d) m s (quiet e s (λ q. omega arith)))
    (λ n. stretched-sound e (stored_in e 0x5c d) m s (quiet e s (λ q. omega arith)))
    (λ three. fed-sound e m d s three fits)
    (λ n. filled-sound e (stored_in e 0x6c d) m s (quiet e s (λ q. omega arith)))
    (λ low high. lined-sound e (stored_in e 0x6c d) m s (quiet e s (λ q. omega arith))) (λ _. s)

place-sound : (p : Place) (e : Engine) (m : List ℕ) (o d : ℕ) → Sound e → length m ≡ e.opened → Sound (to_place p e m o d).engine
unfolding to_register to_pattern commanded stored_in
place-sound Register e m o d s fits =
    picked SoundAfter (eqb o 0x70) _ _
    (λ _. picked SoundAfter (bit d 8) _ _ (λ _. carried-sound e (idle (stored_in e 0x70 d)) m s refl fits) (λ _. resting (idle (stored_in e 0x70 d)) refl))
    (λ _. picked SoundAfter e.blit.waiting _ _ (λ _. s) (λ r. resting (stored_in e o d) (s.rests r)))
place-sound (Pattern i) e m o d s fits = picked SoundAfter e.blit.waiting _ _ (λ _. s) (λ r. resting (with_bank e (patterned e.bank i d)) (s.rests r))
place-sound Launch e m o d s fits = launched-sound e m d s fits
place-sound Nowhere e m o d s fits = s

pub sound-fresh : SoundFresh
unfolding fresh_engine
sound-fresh len = resting (fresh_engine len) refl

pub sound-kept : SoundKept
unfolding written
sound-kept e m o d s =
    picked SoundAfter (ltb (2 ^ 24) (length m)) _ _ (λ _. s)
    (λ _. picked SoundAfter (eqb (length m) e.opened) _ _ (λ fits. place-sound (place_of o) e m o d s (eqb-true (length m) e.opened fits)) (λ _. s))

still-sound : (e : Engine) (ws : List Lent) → Sound e → Sound (lent_to e ws)
unfolding lent_to
still-sound e [] s = s
still-sound e (w ∷ ws) s = still-sound (by e w.memory w.write).engine ws (sound-kept e w.memory w.write.offset w.write.word s)

pub sound-always : SoundAlways
sound-always len ws = still-sound (fresh_engine len) ws (sound-fresh len)

-- a launch write of a host blit that has passed the table
first-host : (e : Engine) (o d len : ℕ) → number (regs e) ≡ 3 → host_verdict (regs e) len ≡ 0
    → first_of 2 (later_rows (row2 Launch) (row3 Launch e o) (order_at Launch e o d) len) ≡ 0
unfolding first_of
first-host e o d len n v = ap (λ (r : Regs). command_row r len) (launch-host e d n) ∙ row-host (regs e) len n ∙ v

no-row1 : (big fit : Bool) → big ≡ false → fit ≡ true → (big || not fit) ≡ false
no-row1 true fit b f = b
no-row1 false true b f = refl
no-row1 false false b f = sym f

first-later : (t : Bool) (rows : List Bool) → t ≡ false → first_of 1 (t ∷ rows) ≡ first_of 2 rows
unfolding first_of
first-later true rows e = absurd (true≢false e)
first-later false rows e = refl

pub words-taken : WordsTaken
words-taken e m o d s w place limit fits =
    let three = (s.waits w).0 in
    let passed : host_verdict (regs e) (length m) ≡ 0 = ap (host_verdict (regs e)) fits ∙ (s.waits w).1.0 in
    (write-written e m o d).number
    ∙ first-later (row1 e (length m)) (later_rows (row2 (place_of o)) (row3 (place_of o) e o) (order e o d) (length m))
    (no-row1 (ltb (2 ^ 24) (length m)) (eqb (length m) e.opened) (le-ltb (2 ^ 24) (length m) limit) (eq-eqb (length m) e.opened fits))
    ∙ subst (λ (p : Place). first_of 2 (later_rows (row2 p) (row3 p e o) (order_at p e o d) (length m)) ≡ 0) (sym place) (first-host e o d (length m) three passed)

-- The host blit that waits after a write, where every command started is in the frame: it is in the frame too; and the engine stays opened for its memory.
-- Assumes nothing.
use mathlib.Core.Path.{◌≡◌, refl, sym, ap₂, ◌∙◌}
use mathlib.Core.Bool.{true, false, cond, ◌&&◌, false≢true}
use mathlib.Core.List.{List}
use mathlib.Core.Option.{none, some}
use Prim.Native.Nat.{ℕ, ◌+◌, ◌^◌}
use native.Mathlib.Omega.{arith}
use lib.Dec.{eqb, ltb}
use lib.ListN.{length}
use Rattle.line.specs.Line.{point_count}
use Rattle.line.specs.Stipple.{style_after}
use Rattle.host.specs.Host.{words_of}
use Rattle.registers.specs.declared.Regs.{Regs}
use Rattle.registers.specs.declared.Place.{Place}
use Rattle.registers.specs.declared.Place.TheVariants.{Register, Pattern, Launch, Nowhere}
use Rattle.registers.specs.Offsets.{place_of}
use Rattle.bank.specs.Bank.{patterned}
use Rattle.command.specs.Decode.{line_of, pen_of, feed_of}
use Rattle.cuts.specs.Cut.{bit, number}
use Rattle.table.specs.Table.{fill_verdict, copy_verdict, stretch_verdict, host_verdict, line_verdict}
use Rattle.acts.specs.Deed.{Made, Deed, carrying, starting}
use Rattle.engine.specs.declared.Engine.{Engine}
use Rattle.engine.specs.Step.{Answer, Step, step, making, judging, number_of, regs, idle, with_bank, with_blit, stored_in, carried, launched, commanded, to_register, to_pattern, to_place, written}
use Rattle.engine.specs.Writes.{Write, by, start_at, starts}
use Rattle.engine.proofs.Short.{after_rect, after_line, filled, copied, stretched, lined, begun, fed}
use Rattle.acts.proofs.Cases.{by-test, picked, by-number}
use Rattle.engine.proofs.Orders.{launch-host}
use Rattle.restore.specs.Rectangles.{Rectangle}
use Rattle.restore.specs.Restore.{Framed}

-- a blit that waits is a host blit in the frame
abbrev pub Held : Rectangle → Engine → Type 0
Held t e = e.blit.waiting ≡ true → (number (regs e) ≡ 3) × Framed t (regs e)

pub record Next (t : Rectangle) (e : Engine) (s : Step) : Type 0 where
  pub opened : s.engine.opened ≡ e.opened
  pub held : Held t s.engine

-- the command of r, where it is taken and no nop, is in the frame
abbrev pub Asked : Rectangle → Regs → Step → Type 0
Asked t r s = number_of s.answer ≡ 0 → (number r ≡ 0 → ⊥) → Framed t r

abbrev pub AskedAt : Rectangle → Engine → Write → Place → Step → Type 0
AskedAt t e w q s = (r : Regs) → start_at q e w ≡ some r → Asked t r s

pub not-waiting : {t : Rectangle} (e : Engine) → e.blit.waiting ≡ false → Held t e
not-waiting e rests w = absurd (false≢true (sym rests ∙ w))

goes : {t : Rectangle} (old e : Engine) {m : List ℕ} {a : Answer} → e.opened ≡ old.opened → Held t e → Next t old (step e m a)
goes old e o h = record { opened = o; held = h }

-- ---- the commands, from an engine with no blit waiting
module _ {t : Rectangle} (old e : Engine) (m : List ℕ) (o : e.opened ≡ old.opened) (before : Held t old) (rests : e.blit.waiting ≡ false) where
  abbrev r : Regs
  r = regs e

  filled_next : Next t old (filled old e m)
  filled_next = picked (Next t old) (eqb (fill_verdict r (length m)) 0) _ _ (λ _. goes old (after_rect e) o (not-waiting (after_rect e) rests)) (λ _. goes old old refl before)

  copied_next : Next t old (copied old e m)
  copied_next = picked (Next t old) (eqb (copy_verdict r (length m)) 0) _ _ (λ _. goes old (after_rect e) o (not-waiting (after_rect e) rests)) (λ _. goes old old refl before)

  stretched-next : Next t old (stretched old e m)
  stretched-next =
      picked (Next t old) (eqb (stretch_verdict r (length m)) 0) _ _ (λ _. goes old (after_rect e) o (not-waiting (after_rect e) rests)) (λ _. goes old old refl before)

  lined-next : Next t old (lined old e m)
  lined-next =
      let after = after_line e (style_after (pen_of r) (point_count (line_of r)) r.line_style) in
      picked (Next t old) (eqb (line_verdict r (length m)) 0) _ _ (λ _. goes old after o (not-waiting after rests)) (λ _. goes old old refl before)

  begun-next : number r ≡ 3 → Asked t r (begun old e m) → Next t old (begun old e m)
  begun-next host =
      picked (λ (s : Step). Asked t r s → Next t old s) (eqb (host_verdict r (length m)) 0) _ _
      (λ _. picked (λ (k : Made). Asked t r (making e k) → Next t old (making e k)) (ltb 0 (words_of (feed_of r))) _ _
      (λ _ asked. goes old (with_blit e (record { waiting = true; taken = 0; last = 0 })) o (λ w. (host, asked refl (λ z. omega arith))))
      (λ _ asked. goes old (after_rect (idle e)) o (not-waiting (after_rect (idle e)) refl)))
      (λ _ asked. goes old old refl before)

  pub carried-next : Asked t r (carried old e m) → Next t old (carried old e m)
  unfolding carried carrying
  carried-next =
      by-number (λ (d : Deed). Asked t r (judging old e m d) → Next t old (judging old e m d)) (number r) _ _ _ _ _ _ _ (λ _ _. goes old e o (not-waiting e rests)) (λ _ _. copied_next)
      (λ _ _. stretched-next) begun-next (λ _ _. filled_next) (λ _ _ _. lined-next) (λ _ _. goes old old refl before)

-- ---- a launch write
module _ {t : Rectangle} (e : Engine) (m : List ℕ) (d : ℕ) (held : Held t e) where
  fed-next : number (regs e) ≡ 3 → (number_of (fed e m d).answer ≡ 0 → Framed t (regs e)) → Next t e (fed e m d)
  fed-next host =
      let P : Step → Type 0 = (λ s. (number_of s.answer ≡ 0 → Framed t (regs e)) → Next t e s) in
      let last = after_rect (idle e) in
      let next = with_blit e (record { waiting = true; taken = e.blit.taken + 1; last = d }) in
      picked P (eqb (host_verdict (regs e) (length m)) 0) _ _
      (λ _. picked (λ (k : Made). P (making e k)) (ltb e.blit.taken (words_of (feed_of (regs e)))) _ _
      (λ _. picked (λ (k : Made). P (making e k)) (ltb (e.blit.taken + 1) (words_of (feed_of (regs e)))) _ _ (λ _ framed. goes e next refl (λ _. (host, framed refl)))
      (λ _ framed. goes e last refl (not-waiting last refl)))
      (λ _ framed. goes e last refl (not-waiting last refl)))
      (λ _ framed. goes e e refl held)

  -- only a host blit waits
  no-host : (number (regs e) ≡ 3 → ⊥) → e.blit.waiting ≡ false
  no-host n = by-test (λ b. (b ≡ true → number (regs e) ≡ 3) → b ≡ false) e.blit.waiting (λ _ h. absurd (n (h refl))) (λ _ h. refl) (λ w. (held w).0)

  launched-next : (number_of (launched e m d).answer ≡ 0 → number (regs e) ≡ 3 → Framed t (regs e)) → Next t e (launched e m d)
  unfolding launched starting stored_in
  launched-next =
      let P : Step → Type 0 = (λ s. (number_of s.answer ≡ 0 → number (regs e) ≡ 3 → Framed t (regs e)) → Next t e s) in
      by-number (λ (k : Deed). P (judging e e m k)) (number (regs e)) _ _ _ _ _ _ _ (λ _ _. goes e e refl held)
      (λ n _. copied_next e (stored_in e 0x5c d) m refl held (no-host (λ z. omega arith)))
      (λ n _. stretched-next e (stored_in e 0x5c d) m refl held (no-host (λ z. omega arith)))
      (λ n asked. fed-next n (λ z. asked z n))
      (λ n _. filled_next e (stored_in e 0x6c d) m refl held (no-host (λ z. omega arith)))
      (λ low high _. lined-next e (stored_in e 0x6c d) m refl held (no-host (λ z. omega arith)))
      (λ _ _. goes e e refl held)

-- ---- any write
module _ {t : Rectangle} (e : Engine) (m : List ℕ) (w : Write) (held : Held t e) where
  -- a word of data has the registers of the blit that waits, or of the one that it starts
  pub word-framed : (s : Step) → AskedAt t e w Launch s → number_of s.answer ≡ 0 → number (regs e) ≡ 3 → Framed t (regs e)
  word-framed s asked z three =
      by-test (λ b. e.blit.waiting ≡ b → Framed t (regs e)) e.blit.waiting
      (λ _ b. (held b).1)
      (λ _ b. asked (regs e) (ap₂ (λ u (r : Regs). cond u none (some r)) b (launch-host e w.word three)) z (λ n. omega arith)) refl

  place-next : (q : Place) → AskedAt t e w q (to_place q e m w.offset w.word) → Next t e (to_place q e m w.offset w.word)
  unfolding to_register to_pattern commanded stored_in
  place-next Register =
      let after = idle (stored_in e 0x70 w.word) in
      let P : Step → Type 0 = (λ s. AskedAt t e w Register s → Next t e s) in
      picked P (eqb w.offset 0x70) _ _
      (λ o. picked P (bit w.word 8) _ _
      (λ b asked. carried-next e after m refl held refl (asked (regs after) (ap₂ (λ u v. cond (u && v) (some (regs after)) none) o b)))
      (λ b asked. goes e after refl (not-waiting after refl)))
      (λ o asked. picked (Next t e) e.blit.waiting _ _ (λ _. goes e e refl held)
      (λ b. let after = stored_in e w.offset w.word in goes e after refl (not-waiting after b)))
  place-next (Pattern i) = λ asked.
      picked (Next t e) e.blit.waiting _ _ (λ _. goes e e refl held)
      (λ b. let after = with_bank e (patterned e.bank i w.word) in goes e after refl (not-waiting after b))
  place-next Launch = λ asked. launched-next e m w.word held (word-framed (launched e m w.word) asked)
  place-next Nowhere = λ asked. goes e e refl held

  pub write-next : ((r : Regs) → starts e w ≡ some r → Asked t r (by e m w)) → Next t e (by e m w)
  unfolding written
  write-next =
      let P : Step → Type 0 = (λ s. AskedAt t e w (place_of w.offset) s → Next t e s) in
      picked P (ltb (2 ^ 24) (length m)) _ _ (λ _ _. goes e e refl held)
      (λ _. picked P (eqb (length m) e.opened) _ _ (λ _. place-next (place_of w.offset)) (λ _ _. goes e e refl held))

-- A write that has a plain copy carried out: it is answered 0 with the count of the whole rectangle, and the rectangle's bytes have come across.
-- Assumes nothing.
use mathlib.Core.Path.{◌≡◌, refl, sym, ap, subst, subst⁻¹, ◌∙◌}
use mathlib.Core.Bool.{true, false, cond, ◌&&◌, false≢true}
use mathlib.Core.List.{List}
use mathlib.Core.Option.{Option, some}
use Prim.Native.Nat.{ℕ, ◌*◌, ◌^◌, ◌≤◌}
use native.Mathlib.Omega.{arith}
use lib.Dec.{eqb}
use lib.ListN.{length}
use borrow.Author.Tests.{eqb-true, eq-eqb, ne_eqb, le-ltb}
use Rattle.surface.specs.declared.Surface.{Surface}
use Rattle.surface.specs.Place.{byte_of}
use Rattle.surface.proofs.OnLaws.{and_left, and_right}
use Rattle.surface.proofs.Lists.{In}
use Rattle.surface.proofs.Rects.{in-rect}
use Rattle.formats.proofs.FormatLaws.{target-colour}
use Rattle.spans.proofs.Spans.{IsByte}
use Rattle.paint.specs.Paint.{State, state}
use Rattle.paint.proofs.Owners.{byte-of}
use Rattle.sweep.specs.Copy.{as_before}
use Rattle.paint.proofs.Frame.{Bytes, paint_bytes}
use Rattle.registers.specs.declared.Regs.{Regs}
use Rattle.registers.specs.declared.Place.{Place}
use Rattle.registers.specs.declared.Place.TheVariants.{Register, Pattern, Launch, Nowhere}
use Rattle.registers.specs.Offsets.{place_of}
use Rattle.command.specs.Decode.{target, copy_task}
use Rattle.cuts.specs.declared.Cut.{Cut}
use Rattle.cuts.specs.Cut.{bit, number, width, height, copy_cut, covered, needed}
use Rattle.cuts.proofs.CutLaws.{needed-rect}
use Rattle.table.specs.Table.{target_fine, pixels, copy_verdict}
use Rattle.acts.specs.Deed.{starting}
use Rattle.acts.proofs.Numbers.{carry-copy}
use Rattle.engine.specs.declared.Engine.{Engine}
use Rattle.std.specs.Prelude.{Ok, Err}
use Rattle.paint.specs.Tally.{tally}
use Rattle.engine.specs.declared.Refusal.TheVariants.{Waiting}
use Rattle.engine.specs.Step.{Step, step, judging, number_of, count_of, regs, idle, stored_in, carried, launched, commanded, to_register, to_place, written}
use Rattle.engine.specs.Orders.{launching, order_at, order}
use Rattle.engine.specs.Writes.{Write, by, start_at, starts}
use Rattle.engine.specs.Promises.{Copies, SharesNone}
use Rattle.engine.proofs.Short.{copied}
use Rattle.restore.specs.Rectangles.{source_rect, target_rect, Apart}
use Rattle.restore.specs.Restore.{Plain}
use Rattle.acts.proofs.Cases.{picked}
use Rattle.engine.proofs.Orders.{launch-number, launch-copy, the_same, nothing-ordered}
use Rattle.engine.proofs.Order.{copies-as-before}
use Rattle.restore.proofs.Areas.{pixels-rect}
use Rattle.restore.proofs.Copies.{Came, full, by_size, whole, none_left, taken, plain_copied}
use Rattle.restore.proofs.Back.{in-of, no_byte}

-- the write's outcome is that of the copy, with the registers r
pub record Issued (e : Engine) (m : List ℕ) (r : Regs) (s : Step) : Type 0 where
  pub next : Engine
  pub holds : regs next ≡ r
  pub carries : s ≡ copied e next m
  pub opened : next.opened ≡ e.opened
  pub rests : next.blit.waiting ≡ false

carried-copy : (old e : Engine) (m : List ℕ) → number (regs e) ≡ 1 → carried old e m ≡ copied old e m
unfolding carried
carried-copy old e m n = ap (judging old e m) (carry-copy e.bank e.blit m n)

launched-copy : (e : Engine) (m : List ℕ) (d : ℕ) → number (regs e) ≡ 1 → launched e m d ≡ copied e (stored_in e 0x5c d) m
unfolding launched starting stored_in
launched-copy e m d n = rw (ne_eqb (number (regs e)) 0 (λ z. omega arith), eq-eqb (number (regs e)) 1 n)

module _ (e : Engine) (m : List ℕ) (w : Write) (r : Regs) (copy : number r ≡ 1) where
  commanded-issues : w.offset ≡ 0x70 → bit w.word 8 ≡ true → regs (stored_in e 0x70 w.word) ≡ r → Issued e m r (to_register e m w.offset w.word)
  unfolding to_register commanded stored_in
  commanded-issues o b h =
      let after = idle (stored_in e 0x70 w.word) in
      record {
        next = after;
        holds = h;
        carries =
            ap (λ t. cond t (commanded e m w.word) (cond e.blit.waiting (step e m (Err Waiting)) (step (stored_in e w.offset w.word) m (Ok (tally 0 0))))) (eq-eqb w.offset 0x70 o)
            ∙ ap (λ t. cond t (carried e after m) (step after m (Ok (tally 0 0)))) b
            ∙ carried-copy e after m (ap (λ (k : Regs). number k) h ∙ copy);
        opened = refl;
        rests = refl;
      }

  launched-issues : e.blit.waiting ≡ false → launching e w.word ≡ r → Issued e m r (launched e m w.word)
  unfolding stored_in
  launched-issues rests h =
      let one : number (regs e) ≡ 1 = sym (launch-number e w.word) ∙ ap (λ (q : Regs). number q) h ∙ copy in
      record {
        next = stored_in e 0x5c w.word;
        holds = sym (launch-copy e w.word one) ∙ h;
        carries = launched-copy e m w.word one;
        opened = refl;
        rests = rests;
      }

  place-issues : (q : Place) → start_at q e w ≡ some r → Issued e m r (to_place q e m w.offset w.word)
  place-issues Register =
      picked (λ (o : Option Regs). o ≡ some r → Issued e m r (to_register e m w.offset w.word)) (eqb w.offset 0x70 && bit w.word 8) _ _
      (λ t h. commanded-issues (eqb-true w.offset 0x70 (and_left (eqb w.offset 0x70) (bit w.word 8) t)) (and_right (eqb w.offset 0x70) (bit w.word 8) t)
      (the_same _ r h))
      (λ t. nothing-ordered r)
  place-issues (Pattern i) = nothing-ordered r
  place-issues Launch =
      picked (λ (o : Option Regs). o ≡ some r → Issued e m r (launched e m w.word)) e.blit.waiting _ _
      (λ t. nothing-ordered r)
      (λ t h. launched-issues t (the_same _ r h))
  place-issues Nowhere = nothing-ordered r

  pub issues : length m ≤ 2 ^ 24 → length m ≡ e.opened → starts e w ≡ some r → Issued e m r (by e m w)
  unfolding written
  issues limit opened h =
      let k = place-issues (place_of w.offset) h in
      record {
        next = k.next;
        holds = k.holds;
        carries = rw (le-ltb (2 ^ 24) (length m) limit, eq-eqb (length m) e.opened opened) k.carries;
        opened = k.opened;
        rests = k.rests;
      }

-- the command that a write starts is one that it has carried out
starts-order : (e : Engine) (w : Write) (r : Regs) → starts e w ≡ some r → order e w.offset w.word ≡ some r
starts-order e w r = by_place (place_of w.offset)
  where
    by_place : (q : Place) → start_at q e w ≡ some r → order_at q e w.offset w.word ≡ some r
    by_place Register = λ h. h
    by_place (Pattern i) = nothing-ordered r
    by_place Launch =
        picked (λ (o : Option Regs). o ≡ some r → order_at Launch e w.offset w.word ≡ some r) e.blit.waiting _ _ (λ t. nothing-ordered r) (λ t h. h)
    by_place Nowhere = nothing-ordered r

-- ---- a plain copy that a write has carried out
pub record Made (e : Engine) (m : List ℕ) (r : Regs) (s : Step) : Type 0 where
  pub number : number_of s.answer ≡ 0
  pub count : count_of s.answer ≡ height r * width r
  pub came : Came (source_rect r) (target_rect r) m s.memory
  pub bytes : Bytes s.memory
  pub opened : s.engine.opened ≡ e.opened
  pub rests : s.engine.blit.waiting ≡ false

-- a copy that no row refuses is answered 0, and leaves no host blit
record Kept (e : Engine) (s : Step) : Type 0 where
  taken : number_of s.answer ≡ 0
  opened : s.engine.opened ≡ e.opened
  rests : s.engine.blit.waiting ≡ false

copied-kept : (e next : Engine) (m : List ℕ) → next.opened ≡ e.opened → next.blit.waiting ≡ false → copy_verdict (regs next) (length m) ≡ 0 → Kept e (copied e next m)
copied-kept e next m o rests fine =
    picked (Kept e) (eqb (copy_verdict (regs next) (length m)) 0) _ _
    (λ v. record { taken = refl; opened = o; rests = rests })
    (λ v. absurd (false≢true (sym v ∙ eq-eqb (copy_verdict (regs next) (length m)) 0 fine)))

-- it shares no pixel with its source
shares-none : (len : ℕ) (r : Regs) → Plain len r → Apart (target_rect r) (source_rect r) → SharesNone r
shares-none len r plain apart same p i j =
    let c = copy_cut r in
    let colour = target-colour r.dst_base_addr r.dst_format (and_left (target_fine r) _ plain.fine) in
    let b = byte-of (target r) colour.some p 0 colour.some in
    by_size len r plain
    (λ w h. no_byte (target_rect r) (source_rect r) len plain.target_on plain.source_on colour.some apart p p (byte_of (target r) p.x p.y 0)
    (in-of (target_rect r) len plain.target_on p (subst (λ (c : Cut). In p (covered c)) (whole len r plain w h) i))
    (in-of (source_rect r) len plain.source_on p
    (subst (In p) (ap (λ (c : Cut). pixels (needed c)) (whole len r plain w h) ∙ ap pixels (needed-rect (full r)) ∙ pixels-rect (source_rect r) len plain.source_on w h) j))
    b (subst (λ (s : Surface). IsByte s p (byte_of (target r) p.x p.y 0)) same b))
    (λ none. let k = in-rect false false c.x c.y c.w c.h p i in none_left len r plain none (omega arith) (omega arith))

-- so it leaves what it would if each pixel took its source as it was
pub write-made : (e : Engine) (m : List ℕ) (w : Write) (r : Regs) → length m ≤ 2 ^ 24 → length m ≡ e.opened → Bytes m → starts e w ≡ some r
    → Plain (length m) r → Apart (target_rect r) (source_rect r) → Made e m r (by e m w)
write-made e m w r limit opened bytes h plain apart =
    let k = issues e m w r plain.copy limit opened h in
    let fine = subst⁻¹ (λ (q : Regs). copy_verdict q (length m) ≡ 0) k.holds (taken (length m) r plain apart) in
    let kept = subst⁻¹ (Kept e) k.carries (copied-kept e k.next m k.opened k.rests fine) in
    let copies : Copies e m w.offset w.word r = record { carries = starts-order e w r h; copy = plain.copy; taken = kept.taken } in
    let left = copies-as-before e m w.offset w.word r copies (shares-none (length m) r plain apart) in
    let c = plain_copied m r plain e.bank.pattern bytes apart in
    record {
      number = kept.taken;
      count = ap (λ (st : State). st.tally.count) left ∙ c.count;
      came = subst⁻¹ (λ (st : State). Came (source_rect r) (target_rect r) m st.mem) left c.came;
      bytes = subst⁻¹ (λ (st : State). Bytes st.mem) left (paint_bytes (target r) (as_before (copy_task r) e.bank.pattern m (covered (copy_cut r))) (state m 0 0) bytes);
      opened = kept.opened;
      rests = kept.rests;
    }

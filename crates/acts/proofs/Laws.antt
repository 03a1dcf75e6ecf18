-- How a function's outcome is the definition's: a refusal, a command carried out, and the painters' conditions from the verdict.
-- Assumes nothing.
use mathlib.Core.Path.{◌≡◌, refl, sym, ap, ap₂, subst⁻¹, ◌∙◌}
use mathlib.Core.Bool.{Bool, true, false}
use mathlib.Core.List.{List, []}
use Prim.Native.Nat.{ℕ, ◌<◌}
use native.Mathlib.Omega.{arith}
use borrow.Author.Tests.{ne_eqb}
use Rattle.sweep.specs.declared.Task.{Task}
use Rattle.ink.specs.declared.Ink.{Ink}
use Rattle.paint.specs.declared.Clip.{Clip}
use Rattle.paint.specs.Paint.{State, state, paint}
use Rattle.sweep.specs.Asked.{CanPaint, Orderly}
use Rattle.scale.specs.declared.Stretch.{Stretch}
use Rattle.scale.specs.Asked.{CanStretch}
use Rattle.line.specs.declared.Line.{Line}
use Rattle.line.specs.Asked.{Drawable}
use Rattle.host.specs.declared.Feed.{Feed}
use Rattle.bits.specs.declared.Plain.{Plain}
use Rattle.host.specs.Host.{words_of, Pixel}
use Rattle.host.specs.Asked.{Opened}
use Rattle.host.specs.Draw.{host_touches, drawn}
use Rattle.plain.specs.Plain.{plain_ink}
use Rattle.plain.proofs.PlainLaws.{plainly-drawn, plainly-opened}
use Rattle.registers.specs.declared.Regs.{Regs}
use Rattle.bank.specs.declared.Bank.{Bank}
use Rattle.cuts.specs.declared.Cut.{Cut}
use Rattle.command.specs.Decode.{target, ink_of, plain_blit, plain_of, fill_task, copy_task, stretch_of, line_of, feed_of}
use Rattle.cuts.specs.Cut.{clip_of, fill_cut, copy_cut}
use Rattle.table.specs.Table.{fill_verdict, copy_verdict, stretch_verdict, line_verdict, host_verdict}
use Rattle.std.specs.Prelude.{Err}
use Rattle.table.specs.declared.Fault.{Fault}
use Rattle.table.specs.declared.Fault.TheVariants.{NotBuilt, Format, Host, Off, Meet}
use Rattle.table.specs.Fault.{fault_number}
use Rattle.table.proofs.Stretches.{stretch-can}
use Rattle.table.proofs.Verdicts.{fill-can, copy-can, copy-orderly, line-can, host-can, feed-sizes, plain-ink}
use Rattle.acts.specs.declared.Blit.{Blit}
use Rattle.acts.specs.Deed.{Made, Deed, deed, judged}

-- ---- a verdict, and what follows from it
pub fault-some : (f : Fault) → fault_number f ≡ 0 → ⊥
fault-some NotBuilt e = omega arith
fault-some Format e = omega arith
fault-some Host e = omega arith
fault-some Off e = omega arith
fault-some Meet e = omega arith

module _ (d : Deed) (b : Bank) (k : Blit) (m : List ℕ) where
  pub judged-no : (f : Fault) → fault_number f ≡ d.verdict → deed b k (Err f) m ≡ judged d b k m
  unfolding judged
  judged-no f e = rw (← e, ne_eqb (fault_number f) 0 (fault-some f))

  pub judged-yes : (x : Made) → 0 ≡ d.verdict → x ≡ d.makes → record { verdict = 0; makes = x } ≡ judged d b k m
  unfolding judged
  judged-yes x e h = rw (← e, h)

-- ---- rectangles
abbrev CanFill : Task → Cut → ℕ → Type 0
CanFill t c len = CanPaint t c.w c.h len × (t.copies ≡ false)

pub fill-ready : (r : Regs) (len : ℕ) {t : Task} {c : Cut} → t ≡ fill_task r → c ≡ fill_cut r → 0 ≡ fill_verdict r len → CanFill t c len
unfolding fill_task
fill-ready r len {t} {c} e f g = subst⁻¹ (λ (t : Task). CanFill t c len) e (subst⁻¹ (λ (c : Cut). CanFill (fill_task r) c len) f (fill-can r len (sym g), refl))

abbrev CanCopy : Task → Cut → ℕ → Type 0
CanCopy t c len = CanPaint t c.w c.h len × ((t.copies ≡ true) × Orderly t c.w c.h)

pub copy-ready : (r : Regs) (len : ℕ) {t : Task} {c : Cut} → t ≡ copy_task r → c ≡ copy_cut r → 0 ≡ copy_verdict r len → CanCopy t c len
unfolding copy_task
copy-ready r len {t} {c} e f g =
    subst⁻¹ (λ (t : Task). CanCopy t c len) e
    (subst⁻¹ (λ (c : Cut). CanCopy (copy_task r) c len) f (copy-can r len (sym g), (refl, copy-orderly r len (sym g))))

-- ---- stretches
pub stretch-ready : (r : Regs) (len : ℕ) {t : Stretch} {c : Cut} → t ≡ stretch_of r → c ≡ fill_cut r → 0 ≡ stretch_verdict r len
    → CanStretch t c.x c.y c.w c.h len
stretch-ready r len {t} {c} e f g =
    subst⁻¹ (λ (t : Stretch). CanStretch t c.x c.y c.w c.h len) e
    (subst⁻¹ (λ (c : Cut). CanStretch (stretch_of r) c.x c.y c.w c.h len) f (stretch-can r len (sym g)))

-- ---- lines
pub line-ready : (r : Regs) (len : ℕ) {i : Ink} {c : Clip} {l : Line} → i ≡ ink_of r → c ≡ clip_of r → l ≡ line_of r → 0 ≡ line_verdict r len
    → Drawable i.target len c l
unfolding ink_of
line-ready r len {i} {c} {l} e f g h =
    subst⁻¹ (λ (i : Ink). Drawable i.target len c l) e
    (subst⁻¹ (λ (c : Clip). Drawable (target r) len c l) f (subst⁻¹ (λ (l : Line). Drawable (target r) len (clip_of r) l) g (line-can r len (sym h))))

-- ---- host blits
module _ (r : Regs) (len : ℕ) {c : Clip} {f : Feed} (q : c ≡ clip_of r) (e : f ≡ feed_of r) (fine : host_verdict r len ≡ 0) (some : 0 < words_of (feed_of r)) where
  pub ink-opened : {i : Ink} → i ≡ ink_of r → Opened i c f len
  ink-opened {i} p =
      subst⁻¹ (λ (i : Ink). Opened i c f len) p
      (subst⁻¹ (λ (c : Clip). Opened (ink_of r) c f len) q (subst⁻¹ (λ (f : Feed). Opened (ink_of r) (clip_of r) f len) e (host-can r len fine some)))

  pub plain-opened : {b : Bool} {p : Plain} → b ≡ plain_blit r → b ≡ true → p ≡ plain_of r → Opened (plain_ink p) c f len
  plain-opened g t h = subst⁻¹ (λ (p : Plain). Opened (plain_ink p) c f len) h (plainly-opened (plain-ink r (sym g ∙ t)) (ink-opened refl))

-- what some data finishes, drawn by what was decoded
module _ (r : Regs) (pattern m : List ℕ) {c : Clip} {f : Feed} (pixels : Feed → List Pixel) (st : State) (q : c ≡ clip_of r) (e : f ≡ feed_of r) where
  pub ink-drawn : {i : Ink} → i ≡ ink_of r → st ≡ drawn i pattern c f (pixels f) (state m 0 0)
      → st ≡ paint (target r) (host_touches (ink_of r) pattern (clip_of r) (feed_of r) (pixels (feed_of r))) (state m 0 0)
  unfolding ink_of
  ink-drawn p d =
      d ∙ ap₂ (λ (i : Ink) (k : Clip). drawn i pattern k f (pixels f) (state m 0 0)) p q
      ∙ ap (λ (f : Feed). drawn (ink_of r) pattern (clip_of r) f (pixels f) (state m 0 0)) e

  pub plain-drawn : {b : Bool} {p : Plain} → b ≡ plain_blit r → b ≡ true → p ≡ plain_of r → st ≡ drawn (plain_ink p) [] c f (pixels f) (state m 0 0)
      → st ≡ paint (target r) (host_touches (ink_of r) pattern (clip_of r) (feed_of r) (pixels (feed_of r))) (state m 0 0)
  plain-drawn g t h d =
      ink-drawn refl
      (d ∙ ap (λ (p : Plain). drawn (plain_ink p) [] c f (pixels f) (state m 0 0)) h
      ∙ plainly-drawn (ink_of r) (plain_of r) (plain-ink r (sym g ∙ t)) pattern c f (pixels f) (state m 0 0))

-- for the attributes of functions
pub ruleset verdicts = (judged-no, judged-yes)

pub ruleset openings = (judged-no, judged-yes, feed-sizes)

-- What is stored reads back: a command changes dstXY, srcXY and lineStyle only, and so not the register that starts it.
-- Assumes nothing.
use mathlib.Core.Path.{◌≡◌, refl, ap, subst⁻¹, ◌∙◌}
use mathlib.Core.List.{List}
use Prim.Native.Nat.{ℕ, ◌^◌, ◌<◌}
use native.Mathlib.Omega.{arith}
use lib.Dec.{eqb, ltb}
use lib.ListN.{length}
use borrow.Author.Tests.{eqb-true}
use Rattle.host.specs.Host.{words_of}
use Rattle.registers.specs.declared.Place.{Place}
use Rattle.registers.specs.declared.Place.TheVariants.{Register, Pattern}
use Rattle.registers.specs.Kept.{kept}
use Rattle.registers.specs.Offsets.{place_of}
use Rattle.bank.specs.declared.Bank.{Bank}
use Rattle.std.specs.Prelude.{Option, Some}
use Rattle.bank.specs.Bank.{stored, read_at, read_number, read_value}
use Rattle.bank.proofs.BackLaws.{stored-reads-back, stored-leaves, patterned-reads-back}
use Rattle.command.specs.Decode.{feed_of}
use Rattle.cuts.specs.Cut.{bit, number}
use Rattle.acts.specs.declared.Blit.{Blit}
use Rattle.acts.specs.Deed.{rect_ended, line_ended, Made, Deed, carrying}
use Rattle.acts.proofs.Cases.{picked, by-number}
use Rattle.engine.specs.declared.Engine.{Engine}
use Rattle.engine.specs.Step.{Step, number_of, read_from, idle, stored_in, carried, commanded, to_register, to_pattern, to_place, written}
use Rattle.engine.specs.Promises.{RegisterBack, PatternBack}
use Rattle.engine.proofs.Laws.{judged-taken}

-- a taken step has v at an offset
abbrev Back : ℕ → ℕ → Step → Type 0
Back o v s = number_of s.answer ≡ 0 → read_from s.engine o ≡ Some v

-- ---- command, after the command was carried out
abbrev Same : Bank → Bank → Type 0
Same b after = read_at after 0x70 ≡ read_at b 0x70

rect-same : (b : Bank) → Same b (rect_ended b)
unfolding rect_ended
rect-same b = stored-leaves b 0x6c _ 0x70 (λ z. omega arith)

line_same : (b : Bank) (style : ℕ) → Same b (line_ended b style)
unfolding line_ended
line_same b style = stored-leaves (stored b 0x40 style) 0x5c _ 0x70 (λ z. omega arith) ∙ stored-leaves b 0x40 style 0x70 (λ z. omega arith)

command-same : (b : Bank) (k : Blit) (m : List ℕ) → Same b (carrying b k m).makes.bank
unfolding carrying
command-same b k m =
    by-number (λ (d : Deed). Same b d.makes.bank) (number b.regs) _ _ _ _ _ _ _ (λ _. refl) (λ _. rect-same b) (λ _. rect-same b)
    (λ _. picked (λ (k : Made). Same b k.bank) (ltb 0 (words_of (feed_of b.regs))) _ _ (λ _. refl) (λ _. rect-same b))
    (λ _. rect-same b) (λ _ _. line_same b _) (λ _. refl)

carried-back : (old e : Engine) (m : List ℕ) (v : ℕ) → read_from e 0x70 ≡ Some v → Back 0x70 v (carried old e m)
unfolding carried
carried-back old e m v h z =
    ap (λ (s : Step). read_from s.engine 0x70) (judged-taken old e m (carrying e.bank e.blit m) z) ∙ command-same e.bank e.blit m ∙ h

command-back : (e : Engine) (m : List ℕ) (d : ℕ) → Back 0x70 (kept 0x70 d) (commanded e m d)
unfolding commanded stored_in place_of
command-back e m d =
    let h = stored-reads-back e.bank 0x70 d refl in
    picked (Back 0x70 (kept 0x70 d)) (bit d 8) _ _ (λ _. carried-back e (idle (stored_in e 0x70 d)) m (kept 0x70 d) h) (λ _ _. h)

-- ---- any write
refused : {A : Type 0} (n : ℕ) → 0 < n → n ≡ 0 → A
refused n some z = absurd (omega arith)

to-register : (e : Engine) (m : List ℕ) (o d : ℕ) → place_of o ≡ Register → Back o (kept o d) (to_register e m o d)
unfolding to_register stored_in
to-register e m o d place =
    picked (Back o (kept o d)) (eqb o 0x70) _ _ (λ t. subst⁻¹ (λ (o : ℕ). Back o (kept o d) (commanded e m d)) (eqb-true o 0x70 t) (command-back e m d))
    (λ _. picked (Back o (kept o d)) e.blit.waiting _ _ (λ _. refused 3 (omega arith)) (λ _ _. stored-reads-back e.bank o d place))

to-pattern : (e : Engine) (m : List ℕ) (i d a : ℕ) → place_of a ≡ Pattern i → length e.bank.pattern ≡ 256 → d < 2 ^ 32 → Back a d (to_pattern e m i d)
unfolding to_pattern
to-pattern e m i d a place long word =
    picked (Back a d) e.blit.waiting _ _ (λ _. refused 3 (omega arith)) (λ _ _. patterned-reads-back e.bank a d place long word)

written_back : (p : Place) (e : Engine) (m : List ℕ) (o d a v : ℕ) → place_of o ≡ p → Back a v (to_place p e m o d) → Back a v (written e m o d)
unfolding written
written_back p e m o d a v place h =
    picked (Back a v) (ltb (2 ^ 24) (length m)) _ _ (λ _. refused 1 (omega arith))
    (λ _. picked (Back a v) (eqb (length m) e.opened) _ _ (λ _. subst⁻¹ (λ (q : Place). Back a v (to_place q e m o d)) place h) (λ _. refused 1 (omega arith)))

gives : (r : Option ℕ) (v : ℕ) → r ≡ Some v → (read_number r ≡ 0) × (read_value r ≡ v)
gives r v h = (ap (λ (r : Option ℕ). read_number r) h, ap (λ (r : Option ℕ). read_value r) h)

pub register-back : RegisterBack
register-back e m o d place z = gives _ (kept o d) (written_back Register e m o d o (kept o d) place (to-register e m o d place) z)

pub pattern-back : PatternBack
pattern-back e m i o d a place there long word z = gives _ d (written_back (Pattern i) e m o d a d place (to-pattern e m i d a there long word) z)

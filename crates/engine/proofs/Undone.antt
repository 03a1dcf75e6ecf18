-- Demand 1: a refused write leaves engine and memory as they were, and counts nothing.
-- Assumes nothing.
use mathlib.Core.Path.{◌≡◌, refl}
use mathlib.Core.List.{List}
use Prim.Native.Nat.{ℕ, ◌^◌}
use lib.Dec.{eqb, ltb}
use lib.ListN.{length}
use Rattle.std.specs.Prelude.{Ok, Err}
use Rattle.paint.specs.declared.Tally.{Tally}
use Rattle.registers.specs.declared.Place.{Place}
use Rattle.registers.specs.declared.Place.TheVariants.{Register, Pattern, Launch, Nowhere}
use Rattle.registers.specs.Offsets.{place_of}
use Rattle.cuts.specs.Cut.{bit}
use Rattle.acts.specs.Deed.{Deed, carrying, starting}
use Rattle.engine.specs.declared.Engine.{Engine}
use Rattle.engine.specs.declared.Refusal.{Refusal}
use Rattle.engine.specs.declared.Refusal.TheVariants.{Memory, Offset, Waiting}
use Rattle.engine.specs.Step.{Step, step, number_of, count_of, changed_of, refusal, idle, stored_in, judging, carried, launched, commanded, to_register, to_pattern, to_place, written}
use Rattle.engine.specs.Promises.{RefusedUndone}
use Rattle.acts.proofs.Cases.{picked}

record Kept (e : Engine) (m : List ℕ) (s : Step) : Type 0 where
  undone : (number_of s.answer ≡ 0 → ⊥) → (s.engine ≡ e) × (s.memory ≡ m) × (count_of s.answer ≡ 0) × (changed_of s.answer ≡ 0)

-- a step that is taken, and one that hands back what came
taken : {e : Engine} {m : List ℕ} (k : Engine) (left : List ℕ) (t : Tally) → Kept e m (step k left (Ok t))
taken k left t = record { undone = λ no'. absurd (no' refl) }

same_back : (e : Engine) (m : List ℕ) (r : Refusal) → Kept e m (step e m (Err r))
same_back e m r = record { undone = λ _. (refl, refl, refl, refl) }

-- a command that its verdict refuses, or carries out
judged-kept : (old e : Engine) (m : List ℕ) (d : Deed) → Kept old m (judging old e m d)
judged-kept old e m d = picked (Kept old m) (eqb d.verdict 0) _ _ (λ _. taken _ _ _) (λ _. same_back old m (refusal d.verdict))

carried-kept : (old e : Engine) (m : List ℕ) → Kept old m (carried old e m)
unfolding carried
carried-kept old e m = judged-kept old e m (carrying e.bank e.blit m)

launched-kept : (e : Engine) (m : List ℕ) (d : ℕ) → Kept e m (launched e m d)
unfolding launched
launched-kept e m d = judged-kept e e m (starting e.bank e.blit m d)

place_kept : (p : Place) (e : Engine) (m : List ℕ) (o d : ℕ) → Kept e m (to_place p e m o d)
unfolding to_register to_pattern commanded
place_kept Register e m o d =
    picked (Kept e m) (eqb o 0x70) _ _ (λ _. picked (Kept e m) (bit d 8) _ _ (λ _. carried-kept e (idle (stored_in e 0x70 d)) m) (λ _. taken _ _ _))
    (λ _. picked (Kept e m) e.blit.waiting _ _ (λ _. same_back e m Waiting) (λ _. taken _ _ _))
place_kept (Pattern i) e m o d = picked (Kept e m) e.blit.waiting _ _ (λ _. same_back e m Waiting) (λ _. taken _ _ _)
place_kept Launch e m o d = launched-kept e m d
place_kept Nowhere e m o d = same_back e m Offset

pub refused-undone : RefusedUndone
unfolding written
refused-undone e m o d =
    (picked (Kept e m) (ltb (2 ^ 24) (length m)) _ _ (λ _. same_back e m Memory)
    (λ _. picked (Kept e m) (eqb (length m) e.opened) _ _ (λ _. place_kept (place_of o) e m o d) (λ _. same_back e m Memory))).undone

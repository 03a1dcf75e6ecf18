-- How a method's outcome is the definition's: what a command left, what a refusal is, and whether a blit waits.
-- Assumes nothing.
use mathlib.Core.Path.{◌≡◌, refl, sym, ap, ◌∙◌}
use mathlib.Core.Bool.{Bool, true, false, cond}
use mathlib.Core.List.{List}
use Prim.Native.Nat.{ℕ, ◌<◌}
use native.Mathlib.Omega.{arith}
use lib.Dec.{eqb}
use Rattle.registers.specs.declared.Regs.{Regs}
use Rattle.bank.specs.declared.Bank.{Bank}
use Rattle.std.specs.Prelude.{Result, Ok, Err}
use Rattle.table.specs.declared.Fault.{Fault}
use Rattle.table.specs.Fault.{fault_number}
use Rattle.acts.specs.declared.Ends.{Ends}
use Rattle.acts.proofs.Laws.{fault-some}
use borrow.Author.Tests.{ne_eqb}
use Rattle.paint.specs.Paint.{state}
use Rattle.acts.specs.declared.Blit.{Blit}
use Rattle.acts.specs.declared.Act.{Act}
use Rattle.acts.specs.Deed.{made, bank_of, with_ends, Deed, deed, judged}
use Rattle.acts.proofs.Cases.{by-test, picked}
use Rattle.engine.specs.declared.Engine.{Engine}
use Rattle.engine.specs.declared.Refusal.{Refusal}
use Rattle.engine.specs.declared.Refusal.TheVariants.{NotBuilt, Format, Host, Off, Meet}
use Rattle.engine.specs.declared.Outcome.{Outcome}
use Rattle.engine.specs.Step.{Step, step, number_in, number_of, refusal, making, judging, settled}

-- ---- what a command left, settled
abbrev pub outcome : Outcome → List ℕ → Step
outcome r m = step r.engine m r.answer

-- the same from a deed, whose memory is the one that it left
abbrev settling : Engine → Deed → Step
settling e d = cond (eqb d.verdict 0) (making e d.makes) (step e d.makes.left.mem (Err (refusal d.verdict)))

settled-deed : (e : Engine) (r : Regs) (x : Result Act Fault) (b : Bank) (k : Blit) (m : List ℕ) → ((a : Ends) → with_ends b a ≡ with_ends (bank_of r e.bank.pattern) a)
    → outcome (settled e r x) m ≡ settling e (deed b k x m)
settled-deed e r (Ok a) b k m same = rw (same a.ends)
settled-deed e r (Err f) b k m same = rw (ne_eqb (fault_number f) 0 (fault-some f))

judged-settling : (e : Engine) (d : Deed) (b : Bank) (k : Blit) (m : List ℕ) → settling e (judged d b k m) ≡ judging e e m d
unfolding judged
judged-settling e d b k m =
    by-test
    (λ t. eqb d.verdict 0 ≡ t → settling e (cond t d (record { verdict = d.verdict; makes = made b k (state m 0 0) })) ≡ cond t (making e d.makes) (step e m (Err (refusal d.verdict))))
    (eqb d.verdict 0) (λ _ h. rw h) (λ _ h. rw h) refl

pub settled-as : (e : Engine) (r : Regs) (x : Result Act Fault) (left : List ℕ) (d : Deed) (b : Bank) (k : Blit) (m : List ℕ) {o : Outcome}
    → ((a : Ends) → with_ends b a ≡ with_ends (bank_of r e.bank.pattern) a) → o ≡ settled e r x → deed b k x left ≡ judged d b k m → outcome o left ≡ judging e e m d
settled-as e r x left d b k m same p q =
    ap (λ (o : Outcome). outcome o left) p ∙ settled-deed e r x b k left same ∙ ap (settling e) q ∙ judged-settling e d b k m

-- ---- the number of a refusal is not 0
refusal-each : (P : Refusal → Type 0) (n : ℕ) → P NotBuilt → P Format → P Host → P Off → P Meet → P (refusal n)
unfolding refusal
refusal-each P n four five six seven eight =
    picked P (eqb n 4) _ _ (λ _. four)
    (λ _. picked P (eqb n 5) _ _ (λ _. five) (λ _. picked P (eqb n 6) _ _ (λ _. six) (λ _. picked P (eqb n 7) _ _ (λ _. seven) (λ _. eight))))

pub refused-number : (n : ℕ) → 0 < number_in (refusal n)
refused-number n = refusal-each (λ r. 0 < number_in r) n (omega arith) (omega arith) (omega arith) (omega arith) (omega arith)

-- a command that is answered 0 was carried out
pub judged-taken : (old e : Engine) (m : List ℕ) (d : Deed) → number_of (judging old e m d).answer ≡ 0 → judging old e m d ≡ making e d.makes
judged-taken old e m d =
    picked (λ (s : Step). number_of s.answer ≡ 0 → s ≡ making e d.makes) (eqb d.verdict 0) _ _ (λ _ _. refl)
    (λ _ z. let some = refused-number d.verdict in absurd (omega arith))

-- ---- by whether a blit waits
pub waits : (t : Bool) (yes' no' : Step) → t ≡ true → yes' ≡ cond t yes' no'
waits t yes' no' e = ap (λ b. cond b yes' no') (sym e)

pub rests : (t : Bool) (yes' no' : Step) → t ≡ false → no' ≡ cond t yes' no'
rests t yes' no' e = ap (λ b. cond b yes' no') (sym e)

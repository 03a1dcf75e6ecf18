-- The contract of a run allows one outcome.
-- Assumes nothing.
use Rattle.std.proofs.Common.{◌≡◌, ℕ, List, cond, refl, sym, ap, ◌∙◌}
use Rattle.std.specs.Prelude.{eqb, Option, Some, None}
use Rattle.engine.specs.declared.Refusal.{Refusal}
use Rattle.engine.specs.declared.Refusal.TheVariants.{Memory, Offset, Waiting, NotBuilt, Format, Host, Off, Meet}
use Rattle.engine.specs.Step.{refusal}
use Rattle.words.specs.declared.Run.{Run}
use Rattle.words.specs.Words.{Ran, stop_number, ran_of}

-- the refusal that stopped a run, out of its number
stop_of : ℕ → Option Refusal
stop_of n = cond (eqb n 0) None (Some (cond (eqb n 1) Memory (cond (eqb n 2) Offset (cond (eqb n 3) Waiting (refusal n)))))

abbrev run_of : Ran → Run
run_of x = record { engine = x.engine; stopped = stop_of x.number; sums = record { taken = x.taken; count = x.count; changed = x.changed } }

stop-back : (s : Option Refusal) → stop_of (stop_number s) ≡ s
unfolding stop_of refusal
stop-back None = refl
stop-back (Some Memory) = refl
stop-back (Some Offset) = refl
stop-back (Some Waiting) = refl
stop-back (Some NotBuilt) = refl
stop-back (Some Format) = refl
stop-back (Some Host) = refl
stop-back (Some Off) = refl
stop-back (Some Meet) = refl

run-back : (r : Run) (m : List ℕ) → run_of (ran_of r m) ≡ r
run-back r m = ap (λ (s : Option Refusal). record { engine = r.engine; stopped = s; sums = r.sums }) (stop-back r.stopped)

pub run-once : (d : Ran) (x y : Run) (m n : List ℕ) → ran_of x m ≡ d → ran_of y n ≡ d → (x ≡ y) × (m ≡ n)
run-once d x y m n p q = (
  sym (run-back x m) ∙ ap run_of (p ∙ sym q) ∙ run-back y n,
  ap (λ (d : Ran). d.memory) (p ∙ sym q),
)

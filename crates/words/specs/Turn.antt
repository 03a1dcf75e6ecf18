-- One turn of a run, as functions say it. No promise rests on it.
-- Assumes nothing.
use Rattle.std.specs.Prelude.{◌≡◌, ◌<◌, List, ℕ, drop, Result, Ok, Err}
use Rattle.engine.specs.declared.Engine.{Engine}
use Rattle.engine.specs.declared.Refusal.{Refusal}
use Rattle.engine.specs.Step.{number_in}
use Rattle.words.specs.declared.Sums.{Sums}
use Rattle.words.specs.Words.{Ran, halted, ran_from}

-- a run between two turns
abbrev pub sofar : Engine → List ℕ → Sums → Ran
sofar e m t = record { engine = e; memory = m; number = 0; taken = t.taken; count = t.count; changed = t.changed }

-- what a turn left: one that is refused has that number
abbrev pub turned : {A : Type 0} → Result A Refusal → Ran → Ran
turned (Ok x) t = t
turned (Err r) t = halted t (number_in r)

-- from s to s' some words of the run were taken, and the words after them give what was left to give; or it is stopped
pub record Went (ws : List ℕ) (s s' : Ran) : Type 0 where
  pub more : s'.number ≡ 0 → s.taken < s'.taken
  pub goes : s'.number ≡ 0 → ran_from s' (drop s'.taken ws) ≡ ran_from s (drop s.taken ws)
  pub stops : (s'.number ≡ 0 → ⊥) → s' ≡ ran_from s (drop s.taken ws)

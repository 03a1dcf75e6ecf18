-- A run of words for the launch area: launch writes in order, up to the first that is refused.
-- Assumes nothing.
use Rattle.std.specs.Prelude.{ℕ, ◌+◌, ◌%◌, ◌^◌, Bool, cond, List, [], ◌∷◌, ◌==◌, Option, Some, None}
use Rattle.engine.specs.declared.Engine.{Engine}
use Rattle.engine.specs.declared.Refusal.{Refusal}
use Rattle.engine.specs.Step.{Step, written, number_in, number_of, count_of, changed_of}
use Rattle.words.specs.declared.Run.{Run}

-- the engine and the memory after the words taken, the number of the answer that stopped the run, or 0, how many words were taken, and the sums of their counts
-- and of what changed, each kept in 64 bits
pub record Ran : Type 0 where
  pub engine : Engine
  pub memory : List ℕ
  pub number : ℕ
  pub taken : ℕ
  pub count : ℕ
  pub changed : ℕ

abbrev pub started : Engine → List ℕ → Ran
started e m = record { engine = e; memory = m; number = 0; taken = 0; count = 0; changed = 0 }

-- a word is a write to the launch area, all of whose offsets are alike
abbrev pub launching : Ran → ℕ → Step
launching t w = written t.engine t.memory 0x80 w

abbrev pub is_taken : Step → Bool
is_taken s = number_of s.answer == 0

-- taken: what it left, one word more, and its counts added
abbrev pub further : Ran → Step → Ran
further t s = record {
  engine = s.engine;
  memory = s.memory;
  number = 0;
  taken = t.taken + 1;
  count = (t.count + count_of s.answer) % 2 ^ 64;
  changed = (t.changed + changed_of s.answer) % 2 ^ 64;
}

-- stopped by the answer of that number, all else as it was
abbrev pub halted : Ran → ℕ → Ran
halted t n = record { engine = t.engine; memory = t.memory; number = n; taken = t.taken; count = t.count; changed = t.changed }

-- refused: its number
abbrev pub stopped : Ran → Step → Ran
stopped t s = halted t (number_of s.answer)

unfoldable pub ran_from : Ran → List ℕ → Ran
ran_from t [] = t
ran_from t (w ∷ ws) = cond (is_taken (launching t w)) (ran_from (further t (launching t w)) ws) (stopped t (launching t w))

abbrev pub ran : Engine → List ℕ → List ℕ → Ran
ran e m ws = ran_from (started e m) ws

-- the number of the refusal that stopped a run, or 0
abbrev pub stop_number : Option Refusal → ℕ
stop_number None = 0
stop_number (Some r) = number_in r

-- what a function of this crate left
abbrev pub ran_of : Run → List ℕ → Ran
ran_of r m = record { engine = r.engine; memory = m; number = stop_number r.stopped; taken = r.sums.taken; count = r.sums.count; changed = r.sums.changed }

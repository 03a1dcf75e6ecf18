-- A list of writes played in order, and the registers of the command that a write starts.
-- Assumes nothing.
use Rattle.std.specs.Prelude.{cond, List, [], ◌∷◌, ◌++◌, ℕ, zero, suc, ◌+◌}
use Rattle.std.proofs.Math.Option.{Option, none}
use Rattle.registers.specs.declared.Regs.{Regs}
use Rattle.registers.specs.declared.Place.{Place}
use Rattle.registers.specs.declared.Place.TheVariants.{Register, Pattern, Launch, Nowhere}
use Rattle.registers.specs.Offsets.{place_of}
use Rattle.engine.specs.declared.Engine.{Engine}
use Rattle.engine.specs.Step.{Answer, Step, count_of, changed_of, written}
use Rattle.engine.specs.Orders.{order_at}

pub record Write : Type 0 where
  pub offset : ℕ
  pub word : ℕ

abbrev pub by : Engine → List ℕ → Write → Step
by e m w = written e m w.offset w.word

pub record Run : Type 0 where
  pub engine : Engine
  pub memory : List ℕ
  pub answers : List Answer

abbrev pub run : Engine → List ℕ → List Answer → Run
run e m answers = record { engine = e; memory = m; answers = answers }

abbrev pub before : Step → Run → Run
before s more = run more.engine more.memory (s.answer ∷ more.answers)

unfoldable pub played : Engine → List ℕ → List Write → Run
played e m [] = run e m []
played e m (w ∷ ws) = before (by e m w) (played (by e m w).engine (by e m w).memory ws)

-- all counts of a run together, and all that changed
unfoldable pub counted : List Answer → ℕ
counted [] = 0
counted (a ∷ more) = count_of a + counted more

unfoldable pub changes : List Answer → ℕ
changes [] = 0
changes (a ∷ more) = changed_of a + changes more

-- n words of data: word k is ws k, written to the offset os k
unfoldable pub sent : (ℕ → ℕ) → (ℕ → ℕ) → ℕ → List Write
sent os ws zero = []
sent os ws (suc n) = sent os ws n ++ (record { offset = os n; word = ws n } ∷ [])

-- ---- a write with the memory that is lent for it
pub record Lent : Type 0 where
  pub memory : List ℕ
  pub write : Write

-- what an engine becomes by such writes
unfoldable pub lent_to : Engine → List Lent → Engine
lent_to e [] = e
lent_to e (l ∷ ls) = lent_to (by e l.memory l.write).engine ls

-- ---- the registers of the command that a write starts, if it does. A word for a host blit that waits belongs to the command that opened it.
abbrev pub start_at : Place → Engine → Write → Option Regs
start_at Register e w = order_at Register e w.offset w.word
start_at (Pattern i) e w = none
start_at Launch e w = cond e.blit.waiting none (order_at Launch e w.offset w.word)
start_at Nowhere e w = none

abbrev pub starts : Engine → Write → Option Regs
starts e w = start_at (place_of w.offset) e w

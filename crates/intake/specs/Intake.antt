-- The engine takes the register writes that a reader of packets finds: what carries them out is `written`.
-- Assumes nothing.
use Rattle.std.specs.Prelude.{List, ℕ}
use Rattle.packets.specs.Delivery.{Note, note, Wrote, wrote, Writer}
use Rattle.packets.specs.Answers.{lent, Call, call}
use Rattle.engine.specs.declared.Engine.{Engine}
use Rattle.engine.specs.Step.{Answer, Step, number_of, count_of, changed_of, written}
use Rattle.intake.specs.declared.Fed.{Fed}

-- the engine with the memory that it is lent
pub record Machine : Type 0 where
  pub engine : Engine
  pub memory : List ℕ

abbrev pub machine : Engine → List ℕ → Machine
machine e m = record { engine = e; memory = m }

-- an answer of a register write in the sequence
abbrev pub note_of : Answer → Note
note_of a = note (number_of a) (count_of a) (changed_of a)

abbrev pub stepped : Step → Wrote Machine
stepped st = wrote (machine st.engine st.memory) (note_of st.answer)

abbrev pub by_engine : Writer Machine
by_engine o d s = stepped (written s.engine s.memory o d)

-- what a function of this crate left
abbrev pub fed_of : Fed → List ℕ → List ℕ → Call Machine
fed_of f m run = call f.reader (machine f.engine m) (lent run f.answered) f.used

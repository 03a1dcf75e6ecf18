-- One register write: the whole outcome, engine, memory and answer, as one function.
-- Assumes nothing.
use Rattle.std.specs.Prelude.{cond, List, ℕ, ◌^◌, eqb, ltb, length, Option, Result, Ok, Err}
use Rattle.paint.specs.declared.Tally.{Tally}
use Rattle.paint.specs.Tally.{tally}
use Rattle.paint.specs.Paint.{State}
use Rattle.registers.specs.declared.Regs.{Regs}
use Rattle.bank.specs.declared.Bank.{Bank}
use Rattle.registers.specs.declared.Place.{Place}
use Rattle.registers.specs.declared.Place.TheVariants.{Register, Pattern, Launch, Nowhere}
use Rattle.bank.specs.Bank.{fresh_bank, stored, patterned, read_at}
use Rattle.registers.specs.Offsets.{place_of}
use Rattle.cuts.specs.Cut.{bit}
use Rattle.rooms.specs.Room.{no_rooms, after}
use Rattle.table.specs.declared.Fault.{Fault}
use Rattle.table.specs.Fault.{fault_number}
use Rattle.acts.specs.declared.Blit.{Blit}
use Rattle.acts.specs.declared.Act.{Act}
use Rattle.acts.specs.Deed.{no_blit, Made, bank_of, with_ends, Deed, carrying, starting}
use Rattle.engine.specs.declared.Outcome.{Outcome}
use Rattle.engine.specs.declared.Engine.{Engine}
use Rattle.engine.specs.declared.Refusal.{Refusal}
use Rattle.engine.specs.declared.Refusal.TheVariants.{Memory, Offset, Waiting, NotBuilt, Format, Host, Off, Meet}

-- ---- answers: what was drawn, or a refusal; document 01's number and count of each, and how many of the pixels counted have other bytes than just before they
-- were written
abbrev pub Answer : Type 0
Answer = Result Tally Refusal

abbrev pub number_in : Refusal → ℕ
number_in Memory = 1
number_in Offset = 2
number_in Waiting = 3
number_in NotBuilt = 4
number_in Format = 5
number_in Host = 6
number_in Off = 7
number_in Meet = 8

abbrev pub number_of : Answer → ℕ
number_of (Ok t) = 0
number_of (Err r) = number_in r

abbrev pub count_of : Answer → ℕ
count_of (Ok t) = t.count
count_of (Err r) = 0

abbrev pub changed_of : Answer → ℕ
changed_of (Ok t) = t.changed
changed_of (Err r) = 0

-- the refusal of a row from 4 to 8
unfoldable pub refusal : ℕ → Refusal
refusal n = cond (eqb n 4) NotBuilt (cond (eqb n 5) Format (cond (eqb n 6) Host (cond (eqb n 7) Off Meet)))

-- ---- the engine

-- opened for a memory of so many bytes
unfoldable pub fresh_engine : ℕ → Engine
fresh_engine len = record { bank = fresh_bank; blit = no_blit; opened = len; rooms = no_rooms }

abbrev pub with_bank : Engine → Bank → Engine
with_bank e b = record { bank = b; blit = e.blit; opened = e.opened; rooms = e.rooms }

abbrev pub with_blit : Engine → Blit → Engine
with_blit e b = record { bank = e.bank; blit = b; opened = e.opened; rooms = e.rooms }

abbrev pub regs : Engine → Regs
regs e = e.bank.regs

-- the kept bits of a word in a register, and what is kept of the surface that it is a register of; no host blit waiting
unfoldable pub stored_in : Engine → ℕ → ℕ → Engine
stored_in e o d =
    let b = stored e.bank o d in
    record { bank = b; blit = e.blit; opened = e.opened; rooms = after e.opened o b.regs e.rooms }

abbrev pub idle : Engine → Engine
idle e = with_blit e no_blit

-- ---- what a write makes
pub record Step : Type 0 where
  pub engine : Engine
  pub memory : List ℕ
  pub answer : Answer

abbrev pub step : Engine → List ℕ → Answer → Step
step e m a = record { engine = e; memory = m; answer = a }

-- carried out: the engine, with the memory and the tally that painting left
abbrev pub done : Engine → State → Step
done e st = step e st.mem (Ok st.tally)

-- ---- the commands: a refusal gives back the engine as it was before the write
abbrev pub making : Engine → Made → Step
making e k = done (record { bank = k.bank; blit = k.blit; opened = e.opened; rooms = e.rooms }) k.left

abbrev pub judging : Engine → Engine → List ℕ → Deed → Step
judging old e m d = cond (eqb d.verdict 0) (making e d.makes) (step old m (Err (refusal d.verdict)))

-- the command that e holds is carried out
unfoldable pub carried : Engine → Engine → List ℕ → Step
carried old e m = judging old e m (carrying e.bank e.blit m)

-- a launch write starts the command that e holds, or it is data for a host blit
unfoldable pub launched : Engine → List ℕ → ℕ → Step
launched e m d = judging e e m (starting e.bank e.blit m d)

-- ---- the writes

-- a write to command abandons what waits, and runs with bit 8
unfoldable pub commanded : Engine → List ℕ → ℕ → Step
commanded e m d =
    cond (bit d 8) (carried e (idle (stored_in e 0x70 d)) m) (step (idle (stored_in e 0x70 d)) m (Ok (tally 0 0)))

unfoldable pub to_register : Engine → List ℕ → ℕ → ℕ → Step
to_register e m o d =
    cond (eqb o 0x70) (commanded e m d)
    (cond e.blit.waiting (step e m (Err Waiting)) (step (stored_in e o d) m (Ok (tally 0 0))))

unfoldable pub to_pattern : Engine → List ℕ → ℕ → ℕ → Step
to_pattern e m i d = cond e.blit.waiting (step e m (Err Waiting)) (step (with_bank e (patterned e.bank i d)) m (Ok (tally 0 0)))

abbrev pub to_place : Place → Engine → List ℕ → ℕ → ℕ → Step
to_place Register e m o d = to_register e m o d
to_place (Pattern i) e m o d = to_pattern e m i d
to_place Launch e m o d = launched e m d
to_place Nowhere e m o d = step e m (Err Offset)

unfoldable pub written : Engine → List ℕ → ℕ → ℕ → Step
written e m o d =
    cond (ltb (2 ^ 24) (length m)) (step e m (Err Memory))
    (cond (eqb (length m) e.opened) (to_place (place_of o) e m o d)
    (step e m (Err Memory)))

-- ---- reading back
abbrev pub read_from : Engine → ℕ → Option ℕ
read_from e o = read_at e.bank o

-- ---- what a command that had these registers left of the engine; refused, it stays
abbrev pub settled : Engine → Regs → Result Act Fault → Outcome
settled e r (Ok a) = record {
  engine = record { bank = with_ends (bank_of r e.bank.pattern) a.ends; blit = a.blit; opened = e.opened; rooms = e.rooms };
  answer = Ok a.tally;
}
settled e r (Err f) = record { engine = e; answer = Err (refusal (fault_number f)) }

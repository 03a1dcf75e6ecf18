-- What each call makes of the bytes that are lent to it, in terms of the engine's definitions.
-- Assumes nothing.
use Rattle.std.specs.Prelude.{cond, List, ℕ, ◌+◌, ◌*◌, ◌^◌, eqb, ltb, length, Option}
use Rattle.views.specs.View.{view_answer, view_start, view_count}
use Rattle.bank.specs.Bank.{read_number, read_value}
use Rattle.engine.specs.Step.{Answer, Step, number_of, count_of, changed_of, fresh_engine, written, read_from}
use Rattle.words.specs.Words.{Ran, ran}
use Rattle.basics.specs.Word.{word_at, with_word}
use Rattle.registers.specs.Kept.{kept}
use Rattle.state.specs.Layout.{state_size, encoded, decoded, opened_in, is_state, followed}

-- the number of a state that open did not make
abbrev pub not_state : ℕ
not_state = 255

-- a number in the high 32 bits, and a count or a word in the low 32
abbrev pub packed : ℕ → ℕ → ℕ
packed number value = number * 2 ^ 32 + value

-- ---- write: the state, the memory, the answer, and how many pixels changed, after a call
pub record Call : Type 0 where
  pub state : List ℕ
  pub memory : List ℕ
  pub answer : ℕ
  pub changed : ℕ

abbrev pub call : List ℕ → List ℕ → ℕ → ℕ → Call
call s m a c = record { state = s; memory = m; answer = a; changed = c }

abbrev pub packed_answer : Answer → ℕ
packed_answer a = packed (number_of a) (count_of a)

abbrev pub called : Step → Call
called t = call (encoded t.engine) t.memory (packed_answer t.answer) (changed_of t.answer)

unfoldable pub written_to : List ℕ → List ℕ → ℕ → ℕ → Call
written_to s m o d = cond (is_state s) (called (written (decoded s) m o d)) (call s m (packed not_state 0) 0)

-- ---- run: the state, the memory, the answer, how many words were taken, and the sums of their counts and of what changed, after a call
pub record RunCall : Type 0 where
  pub state : List ℕ
  pub memory : List ℕ
  pub answer : ℕ
  pub taken : ℕ
  pub count : ℕ
  pub changed : ℕ

abbrev pub run_call : List ℕ → List ℕ → ℕ → ℕ → ℕ → ℕ → RunCall
run_call s m a n c d = record { state = s; memory = m; answer = a; taken = n; count = c; changed = d }

abbrev pub run_called : Ran → RunCall
run_called r = run_call (encoded r.engine) r.memory r.number r.taken r.count r.changed

unfoldable pub ran_to : List ℕ → List ℕ → List ℕ → RunCall
ran_to s m ws = cond (is_state s) (run_called (ran (decoded s) m ws)) (run_call s m not_state 0 0 0)

-- ---- open: the state and the answer
pub record Opening : Type 0 where
  pub state : List ℕ
  pub answer : ℕ

abbrev pub opening : List ℕ → ℕ → Opening
opening s a = record { state = s; answer = a }

unfoldable pub opened_to : List ℕ → ℕ → Opening
opened_to s len = cond (eqb (length s) state_size) (opening (encoded (fresh_engine len)) 0) (opening s not_state)

-- ---- read
abbrev pub packed_reading : Option ℕ → ℕ
packed_reading r = packed (read_number r) (read_value r)

unfoldable pub read_of : List ℕ → ℕ → ℕ
read_of s o = cond (is_state s) (packed_reading (read_from (decoded s) o)) (packed not_state 0)

-- ---- view: the answer, the place of the first byte and the number of bytes
pub record Part : Type 0 where
  pub answer : ℕ
  pub start : ℕ
  pub count : ℕ

abbrev pub part : ℕ → ℕ → ℕ → Part
part a s n = record { answer = a; start = s; count = n }

unfoldable pub part_of : List ℕ → ℕ → ℕ → ℕ → ℕ → ℕ → Part
part_of m base format x y width =
    part (view_answer (length m) base format x y width) (view_start (length m) base format x y width) (view_count (length m) base format x y width)

-- ---- what the code does on the way

-- what a write that draws nothing makes of a state for a memory of len bytes, where the tests let it make `after` of it
unfoldable pub tested : List ℕ → ℕ → List ℕ → Opening
tested s len after =
    cond (ltb (2 ^ 24) len) (opening s (packed 1 0))
    (cond (eqb len (opened_in s)) (cond (eqb (word_at s 0x04) 1) (opening s (packed 3 0)) (opening after 0))
    (opening s (packed 1 0)))

-- a word at its place; and a register's, with what is kept of a surface
abbrev pub plainly : List ℕ → ℕ → ℕ → ℕ → Opening
plainly s len at d = tested s len (with_word s at d)

abbrev pub registered : List ℕ → ℕ → ℕ → ℕ → Opening
registered s len o d = tested s len (followed (with_word s o (kept o d)) len o)

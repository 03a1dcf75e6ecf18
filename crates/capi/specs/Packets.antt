-- What the calls for command packets make of the bytes that are lent to them: each register write is one of `rimebarrow_write`.
-- Assumes nothing.
use Rattle.std.specs.Prelude.{cond, ◌&&◌, List, ℕ, ◌/◌, ◌%◌, ◌^◌, eqb, length}
use Rattle.packets.specs.declared.Reader.{Reader}
use Rattle.packets.specs.Reader.{blank}
use Rattle.packets.specs.Delivery.{note, wrote, Writer}
use Rattle.packets.specs.Answers.{lent, called}
use Rattle.packets.specs.Answers as answers
use Rattle.tail.specs.Layout.{reader_size, is_reader}
use Rattle.tail.specs.Layout as tail
use Rattle.state.specs.Layout.{is_state}
use Rattle.capi.specs.Calls.{not_state, written_to, Opening, opening}

-- the state and the memory that are lent
pub record Kept : Type 0 where
  pub state : List ℕ
  pub memory : List ℕ

abbrev pub kept : List ℕ → List ℕ → Kept
kept s m = record { state = s; memory = m }

-- a register write: the number from the high 32 bits of the answer, the count from the low ones
abbrev pub by_call : Writer Kept
by_call o d k =
    let c = written_to k.state k.memory o d in
    wrote (kept c.state c.memory) (note (c.answer / 2 ^ 32) (c.answer % 2 ^ 32) c.changed)

-- what a piece left of reader, state and memory, and in the lent run
abbrev pub piece_call : Reader → List ℕ → List ℕ → List ℕ → ℕ → ℕ → answers.Call Kept
piece_call r s m run used answered = answers.call r (kept s m) (lent run answered) used

-- ---- an empty reader
unfoldable pub opened_reader : List ℕ → Opening
opened_reader r = cond (eqb (length r) reader_size) (opening (tail.encoded blank) 0) (opening r not_state)

-- ---- a piece: reader, state, memory and lent run after the call, the answer, how many bytes were used and how many answers were given
pub record PacketCall : Type 0 where
  pub reader : List ℕ
  pub state : List ℕ
  pub memory : List ℕ
  pub run : List ℕ
  pub answer : ℕ
  pub used : ℕ
  pub answered : ℕ

abbrev pub packet_call : List ℕ → List ℕ → List ℕ → List ℕ → ℕ → ℕ → ℕ → PacketCall
packet_call r s m run a used answered = record { reader = r; state = s; memory = m; run = run; answer = a; used = used; answered = answered }

abbrev pub packet_called : answers.Call Kept → PacketCall
packet_called c = packet_call (tail.encoded c.reader) c.state.state c.state.memory c.lent.run 0 c.used c.lent.answered

unfoldable pub packets_to : List ℕ → List ℕ → List ℕ → List ℕ → List ℕ → PacketCall
packets_to r s m piece run =
    cond (is_reader r && is_state s) (packet_called (called by_call (tail.decoded r) (kept s m) piece run)) (packet_call r s m run not_state 0 0)

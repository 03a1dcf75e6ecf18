-- What is promised of the functions for C, for an outside expert to read first, beside what is promised of the bytes of a state (state/specs/Promises) and of a
-- reader (tail/specs/Promises): each contract allows one outcome. Each promise is proved in proofs/, in the file of its heading.
-- Assumes nothing.
use Rattle.std.specs.Prelude.{◌≡◌, true, List, ℕ, length, take, drop}
use Rattle.views.specs.View.{view_answer, view_start, viewed}
use Rattle.state.specs.Layout.{state_size, is_state}
use Rattle.packets.specs.Promises.{AnyPieces, CallTook, StopsFull, HeldShort, RoomEnough, PacketCarried, NoWords, NineOnce, Reopened}
use Rattle.tail.specs.Layout.{is_reader}
use Rattle.capi.specs.Packets.{by_call, opened_reader, PacketCall, packets_to}
use Rattle.capi.specs.Calls.{Call, written_to, RunCall, ran_to, Opening, opened_to, read_of, Part, part_of}

-- ---- Views. The part that a view names is the part of memory that the row view hands back
abbrev pub PartViewed : Type 0
PartViewed = (m : List ℕ) (base format x y width : ℕ)
    → ((part_of m base format x y width).answer ≡ view_answer (length m) base format x y width)
    × (((part_of m base format x y width).start ≡ view_start (length m) base format x y width)
    × (take (part_of m base format x y width).count (drop (part_of m base format x y width).start m) ≡ viewed m base format x y width))

-- ---- Packets. What is promised of a reader, whatever carries the writes out, with `rimebarrow_write` to carry them out
pub record WithTheCalls : Type 0 where
  pub any_pieces : AnyPieces by_call
  pub call_took : CallTook by_call
  pub stops_full : StopsFull by_call
  pub held_short : HeldShort by_call
  pub room_enough : RoomEnough by_call
  pub packet_carried : PacketCarried by_call
  pub no_words : NoWords by_call
  pub nine_once : NineOnce by_call
  pub reopened : Reopened by_call

-- what is a reader before a call is one after it, so that the next call takes it; and so is what is a state
abbrev pub StaysBoth : Type 0
StaysBoth = (r s m piece run : List ℕ) → is_reader r ≡ true → is_state s ≡ true
    → (is_reader (packets_to r s m piece run).reader ≡ true) × (is_state (packets_to r s m piece run).state ≡ true)

-- ---- One. Each contract allows one outcome

abbrev pub OneSize : Type 0
OneSize = (x y : ℕ) → x ≡ state_size → y ≡ state_size → x ≡ y

abbrev pub OneOpening : Type 0
OneOpening = (s : List ℕ) (len : ℕ) (x y : Opening) → x ≡ opened_to s len → y ≡ opened_to s len → x ≡ y

abbrev pub OneCall : Type 0
OneCall = (s m : List ℕ) (o d : ℕ) (x y : Call) → x ≡ written_to s m o d → y ≡ written_to s m o d → x ≡ y

abbrev pub OneRunCall : Type 0
OneRunCall = (s m ws : List ℕ) (x y : RunCall) → x ≡ ran_to s m ws → y ≡ ran_to s m ws → x ≡ y

abbrev pub OneReader : Type 0
OneReader = (r : List ℕ) (x y : Opening) → x ≡ opened_reader r → y ≡ opened_reader r → x ≡ y

abbrev pub OnePacketCall : Type 0
OnePacketCall = (r s m piece run : List ℕ) (x y : PacketCall) → x ≡ packets_to r s m piece run → y ≡ packets_to r s m piece run → x ≡ y

abbrev pub OneReading : Type 0
OneReading = (s : List ℕ) (o x y : ℕ) → x ≡ read_of s o → y ≡ read_of s o → x ≡ y

abbrev pub OnePart : Type 0
OnePart = (m : List ℕ) (base format px py width : ℕ) (x y : Part) → x ≡ part_of m base format px py width → y ≡ part_of m base format px py width → x ≡ y

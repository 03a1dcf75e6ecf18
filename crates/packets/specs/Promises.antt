-- What is promised of the reader, whatever carries the register writes out: `took` (Reader) says what a byte brings, `fed` (Delivery) what bytes make of reader,
-- state and answers, and `called` (Answers) what a call with a lent run for its answers leaves. Each promise is proved in proofs/.
-- Assumes nothing.
use Rattle.std.specs.Prelude.{◌≡◌, ℕ, ◌+◌, ◌/◌, ◌%◌, ◌^◌, ◌<◌, ◌≤◌, true, false, List, [], ◌∷◌, ◌++◌, length, take}
use Rattle.packets.specs.declared.Reader.{Reader}
use Rattle.packets.specs.declared.Heard.{Heard}
use Rattle.packets.specs.Header.{turned_down, offsets_of}
use Rattle.packets.specs.Reader.{blank, shut, took}
use Rattle.packets.specs.Delivery.{Note, nine, Writer, Delivery, delivery, fed}
use Rattle.packets.specs.Answers.{call, called, holding}

-- ---- the contracts allow one outcome
abbrev pub OneOpen : Type 0
OneOpen = (x y : Reader) → x ≡ blank → y ≡ blank → x ≡ y

abbrev pub OneTake : Type 0
OneTake = (b : ℕ) (r : Reader) (x y : Heard) → x ≡ took b r → y ≡ took b r → x ≡ y

-- pieces as one run of bytes
unfoldable pub joined : List (List ℕ) → List ℕ
joined [] = []
joined (piece ∷ pieces) = piece ++ joined pieces

-- the bytes of some words, low byte first
abbrev pub spelled : List ℕ → List ℕ
spelled [] = []
spelled (w ∷ ws) = w % 2 ^ 8 ∷ w / 2 ^ 8 % 2 ^ 8 ∷ w / 2 ^ 16 % 2 ^ 8 ∷ w / 2 ^ 24 ∷ spelled ws

module _ {S : Type 0} (write : Writer S) where
  -- ---- Pieces. However the bytes are divided among calls, reader, state and the sequence of answers are the same

  -- a call begins with no answers of its own; the caller puts them behind those of the calls before
  abbrev pub one_call : List ℕ → Delivery S → Delivery S
  one_call piece d =
      let t = fed write piece (delivery d.reader d.state []) in delivery t.reader t.state (d.notes ++ t.notes)

  unfoldable pub calls : List (List ℕ) → Delivery S → Delivery S
  calls [] d = d
  calls (piece ∷ pieces) d = calls pieces (one_call piece d)

  abbrev pub AnyPieces : Type 0
  AnyPieces = (pieces : List (List ℕ)) (d : Delivery S) → calls pieces d ≡ fed write (joined pieces) d

  -- ---- Calls. What a call leaves: reader and state are those of the bytes that it used, from no answers, and the lent run holds their answers' words and then
  -- what it held
  abbrev pub CallTook : Type 0
  CallTook = (r : Reader) (s : S) (piece run : List ℕ)
      → let n = (called write r s piece run).used in
      let d = fed write (take n piece) (delivery r s []) in (n ≤ length piece) × (called write r s piece run ≡ call d.reader d.state (holding run d.notes) n)

  -- it stops only where the run has no room for one more answer
  abbrev pub StopsFull : Type 0
  StopsFull = (r : Reader) (s : S) (piece run : List ℕ) → (called write r s piece run).used < length piece
      → length run / 3 ≤ (called write r s piece run).lent.answered

  -- a reader holds at most three bytes of a word
  abbrev pub HeldShort : Type 0
  HeldShort = (bytes : List ℕ) (d : Delivery S) → d.reader.held < 4 → (fed write bytes d).reader.held < 4

  -- so room for an answer to every four bytes is room enough
  abbrev pub RoomEnough : Type 0
  RoomEnough = (r : Reader) (s : S) (piece run : List ℕ) → r.held < 4 → (length piece + 3) / 4 ≤ length run / 3
      → (called write r s piece run).used ≡ length piece

  -- ---- Packets

  -- register writes one after the other, a word to each offset
  unfoldable pub carried : List ℕ → List ℕ → Delivery S → Delivery S
  carried [] ws d = d
  carried (o ∷ os) [] d = d
  carried (o ∷ os) (w ∷ ws) d = carried os ws (delivery d.reader (write o w d.state).state (d.notes ++ ((write o w d.state).note ∷ [])))

  -- a whole packet is the register writes that its header names, each answered, and the reader is empty again
  abbrev pub PacketCarried : Type 0
  PacketCarried = (s : S) (notes : List Note) (h : ℕ) (ws : List ℕ) → h < 2 ^ 32 → turned_down h ≡ false → length ws ≡ length (offsets_of h)
      → fed write (spelled (h ∷ ws)) (delivery blank s notes) ≡ carried (offsets_of h) ws (delivery blank s notes)

  -- a packet of no words ends with its header
  abbrev pub NoWords : Type 0
  NoWords = (s : S) (notes : List Note) (h : ℕ) → h < 2 ^ 32 → turned_down h ≡ false → offsets_of h ≡ [] → fed write (spelled (h ∷ [])) (delivery blank s notes) ≡ delivery blank s notes

  -- one turned down is answered once; the tail is then empty, later bytes change nothing, and the state stays
  abbrev pub NineOnce : Type 0
  NineOnce = (s : S) (notes : List Note) (h : ℕ) (later : List ℕ) → turned_down h ≡ true
      → fed write (spelled (h ∷ []) ++ later) (delivery blank s notes) ≡ delivery shut s (notes ++ (nine ∷ []))

  -- with the reader opened anew the next bytes are taken as if that packet had not come
  abbrev pub Reopened : Type 0
  Reopened = (s : S) (notes : List Note) (h : ℕ) (dropped later : List ℕ) → turned_down h ≡ true
      → let d = fed write (spelled (h ∷ []) ++ dropped) (delivery blank s notes) in
      fed write later (delivery blank d.state d.notes) ≡ fed write later (delivery blank s (notes ++ (nine ∷ [])))

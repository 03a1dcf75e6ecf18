-- What is promised of packets that the engine takes, for an outside expert to read first. The contract of `feed` says that reader, engine, memory, the lent run of
-- answers, how many there are and how many bytes were used are what `called by_engine` gives, for every reader, engine, memory, piece and run.
-- Assumes nothing.
use Rattle.std.specs.Prelude.{◌≡◌, false, List, [], ◌∷◌, ◌++◌, map, ℕ, ◌^◌, ◌<◌, length}
use Rattle.packets.specs.declared.Reader.{Reader}
use Rattle.packets.specs.declared.Event.{Event}
use Rattle.packets.specs.declared.Event.TheVariants.{Nothing, Write, Closed}
use Rattle.packets.specs.Header.{turned_down, offsets_of}
use Rattle.packets.specs.Reader.{blank, took}
use Rattle.packets.specs.Delivery.{Note, Delivery, delivery, fed}
use Rattle.packets.specs.Answers.{Call, called}
use Rattle.packets.specs.Promises.{AnyPieces, CallTook, StopsFull, HeldShort, RoomEnough, spelled, NoWords, NineOnce, Reopened}
use Rattle.engine.specs.declared.Engine.{Engine}
use Rattle.engine.specs.Promises.{Sound}
use Rattle.engine.specs.Writes.{Run, played}
use Rattle.engine.specs.Writes as writes
use Rattle.intake.specs.Intake.{Machine, machine, note_of, by_engine}

-- ---- the contract allows one outcome
abbrev pub OneFed : Type 0
OneFed = (r : Reader) (s : Machine) (piece run : List ℕ) (x y : Call Machine) → x ≡ called by_engine r s piece run → y ≡ called by_engine r s piece run → x ≡ y

-- ---- what is promised of a reader, whatever carries the writes out, with the engine to carry them out
pub record WithTheEngine : Type 0 where
  pub any_pieces : AnyPieces by_engine
  pub call_took : CallTook by_engine
  pub stops_full : StopsFull by_engine
  pub held_short : HeldShort by_engine
  pub room_enough : RoomEnough by_engine
  pub no_words : NoWords by_engine
  pub nine_once : NineOnce by_engine
  pub reopened : Reopened by_engine

-- ---- a whole packet is `played` of the writes that its header names: engine, memory and answers; the reader is empty again
abbrev pub paired : List ℕ → List ℕ → List writes.Write
paired [] ws = []
paired (o ∷ os) [] = []
paired (o ∷ os) (w ∷ ws) = record { offset = o; word = w } ∷ paired os ws

abbrev pub reached : List Note → Run → Delivery Machine
reached notes p = delivery blank (machine p.engine p.memory) (notes ++ map note_of p.answers)

abbrev pub PacketPlayed : Type 0
PacketPlayed = (e : Engine) (m : List ℕ) (notes : List Note) (h : ℕ) (ws : List ℕ) → h < 2 ^ 32 → turned_down h ≡ false → length ws ≡ length (offsets_of h)
    → fed by_engine (spelled (h ∷ ws)) (delivery blank (machine e m) notes) ≡ reached notes (played e m (paired (offsets_of h) ws))

-- ---- of any bytes, and any reader: which writes they bring hangs on neither engine nor memory, and what these are then is `played` of the writes
abbrev pub brought : Event → List writes.Write → List writes.Write
brought Nothing more = more
brought (Write o w) more = record { offset = o; word = w } ∷ more
brought Closed more = more

unfoldable pub writes_in : Reader → List ℕ → List writes.Write
writes_in r [] = []
writes_in r (b ∷ bytes) = brought (took b r).event (writes_in (took b r).reader bytes)

abbrev pub BytesPlayed : Type 0
BytesPlayed = (r : Reader) (e : Engine) (m : List ℕ) (notes : List Note) (bytes : List ℕ)
    → let p = played e m (writes_in r bytes) in (fed by_engine bytes (delivery r (machine e m) notes)).state ≡ machine p.engine p.memory

-- so an engine that met the standing condition of writes meets it after any bytes, and the memory keeps its length
abbrev pub SoundFed : Type 0
SoundFed = (r : Reader) (e : Engine) (m : List ℕ) (notes : List Note) (bytes : List ℕ) → Sound e
    → let s = (fed by_engine bytes (delivery r (machine e m) notes)).state in Sound s.engine × (length s.memory ≡ length m)

-- The promises of packets that the engine takes.
-- Assumes nothing.
use mathlib.Core.Path.{◌≡◌, refl, ◌∙◌}
use mathlib.Core.List.{List, [], ◌∷◌, ◌++◌, append_assoc, append-nil}
use Prim.Native.Nat.{ℕ}
use Rattle.basics.specs.Each.{each}
use Rattle.basics.proofs.One.{settled}
use Rattle.packets.specs.declared.Event.{Event}
use Rattle.packets.specs.declared.Event.TheVariants.{Nothing, Write, Closed}
use Rattle.packets.specs.Header.{offsets_of}
use Rattle.packets.specs.Reader.{blank, took}
use Rattle.packets.specs.Delivery.{Note, delivery, told, taken, fed}
use Rattle.packets.specs.Answers.{called}
use Rattle.packets.specs.Promises.{carried}
use Rattle.packets.proofs.Promises.{any-pieces, no-words, nine-once, reopened, packet-carried, fed-keeps}
use Rattle.packets.proofs.Holding.{call-took, stops-full}
use Rattle.packets.proofs.Room.{held-short, room-enough}
use lib.ListN.{length}
use Rattle.engine.specs.declared.Engine.{Engine}
use Rattle.engine.specs.Promises.{Sound}
use Rattle.engine.proofs.Waiting.{sound-kept}
use Rattle.engine.proofs.Frame.{write-left}
use Rattle.engine.specs.Step.{written}
use Rattle.engine.specs.Writes.{played}
use Rattle.engine.specs.Writes as writes
use Rattle.intake.specs.Intake.{Machine, machine, note_of, by_engine}
use Rattle.intake.specs.Promises.{OneFed, WithTheEngine, paired, reached, PacketPlayed, brought, writes_in, BytesPlayed, SoundFed}

pub one-fed : OneFed
one-fed r s piece run x y = settled (called by_engine r s piece run) x y

pub with-the-engine : WithTheEngine
with-the-engine = record {
  any_pieces = any-pieces by_engine;
  call_took = call-took by_engine;
  stops_full = stops-full by_engine;
  held_short = held-short by_engine;
  room_enough = room-enough by_engine;
  no_words = no-words by_engine;
  nine_once = nine-once by_engine;
  reopened = reopened by_engine;
}

-- ---- register writes one after the other
carried-played : (os ws : List ℕ) (e : Engine) (m : List ℕ) (notes : List Note)
    → carried by_engine os ws (delivery blank (machine e m) notes) ≡ reached notes (played e m (paired os ws))
unfolding carried played
carried-played [] ws e m notes = rw append-nil
carried-played (o ∷ os) [] e m notes = rw append-nil
carried-played (o ∷ os) (w ∷ ws) e m notes =
    let st = written e m o w in
    carried-played os ws st.engine st.memory (notes ++ (note_of st.answer ∷ [])) ∙ rw append_assoc

pub packet-played : PacketPlayed
packet-played e m notes h ws f g k = packet-carried by_engine (machine e m) notes h ws f g k ∙ carried-played (offsets_of h) ws e m notes

-- ---- any bytes
abbrev Plays : List writes.Write → Machine → Machine → Type 0
Plays ws s t = t ≡ machine (played s.engine s.memory ws).engine (played s.engine s.memory ws).memory

pub bytes-played : BytesPlayed
unfolding each taken writes_in played
bytes-played r e m notes [] = refl
bytes-played r e m notes (b ∷ bytes) = by-event (took b r).event (λ e m notes. bytes-played (took b r).reader e m notes bytes)
  where
    by-event : (v : Event)
        → ((e : Engine) (m : List ℕ) (notes : List Note) → Plays (writes_in (took b r).reader bytes) (machine e m) (fed by_engine bytes (delivery (took b r).reader (machine e m) notes)).state)
        → Plays (brought v (writes_in (took b r).reader bytes)) (machine e m) (fed by_engine bytes (told by_engine v (took b r).reader (machine e m) notes)).state
    by-event Nothing more = more e m notes
    by-event (Write o w) more = more (written e m o w).engine (written e m o w).memory _
    by-event Closed more = more e m _

pub sound-fed : SoundFed
sound-fed r e m notes bytes sound =
    fed-keeps by_engine (λ s. Sound s.engine × (length s.memory ≡ length m))
    (λ o w s h. (sound-kept s.engine s.memory o w h.0, (write-left s.engine s.memory o w).long ∙ h.1)) bytes (delivery r (machine e m) notes) (sound, refl)

-- A call for packets: by whether the bytes are a reader and a state; and the promises of it.
-- Assumes nothing.
use mathlib.Core.Path.{◌≡◌, ap, ◌∙◌}
use mathlib.Core.Bool.{true, false}
use mathlib.Core.List.{List, []}
use Prim.Native.Nat.{ℕ}
use lib.ListN.{take}
use Rattle.packets.specs.declared.Reader.{Reader}
use Rattle.packets.specs.Delivery.{delivery}
use Rattle.packets.specs.Answers.{called}
use Rattle.packets.specs.Answers as answers
use Rattle.packets.proofs.Promises.{any-pieces, packet-carried, no-words, nine-once, reopened, fed-keeps}
use Rattle.packets.proofs.Holding.{call-took, stops-full}
use Rattle.packets.proofs.Room.{held-short, room-enough}
use Rattle.tail.specs.Layout.{is_reader}
use Rattle.tail.specs.Layout as tail
use Rattle.tail.proofs.Laws.{valid}
use Rattle.tail.proofs.Promises.{stays-reader}
use Rattle.engine.specs.Step.{written}
use Rattle.state.specs.Layout.{decoded, is_state}
use Rattle.capi.specs.Calls.{written_to}
use Rattle.state.proofs.Back.{stays-state}
use Rattle.capi.specs.Packets.{Kept, kept, by_call, piece_call, packet_call, packet_called, packets_to}
use Rattle.capi.specs.Promises.{WithTheCalls, StaysBoth}

module _ (r s m piece run : List ℕ) where
  pub not-reader : is_reader r ≡ false → packet_call r s m run 255 0 0 ≡ packets_to r s m piece run
  unfolding packets_to
  not-reader h = rw h

  pub not-state : is_reader r ≡ true → is_state s ≡ false → packet_call r s m run 255 0 0 ≡ packets_to r s m piece run
  unfolding packets_to
  not-state h k = rw (h, k)

  pub packets-fed : is_reader r ≡ true → is_state s ≡ true → {d r' : Reader} {b s' m' run' : List ℕ} {used answered : ℕ} → d ≡ tail.decoded r
      → piece_call r' s' m' run' used answered ≡ called by_call d (kept s m) piece run → b ≡ tail.encoded r' → packet_call b s' m' run' 0 used answered ≡ packets_to r s m piece run
  unfolding packets_to
  packets-fed h k p f g =
      rw (h, k, g) (ap (λ (c : answers.Call Kept). packet_called c) (f ∙ ap (λ (d : Reader). called by_call d (kept s m) piece run) p))

pub with-the-calls : WithTheCalls
with-the-calls = record {
  any_pieces = any-pieces by_call;
  call_took = call-took by_call;
  stops_full = stops-full by_call;
  held_short = held-short by_call;
  room_enough = room-enough by_call;
  packet_carried = packet-carried by_call;
  no_words = no-words by_call;
  nine_once = nine-once by_call;
  reopened = reopened by_call;
}

-- ---- a reader stays a reader, and a state a state
write-stays : (o d : ℕ) (k : Kept) → is_state k.state ≡ true → is_state (by_call o d k).state.state ≡ true
unfolding written_to
write-stays o d k h = rw h (stays-state (written (decoded k.state) k.memory o d).engine)

pub stays-both : StaysBoth
unfolding packets_to
stays-both r s m piece run h k =
    let c = called by_call (tail.decoded r) (kept s m) piece run in
    let took = (call-took by_call (tail.decoded r) (kept s m) piece run).1 in
    let bytes = take c.used piece in
    let short = held-short by_call bytes (delivery (tail.decoded r) (kept s m) []) (valid r h).held in
    rw (h, k) (
      stays-reader c.reader (rw (ap (λ (c : answers.Call Kept). c.reader) took) short),
      rw (ap (λ (c : answers.Call Kept). c.state) took) (fed-keeps by_call (λ x. is_state x.state ≡ true) write-stays bytes (delivery (tail.decoded r) (kept s m) []) k),
    )

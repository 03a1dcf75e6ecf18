-- What is kept beside the registers: it is what they say, after any write, and no answer hangs on it.
-- Assumes nothing.
use mathlib.Core.Path.{◌≡◌, refl, sym, ◌∙◌}
use mathlib.Core.Bool.{Bool, true, false, cond}
use mathlib.Core.List.{List, [], ◌∷◌}
use Prim.Native.Nat.{ℕ, ◌+◌, ◌^◌}
use lib.Dec.{eqb, ltb}
use lib.ListN.{length}
use Rattle.registers.specs.declared.Place.{Place}
use Rattle.registers.specs.declared.Place.TheVariants.{Register, Pattern, Launch, Nowhere}
use Rattle.registers.specs.Regs.{put_reg}
use Rattle.registers.specs.Kept.{kept}
use Rattle.registers.specs.Offsets.{place_of}
use Rattle.bank.specs.declared.Bank.{Bank}
use Rattle.bank.specs.Bank.{fresh_bank, stored, patterned}
use Rattle.rooms.specs.declared.Rooms.{Rooms}
use Rattle.formats.specs.Format.{source_of}
use Rattle.formats.specs.Step.{step_of}
use Rattle.rooms.specs.Room.{room_of, source_room, target_room, worked}
use Rattle.rooms.proofs.RoomLaws.{has_on, target-has, source-has, after-worked}
use Rattle.host.specs.Host.{words_of}
use Rattle.command.specs.Decode.{feed_of}
use Rattle.cuts.specs.Cut.{bit, number, width}
use Rattle.acts.specs.declared.Blit.{Blit}
use Rattle.acts.specs.Deed.{rect_ended, line_ended, Made, Deed, carrying, starting}
use Rattle.acts.proofs.Cases.{picked, by-number}
use Rattle.engine.specs.declared.Engine.{Engine}
use Rattle.engine.specs.Step.{Answer, Step, step, judging, fresh_engine, regs, idle, stored_in, carried, launched, commanded, to_register, to_pattern, to_place, written}
use Rattle.engine.specs.Writes.{Lent, lent_to, by}
use Rattle.engine.specs.Promises.{KeptFresh, KeptAlways, KeptEver, RoomHolds, keeping, KeptAside}

-- ---- no command writes a register of a surface

abbrev Says : Bank → Made → Type 0
Says b k = (len : ℕ) → worked len k.bank.regs ≡ worked len b.regs

abbrev SaysDeed : Bank → Deed → Type 0
SaysDeed b d = Says b d.makes

rect-says : (b : Bank) (len : ℕ) → worked len (rect_ended b).regs ≡ worked len b.regs
unfolding rect_ended stored put_reg worked
rect-says b len = refl

line-says : (b : Bank) (style len : ℕ) → worked len (line_ended b style).regs ≡ worked len b.regs
unfolding line_ended stored put_reg worked
line-says b style len = refl

at-says : (b : Bank) (d len : ℕ) → (worked len (stored b 0x5c d).regs ≡ worked len b.regs) × (worked len (stored b 0x6c d).regs ≡ worked len b.regs)
unfolding stored put_reg worked
at-says b d len = (refl, refl)

carrying-says : (b : Bank) (k : Blit) (m : List ℕ) → SaysDeed b (carrying b k m)
unfolding carrying
carrying-says b k m =
    by-number (SaysDeed b) (number b.regs) _ _ _ _ _ _ _ (λ _ len. refl) (λ _. rect-says b) (λ _. rect-says b)
    (λ _. picked (Says b) (ltb 0 (words_of (feed_of b.regs))) _ _ (λ _ len. refl) (λ _. rect-says b))
    (λ _. rect-says b) (λ _ _. line-says b _) (λ _ len. refl)

starting-says : (b : Bank) (k : Blit) (m : List ℕ) (d : ℕ) → SaysDeed b (starting b k m d)
unfolding starting
starting-says b k m d =
    by-number (SaysDeed b) (number b.regs) _ _ _ _ _ _ _ (λ _ len. refl)
    (λ _ len. rect-says (stored b 0x5c d) len ∙ (at-says b d len).0) (λ _ len. rect-says (stored b 0x5c d) len ∙ (at-says b d len).0)
    (λ _. picked (Says b) (ltb k.taken (words_of (feed_of b.regs))) _ _
    (λ _. picked (Says b) (ltb (k.taken + 1) (words_of (feed_of b.regs))) _ _ (λ _ len. refl) (λ _. rect-says b)) (λ _. rect-says b))
    (λ _ len. rect-says (stored b 0x6c d) len ∙ (at-says b d len).1) (λ _ _ len. line-says (stored b 0x6c d) _ len ∙ (at-says b d len).1) (λ _ len. refl)

-- ---- what an engine keeps, opened for so many bytes
record Keeps (len : ℕ) (e : Engine) : Type 0 where
  opened : e.opened ≡ len
  rooms : e.rooms ≡ worked len (regs e)

abbrev After : ℕ → Step → Type 0
After len s = Keeps len s.engine

module _ (len : ℕ) where
  stored-keeps : (e : Engine) (o d : ℕ) → Keeps len e → Keeps len (stored_in e o d)
  unfolding stored_in stored
  stored-keeps e o d k = record { opened = k.opened; rooms = rw (k.opened, k.rooms) (after-worked len (kept o d) (regs e) o) }

  judged-keeps : (old e : Engine) (m : List ℕ) (d : Deed) → Keeps len old → Keeps len e → SaysDeed e.bank d → After len (judging old e m d)
  judged-keeps old e m d k j says =
      picked (After len) (eqb d.verdict 0) _ _ (λ _. record { opened = j.opened; rooms = j.rooms ∙ sym (says len) }) (λ _. k)

  place-keeps : (p : Place) (e : Engine) (m : List ℕ) (o d : ℕ) → Keeps len e → After len (to_place p e m o d)
  unfolding to_register to_pattern commanded carried launched patterned
  place-keeps Register e m o d k =
      let s = stored-keeps e 0x70 d k in
      let c = idle (stored_in e 0x70 d) in
      let j : Keeps len c = record { opened = s.opened; rooms = s.rooms } in
      picked (After len) (eqb o 0x70) _ _
      (λ _. picked (After len) (bit d 8) _ _ (λ _. judged-keeps e c m (carrying c.bank c.blit m) k j (carrying-says c.bank c.blit m)) (λ _. j))
      (λ _. picked (After len) e.blit.waiting _ _ (λ _. k) (λ _. stored-keeps e o d k))
  place-keeps (Pattern i) e m o d k = picked (After len) e.blit.waiting _ _ (λ _. k) (λ _. record { opened = k.opened; rooms = k.rooms })
  place-keeps Launch e m o d k = judged-keeps e e m (starting e.bank e.blit m d) k k (starting-says e.bank e.blit m d)
  place-keeps Nowhere e m o d k = k

  written_keeps : (e : Engine) (m : List ℕ) (o d : ℕ) → Keeps len e → After len (written e m o d)
  unfolding written
  written_keeps e m o d k =
      picked (After len) (ltb (2 ^ 24) (length m)) _ _ (λ _. k)
      (λ _. picked (After len) (eqb (length m) e.opened) _ _ (λ _. place-keeps (place_of o) e m o d k) (λ _. k))

  lent-keeps : (e : Engine) (ws : List Lent) → Keeps len e → Keeps len (lent_to e ws)
  unfolding lent_to
  lent-keeps e [] k = k
  lent-keeps e (w ∷ ws) k = lent-keeps (by e w.memory w.write).engine ws (written_keeps e w.memory w.write.offset w.write.word k)

pub kept_fresh : KeptFresh
unfolding fresh_engine fresh_bank worked source_room target_room room_of source_of step_of
kept_fresh len = refl

pub kept-always : KeptAlways
kept-always e m o d k = (written_keeps e.opened e m o d (record { opened = refl; rooms = k })).rooms

pub kept-ever : KeptEver
unfolding fresh_engine
kept-ever len ws = (lent-keeps len (fresh_engine len) ws (record { opened = refl; rooms = kept_fresh len })).rooms

-- ---- pixels in the room
pub room-holds : RoomHolds
unfolding worked
room-holds = record {
  target = λ len r p a b. has_on (target-has len r.dst_base_addr r.dst_format) p.x p.y a b;
  source = λ len r p e a b. has_on (source-has len r.src_base_addr r.src_format (width r) e) p.x p.y a b;
}

-- ---- whatever is kept
record Aside (k : Rooms) (s t : Step) : Type 0 where
  answer : t.answer ≡ s.answer
  memory : t.memory ≡ s.memory
  engine : keeping t.engine k ≡ keeping s.engine k

both : {k : Rooms} (t : Bool) {x y x' y' : Step} → Aside k x x' → Aside k y y' → Aside k (cond t x y) (cond t x' y')
both true p q = p
both false p q = q

like : {k : Rooms} {e e' : Engine} {m : List ℕ} {a : Answer} → keeping e' k ≡ keeping e k → Aside k (step e m a) (step e' m a)
like p = record { answer = refl; memory = refl; engine = p }

judged-aside : (old e : Engine) (k : Rooms) (m : List ℕ) (d : Deed) → Aside k (judging old e m d) (judging (keeping old k) (keeping e k) m d)
judged-aside old e k m d = both (eqb d.verdict 0) (like refl) (like refl)

place-aside : (p : Place) (e : Engine) (k : Rooms) (m : List ℕ) (o d : ℕ) → Aside k (to_place p e m o d) (to_place p (keeping e k) m o d)
unfolding to_register to_pattern commanded carried launched stored_in
place-aside Register e k m o d =
    let c = idle (stored_in e 0x70 d) in
    both (eqb o 0x70) (both (bit d 8) (judged-aside e c k m (carrying c.bank c.blit m)) (like refl)) (both e.blit.waiting (like refl) (like refl))
place-aside (Pattern i) e k m o d = both e.blit.waiting (like refl) (like refl)
place-aside Launch e k m o d = judged-aside e e k m (starting e.bank e.blit m d)
place-aside Nowhere e k m o d = like refl

pub kept-aside : KeptAside
unfolding written
kept-aside e k m o d =
    let a = both (ltb (2 ^ 24) (length m)) (like refl) (both (eqb (length m) e.opened) (place-aside (place_of o) e k m o d) (like refl)) in
    (a.answer, a.memory, a.engine)

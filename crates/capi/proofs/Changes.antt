-- What a write leaves: but for some words of the state, the bytes of the engine before it are those of the engine after it.
-- Assumes nothing.
use mathlib.Core.Path.{◌≡◌, refl, sym, ap, ◌∙◌}
use mathlib.Core.Bool.{true, false, cond, true≢false}
use mathlib.Core.List.{List, [], ◌∷◌}
use Prim.Native.Nat.{ℕ, ◌+◌, ◌*◌, ◌/◌, ◌^◌}
use native.Mathlib.Omega.{arith}
use lib.Dec.{eqb, ltb}
use lib.ListN.{length}
use borrow.Author.Tests.{ne_eqb, eqb-false}
use Rattle.registers.specs.declared.Regs.{Regs}
use Rattle.registers.specs.declared.Place.{Place}
use Rattle.registers.specs.declared.Place.TheVariants.{Register, Pattern, Launch, Nowhere}
use Rattle.registers.specs.Regs.{put_reg, get_reg}
use Rattle.registers.specs.Kept.{kept, one_of}
use Rattle.registers.specs.Offsets.{place_of}
use Rattle.bank.specs.Bank.{stored}
use Rattle.registers.proofs.Arms.{Each, none_of}
use Rattle.registers.proofs.RegsLaws.{registers, get-put, get-nowhere}
use Rattle.rooms.specs.Room.{of_target, of_source}
use Rattle.host.specs.Host.{words_of}
use Rattle.command.specs.Decode.{feed_of}
use Rattle.cuts.specs.Cut.{bit, number}
use Rattle.table.specs.Table.{fill_verdict, copy_verdict, stretch_verdict, host_verdict, line_verdict}
use Rattle.acts.specs.declared.Blit.{Blit}
use Rattle.acts.specs.Deed.{rect_ended, line_ended, Made, Deed, carrying, starting}
use Rattle.engine.specs.declared.Engine.{Engine}
use Rattle.engine.specs.Step.{Step, making, judging, regs, with_blit, idle, stored_in, carried, launched, commanded, to_register, to_place, written}
use Rattle.engine.proofs.Short.{after_rect, after_line, filled, copied, stretched, lined, begun, fed}
use Rattle.acts.proofs.Cases.{by-test, picked, by-number}
use Rattle.state.specs.Layout.{slot, byte_in, encoded, with_slots, command_slots}
use Rattle.capi.specs.Asked.{Draws}
use Rattle.state.proofs.Places.{Word, encoded-length, encoded-byte, slots-laid}

pub record Like (os : List ℕ) (e after : Engine) : Type 0 where
  pub pattern : e.bank.pattern ≡ after.bank.pattern
  pub slots : (o : ℕ) → one_of o os ≡ false → slot e o ≡ slot after o

like-byte : (os : List ℕ) (e after : Engine) → Like os e after → (k : ℕ) → one_of (k / 4 * 4) os ≡ false → byte_in e k ≡ byte_in after k
unfolding byte_in
like-byte os e after h k f = rw (h.slots (k / 4 * 4) f, h.pattern)

-- so those words alone need to be put
pub like-laid : (os : List ℕ) (e after : Engine) → Like os e after → Each Word os → with_slots (encoded e) after os ≡ encoded after
like-laid os e after h w =
    slots-laid os (encoded e) after (encoded-length e) w (λ k b f. encoded-byte e k b ∙ like-byte os e after h k f)

-- ---- a register after a store into another

get_other : (o v a : ℕ) (r : Regs) → (o ≡ a → ⊥) → get_reg a (put_reg o v r) ≡ get_reg a r
get_other o v a r n =
    by-test (λ t. one_of a registers ≡ t → get_reg a (put_reg o v r) ≡ get_reg a r) (one_of a registers)
    (λ _ e. get-put o v r a e ∙ ap (λ t. cond t v (get_reg a r)) (ne_eqb o a n))
    (λ _ e. get-nowhere a (put_reg o v r) (none_of a registers e) ∙ sym (get-nowhere a r (none_of a registers e))) refl

slot-other : (e : Engine) (o d a : ℕ) → (o ≡ a → ⊥) → (stored_in e o d).rooms ≡ e.rooms → slot e a ≡ slot (stored_in e o d) a
unfolding slot stored_in stored
slot-other e o d a n same = rw (same, get_other o (kept o d) a e.bank.regs n)

-- ---- the ways an engine changes

pub like-same : {os : List ℕ} (e : Engine) → Like os e e
like-same e = record { pattern = refl; slots = λ o f. refl }

pub like-then : {os : List ℕ} {a b c : Engine} → Like os a b → Like os b c → Like os a c
like-then h k = record { pattern = h.pattern ∙ k.pattern; slots = λ o f. h.slots o f ∙ k.slots o f }

pub like-stored : (os : List ℕ) (e : Engine) (o d : ℕ) → one_of o os ≡ true → (stored_in e o d).rooms ≡ e.rooms → Like os e (stored_in e o d)
unfolding stored_in stored
like-stored os e o d t same =
    record { pattern = refl; slots = λ a f. slot-other e o d a (λ q. true≢false (sym t ∙ ap (λ x. one_of x os) q ∙ f)) same }

-- by a store into a register of a surface: that word, and those of what is kept of the surface
abbrev target_slots : ℕ → List ℕ
target_slots o = o ∷ 0x84 ∷ 0x88 ∷ []

abbrev source_slots : ℕ → List ℕ
source_slots o = o ∷ 0x7c ∷ 0x80 ∷ []

target-slot : (e : Engine) (o d a : ℕ) → of_target o ≡ true → Each (λ b. eqb a b ≡ false) (target_slots o) → slot e a ≡ slot (stored_in e o d) a
unfolding slot stored_in stored
target-slot e o d a t (eo, (e84, (e88, _))) = rw (t, e84, e88, get_other o (kept o d) a e.bank.regs (λ q. eqb-false a o eo (sym q)))

source-slot : (e : Engine) (o d a : ℕ) → of_target o ≡ false → of_source o ≡ true → Each (λ b. eqb a b ≡ false) (source_slots o) → slot e a ≡ slot (stored_in e o d) a
unfolding slot stored_in stored
source-slot e o d a t f (eo, (e7c, (e80, _))) = rw (t, f, e7c, e80, get_other o (kept o d) a e.bank.regs (λ q. eqb-false a o eo (sym q)))

pub like-target : (e : Engine) (o d : ℕ) → of_target o ≡ true → Like (target_slots o) e (stored_in e o d)
unfolding stored_in stored
like-target e o d t = record { pattern = refl; slots = λ a f. target-slot e o d a t (none_of a (target_slots o) f) }

pub like-source : (e : Engine) (o d : ℕ) → of_target o ≡ false → of_source o ≡ true → Like (source_slots o) e (stored_in e o d)
unfolding stored_in stored
like-source e o d t f = record { pattern = refl; slots = λ a g. source-slot e o d a t f (none_of a (source_slots o) g) }

-- by a command: these words of the state
abbrev Led : Engine → Engine → Type 0
Led = Like command_slots

blit-slot : (e : Engine) (b : Blit) (a : ℕ) → Each (λ o. eqb a o ≡ false) command_slots → slot e a ≡ slot (with_blit e b) a
unfolding slot
blit-slot e b a (_, (_, (_, (_, (e4, (e44, (e48, _))))))) = simp (e4, e44, e48)

led-blit : (e : Engine) (b : Blit) → Led e (with_blit e b)
led-blit e b = record { pattern = refl; slots = λ a f. blit-slot e b a (none_of a command_slots f) }

led-rect : (e : Engine) → Led e (after_rect e)
unfolding rect_ended stored_in
led-rect e = like-stored command_slots e 0x6c _ refl refl

led-line : (e : Engine) (style : ℕ) → Led e (after_line e style)
unfolding line_ended stored_in
led-line e style = like-then (like-stored command_slots e 0x40 style refl refl) (like-stored command_slots (stored_in e 0x40 style) 0x5c _ refl refl)

-- ---- every command

-- the engine that a step leaves
abbrev Leaves : Engine → Step → Type 0
Leaves b s = Led b s.engine

module _ (b : Engine) where
  rect-led : (e : Engine) → Led b e → Led b (after_rect e)
  rect-led e h = like-then h (led-rect e)

  blit-led : (e : Engine) (x : Blit) → Led b e → Led b (with_blit e x)
  blit-led e x h = like-then h (led-blit e x)

  filled-led : (old e : Engine) (m : List ℕ) → Led b old → Led b e → Leaves b (filled old e m)
  filled-led old e m g h = picked (Leaves b) (eqb (fill_verdict (regs e) (length m)) 0) _ _ (λ _. rect-led e h) (λ _. g)

  copied-led : (old e : Engine) (m : List ℕ) → Led b old → Led b e → Leaves b (copied old e m)
  copied-led old e m g h = picked (Leaves b) (eqb (copy_verdict (regs e) (length m)) 0) _ _ (λ _. rect-led e h) (λ _. g)

  stretched-led : (old e : Engine) (m : List ℕ) → Led b old → Led b e → Leaves b (stretched old e m)
  stretched-led old e m g h = picked (Leaves b) (eqb (stretch_verdict (regs e) (length m)) 0) _ _ (λ _. rect-led e h) (λ _. g)

  lined-led : (old e : Engine) (m : List ℕ) → Led b old → Led b e → Leaves b (lined old e m)
  lined-led old e m g h = picked (Leaves b) (eqb (line_verdict (regs e) (length m)) 0) _ _ (λ _. like-then h (led-line e _)) (λ _. g)

  begun-led : (old e : Engine) (m : List ℕ) → Led b old → Led b e → Leaves b (begun old e m)
  begun-led old e m g h =
      picked (Leaves b) (eqb (host_verdict (regs e) (length m)) 0) _ _
      (λ _. picked (λ (k : Made). Leaves b (making e k)) (ltb 0 (words_of (feed_of (regs e)))) _ _ (λ _. blit-led e _ h) (λ _. rect-led (idle e) (blit-led e _ h))) (λ _. g)

  fed-led : (e : Engine) (m : List ℕ) (d : ℕ) → Led b e → Leaves b (fed e m d)
  fed-led e m d h =
      picked (Leaves b) (eqb (host_verdict (regs e) (length m)) 0) _ _
      (λ _. picked (λ (k : Made). Leaves b (making e k)) (ltb e.blit.taken (words_of (feed_of (regs e)))) _ _
      (λ _. picked (λ (k : Made). Leaves b (making e k)) (ltb (e.blit.taken + 1) (words_of (feed_of (regs e)))) _ _ (λ _. blit-led e _ h) (λ _. rect-led (idle e) (blit-led e _ h)))
      (λ _. rect-led (idle e) (blit-led e _ h)))
      (λ _. h)

  carried-led : (old e : Engine) (m : List ℕ) → Led b old → Led b e → Leaves b (carried old e m)
  unfolding carried carrying
  carried-led old e m g h =
      by-number (λ (d : Deed). Leaves b (judging old e m d)) (number (regs e)) _ _ _ _ _ _ _ (λ _. h) (λ _. copied-led old e m g h) (λ _. stretched-led old e m g h)
      (λ _. begun-led old e m g h) (λ _. filled-led old e m g h) (λ _ _. lined-led old e m g h) (λ _. g)

led-stored : (e : Engine) (o d : ℕ) → one_of o command_slots ≡ true → (stored_in e o d).rooms ≡ e.rooms → Led e (stored_in e o d)
led-stored = like-stored command_slots

launched-led : (e : Engine) (m : List ℕ) (d : ℕ) → Leaves e (launched e m d)
unfolding launched starting stored_in
launched-led e m d =
    by-number (λ (k : Deed). Leaves e (judging e e m k)) (number (regs e)) _ _ _ _ _ _ _ (λ _. like-same e)
    (λ _. copied-led e e (stored_in e 0x5c d) m (like-same e) (led-stored e 0x5c d refl refl))
    (λ _. stretched-led e e (stored_in e 0x5c d) m (like-same e) (led-stored e 0x5c d refl refl)) (λ _. fed-led e e m d (like-same e)) (λ _. filled-led e e (stored_in e 0x6c d) m (like-same e) (led-stored e 0x6c d refl refl))
    (λ _ _. lined-led e e (stored_in e 0x6c d) m (like-same e) (led-stored e 0x6c d refl refl)) (λ _. like-same e)

commanded-led : (e : Engine) (m : List ℕ) (d : ℕ) → Leaves e (commanded e m d)
unfolding commanded stored_in
commanded-led e m d =
    let h = like-then (led-stored e 0x70 d refl refl) (led-blit (stored_in e 0x70 d) _) in
    picked (Leaves e) (bit d 8) _ _ (λ _. carried-led e e (idle (stored_in e 0x70 d)) m (like-same e) h) (λ _. h)

-- ---- offsets that are neither a plain register's nor the pattern's

pub draws-command : (o : ℕ) → place_of o ≡ Register → o ≡ 0x70 → Draws o
draws-command o p e = record { register = λ _. e; pattern = λ i q. let z : ◌≡◌ {A = ℕ} 0 1 = cc in omega arith }

pub draws-launch : (o : ℕ) → place_of o ≡ Launch → Draws o
draws-launch o p = record { register = λ q. absurd (let z : ◌≡◌ {A = ℕ} 0 1 = cc in omega arith); pattern = λ i q. let z : ◌≡◌ {A = ℕ} 0 1 = cc in omega arith }

pub draws-nowhere : (o : ℕ) → place_of o ≡ Nowhere → Draws o
draws-nowhere o p = record { register = λ q. absurd (let z : ◌≡◌ {A = ℕ} 0 1 = cc in omega arith); pattern = λ i q. let z : ◌≡◌ {A = ℕ} 0 1 = cc in omega arith }

-- ---- a write that is not one of a plain register or of the pattern

place-led : (p : Place) (e : Engine) (m : List ℕ) (o d : ℕ) → place_of o ≡ p → Draws o → Leaves e (to_place p e m o d)
unfolding to_register
place-led Register e m o d q h =
    picked (Leaves e) (eqb o 0x70) _ _ (λ _. commanded-led e m d) (λ f. absurd (eqb-false o 0x70 f (h.register q)))
place-led (Pattern i) e m o d q h = absurd (h.pattern i q)
place-led Launch e m o d q h = launched-led e m d
place-led Nowhere e m o d q h = like-same e

pub written-led : (e : Engine) (m : List ℕ) (o d : ℕ) → Draws o → Led e (written e m o d).engine
unfolding written
written-led e m o d h =
    picked (Leaves e) (ltb (2 ^ 24) (length m)) _ _ (λ _. like-same e)
    (λ _. picked (Leaves e) (eqb (length m) e.opened) _ _ (λ _. place-led (place_of o) e m o d refl h) (λ _. like-same e))

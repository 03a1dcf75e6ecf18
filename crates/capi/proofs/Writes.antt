-- A call of write is the engine's write between the bytes of its state: a word that draws nothing, and any other.
-- Assumes nothing.
use mathlib.Core.Path.{◌≡◌, refl, sym, ap, ap₂, ◌∙◌}
use mathlib.Core.Bool.{Bool, true, false, cond, ◌&&◌, and-eq-true_iff}
use mathlib.Core.List.{List, [], ◌∷◌}
use Prim.Native.Nat.{ℕ, ◌+◌, ◌-◌, ◌*◌, ◌/◌, ◌%◌, ◌^◌, ◌<◌, ◌≤◌}
use native.Mathlib.Omega.{arith}
use lib.Dec.{eqb, ltb}
use lib.ListN.{length, get_or, length-take, length-drop}
use borrow.Author.Tests.{eq-eqb, ne_eqb, lt-ltb, le-ltb, le-leb, eqb-true, eqb-false, ltb-true, ltb-false}
use Rattle.std.specs.Prelude.{Ok, Err}
use Rattle.paint.specs.Tally.{tally}
use Rattle.registers.specs.declared.Place.TheVariants.{Register, Pattern}
use Rattle.registers.specs.Regs.{put_reg, get_reg}
use Rattle.registers.specs.Kept.{kept, one_of}
use Rattle.registers.specs.Offsets.{place_of}
use Rattle.bank.specs.Bank.{put_word, stored, patterned}
use Rattle.registers.proofs.Arms.{Each, of-each}
use Rattle.registers.proofs.RegsLaws.{registers}
use Rattle.registers.proofs.KeptLaws.{kept_word}
use Rattle.rooms.specs.Room.{worked, of_target, of_source}
use Rattle.registers.proofs.OffsetLaws.{register-listed, pattern-word}
use Rattle.engine.specs.declared.Engine.{Engine}
use Rattle.engine.specs.declared.Refusal.TheVariants.{Memory, Waiting}
use Rattle.engine.specs.Step.{Answer, Step, step, changed_of, with_bank, stored_in, to_register, to_pattern, written}
use Rattle.acts.proofs.Cases.{by-test}
use Rattle.basics.specs.Word.{word_at, with_word}
use Rattle.state.specs.Layout.{state_size, pattern_at, byte_of, slot, byte_in, encoded, regs_in, opened_in, decoded, is_state, Bytes, with_slots, command_slots, followed}
use Rattle.capi.specs.Calls.{packed, Call, call, packed_answer, called, written_to, Opening, opening, tested, plainly, registered}
use Rattle.capi.specs.Asked.{Draws}
use Rattle.state.proofs.Places.{Word, word-own, word-other, word-length, encoded-length, encoded-byte, same_bytes}
use Rattle.state.proofs.Follows.{followed-none, read-own, read-other}
use Rattle.state.proofs.Back.{Opened, opened, bytes_back}
use Rattle.capi.proofs.Changes.{Like, like-laid, like-stored, like-target, like-source, written-led}

-- a state is written by the engine that it holds
pub by-engine : (s m : List ℕ) (o d : ℕ) → is_state s ≡ true → written_to s m o d ≡ called (written (decoded s) m o d)
unfolding written_to
by-engine s m o d t = rw t

pub not_written : (s m : List ℕ) (o d : ℕ) → is_state s ≡ false → call s m (packed 255 0) 0 ≡ written_to s m o d
unfolding written_to
not_written s m o d t = rw t

-- ---- a write to command, a launch write, or one to no register

pub command-words : Each Word command_slots
command-words = ((refl, omega arith), ((refl, omega arith), ((refl, omega arith), ((refl, omega arith), ((refl, omega arith), ((refl, omega arith), ((refl, omega arith), tt)))))))

saved : (s m : List ℕ) (o d : ℕ) → Opened s → Draws o → with_slots s (written (decoded s) m o d).engine command_slots ≡ encoded (written (decoded s) m o d).engine
saved s m o d h q =
    let e = (written (decoded s) m o d).engine in
    ap (λ b. with_slots b e command_slots) (sym (bytes_back s h)) ∙ like-laid command_slots (decoded s) e (written-led (decoded s) m o d q) command-words

saved-as : (s m : List ℕ) (o d : ℕ) → Opened s → Draws o → (t : Step) → t ≡ written (decoded s) m o d → with_slots s t.engine command_slots ≡ encoded t.engine
saved-as s m o d h q t e = rw e (saved s m o d h q)

pub command-written : (s m : List ℕ) (o d : ℕ) → is_state s ≡ true → Bytes s → Draws o → {e after : Engine} {left : List ℕ} {a : Answer} → e ≡ decoded s
    → step after left a ≡ written e m o d → {s' : List ℕ} {r c : ℕ} → s' ≡ with_slots s after command_slots → r ≡ packed_answer a → c ≡ changed_of a
    → call s' left r c ≡ written_to s m o d
command-written s m o d t b q {e} {after} {left} {a} p w v u k =
    let w' : step after left a ≡ written (decoded s) m o d = w ∙ ap (λ x. written x m o d) p in
    (λ i. call ((v ∙ saved-as s m o d (opened s t b) q (step after left a) w') i) left (u i) (k i)) ∙ ap called w' ∙ sym (by-engine s m o d t)

-- ---- a word that draws nothing

abbrev joined : List ℕ → Opening → Call
joined m x = call x.state m x.answer 0

-- by the three tests: the state as it was, or what is to be made of it
abbrev passed : Bool → Bool → Bool → List ℕ → List ℕ → Opening
passed big right waits s x = cond big (opening s (packed 1 0)) (cond right (cond waits (opening s (packed 3 0)) (opening x 0)) (opening s (packed 1 0)))

by_tests : (big right waits : Bool) (e after : Engine) {s s' : List ℕ} (m : List ℕ) → encoded e ≡ s → (right ≡ true → encoded after ≡ s')
    → called (cond big (step e m (Err Memory)) (cond right (cond waits (step e m (Err Waiting)) (step after m (Ok (tally 0 0)))) (step e m (Err Memory))))
    ≡ joined m (passed big right waits s s')
by_tests true right waits e after m p q = ap (λ x. call x m (packed 1 0) 0) p
by_tests false true true e after m p q = ap (λ x. call x m (packed 3 0) 0) p
by_tests false true false e after m p q = ap (λ x. call x m 0 0) (q refl)
by_tests false false waits e after m p q = ap (λ x. call x m (packed 1 0) 0) p

-- the tests, by the engine that a state holds
held-tests : (s : List ℕ) (len : ℕ) (x : List ℕ)
    → tested s len x ≡ passed (ltb (2 ^ 24) len) (eqb len (decoded s).opened) (decoded s).blit.waiting s x
unfolding tested decoded
held-tests s len x = refl

plain-written : (s m : List ℕ) (o d : ℕ) (x : List ℕ) → is_state s ≡ true → Bytes s → (after : Engine)
    → written (decoded s) m o d
    ≡ cond (ltb (2 ^ 24) (length m)) (step (decoded s) m (Err Memory))
    (cond (eqb (length m) (decoded s).opened) (cond (decoded s).blit.waiting (step (decoded s) m (Err Waiting)) (step after m (Ok (tally 0 0)))) (step (decoded s) m (Err Memory)))
    → (length m ≡ (decoded s).opened → encoded after ≡ x) → {s' : List ℕ} {r : ℕ} → opening s' r ≡ tested s (length m) x → call s' m r 0 ≡ written_to s m o d
plain-written s m o d x t b after w k p =
    ap (joined m) (p ∙ held-tests s (length m) x)
    ∙ sym (by-engine s m o d t ∙ ap called w
    ∙ by_tests (ltb (2 ^ 24) (length m)) (eqb (length m) (decoded s).opened) (decoded s).blit.waiting (decoded s) after m (bytes_back s (opened s t b))
    (λ e. k (eqb-true (length m) (decoded s).opened e)))

-- what the tests do not let through is the same for all; what they let through is what was to be made
module _ (s : List ℕ) (len : ℕ) {s' : List ℕ} {r : ℕ} where
  pub tested-refused : (x y : List ℕ) → opening s' r ≡ tested s len x → (r ≡ 0 → ⊥) → opening s' r ≡ tested s len y
  unfolding tested
  tested-refused x y = by (ltb (2 ^ 24) len) (eqb len (opened_in s)) (eqb (word_at s 0x04) 1)
    where
      by : (big right waits : Bool) → opening s' r ≡ passed big right waits s x → (r ≡ 0 → ⊥) → opening s' r ≡ passed big right waits s y
      by true right waits p n = p
      by false true true p n = p
      by false true false p n = absurd (n (ap (λ (c : Opening). c.answer) p))
      by false false waits p n = p

  pub tested-taken : (x : List ℕ) → opening s' r ≡ tested s len x → r ≡ 0 → (s' ≡ x) × (len ≤ 2 ^ 24) × ((y : List ℕ) → opening y 0 ≡ tested s len y)
  unfolding tested
  tested-taken x = by (ltb (2 ^ 24) len) (eqb len (opened_in s)) (eqb (word_at s 0x04) 1) refl
    where
      by : (big right waits : Bool) → ltb (2 ^ 24) len ≡ big → opening s' r ≡ passed big right waits s x → r ≡ 0
          → (s' ≡ x) × (len ≤ 2 ^ 24) × ((y : List ℕ) → opening y 0 ≡ passed big right waits s y)
      by true right waits e p z = let a : r ≡ packed 1 0 = ap (λ (c : Opening). c.answer) p in absurd (omega arith)
      by false true true e p z = let a : r ≡ packed 3 0 = ap (λ (c : Opening). c.answer) p in absurd (omega arith)
      by false true false e p z = (ap (λ (c : Opening). c.state) p, ltb-false (2 ^ 24) len e, λ y. refl)
      by false false waits e p z = let a : r ≡ packed 1 0 = ap (λ (c : Opening). c.answer) p in absurd (omega arith)

-- of a register

register-right : Each (λ o. (eqb (o % 4) 0 && ltb o pattern_at) ≡ true) registers
register-right = (refl, (refl, (refl, (refl, (refl, (refl, (refl, (refl, (refl, (refl, (refl, (refl, (refl, (refl, (refl, (refl, (refl, (refl, (refl, (refl, (refl, (refl, (refl, (refl, (refl, tt)))))))))))))))))))))))))

pub register-word : (o : ℕ) → place_of o ≡ Register → Word o
register-word o q =
    let both = (and-eq-true_iff (eqb (o % 4) 0) (ltb o pattern_at)).0 (of-each (λ a. (eqb (a % 4) 0 && ltb a pattern_at) ≡ true) registers register-right o (register-listed o q)) in
    (eqb-true (o % 4) 0 both.0, ltb-true o pattern_at both.1)

own-slot : (e : Engine) (d : ℕ) → Each (λ o. slot (stored_in e o d) o ≡ kept o d) registers
unfolding slot stored_in stored put_reg get_reg
own-slot e d = (refl, (refl, (refl, (refl, (refl, (refl, (refl, (refl, (refl, (refl, (refl, (refl, (refl, (refl, (refl, (refl, (refl, (refl, (refl, (refl, (refl, (refl, (refl, (refl, (refl, tt)))))))))))))))))))))))))

only-itself : (o : ℕ) → one_of o (o ∷ []) ≡ true
only-itself o = rw (eq-eqb o o refl)

-- its word, and other words of the state that its store changes
module _ (s : List ℕ) (h : Opened s) (o d : ℕ) (q : place_of o ≡ Register) where
  abbrev e : Engine
  e = decoded s

  laid : (os : List ℕ) → Like (o ∷ os) e (stored_in e o d) → Each Word os → encoded (stored_in e o d) ≡ with_slots (with_word s o (kept o d)) (stored_in e o d) os
  laid os like words =
      sym (like-laid (o ∷ os) e (stored_in e o d) like (register-word o q, words))
      ∙ ap₂ (λ b v. with_slots (with_word b o v) (stored_in e o d) os) (bytes_back s h)
      (of-each (λ a. slot (stored_in e a d) a ≡ kept a d) registers (own-slot e d) o (register-listed o q))

  kept_same : of_target o ≡ false → of_source o ≡ false → (stored_in e o d).rooms ≡ e.rooms
  unfolding stored_in
  kept_same t f = rw (t, f)

  -- of a register that is no surface's there are none; of the target's and the source's those of what is kept
  stored_bytes : of_target o ≡ false → of_source o ≡ false → encoded (stored_in e o d) ≡ with_word s o (kept o d)
  stored_bytes t f = laid [] (like-stored (o ∷ []) e o d (only-itself o) (kept_same t f)) tt

  target-laid : of_target o ≡ true → encoded (stored_in e o d) ≡ with_slots (with_word s o (kept o d)) (stored_in e o d) (0x84 ∷ 0x88 ∷ [])
  target-laid t = laid (0x84 ∷ 0x88 ∷ []) (like-target e o d t) ((refl, omega arith), ((refl, omega arith), tt))

  source-laid : of_target o ≡ false → of_source o ≡ true → encoded (stored_in e o d) ≡ with_slots (with_word s o (kept o d)) (stored_in e o d) (0x7c ∷ 0x80 ∷ [])
  source-laid t f = laid (0x7c ∷ 0x80 ∷ []) (like-source e o d t f) ((refl, omega arith), ((refl, omega arith), tt))

-- what is kept goes by the words that stand there then
module _ (s : List ℕ) (h : Opened s) (d : ℕ) (f : d < 2 ^ 32) where
  abbrev at : ℕ → List ℕ
  at o = with_word s o (kept o d)

  room : (o : ℕ) → o + 4 ≤ state_size → o + 4 ≤ length s
  room o l = rw h.size l

  -- the word of a register after its own store, and after another's
  mine : (o : ℕ) → o % 4 ≡ 0 → o + 4 ≤ state_size → word_at (at o) o ≡ kept o d
  mine o m l = read-own s o (kept o d) m (room o l) (kept_word o d f)

  others : (o a : ℕ) → o % 4 ≡ 0 → a % 4 ≡ 0 → (a ≡ o → ⊥) → word_at (at o) a ≡ word_at s a
  others o a m n apart = read-other s o (kept o d) m a n apart

  abbrev Follows : ℕ → Type 0
  Follows o = encoded (stored_in (decoded s) o d) ≡ followed (at o) (opened_in s) o

  target-follows : Each Follows (0x10 ∷ 0x14 ∷ [])
  unfolding followed place_of slot stored_in stored put_reg decoded regs_in worked
  target-follows = (
    target-laid s h 0x10 d refl refl ∙ sym (rw (mine 0x10 refl (omega arith), others 0x10 0x14 refl refl (λ e. omega arith))),
    (target-laid s h 0x14 d refl refl ∙ sym (rw (mine 0x14 refl (omega arith), others 0x14 0x10 refl refl (λ e. omega arith))), tt),
  )

  source-follows : Each Follows (0x34 ∷ 0x54 ∷ [])
  unfolding followed place_of slot stored_in stored put_reg decoded regs_in worked
  source-follows = (
    source-laid s h 0x34 d refl refl refl ∙ sym (rw (mine 0x34 refl (omega arith), others 0x34 0x54 refl refl (λ e. omega arith))),
    (source-laid s h 0x54 d refl refl refl ∙ sym (rw (mine 0x54 refl (omega arith), others 0x54 0x34 refl refl (λ e. omega arith))), tt),
  )

  pub followed-bytes : (o : ℕ) → place_of o ≡ Register → Follows o
  followed-bytes o q = by-offset (of_target o) (of_source o) refl refl
    where
      by-offset : (t u : Bool) → of_target o ≡ t → of_source o ≡ u → Follows o
      by-offset true u x y = of-each Follows (0x10 ∷ 0x14 ∷ []) target-follows o x
      by-offset false true x y = of-each Follows (0x34 ∷ 0x54 ∷ []) source-follows o y
      by-offset false false x y = stored_bytes s h o d q x y ∙ sym (followed-none (at o) (opened_in s) o x y)

register-step : (e : Engine) (m : List ℕ) (o d : ℕ) → place_of o ≡ Register → (o ≡ 0x70 → ⊥)
    → written e m o d
    ≡ cond (ltb (2 ^ 24) (length m)) (step e m (Err Memory))
    (cond (eqb (length m) e.opened) (cond e.blit.waiting (step e m (Err Waiting)) (step (stored_in e o d) m (Ok (tally 0 0)))) (step e m (Err Memory)))
unfolding written to_register
register-step e m o d q n = rw (q, ne_eqb o 0x70 n)

pub register-written : (s m : List ℕ) (o d : ℕ) → is_state s ≡ true → Bytes s → d < 2 ^ 32 → place_of o ≡ Register → (o ≡ 0x70 → ⊥) → {s' : List ℕ} {r : ℕ}
    → opening s' r ≡ registered s (length m) o d → call s' m r 0 ≡ written_to s m o d
unfolding decoded
register-written s m o d t b f q n p =
    plain-written s m o d (followed (with_word s o (kept o d)) (length m) o) t b (stored_in (decoded s) o d) (register-step (decoded s) m o d q n)
    (λ e. followed-bytes s (opened s t b) d f o q ∙ ap (λ len. followed (with_word s o (kept o d)) len o) (sym e)) p

-- of the pattern

pattern-step : (e : Engine) (m : List ℕ) (o d : ℕ) {i : ℕ} → place_of o ≡ Pattern i
    → written e m o d
    ≡ cond (ltb (2 ^ 24) (length m)) (step e m (Err Memory))
    (cond (eqb (length m) e.opened) (cond e.blit.waiting (step e m (Err Waiting)) (step (with_bank e (patterned e.bank i d)) m (Ok (tally 0 0)))) (step e m (Err Memory)))
unfolding written to_pattern
pattern-step e m o d q = rw q

put-as-with : (p : List ℕ) (i d : ℕ) → i ≤ 252 → put_word p i d ≡ with_word p i d
unfolding put_word with_word
put-as-with p i d h = rw (le-leb i 252 h)

module _ (e : Engine) (i d : ℕ) (m : i % 4 ≡ 0) (small : i ≤ 252) (size : length e.bank.pattern ≡ 256) where
  abbrev after : Engine
  after = with_bank e (patterned e.bank i d)

  -- a byte of the words
  word_byte : (k : ℕ) → k < pattern_at → get_or (with_word (encoded e) (pattern_at + i) d) k 0 ≡ byte_in after k
  unfolding byte_in slot patterned
  word_byte k b =
      word-other (encoded e) (pattern_at + i) d (omega arith) k (λ q. omega arith)
      ∙ encoded-byte e k (omega arith) ∙ rw (lt-ltb k pattern_at b)

  -- a byte of the pattern
  there : (k : ℕ) → pattern_at ≤ k → byte_in after k ≡ get_or (with_word e.bank.pattern i d) (k - pattern_at) 0
  unfolding byte_in patterned
  there k b = rw (le-ltb k pattern_at b, put-as-with e.bank.pattern i d small)

  here : (k : ℕ) → pattern_at ≤ k → byte_in e k ≡ get_or e.bank.pattern (k - pattern_at) 0
  unfolding byte_in
  here k b = rw (le-ltb k pattern_at b)

  pattern-byte : (k : ℕ) → pattern_at ≤ k → k < state_size → get_or (with_word (encoded e) (pattern_at + i) d) k 0 ≡ byte_in after k
  pattern-byte k b c =
      by-test (λ t. eqb (k / 4 * 4) (pattern_at + i) ≡ t → get_or (with_word (encoded e) (pattern_at + i) d) k 0 ≡ byte_in after k) (eqb (k / 4 * 4) (pattern_at + i))
      (λ _ q.
      let z : k / 4 * 4 ≡ pattern_at + i = eqb-true (k / 4 * 4) (pattern_at + i) q in
      let l = encoded-length e in
      let r : k % 4 ≡ (k - pattern_at) % 4 = omega arith in
      word-own (encoded e) (pattern_at + i) d (omega arith) k z ∙ ap (byte_of d) r
      ∙ sym (there k b ∙ word-own e.bank.pattern i d (omega arith) (k - pattern_at) (omega arith)))
      (λ _ q.
      let n = eqb-false (k / 4 * 4) (pattern_at + i) q in
      word-other (encoded e) (pattern_at + i) d (omega arith) k n ∙ encoded-byte e k c ∙ here k b
      ∙ sym (there k b ∙ word-other e.bank.pattern i d m (k - pattern_at) (λ z. n (omega arith))))
      refl

  pub patterned-bytes : encoded after ≡ with_word (encoded e) (pattern_at + i) d
  patterned-bytes =
      sym (same_bytes (with_word (encoded e) (pattern_at + i) d) after (word-length (encoded e) (pattern_at + i) d ∙ encoded-length e)
      (λ k c. by-test (λ t. ltb k pattern_at ≡ t → get_or (with_word (encoded e) (pattern_at + i) d) k 0 ≡ byte_in after k) (ltb k pattern_at)
      (λ _ q. word_byte k (ltb-true k pattern_at q)) (λ _ q. pattern-byte k (ltb-false k pattern_at q) c) refl))

held-size : (s : List ℕ) → length s ≡ state_size → length (decoded s).bank.pattern ≡ 256
unfolding decoded
held-size s l = simp (length-take, length-drop) (omega arith)

pub pattern-written : (s m : List ℕ) (o d : ℕ) {i : ℕ} → is_state s ≡ true → Bytes s → place_of o ≡ Pattern i → {s' : List ℕ} {r : ℕ}
    → opening s' r ≡ plainly s (length m) (pattern_at + i) d → call s' m r 0 ≡ written_to s m o d
pattern-written s m o d {i} t b q p =
    let h = opened s t b in
    let w = pattern-word o q in
    plain-written s m o d (with_word s (pattern_at + i) d) t b (with_bank (decoded s) (patterned (decoded s).bank i d)) (pattern-step (decoded s) m o d q)
    (λ _. patterned-bytes (decoded s) i d w.0 w.1 (held-size s h.size) ∙ ap (λ x. with_word x (pattern_at + i) d) (bytes_back s h)) p

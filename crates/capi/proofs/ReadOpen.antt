-- A call of read gives what the engine reads, and a call of open leaves the bytes of a fresh engine.
-- Assumes nothing.
use mathlib.Core.Path.{◌≡◌, refl, sym, ap, ◌∙◌}
use mathlib.Core.Bool.{true, false, cond}
use mathlib.Core.List.{List}
use Prim.Native.Nat.{ℕ, ◌+◌, ◌-◌, ◌*◌, ◌/◌, ◌%◌, ◌<◌, ◌≤◌}
use native.Mathlib.Nat.{zero-add}
use native.Mathlib.Omega.{arith}
use lib.Dec.{eqb, ltb}
use lib.ListN.{length, get_or, drop, replicate, length-replicate, get_or-replicate}
use lib.Seq.{get_or-take, get_or-drop}
use borrow.Author.Tests.{eq-eqb, ne_eqb, le-leb, ltb-false}
use Rattle.registers.specs.declared.Place.TheVariants.{Register, Pattern, Launch, Nowhere}
use Rattle.registers.specs.Regs.{get_reg}
use Rattle.registers.specs.Kept.{one_of}
use Rattle.registers.specs.Offsets.{place_of}
use Rattle.bank.specs.Bank.{get_word, fresh_bank}
use Rattle.registers.proofs.Arms.{either_same, Each, of-each, none_of}
use Rattle.registers.proofs.RegsLaws.{registers, get-zero}
use Rattle.registers.proofs.OffsetLaws.{register-listed, pattern-word}
use Rattle.engine.specs.Step.{fresh_engine, read_from}
use Rattle.acts.proofs.Cases.{by-test}
use Rattle.basics.specs.Word.{word_at}
use Rattle.state.specs.Layout.{state_size, pattern_at, byte_of, slot, byte_in, encoded, regs_in, pattern_in, decoded, is_state, with_slots, fixed_slots}
use Rattle.capi.specs.Calls.{packed, packed_reading, read_of, opening, opened_to}
use Rattle.state.proofs.Places.{Word, slots-laid}

-- ---- read

pub not-read : (s : List ℕ) (o : ℕ) → is_state s ≡ false → packed 255 0 ≡ read_of s o
unfolding read_of
not-read s o t = rw t

by-engine : (s : List ℕ) (o : ℕ) → is_state s ≡ true → read_of s o ≡ packed_reading (read_from (decoded s) o)
unfolding read_of
by-engine s o t = rw t

registers-held : (s : List ℕ) → Each (λ o. get_reg o (decoded s).bank.regs ≡ word_at s o) registers
unfolding decoded regs_in get_reg
registers-held s = (refl, (refl, (refl, (refl, (refl, (refl, (refl, (refl, (refl, (refl, (refl, (refl, (refl, (refl, (refl, (refl, (refl, (refl, (refl, (refl, (refl, (refl, (refl, (refl, (refl, tt)))))))))))))))))))))))))

pub register-read : (s : List ℕ) (o : ℕ) → is_state s ≡ true → place_of o ≡ Register → word_at s o ≡ read_of s o
register-read s o t q =
    sym (by-engine s o t ∙ rw q (zero-add (get_reg o (decoded s).bank.regs))
    ∙ of-each (λ a. get_reg a (decoded s).bank.regs ≡ word_at s a) registers (registers-held s) o (register-listed o q))

-- a byte of the pattern, and its word
held : (s : List ℕ) (i k : ℕ) → i ≤ 252 → k < 4 → get_or (pattern_in s) (i + k) 0 ≡ get_or s (pattern_at + i + k) 0
held s i k h b =
    let e : pattern_at + (i + k) ≡ pattern_at + i + k = omega arith in
    get_or-take 256 (drop pattern_at s) (i + k) 0 (omega arith) ∙ get_or-drop pattern_at s (i + k) 0 ∙ ap (λ n. get_or s n 0) e

held-0 : (s : List ℕ) (i : ℕ) → i ≤ 252 → get_or (pattern_in s) i 0 ≡ get_or s (pattern_at + i) 0
held-0 s i h = get_or-take 256 (drop pattern_at s) i 0 (omega arith) ∙ get_or-drop pattern_at s i 0

word_held : (s : List ℕ) (i : ℕ) → i ≤ 252 → get_word (decoded s).bank.pattern i ≡ word_at s (pattern_at + i)
unfolding get_word word_at decoded
word_held s i h = rw (le-leb i 252 h, held-0 s i h, held s i 1 h (omega arith), held s i 2 h (omega arith), held s i 3 h (omega arith))

pub pattern-read : (s : List ℕ) (o : ℕ) {i : ℕ} → is_state s ≡ true → place_of o ≡ Pattern i → word_at s (pattern_at + i) ≡ read_of s o
pattern-read s o {i} t q =
    sym (by-engine s o t ∙ rw q (zero-add (get_word (decoded s).bank.pattern i)) ∙ word_held s i (pattern-word o q).1)

pub launch-read : (s : List ℕ) (o : ℕ) → is_state s ≡ true → place_of o ≡ Launch → packed 2 0 ≡ read_of s o
launch-read s o t q = sym (by-engine s o t ∙ rw q)

pub nowhere-read : (s : List ℕ) (o : ℕ) → is_state s ≡ true → place_of o ≡ Nowhere → packed 2 0 ≡ read_of s o
nowhere-read s o t q = sym (by-engine s o t ∙ rw q)

-- ---- open

fresh-slot : (len a : ℕ) → Each (λ o. eqb a o ≡ false) fixed_slots → slot (fresh_engine len) a ≡ 0
unfolding slot fresh_engine fresh_bank
fresh-slot len a (e0, (e74, (e78, _))) = simp (e0, e74, e78, get-zero, either_same)

zero-byte : (k : ℕ) → byte_of 0 k ≡ 0
unfolding byte_of
zero-byte k = simp either_same

fresh-pattern : (len i : ℕ) → i < 256 → 0 ≡ get_or (fresh_engine len).bank.pattern i 0
unfolding fresh_engine fresh_bank
fresh-pattern len i h = sym (get_or-replicate 256 i 0 0 h)

fresh-byte : (len k : ℕ) → k < state_size → one_of (k / 4 * 4) fixed_slots ≡ false → get_or (replicate state_size 0) k 0 ≡ byte_in (fresh_engine len) k
unfolding byte_in
fresh-byte len k b f =
    get_or-replicate state_size k 0 0 b
    ∙ by-test (λ t. 0 ≡ cond t (byte_of (slot (fresh_engine len) (k / 4 * 4)) (k % 4)) (get_or (fresh_engine len).bank.pattern (k - pattern_at) 0)) (ltb k pattern_at)
    (λ _. sym (ap (λ v. byte_of v (k % 4)) (fresh-slot len (k / 4 * 4) (none_of (k / 4 * 4) fixed_slots f)) ∙ zero-byte (k % 4)))
    (λ q. fresh-pattern len (k - pattern_at) (omega (arith, ltb-false k pattern_at q)))

fixed-words : Each Word fixed_slots
fixed-words = ((refl, omega arith), ((refl, omega arith), ((refl, omega arith), tt)))

pub fresh-laid : (len : ℕ) → with_slots (replicate state_size 0) (fresh_engine len) fixed_slots ≡ encoded (fresh_engine len)
fresh-laid len = slots-laid fixed_slots (replicate state_size 0) (fresh_engine len) (length-replicate {A = ℕ} state_size 0) fixed-words (fresh-byte len)

pub not_opened : (s : List ℕ) (len : ℕ) → (length s ≡ state_size → ⊥) → opening s 255 ≡ opened_to s len
unfolding opened_to
not_opened s len n = rw (ne_eqb (length s) state_size n)

pub opened-fresh : (s : List ℕ) (len : ℕ) → length s ≡ state_size → {s' : List ℕ} → s' ≡ with_slots (replicate state_size 0) (fresh_engine len) fixed_slots
    → opening s' 0 ≡ opened_to s len
unfolding opened_to
opened-fresh s len l p = rw (eq-eqb (length s) state_size l) (ap (λ x. opening x 0) (p ∙ fresh-laid len))

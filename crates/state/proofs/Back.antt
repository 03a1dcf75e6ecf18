-- There and back: the bytes of the engine that a state holds are that state, and the engine that an engine's bytes hold is that engine.
-- Assumes nothing.
use mathlib.Core.Path.{◌≡◌, refl, sym, ap, ◌∙◌}
use mathlib.Core.Bool.{Bool, true, false, cond, ◌&&◌, and-eq-true_iff}
use mathlib.Core.List.{List, [], ◌∷◌}
use Prim.Native.Nat.{ℕ, zero, suc, ◌+◌, ◌-◌, ◌*◌, ◌/◌, ◌%◌, ◌^◌, ◌<◌, ◌≤◌}
use native.Mathlib.Nat.{not-suc-le-zero, le_of_suc-le-suc, eq-or-lt_of_le}
use mathlib.Core.Logic.{⊎_elim}
use native.Mathlib.Omega.{arith}
use lib.Dec.{eqb, ltb}
use lib.ListN.{length, get_or, drop, length-take, length-drop}
use lib.Seq.{get_or-take, get_or-drop, ext_get_or}
use borrow.Author.Tests.{eq-eqb, lt-ltb, le-ltb, eqb-true, eqb-false, ltb-true, ltb-false}
use Rattle.registers.specs.Regs.{get_reg}
use Rattle.registers.specs.Kept.{one_of}
use Rattle.registers.proofs.Arms.{Each, each_map, of-each}
use Rattle.engine.specs.declared.Engine.{Engine}
use Rattle.acts.proofs.Cases.{by-test, picked}
use Rattle.basics.specs.Word.{word_at}
use Rattle.state.specs.Layout.{state_size, pattern_at, mark, byte_of, slot, byte_in, encoded, regs_in, pattern_in, decoded, is_state, Bytes}
use Rattle.state.specs.Promises.{BytesBack, Fits, EngineBack, StaysState}
use Rattle.state.proofs.Places.{Word, word-from, same_bytes, encoded-length, encoded-byte}

-- ---- the places of the words

abbrev words : List ℕ
words = 0x00 ∷ 0x04 ∷ 0x08 ∷ 0x0c ∷ 0x10 ∷ 0x14 ∷ 0x18 ∷ 0x1c ∷ 0x20 ∷ 0x24 ∷ 0x28 ∷ 0x2c ∷ 0x30 ∷ 0x34 ∷ 0x38 ∷ 0x3c ∷ 0x40 ∷ 0x44 ∷ 0x48 ∷ 0x4c ∷ 0x50 ∷ 0x54 ∷ 0x58 ∷ 0x5c ∷ 0x60 ∷ 0x64 ∷ 0x68 ∷ 0x6c ∷ 0x70 ∷ 0x74 ∷ 0x78 ∷ 0x7c ∷ 0x80 ∷ 0x84 ∷ 0x88 ∷ []

abbrev all_below : (ℕ → Bool) → ℕ → Bool
all_below f zero = true
all_below f (suc n) = f n && all_below f n

below : (f : ℕ → Bool) (n : ℕ) → all_below f n ≡ true → (k : ℕ) → k < n → f k ≡ true
below f zero t k h = absurd (not-suc-le-zero h)
below f (suc n) t k h =
    let both = (and-eq-true_iff (f n) (all_below f n)).0 t in
    ⊎_elim (λ e. rw e both.0) (λ l. below f n both.1 k l) (eq-or-lt_of_le (le_of_suc-le-suc h))

pub in_words : (k : ℕ) → k < pattern_at → one_of (k / 4 * 4) words ≡ true
in_words = below (λ k. one_of (k / 4 * 4) words) pattern_at refl

-- ---- a word and its bytes

small : (s : List ℕ) (i : ℕ) → Bytes s → word_at s i < 2 ^ 32
unfolding word_at
small s i b = omega (arith, b.each i, b.each (i + 1), b.each (i + 2), b.each (i + 3))

-- byte k of the word that it stands in
own-byte : (s : List ℕ) (i k : ℕ) → Bytes s → k / 4 * 4 ≡ i → (t0 t1 t2 : Bool) → eqb (k % 4) 0 ≡ t0 → eqb (k % 4) 1 ≡ t1 → eqb (k % 4) 2 ≡ t2
    → cond t0 (word_at s i % 2 ^ 8) (cond t1 (word_at s i / 2 ^ 8 % 2 ^ 8) (cond t2 (word_at s i / 2 ^ 16 % 2 ^ 8) (word_at s i / 2 ^ 24 % 2 ^ 8))) ≡ get_or s k 0
unfolding word_at
own-byte s i k b e true t1 t2 p0 p1 p2 =
    let z = eqb-true (k % 4) 0 p0 in
    let q : k ≡ i = omega arith in
    rw q (omega (arith, b.each i, b.each (i + 1), b.each (i + 2), b.each (i + 3)))
own-byte s i k b e false true t2 p0 p1 p2 =
    let z = eqb-true (k % 4) 1 p1 in
    let q : k ≡ i + 1 = omega arith in
    rw q (omega (arith, b.each i, b.each (i + 1), b.each (i + 2), b.each (i + 3)))
own-byte s i k b e false false true p0 p1 p2 =
    let z = eqb-true (k % 4) 2 p2 in
    let q : k ≡ i + 2 = omega arith in
    rw q (omega (arith, b.each i, b.each (i + 1), b.each (i + 2), b.each (i + 3)))
own-byte s i k b e false false false p0 p1 p2 =
    let n0 = eqb-false (k % 4) 0 p0 in
    let n1 = eqb-false (k % 4) 1 p1 in
    let n2 = eqb-false (k % 4) 2 p2 in
    let q : k ≡ i + 3 = omega arith in
    rw q (omega (arith, b.each i, b.each (i + 1), b.each (i + 2), b.each (i + 3)))

-- ---- what a state says of its words

pub record Opened (s : List ℕ) : Type 0 where
  pub size : length s ≡ state_size
  pub marked : word_at s 0 ≡ mark
  pub flag : word_at s 0x04 < 2
  pub bytes : Bytes s

pub opened : (s : List ℕ) → is_state s ≡ true → Bytes s → Opened s
unfolding is_state
opened s t b =
    let both = (and-eq-true_iff (eqb (length s) state_size) (eqb (word_at s 0) mark && ltb (word_at s 0x04) 2)).0 t in
    let last = (and-eq-true_iff (eqb (word_at s 0) mark) (ltb (word_at s 0x04) 2)).0 both.1 in
    record { size = eqb-true (length s) state_size both.0; marked = eqb-true (word_at s 0) mark last.0; flag = ltb-true (word_at s 0x04) 2 last.1; bytes = b }

flag-back : (w : ℕ) → w < 2 → cond (eqb w 1) 1 0 ≡ w
flag-back w h = by-test (eqb w 1) refl
  where
    by-test : (t : Bool) → eqb w 1 ≡ t → cond t 1 0 ≡ w
    by-test true e = sym (eqb-true w 1 e)
    by-test false e = let n = eqb-false w 1 e in omega arith

low-back : (a b : ℕ) → a < 2 ^ 32 → (a + b * 2 ^ 32) % 2 ^ 32 ≡ a
low-back a b h = omega arith

high-back : (a b : ℕ) → a < 2 ^ 32 → (a + b * 2 ^ 32) / 2 ^ 32 ≡ b
high-back a b h = omega arith

slots-held : (s : List ℕ) → Opened s → Each (λ o. slot (decoded s) o ≡ word_at s o) words
unfolding slot decoded regs_in get_reg
slots-held s h =
    (sym h.marked, (flag-back (word_at s 0x04) h.flag, (refl, (refl, (refl, (refl, (refl, (refl, (refl, (refl, (refl, (refl, (refl, (refl, (refl, (refl, (refl, (refl, (refl, (refl, (refl, (refl, (refl, (refl, (refl, (refl, (refl, (refl, (refl, (low-back (word_at s 0x74) (word_at s 0x78) (small s 0x74 h.bytes), (high-back (word_at s 0x74) (word_at s 0x78) (small s 0x74 h.bytes), (refl, (refl, (refl, (refl, tt)))))))))))))))))))))))))))))))))))

byte-back : (s : List ℕ) (k : ℕ) → Bytes s → byte_of (word_at s (k / 4 * 4)) (k % 4) ≡ get_or s k 0
unfolding byte_of
byte-back s k b = own-byte s (k / 4 * 4) k b refl (eqb (k % 4) 0) (eqb (k % 4) 1) (eqb (k % 4) 2) refl refl refl

held_word : (s : List ℕ) → Opened s → (k : ℕ) → k < pattern_at → get_or s k 0 ≡ byte_of (slot (decoded s) (k / 4 * 4)) (k % 4)
held_word s h k b =
    sym (ap (λ v. byte_of v (k % 4)) (of-each (λ o. slot (decoded s) o ≡ word_at s o) words (slots-held s h) (k / 4 * 4) (in_words k b)) ∙ byte-back s k h.bytes)

held-pattern : (s : List ℕ) (k : ℕ) → pattern_at ≤ k → k < state_size → get_or s k 0 ≡ get_or (pattern_in s) (k - pattern_at) 0
held-pattern s k b c =
    let e : k ≡ pattern_at + (k - pattern_at) = omega arith in
    ap (λ i. get_or s i 0) e ∙ sym (get_or-take 256 (drop pattern_at s) (k - pattern_at) 0 (omega arith) ∙ get_or-drop pattern_at s (k - pattern_at) 0)

held-byte : (s : List ℕ) → Opened s → (k : ℕ) → k < state_size → get_or s k 0 ≡ byte_in (decoded s) k
unfolding byte_in decoded
held-byte s h k b =
    by-test (λ t. get_or s k 0 ≡ cond t (byte_of (slot (decoded s) (k / 4 * 4)) (k % 4)) (get_or (pattern_in s) (k - pattern_at) 0)) (ltb k pattern_at)
    (λ e. held_word s h k (ltb-true k pattern_at e)) (λ e. held-pattern s k (ltb-false k pattern_at e) b)

-- the bytes of the engine that a state holds
pub bytes_back : (s : List ℕ) → Opened s → encoded (decoded s) ≡ s
bytes_back s h = sym (same_bytes s (decoded s) h.size (held-byte s h))

pub bytes-kept : BytesBack
bytes-kept s t b = bytes_back s (opened s t b)

-- ---- the engine that an engine's bytes hold

-- byte k of the word at o
word_byte : (e : Engine) (o k : ℕ) → Word o → k < 4 → get_or (encoded e) (o + k) 0 ≡ byte_of (slot e o) k
unfolding byte_in
word_byte e o k w h =
    let b : o + k < pattern_at = omega arith in
    let p : (o + k) / 4 * 4 ≡ o = omega arith in
    let q : (o + k) % 4 ≡ k = omega arith in
    encoded-byte e (o + k) (omega arith) ∙ rw (lt-ltb (o + k) pattern_at b, p, q)

word_back : (e : Engine) (o : ℕ) → Word o → slot e o < 2 ^ 32 → word_at (encoded e) o ≡ slot e o
word_back e o w f = word-from (encoded e) o (slot e o) f (λ k h. word_byte e o k w h)

slot-fits : (e : Engine) → Fits e → (o : ℕ) → slot e o < 2 ^ 32
unfolding slot
slot-fits e f o =
    picked (λ v. v < 2 ^ 32) (eqb o 0) _ _ (λ _. omega arith)
    (λ _. picked (λ v. v < 2 ^ 32) (eqb o 0x04) _ _ (λ _. picked (λ v. v < 2 ^ 32) e.blit.waiting 1 0 (λ _. omega arith) (λ _. omega arith))
    (λ _. picked (λ v. v < 2 ^ 32) (eqb o 0x44) _ _ (λ _. f.taken)
    (λ _. picked (λ v. v < 2 ^ 32) (eqb o 0x48) _ _ (λ _. f.last)
    (λ _. picked (λ v. v < 2 ^ 32) (eqb o 0x74) _ _ (λ _. omega arith)
    (λ _. picked (λ v. v < 2 ^ 32) (eqb o 0x78) _ _ (λ _. omega (arith, f.opened))
    (λ _. picked (λ v. v < 2 ^ 32) (eqb o 0x7c) _ _ (λ _. f.source.0)
    (λ _. picked (λ v. v < 2 ^ 32) (eqb o 0x80) _ _ (λ _. f.source.1)
    (λ _. picked (λ v. v < 2 ^ 32) (eqb o 0x84) _ _ (λ _. f.target.0)
    (λ _. picked (λ v. v < 2 ^ 32) (eqb o 0x88) _ _ (λ _. f.target.1) (λ _. f.registers o))))))))))

all_right : Each (λ o. (eqb (o % 4) 0 && ltb o pattern_at) ≡ true) words
all_right = (refl, (refl, (refl, (refl, (refl, (refl, (refl, (refl, (refl, (refl, (refl, (refl, (refl, (refl, (refl, (refl, (refl, (refl, (refl, (refl, (refl, (refl, (refl, (refl, (refl, (refl, (refl, (refl, (refl, (refl, (refl, (refl, (refl, (refl, (refl, tt)))))))))))))))))))))))))))))))))))

words_back : (e : Engine) → Fits e → Each (λ o. word_at (encoded e) o ≡ slot e o) words
words_back e f =
    each_map (λ o t.
    let both = (and-eq-true_iff (eqb (o % 4) 0) (ltb o pattern_at)).0 t in
    word_back e o (eqb-true (o % 4) 0 both.0, ltb-true o pattern_at both.1) (slot-fits e f o)) words all_right

flag-held : (t : Bool) → eqb (cond t 1 0) 1 ≡ t
flag-held true = refl
flag-held false = refl

pattern-size : (e : Engine) → length (pattern_in (encoded e)) ≡ 256
pattern-size e = let n = encoded-length e in simp (length-take, length-drop) (omega arith)

pattern-byte : (e : Engine) (i : ℕ) → i < 256 → get_or (pattern_in (encoded e)) i 0 ≡ get_or e.bank.pattern i 0
unfolding byte_in
pattern-byte e i h =
    let b : pattern_at ≤ pattern_at + i = omega arith in
    let q : pattern_at + i - pattern_at ≡ i = omega arith in
    get_or-take 256 (drop pattern_at (encoded e)) i 0 h ∙ get_or-drop pattern_at (encoded e) i 0 ∙ encoded-byte e (pattern_at + i) (omega arith)
    ∙ rw (le-ltb (pattern_at + i) pattern_at b, q)

pattern-back : (e : Engine) → length e.bank.pattern ≡ 256 → pattern_in (encoded e) ≡ e.bank.pattern
pattern-back e l =
    ext_get_or 0 (pattern_in (encoded e)) e.bank.pattern (pattern-size e ∙ sym l) (λ i h. pattern-byte e i (rw (pattern-size e) at h))

engine-from : (e : Engine) → e.opened < 2 ^ 64 → pattern_in (encoded e) ≡ e.bank.pattern → Each (λ o. word_at (encoded e) o ≡ slot e o) words → decoded (encoded e) ≡ e
unfolding decoded regs_in slot get_reg
engine-from e o p (_, (w04, (w08, (w0c, (w10, (w14, (w18, (w1c, (w20, (w24, (w28, (w2c, (w30, (w34, (w38, (w3c, (w40, (w44, (w48, (w4c, (w50, (w54, (w58, (w5c, (w60, (w64, (w68, (w6c, (w70, (w74, (w78, (w7c, (w80, (w84, (w88, _))))))))))))))))))))))))))))))))))) =
    let z : e.opened % 2 ^ 32 + e.opened / 2 ^ 32 * 2 ^ 32 ≡ e.opened = omega arith in
    simp (w04, w08, w0c, w10, w14, w18, w1c, w20, w24, w28, w2c, w30, w34, w38, w3c, w40, w44, w48, w4c, w50, w54, w58, w5c, w60, w64, w68, w6c, w70, w74, w78, w7c, w80, w84, w88, p, flag-held, z)

pub engine-back : EngineBack
engine-back e f = engine-from e f.opened (pattern-back e f.pattern) (words_back e f)

-- ---- a state stays a state

mark-back : (e : Engine) → word_at (encoded e) 0 ≡ mark
unfolding slot
mark-back e = word_back e 0 (refl, omega arith) (omega arith)

flag_small : (t : Bool) → cond t 1 0 < 2
flag_small true = omega arith
flag_small false = omega arith

flag-kept : (e : Engine) → word_at (encoded e) 0x04 < 2
unfolding slot
flag-kept e =
    let f = flag_small e.blit.waiting in
    rw (word_back e 0x04 (refl, omega arith) (omega arith)) f

pub stays-state : StaysState
unfolding is_state
stays-state e = rw (eq-eqb (length (encoded e)) state_size (encoded-length e), eq-eqb (word_at (encoded e) 0) mark (mark-back e), lt-ltb (word_at (encoded e) 0x04) 2 (flag-kept e))

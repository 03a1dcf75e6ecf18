-- A turn of each loop: the pixels of a word, or of three, are put, and those counted that change.
-- Assumes nothing.
use mathlib.Core.Path.{◌≡◌, refl, sym, ap, subst, ◌∙◌}
use mathlib.Core.List.{List}
use Prim.Native.Nat.{ℕ, ◌+◌, ◌*◌, ◌/◌, ◌%◌, ◌^◌, ◌<◌, ◌≤◌}
use native.Mathlib.Nat.{mul-add, mul_right_comm}
use native.Mathlib.Omega.{arith}
use native.Mathlib.Decide.{ℕ_discrete}
use Rattle.surface.proofs.Lists.{by_cases}
use lib.ListN.{length}
use Rattle.surface.specs.Place.{write_bytes}
use Rattle.host.specs.Stream.{data_byte}
use Rattle.pours.specs.Pours.{unlike}
use Rattle.pours.specs.Asked.{WordRead, unlike_word}
use Rattle.pours.proofs.Numbers.{number, unlikes, bytes-unlike, halves-unlike, word-unlike, threes-unlike}
use Rattle.pours.proofs.Spilt.{byte_in, read-number, data-small, data-number, data-word, spilt, spilt-split, word-spilt, Poured, poured-more}

word_read : {m : List ℕ} {at x : ℕ} → WordRead m at x → x ≡ number (byte_in m) at 4
word_read {m} {at} h = let z : at + 0 ≡ at = omega arith in h.word ∙ read-number m at 0 4 ∙ ap (λ (a : ℕ). number (byte_in m) a 4) z

word-given : (ws : ℕ → ℕ) (i : ℕ) → ws i < 2 ^ 32 → ws i ≡ number (data_byte ws) (4 * i) 4
word-given ws i l = sym (data-word ws i l) ∙ data-number ws (4 * i) 4

module _ {ws : ℕ → ℕ} {at r c : ℕ} {m₀ m m' : List ℕ} (i : ℕ) (fits : ws i < 2 ^ 32) (held : at + 4 * i + 4 ≤ length m₀)
    (put : m' ≡ write_bytes (λ k. at + 4 * i + k) 0 4 (ws i) m) where
  -- k pixels of b bytes are a word
  turn : {b k : ℕ} → k * b ≡ 4 → Poured ws b at m₀ (k * i) m r → c ≡ unlikes (byte_in m) (data_byte ws) b (at + 4 * i) (4 * i) k → c ≤ k → Poured ws b at m₀ (k * (i + 1)) m' (r + c)
  turn {b} {k} word now is most =
      let on : k * i + k ≡ k * (i + 1) = omega (arith, mul-add k i 1) in
      let so : k * i * b ≡ 4 * i = mul_right_comm k i b ∙ ap (λ (n : ℕ). n * i) word in
      subst (λ (w : ℕ). Poured ws b at m₀ w m' (r + c)) on
      (poured-more now (4 * i) so k (rw word held) (rw word (put ∙ word-spilt ws (at + 4 * i) i m fits)) is most)

  pub word-turn : {b old : ℕ} → 0 < b → b < 5 → (b ≡ 3 → ⊥) → Poured ws b at m₀ (4 / b * i) m r → WordRead m (at + 4 * i) old → c ≡ unlike_word b old (ws i) → c ≤ 4 / b
      → Poured ws b at m₀ (4 / b * (i + 1)) m' (r + c)
  word-turn {b} {old} some few three now read is most =
      let e = word_read read in
      let g = word-given ws i fits in
      by_cases (ℕ_discrete b 1)
      (λ one. rw one (turn refl (rw one at now) (rw one at is ∙ bytes-unlike (byte_in m) (data_byte ws) read.bytes (data-small ws) (at + 4 * i) (4 * i) old (ws i) e g) (rw one at most)))
      (λ one. by_cases (ℕ_discrete b 2)
      (λ two. rw two (turn refl (rw two at now) (rw two at is ∙ halves-unlike (byte_in m) (data_byte ws) read.bytes (data-small ws) (at + 4 * i) (4 * i) old (ws i) e g) (rw two at most)))
      (λ two. let four : b ≡ 4 = omega arith in
      rw four (turn refl (rw four at now) (rw four at is ∙ word-unlike (byte_in m) (data_byte ws) (at + 4 * i) (4 * i) old (ws i) e g) (rw four at most))))

module _ {ws : ℕ → ℕ} {at r x y z c : ℕ} {m₀ m m₁ m₂ m₃ : List ℕ} (i t : ℕ) (third : i ≡ 3 * t) where
  pub threes-turn : ws i < 2 ^ 32 → ws (i + 1) < 2 ^ 32 → ws (i + 2) < 2 ^ 32 → at + 4 * i + 12 ≤ length m₀
      → m₁ ≡ write_bytes (λ k. at + 4 * i + k) 0 4 (ws i) m → m₂ ≡ write_bytes (λ k. at + 4 * i + 4 + k) 0 4 (ws (i + 1)) m₁ → m₃ ≡ write_bytes (λ k. at + 4 * i + 8 + k) 0 4 (ws (i + 2)) m₂
      → Poured ws 3 at m₀ (t * 4) m r → WordRead m (at + 4 * i) x → WordRead m (at + 4 * i + 4) y → WordRead m (at + 4 * i + 8) z
      → c ≡ unlike (x % 0x1000000) (ws i % 0x1000000) + unlike (x / 0x1000000 + 0x100 * (y % 0x10000)) (ws i / 0x1000000 + 0x100 * (ws (i + 1) % 0x10000))
      + unlike (y / 0x10000 + 0x10000 * (z % 0x100)) (ws (i + 1) / 0x10000 + 0x10000 * (ws (i + 2) % 0x100)) + unlike (z / 0x100) (ws (i + 2) / 0x100)
      → c ≤ 4 → Poured ws 3 at m₀ ((t + 1) * 4) m₃ (r + c)
  threes-turn l₁ l₂ l₃ held p₁ p₂ p₃ now read₁ read₂ read₃ is most =
      let a = at + 4 * i in
      let on : t * 4 + 4 ≡ (t + 1) * 4 = omega arith in
      let a2 : a + 8 ≡ a + 4 + 4 = omega arith in
      let o1 : 4 * (i + 1) ≡ 4 * i + 4 = omega arith in
      let o2 : 4 * (i + 2) ≡ 4 * i + 4 + 4 = omega arith in
      let put : m₃ ≡ spilt ws (4 * i) a 12 m =
      p₃ ∙ word-spilt ws (a + 8) (i + 2) m₂ l₃ ∙ rw (a2, o2, p₂, word-spilt ws (a + 4) (i + 1) m₁ l₂, o1, p₁, word-spilt ws a i m l₁, spilt-split ws (4 * i) a 4 8 m, spilt-split ws (4 * i + 4) (a + 4) 4 4 (spilt ws (4 * i) a 4 m)) in
      subst (λ (w : ℕ). Poured ws 3 at m₀ w m₃ (r + c)) on
      (poured-more now (4 * i) (omega arith) 4 held put
      (is ∙ threes-unlike (byte_in m) (data_byte ws) read₁.bytes (data-small ws) a (4 * i) x y z (ws i) (ws (i + 1)) (ws (i + 2))
      (word_read read₁) (word_read read₂) (word_read read₃ ∙ rw a2) (word-given ws i l₁) (word-given ws (i + 1) l₂ ∙ rw o1) (word-given ws (i + 2) l₃ ∙ rw o2)) most)

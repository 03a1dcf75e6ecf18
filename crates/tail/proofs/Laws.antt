-- Words laid one after the other into bytes; what bytes that are a reader's say.
-- Assumes nothing.
use mathlib.Core.Path.{◌≡◌, refl, sym, ap, ◌∙◌}
use mathlib.Core.Bool.{true, ◌&&◌, and-eq-true_iff}
use mathlib.Core.List.{List, [], ◌∷◌, ◌++◌, append_assoc}
use Prim.Native.Nat.{ℕ, suc, ◌+◌, ◌*◌, ◌<◌, ◌≤◌}
use native.Mathlib.Omega.{arith}
use lib.Dec.{eqb, ltb}
use lib.ListN.{length, drop, length-append, length-drop}
use borrow.Author.Tests.{eqb-true, ltb-true}
use Rattle.basics.specs.Word.{word_at, with_word}
use Rattle.tail.specs.Layout.{reader_size, mark, bytes_in, decoded, is_reader}

-- a word put behind p
put-behind : (p l : List ℕ) (d : ℕ) → 4 ≤ length l → with_word (p ++ l) (length p) d ≡ p ++ (bytes_in (d ∷ []) ++ drop 4 l)
unfolding with_word
put-behind [] [] d h = absurd (omega arith)
put-behind [] (a ∷ []) d h = absurd (omega arith)
put-behind [] (a ∷ b ∷ []) d h = absurd (omega arith)
put-behind [] (a ∷ b ∷ c ∷ []) d h = absurd (omega arith)
put-behind [] (a ∷ b ∷ c ∷ e ∷ l) d h = refl
put-behind (a ∷ p) l d h =
    let one : suc (length p) + 1 ≡ suc (length p + 1) = omega arith in
    let two : suc (length p) + 2 ≡ suc (length p + 2) = omega arith in
    let three : suc (length p) + 3 ≡ suc (length p + 3) = omega arith in
    rw (one, two, three) (ap (λ (t : List ℕ). a ∷ t) (put-behind p l d h))

abbrev with_words : List ℕ → ℕ → List ℕ → List ℕ
with_words s i [] = s
with_words s i (w ∷ ws) = with_words (with_word s i w) (i + 4) ws

laid-behind : (ws p l : List ℕ) → length l ≡ 4 * length ws → with_words (p ++ l) (length p) ws ≡ p ++ bytes_in ws
laid-behind [] p [] h = refl
laid-behind [] p (a ∷ l) h = absurd (omega arith)
laid-behind (w ∷ ws) p l h =
    let four : length p + 4 ≡ length (p ++ bytes_in (w ∷ [])) = sym (length-append p (bytes_in (w ∷ []))) in
    let rest : length (drop 4 l) ≡ 4 * length ws = simp length-drop (omega arith) in
    ap (λ (t : List ℕ). with_words t (length p + 4) ws) (put-behind p l w (omega arith) ∙ sym (append_assoc p (bytes_in (w ∷ [])) (drop 4 l)))
    ∙ ap (λ (i : ℕ). with_words ((p ++ bytes_in (w ∷ [])) ++ drop 4 l) i ws) four
    ∙ laid-behind ws (p ++ bytes_in (w ∷ [])) (drop 4 l) rest
    ∙ append_assoc p (bytes_in (w ∷ [])) (bytes_in ws)

-- eight words fill a reader's bytes
pub laid : (s : List ℕ) (a b c d e f g h : ℕ) → length s ≡ reader_size
    → with_word (with_word (with_word (with_word (with_word (with_word (with_word (with_word s 0 a) 0x04 b) 0x08 c) 0x0c d) 0x10 e) 0x14 f) 0x18 g) 0x1c h
    ≡ bytes_in (a ∷ b ∷ c ∷ d ∷ e ∷ f ∷ g ∷ h ∷ [])
laid s a b c d e f g h size = laid-behind (a ∷ b ∷ c ∷ d ∷ e ∷ f ∷ g ∷ h ∷ []) [] s size

-- ---- what a reader's bytes say
pub record Valid (s : List ℕ) : Type 0 where
  pub size : length s ≡ reader_size
  pub held : (decoded s).held < 4

pub valid : (s : List ℕ) → is_reader s ≡ true → Valid s
unfolding is_reader decoded
valid s h =
    let size = eqb (length s) reader_size in
    let first = eqb (word_at s 0) mark in
    let held = ltb (word_at s 0x08) 4 in
    let flag = ltb (word_at s 0x0c) 2 in
    let kind = ltb (word_at s 0x10) 3 in
    let all = (and-eq-true_iff size (first && held && flag && kind)).0 h in
    let two = ((and-eq-true_iff (first && held) flag).0 ((and-eq-true_iff (first && held && flag) kind).0 all.1).0).0 in
    record { size = eqb-true (length s) reader_size all.0; held = ltb-true (word_at s 0x08) 4 ((and-eq-true_iff first held).0 two).1 }

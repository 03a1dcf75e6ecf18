-- `put_word` meets its contract: four bytes over four are four stores, which leave the length.
-- Assumes nothing.
use mathlib.Core.Path.{◌≡◌, refl, ap, ◌∙◌}
use mathlib.Core.List.{List, [], ◌∷◌}
use Prim.Native.Nat.{ℕ, zero, suc, ◌+◌, ◌-◌, ◌/◌, ◌%◌, ◌≤◌}
use native.Mathlib.Numerals.{unary_clauses}
use native.Mathlib.Omega.{arith}
use lib.ListN.{length, set, length-set}
use borrow.Rule.Slice.PartMut.{put_mid}
use Rattle.basics.specs.Word.{with_word}
use Rattle.basics.proofs.put_word.Goals as goal

four-set : (s : List ℕ) (i w x y z : ℕ) → i + 4 ≤ length s → put_mid i 4 s (w ∷ x ∷ y ∷ z ∷ []) ≡ set (set (set (set s i w) (i + 1) x) (i + 2) y) (i + 3) z
four-set (a ∷ s) (suc i) w x y z h = simp unary_clauses (simp unary_clauses at (ap (λ (t : List ℕ). a ∷ t) (four-set s i w x y z (omega arith))))
four-set (a ∷ b ∷ c ∷ d ∷ s) zero w x y z h = refl
four-set _ i w x y z h = absurd (omega arith)

pub returns : goal.returns
unfolding with_word
returns c =
    let k : c.args.at + 4 - c.args.at ≡ 4 = omega arith in
    let e = four-set c.args.s.now c.args.at (c.args.word % 256) (c.args.word / 256 % 256) (c.args.word / 65536 % 256) (c.args.word / 16777216 % 256) c.requires in
    rw (k, c.copy_from_slice.ensures.after, c.to_le_bytes.ensures) (e, ap length e ∙ simp length-set)

-- Registers read back one after the other, as a loop does it; the bytes at the start are settled.
-- Assumes nothing.
use mathlib.Core.Path.{◌≡◌, sym, ◌∙◌}
use mathlib.Core.List.{List}
use Prim.Native.Nat.{ℕ, suc, ◌+◌, ◌-◌, ◌*◌, ◌<◌, ◌≤◌}
use native.Mathlib.Omega.{arith}
use lib.Seq.{ext_get_or}
use Rattle.basics.specs.Each.{each}
use Rattle.bank.specs.Bank.{read_value}
use Rattle.engine.specs.declared.Engine.{Engine}
use Rattle.engine.specs.Step.{read_from}
use Rattle.recorded.specs.Recorded.{Started, mixed_word, reads_from}

module _ (e : Engine) (o : ℕ) where
  pub reads_again : (i n sum : ℕ) → i < n
      → each mixed_word (reads_from e (o + 4 * (i + 1)) (n - (i + 1))) (mixed_word (read_value (read_from e (o + 4 * i))) sum) ≡ each mixed_word (reads_from e (o + 4 * i) (n - i)) sum
  unfolding reads_from each
  reads_again i n sum h =
      let left : n - i ≡ suc (n - (i + 1)) = omega arith in
      let at : o + 4 * (i + 1) ≡ o + 4 * i + 4 = omega arith in
      rw (left, at)

  pub reads_end : (i n sum : ℕ) → n ≤ i → sum ≡ each mixed_word (reads_from e (o + 4 * i) (n - i)) sum
  unfolding reads_from each
  reads_end i n sum h = let none : n - i ≡ 0 = omega arith in rw none

-- the memory at the start is settled byte by byte
pub started-once : (len seed : ℕ) {a b : List ℕ} → Started a len seed → Started b len seed → a ≡ b
started-once len seed {a} {b} p q = ext_get_or 0 a b (p.long ∙ sym q.long) (λ i h. p.each i (omega (arith, p.long)) ∙ sym (q.each i (omega (arith, p.long))))

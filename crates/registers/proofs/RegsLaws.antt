-- Laws of the registers by their offsets: the list of all of them, an offset that is none of them, and a register read after a store.
-- Assumes nothing.
use Prim.Native.Nat.{ℕ}
use mathlib.Core.Bool.{true, false, cond}
use mathlib.Core.List.{List, [], ◌∷◌}
use mathlib.Core.Path.{◌≡◌, refl}
use lib.Dec.{eqb}
use Rattle.registers.specs.declared.Regs.{Regs}
use Rattle.registers.specs.Kept.{one_of}
use Rattle.registers.specs.Regs.{no_regs, put_reg, get_reg}
use Rattle.registers.proofs.Arms.{either_same, Each, of-each}

-- the offsets of all registers
abbrev pub registers : List ℕ
registers = 0x08 ∷ 0x0c ∷ 0x10 ∷ 0x14 ∷ 0x18 ∷ 0x1c ∷ 0x20 ∷ 0x24 ∷ 0x28 ∷ 0x2c ∷ 0x30 ∷ 0x34 ∷ 0x38 ∷ 0x3c ∷ 0x40 ∷ 0x4c ∷ 0x50 ∷ 0x54 ∷ 0x58 ∷ 0x5c ∷ 0x60 ∷ 0x64 ∷ 0x68 ∷ 0x6c ∷ 0x70 ∷ []

abbrev pub NoRegister : ℕ → Type 0
NoRegister o = Each (λ a. eqb o a ≡ false) registers

pub put-nowhere : (o v : ℕ) (r : Regs) → NoRegister o → put_reg o v r ≡ r
unfolding put_reg
put-nowhere o v r (e1, (e2, (e3, (e4, (e5, (e6, (e7, (e8, (e9, (e10, (e11, (e12, (e13, (e14, (e15, (e16, (e17, (e18, (e19, (e20, (e21, (e22, (e23, (e24, (e25, t))))))))))))))))))))))))) =
    simp (e1, e2, e3, e4, e5, e6, e7, e8, e9, e10, e11, e12, e13, e14, e15, e16, e17, e18, e19, e20, e21, e22, e23, e24, e25)

pub get-nowhere : (o : ℕ) (r : Regs) → NoRegister o → get_reg o r ≡ 0
unfolding get_reg
get-nowhere o r (e1, (e2, (e3, (e4, (e5, (e6, (e7, (e8, (e9, (e10, (e11, (e12, (e13, (e14, (e15, (e16, (e17, (e18, (e19, (e20, (e21, (e22, (e23, (e24, (e25, t))))))))))))))))))))))))) =
    simp (e1, e2, e3, e4, e5, e6, e7, e8, e9, e10, e11, e12, e13, e14, e15, e16, e17, e18, e19, e20, e21, e22, e23, e24, e25)

-- a register after a store: the word that was put at its own offset, else what it held
after : (o v : ℕ) (r : Regs) → Each (λ a. get_reg a (put_reg o v r) ≡ cond (eqb o a) v (get_reg a r)) registers
unfolding put_reg get_reg
after o v r = (refl, (refl, (refl, (refl, (refl, (refl, (refl, (refl, (refl, (refl, (refl, (refl, (refl, (refl, (refl, (refl, (refl, (refl, (refl, (refl, (refl, (refl, (refl, (refl, (refl, tt)))))))))))))))))))))))))

pub get-put : (o v : ℕ) (r : Regs) (a : ℕ) → one_of a registers ≡ true → get_reg a (put_reg o v r) ≡ cond (eqb o a) v (get_reg a r)
get-put o v r = of-each (λ a. get_reg a (put_reg o v r) ≡ cond (eqb o a) v (get_reg a r)) registers (after o v r)

pub get-zero : (o : ℕ) → get_reg o no_regs ≡ 0
unfolding get_reg
get-zero o = simp either_same

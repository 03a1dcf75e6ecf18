-- What is stored is read back as its kept bits, and nothing else is changed by it; a fresh bank reads 0.
-- Assumes nothing.
use Prim.Native.Nat.{ℕ, ◌%◌, ◌^◌, ◌<◌}
use native.Mathlib.Omega.{arith}
use mathlib.Core.Bool.{cond}
use mathlib.Core.Path.{◌≡◌, refl, ap, ◌∙◌}
use borrow.Author.Tests.{eq-eqb, ne_eqb}
use lib.Dec.{eqb}
use lib.ListN.{length, length-replicate}
use Rattle.bank.specs.declared.Bank.{Bank}
use Rattle.registers.specs.declared.Place.{Place}
use Rattle.registers.specs.declared.Place.TheVariants.{Register, Pattern, Launch, Nowhere}
use Rattle.std.specs.Prelude.{Some}
use Rattle.registers.specs.Regs.{get_reg}
use Rattle.registers.specs.Kept.{kept}
use Rattle.registers.specs.Offsets.{place_of}
use Rattle.bank.specs.Bank.{fresh_bank, stored, patterned, read_place, read_at, read_number}
use Rattle.registers.proofs.OffsetLaws.{register-listed, pattern-word, no_register}
use Rattle.registers.proofs.RegsLaws.{put-nowhere, get-put, get-zero}
use Rattle.bank.proofs.Words.{word_back, word-past, word-elsewhere, word-length, word-zero}

pub read_of : {p : Place} (b : Bank) (o : ℕ) → place_of o ≡ p → read_at b o ≡ read_place p b o
read_of b o e = ap (λ (q : Place). read_place q b o) e

-- ---- a store into a register

pub register-after : (b : Bank) (o d a : ℕ) → place_of a ≡ Register → get_reg a (stored b o d).regs ≡ cond (eqb o a) (kept o d) (get_reg a b.regs)
unfolding stored
register-after b o d a e = get-put o (kept o d) b.regs a (register-listed a e)

pub stored-reads-back : (b : Bank) (o d : ℕ) → place_of o ≡ Register → read_at (stored b o d) o ≡ Some (kept o d)
stored-reads-back b o d e =
    read_of (stored b o d) o e
    ∙ ap Some (register-after b o d o e ∙ ap (λ t. cond t (kept o d) (get_reg o b.regs)) (eq-eqb o o refl))

stored-leaves-at : (b : Bank) (o d a : ℕ) → (o ≡ a → ⊥) → (p : Place) → place_of a ≡ p → read_place p (stored b o d) a ≡ read_place p b a
unfolding stored
stored-leaves-at b o d a n Register e = ap Some (register-after b o d a e ∙ ap (λ t. cond t (kept o d) (get_reg a b.regs)) (ne_eqb o a n))
stored-leaves-at b o d a n (Pattern i) e = refl
stored-leaves-at b o d a n Launch e = refl
stored-leaves-at b o d a n Nowhere e = refl

pub stored-leaves : (b : Bank) (o d a : ℕ) → (o ≡ a → ⊥) → read_at (stored b o d) a ≡ read_at b a
stored-leaves b o d a n = stored-leaves-at b o d a n (place_of a) refl

pub stored-nowhere : (b : Bank) (o d : ℕ) → (place_of o ≡ Register → ⊥) → stored b o d ≡ b
unfolding stored
stored-nowhere b o d h = rw (put-nowhere o (kept o d) b.regs (no_register o h))

pub stored-length : (b : Bank) (o d : ℕ) → length b.pattern ≡ 256 → length (stored b o d).pattern ≡ 256
unfolding stored
stored-length b o d l = l

-- ---- a word into the pattern

pub patterned-reads-back : {i : ℕ} (b : Bank) (o d : ℕ) → place_of o ≡ Pattern i → length b.pattern ≡ 256 → d < 2 ^ 32 → read_at (patterned b i d) o ≡ Some d
unfolding patterned
patterned-reads-back {i} b o d e l f = read_of (patterned b i d) o e ∙ ap Some (word_back b.pattern i d (pattern-word o e).1 l f)

patterned-leaves-at : (b : Bank) (i d : ℕ) → i % 4 ≡ 0 → (o : ℕ) → (place_of o ≡ Pattern i → ⊥) → (p : Place) → place_of o ≡ p → read_place p (patterned b i d) o ≡ read_place p b o
unfolding patterned
patterned-leaves-at b i d m o n Register e = refl
patterned-leaves-at b i d m o n (Pattern k) e =
    ap Some (word-elsewhere b.pattern i k d m (pattern-word o e).0 (λ q. n (e ∙ ap Pattern q)))
patterned-leaves-at b i d m o n Launch e = refl
patterned-leaves-at b i d m o n Nowhere e = refl

-- every register and every other word of the pattern stay
pub patterned-leaves : (b : Bank) (i d : ℕ) → i % 4 ≡ 0 → (o : ℕ) → (place_of o ≡ Pattern i → ⊥) → read_at (patterned b i d) o ≡ read_at b o
patterned-leaves b i d m o n = patterned-leaves-at b i d m o n (place_of o) refl

pub patterned-past-end : (b : Bank) (i d : ℕ) → 252 < i → patterned b i d ≡ b
unfolding patterned
patterned-past-end b i d h = rw (word-past b.pattern i d h)

pub patterned-length : (b : Bank) (i d : ℕ) → length b.pattern ≡ 256 → length (patterned b i d).pattern ≡ 256
unfolding patterned
patterned-length b i d l = word-length b.pattern i d ∙ l

-- 44 and 48 (hexadecimal) read as 100 and 104
pub aliases : (b : Bank) → (read_at b 0x44 ≡ read_at b 0x100) × (read_at b 0x48 ≡ read_at b 0x104)
unfolding place_of
aliases b = (refl, refl)

-- ---- a fresh bank

zero-at : (o : ℕ) (p : Place) → place_of o ≡ p → read_number (read_place p fresh_bank o) ≡ 0 → read_place p fresh_bank o ≡ Some 0
unfolding fresh_bank
zero-at o Register e t = ap Some (get-zero o)
zero-at o (Pattern i) e t = ap Some (word-zero i)
zero-at o Launch e t = let z : ◌≡◌ {A = ℕ} 2 0 = t in absurd (omega arith)
zero-at o Nowhere e t = let z : ◌≡◌ {A = ℕ} 2 0 = t in absurd (omega arith)

pub fresh-reads-zero : (o : ℕ) → read_number (read_at fresh_bank o) ≡ 0 → read_at fresh_bank o ≡ Some 0
fresh-reads-zero o = zero-at o (place_of o) refl

pub fresh-length : length fresh_bank.pattern ≡ 256
unfolding fresh_bank
fresh-length = length-replicate {A = ℕ} 256 0

-- An answer has one number, one count and one number of pixels changed, and a read is answered by what its offset names.
-- Assumes nothing.
use mathlib.Core.Path.{◌≡◌, refl}
use mathlib.Core.Bool.{true, cond, false≢true}
use Prim.Native.Nat.{ℕ}
use Rattle.registers.specs.declared.Place.{Place}
use Rattle.registers.specs.declared.Place.TheVariants.{Register, Pattern, Launch, Nowhere}
use Rattle.registers.specs.Offsets.{place_of}
use Rattle.bank.specs.Bank.{read_place, read_number, read_value}
use Rattle.engine.specs.declared.Engine.{Engine}
use Rattle.engine.specs.Step.{number_of, count_of, changed_of}
use Rattle.engine.specs.Promises.{OneNumber, OneCount, OneChanged, unread, ReadAnswered}
use Rattle.basics.proofs.One.{settled}

pub one_number : OneNumber
one_number a x y = settled (number_of a) x y

pub one-count : OneCount
one-count a x y = settled (count_of a) x y

pub one-changed : OneChanged
one-changed a x y = settled (changed_of a) x y

place-answered : (p : Place) (e : Engine) (o : ℕ)
    → (read_number (read_place p e.bank o) ≡ cond (unread p) 2 0) × (unread p ≡ true → read_value (read_place p e.bank o) ≡ 0)
place-answered Register e o = (refl, λ t. absurd (false≢true t))
place-answered (Pattern i) e o = (refl, λ t. absurd (false≢true t))
place-answered Launch e o = (refl, λ _. refl)
place-answered Nowhere e o = (refl, λ _. refl)

pub read-answered : ReadAnswered
read-answered e o = place-answered (place_of o) e o

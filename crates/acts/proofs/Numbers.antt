-- The command that the registers hold, by its number and by its name; and a launch write, which is the command with its word put where it belongs.
-- Assumes nothing.
use mathlib.Core.Path.{◌≡◌, refl}
use mathlib.Core.Logic.{◌⊎◌, ⊎_elim}
use mathlib.Core.List.{List}
use Prim.Native.Nat.{ℕ, ◌<◌, ◌≤◌}
use native.Mathlib.Omega.{arith}
use borrow.Author.Tests.{ne_eqb, le-leb, lt-ltb}
use Rattle.registers.specs.Regs.{put_reg}
use Rattle.bank.specs.declared.Bank.{Bank}
use Rattle.bank.specs.Bank.{stored}
use Rattle.cuts.specs.Cut.{number}
use Rattle.acts.specs.declared.Blit.{Blit}
use Rattle.acts.specs.declared.Ends.{Ends}
use Rattle.acts.specs.declared.Operation.{Operation}
use Rattle.acts.specs.declared.Operation.TheVariants.{Nop, Copy, Stretch, HostBlit, Fill, Line, NotBuilt}
use Rattle.acts.specs.Operation.{operation_of, by_operation}
use Rattle.acts.specs.Deed.{with_ends, idling, copying, stretching, opening, feeding, filling, lining, unbuilt, carrying, aimed, starting, by_number}
use Rattle.acts.proofs.Cases.{Unbuilt, pick, by_tests, by-number}

module _ (b : Bank) (k : Blit) (m : List ℕ) where
  pub carry-idle : number b.regs ≡ 0 → carrying b k m ≡ idling b k m
  unfolding carrying
  carry-idle n = rw n

  pub carry-copy : number b.regs ≡ 1 → carrying b k m ≡ copying b k m
  unfolding carrying
  carry-copy n = rw n

  pub carry-stretch : number b.regs ≡ 2 → carrying b k m ≡ stretching b k m
  unfolding carrying
  carry-stretch n = rw n

  pub carry-fill : number b.regs ≡ 5 → carrying b k m ≡ filling b k m
  unfolding carrying
  carry-fill n = rw n

  pub carry-line : 6 ≤ number b.regs → number b.regs < 8 → carrying b k m ≡ lining b k m
  unfolding carrying
  carry-line low high =
      let n = number b.regs in
      rw (
        ne_eqb n 0 (λ z. omega arith),
        ne_eqb n 1 (λ z. omega arith),
        ne_eqb n 2 (λ z. omega arith),
        ne_eqb n 3 (λ z. omega arith),
        ne_eqb n 5 (λ z. omega arith),
        le-leb 6 n low,
        lt-ltb n 8 high,
      )

  pub carry-other : Unbuilt (number b.regs) → carrying b k m ≡ unbuilt b k m
  unfolding carrying
  carry-other u = rw (u.not0, u.not1, u.not2, u.not3, u.not5, u.not6)

pub aimed-starts : (b : Bank) (k : Blit) (m : List ℕ) (d : ℕ) → (number b.regs ≡ 3 → ⊥) → carrying (aimed b d) k m ≡ starting b k m d
unfolding aimed starting stored put_reg
aimed-starts b k m d other =
    let to_source = stored b 0x5c d in
    let to_target = stored b 0x6c d in
    by_tests
    (λ t u v w x y. carrying (pick t u v w x y b to_source to_source b to_target to_target b) k m
    ≡ pick t u v w x y (idling b k m) (copying to_source k m) (stretching to_source k m) (feeding b k m d) (filling to_target k m) (lining to_target k m) (unbuilt b k m))
    (number b.regs) (carry-idle b k m) (carry-copy to_source k m) (carry-stretch to_source k m) (λ n. absurd (other n)) (carry-fill to_target k m) (carry-line to_target k m) (carry-other b k m)

-- ---- what a command leaves holds both registers, so it is the same of the bank before the word was put there
pub aimed-ends : (b : Bank) (d : ℕ) (e : Ends) → with_ends b e ≡ with_ends (aimed b d) e
unfolding aimed with_ends stored put_reg
aimed-ends b d e =
    by-number (λ (x : Bank). with_ends b e ≡ with_ends x e) (number b.regs) _ _ _ _ _ _ _ (λ _. refl) (λ _. refl) (λ _. refl) (λ _. refl) (λ _. refl) (λ _ _. refl) (λ _. refl)

-- ---- by the command in place of its number
pub numbered : {A : Type 0} (n : ℕ) (nop copy stretch host fill line other : A)
    → by_number n nop copy stretch host fill line other ≡ by_operation (by_number n Nop Copy Stretch HostBlit Fill Line NotBuilt) nop copy stretch host fill line other
numbered n nop copy stretch host fill line other =
    by_tests (λ t u v w x y. pick t u v w x y nop copy stretch host fill line other ≡ by_operation (pick t u v w x y Nop Copy Stretch HostBlit Fill Line NotBuilt) nop copy stretch host fill line other)
    n (λ _. refl) (λ _. refl) (λ _. refl) (λ _. refl) (λ _. refl) (λ _ _. refl) (λ _. refl)

pub aimed_by : (b : Bank) (d : ℕ) {o : Operation} → o ≡ operation_of b.regs → aimed b d ≡ by_operation o b (stored b 0x5c d) (stored b 0x5c d) b (stored b 0x6c d) (stored b 0x6c d) b
unfolding aimed
aimed_by b d e = rw e (numbered (number b.regs) _ _ _ _ _ _ _)

module _ (b : Bank) (k : Blit) (m : List ℕ) {o : Operation} (e : o ≡ operation_of b.regs) where
  pub carrying_by : carrying b k m ≡ by_operation o (idling b k m) (copying b k m) (stretching b k m) (opening b m) (filling b k m) (lining b k m) (unbuilt b k m)
  unfolding carrying
  carrying_by = rw e (numbered (number b.regs) _ _ _ _ _ _ _)

  pub starting_by : (d : ℕ) → starting b k m d
      ≡ by_operation o (idling b k m) (copying (stored b 0x5c d) k m) (stretching (stored b 0x5c d) k m) (feeding b k m d) (filling (stored b 0x6c d) k m) (lining (stored b 0x6c d) k m) (unbuilt b k m)
  unfolding starting
  starting_by d = rw e (numbered (number b.regs) _ _ _ _ _ _ _)

-- for each command
module _ (b : Bank) (k : Blit) (m : List ℕ) where
  pub carried-nop : Nop ≡ operation_of b.regs → carrying b k m ≡ idling b k m
  carried-nop e = carrying_by b k m e

  pub carried-copy : Copy ≡ operation_of b.regs → carrying b k m ≡ copying b k m
  carried-copy e = carrying_by b k m e

  pub carried-stretch : Stretch ≡ operation_of b.regs → carrying b k m ≡ stretching b k m
  carried-stretch e = carrying_by b k m e

  pub carried-host : HostBlit ≡ operation_of b.regs → carrying b k m ≡ opening b m
  carried-host e = carrying_by b k m e

  pub carried-fill : Fill ≡ operation_of b.regs → carrying b k m ≡ filling b k m
  carried-fill e = carrying_by b k m e

  pub carried-line : Line ≡ operation_of b.regs → carrying b k m ≡ lining b k m
  carried-line e = carrying_by b k m e

  pub carried-none : NotBuilt ≡ operation_of b.regs → carrying b k m ≡ unbuilt b k m
  carried-none e = carrying_by b k m e

  pub started-host : (d : ℕ) → HostBlit ≡ operation_of b.regs → starting b k m d ≡ feeding b k m d
  started-host d e = starting_by b k m e d

-- where the word goes
pub aimed-host : (b : Bank) (d : ℕ) → HostBlit ≡ operation_of b.regs → aimed b d ≡ b
aimed-host b d e = aimed_by b d e

module _ (b : Bank) (d : ℕ) {o : Operation} (e : o ≡ operation_of b.regs) where
  pub aimed-source : (o ≡ Copy) ⊎ (o ≡ Stretch) → stored b 0x5c d ≡ aimed b d
  aimed-source t = rw (aimed_by b d e) (⊎_elim (λ z. rw z) (λ z. rw z) t)

  pub aimed-target : (o ≡ Fill) ⊎ (o ≡ Line) → stored b 0x6c d ≡ aimed b d
  aimed-target t = rw (aimed_by b d e) (⊎_elim (λ z. rw z) (λ z. rw z) t)

  pub aimed-none : (o ≡ Copy → ⊥) → (o ≡ Stretch → ⊥) → (o ≡ Fill → ⊥) → (o ≡ Line → ⊥) → b ≡ aimed b d
  aimed-none copy stretch fill line = rw (aimed_by b d e) (by-operation o copy stretch fill line)
    where
      by-operation : (o : Operation) → (o ≡ Copy → ⊥) → (o ≡ Stretch → ⊥) → (o ≡ Fill → ⊥) → (o ≡ Line → ⊥)
          → b ≡ by_operation o b (stored b 0x5c d) (stored b 0x5c d) b (stored b 0x6c d) (stored b 0x6c d) b
      by-operation Nop copy stretch fill line = refl
      by-operation Copy copy stretch fill line = absurd (copy refl)
      by-operation Stretch copy stretch fill line = absurd (stretch refl)
      by-operation HostBlit copy stretch fill line = refl
      by-operation Fill copy stretch fill line = absurd (fill refl)
      by-operation Line copy stretch fill line = absurd (line refl)
      by-operation NotBuilt copy stretch fill line = refl

-- for the attributes of functions
pub ruleset aims = (aimed-source, aimed-target, aimed-none)

pub ruleset carries = (carried-nop, carried-copy, carried-stretch, carried-host, carried-fill, carried-line, carried-none)

pub ruleset launches = (aimed-starts, started-host, aimed-host)

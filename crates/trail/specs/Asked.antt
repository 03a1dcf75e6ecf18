-- What functions of this crate ask for. No promise rests on it.
-- Assumes nothing.
use Rattle.std.specs.Prelude.{◌≡◌, List, ℕ, ◌+◌, ◌^◌, ◌<◌, ◌≤◌, length}
use Rattle.host.specs.Host.{words_of}
use Rattle.registers.specs.declared.Regs.{Regs}
use Rattle.bank.specs.declared.Bank.{Bank}
use Rattle.cuts.specs.Cut.{number}
use Rattle.command.specs.Decode.{feed_of}
use Rattle.acts.specs.declared.Blit.{Blit}
use Rattle.trail.specs.Trail.{verdict_by, wet_by}

-- a command, not nop, that the table takes, in a memory of len bytes; of a host blit, n words after `taken` others, which are words that it needs
pub record Goes (r : Regs) (taken n len : ℕ) : Type 0 where
  pub draws : number r ≡ 0 → ⊥
  pub fine : verdict_by r len ≡ 0
  pub limit : len ≤ 2 ^ 24
  pub some : number r ≡ 3 → 0 < n
  pub all : number r ≡ 3 → taken + n ≤ words_of (feed_of r)
  pub short : n ≤ 2 ^ 16

-- the same, whatever the length
pub record Gone (r : Regs) (taken n : ℕ) : Type 0 where
  pub len : ℕ
  pub goes : Goes r taken n len

-- one that has been carried out, and has written `count` pixels: more than none
pub record Went (b : Bank) (k : Blit) (ws m : List ℕ) (count : ℕ) : Type 0 where
  pub goes : Goes b.regs k.taken (length ws) (length m)
  pub many : length (wet_by b k ws m) ≡ count
  pub some : 0 < count

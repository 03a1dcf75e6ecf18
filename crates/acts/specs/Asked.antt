-- What functions of this crate ask for. No promise rests on it.
-- Assumes nothing.
use Rattle.std.specs.Prelude.{◌≡◌, ℕ, ◌+◌, ◌^◌, ◌<◌, ◌≤◌}
use Rattle.host.specs.Host.{words_of}
use Rattle.bank.specs.declared.Bank.{Bank}
use Rattle.command.specs.Decode.{feed_of}
use Rattle.table.specs.Table.{host_verdict}
use Rattle.acts.specs.declared.Blit.{Blit}

-- a blit that the table takes, that has not had all its words and still needs n, which are few enough that 32 bits count their pixels
pub record Feeds (b : Bank) (k : Blit) (len n : ℕ) : Type 0 where
  pub fine : host_verdict b.regs len ≡ 0
  pub more : k.taken < words_of (feed_of b.regs)
  pub all : k.taken + n ≤ words_of (feed_of b.regs)
  pub short : n ≤ 2 ^ 16

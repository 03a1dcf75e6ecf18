-- Several words of data at once: refused, without need, or painted.
-- Assumes nothing.
use mathlib.Core.Path.{◌≡◌, sym, ◌∙◌}
use mathlib.Core.List.{List}
use Prim.Native.Nat.{ℕ, ◌-◌, ◌^◌, ◌<◌, ◌≤◌, min}
use native.Mathlib.Omega.{arith}
use borrow.Author.Tests.{ne_eqb, lt-ltb, le-ltb}
use lib.ListN.{length, take}
use lib.Seq.{length-take-le}
use Rattle.paint.specs.Paint.{State, state}
use Rattle.host.specs.Host.{words_of}
use Rattle.bank.specs.declared.Bank.{Bank}
use Rattle.command.specs.Decode.{feed_of}
use Rattle.table.specs.Table.{host_verdict}
use Rattle.acts.specs.declared.Blit.{Blit}
use Rattle.acts.specs.Deed.{no_blit, painted_by}
use Rattle.acts.specs.Fed.{fed, touched_by_words, blit_after, reach, feeding_run}
use Rattle.acts.specs.Asked.{Feeds}
use Rattle.std.specs.Prelude.{Err}
use Rattle.table.specs.declared.Fault.{Fault}
use Rattle.table.specs.Fault.{fault_number}
use Rattle.acts.proofs.Laws.{fault-some}
use Rattle.table.proofs.Verdicts.{feed-sizes}

module _ (b : Bank) (k : Blit) (m ws : List ℕ) where
  pub fed-refused : (f : Fault) → fault_number f ≡ host_verdict b.regs (length m) → fed k (Err f) m ≡ feeding_run b k m ws
  unfolding feeding_run
  fed-refused f e = rw (← e, ne_eqb (fault_number f) 0 (fault-some f))

  module _ {needed : ℕ} (z : 0 ≡ host_verdict b.regs (length m)) (d : needed ≡ words_of (feed_of b.regs)) where
    pub fed-none : {k' : Blit} → needed ≤ k.taken → k' ≡ no_blit → record { verdict = 0; blit = k'; left = state m 0 0; used = 1 } ≡ feeding_run b k m ws
    unfolding feeding_run
    fed-none l p = rw (← z, ← d, le-ltb _ _ l, p)

    module _ {n : ℕ} (l : k.taken < needed) (q : n ≡ min (min (needed - k.taken) (2 ^ 16)) (length ws)) where
      pub part-long : length (take n ws) ≡ n
      part-long = length-take-le n ws (omega arith)

      pub part-feeds : Feeds b k (length m) (length (take n ws))
      part-feeds = record { fine = sym z; more = omega arith; all = omega (arith, part-long); short = omega (arith, part-long) }

      pub fed-some : {k' : Blit} {st : State} → k' ≡ blit_after k (take n ws) needed → st ≡ painted_by b (touched_by_words b k (take n ws)) m
          → record { verdict = 0; blit = k'; left = st; used = n } ≡ feeding_run b k m ws
      unfolding feeding_run
      fed-some p s =
          let r : n ≡ reach b k (length ws) = q ∙ rw d in
          rw (← z, ← d, lt-ltb _ _ l, p, s) (rw (← q, part-long))

-- for the attribute of `feed_run`
pub ruleset feedings = (fed-refused, fed-none, part-long, part-feeds, fed-some, feed-sizes)

-- Laws of a run: a word refused by row 1, a word that starts a command, a turn of the loop, and the end.
-- Assumes nothing.
use Rattle.std.proofs.Common.{◌≡◌, ℕ, ◌+◌, ◌-◌, ◌%◌, ◌^◌, ◌<◌, ◌≤◌, cond, eqb, List, length, get_or, take, drop, sym, refl, ap, ◌∙◌, true≢false, add_assoc, add-one, arith, length-drop, drop_of_length-le, take_all, drop-cons, le-ltb, lt-ltb, eq-eqb, ne_eqb}
use mathlib.Core.Path.{subst⁻¹}
use native.Mathlib.Nat.{mod-add-mod}
use native.Mathlib.Decide.{dec_le}
use Rattle.surface.proofs.Lists.{by_cases}
use Rattle.registers.specs.declared.Place.TheVariants.{Launch}
use Rattle.registers.specs.Offsets.{place_of}
use Rattle.cuts.specs.Cut.{number}
use Rattle.paint.specs.Paint.{tallied, state}
use Rattle.bank.specs.declared.Bank.{Bank}
use Rattle.acts.specs.declared.Act.{Act}
use Rattle.acts.specs.declared.Blit.{Blit}
use Rattle.acts.specs.Deed.{made, with_ends, Deed, deed, judged, carrying, aimed, starting}
use Rattle.acts.proofs.Cases.{by-test}
use Rattle.acts.proofs.Numbers.{aimed-starts, aimed-ends}
use Rattle.engine.specs.declared.Refusal.{Refusal}
use Rattle.engine.specs.declared.Refusal.TheVariants.{Memory, Offset, Waiting, NotBuilt, Format, Host, Off, Meet}
use Rattle.std.specs.Prelude.{Result, Ok, Err}
use Rattle.table.specs.declared.Fault.{Fault}
use Rattle.table.specs.Fault.{fault_number, verdict_number}
use Rattle.acts.proofs.Laws.{fault-some}
use Rattle.engine.specs.Step.{Step, step, making, number_in, refusal, regs, launched, written}
use Rattle.engine.proofs.Laws.{refused-number}
use Rattle.words.specs.Turn.{Went}
use Rattle.words.specs.Words.{Ran, launching, is_taken, further, halted, stopped, ran_from}

-- row 1 refuses no word
pub record Fits (t : Ran) : Type 0 where
  pub limit : length t.memory ≤ 2 ^ 24
  pub opened : length t.memory ≡ t.engine.opened

-- one word
unfoldable pub worded : Ran → ℕ → Ran
worded t w = cond (is_taken (launching t w)) (further t (launching t w)) (stopped t (launching t w))

-- the offset that stands for them all
pub launch-80 : place_of 0x80 ≡ Launch
unfolding place_of
launch-80 = refl

-- a slice from i on
pub part-rest : (ws : List ℕ) (i : ℕ) → take (length ws - i) (drop i ws) ≡ drop i ws
part-rest ws i = take_all (length ws - i) (drop i ws) (omega (arith, length-drop i ws))

-- a sum in 64 bits, taken in two steps
pub sum-joins : (a x y : ℕ) → ((a + x) % 2 ^ 64 + y) % 2 ^ 64 ≡ (a + (x + y)) % 2 ^ 64
sum-joins a x y = mod-add-mod (a + x) (2 ^ 64) y ∙ ap (λ (n : ℕ). n % 2 ^ 64) (add_assoc a x y)

-- the number of a refusal is none
pub no_zero : {n : ℕ} → 0 < n → n ≡ 0 → ⊥
no_zero h z = omega arith

-- ---- row 1
module _ (t : Ran) (w : ℕ) where
  pub row1-stops : (Fits t → ⊥) → halted t 1 ≡ worded t w
  unfolding worded written
  row1-stops n =
      let memory : launching t w ≡ step t.engine t.memory (Err Memory) =
      by_cases (dec_le (length t.memory) (2 ^ 24)) (λ l. rw (le-ltb _ _ l, ne_eqb _ _ (λ o. n (record { limit = l; opened = o })))) (λ l. rw (lt-ltb (2 ^ 24) (length t.memory) (omega arith))) in
      rw memory

  pub fits-launched : Fits t → launching t w ≡ launched t.engine t.memory w
  unfolding written
  fits-launched f = rw (le-ltb _ _ f.limit, eq-eqb _ _ f.opened, launch-80)

  -- a word that the verdict refuses
  pub verdict-stops : Fits t → {n : ℕ} → n ≡ (starting t.engine.bank t.engine.blit t.memory w).verdict → (n ≡ 0 → ⊥) → halted t (number_in (refusal n)) ≡ worded t w
  unfolding worded launched
  verdict-stops f {n} e no' =
      let here : launching t w ≡ step t.engine t.memory (Err (refusal n)) = fits-launched f ∙ rw (e, ne_eqb _ 0 (λ z. no' (e ∙ z))) in
      rw (here, ne_eqb (number_in (refusal n)) 0 (no_zero (refused-number n)))

-- ---- a word that starts a command
judged-verdict : (d : Deed) (b : Bank) (k : Blit) (m : List ℕ) → (judged d b k m).verdict ≡ d.verdict
unfolding judged
judged-verdict d b k m = by-test (λ u. (cond u d (record { verdict = d.verdict; makes = made b k (state m 0 0) })).verdict ≡ d.verdict) (eqb d.verdict 0) (λ _. refl) (λ _. refl)

module _ (t : Ran) (w : ℕ) (fits : Fits t) (other : number (regs t.engine) ≡ 3 → ⊥) (x : Result Act Fault) (m' : List ℕ)
    (p : deed (aimed t.engine.bank w) t.engine.blit x m'
    ≡ judged (carrying (aimed t.engine.bank w) t.engine.blit t.memory) (aimed t.engine.bank w) t.engine.blit t.memory) where
  begun : Deed
  begun = starting t.engine.bank t.engine.blit t.memory w

  begun-judged : deed (aimed t.engine.bank w) t.engine.blit x m' ≡ judged begun (aimed t.engine.bank w) t.engine.blit t.memory
  unfolding begun
  begun-judged =
      p ∙ ap (λ (d : Deed). judged d (aimed t.engine.bank w) t.engine.blit t.memory) (aimed-starts t.engine.bank t.engine.blit t.memory w other)

  begun-verdict : verdict_number x ≡ begun.verdict
  begun-verdict = sym (deed-verdict x) ∙ ap (λ (d : Deed). d.verdict) begun-judged ∙ judged-verdict begun (aimed t.engine.bank w) t.engine.blit t.memory
    where
      deed-verdict : (x : Result Act Fault) → (deed (aimed t.engine.bank w) t.engine.blit x m').verdict ≡ verdict_number x
      deed-verdict (Ok a) = refl
      deed-verdict (Err f) = refl

  begun-undone : (begun.verdict ≡ 0 → ⊥) → (judged begun (aimed t.engine.bank w) t.engine.blit t.memory).makes.left.mem ≡ t.memory
  unfolding judged
  begun-undone no' = rw (ne_eqb begun.verdict 0 no')

  pub start-stops : (f : Fault) → x ≡ Err f → halted (record { engine = t.engine; memory = m'; number = 0; taken = t.taken; count = t.count; changed = t.changed }) (number_in (refusal (fault_number f))) ≡ worded t w
  unfolding begun
  start-stops f e =
      let verdict : fault_number f ≡ begun.verdict = rw e at begun-verdict in
      let same : m' ≡ t.memory = ap (λ (d : Deed). d.makes.left.mem) (rw e at begun-judged) ∙ begun-undone (λ z. fault-some f (verdict ∙ z)) in
      rw same (verdict-stops t w fits verdict (fault-some f))

  pub start-goes : (a : Act) → x ≡ Ok a
      → record {
        engine = record { bank = with_ends t.engine.bank a.ends; blit = a.blit; opened = t.engine.opened; rooms = t.engine.rooms };
        memory = m';
        number = 0;
        taken = t.taken + 1;
        count = (t.count + a.tally.count) % 2 ^ 64;
        changed = (t.changed + a.tally.changed) % 2 ^ 64;
      } ≡ worded t w
  unfolding begun worded judged launched
  start-goes a e =
      let zero' : begun.verdict ≡ 0 = sym (rw e at begun-verdict) in
      let taken : judged begun (aimed t.engine.bank w) t.engine.blit t.memory ≡ begun = rw zero' in
      let made' : begun.makes ≡ made (with_ends (aimed t.engine.bank w) a.ends) a.blit (tallied m' a.tally) = ap (λ (d : Deed). d.makes) (sym ((rw e at begun-judged) ∙ taken)) in
      let here : launching t w ≡ making t.engine (made (with_ends t.engine.bank a.ends) a.blit (tallied m' a.tally)) = fits-launched t w fits ∙ rw (zero', made', aimed-ends t.engine.bank w a.ends) in
      rw here

-- ---- the number of a refusal is not 0
pub refusal-some : (r : Refusal) → number_in r ≡ 0 → ⊥
refusal-some Memory e = omega arith
refusal-some Offset e = omega arith
refusal-some Waiting e = omega arith
refusal-some NotBuilt e = omega arith
refusal-some Format e = omega arith
refusal-some Host e = omega arith
refusal-some Off e = omega arith
refusal-some Meet e = omega arith

-- ---- a turn of the loop
module _ (ws : List ℕ) (s : Ran) (some : s.taken < length ws) where
  next : Step
  next = launching s (get_or ws s.taken 0)

  opened : ran_from s (drop s.taken ws) ≡ cond (is_taken next) (ran_from (further s next) (drop (s.taken + 1) ws)) (stopped s next)
  unfolding ran_from next
  opened = rw (drop-cons ws s.taken 0 some, add-one)

  pub went-word : {s' : Ran} → s' ≡ worded s (get_or ws s.taken 0) → Went ws s s'
  unfolding worded next
  went-word p =
      subst⁻¹ (Went ws s) p
      (by-test (λ t. is_taken next ≡ t → Went ws s (cond t (further s next) (stopped s next))) (is_taken next)
      (λ _ f. record {
        more = λ _. omega arith;
        goes = λ _. sym (opened ∙ ap (λ t. cond t (ran_from (further s next) (drop (s.taken + 1) ws)) (stopped s next)) f);
        stops = λ no'. absurd (no' refl);
      })
      (λ _ f. record {
        more = λ z. absurd (true≢false (sym (eq-eqb _ 0 z) ∙ f));
        goes = λ z. absurd (true≢false (sym (eq-eqb _ 0 z) ∙ f));
        stops = λ _. sym (opened ∙ ap (λ t. cond t (ran_from (further s next) (drop (s.taken + 1) ws)) (stopped s next)) f);
      }) refl)

pub ran_ends : (ws : List ℕ) (t : Ran) → length ws ≤ t.taken → t ≡ ran_from t (drop t.taken ws)
unfolding ran_from
ran_ends ws t h = rw (drop_of_length-le ws h)

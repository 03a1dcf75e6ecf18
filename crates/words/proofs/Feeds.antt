-- Words of one host blit: taken one by one, they leave what is said of all of them at once.
-- Assumes nothing.
use Rattle.std.proofs.Common.{◌≡◌, ℕ, suc, ◌+◌, ◌%◌, ◌^◌, ◌<◌, ◌≤◌, Bool, true, false, cond, eqb, ltb, List, [], ◌∷◌, ◌++◌, length, get_or, take, drop, sym, refl, ap, ◌∙◌, ap₂, arith, length-drop, take-append-drop, length-take-le, drop-drop, ltb-false, ltb-true, le-ltb, lt-ltb, eqb-true}
use borrow.Author.Tests.{eqb-false}
use Rattle.paint.specs.Tally.{noted}
use Rattle.paint.specs.Paint.{State, tallied, state, Touch, paint}
use Rattle.paint.proofs.Turns.{paint-append}
use Rattle.paint.proofs.Frame.{paint-length, painted-after}
use Rattle.host.specs.Host.{words_of, by_word, by_run, last_of}
use Rattle.host.specs.Draw.{host_touches}
use Rattle.host.proofs.Drawing.{touches-append}
use Rattle.host.proofs.Runs.{run-one}
use Rattle.bank.specs.declared.Bank.{Bank}
use Rattle.command.specs.Decode.{target, ink_of, feed_of}
use Rattle.cuts.specs.Cut.{clip_of, number}
use Rattle.table.specs.Table.{host_verdict}
use Rattle.acts.specs.declared.Blit.{Blit}
use Rattle.acts.specs.Deed.{no_blit, rect_ended, made, starting, touched_by_word, painted_by}
use Rattle.acts.specs.Fed.{Feeding, touched_by_words, blit_after, feed_ended, reach, feeding_words, feeding_run}
use Rattle.acts.proofs.Cases.{picked}
use Rattle.engine.specs.Step.{Step, making, number_in, refusal, regs, launched}
use Rattle.words.specs.Words.{Ran, launching, is_taken, further, stopped, ran_from}
use Rattle.words.specs.Turn.{Went}
use Rattle.words.proofs.Laws.{Fits, worded, sum-joins, fits-launched, verdict-stops, went-word}

-- the run after some words of a blit
abbrev pub fed_to : Ran → Feeding → Ran
fed_to t x = record {
  engine = record { bank = feed_ended t.engine.bank x.blit; blit = x.blit; opened = t.engine.opened; rooms = t.engine.rooms };
  memory = x.left.mem;
  number = 0;
  taken = t.taken + x.used;
  count = (t.count + x.left.tally.count) % 2 ^ 64;
  changed = (t.changed + x.left.tally.changed) % 2 ^ 64;
}

abbrev pub needed : Ran → ℕ
needed t = words_of (feed_of (regs t.engine))

abbrev fed_with : Ran → List ℕ → Feeding
fed_with t ws = feeding_words t.engine.bank t.engine.blit t.memory ws

-- its next word is data for a host blit that the table takes
pub record Ready (t : Ran) : Type 0 where
  pub fits : Fits t
  pub host : number (regs t.engine) ≡ 3
  pub fine : host_verdict (regs t.engine) (length t.memory) ≡ 0

-- ---- words after others
abbrev waits : Blit → ℕ → Blit
waits k w = record { waiting = true; taken = k.taken + 1; last = w }

module _ (b : Bank) (k : Blit) (m : List ℕ) (w : ℕ) where
  abbrev first : State
  first = painted_by b (touched_by_word b k w) m

  abbrev later : List ℕ → State
  later ws = painted_by b (touched_by_words b (waits k w) ws) first.mem

  words-painted : (ws : List ℕ) → tallied (later ws).mem (noted (later ws).tally.count (later ws).tally.changed first.tally) ≡ painted_by b (touched_by_words b k (w ∷ ws)) m
  unfolding by_run
  words-painted ws =
      let f = feed_of b.regs in
      let mine = host_touches (ink_of b.regs) b.pattern (clip_of b.regs) f (by_word f k.last w k.taken) in
      let theirs = host_touches (ink_of b.regs) b.pattern (clip_of b.regs) f (by_run f w ws (k.taken + 1)) in
      painted-after (target b.regs) theirs first.mem first.tally refl
      ∙ sym (paint-append (target b.regs) mine theirs (state m 0 0))
      ∙ ap (λ (ts : List Touch). paint (target b.regs) ts (state m 0 0))
      (sym (touches-append (ink_of b.regs) b.pattern (clip_of b.regs) f (by_word f k.last w k.taken) (by_run f w ws (k.taken + 1))))

-- ---- one word
module _ (t : Ran) (w : ℕ) where
  abbrev b : Bank
  b = t.engine.bank

  abbrev k : Blit
  k = t.engine.blit

  abbrev painted : State
  painted = first b k t.memory w

  abbrev waiting : Blit
  waiting = waits k w

  launched-word : Ready t → k.taken < needed t
      → launching t w ≡ making t.engine (cond (ltb (k.taken + 1) (needed t)) (made b waiting painted) (made (rect_ended b) no_blit painted))
  unfolding launched starting
  launched-word r h = fits-launched t w r.fits ∙ rw (r.host, r.fine, lt-ltb _ _ h)

  abbrev one_word : Bool → Feeding
  one_word u = record { verdict = 0; blit = cond u waiting no_blit; left = painted; used = 1 }

  one-fed : fed_with t (w ∷ []) ≡ one_word (ltb (k.taken + 1) (needed t))
  unfolding blit_after last_of
  one-fed = rw (run-one (feed_of (regs t.engine)) w k.last k.taken)

  one-word : (rest : List ℕ) → Ready t → k.taken < needed t → ran_from t (w ∷ rest) ≡ ran_from (fed_to t (one_word (ltb (k.taken + 1) (needed t)))) rest
  unfolding ran_from feed_ended
  one-word rest r h = by-case (ltb (k.taken + 1) (needed t)) (launched-word r h)
    where
      by-case : (u : Bool) → launching t w ≡ making t.engine (cond u (made b waiting painted) (made (rect_ended b) no_blit painted))
          → ran_from t (w ∷ rest) ≡ ran_from (fed_to t (one_word u)) rest
      by-case true p = ap (λ (s : Step). cond (is_taken s) (ran_from (further t s) rest) (stopped t s)) p
      by-case false p = ap (λ (s : Step). cond (is_taken s) (ran_from (further t s) rest) (stopped t s)) p

  -- not the last of the blit
  abbrev next : Ran
  next = fed_to t (one_word true)

  module _ (r : Ready t) (h : k.taken + 1 < needed t) where
    word-before : (rest : List ℕ) → ran_from t (w ∷ rest) ≡ ran_from next rest
    word-before rest = one-word rest r (omega arith) ∙ ap (λ u. ran_from (fed_to t (one_word u)) rest) (lt-ltb _ _ h)

    still-ready : Ready next
    unfolding feed_ended
    still-ready =
        let long : length painted.mem ≡ length t.memory = paint-length (target b.regs) _ (state t.memory 0 0) in
        record {
          fits = record { limit = omega (arith, r.fits.limit); opened = long ∙ r.fits.opened };
          host = r.host;
          fine = ap (host_verdict (regs t.engine)) long ∙ r.fine;
        }

  -- it and the words after it, taken together
  abbrev together : List ℕ → Feeding
  together ws =
      let d = later b k t.memory w ws in
      record {
        verdict = 0;
        blit = blit_after waiting ws (needed t);
        left = tallied d.mem (noted d.tally.count d.tally.changed painted.tally);
        used = suc (length ws);
      }

  are-together : (ws : List ℕ) → together ws ≡ fed_with t (w ∷ ws)
  unfolding blit_after last_of
  are-together ws =
      let places : k.taken + 1 + length ws ≡ k.taken + suc (length ws) = omega arith in
      ap₂ (λ (x : Blit) (st : State). record { verdict = 0; blit = x; left = st; used = suc (length ws) })
      (ap (λ (n : ℕ). cond (ltb n (needed t)) (record { waiting = true; taken = n; last = last_of w ws }) no_blit) places) (words-painted b k t.memory w ws)

  joins : (ws : List ℕ) → fed_to next (fed_with next ws) ≡ fed_to t (fed_with t (w ∷ ws))
  unfolding feed_ended
  joins ws =
      let d = later b k t.memory w ws in
      let words : t.taken + 1 + length ws ≡ t.taken + suc (length ws) = omega arith in
      let count = sum-joins t.count painted.tally.count d.tally.count in
      let changed = sum-joins t.changed painted.tally.changed d.tally.changed in
      rw (words, count, changed) (ap (fed_to t) (are-together ws))

-- ---- some words
run-feeds : (w : ℕ) (ws rest : List ℕ) (t : Ran) → Ready t → t.engine.blit.taken + suc (length ws) ≤ needed t
    → ran_from t (w ∷ (ws ++ rest)) ≡ ran_from (fed_to t (fed_with t (w ∷ ws))) rest
unfolding feed_ended
run-feeds w [] rest t r h = one-word t w rest r (omega arith) ∙ ap (λ (x : Feeding). ran_from (fed_to t x) rest) (sym (one-fed t w))
run-feeds w (v ∷ ws) rest t r h =
    word-before t w r (omega arith) (v ∷ (ws ++ rest)) ∙ run-feeds v ws rest (next t w) (still-ready t w r (omega arith)) (omega arith)
    ∙ ap (λ (s : Ran). ran_from s rest) (joins t w (v ∷ ws))

pub all-feed : (ws rest : List ℕ) (t : Ran) → 0 < length ws → Ready t → t.engine.blit.taken + length ws ≤ needed t
    → ran_from t (ws ++ rest) ≡ ran_from (fed_to t (fed_with t ws)) rest
all-feed [] rest t some r h = absurd (omega arith)
all-feed (w ∷ ws) rest t some r h = run-feeds w ws rest t r h

-- ---- what was fed of the words that are left
pub record Turned (ws : List ℕ) (s : Ran) (x : Feeding) : Type 0 where
  pub stops : (x.verdict ≡ 0 → ⊥) → Went ws s (record { engine = s.engine; memory = x.left.mem; number = number_in (refusal x.verdict); taken = s.taken; count = s.count; changed = s.changed })
  pub goes : x.verdict ≡ 0 → Went ws s (fed_to s x)
  pub within : s.taken + x.used ≤ length ws

module _ (ws : List ℕ) (s : Ran) (fits : Fits s) (host : number (regs s.engine) ≡ 3) (some : s.taken < length ws) where
  abbrev word : ℕ
  word = get_or ws s.taken 0

  abbrev rest : List ℕ
  rest = drop s.taken ws

  abbrev verdict : ℕ
  verdict = host_verdict (regs s.engine) (length s.memory)

  refused : eqb verdict 0 ≡ false → Turned ws s (record { verdict = verdict; blit = s.engine.blit; left = state s.memory 0 0; used = 0 })
  unfolding starting
  refused e = record {
    stops = λ no'. went-word ws s some (verdict-stops s word fits (rw host) no');
    goes = λ z. absurd (eqb-false verdict 0 e z);
    within = omega arith;
  }

  without-need : verdict ≡ 0 → needed s ≤ s.engine.blit.taken → Turned ws s (record { verdict = 0; blit = no_blit; left = state s.memory 0 0; used = 1 })
  unfolding launched starting worded feed_ended
  without-need z l =
      let here : launching s word ≡ making s.engine (made (rect_ended s.engine.bank) no_blit (state s.memory 0 0)) = fits-launched s word fits ∙ rw (host, z, le-ltb _ _ l) in
      record { stops = λ no'. absurd (no' refl); goes = λ _. went-word ws s some (rw here); within = omega arith }

  fed-some : verdict ≡ 0 → s.engine.blit.taken < needed s → Turned ws s (fed_with s (take (reach s.engine.bank s.engine.blit (length rest)) rest))
  fed-some z l =
      let n = reach s.engine.bank s.engine.blit (length rest) in
      let left : 0 < length rest = omega (arith, length-drop s.taken ws) in
      let long : length (take n rest) ≡ n = length-take-le n rest (omega arith) in
      record {
        stops = λ no'. absurd (no' refl);
        goes = λ _. record {
          more = λ _. omega arith;
          goes = λ _.
              ap (ran_from (fed_to s (fed_with s (take n rest)))) (ap (λ (k : ℕ). drop (s.taken + k) ws) long ∙ sym (drop-drop n s.taken ws))
              ∙ sym (all-feed (take n rest) (drop n rest) s (omega arith) (record { fits = fits; host = host; fine = z }) (omega arith)) ∙ ap (ran_from s) (take-append-drop n rest);
          stops = λ no'. absurd (no' refl);
        };
        within = omega (arith, length-drop s.taken ws);
      }

  pub turned : Turned ws s (feeding_run s.engine.bank s.engine.blit s.memory rest)
  unfolding feeding_run
  turned =
      picked (Turned ws s) (eqb verdict 0) _ _
      (λ z. picked (Turned ws s) (ltb s.engine.blit.taken (needed s)) _ _ (λ l. fed-some (eqb-true verdict 0 z) (ltb-true _ _ l)) (λ l. without-need (eqb-true verdict 0 z) (ltb-false _ _ l)))
      refused

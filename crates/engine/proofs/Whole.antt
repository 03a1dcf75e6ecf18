-- A host blit as a whole: its words one after the other paint each pixel of the rectangle once, with the value that the data has.
-- Assumes nothing.
use mathlib.Core.Path.{◌≡◌, refl, sym, ap, ap₂, subst⁻¹, ◌∙◌}
use mathlib.Core.Logic.{⊎_elim}
use mathlib.Core.Bool.{true, false}
use mathlib.Core.List.Memᴰ
use mathlib.Core.List.{List, [], ◌∷◌, ◌++◌, Memᴰ}
use Prim.Native.Nat.{ℕ, zero, suc, ◌+◌, ◌-◌, ◌^◌, ◌<◌, ◌≤◌}
use native.Mathlib.Omega.{arith}
use lib.Dec.{ltb}
use lib.ListN.{length}
use borrow.Author.Tests.{eq-eqb, le-ltb, ltb-true, ltb-false}
use Rattle.surface.proofs.OnLaws.{pos-of-ne}
use Rattle.paint.specs.Tally.{tally}
use Rattle.paint.specs.Paint.{State, state, paint}
use Rattle.paint.proofs.Frame.{paint-length, painted-after}
use Rattle.host.specs.declared.Feed.{Feed}
use Rattle.host.specs.Host.{Pixel, by_word, words_of}
use Rattle.host.specs.Stream.{before, by_words}
use Rattle.host.specs.Draw.{host_touches, drawn}
use Rattle.host.proofs.Drawing.{drawn-append}
use Rattle.host.proofs.Needed.{some-pixel, flat}
use Rattle.host.proofs.Whole.{Data, Prior, word-any, all_words}
use Rattle.registers.specs.declared.Place.{Place}
use Rattle.registers.specs.declared.Place.TheVariants.{Launch}
use Rattle.registers.specs.Offsets.{place_of}
use Rattle.bank.specs.declared.Bank.{Bank}
use Rattle.command.specs.Decode.{target, ink_of, feed_of}
use Rattle.cuts.specs.Cut.{number, clip_of}
use Rattle.table.specs.Table.{host_verdict}
use Rattle.table.proofs.Verdicts.{host-can}
use Rattle.acts.specs.declared.Blit.{Blit}
use Rattle.acts.specs.Deed.{Made, feeding, starting, touched_by_word}
use Rattle.acts.proofs.Cases.{picked}
use Rattle.engine.specs.declared.Engine.{Engine}
use Rattle.engine.specs.Step.{Answer, Step, number_of, count_of, changed_of, making, regs, with_blit, launched, to_place, written}
use Rattle.engine.specs.Writes.{Run, run, played, counted, changes, sent}
use Rattle.engine.specs.Promises.{Sends, AllWords, WaitingWhole, OpenedWhole}
use Rattle.engine.proofs.Short.{word_touches}
use Rattle.engine.proofs.Played.{played-last, counted-last, changes-last}

-- ---- one word
record Fed (e : Engine) (m : List ℕ) (d : ℕ) (s : Step) : Type 0 where
  taken : number_of s.answer ≡ 0
  painted : state s.memory (count_of s.answer) (changed_of s.answer) ≡ paint (target (regs e)) (word_touches e d) (state m 0 0)
  goes : e.blit.taken + 1 < words_of (feed_of (regs e)) → s.engine ≡ with_blit e (record { waiting = true; taken = e.blit.taken + 1; last = d })
  ended : e.blit.taken + 1 ≡ words_of (feed_of (regs e)) → s.engine.blit.waiting ≡ false

module _ (e : Engine) (m : List ℕ) (o d : ℕ) (place : place_of o ≡ Launch) (limit : length m ≤ 2 ^ 24) (opened : length m ≡ e.opened)
    (three : number (regs e) ≡ 3) (fine : host_verdict (regs e) (length m) ≡ 0) (few : e.blit.taken < words_of (feed_of (regs e))) where
  feeds : written e m o d ≡ making e (feeding e.bank e.blit m d).makes
  unfolding written launched starting
  feeds =
      rw (le-ltb (2 ^ 24) (length m) limit, eq-eqb (length m) e.opened opened)
      (ap (λ (p : Place). to_place p e m o d) place ∙ rw three (rw (eq-eqb (host_verdict (regs e) (length m)) 0 fine)))

  word-fed : Fed e m d (written e m o d)
  word-fed =
      let words = words_of (feed_of (regs e)) in
      subst⁻¹ (Fed e m d) feeds
      (picked (λ (k : Made). Fed e m d (making e k)) (ltb e.blit.taken words) _ _
      (λ _. picked (λ (k : Made). Fed e m d (making e k)) (ltb (e.blit.taken + 1) words) _ _
      (λ t. record { taken = refl; painted = refl; goes = λ _. refl; ended = λ z. let l = ltb-true (e.blit.taken + 1) words t in absurd (omega arith) })
      (λ t. record { taken = refl; painted = refl; goes = λ l. let u = ltb-false (e.blit.taken + 1) words t in absurd (omega arith); ended = λ _. refl }))
      (λ t. let u = ltb-false e.blit.taken words t in absurd (omega arith)))

-- ---- all words
module _ (e : Engine) (m : List ℕ) (os ws : ℕ → ℕ) (sends : Sends e m os ws) (three : number (regs e) ≡ 3) (fine : host_verdict (regs e) (length m) ≡ 0)
    (more : 0 < words_of (feed_of (regs e))) (fresh : e.blit.taken ≡ 0) (small : e.blit.last < 2 ^ 32) where
  abbrev feed : Feed
  feed = feed_of (regs e)

  abbrev draws : List Pixel → State → State
  draws = drawn (ink_of (regs e)) e.bank.pattern (clip_of (regs e)) feed

  data' : Data ws feed
  data' = record { held = (host-can (regs e) (length m) fine more).rows; words = sends.words }

  -- the engine that has had n words, and needs more
  record Goes (n : ℕ) (now : Engine) : Type 0 where
    bank : now.bank ≡ e.bank
    opened : now.opened ≡ e.opened
    had : now.blit.taken ≡ n
    prior : Prior ws n now.blit.last

  -- n words played
  record Far (n : ℕ) (r : Run) : Type 0 where
    taken : (a : Answer) → Memᴰ a r.answers → number_of a ≡ 0
    goes : n < words_of feed → Goes n r.engine
    ended : n ≡ words_of feed → r.engine.blit.waiting ≡ false
    painted : state r.memory (counted r.answers) (changes r.answers) ≡ draws (by_words ws feed n) (state m 0 0)

  far_none : Far 0 (run e m [])
  unfolding counted changes by_words host_touches paint
  far_none = record {
    taken = λ a i. absurd (Memᴰ.not-nil i);
    goes = λ _. record { bank = refl; opened = refl; had = fresh; prior = record { word = λ l. absurd (omega arith); small = small } };
    ended = λ z. absurd (omega arith);
    painted = refl;
  }

  module _ (n : ℕ) (r : Run) (l : n < words_of feed) (far : Far n r) where
    abbrev next : Step
    next = written r.engine r.memory (os n) (ws n)

    now : Goes n r.engine
    now = far.goes l

    long : length r.memory ≡ length m
    long =
        ap (λ (st : State). length st.mem) far.painted
        ∙ paint-length (ink_of (regs e)).target (host_touches (ink_of (regs e)) e.bank.pattern (clip_of (regs e)) feed (by_words ws feed n)) (state m 0 0)

    fed-next : Fed r.engine r.memory (ws n) next
    fed-next =
        word-fed r.engine r.memory (os n) (ws n) (sends.places n) (subst⁻¹ (λ (k : ℕ). k ≤ 2 ^ 24) long sends.limit) (long ∙ sends.opened ∙ sym now.opened)
        (subst⁻¹ (λ (b : Bank). number b.regs ≡ 3) now.bank three)
        (subst⁻¹ (λ (k : ℕ). host_verdict (regs r.engine) k ≡ 0) long (subst⁻¹ (λ (b : Bank). host_verdict b.regs (length m) ≡ 0) now.bank fine))
        (subst⁻¹ (λ (k : ℕ). k < words_of (feed_of (regs r.engine))) now.had (subst⁻¹ (λ (b : Bank). n < words_of (feed_of b.regs)) now.bank l))

    after-it : (r.engine.blit.taken + 1 ≡ suc n) × (words_of (feed_of (regs r.engine)) ≡ words_of feed)
    after-it = let h = now.had in (omega arith, ap (λ (b : Bank). words_of (feed_of b.regs)) now.bank)

    -- what the word paints
    word-paints : paint (target (regs r.engine)) (word_touches r.engine (ws n)) ≡ draws (by_word feed (before ws n) (ws n) n)
    unfolding ink_of
    word-paints =
        ap (λ (b : Bank). paint (target b.regs) (touched_by_word b r.engine.blit (ws n))) now.bank
        ∙ ap (λ (k : ℕ). draws (by_word feed r.engine.blit.last (ws n) k)) now.had
        ∙ ap draws (word-any ws feed data' n r.engine.blit.last now.prior)

    word-painted : state next.memory (counted (r.answers ++ (next.answer ∷ []))) (changes (r.answers ++ (next.answer ∷ []))) ≡ draws (by_words ws feed (suc n)) (state m 0 0)
    unfolding by_words
    word-painted =
        let count = counted r.answers in
        let changed = changes r.answers in
        let s = target (regs r.engine) in
        let ts = word_touches r.engine (ws n) in
        ap₂ (state next.memory) (counted-last r.answers next.answer) (changes-last r.answers next.answer)
        ∙ painted-after s ts r.memory (tally count changed) fed-next.painted
        ∙ ap (λ (f : State → State). f (state r.memory count changed)) word-paints
        ∙ ap (draws (by_word feed (before ws n) (ws n) n)) far.painted
        ∙ sym (drawn-append (ink_of (regs e)) e.bank.pattern (clip_of (regs e)) feed (by_words ws feed n) (by_word feed (before ws n) (ws n) n) (state m 0 0))

    far-next : Far (suc n) (run next.engine next.memory (r.answers ++ (next.answer ∷ [])))
    far-next = record {
      taken = λ a i. ⊎_elim (λ j. far.taken a j) (λ j. ap number_of (Memᴰ.eq_of_singleton j) ∙ fed-next.taken) (Memᴰ.append_cases r.answers i);
      goes = λ u.
          let q : n ≡ suc n - 1 = omega arith in
          subst⁻¹ (Goes (suc n)) (fed-next.goes (omega (arith, after-it)))
          (record { bank = now.bank; opened = now.opened; had = after-it.0; prior = record { word = λ _. ap ws q; small = sends.words n } });
      ended = λ z. fed-next.ended (after-it.0 ∙ z ∙ sym after-it.1);
      painted = word-painted;
    }

  far-all : (n : ℕ) → n ≤ words_of feed → Far n (played e m (sent os ws n))
  unfolding played sent
  far-all zero l = far_none
  far-all (suc n) l =
      subst⁻¹ (Far (suc n)) (played-last e m (sent os ws n) (record { offset = os n; word = ws n }))
      (far-next n (played e m (sent os ws n)) (omega arith) (far-all n (omega arith)))

  some-row : 0 < feed.height
  some-row =
      pos-of-ne (λ z.
      let w = some-pixel feed data'.held in
      let none' = flat feed.bytes feed.step feed.width feed.height (λ y. omega arith) z in
      omega arith)

  pub whole : AllWords e m os ws
  unfolding ink_of
  whole =
      let far = far-all (words_of feed) (omega arith) in
      record {
        taken = far.taken;
        ended = far.ended refl;
        painted = far.painted ∙ ap (λ (ps : List Pixel). draws ps (state m 0 0)) (all_words ws feed data' some-row);
      }

pub waiting-whole : WaitingWhole
waiting-whole e m os ws sends waits fresh small =
    let h = sends.sound.waits waits in
    whole e m os ws sends h.0 (ap (host_verdict (regs e)) sends.opened ∙ h.1.0) (omega arith) fresh small

pub opened-whole : OpenedWhole
opened-whole e m os ws sends rests three fine more =
    let h = sends.sound.rests rests in
    let last = ap (λ (b : Blit). b.last) h in
    whole e m os ws sends three fine more (ap (λ (b : Blit). b.taken) h) (omega arith)

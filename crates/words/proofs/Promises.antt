-- The promises of a run.
-- Assumes nothing.
use Rattle.std.proofs.Common.{◌≡◌, ℕ, zero, suc, ◌+◌, ◌*◌, ◌%◌, ◌^◌, ◌<◌, ◌≤◌, true, false, cond, List, [], ◌∷◌, ◌++◌, map, length, get_or, take, sym, refl, ap, ◌∙◌, true≢false, append-nil, mod-eq_of_lt, zero-add, arith, length-take, eq-eqb, eqb-true}
use native.Mathlib.Nat.{add-mod-mod}
use Rattle.table.specs.Table.{host_verdict}
use Rattle.acts.proofs.Cases.{by-test, picked}
use Rattle.engine.specs.declared.Engine.{Engine}
use Rattle.engine.specs.Step.{number_of, regs, written}
use Rattle.engine.specs.Writes.{Run, played, counted, changes}
use Rattle.engine.proofs.Count.{no-more-changed}
use Rattle.basics.proofs.One.{settled}
use Rattle.engine.proofs.Most.{count_fits}
use Rattle.words.specs.Words.{Ran, started, launching, is_taken, further, stopped, ran_from, ran}
use Rattle.words.specs.Promises.{OneRun, EmptyRun, AnyLaunch, RunPlayed, SumsWhole, RunStops, joined, RunSplit, RestOfBlit}
use Rattle.words.proofs.Laws.{launch-80, sum-joins}
use Rattle.words.proofs.Feeds.{Ready, all-feed}

pub one-run : OneRun
one-run e m ws x y = settled (ran e m ws) x y

pub empty-run : EmptyRun
unfolding ran_from
empty-run e m = refl

pub any-launch : AnyLaunch
unfolding written
any-launch e m o w p = rw (p, launch-80)

-- ---- a run from t on, in terms of single writes

-- words as single writes
abbrev plays : Engine → List ℕ → List ℕ → Run
plays e m ws = played e m (map (λ w. record { offset = 0x80; word = w }) ws)

-- it goes on, and its sums fit 64 bits
record Going (t : Ran) : Type 0 where
  number : t.number ≡ 0
  count : t.count < 2 ^ 64
  changed : t.changed < 2 ^ 64

-- k words of ws were taken from t to r
record From (t : Ran) (ws : List ℕ) (r : Ran) : Type 0 where
  k : ℕ
  taken : r.taken ≡ t.taken + k
  engine : r.engine ≡ (plays t.engine t.memory (take k ws)).engine
  memory : r.memory ≡ (plays t.engine t.memory (take k ws)).memory
  count : r.count ≡ (t.count + counted (plays t.engine t.memory (take k ws)).answers) % 2 ^ 64
  changed : r.changed ≡ (t.changed + changes (plays t.engine t.memory (take k ws)).answers) % 2 ^ 64
  whole : r.number ≡ 0 → k ≡ length ws
  part : (r.number ≡ 0 → ⊥) → k < length ws
  refused : (r.number ≡ 0 → ⊥) → number_of (launching r (get_or ws k 0)).answer ≡ r.number
  earlier : (i : ℕ) → i < k → let p = plays t.engine t.memory (take i ws) in number_of (written p.engine p.memory 0x80 (get_or ws i 0)).answer ≡ 0

module _ (t : Ran) (w : ℕ) (ws : List ℕ) where
  one_more : is_taken (launching t w) ≡ true → {r : Ran} → From (further t (launching t w)) ws r → From t (w ∷ ws) r
  unfolding played counted changes
  one_more h f = record {
    k = suc f.k;
    taken = omega (arith, f.taken);
    engine = f.engine;
    memory = f.memory;
    count = f.count ∙ sum-joins t.count _ _;
    changed = f.changed ∙ sum-joins t.changed _ _;
    whole = λ z. ap suc (f.whole z);
    part = λ no'. omega (arith, f.part no');
    refused = f.refused;
    earlier = before;
  }
    where
      before : (i : ℕ) → i < suc f.k
          → let p = plays t.engine t.memory (take i (w ∷ ws)) in number_of (written p.engine p.memory 0x80 (get_or (w ∷ ws) i 0)).answer ≡ 0
      before zero l = eqb-true (number_of (launching t w).answer) 0 h
      before (suc i) l = f.earlier i (omega arith)

  not_taken : is_taken (launching t w) ≡ false → (stopped t (launching t w)).number ≡ 0 → ⊥
  not_taken f z = true≢false (sym (eq-eqb _ 0 z) ∙ f)

  stops-here : Going t → is_taken (launching t w) ≡ false → From t (w ∷ ws) (stopped t (launching t w))
  unfolding played counted changes
  stops-here g f = record {
    k = 0;
    taken = omega arith;
    engine = refl;
    memory = refl;
    count = omega (arith, g.count);
    changed = omega (arith, g.changed);
    whole = λ z. absurd (not_taken f z);
    part = λ _. omega arith;
    refused = λ _. refl;
    earlier = λ i l. absurd (omega arith);
  }

further-going : (t : Ran) (w : ℕ) → Going (further t (launching t w))
further-going t w = record { number = refl; count = omega arith; changed = omega arith }

ran-from : (ws : List ℕ) (t : Ran) → Going t → From t ws (ran_from t ws)
unfolding ran_from played counted changes
ran-from [] t g = record {
  k = 0;
  taken = omega arith;
  engine = refl;
  memory = refl;
  count = omega (arith, g.count);
  changed = omega (arith, g.changed);
  whole = λ _. refl;
  part = λ no'. absurd (no' g.number);
  refused = λ no'. absurd (no' g.number);
  earlier = λ i l. absurd (omega arith);
}
ran-from (w ∷ ws) t g =
    picked (From t (w ∷ ws)) (is_taken (launching t w)) _ _ (λ h. one_more t w ws h (ran-from ws (further t (launching t w)) (further-going t w))) (stops-here t w ws g)

module _ (e : Engine) (m ws : List ℕ) where
  all_of : From (started e m) ws (ran e m ws)
  all_of = ran-from ws (started e m) (record { number = refl; count = omega arith; changed = omega arith })

  is-k : all_of.k ≡ (ran e m ws).taken
  is-k = omega (arith, all_of.taken)

pub run-played : RunPlayed
run-played e m ws =
    let f = all_of e m ws in
    let k = is-k e m ws in
    record {
      engine = f.engine ∙ ap (λ (k : ℕ). (plays e m (take k ws)).engine) k;
      memory = f.memory ∙ ap (λ (k : ℕ). (plays e m (take k ws)).memory) k;
      count = f.count ∙ ap (λ (n : ℕ). n % 2 ^ 64) (zero-add _) ∙ ap (λ (k : ℕ). counted (plays e m (take k ws)).answers % 2 ^ 64) k;
      changed = f.changed ∙ ap (λ (n : ℕ). n % 2 ^ 64) (zero-add _) ∙ ap (λ (k : ℕ). changes (plays e m (take k ws)).answers % 2 ^ 64) k;
    }

pub run-stops : RunStops
run-stops e m ws =
    let f = all_of e m ws in
    let k = is-k e m ws in
    record {
      whole = λ z. sym k ∙ f.whole z;
      part = λ no'. omega (arith, f.part no');
      refused = λ no'. ap (λ (k : ℕ). number_of (launching (ran e m ws) (get_or ws k 0)).answer) (sym k) ∙ f.refused no';
      earlier = λ i l. f.earlier i (omega arith);
    }

-- ---- whole sums: each write counts fewer than 2 ^ 32, and no more are changed than written
plays-most : (ws : List ℕ) (e : Engine) (m : List ℕ)
    → (counted (plays e m ws).answers ≤ 4294967295 * length ws) × (changes (plays e m ws).answers ≤ counted (plays e m ws).answers)
unfolding played counted changes
plays-most [] e m = (omega arith, omega arith)
plays-most (w ∷ ws) e m =
    let s = written e m 0x80 w in
    let more = plays-most ws s.engine s.memory in
    (omega (arith, more.0, count_fits e m 0x80 w), omega (arith, more.1, no-more-changed e m 0x80 w))

pub sums-whole : SumsWhole
sums-whole e m ws few =
    let r = run-played e m ws in
    let most = plays-most (take (ran e m ws).taken ws) e m in
    let words : length (take (ran e m ws).taken ws) ≤ length ws = omega (arith, length-take (ran e m ws).taken ws) in
    (r.count ∙ mod-eq_of_lt (omega (arith, most.0)), r.changed ∙ mod-eq_of_lt (omega (arith, most.0, most.1)))

-- ---- a run in two calls

-- one from u on, after x
joined-on : (ws : List ℕ) (x u : Ran) → ran_from (joined x u) ws ≡ joined x (ran_from u ws)
unfolding ran_from
joined-on [] x u = refl
joined-on (w ∷ ws) x u =
    by-test
    (λ t. cond t (ran_from (further (joined x u) (launching u w)) ws) (stopped (joined x u) (launching u w)) ≡ joined x (cond t (ran_from (further u (launching u w)) ws) (stopped u (launching u w))))
    (is_taken (launching u w)) (λ _. ap (λ (t : Ran). ran_from t ws) (go_on (launching u w)) ∙ joined-on ws x (further u (launching u w))) (λ _. refl)
  where
    sum : (a b c : ℕ) → ((a + b) % 2 ^ 64 + c) % 2 ^ 64 ≡ (a + (b + c) % 2 ^ 64) % 2 ^ 64
    sum a b c = sum-joins a b c ∙ sym (add-mod-mod a (b + c) (2 ^ 64))

    go_on : (s : _) → further (joined x u) s ≡ joined x (further u s)
    go_on s =
        let words : x.taken + u.taken + 1 ≡ x.taken + (u.taken + 1) = omega arith in
        rw (words, sum x.count u.count _, sum x.changed u.changed _)

-- with nothing after it
itself : (x : Ran) → Going x → x ≡ joined x (started x.engine x.memory)
itself x g =
    let words : x.taken ≡ x.taken + 0 = omega arith in
    let count : x.count ≡ (x.count + 0) % 2 ^ 64 = omega (arith, g.count) in
    let changed : x.changed ≡ (x.changed + 0) % 2 ^ 64 = omega (arith, g.changed) in
    rw (← words, ← count, ← changed, ← g.number)

split-whole : (us vs : List ℕ) (t : Ran) → (ran_from t us).number ≡ 0 → ran_from t (us ++ vs) ≡ ran_from (ran_from t us) vs
unfolding ran_from
split-whole [] vs t = λ _. refl
split-whole (w ∷ us) vs t =
    by-test (λ u. is_taken (launching t w) ≡ u → (cond u (ran_from (further t (launching t w)) us) (stopped t (launching t w))).number ≡ 0
    → cond u (ran_from (further t (launching t w)) (us ++ vs)) (stopped t (launching t w)) ≡ ran_from (cond u (ran_from (further t (launching t w)) us) (stopped t (launching t w))) vs)
    (is_taken (launching t w)) (λ _ _. split-whole us vs (further t (launching t w))) (λ _ f z. absurd (not_taken t w us f z)) refl

split-part : (us vs : List ℕ) (t : Ran) → t.number ≡ 0 → ((ran_from t us).number ≡ 0 → ⊥) → ran_from t (us ++ vs) ≡ ran_from t us
unfolding ran_from
split-part [] vs t z = λ no'. absurd (no' z)
split-part (w ∷ us) vs t z =
    by-test (λ u. ((cond u (ran_from (further t (launching t w)) us) (stopped t (launching t w))).number ≡ 0 → ⊥)
    → cond u (ran_from (further t (launching t w)) (us ++ vs)) (stopped t (launching t w)) ≡ cond u (ran_from (further t (launching t w)) us) (stopped t (launching t w)))
    (is_taken (launching t w)) (λ _. split-part us vs (further t (launching t w)) refl) (λ _ _. refl)

pub run-split : RunSplit
run-split e m us vs =
    let x = ran e m us in
    let f = all_of e m us in
    record {
      whole = λ z.
          let going : Going x = record { number = z; count = omega (arith, f.count); changed = omega (arith, f.changed) } in
          split-whole us vs (started e m) z ∙ ap (λ (t : Ran). ran_from t vs) (itself x going) ∙ joined-on vs x (started x.engine x.memory);
      part = split-part us vs (started e m) refl;
    }

-- ---- the rest of a blit
pub rest-of-blit : RestOfBlit
unfolding ran_from
rest-of-blit e m [] sound w small same h = (refl, refl)
rest-of-blit e m (v ∷ ws) sound w small same h =
    let held = sound.waits w in
    let r : Ready (started e m) = record { fits = record { limit = small; opened = same }; host = held.0; fine = ap (host_verdict (regs e)) same ∙ held.1.0 } in
    let p = ap (ran_from (started e m)) (sym (append-nil (v ∷ ws))) ∙ all-feed (v ∷ ws) [] (started e m) (omega arith) r h in
    (ap (λ (t : Ran). t.number) p, ap (λ (t : Ran). t.taken) p ∙ omega arith)

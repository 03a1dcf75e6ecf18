-- `scripts::play` meets its contract: a turn takes one write off, and at the end none is left.
-- Assumes nothing.
use Rattle.std.proofs.Common.{◌≡◌, ◌∙◌, ℕ, ◌+◌, ◌<◌, ◌≤◌, List, [], length, drop, get_or, ap, refl, sym}
use Rattle.std.proofs.lemmas.List.{at_drop_more, at_drop_all}
use Rattle.engine.specs.declared.Engine.{Engine}
use Rattle.engine.specs.Step.{Step, written}
use Rattle.engine.specs.Writes.{Run, before, played}
use Rattle.scripts.specs.Script.{writes_of}
use Rattle.scripts.proofs.play.Goals as goal

-- what is seen of a run that its answers don't show
turn : {A : Type 0} (see : Run → A) → ((t : Step) (r : Run) → see (before t r) ≡ see r) → (e : Engine) (m : List ℕ) (ws : List (ℕ × ℕ)) (i : ℕ) (s : Step)
    → i < length ws → s ≡ written e m (get_or ws i (0, 0)).0 (get_or ws i (0, 0)).1
    → see (played s.engine s.memory (writes_of (drop (i + 1) ws))) ≡ see (played e m (writes_of (drop i ws)))
unfolding played writes_of
turn see blind e m ws i s h is =
    ap (λ t. see (played t.engine t.memory (writes_of (drop (i + 1) ws)))) is
    ∙ sym (blind (written e m (get_or ws i (0, 0)).0 (get_or ws i (0, 0)).1) _)
    ∙ sym (at_drop_more (λ xs. see (played e m (writes_of xs))) ws i (0, 0) h)

pub loop-offset-init : goal.loop-offset-init
loop-offset-init c = (refl, refl)

pub loop-offset-preserved : goal.loop-offset-preserved
loop-offset-preserved c =
    let l = c.loop-offset in (
      turn (λ r. r.engine) (λ t r. refl) l.e l.mem c.args.writes.now l.offset-index _ c.loop-offset-test.true c.write.ensures ∙ l.invariant.0,
      turn (λ r. r.memory) (λ t r. refl) l.e l.mem c.args.writes.now l.offset-index _ c.loop-offset-test.true c.write.ensures ∙ l.invariant.1,
    )

-- where no write is left
none : {A : Type 0} (see : Run → A) (e : Engine) (m : List ℕ) (ws : List (ℕ × ℕ)) (i : ℕ) → length ws ≤ i
    → see (played e m (writes_of (drop i ws))) ≡ see (record { engine = e; memory = m; answers = [] })
unfolding played writes_of
none see e m ws i h = at_drop_all (λ xs. see (played e m (writes_of xs))) ws i h

pub returns-clause-engine : goal.returns-clause-engine
returns-clause-engine c =
    let l = c.loop-offset in
    sym (none (λ r. r.engine) l.e l.mem c.args.writes.now l.offset-index c.loop-offset-test.false) ∙ l.invariant.0

pub returns-clause-memory : goal.returns-clause-memory
returns-clause-memory c =
    let l = c.loop-offset in
    sym (none (λ r. r.memory) l.e l.mem c.args.writes.now l.offset-index c.loop-offset-test.false) ∙ l.invariant.1

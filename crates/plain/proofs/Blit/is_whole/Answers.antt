-- `plain::Blit::is_whole` meets its contract: each test leaves a field of what it says.
-- Assumes nothing.
use borrow.Author.Tests.{eqb-true, eqb-false, not-false}
use mathlib.Core.Path.{◌≡◌, sym, ◌∙◌}
use mathlib.Core.Bool.{false, true≢false}
use Prim.Native.Nat.{◌<◌}
use Rattle.surface.proofs.OnLaws.{pos-of-ne}
use Rattle.host.proofs.Needed.{some-pixel}
use Rattle.plain.proofs.Straight.{neither}
use Rattle.plain.proofs.Blit.is_whole.Goals as goal
use Rattle.plain.proofs.Blit.is_whole.Goals.{Else-self-taken}

-- what the first test leaves
like : (c : Else-self-taken) → let a = c.args in (a.self.feed.bytes ≡ 0) × ((a.self.plain.target.tiled ≡ false) × ((a.taken ≡ 0) × (0 < a.self.feed.height)))
like c =
    let a = c.args in
    let o = neither _ _ c.if-self-taken.false in
    let t = neither _ _ o.0 in
    let b = neither _ a.self.plain.target.tiled t.0 in
    (eqb-true _ _ (not-false _ b.0), (b.1, (eqb-true _ _ (not-false _ t.1), pos-of-ne (eqb-false _ _ o.1))))

pub returns-then-self-taken : goal.returns-then-self-taken
returns-then-self-taken c = λ e. absurd (true≢false (sym e))

pub returns-then-words_needed-n : goal.returns-then-words_needed-n
returns-then-words_needed-n c = λ e. absurd (true≢false (sym e))

pub overflow_sub-right : goal.overflow_sub-right
overflow_sub-right c = some-pixel _ c.requires.0

pub overflow_sub-bottom : goal.overflow_sub-bottom
overflow_sub-bottom c = (like (goal.at.overflow_sub-bottom c).Else-self-taken).1.1.1

pub returns-then-covers : goal.returns-then-covers
returns-then-covers c = λ e.
    let l = like (goal.at.returns-then-covers c).Else-self-taken in
    record {
      mono = l.0;
      flat = l.1.0;
      first = l.1.1.0;
      some = l.1.1.1;
      all = sym c.if-words_needed-n.false ∙ c.words_needed.ensures;
      start = sym c.covers.ensures ∙ c.if-covers.true;
      end = sym c.covers-then-covers.ensures ∙ e;
    }

pub returns-else-covers : goal.returns-else-covers
returns-else-covers c = λ e. absurd (true≢false (sym e ∙ c.if-covers.false))

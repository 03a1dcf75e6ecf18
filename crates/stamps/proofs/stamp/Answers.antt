-- `stamps::stamp` meets its contract: a run of pages, or those that the walk finds.
-- Assumes nothing.
use mathlib.Core.Path.{sym, ap, ◌∙◌}
use Rattle.pages.specs.declared.Extent.{Extent}
use Rattle.acts.specs.Deed.{bank_of}
use Rattle.stamps.proofs.StampLaws.{past-most, stamped-run, stamped-found}
use Rattle.stamps.proofs.stamp.Goals as goal

pub set_bits-requires : goal.set_bits-requires
set_bits-requires c =
    let a = c.args in
    (c.requires.1, rw c.extent_of-e.ensures (past-most (bank_of a.r a.pattern.now) a.blit a.words.now a.mem.now a.count c.requires.0))

pub returns-then-e : goal.returns-then-e
returns-then-e c =
    let a = c.args in
    let e = c.extent_of-e.ensures in
    stamped-run (bank_of a.r a.pattern.now) a.blit a.words.now a.mem.now a.count c.requires.0 a.s.now a.at c.requires.1
    (sym (ap (λ (x : Extent). x.whole) e) ∙ c.if-e.true) e c.set_bits.ensures

pub add_marks-requires : goal.add_marks-requires
add_marks-requires c =
    let a = c.args in (
      c.requires.1,
      rw c.extent_of-e.ensures (past-most (bank_of a.r a.pattern.now) a.blit a.words.now a.mem.now a.count c.requires.0),
    )

pub returns : goal.returns
returns c =
    let a = c.args in
    stamped-found (bank_of a.r a.pattern.now) a.blit a.words.now a.mem.now a.count c.requires.0 a.s.now a.at c.requires.1
    c.extent_of-e.ensures c.no_marks-found.ensures
    c.walk.ensures c.add_marks.ensures

-- Each contract says what the outcome equals, and so allows one.
-- Assumes nothing.
use lib.ListN.{length}
use Rattle.views.specs.View.{view_answer, view_start, viewed, further}
use Rattle.basics.proofs.One.{settled}
use Rattle.engine.specs.Step.{fresh_engine, read_from, written}
use Rattle.engine.specs.Promises.{OneOutcome, OneFresh, OneReading, OneView, OneViewAnswer}

pub one-outcome : OneOutcome
one-outcome e m o d x y = settled (written e m o d) x y

pub one-fresh : OneFresh
one-fresh len x y = settled (fresh_engine len) x y

pub one-reading : OneReading
one-reading e o x y = settled (read_from e o) x y

pub one-view : OneView
one-view m place base format px py width x y at to p q =
    (settled (viewed m base format px py width) x y p.0 q.0, settled (further place (view_start (length m) base format px py width)) at to p.1 q.1)

pub one-view-answer : OneViewAnswer
one-view-answer len base format px py width x y = settled (view_answer len base format px py width) x y

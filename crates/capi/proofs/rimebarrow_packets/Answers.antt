-- `rimebarrow_packets` meets its contract: by whether the bytes are a reader and a state.
-- Assumes nothing.
use mathlib.Core.Path.{sym, ◌∙◌}
use Rattle.std.proofs.Common.{rules}
use Rattle.tail.proofs.Laws.{valid}
use Rattle.capi.proofs.Packets.{not-reader, not-state, packets-fed}
use Rattle.capi.proofs.rimebarrow_packets.Goals.{then-not-is_reader-via-then-not-is_reader, then-not-is_reader-via-else-not-is_reader+then-not-is_state}
use Rattle.capi.proofs.rimebarrow_packets.Goals as goal

pub returns-then-not-is_reader : goal.returns-then-not-is_reader
returns-then-not-is_reader c =
    let a = c.args in
    elim c.then-not-is_reader.branch [
      | then-not-is_reader-via-then-not-is_reader w ↦ not-reader a.reader.now a.state.now a.memory.now a.piece.now a.answers.now (sym c.is_reader.ensures ∙ w.if-not-is_reader.true)
      | then-not-is_reader-via-else-not-is_reader+then-not-is_state w ↦
          not-state a.reader.now a.state.now a.memory.now a.piece.now a.answers.now (sym c.is_reader.ensures ∙ w.if-not-is_reader.false) (sym w.is_state.ensures.0 ∙ w.if-not-is_state.true)
    ]

pub decode-requires : goal.decode-requires
decode-requires c = (valid _ (sym c.is_reader.ensures ∙ c.if-not-is_reader.false)).size

pub save-requires : goal.save-requires
save-requires c = (valid _ (sym c.is_reader.ensures ∙ c.if-not-is_reader.false)).size

pub returns : goal.returns
returns c =
    let a = c.args in
    let e =
    packets-fed a.reader.now a.state.now a.memory.now a.piece.now a.answers.now (sym c.is_reader.ensures ∙ c.if-not-is_reader.false)
    (sym c.is_state.ensures.0 ∙ c.if-not-is_state.false) c.decode.ensures c.feed-fed.ensures.answers_after c.save.ensures in
    search (rules, e)

-- `strokes::walk_mixed` meets its contract, whatever the operation does to the target.
-- Assumes nothing.
use Rattle.std.proofs.Common.{sym, ◌∙◌}
use Rattle.strokes.proofs.MixedLaws.{no-flip, track-mixing, track-drawn}
use Rattle.strokes.proofs.walk_mixed.Goals as goal

pub track_of-track-requires : goal.track_of-track-requires
track_of-track-requires c = (c.requires.walkable.surface, c.requires.walkable.ahead)

pub mix_line-requires : goal.mix_line-requires
mix_line-requires c = track-mixing c.args.ink c.args.l _ c.track_of-track.ensures c.requires (λ e. sym c.is_flip.ensures ∙ c.if-is_flip.true)

pub mix_line-requires-else-is_flip : goal.mix_line-requires-else-is_flip
mix_line-requires-else-is_flip c = track-mixing c.args.ink c.args.l _ c.track_of-track.ensures c.requires (no-flip _)

pub returns-then-is_flip : goal.returns-then-is_flip
returns-then-is_flip c = c.mix_line.ensures ∙ track-drawn c.args.ink c.args.l _ c.track_of-track.ensures c.args.pattern.now c.args.mem.now

pub returns-else-is_flip : goal.returns-else-is_flip
returns-else-is_flip c = c.mix_line-else-is_flip.ensures ∙ track-drawn c.args.ink c.args.l _ c.track_of-track.ensures c.args.pattern.now c.args.mem.now

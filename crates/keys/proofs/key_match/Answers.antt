-- `keys::key_match` meets its contract: the pixel is in the key's range.
-- Assumes nothing.
use mathlib.Core.Path.{ap, ◌∙◌}
use Rattle.keys.specs.declared.Range.{Range}
use Rattle.keys.specs.Range.{in_range}
use Rattle.keys.proofs.RangeLaws.{in-range}
use Rattle.keys.proofs.key_match.Goals as goal

pub returns : goal.returns
returns c = c.in_range.ensures ∙ ap (λ (r : Range). in_range c.args.bytes r c.args.v) c.range_of.ensures ∙ in-range c.args.bytes c.args.lo c.args.hi c.args.v

-- `tail::save` meets its contract: eight words fill the bytes.
-- Assumes nothing.
use mathlib.Core.Path.{◌≡◌, refl}
use mathlib.Core.Bool.{Bool, true, false, cond}
use mir.Val.{bool_byte}
use Rattle.tail.specs.Layout.{with_rest, encoded}
use Rattle.tail.proofs.Laws.{laid}
use Rattle.tail.proofs.save.Goals as goal

as_number : (t : Bool) → bool_byte t ≡ cond t 1 0
as_number true = refl
as_number false = refl

pub returns : goal.returns
unfolding encoded with_rest
returns c =
    let a = c.args in
    rw (c.save_rest.ensures.0, c.put_word-4.ensures.0, c.put_word-3.ensures.0, c.put_word-2.ensures.0, c.put_word.ensures.0, as_number)
    (laid a.s.now _ _ _ _ _ _ _ _ c.requires)

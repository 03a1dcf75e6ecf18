-- What is promised of a reader's bytes: nothing is lost between two calls, and the bytes of a reader are taken by the next one.
-- Assumes nothing.
use Rattle.std.specs.Prelude.{◌≡◌, true, ◌^◌, ◌<◌}
use Rattle.packets.specs.declared.Reader.{Reader}
use Rattle.tail.specs.Layout.{offset_of, step_of, left_of, encoded, decoded, is_reader}

-- a reader whose numbers fit their places, as those of the code do
pub record Fits (r : Reader) : Type 0 where
  pub word : r.word < 2 ^ 32
  pub held : r.held < 2 ^ 32
  pub offset : offset_of r.rest < 2 ^ 32
  pub step : step_of r.rest < 2 ^ 32
  pub left : left_of r.rest < 2 ^ 32

abbrev pub ReaderBack : Type 0
ReaderBack = (r : Reader) → Fits r → decoded (encoded r) ≡ r

abbrev pub StaysReader : Type 0
StaysReader = (r : Reader) → r.held < 4 → is_reader (encoded r) ≡ true

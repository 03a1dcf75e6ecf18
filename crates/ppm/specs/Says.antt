-- A text said on a page that holds a lent buffer: its bytes are those of Text, and the buffer is still the one that was lent.
-- Assumes nothing.
use Rattle.std.specs.Prelude.{◌≡◌, ℕ, List}
use Rattle.ppm.specs.declared.Page.{Page}
use Rattle.ppm.specs.Text.{page, said}

pub record Says (t : List ℕ) (p q : Page) : Type 0 where
  pub text : page q.bytes.now q.used ≡ said t (page p.bytes.now p.used)
  pub lent : q.bytes.ghost_name ≡ p.bytes.ghost_name

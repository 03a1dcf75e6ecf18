-- The next bytes of a piece: a whole word, or one byte.
-- Assumes nothing.
use Rattle.std.proofs.Common.{◌≡◌, ℕ, ◌+◌, ◌-◌, ◌≤◌, Bool, true, false, ◌&&◌, leb, List, length, get_or, leb-true}
use mathlib.Core.Bool.{and-eq-true_iff}
use Rattle.basics.specs.Word.{word_at}
use Rattle.packets.specs.declared.Reader.{Reader}
use Rattle.packets.specs.declared.Heard.{Heard}
use Rattle.packets.specs.Reader.{worded, took, is_between, next, next_of}

-- four bytes are left
pub four : (t : Bool) (n : ℕ) → (t && leb 4 n) ≡ true → 4 ≤ n
four t n h = leb-true 4 n ((and-eq-true_iff t (leb 4 n)).0 h).1

module _ (r : Reader) (piece : List ℕ) (i : ℕ) (room : Bool) where
  pub next_word : {t : Bool} {w : ℕ} {h : Heard} → t ≡ is_between r → (t && room && leb 4 (length piece - i)) ≡ true
      → w ≡ word_at piece i → h ≡ worded r.rest w → next h (i + 4) ≡ next_of r piece i room
  unfolding next_of
  next_word p e f g = rw (rw p at e, g, f)

  pub next-byte : {t : Bool} {h : Heard} → t ≡ is_between r → (t && room && leb 4 (length piece - i)) ≡ false
      → h ≡ took (get_or piece i 0) r → next h (i + 1) ≡ next_of r piece i room
  unfolding next_of
  next-byte p e g = rw (rw p at e, g)

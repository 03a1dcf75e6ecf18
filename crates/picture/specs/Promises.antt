-- What is promised of the player and of its text beyond the contracts, each of which is one equation.
-- Assumes nothing.
use Rattle.std.specs.Prelude.{◌≡◌, ℕ, ◌+◌, ◌-◌, ◌*◌, ◌^◌, ◌<◌, ◌≤◌, List, [], ◌∷◌, ◌++◌, length, take}
use Rattle.engine.specs.declared.Engine.{Engine}
use Rattle.engine.specs.Step.{written}
use Rattle.picture.specs.declared.Player.{Player}
use Rattle.ppm.specs.Text.{Page, page, said, decimal}
use Rattle.picture.specs.Player.{Sheet, sheet, fresh_player, taken, fed, wrote, printed, start, sheet_of}

-- ---- the contracts allow one outcome
abbrev pub OneOpen : Type 0
OneOpen = (len : ℕ) (x y : Player) → x ≡ fresh_player len → y ≡ fresh_player len → x ≡ y

abbrev pub OneTake : Type 0
OneTake = (b : ℕ) (s x y : Sheet) → x ≡ taken b s → y ≡ taken b s → x ≡ y

abbrev pub OneFeed : Type 0
OneFeed = (bytes : List ℕ) (s x y : Sheet) → x ≡ fed bytes s → y ≡ fed bytes s → x ≡ y

abbrev pub OneText : Type 0
OneText = (s : Sheet) (out : List ℕ) (x y : Page) → x ≡ said (printed s) (page out 0) → y ≡ said (printed s) (page out 0) → x ≡ y

-- ---- it does not matter in which pieces a stream comes
abbrev pub AnyPieces : Type 0
AnyPieces = (a b : List ℕ) (s : Sheet) → fed (a ++ b) s ≡ fed b (fed a s)

-- ---- on 65,536 bytes of memory the text of any stream is whole in 786,449 bytes: three lines, and 65,536 lines of 12
abbrev pub WholeText : Type 0
WholeText = (s : Sheet) (out : List ℕ) → length s.memory ≤ 65536 → 786449 ≤ length out
    → ((said (printed s) (page out 0)).used ≡ length (printed s)) × (take (length (printed s)) (said (printed s) (page out 0)).bytes ≡ printed s)

-- so the program's text is whole there
abbrev pub WholeSheet : Type 0
WholeSheet = (input out : List ℕ) → 786449 ≤ length out
    → ((said (printed (fed input start)) (page out 0)).used ≡ length (sheet_of input))
    × (take (length (sheet_of input)) (said (printed (fed input start)) (page out 0)).bytes ≡ sheet_of input)

-- ---- a number's text is read back as the number
abbrev pub value_from : ℕ → List ℕ → ℕ
value_from n [] = n
value_from n (d ∷ t) = value_from (n * 10 + (d - 48)) t

abbrev pub ReadBack : Type 0
ReadBack = (n : ℕ) → n < 2 ^ 64 → value_from 0 (decimal n) ≡ n

-- ---- eight bytes are one register write of the two words that they spell, low byte first
abbrev pub word : ℕ → ℕ → ℕ → ℕ → ℕ
word a b c d = a + b * 2 ^ 8 + c * 2 ^ 16 + d * 2 ^ 24

-- a player between two pairs, with no refusal met
abbrev pub between : Engine → ℕ → ℕ → Player
between e window played = record { engine = e; window = window; held = 0; played = played; refused = 0 }

pub record Bytes (a b c d : ℕ) : Type 0 where
  pub first : a < 2 ^ 8
  pub second : b < 2 ^ 8
  pub third : c < 2 ^ 8
  pub fourth : d < 2 ^ 8

abbrev pub PairPlayed : Type 0
PairPlayed = (e : Engine) (m : List ℕ) (window played a b c d p q r s : ℕ) → window < 2 ^ 64 → Bytes a b c d → Bytes p q r s
    → fed (a ∷ b ∷ c ∷ d ∷ p ∷ q ∷ r ∷ s ∷ []) (sheet (between e window played) m)
    ≡ wrote (between e window played) (word a b c d + word p q r s * 2 ^ 32) (written e m (word a b c d) (word p q r s))

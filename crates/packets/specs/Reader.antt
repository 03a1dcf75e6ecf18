-- The reader: bytes become words, low byte first, and a word is a header or the data of a register write.
-- Assumes nothing.
use Rattle.std.specs.Prelude.{ℕ, zero, suc, ◌+◌, ◌-◌, ◌*◌, ◌/◌, ◌%◌, ◌^◌, Bool, true, false, cond, not, ◌&&◌, List, length, ◌==◌, nat_le, nat_lt, slice_index}
use Rattle.basics.specs.Word.{word_at}
use Rattle.packets.specs.declared.Rest.{Rest}
use Rattle.packets.specs.declared.Rest.TheVariants.{Empty, Counted, Masked}
use Rattle.packets.specs.declared.Reader.{Reader}
use Rattle.packets.specs.declared.Event.{Event}
use Rattle.packets.specs.declared.Event.TheVariants.{Nothing, Write, Closed}
use Rattle.packets.specs.declared.Heard.{Heard}
use Rattle.packets.specs.declared.Next.{Next}
use Rattle.packets.specs.Header.{kind, word_count, first_offset, consecutive, mask, turned_down}

-- ---- what is left of a packet

-- no words left is no packet
unfoldable pub counted : ℕ → ℕ → ℕ → Rest
counted o step n = cond (n == 0) Empty (Counted o step n)

-- the mask's zeros are passed over, so that the lowest bit is the next word's; offsets are kept in 32 bits
unfoldable pub skipped : ℕ → ℕ → ℕ → Rest
skipped zero o bits = Empty
skipped (suc k) o bits = cond (bits % 2 == 1) (Masked o bits) (skipped k ((o + 4) % 2 ^ 32) (bits / 2))

-- of a packet with this header, before its first word
unfoldable pub opened : ℕ → Rest
opened h = cond (kind h == 2) (skipped 32 8 (mask h)) (counted (first_offset h) (cond (consecutive h) 4 0) (word_count h))

-- after a word
unfoldable pub advanced : Rest → Rest
advanced Empty = Empty
advanced (Counted o step n) = cond (nat_lt n 2) Empty (Counted ((o + step) % 2 ^ 32) step (n - 1))
advanced (Masked o bits) = skipped 32 ((o + 4) % 2 ^ 32) (bits / 2)

-- ---- readers: between two words, the empty one, and the one that has turned a packet down
abbrev pub between : Rest → Reader
between rest = record { word = 0; held = 0; rest = rest; closed = false }

abbrev pub blank : Reader
blank = between Empty

abbrev pub shut : Reader
shut = record { word = 0; held = 0; rest = Empty; closed = true }

-- ---- one word: the reader after it, and what it brings
abbrev pub heard : Reader → Event → Heard
heard r e = record { reader = r; event = e }

-- a header opens a packet, or it is turned down
unfoldable pub headed : ℕ → Heard
headed h = cond (turned_down h) (heard shut Closed) (heard (between (opened h)) Nothing)

-- in a packet it is the data of a register write, and the packet goes on
abbrev pub worded : Rest → ℕ → Heard
worded Empty w = headed w
worded (Counted o step n) w = heard (between (advanced (Counted o step n))) (Write o w)
worded (Masked o bits) w = heard (between (advanced (Masked o bits))) (Write o w)

-- ---- one byte

-- the bytes of a word as a number: the new one comes in at the top
abbrev pub shifted : ℕ → ℕ → ℕ
shifted word b = word / 2 ^ 8 + b * 2 ^ 24

-- a byte that is not its word's last is kept; after a packet that was turned down nothing is
unfoldable pub took : ℕ → Reader → Heard
took b r =
    cond r.closed (heard r Nothing)
    (cond (nat_lt r.held 3) (heard (record { word = shifted r.word b; held = r.held + 1; rest = r.rest; closed = false }) Nothing)
    (worded r.rest (shifted r.word b)))

-- ---- what the code does on the way: the bytes from i on of a piece, a whole word of them where there is one and room for its answer, else one

abbrev pub is_between : Reader → Bool
is_between r = r.held == 0 && r.word == 0 && not r.closed

abbrev pub next : Heard → ℕ → Next
next h used = record { reader = h.reader; event = h.event; used = used }

unfoldable pub next_of : Reader → List ℕ → ℕ → Bool → Next
next_of r piece i room =
    cond (is_between r && room && nat_le 4 (length piece - i))
    (next (worded r.rest (word_at piece i)) (i + 4))
    (next (took (slice_index piece i) r) (i + 1))

-- The bytes that hold a reader between two calls: what stands at which place, the bytes of a reader, and the reader that bytes hold.
-- Assumes nothing.
use Rattle.std.specs.Prelude.{Bool, cond, ◌&&◌, List, [], ◌∷◌, ℕ, ◌/◌, ◌%◌, ◌^◌, eqb, ltb, length}
use Rattle.basics.specs.Word.{word_at, with_word}
use Rattle.packets.specs.declared.Rest.{Rest}
use Rattle.packets.specs.declared.Rest.TheVariants.{Empty, Counted, Masked}
use Rattle.packets.specs.declared.Reader.{Reader}

-- the length of a reader's bytes, and the word that they begin with
abbrev pub reader_size : ℕ
reader_size = 32

abbrev pub mark : ℕ
mark = 0x6c696154

-- ---- what is left of a packet, in four words: its kind, the next offset, the step, and the words or the mask's bits that are left
abbrev pub kind_of : Rest → ℕ
kind_of Empty = 0
kind_of (Counted o step n) = 1
kind_of (Masked o bits) = 2

abbrev pub offset_of : Rest → ℕ
offset_of Empty = 0
offset_of (Counted o step n) = o
offset_of (Masked o bits) = o

abbrev pub step_of : Rest → ℕ
step_of Empty = 0
step_of (Counted o step n) = step
step_of (Masked o bits) = 0

abbrev pub left_of : Rest → ℕ
left_of Empty = 0
left_of (Counted o step n) = n
left_of (Masked o bits) = bits

unfoldable pub rest_of : ℕ → ℕ → ℕ → ℕ → Rest
rest_of kind o step left = cond (eqb kind 1) (Counted o step left) (cond (eqb kind 2) (Masked o left) Empty)

-- ---- a reader's bytes
abbrev pub slots : Reader → List ℕ
slots r = mark ∷ r.word ∷ r.held ∷ cond r.closed 1 0 ∷ kind_of r.rest ∷ offset_of r.rest ∷ step_of r.rest ∷ left_of r.rest ∷ []

-- the bytes of some words, low byte first
abbrev pub bytes_in : List ℕ → List ℕ
bytes_in [] = []
bytes_in (w ∷ ws) = w % 2 ^ 8 ∷ w / 2 ^ 8 % 2 ^ 8 ∷ w / 2 ^ 16 % 2 ^ 8 ∷ w / 2 ^ 24 % 2 ^ 8 ∷ bytes_in ws

unfoldable pub encoded : Reader → List ℕ
encoded r = bytes_in (slots r)

-- ---- the reader that bytes hold
unfoldable pub decoded : List ℕ → Reader
decoded s = record {
  word = word_at s 0x04;
  held = word_at s 0x08;
  rest = rest_of (word_at s 0x10) (word_at s 0x14) (word_at s 0x18) (word_at s 0x1c);
  closed = eqb (word_at s 0x0c) 1;
}

-- whether bytes are a reader's: their number, the mark, at most three bytes held, a flag that is 0 or 1, and a kind that there is
unfoldable pub is_reader : List ℕ → Bool
is_reader s =
    eqb (length s) reader_size
    && (eqb (word_at s 0) mark && ltb (word_at s 0x08) 4 && ltb (word_at s 0x0c) 2 && ltb (word_at s 0x10) 3)

-- ---- what the code does on the way: what is left of a packet, put at its places
unfoldable pub with_rest : List ℕ → Rest → List ℕ
with_rest s rest = with_word (with_word (with_word (with_word s 0x10 (kind_of rest)) 0x14 (offset_of rest)) 0x18 (step_of rest)) 0x1c (left_of rest)

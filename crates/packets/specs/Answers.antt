-- A piece of bytes with a lent run for the answers, three words an answer: a call stops before the last byte of a word where the run has no room for one
-- more answer.
-- Assumes nothing.
use Rattle.std.specs.Prelude.{◌≡◌, ℕ, ◌+◌, ◌*◌, ◌/◌, Bool, cond, not, ◌&&◌, List, [], ◌∷◌, ◌++◌, length, drop, nat_lt, slice_set}
use Rattle.basics.specs.Each.{each}
use Rattle.packets.specs.declared.Reader.{Reader}
use Rattle.packets.specs.declared.Event.{Event}
use Rattle.packets.specs.declared.Event.TheVariants.{Nothing, Write, Closed}
use Rattle.packets.specs.Reader.{took}
use Rattle.packets.specs.Delivery.{Note, nine, Writer}

-- ---- the lent run, and how many answers are in it
pub record Lent : Type 0 where
  pub run : List ℕ
  pub answered : ℕ

abbrev pub lent : List ℕ → ℕ → Lent
lent run n = record { run = run; answered = n }

-- room for one more
abbrev pub spare : ℕ → ℕ → Bool
spare len answered = nat_lt answered (len / 3)

abbrev pub room : Lent → Bool
room l = spare (length l.run) l.answered

-- an answer put behind those that are there
unfoldable pub put : Note → Lent → Lent
put n l =
    cond (room l)
    (lent (slice_set (slice_set (slice_set l.run (l.answered * 3) n.number) (l.answered * 3 + 1) n.count) (l.answered * 3 + 2) n.changed) (l.answered + 1))
    l

-- ---- a call
pub record Call (S : Type 0) : Type 0 where
  pub reader : Reader
  pub state : S
  pub lent : Lent
  pub used : ℕ

abbrev pub call : {S : Type 0} → Reader → S → Lent → ℕ → Call S
call r s l used = record { reader = r; state = s; lent = l; used = used }

-- what an event makes of the state, and of the lent run
abbrev pub acted : {S : Type 0} → Writer S → Event → S → S
acted write Nothing s = s
acted write (Write o w) s = (write o w s).state
acted write Closed s = s

abbrev pub noted : {S : Type 0} → Writer S → Event → S → Lent → Lent
noted write Nothing s l = l
noted write (Write o w) s l = put (write o w s).note l
noted write Closed s l = put nine l

-- both, of a function that acts on an event
pub record Done {S : Type 0} (write : Writer S) (e : Event) (s : S) (l : Lent) (s' : S) (l' : Lent) : Type 0 where
  pub state : s' ≡ acted write e s
  pub run : l' ≡ noted write e s l

abbrev pub noting : {S : Type 0} → Writer S → Event → Reader → S → Lent → ℕ → Call S
noting write e r s l used = call r (acted write e s) (noted write e s l) used

-- a word's last byte is next, and there is no room for an answer to it
abbrev pub is_full : {S : Type 0} → Call S → Bool
is_full c = nat_lt 2 c.reader.held && not (room c.lent)

-- one byte, where the call has not stopped
unfoldable pub took_one : {S : Type 0} → Writer S → ℕ → Call S → Call S
took_one write b c =
    cond (is_full c) c
    (noting write (took b c.reader).event (took b c.reader).reader c.state c.lent (c.used + 1))

abbrev pub took_all : {S : Type 0} → Writer S → List ℕ → Call S → Call S
took_all write bytes c = each (took_one write) bytes c

-- a whole call
abbrev pub called : {S : Type 0} → Writer S → Reader → S → List ℕ → List ℕ → Call S
called write r s piece run = took_all write piece (call r s (lent run 0) 0)

-- ---- a lent run that holds some answers: their words, and then what it held
unfoldable pub words_of : List Note → List ℕ
words_of [] = []
words_of (n ∷ notes) = n.number ∷ n.count ∷ n.changed ∷ words_of notes

abbrev pub holding : List ℕ → List Note → Lent
holding run notes = lent (words_of notes ++ drop (length notes * 3) run) (length notes)

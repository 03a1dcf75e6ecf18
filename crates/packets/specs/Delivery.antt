-- Bytes delivered to a reader and to whatever carries out the register writes that they bring: the answers come in the order of the bytes.
-- Assumes nothing.
use Rattle.std.specs.Prelude.{ℕ, List, [], ◌∷◌, ◌++◌}
use Rattle.basics.specs.Each.{each}
use Rattle.packets.specs.declared.Reader.{Reader}
use Rattle.packets.specs.declared.Event.{Event}
use Rattle.packets.specs.declared.Event.TheVariants.{Nothing, Write, Closed}
use Rattle.packets.specs.Reader.{took}

-- an answer: its number, the pixels written and how many of them changed
pub record Note : Type 0 where
  pub number : ℕ
  pub count : ℕ
  pub changed : ℕ

abbrev pub note : ℕ → ℕ → ℕ → Note
note number count changed = record { number = number; count = count; changed = changed }

-- that of a packet turned down
abbrev pub nine : Note
nine = note 9 0 0

-- ---- what carries out register writes: something with a state, which a write at an offset with a word makes another, with its answer
pub record Wrote (S : Type 0) : Type 0 where
  pub state : S
  pub note : Note

abbrev pub wrote : {S : Type 0} → S → Note → Wrote S
wrote s n = record { state = s; note = n }

abbrev pub Writer : Type 0 → Type 0
Writer S = ℕ → ℕ → S → Wrote S

-- ---- bytes
pub record Delivery (S : Type 0) : Type 0 where
  pub reader : Reader
  pub state : S
  pub notes : List Note

abbrev pub delivery : {S : Type 0} → Reader → S → List Note → Delivery S
delivery r s notes = record { reader = r; state = s; notes = notes }

-- nothing; a register write carried out, taken or refused, with its answer; or the 9
abbrev pub told : {S : Type 0} → Writer S → Event → Reader → S → List Note → Delivery S
told write Nothing r s notes = delivery r s notes
told write (Write o w) r s notes = delivery r (write o w s).state (notes ++ ((write o w s).note ∷ []))
told write Closed r s notes = delivery r s (notes ++ (nine ∷ []))

unfoldable pub taken : {S : Type 0} → Writer S → ℕ → Delivery S → Delivery S
taken write b d = told write (took b d.reader).event (took b d.reader).reader d.state d.notes

abbrev pub fed : {S : Type 0} → Writer S → List ℕ → Delivery S → Delivery S
fed write bytes d = each (taken write) bytes d

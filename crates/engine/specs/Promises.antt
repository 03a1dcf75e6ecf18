-- What is promised of a register write, for an outside expert to read first. `written` (Step) is the definition; the contract of `Engine::write` says that the
-- engine, the memory and the answer are what it gives, for every engine, memory, offset and word. Each promise is proved in proofs/, in the file of its heading.
-- Assumes nothing.
use Rattle.std.specs.Prelude.{◌≡◌, Bool, true, false, cond, not, ◌&&◌, ◌||◌, ℕ, zero, suc, ◌+◌, ◌-◌, ◌/◌, ◌%◌, ◌^◌, ◌<◌, ◌≤◌, eqb, ltb, length, get_or}
use Rattle.std.specs.Prelude as prelude
use mathlib.Core.List.{List, [], ◌∷◌, map, Memᴰ}
use Rattle.std.proofs.Math.Option.{Option, none, some}
use Rattle.surface.specs.declared.Surface.{Surface}
use Rattle.surface.specs.Place.{same_surface, byte_at, byte_of, read_px, row_pixels, first_byte, byte_count, on_surface}
use Rattle.surface.specs.Pixels.{Px, NotBefore, origin}
use Rattle.spans.specs.Span.{all_on, addresses, span_of, meet}
use Rattle.views.specs.View.{view_answer, view_start, viewed, further}
use Rattle.paint.specs.Clip.{in_clip}
use Rattle.paint.specs.Paint.{state, Touch, paint, wrote, altered, changing, summed}
use Rattle.sweep.specs.Copy.{as_before}
use Rattle.registers.specs.declared.Regs.{Regs}
use Rattle.bank.specs.Bank.{read_number, read_value}
use Rattle.registers.specs.Kept.{kept}
use Rattle.rooms.specs.declared.Rooms.{Rooms}
use Rattle.rooms.specs.Room.{worked}
use Rattle.formats.specs.Step.{packing_of}
use Rattle.registers.specs.declared.Place.{Place}
use Rattle.registers.specs.declared.Place.TheVariants.{Register, Pattern, Launch, Nowhere}
use Rattle.registers.specs.Offsets.{place_of}
use Rattle.host.specs.Host.{words_of}
use Rattle.host.specs.Stream.{rows}
use Rattle.host.specs.Draw.{host_touches}
use Rattle.command.specs.Decode.{target, origins, stretch_origins, ink_of, copy_task, feed_of}
use Rattle.positions.specs.Position.{placed}
use Rattle.cuts.specs.Cut.{bit, number, clip_of, fill_cut, copy_cut, covered, needed}
use Rattle.table.specs.Table.{target_fine, both_fine, host_fine, all_on_at, pixels, stretch_needed, stretch_fault, host_fault, host_verdict}
use Rattle.acts.specs.Deed.{no_blit, by_number}
use Rattle.engine.specs.declared.Engine.{Engine}
use Rattle.engine.specs.Step.{Answer, Step, written, number_of, count_of, changed_of, regs, fresh_engine, read_from}
use Rattle.engine.specs.Orders.{order, covered_by, touches_of}
use Rattle.engine.specs.Writes.{Run, played, counted, changes, sent, Lent, lent_to}

-- ---- Undone. Demand 1: a refused write, one whose number is not 0, leaves engine and memory as they were, counts nothing and
-- changed nothing
abbrev pub RefusedUndone : Type 0
RefusedUndone = (e : Engine) (m : List ℕ) (o d : ℕ) → (number_of (written e m o d).answer ≡ 0 → ⊥)
    → ((written e m o d).engine ≡ e) × ((written e m o d).memory ≡ m) × (count_of (written e m o d).answer ≡ 0) × (changed_of (written e m o d).answer ≡ 0)

-- ---- One. Demand 2: the contract allows one outcome
abbrev pub OneOutcome : Type 0
OneOutcome = (e : Engine) (m : List ℕ) (o d : ℕ) (x y : Step) → x ≡ written e m o d → y ≡ written e m o d → x ≡ y

abbrev pub OneFresh : Type 0
OneFresh = (len : ℕ) (x y : Engine) → x ≡ fresh_engine len → y ≡ fresh_engine len → x ≡ y

abbrev pub OneReading : Type 0
OneReading = (e : Engine) (o : ℕ) (x y : prelude.Option ℕ) → x ≡ read_from e o → y ≡ read_from e o → x ≡ y

-- the two functions of the row view: its bytes and its place, in a memory that begins at `place`
abbrev pub OneView : Type 0
OneView = (m : List ℕ) (place : ℕ × ℕ) (base format px py width : ℕ) (x y : List ℕ) (at to : ℕ × ℕ)
    → (x ≡ viewed m base format px py width) × (at ≡ further place (view_start (length m) base format px py width))
    → (y ≡ viewed m base format px py width) × (to ≡ further place (view_start (length m) base format px py width))
    → (x ≡ y) × (at ≡ to)

abbrev pub OneViewAnswer : Type 0
OneViewAnswer = (len base format px py width x y : ℕ) → x ≡ view_answer len base format px py width → y ≡ view_answer len base format px py width → x ≡ y

-- ---- Answers. An answer has one number, one count and one number of pixels changed; a read is answered 0 or 2
abbrev pub OneNumber : Type 0
OneNumber = (a : Answer) (x y : ℕ) → x ≡ number_of a → y ≡ number_of a → x ≡ y

abbrev pub OneCount : Type 0
OneCount = (a : Answer) (x y : ℕ) → x ≡ count_of a → y ≡ count_of a → x ≡ y

abbrev pub OneChanged : Type 0
OneChanged = (a : Answer) (x y : ℕ) → x ≡ changed_of a → y ≡ changed_of a → x ≡ y

-- a launch offset, and one that names nothing, cannot be read
abbrev pub unread : Place → Bool
unread Register = false
unread (Pattern i) = false
unread Launch = true
unread Nowhere = true

-- such a read is answered 2 and gives 0, every other is answered 0
abbrev pub ReadAnswered : Type 0
ReadAnswered = (e : Engine) (o : ℕ) → (read_number (read_from e o) ≡ cond (unread (place_of o)) 2 0) × (unread (place_of o) ≡ true → read_value (read_from e o) ≡ 0)

-- ---- Back. What is stored reads back

-- a read is answered 0 and gives v
abbrev pub Gives : Engine → ℕ → ℕ → Type 0
Gives e o v = (read_number (read_from e o) ≡ 0) × (read_value (read_from e o) ≡ v)

-- after a taken write to a register, its kept bits: to command too, with bit 8 or without
abbrev pub RegisterBack : Type 0
RegisterBack = (e : Engine) (m : List ℕ) (o d : ℕ) → place_of o ≡ Register → number_of (written e m o d).answer ≡ 0 → Gives (written e m o d).engine o (kept o d)

-- after one to the pattern, which has 256 bytes, the word, at every offset of its place
abbrev pub PatternBack : Type 0
PatternBack = (e : Engine) (m : List ℕ) (i o d a : ℕ) → place_of o ≡ Pattern i → place_of a ≡ Pattern i → length e.bank.pattern ≡ 256 → d < 2 ^ 32
    → number_of (written e m o d).answer ≡ 0 → Gives (written e m o d).engine a d

-- ---- Table. Each number is given exactly when its row is the first that applies, and 0 when none does

-- 1: memory over 16,777,216 bytes, or not of the length the engine was opened with
abbrev pub row1 : Engine → ℕ → Bool
row1 e len = ltb (2 ^ 24) len || not (eqb len e.opened)

-- 2: the offset is none of those listed
abbrev pub row2 : Place → Bool
row2 Register = false
row2 (Pattern i) = false
row2 Launch = false
row2 Nowhere = true

-- 3: a host blit waits, and the write is neither launch data nor to command
abbrev pub row3 : Place → Engine → ℕ → Bool
row3 Register e o = e.blit.waiting && not (eqb o 0x70)
row3 (Pattern i) e o = e.blit.waiting
row3 Launch e o = false
row3 Nowhere e o = e.blit.waiting

-- 4: the command is not built
abbrev pub row4 : Regs → Bool
row4 r = by_number (number r) false false false false false false true

-- 5: a surface it uses has a format not listed, its mono, packed or host-blit source is tiled, or the conversion is not allowed; nop uses none
abbrev pub row5 : Regs → Bool
row5 r = by_number (number r) false (not (both_fine r)) (not (both_fine r)) (not (host_fine r)) (not (target_fine r)) (not (target_fine r)) false

-- 6: a stretch copy of a source with no width or no height to a target that has both; a fault of a host blit
abbrev pub row6 : Regs → Bool
row6 r = (eqb (number r) 2 && stretch_fault r) || (eqb (number r) 3 && host_fault r)

-- 7: a covered pixel is off its surface, or a source pixel that a screen copy or a stretch copy needs from memory is off its own
abbrev pub row7 : ℕ → Regs → Bool
row7 len r =
    not (all_on (target r) len (covered_by r))
    || ((eqb (number r) 1 && not (all_on_at (origins r) len (needed (copy_cut r))))
    || (eqb (number r) 2 && not (all_on_at (stretch_origins r) len (stretch_needed r))))

-- 8: the spans of the covered pixels and of the source pixels meet: of a screen copy between different surfaces, or of a stretch copy, on one surface too
abbrev pub row8 : Regs → Bool
row8 r =
    (eqb (number r) 1
    && (not (same_surface (target r) (origins r)) && meet (span_of (target r) (covered (copy_cut r))) (span_of (origins r) (pixels (needed (copy_cut r))))))
    || (eqb (number r) 2 && meet (span_of (target r) (covered (fill_cut r))) (span_of (stretch_origins r) (pixels (stretch_needed r))))

-- whether a row applies to the command that the write has carried out, if it has one
abbrev pub ordered : Option Regs → (Regs → Bool) → Bool
ordered none row = false
ordered (some r) row = row r

-- the table, row by row
abbrev pub table_at : Place → Option Regs → Engine → ℕ → ℕ → List Bool
table_at p r e len o =
    row1 e len ∷ row2 p ∷ row3 p e o ∷ ordered r row4 ∷ ordered r row5 ∷ ordered r row6 ∷ ordered r (row7 len) ∷ ordered r row8 ∷ []

abbrev pub table : Engine → ℕ → ℕ → ℕ → List Bool
table e len o d = table_at (place_of o) (order e o d) e len o

-- row n, counted from 1, is the first that applies; n is 0 where none does
unfoldable pub is_first : ℕ → List Bool → Bool
is_first zero [] = true
is_first (suc n) [] = false
is_first zero (row ∷ rows) = not row && is_first zero rows
is_first (suc zero) (row ∷ rows) = row
is_first (suc (suc n)) (row ∷ rows) = not row && is_first (suc n) rows

abbrev pub Given : ℕ → Type 0
Given n = (e : Engine) (m : List ℕ) (o d : ℕ) → eqb (number_of (written e m o d).answer) n ≡ is_first n (table e (length m) o d)

pub record ByTheTable : Type 0 where
  pub taken : Given 0
  pub memory : Given 1
  pub offset : Given 2
  pub waiting : Given 3
  pub not_built : Given 4
  pub format : Given 5
  pub host : Given 6
  pub off : Given 7
  pub meets : Given 8

-- ---- Bytes. Which bytes are a pixel's is said once for both layouts, rows and tiles (`byte_at`); of every surface, in either:

-- two different pixels share no byte, nor do two bytes of one; pixels of its rows, wherever the memory ends
abbrev pub OneOwner : Type 0
OneOwner = (s : Surface) (p q : Px) (j k : ℕ) → p.x < row_pixels s → q.x < row_pixels s → j < s.bytes → k < s.bytes
    → byte_of s p.x p.y j ≡ byte_of s q.x q.y k → (p ≡ q) × (j ≡ k)

-- a pixel on it lies in memory, byte by byte; a mono pixel lies in one byte
abbrev pub InMemory : Type 0
InMemory = (s : Surface) (len : ℕ) (p : Px) (k : ℕ) → on_surface s len p.x p.y ≡ true → k < byte_count s → byte_at s (first_byte s p.x + k) p.y < len

-- ---- Kept. What is kept of both surfaces beside the registers: pixels in a row, and whole rows that memory has room for (rooms/specs/Room)

-- it is what the registers say: of a fresh engine
abbrev pub KeptFresh : Type 0
KeptFresh = (len : ℕ) → (fresh_engine len).rooms ≡ worked len (regs (fresh_engine len))

-- and after any write of one of which it was, taken or refused, whatever its offset names
abbrev pub KeptAlways : Type 0
KeptAlways = (e : Engine) (m : List ℕ) (o d : ℕ) → e.rooms ≡ worked e.opened (regs e)
    → (written e m o d).engine.rooms ≡ worked e.opened (regs (written e m o d).engine)

-- so of every engine that a fresh one becomes by any writes, each with the memory lent for it, of any length
abbrev pub KeptEver : Type 0
KeptEver = (len : ℕ) (ws : List Lent) → (lent_to (fresh_engine len) ws).rooms ≡ worked len (regs (lent_to (fresh_engine len) ws))

-- a pixel below both numbers is on the target, and on a source that is not packed
pub record RoomHolds : Type 0 where
  pub target : (len : ℕ) (r : Regs) (p : Px) → p.x < (worked len r).target.pixels → p.y < (worked len r).target.rows
      → on_surface (target r) len p.x p.y ≡ true
  pub source : (len : ℕ) (r : Regs) (p : Px) → packing_of r.src_format ≡ 0 → p.x < (worked len r).source.pixels → p.y < (worked len r).source.rows
      → on_surface (origins r) len p.x p.y ≡ true

-- an engine that keeps something else
abbrev pub keeping : Engine → Rooms → Engine
keeping e k = record { bank = e.bank; blit = e.blit; opened = e.opened; rooms = k }

-- gives the same answer and leaves the same memory; and of the engine all the same, but for what is kept
abbrev pub KeptAside : Type 0
KeptAside = (e : Engine) (k : Rooms) (m : List ℕ) (o d : ℕ) →
    ((written (keeping e k) m o d).answer ≡ (written e m o d).answer)
    × ((written (keeping e k) m o d).memory ≡ (written e m o d).memory)
    × (keeping (written (keeping e k) m o d).engine k ≡ keeping (written e m o d).engine k)

-- ---- Waiting. A host blit that waits

-- what a fresh engine meets and every write keeps: only a host blit waits, its registers have passed the table for the engine's memory, it has had
-- fewer words than it needs; and where none waits, no words are counted
pub record Sound (e : Engine) : Type 0 where
  pub waits : e.blit.waiting ≡ true → (number (regs e) ≡ 3) × ((host_verdict (regs e) e.opened ≡ 0) × (e.blit.taken < words_of (feed_of (regs e))))
  pub rests : e.blit.waiting ≡ false → e.blit ≡ no_blit

abbrev pub SoundFresh : Type 0
SoundFresh = (len : ℕ) → Sound (fresh_engine len)

abbrev pub SoundKept : Type 0
SoundKept = (e : Engine) (m : List ℕ) (o d : ℕ) → Sound e → Sound (written e m o d).engine

-- so every engine is, that a fresh one becomes by any writes, each with the memory lent for it, of any length
abbrev pub SoundAlways : Type 0
SoundAlways = (len : ℕ) (ws : List Lent) → Sound (lent_to (fresh_engine len) ws)

-- the later words of a blit that waits are refused by row 1 only
abbrev pub WordsTaken : Type 0
WordsTaken = (e : Engine) (m : List ℕ) (o d : ℕ) → Sound e → e.blit.waiting ≡ true → place_of o ≡ Launch → length m ≤ 2 ^ 24 → length m ≡ e.opened
    → number_of (written e m o d).answer ≡ 0

-- ---- Whole. A host blit as a whole: all its words, each to any launch offset

-- all pixels of its rectangle that are inside the clip, row by row from the left, each with the value that the data has
abbrev pub data_touches : Regs → List ℕ → (ℕ → ℕ) → List Touch
data_touches r pattern ws = host_touches (ink_of r) pattern (clip_of r) (feed_of r) (rows ws (feed_of r) (feed_of r).height)

-- its words are written to launch offsets, with the memory that the engine was opened for
pub record Sends (e : Engine) (m : List ℕ) (os ws : ℕ → ℕ) : Type 0 where
  pub sound : Sound e
  pub limit : length m ≤ 2 ^ 24
  pub opened : length m ≡ e.opened
  pub places : (k : ℕ) → place_of (os k) ≡ Launch
  pub words : (k : ℕ) → ws k < 2 ^ 32

-- every answer is 0, no blit waits then, and memory, counts and what changed are those of painting these pixels one after the other
pub record Whole (e : Engine) (m : List ℕ) (ws : ℕ → ℕ) (after : Run) : Type 0 where
  pub taken : (a : Answer) → Memᴰ a after.answers → number_of a ≡ 0
  pub ended : after.engine.blit.waiting ≡ false
  pub painted : state after.memory (counted after.answers) (changes after.answers) ≡ paint (target (regs e)) (data_touches (regs e) e.bank.pattern ws) (state m 0 0)

abbrev pub AllWords : Engine → List ℕ → (ℕ → ℕ) → (ℕ → ℕ) → Type 0
AllWords e m os ws = Whole e m ws (played e m (sent os ws (words_of (feed_of (regs e)))))

-- of a blit that waits and has had no word; what it keeps as its last word is any word
abbrev pub WaitingWhole : Type 0
WaitingWhole = (e : Engine) (m : List ℕ) (os ws : ℕ → ℕ) → Sends e m os ws → e.blit.waiting ≡ true → e.blit.taken ≡ 0 → e.blit.last < 2 ^ 32 → AllWords e m os ws

-- of one that its first word opens
abbrev pub OpenedWhole : Type 0
OpenedWhole = (e : Engine) (m : List ℕ) (os ws : ℕ → ℕ) → Sends e m os ws → e.blit.waiting ≡ false → number (regs e) ≡ 3 → host_verdict (regs e) (length m) ≡ 0
    → 0 < words_of (feed_of (regs e)) → AllWords e m os ws

-- ---- Count. The count is the number of covered pixels written, and changed that of those whose bytes are not what they were just before their own store

-- a taken write that has no command carried out leaves the memory, counts nothing and changed nothing; one that has paints what it touches, counts what it
-- wrote, and says how many of them it altered
abbrev pub Paints : Option Regs → List Touch → List ℕ → Step → Type 0
Paints none ts m s = (s.memory ≡ m) × (count_of s.answer ≡ 0) × (changed_of s.answer ≡ 0)
Paints (some r) ts m s =
    (s.memory ≡ (paint (target r) ts (state m 0 0)).mem) × (count_of s.answer ≡ length (wrote (target r) ts m))
    × (changed_of s.answer ≡ length (altered (target r) ts m))

abbrev pub CountsWritten : Type 0
CountsWritten = (e : Engine) (m : List ℕ) (o d : ℕ) → number_of (written e m o d).answer ≡ 0 → Paints (order e o d) (touches_of e m o d) m (written e m o d)

-- a copy, a stretch, a fill and a line touch their covered pixels, in order; a host blit's word touches some of its covered pixels
abbrev pub TouchesCovered : Type 0
TouchesCovered = (e : Engine) (m : List ℕ) (o d : ℕ) (r : Regs) → order e o d ≡ some r → (number r ≡ 3 → ⊥) → map (λ t. t.at) (touches_of e m o d) ≡ covered_by r

abbrev pub WordCovered : Type 0
WordCovered = (e : Engine) (m : List ℕ) (o d : ℕ) (r : Regs) → order e o d ≡ some r → number_of (written e m o d).answer ≡ 0
    → (p : Px) → Memᴰ p (map (λ t. t.at) (touches_of e m o d)) → Memᴰ p (covered_by r)

-- no more change than are written
abbrev pub ChangedMost : Type 0
ChangedMost = (e : Engine) (m : List ℕ) (o d : ℕ) → changed_of (written e m o d).answer ≤ count_of (written e m o d).answer

-- ---- Changed. What changed can be seen in the memory before the write and after it, whatever the order of the stores: it is the number of touched pixels whose
-- bytes are not the same in the two
abbrev pub ChangedSeen : Type 0
ChangedSeen = (e : Engine) (m : List ℕ) (o d : ℕ) (r : Regs) → order e o d ≡ some r → number_of (written e m o d).answer ≡ 0
    → changed_of (written e m o d).answer ≡ summed (changing (target r) m (written e m o d).memory) (map (λ t. t.at) (touches_of e m o d))

-- a second pass: of a taken write on a memory of bytes, none changed exactly if the memory is what it was
abbrev pub SecondPass : Type 0
SecondPass = (e : Engine) (m : List ℕ) (o d : ℕ) → ((a : ℕ) → get_or m a 0 < 256) → number_of (written e m o d).answer ≡ 0
    → (changed_of (written e m o d).answer ≡ 0 → (written e m o d).memory ≡ m) × ((written e m o d).memory ≡ m → changed_of (written e m o d).answer ≡ 0)

-- ---- Order. A screen copy does its pixels one by one, row by row from the corner that bits 14 and 15 name, each read seeing the writes before it
-- (`touched_by_copy`). Where no read comes late it leaves what the older rule says, each pixel from its source as it was before the command (`as_before`)

-- the write has the screen copy of these registers carried out
pub record Copies (e : Engine) (m : List ℕ) (o d : ℕ) (r : Regs) : Type 0 where
  pub carries : order e o d ≡ some r
  pub copy : number r ≡ 1
  pub taken : number_of (written e m o d).answer ≡ 0

-- memory, count and what changed are those of the older rule
abbrev pub LeftAsBefore : Engine → List ℕ → ℕ → ℕ → Regs → Type 0
LeftAsBefore e m o d r =
    state (written e m o d).memory (count_of (written e m o d).answer) (changed_of (written e m o d).answer)
    ≡ paint (target r) (as_before (copy_task r) e.bank.pattern m (covered (copy_cut r))) (state m 0 0)

-- between two surfaces, or where no covered pixel is one that the copy needs
abbrev pub SharesNone : Regs → Type 0
SharesNone r = target r ≡ origins r → (p : Px) → Memᴰ p (covered (copy_cut r)) → Memᴰ p (pixels (needed (copy_cut r))) → ⊥

abbrev pub CopiesAsBefore : Type 0
CopiesAsBefore = (e : Engine) (m : List ℕ) (o d : ℕ) (r : Regs) → Copies e m o d r → SharesNone r → LeftAsBefore e m o d r

-- where the source is not behind: in the copy's order its row does not come before the target's, nor, in the same row, its column
pub record NotBehind (r : Regs) : Type 0 where
  pub row : NotBefore (bit r.command 15) (placed (r.dst_xy / 2 ^ 16)) (placed (r.src_xy / 2 ^ 16))
  pub column : placed (r.src_xy / 2 ^ 16) ≡ placed (r.dst_xy / 2 ^ 16) → NotBefore (bit r.command 14) (placed r.dst_xy) (placed r.src_xy)

abbrev pub SourceAhead : Type 0
SourceAhead = (e : Engine) (m : List ℕ) (o d : ℕ) (r : Regs) → Copies e m o d r → NotBehind r → LeftAsBefore e m o d r

-- a plain copy within one surface, from the left, of each column onto its right-hand neighbour
pub record Border (r : Regs) : Type 0 where
  pub operation : r.command / 2 ^ 24 % 2 ^ 8 ≡ 0xcc
  pub source_key : bit r.command_extra 0 ≡ false
  pub target_key : bit r.command_extra 1 ≡ false
  pub surface : origins r ≡ target r
  pub from_left : bit r.command 14 ≡ false
  pub column : placed r.src_xy + 1 ≡ placed r.dst_xy
  pub row : placed (r.src_xy / 2 ^ 16) ≡ placed (r.dst_xy / 2 ^ 16)

-- spreads the column to the left of the first covered one over all that are covered
abbrev pub Smears : Type 0
Smears = (e : Engine) (m : List ℕ) (o d : ℕ) (r : Regs) → Copies e m o d r → Border r → ((a : ℕ) → get_or m a 0 < 256) → (p : Px) → Memᴰ p (covered (copy_cut r))
    → read_px (written e m o d).memory (target r) p.x p.y ≡ read_px m (target r) ((copy_cut r).x - 1) p.y

-- ---- Frame. Where a byte changes, it belongs to a pixel of the target inside the clip, of the command that the write has carried out
abbrev pub OnlyCovered : Type 0
OnlyCovered = (e : Engine) (m : List ℕ) (o d : ℕ)
    → (length (written e m o d).memory ≡ length m)
    × ((a : ℕ)
    → ((r : Regs) (p : Px) → order e o d ≡ some r → Memᴰ p (covered_by r) → in_clip (clip_of r) (origin + p.x) (origin + p.y) ≡ true
    → Memᴰ a (addresses (target r) (p ∷ [])) → ⊥)
    → get_or (written e m o d).memory a 0 ≡ get_or m a 0)

-- Demand 3: a rectangle is copied aside, written over, and copied back; every byte outside the place it was copied aside to is then what it was.
-- Assumes nothing.
use Rattle.std.specs.Prelude.{◌≡◌, true, false, ℕ, ◌*◌, ◌/◌, ◌%◌, ◌^◌, ◌<◌, ◌≤◌, length, get_or}
use mathlib.Core.List.{List, [], ◌∷◌, ◌++◌, Memᴰ}
use Rattle.std.proofs.Math.Option.{some}
use Rattle.formats.specs.Step.{packing_of}
use Rattle.paint.specs.Clip.{in_clip}
use Rattle.registers.specs.declared.Regs.{Regs}
use Rattle.command.specs.Decode.{target, origins}
use Rattle.cuts.specs.Cut.{bit, number, width, height, clip_of}
use Rattle.table.specs.Table.{both_fine, all_on_at}
use Rattle.engine.specs.declared.Engine.{Engine}
use Rattle.engine.specs.Step.{Answer, number_of, count_of}
use Rattle.engine.specs.Writes.{Write, by, Run, played, starts}
use Rattle.restore.specs.Rectangles.{Rectangle, source_rect, target_rect, positions, Has, addresses_in, Apart}

-- ---- what is asked

-- a plain copy, with r in the registers and len bytes of memory: surfaces that answer 5 does not turn down; no keys, no source packing, direction bits clear;
-- one colour format; both rectangles on their surfaces, and the target's inside the clip used
pub record Plain (len : ℕ) (r : Regs) : Type 0 where
  pub copy : number r ≡ 1
  pub operation : r.command / 2 ^ 24 % 2 ^ 8 ≡ 0xcc
  pub fine : both_fine r ≡ true
  pub source_key : bit r.command_extra 0 ≡ false
  pub target_key : bit r.command_extra 1 ≡ false
  pub packing : packing_of r.src_format ≡ 0
  pub left : bit r.command 14 ≡ false
  pub top : bit r.command 15 ≡ false
  pub format : (origins r).bytes ≡ (target r).bytes
  pub source_on : all_on_at (origins r) len (positions (source_rect r)) ≡ true
  pub target_on : all_on_at (target r) len (positions (target_rect r)) ≡ true
  pub clip : (x y : ℕ) → Has (target_rect r) x y → in_clip (clip_of r) x y ≡ true

-- a command has the rectangle's surface as its target, and a clip inside the rectangle
pub record Framed (home : Rectangle) (r : Regs) : Type 0 where
  pub surface : target r ≡ home.surface
  pub clip : (x y : ℕ) → in_clip (clip_of r) x y ≡ true → Has home x y

-- every command carried out, nop apart, is such a one
abbrev pub AllFramed : Rectangle → Engine → List ℕ → List Write → Type 0
AllFramed home e m [] = Unit {0}
AllFramed home e m (w ∷ ws) =
    ((r : Regs) → starts e w ≡ some r → number_of (by e m w).answer ≡ 0 → (number r ≡ 0 → ⊥) → Framed home r)
    × AllFramed home (by e m w).engine (by e m w).memory ws

-- the write `first` has the copy aside carried out, with the registers `aside`; then come any writes; then `last` has the copy back
pub record Saves (e : Engine) (m : List ℕ) (first : Write) (middle : List Write) (last : Write) (aside back : Regs) : Type 0 where
  pub limit : length m ≤ 2 ^ 24
  pub opened : length m ≡ e.opened
  pub bytes : (a : ℕ) → get_or m a 0 < 256
  pub rests : e.blit.waiting ≡ false
  pub goes : starts e first ≡ some aside
  pub plain : Plain (length m) aside
  pub apart : Apart (source_rect aside) (target_rect aside)
  pub framed : AllFramed (source_rect aside) (by e m first).engine (by e m first).memory middle
  pub ended : (played e m (first ∷ middle)).engine.blit.waiting ≡ false
  pub returns : starts (played e m (first ∷ middle)).engine last ≡ some back
  pub again : Plain (length m) back
  pub from : source_rect back ≡ target_rect aside
  pub to : target_rect back ≡ source_rect aside

-- ---- what is claimed, of all these writes played: the first answer and the last, which are those of the copies, are 0 with the count of all pixels, and memory is
-- what it was outside the place aside
pub record Restored (m : List ℕ) (aside : Regs) (middle : List Answer) (after : Run) : Type 0 where
  pub first : Answer
  pub last : Answer
  pub answers : after.answers ≡ first ∷ middle ++ (last ∷ [])
  pub first_number : number_of first ≡ 0
  pub first_count : count_of first ≡ height aside * width aside
  pub last_number : number_of last ≡ 0
  pub last_count : count_of last ≡ height aside * width aside
  pub long : length after.memory ≡ length m
  pub kept : (a : ℕ) → (Memᴰ a (addresses_in (target_rect aside)) → ⊥) → get_or after.memory a 0 ≡ get_or m a 0

abbrev pub Demand : Type 0
Demand =
    (e : Engine) (m : List ℕ) (first : Write) (middle : List Write) (last : Write) (aside back : Regs) → Saves e m first middle last aside back
    → Restored m aside (played (by e m first).engine (by e m first).memory middle).answers (played e m (first ∷ middle ++ (last ∷ [])))

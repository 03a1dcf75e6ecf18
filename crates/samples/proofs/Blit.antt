-- What the promises of a whole host blit ask for can be met: on four bytes of 8 bpp, four pixels in one word, of a blit that the word opens and of one that waits for it.
-- Assumes nothing.
use mathlib.Core.Path.{◌≡◌, refl}
use mathlib.Core.List.{List, [], ◌∷◌}
use Prim.Native.Nat.{ℕ}
use native.Mathlib.Omega.{arith}
use Rattle.colour.specs.Convert.{allowed}
use Rattle.surface.specs.Place as Place
use Rattle.surface.specs.Pixels.{across, rect}
use Rattle.spans.specs.Span.{all_on}
use Rattle.formats.specs.Format.{target_of, source_of}
use Rattle.formats.specs.Step.{step_of, row_length, data_bytes, data_words}
use Rattle.registers.specs.Regs.{put_reg}
use Rattle.registers.specs.Kept.{kept}
use Rattle.registers.specs.Offsets.{place_of}
use Rattle.bank.specs.Bank.{fresh_bank, stored}
use Rattle.cuts.specs.Cut.{clip_of, cut_at, fill_cut}
use Rattle.command.specs.Decode.{feed_of}
use Rattle.table.specs.Table.{host_verdict}
use Rattle.acts.specs.Deed.{carrying}
use Rattle.engine.specs.declared.Engine.{Engine}
use Rattle.engine.specs.Step.{fresh_engine, stored_in, carried, commanded, to_register, written}
use Rattle.engine.specs.Writes.{Lent, lent_to}
use Rattle.engine.specs.Promises.{Sends, AllWords}
use Rattle.engine.proofs.Waiting.{sound-always}
use Rattle.engine.proofs.Whole.{waiting-whole, opened-whole}

abbrev memory : List ℕ
memory = 7 ∷ 9 ∷ 11 ∷ 13 ∷ []

abbrev lent : ℕ → ℕ → Lent
lent o d = record { memory = memory; write = record { offset = o; word = d } }

-- one row of four pixels for source and target, and the command
abbrev writes : ℕ → List Lent
writes command = lent 0x14 0x10004 ∷ lent 0x54 0x410000 ∷ lent 0x0c 0x10004 ∷ lent 0x68 0x10004 ∷ lent 0x70 command ∷ []

-- stored, and started by bit 8
abbrev rests : Engine
rests = lent_to (fresh_engine 4) (writes 0xcc000003)

abbrev waits : Engine
waits = lent_to (fresh_engine 4) (writes 0xcc000103)

sends : (command : ℕ) → 4 ≡ (lent_to (fresh_engine 4) (writes command)).opened → Sends (lent_to (fresh_engine 4) (writes command)) memory (λ k. 0x80) (λ k. 0x04030201)
unfolding place_of
sends command opened = record { sound = sound-always 4 (writes command); limit = omega arith; opened = opened; places = λ k. refl; words = λ k. omega arith }

pub met-opened : AllWords rests memory (λ k. 0x80) (λ k. 0x04030201)
unfolding lent_to fresh_engine fresh_bank written to_register commanded stored_in stored put_reg kept place_of host_verdict allowed target_of source_of step_of row_length data_bytes data_words feed_of clip_of fill_cut cut_at across rect all_on Place.on_surface Place.row_pixels Place.row_bytes Place.first_byte Place.byte_count Place.in_memory Place.byte_at
met-opened = opened-whole rests memory (λ k. 0x80) (λ k. 0x04030201) (sends 0xcc000003 refl) refl refl refl (omega arith)

pub met-waiting : AllWords waits memory (λ k. 0x80) (λ k. 0x04030201)
unfolding lent_to fresh_engine fresh_bank written to_register commanded carried carrying stored_in stored put_reg kept place_of host_verdict allowed target_of source_of step_of row_length data_bytes data_words feed_of clip_of fill_cut cut_at across rect all_on Place.on_surface Place.row_pixels Place.row_bytes Place.first_byte Place.byte_count Place.in_memory Place.byte_at
met-waiting = waiting-whole waits memory (λ k. 0x80) (λ k. 0x04030201) (sends 0xcc000103 refl) refl refl (omega arith)

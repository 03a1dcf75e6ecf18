-- Demand 3 proved: after a rectangle was copied aside, written over and copied back, every byte outside the place aside is as it was.
-- Assumes nothing.
use mathlib.Core.Path.{◌≡◌, refl, sym, ap, subst, subst⁻¹, ◌∙◌}
use mathlib.Core.List.{List, [], ◌∷◌, ◌++◌}
use Prim.Native.Nat.{ℕ, ◌*◌, ◌^◌, ◌<◌, ◌≤◌}
use native.Mathlib.Omega.{arith}
use lib.ListN.{length}
use Rattle.surface.proofs.OnLaws.{and_left}
use Rattle.formats.proofs.FormatLaws.{target-colour}
use Rattle.registers.specs.declared.Regs.{Regs}
use Rattle.command.specs.Decode.{origins}
use Rattle.table.specs.Table.{target_fine}
use Rattle.engine.specs.declared.Engine.{Engine}
use Rattle.engine.specs.Step.{Step}
use Rattle.engine.specs.Writes.{Write, Run, by, played}
use Rattle.engine.proofs.Played.{played-last}
use Rattle.restore.specs.Rectangles.{Rectangle, source_rect, target_rect, Apart}
use Rattle.restore.specs.Restore.{Plain, Saves, Restored, Demand}
use Rattle.restore.proofs.Areas.{outside}
use Rattle.restore.proofs.Waits.{not-waiting}
use Rattle.restore.proofs.Frames.{AllKept, writes_kept}
use Rattle.restore.proofs.Copies.{Came}
use Rattle.restore.proofs.Back.{apart-swap, comes_back}
use Rattle.restore.proofs.CopyWrites.{Made, write-made}

module _ {e : Engine} {m : List ℕ} {first : Write} {middle : List Write} {last : Write} {aside back : Regs} (s : Saves e m first middle last aside back) where
  abbrev home : Rectangle
  home = source_rect aside

  abbrev away : Rectangle
  away = target_rect aside

  abbrev one : Step
  one = by e m first

  abbrev two : Run
  two = played one.engine one.memory middle

  abbrev three : Step
  three = by two.engine two.memory last

  went : Made e m aside one
  went = write-made e m first aside s.limit s.opened s.bytes s.goes s.plain (apart-swap home away s.apart)

  between : AllKept home one.engine one.memory two
  between = writes_kept one.engine one.memory middle (not-waiting one.engine went.rests) s.framed

  same_length : length two.memory ≡ length m
  same_length = between.elsewhere.long ∙ went.came.long

  came-back : Made two.engine two.memory back three
  unfolding played
  came-back =
      write-made two.engine two.memory last back (subst⁻¹ (λ (n : ℕ). n ≤ 2 ^ 24) same_length s.limit)
      (same_length ∙ s.opened ∙ sym (between.opened ∙ went.opened)) (between.bytes went.bytes) s.returns
      (subst⁻¹ (λ (n : ℕ). Plain n back) same_length s.again)
      (subst⁻¹ (λ (t : Rectangle). Apart t (source_rect back)) s.to (subst⁻¹ (Apart home) s.from s.apart))

  returned : Came away home two.memory three.memory
  returned =
      subst (λ (t : Rectangle). Came away t two.memory three.memory) s.to
      (subst (λ (t : Rectangle). Came t (target_rect back) two.memory three.memory) s.from came-back.came)

  some_bytes : 0 < (origins aside).bytes
  some_bytes =
      let colour = target-colour aside.dst_base_addr aside.dst_format (and_left (target_fine aside) _ s.plain.fine) in
      omega (arith, colour.some, s.plain.format)

  there_and_back : Restored m aside two.answers (played e m (first ∷ middle ++ (last ∷ [])))
  unfolding played
  there_and_back =
      let end = played-last e m (first ∷ middle) last in
      subst⁻¹ (Restored m aside two.answers) end (record {
        first = one.answer;
        last = three.answer;
        answers = refl;
        first_number = went.number;
        first_count = went.count;
        last_number = came-back.number;
        last_count = came-back.count ∙ ap (λ (t : Rectangle). t.h * t.w) s.from;
        long = returned.long ∙ same_length;
        kept = λ a out. comes_back home away (length m) s.plain.source_on s.plain.target_on some_bytes s.plain.format refl refl s.apart
            m one.memory two.memory three.memory went.came between.elsewhere returned a (outside away a out);
      })

pub restores : Demand
restores e m first middle last aside back s = there_and_back s

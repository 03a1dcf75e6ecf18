-- What a write leaves, and what a list of writes leaves, where every command started, nop apart, is in the frame: all bytes but the rectangle's.
-- Assumes nothing.
use mathlib.Core.Path.{◌≡◌, refl, sym, ap, subst, subst⁻¹, ◌∙◌}
use mathlib.Core.Bool.{cond}
use mathlib.Core.List.Memᴰ
use mathlib.Core.List.{List, [], ◌∷◌}
use mathlib.Core.Option.{none, some}
use Prim.Native.Nat.{ℕ, ◌+◌}
use native.Mathlib.Decide.{ℕ_discrete}
use Rattle.surface.specs.declared.Surface.{Surface}
use Rattle.surface.proofs.Lists.{In, by_cases}
use Rattle.surface.specs.Pixels.{origin}
use Rattle.spans.proofs.Spans.{IsByte}
use Rattle.paint.proofs.Frame.{Bytes}
use Rattle.registers.specs.declared.Regs.{Regs}
use Rattle.registers.specs.declared.Place.{Place}
use Rattle.registers.specs.declared.Place.TheVariants.{Register, Pattern, Launch, Nowhere}
use Rattle.registers.specs.Offsets.{place_of}
use Rattle.cuts.specs.Cut.{number}
use Rattle.engine.specs.declared.Engine.{Engine}
use Rattle.engine.specs.Step.{Step, number_of}
use Rattle.engine.specs.Orders.{launching, order_at, order}
use Rattle.engine.specs.Writes.{Write, Run, by, played, starts}
use Rattle.acts.proofs.Cases.{by-test}
use Rattle.engine.proofs.Orders.{launch-host, the_same, nothing-ordered}
use Rattle.engine.proofs.Commands.{covered_none}
use Rattle.engine.proofs.Undone.{refused-undone}
use Rattle.engine.proofs.Frame.{covered-inside, write-left, write-bytes}
use Rattle.restore.specs.Rectangles.{Rectangle}
use Rattle.restore.specs.Restore.{Framed, AllFramed}
use Rattle.restore.proofs.Areas.{Elsewhere, elsewhere-refl, elsewhere-trans}
use Rattle.restore.proofs.Waits.{Held, Asked, AskedAt, write-next}

module _ {t : Rectangle} (e : Engine) (m : List ℕ) (w : Write) (held : Held t e) where
  -- the command that a taken write has carried out is in the frame, whether the write starts it or feeds it
  framed_at : (q : Place) (s : Step) → AskedAt t e w q s → number_of s.answer ≡ 0 → (r : Regs) → (number r ≡ 0 → ⊥)
      → order_at q e w.offset w.word ≡ some r → Framed t r
  framed_at Register s asked z r n h = asked r h z n
  framed_at (Pattern i) s asked z r n h = nothing-ordered r h
  framed_at Launch s asked z r n h =
      by-test (λ b. e.blit.waiting ≡ b → Framed t r) e.blit.waiting
      (λ _ b. subst (Framed t) (sym (launch-host e w.word (held b).0) ∙ the_same (launching e w.word) r h) (held b).1)
      (λ _ b. asked r (ap (λ u. cond u none (some (launching e w.word))) b ∙ h) z n) refl
  framed_at Nowhere s asked z r n h = nothing-ordered r h

  module _ (asked : (r : Regs) → starts e w ≡ some r → Asked t r (by e m w)) where
    framed : number_of (by e m w).answer ≡ 0 → (r : Regs) → (number r ≡ 0 → ⊥) → order e w.offset w.word ≡ some r → Framed t r
    framed = framed_at (place_of w.offset) (by e m w) asked

    pub write-elsewhere : Elsewhere t m (by e m w).memory
    write-elsewhere =
        by_cases (ℕ_discrete (number_of (by e m w).answer) 0)
        (λ z. let left = write-left e m w.offset w.word in
        record {
          same = λ a out. left.same a (λ r p h i b.
              by_cases (ℕ_discrete (number r) 0) (λ nop. Memᴰ.not-nil (subst (In p) (covered_none r nop) i))
              (λ n. let f = framed z r n h in
              out p (f.clip (origin + p.x) (origin + p.y) (covered-inside r p i)) (subst (λ (s : Surface). IsByte s p a) f.surface b)));
          long = left.long;
        })
        (λ n. subst⁻¹ (Elsewhere t m) (refused-undone e m w.offset w.word n).1 (elsewhere-refl t m))

-- ---- a list of writes
pub record AllKept (t : Rectangle) (e : Engine) (m : List ℕ) (after : Run) : Type 0 where
  pub elsewhere : Elsewhere t m after.memory
  pub bytes : Bytes m → Bytes after.memory
  pub opened : after.engine.opened ≡ e.opened

pub writes_kept : {t : Rectangle} (e : Engine) (m : List ℕ) (ws : List Write) → Held t e → AllFramed t e m ws → AllKept t e m (played e m ws)
unfolding played
writes_kept {t} e m [] held framed = record { elsewhere = elsewhere-refl t m; bytes = λ b. b; opened = refl }
writes_kept {t} e m (w ∷ ws) held framed =
    let next = write-next e m w held framed.0 in
    let more = writes_kept (by e m w).engine (by e m w).memory ws next.held framed.1 in
    record {
      elsewhere = elsewhere-trans (write-elsewhere e m w held framed.0) more.elsewhere;
      bytes = λ b. more.bytes (write-bytes e m w.offset w.word b);
      opened = more.opened ∙ next.opened;
    }

-- A write touches no pixel twice; and where it is taken, each pixel that it touches lies in a row of the target, which has a byte or more to a pixel.
-- Assumes nothing.
use mathlib.Core.Path.{◌≡◌, refl, sym, ap, subst, subst⁻¹, ◌∙◌}
use mathlib.Core.Bool.{Bool, true, false, not, ◌&&◌, ◌||◌, true≢false}
use mathlib.Core.Logic.{⊎_elim}
use mathlib.Core.List.Memᴰ
use mathlib.Core.List.{List, [], ◌∷◌, map, map-map, Memᴰ}
use mathlib.Core.Option.{Option, some}
use Prim.Native.Nat.{ℕ, ◌+◌, ◌<◌}
use native.Mathlib.Omega.{arith}
use lib.Dec.{eqb, ltb}
use lib.ListN.{length}
use borrow.Author.Tests.{eq-eqb}
use Rattle.surface.specs.Place.{row_pixels}
use Rattle.surface.specs.Pixels.{Px, px}
use Rattle.surface.proofs.OnLaws.{on-column}
use Rattle.surface.proofs.Rects.{Distinct, same-px, rect-distinct}
use Rattle.spans.specs.Span.{all_on}
use Rattle.spans.proofs.Corner.{all-each}
use Rattle.paint.specs.Clip.{in_clip, pixel_at}
use Rattle.paint.specs.Paint.{Touch}
use Rattle.line.specs.Line.{point}
use Rattle.line.specs.Draw.{covered_points}
use Rattle.line.proofs.Sides.{either}
use Rattle.line.proofs.Once.{clipped-distinct, covered-distinct}
use Rattle.host.specs.Host.{words_of, Pixel, by_word}
use Rattle.host.specs.Draw.{host_touches}
use Rattle.host.proofs.Once.{spot, word-distinct}
use Rattle.registers.specs.declared.Regs.{Regs}
use Rattle.registers.specs.declared.Place.{Place}
use Rattle.registers.specs.declared.Place.TheVariants.{Register, Pattern, Launch, Nowhere}
use Rattle.registers.specs.Offsets.{place_of}
use Rattle.command.specs.Decode.{target, ink_of, copy_task, fill_task, line_of, feed_of}
use Rattle.cuts.specs.Cut.{bit, number, clip_of, fill_cut, covered, copy_order}
use Rattle.engine.specs.declared.Engine.{Engine}
use Rattle.engine.specs.Step.{number_of, regs, stored_in, written}
use Rattle.engine.specs.Orders.{order, covered_by, carried_touches, launched_touches, touches_at, touches_of}
use Rattle.engine.specs.Promises.{table_at, is_first}
use Rattle.acts.proofs.Cases.{picked, by-number}
use Rattle.engine.proofs.Short.{copy_touches, stretch_touches, fill_touches, draw_touches, word_touches}
use Rattle.engine.proofs.Commands.{Painting, PaintingOf, rect-pixels, stretch-pixels, line-pixels, write-written}
use Rattle.engine.proofs.Table.{by-the-table}

-- none of these touches has the pixel of another
abbrev pub Once : List Touch → Type 0
Once ts = Distinct (map (λ t. t.at) ts)

-- ---- a word of data

-- no pixel twice under f, and so none under a g that tells apart all that f does
kept-apart : {A : Type 0} (f g : A → Px) → ((a b : A) → g a ≡ g b → f a ≡ f b) → (l : List A) → Distinct (map f l) → Distinct (map g l)
kept-apart f g apart [] d = tt
kept-apart f g apart (a ∷ l) d = (
  λ q m e. let r = Memᴰ.of_map g l m in d.0 (f r.0) (Memᴰ.map f r.1) (apart a r.0 (e ∙ sym r.2)),
  kept-apart f g apart l d.1,
)

-- the pixels of the data as points: those inside the clip are touched
data-points : (r : Regs) (pattern : List ℕ) (ps : List Pixel)
    → map (λ t. t.at) (host_touches (ink_of r) pattern (clip_of r) (feed_of r) ps) ≡ covered_points (clip_of r) (map (λ p. point ((feed_of r).x + p.i) ((feed_of r).y + p.j)) ps)
unfolding host_touches covered_points
data-points r pattern [] = refl
data-points r pattern (p ∷ ps) =
    let more = data-points r pattern ps in
    let x = (feed_of r).x + p.i in
    let y = (feed_of r).y + p.j in
    either (in_clip (clip_of r) x y) (λ e. rw e (ap (λ (qs : List Px). pixel_at x y ∷ qs) more)) (λ e. rw e more)

word-once : (e : Engine) (word : ℕ) → Once (word_touches e word)
word-once e word =
    let r = regs e in
    let f = feed_of r in
    let ps = by_word f e.blit.last word e.blit.taken in
    let differ = kept-apart spot (λ p. px (f.x + p.i) (f.y + p.j))
    (λ a b s.
    let x : f.x + a.i ≡ f.x + b.i = ap (λ (q : Px). q.x) s in
    let y : f.y + a.j ≡ f.y + b.j = ap (λ (q : Px). q.y) s in
    same-px (spot a) (spot b) (omega arith) (omega arith)) ps (word-distinct f e.blit.last word e.blit.taken) in
    subst⁻¹ Distinct (data-points r e.bank.pattern ps) (clipped-distinct (clip_of r) _ (subst⁻¹ Distinct (map-map _ _ ps) differ))

-- ---- any command, by its number
module _ (e : Engine) where
  copy-once : Once (copy_touches e)
  copy-once = subst⁻¹ Distinct (rect-pixels (copy_task (regs e)) e.bank.pattern (copy_order (regs e))) (rect-distinct _ _ _ _ _ _)

  fill-once : Once (fill_touches e)
  fill-once = subst⁻¹ Distinct (rect-pixels (fill_task (regs e)) e.bank.pattern (covered (fill_cut (regs e)))) (rect-distinct false false _ _ _ _)

  stretch-once : (m : List ℕ) → Once (stretch_touches e m)
  stretch-once m = subst⁻¹ Distinct (stretch-pixels e m) (rect-distinct false false _ _ _ _)

  draw-once : Once (draw_touches e)
  draw-once = subst⁻¹ Distinct (line-pixels e) (covered-distinct (clip_of (regs e)) (line_of (regs e)))

carried-once : (e : Engine) (m : List ℕ) → Once (carried_touches e m)
unfolding carried_touches
carried-once e m =
    by-number Once (number (regs e)) _ _ _ _ _ _ _ (λ _. tt) (λ _. copy-once e) (λ _. stretch-once e m) (λ _. tt) (λ _. fill-once e) (λ _ _. draw-once e) (λ _. tt)

launched-once : (e : Engine) (m : List ℕ) (d : ℕ) → Once (launched_touches e m d)
unfolding launched_touches
launched-once e m d =
    let to_source = stored_in e 0x5c d in
    let to_target = stored_in e 0x6c d in
    by-number Once (number (regs e)) _ _ _ _ _ _ _ (λ _. tt) (λ _. copy-once to_source) (λ _. stretch-once to_source m)
    (λ _. picked Once (ltb e.blit.taken (words_of (feed_of (regs e)))) (word_touches e d) [] (λ _. word-once e d) (λ _. tt)) (λ _. fill-once to_target) (λ _ _. draw-once to_target) (λ _. tt)

place-once : (p : Place) (e : Engine) (m : List ℕ) (o d : ℕ) → Once (touches_at p e m o d)
place-once Register e m o d = picked Once (eqb o 0x70 && bit d 8) _ _ (λ _. carried-once (stored_in e 0x70 d) m) (λ _. tt)
place-once (Pattern i) e m o d = tt
place-once Launch e m o d = launched-once e m d
place-once Nowhere e m o d = tt

-- any write, taken or not, whether it has a command carried out or none
pub touches-once : (e : Engine) (m : List ℕ) (o d : ℕ) → Distinct (map (λ t. t.at) (touches_of e m o d))
touches-once e m o d = place-once (place_of o) e m o d

pub write-once : (e : Engine) (m : List ℕ) (o d : ℕ) (r : Regs) → order e o d ≡ some r → Distinct (map (λ t. t.at) (touches_of e m o d))
write-once e m o d r h = touches-once e m o d

-- ---- where the pixels lie

-- where none of the rows is the first that applies, none applies
none-applies : (rows : List Bool) → is_first 0 rows ≡ true → (row : Bool) → Memᴰ row rows → row ≡ false
unfolding is_first
none-applies [] h row i = absurd (Memᴰ.not-nil i)
none-applies (true ∷ rows) h row i = absurd (true≢false (sym h))
none-applies (false ∷ rows) h row i = ⊎_elim (λ e. e) (none-applies rows h row) (Memᴰ.cases_cons i)

no_other : (a b : Bool) → (not a || b) ≡ false → a ≡ true
no_other true b h = refl
no_other false b h = sym h

module _ (e : Engine) (m : List ℕ) (o d : ℕ) (r : Regs) (h : order e o d ≡ some r) (z : number_of (written e m o d).answer ≡ 0) where
  -- no covered pixel is off the target
  pub covered-on : all_on (target r) (length m) (covered_by r) ≡ true
  covered-on =
      no_other _ _
      (none-applies (table_at (place_of o) (some r) e (length m) o)
      (subst (λ (k : Option Regs). is_first 0 (table_at (place_of o) k e (length m) o) ≡ true) h (sym (by-the-table.taken e m o d) ∙ eq-eqb _ 0 z)) _
      (Memᴰ.tail (Memᴰ.tail (Memᴰ.tail (Memᴰ.tail (Memᴰ.tail (Memᴰ.tail (Memᴰ.head refl))))))))

  painting : Painting r (touches_of e m o d) m (written e m o d)
  painting = subst (λ (k : Option Regs). PaintingOf k (touches_of e m o d) m (written e m o d)) h ((write-written e m o d).paints z)

  pub write-columns : (p : Px) → Memᴰ p (map (λ t. t.at) (touches_of e m o d)) → p.x < row_pixels (target r)
  write-columns p i = on-column (target r) (length m) p.x p.y (all-each (target r) (length m) (covered_by r) covered-on p (painting.touched p i).0)

  pub write-colour : (p : Px) → Memᴰ p (map (λ t. t.at) (touches_of e m o d)) → 0 < (target r).bytes
  write-colour p i = (painting.touched p i).1

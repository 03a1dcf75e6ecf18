-- The pixels that a command writes lie in its rectangle, none twice; they are those that painting writes, and the memory after it names the same ones.
-- Assumes nothing.
use mathlib.Core.Path.{◌≡◌, refl, sym, ap, ◌∙◌}
use mathlib.Core.Bool.{Bool, true, false, not, false≢true}
use mathlib.Core.List.{List, []}
use Prim.Native.Nat.{ℕ, ◌^◌, ◌≤◌}
use native.Mathlib.Omega.{arith}
use lib.ListN.{length}
use Rattle.surface.specs.Pixels.{Px}
use Rattle.surface.specs.Asked.{Colour}
use Rattle.surface.proofs.Rects.{in-rect, rect-distinct}
use Rattle.spans.specs.Span.{all_on}
use Rattle.spans.proofs.Corner.{all-each, any-corner}
use Rattle.paint.specs.Paint.{Touch, state, paint, wrote}
use Rattle.line.specs.Line.{points}
use Rattle.line.specs.Draw.{covered_points}
use Rattle.host.specs.Host.{by_run}
use Rattle.host.specs.Asked.{WaitsFor}
use Rattle.registers.specs.declared.Regs.{Regs}
use Rattle.bank.specs.declared.Bank.{Bank}
use Rattle.sweep.specs.Asked.{Orderly}
use Rattle.scale.specs.Stretch.{pixel_task}
use Rattle.cuts.specs.declared.Cut.{Cut}
use Rattle.cuts.specs.Cut.{bit, number, clip_of, fill_cut, copy_cut, covered, covered_from, copy_order}
use Rattle.command.specs.Decode.{target, ink_of, fill_task, copy_task, stretch_of, line_of, pen_of, feed_of}
use Rattle.table.specs.Table.{fill_verdict, copy_verdict, stretch_verdict, host_verdict, line_verdict}
use Rattle.table.proofs.Verdicts.{fill-can, copy-can, copy-orderly, line-can, host-can, words-few}
use Rattle.table.proofs.Stretches.{stretch-can}
use Rattle.pages.proofs.ExtentLaws.{Lies}
use Rattle.sift.specs.Sift.{chosen, left_at}
use Rattle.sift.proofs.SiftLaws.{chosen-in}
use Rattle.sift.proofs.Written.{chosen-distinct, chosen-same}
use Rattle.sift.proofs.Painted.{task-wrote, task-kept, stretch-wrote, stretch-kept}
use Rattle.dots.specs.Dots.{dotted, line_box}
use Rattle.dots.proofs.DotLaws.{dotted-wrote, dotted-covered, dotted-distinct}
use Rattle.dots.proofs.BoxLaws as dots
use Rattle.drips.specs.Drips.{dripped, data_box}
use Rattle.drips.proofs.Drops.{dripped-wrote}
use Rattle.drips.proofs.Falls.{dripped-distinct, dripped-on}
use Rattle.drips.proofs.Boxes as drips
use Rattle.acts.specs.declared.Blit.{Blit}
use Rattle.acts.specs.Deed.{touched_by_fill, touched_by_copy, touched_by_stretch, touched_by_line}
use Rattle.acts.specs.Fed.{touched_by_words}
use Rattle.acts.proofs.Cases.{pick, by_tests}
use Rattle.trail.specs.Trail.{touched_by, wet_by, verdict_by, no_cut, box_by}
use Rattle.trail.specs.Asked.{Goes, Went}

-- the words of a host blit that goes on
pub goes-waits : (r : Regs) (taken n len : ℕ) → number r ≡ 3 → host_verdict r len ≡ 0 → Goes r taken n len → WaitsFor (ink_of r) (clip_of r) (feed_of r) len taken n
goes-waits r taken n len host fine g = record {
  opened = host-can r len fine (omega (arith, g.some host, g.all host));
  few = omega (arith, g.all host, words-few r);
  short = g.short;
}

-- ---- pixels of a cut that pass a test
module _ (r : Regs) (len : ℕ) (limit : len ≤ 2 ^ 24) where
  cut-lies : (l u : Bool) (c : Cut) (f : Px → Bool) (count : ℕ) → Colour (target r) → all_on (target r) len (covered c) ≡ true → length (chosen f (covered_from l u c)) ≡ count
      → Lies (target r) c.x c.y c.w c.h count (chosen f (covered_from l u c))
  cut-lies l u c f count colour on many = record {
    colour = colour;
    inside = λ p i. in-rect l u c.x c.y c.w c.h p (chosen-in f (covered_from l u c) p i);
    len = len;
    limit = limit;
    on = λ p i. all-each (target r) len (covered_from l u c) (any-corner (target r) len l u c.x c.y c.w c.h ∙ on) p (chosen-in f (covered_from l u c) p i);
    once = chosen-distinct f (covered_from l u c) (rect-distinct l u c.x c.y c.w c.h);
    many = many;
  }

-- ---- by a command's number
module _ (b : Bank) (k : Blit) (ws m : List ℕ) where
  abbrev r : Regs
  r = b.regs

  abbrev Held : ℕ → Cut → List Px → Type 0
  Held count c ps = Lies (target r) c.x c.y c.w c.h count ps

  host-lies : (count : ℕ) → Goes r k.taken (length ws) (length m) → number r ≡ 3 → host_verdict r (length m) ≡ 0 → length (dripped (ink_of r) (clip_of r) (feed_of r) (by_run (feed_of r) k.last ws k.taken)) ≡ count
      → Held count (data_box (feed_of r) (fill_cut r) k.taken (length ws)) (dripped (ink_of r) (clip_of r) (feed_of r) (by_run (feed_of r) k.last ws k.taken))
  unfolding ink_of feed_of fill_cut
  host-lies count g n v e =
      let opened = (goes-waits r k.taken (length ws) (length m) n v g).opened in
      record {
        colour = opened.colour;
        inside = drips.box-holds (ink_of r) (clip_of r) (feed_of r) opened.rows (fill_cut r) (drips.touched-cut (clip_of r) (feed_of r)) ws k.last k.taken;
        len = length m;
        limit = g.limit;
        on = λ p i. (dripped-on (ink_of r) (clip_of r) (feed_of r) opened ws k.last k.taken p i).on;
        once = dripped-distinct (ink_of r) (clip_of r) (feed_of r) opened.rows ws k.last k.taken;
        many = e;
      }

  line-lies : (count : ℕ) → length m ≤ 2 ^ 24 → line_verdict r (length m) ≡ 0 → length (dotted (ink_of r) (clip_of r) (pen_of r) r.line_style (points (line_of r))) ≡ count
      → Held count (line_box (line_of r) (clip_of r)) (dotted (ink_of r) (clip_of r) (pen_of r) r.line_style (points (line_of r)))
  unfolding ink_of
  line-lies count limit v e =
      let can = line-can r (length m) v in
      let on_line = dotted-covered (ink_of r) (clip_of r) (pen_of r) r.line_style (points (line_of r)) in
      record {
        colour = can.surface;
        inside = λ p i. dots.box-holds (line_of r) (clip_of r) p (on_line p i);
        len = length m;
        limit = limit;
        on = λ p i. all-each (target r) (length m) (covered_points (clip_of r) (points (line_of r))) can.on p (on_line p i);
        once = dotted-distinct (ink_of r) (clip_of r) (pen_of r) r.line_style (line_of r);
        many = e;
      }

  pub lies : (count : ℕ) → Went b k ws m count → Held count (box_by r k.taken (length ws)) (wet_by b k ws m)
  unfolding wet_by box_by verdict_by copy_task fill_task stretch_of ink_of
  lies count w =
      by_tests
      (λ t0 t1 t2 t3 t5 t6.
      pick t0 t1 t2 t3 t5 t6 0 (copy_verdict r (length m)) (stretch_verdict r (length m)) (host_verdict r (length m)) (fill_verdict r (length m)) (line_verdict r (length m)) 4 ≡ 0
      → length (pick t0 t1 t2 t3 t5 t6 [] (chosen (λ p. not (left_at (copy_task r) b.pattern m p)) (copy_order r))
      (chosen (λ p. not (left_at (pixel_task (stretch_of r) p) b.pattern m p)) (covered (fill_cut r)))
      (dripped (ink_of r) (clip_of r) (feed_of r) (by_run (feed_of r) k.last ws k.taken))
      (chosen (λ p. not (left_at (fill_task r) b.pattern m p)) (covered (fill_cut r)))
      (dotted (ink_of r) (clip_of r) (pen_of r) r.line_style (points (line_of r))) []) ≡ count
      → Held count
      (pick t0 t1 t2 t3 t5 t6 no_cut (copy_cut r) (fill_cut r) (data_box (feed_of r) (fill_cut r) k.taken (length ws)) (fill_cut r) (line_box (line_of r) (clip_of r)) no_cut)
      (pick t0 t1 t2 t3 t5 t6 [] (chosen (λ p. not (left_at (copy_task r) b.pattern m p)) (copy_order r))
      (chosen (λ p. not (left_at (pixel_task (stretch_of r) p) b.pattern m p)) (covered (fill_cut r)))
      (dripped (ink_of r) (clip_of r) (feed_of r) (by_run (feed_of r) k.last ws k.taken))
      (chosen (λ p. not (left_at (fill_task r) b.pattern m p)) (covered (fill_cut r)))
      (dotted (ink_of r) (clip_of r) (pen_of r) r.line_style (points (line_of r))) []))
      (number r)
      (λ n v e. absurd (omega (arith, w.some)))
      (λ n v e. let can = copy-can r (length m) v in cut-lies r (length m) w.goes.limit (bit r.command 14) (bit r.command 15) (copy_cut r) _ count can.colour can.target e)
      (λ n v e. let can = stretch-can r (length m) v in cut-lies r (length m) w.goes.limit false false (fill_cut r) _ count can.colour can.target e)
      (host-lies count w.goes)
      (λ n v e. let can = fill-can r (length m) v in cut-lies r (length m) w.goes.limit false false (fill_cut r) _ count can.colour can.target e)
      (λ low high. line-lies count w.goes.limit)
      (λ u v e. absurd (omega (arith, w.some)))
      w.goes.fine w.many

  -- ---- they are the pixels that painting writes, and the memory after it names the same ones
  abbrev after : List Touch → List ℕ
  after ts = (paint (target r) ts (state m 0 0)).mem

  copy-wet : copy_verdict r (length m) ≡ 0 → (ts : List Touch) → ts ≡ touched_by_copy b
      → wrote (target r) ts m ≡ chosen (λ p. not (left_at (copy_task r) b.pattern (after ts) p)) (copy_order r)
  unfolding copy_task ink_of
  copy-wet v ts e =
      let c = copy_cut r in
      let can = copy-can r (length m) v in
      let orderly : (copy_task r).copies ≡ true → Orderly (copy_task r) c.w c.h = (λ _. copy-orderly r (length m) v) in
      let l = bit r.command 14 in
      let u = bit r.command 15 in
      rw e
      (task-wrote (copy_task r) c.w c.h (length m) can orderly l u b.pattern m
      ∙ chosen-same (λ p. not (left_at (copy_task r) b.pattern m p)) (λ p. not (left_at (copy_task r) b.pattern (after (touched_by_copy b)) p)) (copy_order r) (λ p i.
      ap not (sym (task-kept (copy_task r) c.w c.h (length m) can orderly l u b.pattern m p (in-rect l u c.x c.y c.w c.h p i)))))

  fill-wet : fill_verdict r (length m) ≡ 0 → (ts : List Touch) → ts ≡ touched_by_fill b
      → wrote (target r) ts m ≡ chosen (λ p. not (left_at (fill_task r) b.pattern (after ts) p)) (covered (fill_cut r))
  unfolding fill_task ink_of
  fill-wet v ts e =
      let c = fill_cut r in
      let can = fill-can r (length m) v in
      let orderly : (fill_task r).copies ≡ true → Orderly (fill_task r) c.w c.h = (λ copies. absurd (false≢true copies)) in
      rw e
      (task-wrote (fill_task r) c.w c.h (length m) can orderly false false b.pattern m
      ∙ chosen-same (λ p. not (left_at (fill_task r) b.pattern m p)) (λ p. not (left_at (fill_task r) b.pattern (after (touched_by_fill b)) p)) (covered c) (λ p i.
      ap not (sym (task-kept (fill_task r) c.w c.h (length m) can orderly false false b.pattern m p (in-rect false false c.x c.y c.w c.h p i)))))

  stretch-wet : stretch_verdict r (length m) ≡ 0 → (ts : List Touch) → ts ≡ touched_by_stretch b m
      → wrote (target r) ts m ≡ chosen (λ p. not (left_at (pixel_task (stretch_of r) p) b.pattern (after ts) p)) (covered (fill_cut r))
  unfolding stretch_of ink_of
  stretch-wet v ts e =
      let can = stretch-can r (length m) v in
      rw e
      (stretch-wrote can b.pattern m
      ∙ chosen-same (λ p. not (left_at (pixel_task (stretch_of r) p) b.pattern m p)) (λ p. not (left_at (pixel_task (stretch_of r) p) b.pattern (after (touched_by_stretch b m)) p)) (covered (fill_cut r))
      (λ p i. ap not (sym (stretch-kept can b.pattern m p i))))

  pub wrote-wet : Goes r k.taken (length ws) (length m) → wrote (target r) (touched_by b k ws m) m ≡ wet_by b k ws (after (touched_by b k ws m))
  unfolding touched_by wet_by verdict_by wrote
  wrote-wet g =
      by_tests
      (λ t0 t1 t2 t3 t5 t6.
      pick t0 t1 t2 t3 t5 t6 0 (copy_verdict r (length m)) (stretch_verdict r (length m)) (host_verdict r (length m)) (fill_verdict r (length m)) (line_verdict r (length m)) 4 ≡ 0
      → (ts : List Touch) → ts ≡ pick t0 t1 t2 t3 t5 t6 [] (touched_by_copy b) (touched_by_stretch b m) (touched_by_words b k ws) (touched_by_fill b) (touched_by_line b) []
      → wrote (target r) ts m
      ≡ pick t0 t1 t2 t3 t5 t6 [] (chosen (λ p. not (left_at (copy_task r) b.pattern (after ts) p)) (copy_order r))
      (chosen (λ p. not (left_at (pixel_task (stretch_of r) p) b.pattern (after ts) p)) (covered (fill_cut r)))
      (dripped (ink_of r) (clip_of r) (feed_of r) (by_run (feed_of r) k.last ws k.taken))
      (chosen (λ p. not (left_at (fill_task r) b.pattern (after ts) p)) (covered (fill_cut r)))
      (dotted (ink_of r) (clip_of r) (pen_of r) r.line_style (points (line_of r))) [])
      (number r)
      (λ n v ts e. ap (λ (ts : List Touch). wrote (target r) ts m) e)
      (λ n v ts e. copy-wet v ts e)
      (λ n v ts e. stretch-wet v ts e)
      (λ n v ts e. ap (λ (ts : List Touch). wrote (target r) ts m) e ∙ dripped-wrote (target r) (ink_of r) b.pattern (clip_of r) (feed_of r) (by_run (feed_of r) k.last ws k.taken) m)
      (λ n v ts e. fill-wet v ts e)
      (λ low high v ts e. ap (λ (ts : List Touch). wrote (target r) ts m) e ∙ dotted-wrote (target r) (ink_of r) b.pattern (clip_of r) (pen_of r) r.line_style (points (line_of r)) m)
      (λ u v ts e. ap (λ (ts : List Touch). wrote (target r) ts m) e)
      g.fine (touched_by b k ws m) refl

-- Copies, stretches and fills that the table takes, pixel by pixel: their sources can be read, and the pixels chosen are those that the command writes.
-- Assumes nothing.
use mathlib.Core.Path.{◌≡◌, refl, sym, ap, subst, ◌∙◌}
use mathlib.Core.Bool.{Bool, true, false, not, false≢true}
use mathlib.Core.List.{List, []}
use Prim.Native.Nat.{ℕ, ◌+◌, ◌-◌, ◌*◌, ◌^◌, ◌<◌, ◌≤◌}
use native.Mathlib.Nat.{mul_comm}
use native.Mathlib.Decide.{ℕ_discrete}
use native.Mathlib.Omega.{arith}
use lib.ListN.{length}
use Rattle.surface.specs.Pixels.{Px, px, origin}
use Rattle.surface.specs.Place.{on_surface}
use Rattle.surface.proofs.Lists.{In, by_cases}
use Rattle.surface.proofs.Rects.{same-px, in-rect, rect-in, rect-length}
use Rattle.registers.specs.declared.Regs.{Regs}
use Rattle.bank.specs.declared.Bank.{Bank}
use Rattle.sweep.specs.declared.Task.{Task}
use Rattle.sweep.specs.Asked.{CanPaint}
use Rattle.sweep.proofs.TaskLaws.{can-pixel}
use Rattle.scale.specs.declared.Scale.{Scale}
use Rattle.scale.specs.Stretch.{taken_at, taken, pixel_task}
use Rattle.scale.specs.Asked.{OnScale}
use Rattle.scale.proofs.ScaleLaws.{scaled_small}
use Rattle.cuts.specs.declared.Cut.{Cut}
use Rattle.cuts.specs.Cut.{bit, number, fill_cut, copy_cut, covered, covered_from}
use Rattle.command.specs.Decode.{target, ink_of, fill_task, copy_task, stretch_of}
use Rattle.table.specs.Table.{fill_verdict, copy_verdict, stretch_verdict}
use Rattle.table.proofs.Verdicts.{fill-can, copy-can}
use Rattle.table.proofs.Stretches.{stretch-can}
use Rattle.pages.specs.Pages.{marking}
use Rattle.pages.proofs.MarkLaws.{marking-same}
use Rattle.sift.specs.declared.Sieve.{Sieve}
use Rattle.sift.specs.Sift.{chosen, task_at, left_at, wet}
use Rattle.sift.specs.Asked.{Siftable}
use Rattle.sift.proofs.SiftLaws.{chosen-in}
use Rattle.sift.proofs.Written.{chosen-all, chosen-has, chosen-true, chosen-every}
use Rattle.acts.specs.declared.Blit.{Blit}
use Rattle.trail.specs.Trail.{wet_by, verdict_by, no_scale, sieve_of}
use Rattle.trail.specs.Asked.{Went}

-- ---- the work of each command
abbrev pub plainly : Task → Sieve
plainly t = record { task = t; stretched = false; columns = no_scale; rows = no_scale }

module _ (r : Regs) where
  abbrev pub stretching : Sieve
  stretching = record {
    task = record { ink = ink_of r; copies = true; from = (stretch_of r).from; sx = 0; sy = 0; x = 0; y = 0 };
    stretched = true;
    columns = (stretch_of r).columns;
    rows = (stretch_of r).rows;
  }

  pub sieve-copy : number r ≡ 1 → sieve_of r ≡ plainly (copy_task r)
  unfolding sieve_of
  sieve-copy n = rw n

  pub sieve-stretch : number r ≡ 2 → sieve_of r ≡ stretching
  unfolding sieve_of
  sieve-stretch n = rw n

  pub sieve-fill : number r ≡ 5 → sieve_of r ≡ plainly (fill_task r)
  unfolding sieve_of
  sieve-fill n = rw n

-- ---- their sources can be read
task-sifts : (t : Task) (c : Cut) (len : ℕ) → len ≤ 2 ^ 24 → t.x ≡ c.x → t.y ≡ c.y → CanPaint t c.w c.h len → Siftable (plainly t) c.x c.y c.w c.h len
unfolding task_at
task-sifts t c len limit ex ey can = rw (← ex, ← ey) (record {
  colour = can.colour;
  wide = can.wide;
  high = can.high;
  limit = limit;
  on = can.target;
  each = λ p i. record { scales = λ stretched. absurd (false≢true stretched); source = (can-pixel can p.x p.y i).1 };
})

-- a place between two of a scale is one of it
scale-between : (s : Scale) (a b place : ℕ) → OnScale s a → OnScale s b → a ≤ place → place ≤ b → OnScale s place
scale-between s a b place first last low high = record {
  first = omega (arith, first.first);
  past = omega (arith, last.past);
  some = first.some;
  size = first.size;
  source_size = first.source_size;
  from = first.from;
}

module _ (r : Regs) (len : ℕ) (limit : len ≤ 2 ^ 24) where
  pub copy-sifts : copy_verdict r len ≡ 0 → Siftable (plainly (copy_task r)) (copy_cut r).x (copy_cut r).y (copy_cut r).w (copy_cut r).h len
  unfolding copy_task
  copy-sifts v = task-sifts (copy_task r) (copy_cut r) len limit refl refl (copy-can r len v)

  pub fill-sifts : fill_verdict r len ≡ 0 → Siftable (plainly (fill_task r)) (fill_cut r).x (fill_cut r).y (fill_cut r).w (fill_cut r).h len
  unfolding fill_task
  fill-sifts v = task-sifts (fill_task r) (fill_cut r) len limit refl refl (fill-can r len v)

  pub stretch-sifts : stretch_verdict r len ≡ 0 → Siftable (stretching r) (fill_cut r).x (fill_cut r).y (fill_cut r).w (fill_cut r).h len
  unfolding task_at pixel_task taken_at stretch_of
  stretch-sifts v =
      let can = stretch-can r len v in
      let c = fill_cut r in
      record {
        colour = can.colour;
        wide = can.wide;
        high = can.high;
        limit = limit;
        on = can.target;
        each = λ p i.
            let columns = can.columns (omega arith) (omega arith) in
            let rows = can.rows (omega arith) (omega arith) in
            let column = scale-between (stretch_of r).columns (origin + c.x) (origin + (c.x + c.w)) (origin + p.x) columns.0 columns.1 (omega (arith, i.left)) (omega (arith, i.right)) in
            let row = scale-between (stretch_of r).rows (origin + c.y) (origin + (c.y + c.h)) (origin + p.y) rows.0 rows.1 (omega (arith, i.top)) (omega (arith, i.bottom)) in
            let source = can.source p i in
            record {
              scales = λ _. record { column = column; row = row; right = source.0; below = source.1 };
              source = record {
                small = can.small;
                left = omega arith;
                top = omega arith;
                column = omega (arith, scaled_small (stretch_of r).columns (origin + p.x) column);
                row = omega (arith, scaled_small (stretch_of r).rows (origin + p.y) row);
                on = λ _. subst (λ (q : Px). on-source q) (same_place p) source.2;
              };
            };
      }
    where
      on-source : Px → Type 0
      on-source q = on_surface (stretch_of r).from len q.x q.y ≡ true

      same_place : (p : Px) → taken (stretch_of r) p ≡ px ((taken (stretch_of r) p).x + (p.x - p.x)) ((taken (stretch_of r) p).y + (p.y - p.y))
      same_place p =
          same-px (taken (stretch_of r) p) (px ((taken (stretch_of r) p).x + (p.x - p.x)) ((taken (stretch_of r) p).y + (p.y - p.y))) (omega arith) (omega arith)

-- ---- what is chosen so is what the command writes
module _ (b : Bank) (k : Blit) (ws m : List ℕ) where
  abbrev r : Regs
  r = b.regs

  abbrev picks : Px → Bool
  picks = wet (sieve_of r) b.pattern m

  -- the pixels of a cut, one by one
  pub record Sifts (c : Cut) (count : ℕ) : Type 0 where
    pub can : Siftable (sieve_of r) c.x c.y c.w c.h (length m)
    pub full : count ≡ c.w * c.h → chosen picks (covered c) ≡ covered c
    pub to : (sieve_of r).task.ink.target ≡ target r
    pub same : (marks : List Bool) → marking (target r) (chosen picks (covered c)) marks ≡ marking (target r) (wet_by b k ws m) marks

  -- in whatever order
  any-corner : (v : Sieve) (c : Cut) (l u : Bool) (f : Px → Bool) (count : ℕ) → sieve_of r ≡ v → ((p : Px) → wet v b.pattern m p ≡ f p) → v.task.ink.target ≡ target r
      → Siftable v c.x c.y c.w c.h (length m) → wet_by b k ws m ≡ chosen f (covered_from l u c) → length (wet_by b k ws m) ≡ count → Sifts c count
  any-corner v c l u f count e test to can wets many =
      let here : (p : Px) → In p (covered_from l u c) → In p (covered c) = (λ p i. rect-in false false c.x c.y c.w c.h p (in-rect l u c.x c.y c.w c.h p i)) in
      let there : (p : Px) → In p (covered c) → In p (covered_from l u c) = (λ p i. rect-in l u c.x c.y c.w c.h p (in-rect false false c.x c.y c.w c.h p i)) in
      let picked : (p : Px) → picks p ≡ f p = (λ p. ap (λ (v : Sieve). wet v b.pattern m p) e ∙ test p) in
      record {
        can = subst (λ (v : Sieve). Siftable v c.x c.y c.w c.h (length m)) (sym e) can;
        full = λ all.
            let every : chosen f (covered_from l u c) ≡ covered_from l u c =
            chosen-all f (covered_from l u c) (ap length (sym wets) ∙ many ∙ all ∙ mul_comm c.w c.h ∙ sym (rect-length l u c.x c.y c.w c.h)) in
            chosen-every picks (covered c) (λ p i. picked p ∙ chosen-true f (covered_from l u c) p (subst (In p) (sym every) (there p i)));
        to = ap (λ (v : Sieve). v.task.ink.target) e ∙ to;
        same = λ marks.
            marking-same (target r) (chosen picks (covered c)) (chosen f (covered_from l u c)) marks
            (λ p i. chosen-has f (covered_from l u c) p (there p (chosen-in picks (covered c) p i)) (sym (picked p) ∙ chosen-true picks (covered c) p i))
            (λ p i. chosen-has picks (covered c) p (here p (chosen-in f (covered_from l u c) p i)) (picked p ∙ chosen-true f (covered_from l u c) p i))
            ∙ ap (λ (ps : List Px). marking (target r) ps marks) (sym wets);
      }

  module _ (count : ℕ) (w : Went b k ws m count) where
    pub copy-one : number r ≡ 1 → Sifts (copy_cut r) count
    unfolding wet_by verdict_by task_at copy_task ink_of
    copy-one n =
        any-corner (plainly (copy_task r)) (copy_cut r) (bit r.command 14) (bit r.command 15) (λ p. not (left_at (copy_task r) b.pattern m p)) count (sieve-copy r n) (λ p. refl) refl
        (copy-sifts r (length m) w.goes.limit (rw n at w.goes.fine)) (rw n) w.many

    fill_one : number r ≡ 5 → Sifts (fill_cut r) count
    unfolding wet_by verdict_by task_at fill_task ink_of
    fill_one n =
        any-corner (plainly (fill_task r)) (fill_cut r) false false (λ p. not (left_at (fill_task r) b.pattern m p)) count (sieve-fill r n) (λ p. refl) refl
        (fill-sifts r (length m) w.goes.limit (rw n at w.goes.fine)) (rw n) w.many

    stretch-one : number r ≡ 2 → Sifts (fill_cut r) count
    unfolding wet_by verdict_by task_at stretch_of ink_of
    stretch-one n =
        any-corner (stretching r) (fill_cut r) false false (λ p. not (left_at (pixel_task (stretch_of r) p) b.pattern m p)) count (sieve-stretch r n) (λ p. refl) refl
        (stretch-sifts r (length m) w.goes.limit (rw n at w.goes.fine)) (rw n) w.many

    -- any number that is none of copy, host blit and lines: nop and what is not built write nothing
    no-pixels : wet_by b k ws m ≡ [] → Sifts (fill_cut r) count
    no-pixels e = absurd (omega (arith, w.some, w.many, ap length e))

    pub other-one : (number r ≡ 1 → ⊥) → (number r ≡ 3 → ⊥) → number r < 6 → Sifts (fill_cut r) count
    unfolding wet_by
    other-one not1 not3 low =
        by_cases (ℕ_discrete (number r) 5) fill_one
        (λ not5. by_cases (ℕ_discrete (number r) 2) stretch-one
        (λ not2. by_cases (ℕ_discrete (number r) 0) (λ n. no-pixels (rw n))
        (λ not0. let n : number r ≡ 4 = omega arith in no-pixels (rw n))))

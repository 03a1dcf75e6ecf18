-- `blocks::move_lines` meets its contract: the lines so far have come, and where they follow on they are one run.
-- Assumes nothing.
use mathlib.Core.Path.{◌≡◌, sym, ap, subst, ◌∙◌}
use mathlib.Core.Bool.{true, ◌&&◌}
use Prim.Native.Nat.{ℕ, ◌+◌, ◌*◌, ◌<◌}
use native.Mathlib.Omega.{arith}
use borrow.Author.Tests.{eqb-true}
use lib.Dec.{eqb}
use Rattle.surface.proofs.OnLaws.{and_left, and_right}
use Rattle.runs.specs.Asked.{Run, Up}
use Rattle.blocks.specs.Blocks.{Laid}
use Rattle.blocks.specs.Asked.{Lines}
use Rattle.blocks.proofs.Laying.{line_of, laid-run, laid_next}
use Rattle.blocks.proofs.move_lines.Goals as goal

-- ---- one run
one-run : (n p r : ℕ) → (eqb n p && eqb n r) ≡ true → (p ≡ n) × (r ≡ n)
one-run n p r e = (sym (eqb-true n p (and_left (eqb n p) (eqb n r) e)), sym (eqb-true n r (and_right (eqb n p) (eqb n r) e)))

all_lines : {d p s r n h len : ℕ} → p ≡ n → r ≡ n → Lines d p s r n h len → Lines d n s n n h len
all_lines {d} {p} {s} {r} {n} {h} {len} e f lines = subst (λ (k : ℕ). Lines d k s n n h len) e (subst (λ (k : ℕ). Lines d p s k n h len) f lines)

run_of : {d s n h len : ℕ} → Lines d n s n n h len → Run d s (h * n) len × Up d s (h * n)
run_of {d} {s} {n} {h} {len} lines = (
  record {
    to = λ j l. let k = line_of n h j l in subst (λ (i : ℕ). d + i < len) k.2 (lines.to _ _ k.0 k.1);
    from = λ j l. let k = line_of n h j l in subst (λ (i : ℕ). s + i < len) k.2 (lines.from _ _ k.0 k.1);
  },
  record {
    unread = λ i j l u e.
        let a = line_of n h i u in
        let b = line_of n h j (omega arith) in
        lines.apart _ _ _ _ b.0 b.1 a.0 a.1 (ap (λ (k : ℕ). d + k) b.2 ∙ e ∙ ap (λ (k : ℕ). s + k) (sym a.2));
  },
)

pub run_up-requires : goal.run_up-requires
run_up-requires c =
    let a = c.args in
    let e = one-run a.n a.p a.r c.if-n-p.true in
    run_of (all_lines e.0 e.1 c.requires)

pub returns-then-n-p : goal.returns-then-n-p
returns-then-n-p c =
    let a = c.args in
    let e = one-run a.n a.p a.r c.if-n-p.true in
    rw (e.0, e.1) (laid-run a.d a.s a.n a.h c.run_up.ensures)

-- ---- line by line
line-run : {d p s r n h len : ℕ} → Lines d p s r n h len → (q : ℕ) → q < h → Run (d + q * p) (s + q * r) n len × Up (d + q * p) (s + q * r) n
line-run lines q lq = (
  record { to = λ i l. omega (arith, lines.to q i lq l); from = λ i l. omega (arith, lines.from q i lq l) },
  record { unread = λ i j l u e. lines.apart q j q i lq (omega arith) lq u (omega arith) },
)

pub run_up-requires-in-loop-q : goal.run_up-requires-in-loop-q
run_up-requires-in-loop-q c =
    let k = c.loop-q in
    rw k.invariant.long (line-run c.requires k.q c.loop-q-test.true)

pub loop-q-preserved : goal.loop-q-preserved
loop-q-preserved c =
    let k = c.loop-q in
    let taken = c.loop-q-test.true in
    laid_next c.requires k.q taken k.invariant c.run_up-in-loop-q.ensures

pub returns : goal.returns
returns c =
    let a = c.args in
    let k = c.loop-q in
    let end : k.q ≡ a.h = omega (arith, c.loop-q-test.false) in
    subst (λ (q : ℕ). Laid a.d a.p a.s a.r a.n q a.mem.now k.mem) end k.invariant

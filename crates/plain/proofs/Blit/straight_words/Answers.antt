-- `plain::Blit::straight_words` meets its contract: each test leaves a field of what it says.
-- Assumes nothing.
use native.Mathlib.Omega.{arith}
use native.Mathlib.Nat.{mul_comm, div-le_of_le-mul}
use borrow.Author.Tests.{eqb-true, eqb-false, leb-false, not-false}
use lib.Dec.{eqb, leb}
use mathlib.Core.Path.{◌≡◌, sym, ◌∙◌}
use mathlib.Core.Bool.{false}
use Prim.Native.Nat.{ℕ, ◌+◌, ◌-◌, ◌*◌, ◌/◌, ◌%◌, ◌^◌, ◌<◌, ◌≤◌}
use Rattle.surface.proofs.Bytes.{product_lt}
use Rattle.surface.proofs.OnLaws.{pos-of-ne}
use Rattle.host.specs.declared.Feed.{Feed}
use Rattle.host.specs.Asked.{Rows}
use Rattle.plain.proofs.Straight.{neither, pixels-some}
use Rattle.plain.proofs.Blit.straight_words.Goals as goal
use Rattle.plain.proofs.Blit.straight_words.Goals.{Else-bytes-self, Else-column-bytes, Else-w-eq0}

-- what the first test leaves
like : (c : Else-bytes-self) → let a = c.args in (0 < a.self.feed.bytes) × ((a.self.feed.bytes ≡ a.self.plain.target.bytes) × (a.self.plain.target.tiled ≡ false))
like c =
    let a = c.args in
    let o = neither _ a.self.plain.target.tiled c.if-bytes-self.false in
    let e = neither (eqb a.self.feed.bytes 0) _ o.0 in
    (pos-of-ne (eqb-false _ _ e.0), (eqb-true _ _ (not-false _ e.1), o.1))

-- the third
begun : (c : Else-column-bytes) → let a = c.args in (4 * a.k % a.self.feed.step % a.self.feed.bytes ≡ 0) × (4 * a.k % a.self.feed.step / a.self.feed.bytes < a.self.feed.width)
begun c = let o = neither _ _ c.if-column-bytes.false in (eqb-true _ _ (not-false _ o.0), leb-false _ _ o.1)

-- how many bytes are left in the row
most : {f : Feed} → Rows f → (i : ℕ) → (f.width - i) * f.bytes < 2 ^ 16
most r i = product_lt 13 3 (omega (arith, r.sizes.width)) (omega (arith, r.sizes.bytes))

-- what the fourth test leaves
counted : (c : Else-w-eq0) → let a = c.args in let w = c.whole_words-w.result in
    (0 < w) × ((w ≤ a.left) × (4 * a.k % a.self.feed.step / a.self.feed.bytes + 4 * w / a.self.feed.bytes ≤ a.self.feed.width))
counted c =
    let a = c.args in
    let w = c.whole_words-w.result in
    let i = 4 * a.k % a.self.feed.step / a.self.feed.bytes in
    let u = a.self.feed.width - i in
    let h = c.min.ensures in
    let l = c.whole_words-w.ensures.0 in
    let o = neither _ (leb a.self.feed.width i) c.if-column-bytes.false in
    let b : i < a.self.feed.width = leb-false _ _ o.1 in
    let n : 4 * w / a.self.feed.bytes ≤ u = div-le_of_le-mul a.self.feed.bytes (omega (arith, h, l, mul_comm u a.self.feed.bytes)) in
    (omega (arith, c.if-w-eq0.false), (omega (arith, h, l), omega (arith, n, b)))

pub nonzero_div-i : goal.nonzero_div-i
nonzero_div-i c = (like (goal.at.nonzero_div-i c).Else-bytes-self).0

pub nonzero_rem-column-2 : goal.nonzero_rem-column-2
nonzero_rem-column-2 c = (like (goal.at.nonzero_rem-column-2 c).Else-bytes-self).0

pub overflow_sub-self : goal.overflow_sub-self
overflow_sub-self c = omega (arith, begun (goal.at.overflow_sub-self c).Else-column-bytes)

pub overflow_mul-self : goal.overflow_mul-self
overflow_mul-self c = omega (arith, most c.requires.0 (4 * c.args.k % c.args.self.feed.step / c.args.self.feed.bytes))

pub overflow_add-x : goal.overflow_add-x
overflow_add-x c = omega (arith, begun (goal.at.overflow_add-x c).Else-column-bytes, c.requires.0.sizes.width, c.requires.1.1.0)

pub overflow_add-y : goal.overflow_add-y
overflow_add-y c = omega (arith, c.if-self-j.false, c.requires.0.sizes.height, c.requires.1.1.1.0)

pub overflow_mul-w : goal.overflow_mul-w
overflow_mul-w c = omega (arith, most c.requires.0 (4 * c.args.k % c.args.self.feed.step / c.args.self.feed.bytes), c.min.ensures, c.whole_words-w.ensures.0)

pub nonzero_div-w : goal.nonzero_div-w
nonzero_div-w c = (like (goal.at.nonzero_div-w c).Else-bytes-self).0

pub overflow_sub-w : goal.overflow_sub-w
overflow_sub-w c = pixels-some _ _ (like (goal.at.overflow_sub-w c).Else-bytes-self).0 c.requires.0.sizes.bytes (counted (goal.at.overflow_sub-w c).Else-w-eq0).0

pub overflow_add-x-then-covers : goal.overflow_add-x-then-covers
overflow_add-x-then-covers c = omega (arith, counted (goal.at.overflow_add-x-then-covers c).Else-w-eq0, c.requires.0.sizes.width, c.requires.1.1.0)

pub returns-then-covers-2 : goal.returns-then-covers-2
returns-then-covers-2 c =
    let l = like (goal.at.returns-then-covers-2 c).Else-bytes-self in
    let n = counted (goal.at.returns-then-covers-2 c).Else-w-eq0 in
    record {
      some = n.0;
      fits = n.1.0;
      colour = l.0;
      same = l.1.0;
      flat = l.1.1;
      row = c.if-self-j.false;
      begins = (begun (goal.at.returns-then-covers-2 c).Else-column-bytes).0;
      whole = c.whole_words-w.ensures.1;
      past = n.1.1;
      first = sym c.covers.ensures ∙ c.if-covers.true;
      last = sym c.covers-then-covers.ensures ∙ c.if-covers-2.true;
    }

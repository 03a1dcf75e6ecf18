-- `pages::extent_of` meets its contract.
-- Assumes nothing.
use mathlib.Core.Path.{sym}
use native.Mathlib.Omega.{arith}
use Rattle.surface.proofs.Bytes.{product_lt}
use Rattle.pages.proofs.ExtentLaws.{sides, no_sides, extent-box, extent-none, extent-all}
use Rattle.pages.proofs.extent_of.Goals as goal

pub returns-then-count-eq0 : goal.returns-then-count-eq0
returns-then-count-eq0 c = let a = c.args in sym (extent-none a.s a.x a.y a.w a.h a.count c.if-count-eq0.true)

pub last_page-last-requires : goal.last_page-last-requires
last_page-last-requires c =
    let a = c.args in
    let some = sides a.w a.h c.if-w-h.true in
    (c.requires, some.0, some.1)

pub overflow_mul-result : goal.overflow_mul-result
overflow_mul-result c =
    record { fits = omega (arith, product_lt 14 14 {a = c.args.w} {b = c.args.h} (omega (arith, c.requires.wide)) (omega (arith, c.requires.high))) }

pub returns-then-last-lt4096 : goal.returns-then-last-lt4096
returns-then-last-lt4096 c =
    let a = c.args in
    let some = sides a.w a.h c.if-w-h.true in
    let last = c.last_page-last in
    rw (
      extent-box a.s a.x a.y a.w a.h a.count
          (record { some = omega (arith, c.if-count-eq0.false); wide = some.0; high = some.1; fits = omega (arith, last.ensures, c.if-last-lt4096.true) }),
      c.first_page-first.ensures,
      last.ensures,
      c.band.ensures.0,
    )

pub returns-else-last-lt4096 : goal.returns-else-last-lt4096
returns-else-last-lt4096 c =
    let a = c.args in
    sym (extent-all a.s a.x a.y a.w a.h a.count c.if-count-eq0.false (λ b. omega (arith, b.fits, c.last_page-last.ensures, c.if-last-lt4096.false)))

pub returns-else-w-h : goal.returns-else-w-h
returns-else-w-h c =
    let a = c.args in
    sym (extent-all a.s a.x a.y a.w a.h a.count c.if-count-eq0.false (λ b. no_sides a.w a.h c.if-w-h.false b.wide b.high))

-- `wash::wash_rows` meets its contract: the masks are sound and are the fill's; on tiles the bytes are what their masks make of them, and the count is
-- what the masks count.
-- Assumes nothing.
use mathlib.Core.Path.{◌≡◌, refl, subst⁻¹, ◌∙◌}
use mathlib.Core.List.{List}
use Prim.Native.Nat.{ℕ, ◌%◌, ◌<◌, ◌≤◌}
use native.Mathlib.Omega.{arith}
use borrow.Author.Rules.{rules}
use borrow.Author.Tests.{not-true, not-false}
use Rattle.ink.specs.declared.Ink.{Ink}
use Rattle.ink.proofs.PatternLaws.{zeros}
use Rattle.paint.specs.Paint.{state}
use Rattle.tint.specs.Masking.{Tables, tables, MasksOf, mask_rows}
use Rattle.tint.specs.Asked.{RowsSound}
use Rattle.tint.proofs.FillLaws.{rows_fit, row-sound, rect-fills}
use Rattle.wash.proofs.Settling.{washed-whole}
use Rattle.wash.proofs.wash_rows.Goals as goal

-- the masks' rows: at most eight, and as many as the rows of pixels want
fit : {h rows : ℕ} → rows ≡ mask_rows h → (rows ≤ 8) × ((j : ℕ) → j < h → j % 8 < rows)
fit {h} e = subst⁻¹ (λ (r : ℕ). (r ≤ 8) × ((j : ℕ) → j < h → j % 8 < r)) e (rows_fit h)

pub masks_at-requires : goal.masks_at-requires
masks_at-requires c =
    let p = c.requires.0 in
    (p.colour, omega (arith, p.wide), omega (arith, p.high), (fit c.mask_rows-rows.ensures).0, record { keeps = refl; flips = refl; counts = refl })

-- ---- the masks are bytes, and sound
module _ {ink : Ink} {pattern : List ℕ} {x y h rows : ℕ} {t m : Tables} (masks : MasksOf ink pattern x y rows t m) where
  sound : rows ≡ mask_rows h → RowsSound ink.target m.keep m.flip m.adds h
  sound e = record { sound = λ j l. row-sound ink pattern x y rows m masks j ((fit e).1 j l) }

pub tint_rows-requires : goal.tint_rows-requires
tint_rows-requires c = (not-true _ c.if-not-ink.true, (c.requires.0, sound c.masks_at.ensures c.mask_rows-rows.ensures))

pub returns-then-not-ink : goal.returns-then-not-ink
returns-then-not-ink c =
    let a = c.args in
    let made = c.masks_at in
    c.tint_rows.ensures
    ∙ rect-fills a.ink a.pattern a.x a.y c.mask_rows-rows.result (tables made.new.keep made.new.flip made.new.adds) made.ensures c.requires.1.1 a.w a.h
    (fit c.mask_rows-rows.ensures).1 (state a.mem.now 0 0)

pub wash_masks-changed-requires : goal.wash_masks-changed-requires
wash_masks-changed-requires c =
    let p = c.requires in
    let tiled = not-false _ c.if-not-ink.false in
    (p.0, (tiled, (p.1.0 tiled, fit c.mask_rows-rows.ensures)))

pub count_rows-requires : goal.count_rows-requires
count_rows-requires c =
    let p = c.requires.0 in
    (omega (arith, p.wide), omega (arith, p.high), λ j l. record { eight = omega arith; one = λ i u. ((sound c.masks_at.ensures c.mask_rows-rows.ensures).sound j l i u).few })

pub returns : goal.returns
returns c =
    let a = c.args in
    let p = c.requires in
    let made = c.masks_at in
    let rows = c.mask_rows-rows in
    let m = tables made.new.keep made.new.flip made.new.adds in
    washed-whole a.ink.target m.keep m.flip m.adds a.x a.y a.w a.h a.mem.now p.0 (λ i. search rules)
    (made.ensures.keep.bytes (λ i. rw (zeros 256 i) (omega arith))) (made.ensures.flip.bytes (λ i. rw (zeros 256 i) (omega arith)))
    (sound made.ensures rows.ensures).sound
    c.wash_masks-changed.ensures.0 c.count_rows.ensures c.wash_masks-changed.ensures.1
    ∙ rect-fills a.ink a.pattern a.x a.y rows.result m made.ensures p.1.1 a.w a.h (fit rows.ensures).1 (state a.mem.now 0 0)

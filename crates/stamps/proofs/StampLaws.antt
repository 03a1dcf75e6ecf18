-- The bits of the pages of a command's pixels: set as one run, or found and added; and that they settle the bytes.
-- Assumes nothing.
use mathlib.Core.Path.{◌≡◌, refl, sym, ap, subst, ◌∙◌}
use mathlib.Core.Logic.{◌⊎◌, inl, inr}
use mathlib.Core.Bool.{Bool, true}
use mathlib.Core.List.{List, [], ◌∷◌, Memᴰ}
use Prim.Native.Nat.{ℕ, ◌+◌, ◌-◌, ◌<◌, ◌≤◌}
use native.Mathlib.Omega.{arith}
use native.Mathlib.Decide.{dec_lt}
use lib.ListN.{length, get_or}
use lib.Seq.{ext_get_or}
use Rattle.surface.specs.declared.Surface.{Surface}
use Rattle.surface.specs.Place.{byte_at, first_byte}
use Rattle.surface.specs.Pixels.{Px}
use Rattle.surface.proofs.OnLaws.{some_byte}
use Rattle.surface.proofs.Lists.{by_cases}
use Rattle.spans.specs.Span.{addresses}
use Rattle.spans.proofs.Spans.{addresses-in}
use Rattle.bank.specs.declared.Bank.{Bank}
use Rattle.cuts.specs.declared.Cut.{Cut}
use Rattle.command.specs.Decode.{target}
use Rattle.pages.specs.declared.Extent.{Extent}
use Rattle.pages.specs.Pages.{no_marks, marking}
use Rattle.pages.proofs.ExtentLaws.{extent-holds, extent-whole, extent-past}
use Rattle.bitmap.specs.Bits.{bits_in, byte_of, with_bits, with_marks}
use Rattle.bitmap.proofs.BitLaws.{with-bits, with-marks-added, bits-others, marks-others, byte-back}
use Rattle.acts.specs.declared.Blit.{Blit}
use Rattle.trail.specs.Trail.{wet_by, box_by, extent_by}
use Rattle.trail.specs.Asked.{Went}
use Rattle.trail.proofs.Wets.{lies}
use Rattle.stamps.specs.Stamps.{Stamped}

-- a list of pixels that is not empty has an address
some-address : (s : Surface) (ps : List Px) → 0 < length ps → (a : ℕ) × Memᴰ a (addresses s ps)
some-address s [] h = absurd (omega arith)
some-address s (p ∷ ps) h =
    let a = byte_at s (first_byte s p.x + 0) p.y in
    (a, addresses-in s (p ∷ ps) p a (Memᴰ.head refl) (record { k = 0; low = some_byte s; at = refl }))

module _ (b : Bank) (k : Blit) (ws m : List ℕ) (count : ℕ) (w : Went b k ws m count) where
  abbrev e : Extent
  e = extent_by b.regs k.taken (length ws) count

  abbrev box : Cut
  box = box_by b.regs k.taken (length ws)

  pub past-most : e.past ≤ 4096
  past-most = extent-past (target b.regs) box.x box.y box.w box.h count

  -- the first of its pages is none after the last
  up : e.first + (e.past - e.first) ≡ e.past
  up =
      let a = some-address (target b.regs) (wet_by b k ws m) (omega (arith, w.some, w.many)) in
      let h = extent-holds (lies b k ws m count w) a.0 a.1 in
      omega (arith, h.0, h.1)

  fits : e.first + (e.past - e.first) ≤ 4096
  fits = omega (arith, up, past-most)

  module _ (s : List ℕ) (at : ℕ) (held : at + 512 ≤ length s) where
    abbrev Done : List ℕ → Type 0
    Done t = Stamped s t at (marking (target b.regs) (wet_by b k ws m) (bits_in s at))

    pub stamped-run : e.whole ≡ true → {t : List ℕ} {f : Extent} → f ≡ e → t ≡ with_bits s at f.first (f.past - f.first) → Done t
    stamped-run whole {t} {f} same put =
        let others = bits-others s at e.first (e.past - e.first) fits in
        subst Done (sym (put ∙ ap (λ (x : Extent). with_bits s at x.first (x.past - x.first)) same))
        (record {
          bits = with-bits s at e.first (e.past - e.first) held fits ∙ sym (extent-whole (lies b k ws m count w) whole (bits_in s at));
          long = others.long;
          same = others.same;
          bytes = others.bytes;
        })

    pub stamped-found : {t : List ℕ} {f : Extent} {found clear : List Bool} → f ≡ e → clear ≡ no_marks → found ≡ marking (target b.regs) (wet_by b k ws m) clear
        → t ≡ with_marks s at found f.first (f.past - f.first) → Done t
    stamped-found {t} {f} {found} {clear} same none_yet walked put =
        let others = marks-others s at found e.first (e.past - e.first) fits in
        subst Done (sym (put ∙ ap (λ (x : Extent). with_marks s at found x.first (x.past - x.first)) same))
        (record {
          bits = with-marks-added s at found e.first (e.past - e.first) (addresses (target b.regs) (wet_by b k ws m)) held fits
              (walked ∙ ap (marking (target b.regs) (wet_by b k ws m)) none_yet)
              (λ a i. let h = extent-holds (lies b k ws m count w) a i in (h.0, omega (arith, h.1, up)));
          long = others.long;
          same = others.same;
          bytes = others.bytes;
        })

-- ---- of bytes, one outcome: each of the 512 bytes is that of its eight marks
pub one-stamp : (s t u : List ℕ) (at : ℕ) (marks : List Bool) → at + 512 ≤ length s → ((a : ℕ) → get_or s a 0 < 256) → Stamped s t at marks → Stamped s u at marks → t ≡ u
one-stamp s t u at marks held bytes x y =
    ext_get_or 0 t u (x.long ∙ sym y.long) (λ a h.
    by_cases (dec_lt a at) (λ low. outside a (inl low))
    (λ high. by_cases (dec_lt a (at + 512)) (λ low. inside a (omega arith) low) (λ past. outside a (inr (omega arith)))))
  where
    outside : (a : ℕ) → (a < at) ⊎ (at + 512 ≤ a) → get_or t a 0 ≡ get_or u a 0
    outside a i = x.same a i ∙ sym (y.same a i)

    inside : (a : ℕ) → at ≤ a → a < at + 512 → get_or t a 0 ≡ get_or u a 0
    inside a low high =
        let j = a - at in
        let here : a ≡ at + j = omega arith in
        rw here
        (byte-back t at j (x.bytes bytes) (omega arith) ∙ ap (λ (ms : List Bool). byte_of ms j) (x.bits ∙ sym y.bits) ∙ sym (byte-back u at j (y.bytes bytes) (omega arith)))

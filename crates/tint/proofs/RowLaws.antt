-- Laws of a row that is tinted: one pixel by its mask, eight pixels by their bytes, and a row in parts of eight.
-- Assumes nothing.
use mathlib.Core.Path.{◌≡◌, refl, sym, ap, subst, ◌∙◌}
use mathlib.Core.Bool.{false}
use mathlib.Core.List.{List, [], ◌∷◌}
use mathlib.Core.Option.{some}
use Prim.Native.Nat.{ℕ, zero, suc, ◌+◌, ◌-◌, ◌*◌, ◌/◌, ◌%◌, ◌^◌, ◌<◌, ◌≤◌}
use native.Mathlib.Nat.{mod-lt, add-zero, add_comm, add-mul, zero-mul, one-mul, suc-mul}
use native.Mathlib.Omega.{arith}
use lib.ListN.{length, get_or}
use Rattle.surface.specs.declared.Surface.{Surface}
use Rattle.surface.specs.Place.{byte_of, read_bytes, write_bytes, read_px, write_px}
use Rattle.surface.specs.Asked.{OnColour}
use Rattle.surface.specs.Pixels.{px, across}
use Rattle.surface.proofs.Bytes.{read_fits}
use Rattle.surface.proofs.Run.{in-rows, run-pixel, read-run, write-run}
use Rattle.surface.proofs.Rects.{in-across}
use Rattle.surface.proofs.OnLaws.{colour-byte}
use Rattle.paint.specs.declared.Tally.{Tally}
use Rattle.paint.specs.Tally.{tally}
use Rattle.paint.specs.Paint.{State, tallied, state, touch, dab, paint}
use Rattle.paint.proofs.Turns.{paint-same}
use Rattle.paint.proofs.Loops.{RowLeft, row-begins, row-takes, row-ended}
use Rattle.paint.proofs.Frame.{Bytes, paint_bytes, painted-after}
use Rattle.runs.proofs.Runs.{run-column, run-place}
use Rattle.tint.specs.Masking.{ones, masked, by_mask, mask_in, tinting, tintings, blended, Painted}
use Rattle.tint.specs.Asked.{Sound, CanTint}
use Rattle.tint.proofs.MaskLaws.{mask-keeps}
use Rattle.tint.proofs.ByteLaws.{put_back, put_low, blended-append, pixel-blended}

-- ---- one pixel by its mask

-- a pixel has 32 bits at most
small-pixel : (n : ℕ) → n < 5 → 256 ^ n ≤ 2 ^ 32
small-pixel zero h = omega arith
small-pixel (suc zero) h = omega arith
small-pixel (suc (suc zero)) h = omega arith
small-pixel (suc (suc (suc zero))) h = omega arith
small-pixel (suc (suc (suc (suc zero)))) h = omega arith
small-pixel (suc (suc (suc (suc (suc n))))) h = absurd (omega arith)

-- a mask that keeps all leaves the memory as it is
stays : (s : Surface) (x y : ℕ) (m : List ℕ) → s.bytes < 5 → Bytes m → write_px m s x y (masked (read_px m s x y) (ones % 256 ^ s.bytes) (0 % 256 ^ s.bytes)) ≡ m
unfolding write_px read_px
stays s x y m few b =
    let old = read_bytes m (byte_of s x y) 0 s.bytes in
    let small : old < 256 ^ s.bytes = read_fits m (byte_of s x y) 0 s.bytes (λ j. b (byte_of s x y j)) in
    put_low (byte_of s x y) 0 s.bytes old ones 0 m
    ∙ ap (λ (v : ℕ). write_bytes (byte_of s x y) 0 s.bytes v m) (mask-keeps old (omega (arith, small, small-pixel s.bytes few)))
    ∙ put_back m (byte_of s x y) 0 s.bytes b

-- a pixel goes through its mask and is counted, or it stays
pub step : (s : Surface) (x y keep flip adds : ℕ) (st : State) → s.bytes < 5 → Bytes st.mem → Sound s.bytes keep flip adds
    → let put = dab s (px x y) (by_mask keep flip adds (read_px st.mem s x y)) st in
    (put.mem ≡ write_px st.mem s x y (masked (read_px st.mem s x y) keep flip)) × (put.tally.count ≡ st.tally.count + adds)
unfolding dab by_mask
step s x y keep flip zero st few b sound = let e = sound.left refl in (rw (e.0, e.1, stays s x y st.mem few b), omega arith)
step s x y keep flip (suc zero) st few b sound = (refl, refl)
step s x y keep flip (suc (suc adds)) st few b sound = absurd (omega (arith, sound.few))

-- a memory of bytes stays one
write-bytes : (s : Surface) (x y v : ℕ) (m : List ℕ) → Bytes m → Bytes (write_px m s x y v)
unfolding paint dab
write-bytes s x y v m b = paint_bytes s (touch (px x y) (λ now. some v) ∷ []) (state m 0 0) b

-- ---- the pixels of a row, byte by byte

-- how many pixels the w masks from number k on count
unfoldable pub total : List ℕ → ℕ → ℕ → ℕ
total adds k zero = 0
total adds k (suc w) = get_or adds k 0 + total adds (k + 1) w

pub total-more : (adds : List ℕ) (k w : ℕ) → total adds k w + get_or adds (k + w) 0 ≡ total adds k (w + 1)
unfolding total
total-more adds k zero = let e : k + 0 ≡ k = omega arith in rw e (omega arith)
total-more adds k (suc w) =
    let e : k + suc w ≡ k + 1 + w = omega arith in
    let f : suc w + 1 ≡ suc (w + 1) = omega arith in
    rw (e, f) (omega (arith, total-more adds (k + 1) w))

module _ (s : Surface) (keep flip adds : List ℕ) (first x y : ℕ) (flat : s.tiled ≡ false) (colour : 0 < s.bytes) (few : s.bytes < 5) (bk : Bytes keep) (bf : Bytes flip)
    (sound : (i : ℕ) → i < 8 → Sound s.bytes (mask_in s.bytes keep (first + i)) (mask_in s.bytes flip (first + i)) (get_or adds (first + i) 0)) where
  -- w pixels from number c on
  pixels : (c w : ℕ) (st : State) → c + w ≤ 8 → Bytes st.mem → let after = paint s (tintings s keep flip adds first x (across false (x + c) w y)) st in
      (after.mem ≡ blended keep flip ((first + c) * s.bytes) (byte_of s (x + c) y 0) (w * s.bytes) st.mem) × (after.tally.count ≡ st.tally.count + total adds (first + c) w)
  unfolding across paint tinting blended total
  pixels c zero st h b = (rw (zero-mul s.bytes), omega arith)
  pixels c (suc w) st h b =
      let n = s.bytes in
      let m = st.mem in
      let k = first + c in
      let at = byte_of s (x + c) y 0 in
      let phase : (x + c - x) % 8 ≡ c = omega arith in
      let value = masked (read_px m s (x + c) y) (mask_in n keep k) (mask_in n flip k) in
      let wrote : blended keep flip (k * n) at n m ≡ write_px m s (x + c) y value =
      pixel-blended keep flip (k * n) at n m bk bf b
      ∙ ap (λ (d : ℕ). write_bytes (λ j. at + j) 0 n (masked d (mask_in n keep k) (mask_in n flip k)) m) (read-run s (in-rows flat) (x + c) y at refl m)
      ∙ write-run s (in-rows flat) (x + c) y at refl value m in
      let did = step s (x + c) y (mask_in n keep k) (mask_in n flip k) (get_or adds k 0) st few b (sound c (omega arith)) in
      let st₁ = dab s (px (x + c) y) (by_mask (mask_in n keep k) (mask_in n flip k) (get_or adds k 0) (read_px m s (x + c) y)) st in
      let next : x + c + 1 ≡ x + (c + 1) = omega arith in
      let more : first + c + 1 ≡ first + (c + 1) = omega arith in
      let table : (first + (c + 1)) * n ≡ k * n + n = ap (λ (u : ℕ). u * n) (sym more) ∙ add-mul k 1 n ∙ ap (λ (u : ℕ). k * n + u) (one-mul n) in
      let place : byte_of s (x + (c + 1)) y 0 ≡ at + n = ap (λ (u : ℕ). byte_of s u y 0) (sym next) ∙ sym (run-pixel s flat (x + c) y at refl 1) ∙ ap (λ (u : ℕ). at + u) (one-mul n) in
      let bytes : suc w * n ≡ n + w * n = suc-mul w n ∙ add_comm (w * n) n in
      let rest = pixels (c + 1) w st₁ (omega arith) (subst Bytes (sym did.0) (write-bytes s (x + c) y value m b)) in (
        rw (phase, next, bytes, blended-append keep flip (k * n) at n (w * n) m, ← table, ← place)
            (rest.0 ∙ ap (blended keep flip ((first + (c + 1)) * n) (byte_of s (x + (c + 1)) y 0) (w * n)) (did.0 ∙ sym wrote)),
        rw (phase, next, more) (omega (arith, rest.1, did.1)),
      )

  -- w pixels from the first on, as the code makes them
  pub row-blended : (w : ℕ) (m : List ℕ) → w ≤ 8 → Bytes m
      → Painted s (tintings s keep flip adds first x (across false x w y)) m (blended keep flip (first * s.bytes) (byte_of s x y 0) (w * s.bytes) m) (total adds first w)
  row-blended w m h b =
      let whole = rw (add-zero x, add-zero first) at (pixels 0 w (state m 0 0) (omega arith) b) in
      let count : total adds first w ≡ (paint s (tintings s keep flip adds first x (across false x w y)) (state m 0 0)).tally.count = omega (arith, whole.1) in
      (_, λ i. state (sym whole.0 i) (count i) (paint s (tintings s keep flip adds first x (across false x w y)) (state m 0 0)).tally.changed)

-- ---- rows that can be tinted

-- their bytes are in memory
pub row-held : {s : Surface} {keep flip adds : List ℕ} {first len x w y : ℕ} → CanTint s keep flip adds first len x w y → (i : ℕ) → i < w * s.bytes → byte_of s x y 0 + i < len
row-held {s} {len = len} {x = x} {w = w} {y = y} can i h =
    let colour = can.colour.some in
    let there : (c : ℕ) → c < w → OnColour s len (x + c) y = (λ c l. can.on.on (x + c) (omega arith) (omega arith)) in
    subst (λ (a : ℕ). a < len) (sym (run-place s colour x y can.flat i)) (colour-byte (there (i / s.bytes) (run-column s colour x y w i h)) (i % s.bytes) (mod-lt i colour)).inside

-- and so can parts of one
module _ {s : Surface} {keep flip adds : List ℕ} {first len x w y : ℕ} (can : CanTint s keep flip adds first len x w y) where
  pub can-from : (i k : ℕ) → i + k ≤ w → CanTint s keep flip adds first len (x + i) k y
  can-from i k fits = record {
    flat = can.flat;
    colour = can.colour;
    on = record { wide = omega (arith, can.on.wide); on = λ j low high. can.on.on j (omega arith) (omega arith) };
    eight = can.eight;
    keeps = can.keeps;
    flips = can.flips;
    sound = can.sound;
  }

  -- its first pixels
  pub can-begin : (k : ℕ) → k ≤ w → CanTint s keep flip adds first len x k y
  can-begin k fits = let start : x + 0 ≡ x = omega arith in rw start at (can-from 0 k (omega arith))

-- ---- a row in parts: after i pixels of it
abbrev pub TintLeft : Surface → List ℕ → List ℕ → List ℕ → ℕ → ℕ → ℕ → ℕ → List ℕ → Tally → ℕ → List ℕ → Tally → Type 0
TintLeft s keep flip adds first x w y m₀ n i m r = RowLeft s (λ p now. tinting s keep flip adds first x now p) false x w y m₀ n i m r

-- nothing written before; how many of them changed is not said
abbrev pub RunLeft : Surface → List ℕ → List ℕ → List ℕ → ℕ → ℕ → ℕ → ℕ → List ℕ → ℕ → List ℕ → ℕ → Type 0
RunLeft s keep flip adds first x w y m₀ i m r = (c : ℕ) × TintLeft s keep flip adds first x w y m₀ (tally 0 0) i m (tally r c)

module _ {s : Surface} {keep flip adds : List ℕ} {first x w y : ℕ} {m₀ : List ℕ} (can : CanTint s keep flip adds first (length m₀) x w y) where
  module _ {n : Tally} {i : ℕ} {m : List ℕ} {r : Tally} (left : TintLeft s keep flip adds first x w y m₀ n i m r) (k : ℕ) (fits : i + k ≤ w) where
    -- k more can be tinted
    pub can-part : CanTint s keep flip adds first (length m) (x + i) k y
    can-part = rw left.left.long (can-from can i k fits)

    -- and are: eight columns further on the masks are the same
    pub tint-takes : i % 8 ≡ 0 → {m' : List ℕ} {r' : Tally} → tallied m' r' ≡ paint s (tintings s keep flip adds first (x + i) (across false (x + i) k y)) (tallied m r)
        → TintLeft s keep flip adds first x w y m₀ n (i + k) m' r'
    unfolding tinting
    tint-takes whole put =
        row-takes left k fits (put
        ∙ paint-same s (λ p now. tinting s keep flip adds first (x + i) now p) (λ p now. tinting s keep flip adds first x now p) (across false (x + i) k y)
        (λ p q now. let b = in-across false (x + i) k y p q in let e : (p.x - (x + i)) % 8 ≡ (p.x - x) % 8 = omega arith in rw e) (tallied m r))

  -- no more are counted than there are
  pub run-few : {i : ℕ} {m : List ℕ} {r : ℕ} → RunLeft s keep flip adds first x w y m₀ i m r → r ≤ i
  run-few left = omega (arith, left.1.left.upto.count)

  pub run-ended : {i : ℕ} {m : List ℕ} {r : ℕ} → RunLeft s keep flip adds first x w y m₀ i m r → w ≤ i
      → Painted s (tintings s keep flip adds first x (across false x w y)) m₀ m r
  run-ended left all = (left.0, row-ended left.1 all)

  -- the same where only the pixels written are counted
  pub run-takes : {i : ℕ} {m : List ℕ} {r : ℕ} → RunLeft s keep flip adds first x w y m₀ i m r → (k : ℕ) → i + k ≤ w → i % 8 ≡ 0 → {m' : List ℕ} {count : ℕ}
      → Painted s (tintings s keep flip adds first (x + i) (across false (x + i) k y)) m m' count → RunLeft s keep flip adds first x w y m₀ (i + k) m' (r + count)
  run-takes {i} {m} {r} left k fits whole put = (
    left.0 + put.0,
    tint-takes left.1 k fits whole (painted-after s (tintings s keep flip adds first (x + i) (across false (x + i) k y)) m (tally r left.0) put.1),
  )

  -- the first of them
  pub run-begun : (k : ℕ) {m : List ℕ} {r : ℕ} → k ≤ w → Painted s (tintings s keep flip adds first x (across false x k y)) m₀ m r → RunLeft s keep flip adds first x w y m₀ k m r
  run-begun k fits put =
      let start : x + 0 ≡ x = omega arith in
      let all : k ≡ 0 + k = omega arith in
      (put.0, rw all (row-takes row-begins k (omega arith) (rw start put.1)))

-- A plain copy that shares no pixel with its source, as bytes that go their way.
-- Assumes nothing.
use mathlib.Core.Path.{◌≡◌, sym, ap, subst, ◌∙◌}
use mathlib.Core.Bool.{false≢true}
use mathlib.Core.List.{List}
use Prim.Native.Nat.{ℕ, ◌+◌, ◌-◌, ◌*◌, ◌/◌, ◌%◌, ◌<◌, ◌≤◌}
use native.Mathlib.Nat.{mod-lt, add-mul, div-add-mod'}
use native.Mathlib.Omega.{arith}
use lib.ListN.{get_or}
use Rattle.surface.specs.declared.Surface.{Surface}
use Rattle.surface.specs.Place.{row_bytes, byte_at, byte_of}
use Rattle.surface.specs.Asked.{OnColour}
use Rattle.surface.specs.Pixels.{Px, px, Inside}
use Rattle.spans.proofs.Spans.{IsByte}
use Rattle.paint.proofs.Owners.{byte-of}
use Rattle.sweep.specs.declared.Task.{Task}
use Rattle.sweep.specs.Copy.{source_place}
use Rattle.sweep.proofs.TaskLaws.{can-pixel}
use Rattle.runs.specs.Runs.{Given}
use Rattle.rect.proofs.Order.{shared, touching-read}
use Rattle.rect.proofs.Plain.{PlainCopy, plainly-plain}
use Rattle.blocks.specs.declared.Way.{Way}
use Rattle.blocks.specs.Blocks.{Put, origin, origin_byte}
use Rattle.blocks.specs.Asked.{Goes}
use Rattle.blocks.proofs.Blocks.{way}
use Rattle.blocks.proofs.Pixels.{pixel-of, put-given, byte-held, bytes-wide}
use Rattle.rect.specs.Fast.{source_byte}
use Rattle.rect.specs.Asked.{Apart}

module _ {t : Task} {w h len : ℕ} (apart : Apart t w h len) where
  abbrev target : Surface
  target = t.ink.target

  abbrev b : ℕ
  b = target.bytes

  plain : PlainCopy t
  plain = plainly-plain t apart.plain

  some : 0 < b
  some = apart.can.colour.some

  source-some : 0 < t.from.bytes
  source-some = omega (arith, some, plain.format)

  abbrev pub bytewise : Way
  bytewise = way target t.from (t.x * b) t.y (t.sx * b) t.sy

  -- ---- both rectangles are on their surfaces
  target-on : (i j : ℕ) → t.x ≤ i → i < t.x + w → t.y ≤ j → j < t.y + h → OnColour target len i j
  target-on i j l r u d = (can-pixel apart.can i j (record { left = l; right = r; top = u; bottom = d })).0

  source-on : (i j : ℕ) → t.sx ≤ i → i < t.sx + w → t.sy ≤ j → j < t.sy + h → OnColour t.from len i j
  source-on i j l r u d =
      let on = (can-pixel apart.can (t.x + (i - t.sx)) (t.y + (j - t.sy)) (omega arith)).1.on plain.copies in
      let ex : t.sx + (t.x + (i - t.sx) - t.x) ≡ i = omega arith in
      let ey : t.sy + (t.y + (j - t.sy) - t.y) ≡ j = omega arith in
      record { colour = record { small = apart.can.small; some = source-some }; on = rw (ex, ey) at on }

  -- ---- where a byte comes from
  column-of : (p : Px) (k : ℕ) → t.x ≤ p.x → t.sx * b + (p.x * b + k - t.x * b) ≡ (t.sx + (p.x - t.x)) * b + k
  column-of p k l =
      let d = p.x - t.x in
      let e : p.x ≡ t.x + d = omega arith in
      omega (arith, ap (λ (n : ℕ). n * b) e, add-mul t.x d b, add-mul t.sx d b)

  origin-byte : (p : Px) (k : ℕ) → t.x ≤ p.x → origin bytewise (px (p.x * b + k) p.y) ≡ byte_of t.from (source_place t p).x (source_place t p).y k
  unfolding byte_of source_place
  origin-byte p k l =
      ap (λ (c : ℕ). byte_at t.from c (t.sy + (p.y - t.y)))
      (column-of p k l ∙ ap (λ (n : ℕ). (t.sx + (p.x - t.x)) * n + k) (sym plain.format))

  pub bytes-given : {m m' : List ℕ} → Put target (origin_byte bytewise m) (t.x * b) t.y (w * b) h m m' → Given target (source_byte t m) t.x t.y w h m m'
  bytes-given {m} {m'} =
      put-given target some (source_byte t m) (origin_byte bytewise m) t.x t.y w h m m' (λ p k i l. ap (λ (a : ℕ). get_or m a 0) (origin-byte p k i.left))

  -- ---- the bytes can go
  at_source : (q : Px) → Inside (t.x * b) t.y (w * b) h q → Inside (t.sx * b) t.sy (w * b) h (px (t.sx * b + (q.x - t.x * b)) (t.sy + (q.y - t.y)))
  at_source q i = omega arith

  source-held : (q : Px) → Inside (t.x * b) t.y (w * b) h q → origin bytewise q < len
  source-held q i =
      subst (λ (n : ℕ). (p : Px) → Inside (t.sx * n) t.sy (w * n) h p → byte_at t.from p.x p.y < len) plain.format
      (byte-held t.from source-some t.sx t.sy w h source-on) _ (at_source q i)

  source-wide : t.sx * b + w * b ≤ row_bytes t.from
  source-wide = subst (λ (n : ℕ). t.sx * n + w * n ≤ row_bytes t.from) plain.format (bytes-wide t.from source-some t.sx t.sy w h source-on apart.wide apart.high)

  -- a byte and the pixel that it is of
  abbrev pixel : Px → Px
  pixel q = px (q.x / b) q.y

  whole : (q : Px) → px ((pixel q).x * b + q.x % b) q.y ≡ q
  whole q = ap (λ (c : ℕ). px c q.y) (div-add-mod' q.x b)

  target-byte : (q : Px) → IsByte target (pixel q) (byte_at target q.x q.y)
  unfolding byte_of
  target-byte q = subst (λ (r : Px). IsByte target (pixel q) (byte_at target r.x r.y)) (whole q) (byte-of target some (pixel q) (q.x % b) (mod-lt q.x some))

  source-byte : (q : Px) → Inside (t.x * b) t.y (w * b) h q → IsByte t.from (source_place t (pixel q)) (origin bytewise q)
  source-byte q i =
      subst (λ (r : Px). IsByte t.from (source_place t (pixel q)) (origin bytewise r)) (whole q)
      (subst (IsByte t.from (source_place t (pixel q))) (sym (origin-byte (pixel q) (q.x % b) (pixel-of b some t.x t.y w h q i).left))
      (byte-of t.from source-some (source_place t (pixel q)) (q.x % b) (omega (arith, plain.format, mod-lt q.x some))))

  pub bytes-go : Goes bytewise (w * b) h len
  bytes-go = record {
    small = apart.can.colour.small;
    small' = apart.can.small;
    wide = bytes-wide target some t.x t.y w h target-on apart.wide apart.high;
    wide' = source-wide;
    high = omega (arith, apart.can.high);
    high' = omega (arith, apart.can.source_high);
    to = byte-held target some t.x t.y w h target-on;
    from = source-held;
    apart = λ p q i j e.
        let ip = pixel-of b some t.x t.y w h p i in
        let iq = pixel-of b some t.x t.y w h q j in
        let s = shared t w h len apart.can (λ _. apart.orderly) plain.copies (pixel p) (pixel q) ip iq (byte_at target p.x p.y)
        (subst (IsByte t.from (source_place t (pixel q))) (sym e) (source-byte q j)) (target-byte p) in
        false≢true (sym apart.none ∙ touching-read t w h (pixel p) (pixel q) s.0 ip iq s.1);
  }

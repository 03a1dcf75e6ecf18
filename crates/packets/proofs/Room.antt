-- Room for an answer to every four bytes is enough: a word's four bytes bring at most one answer.
-- Assumes nothing.
use Rattle.std.proofs.Common.{◌≡◌, ℕ, ◌+◌, ◌*◌, ◌<◌, ◌≤◌, Bool, true, false, cond, ltb, List, [], ◌∷◌, length, take, refl, ap, arith, length-append, length-take, ltb-false, ltb-true}
use Rattle.basics.specs.Each.{each}
use Rattle.packets.specs.declared.Rest.{Rest}
use Rattle.packets.specs.declared.Rest.TheVariants.{Empty, Counted, Masked}
use Rattle.packets.specs.declared.Reader.{Reader}
use Rattle.packets.specs.declared.Event.{Event}
use Rattle.packets.specs.declared.Event.TheVariants.{Nothing, Write, Closed}
use Rattle.packets.specs.declared.Heard.{Heard}
use Rattle.packets.specs.Header.{turned_down}
use Rattle.packets.specs.Reader.{opened, between, shut, heard, headed, shifted, worded, took}
use Rattle.packets.specs.Delivery.{Note, Writer, Delivery, delivery, told, taken, fed}
use Rattle.packets.specs.Answers.{Call, called}
use Rattle.packets.specs.Promises.{HeldShort, RoomEnough}
use Rattle.packets.proofs.Holding.{left}

-- ---- what a byte may bring: an answer counts four, and a byte held one

abbrev said : Event → ℕ
said Nothing = 0
said (Write o w) = 1
said Closed = 1

record Paid (held : ℕ) (h : Heard) : Type 0 where
  short : h.reader.held < 4
  most : 4 * said h.event + h.reader.held ≤ held

word-paid : (rest : Rest) (w : ℕ) → Paid 4 (worded rest w)
unfolding headed
word-paid Empty w = by-test (turned_down w)
  where
    by-test : (t : Bool) → Paid 4 (cond t (heard shut Closed) (heard (between (opened w)) Nothing))
    by-test true = record { short = omega arith; most = omega arith }
    by-test false = record { short = omega arith; most = omega arith }
word-paid (Counted o step n) w = record { short = omega arith; most = omega arith }
word-paid (Masked o bits) w = record { short = omega arith; most = omega arith }

byte-paid : (b : ℕ) (r : Reader) → r.held < 4 → Paid (r.held + 1) (took b r)
unfolding took
byte-paid b r h = by-test r.closed (ltb r.held 3) refl
  where
    by-test : (c t : Bool) → ltb r.held 3 ≡ t
        → Paid (r.held + 1)
        (cond c (heard r Nothing) (cond t (heard (record { word = shifted r.word b; held = r.held + 1; rest = r.rest; closed = false }) Nothing) (worded r.rest (shifted r.word b))))
    by-test true t e = record { short = h; most = omega arith }
    by-test false true e = record { short = omega (arith, ltb-true r.held 3 e); most = omega arith }
    by-test false false e =
        let p = word-paid r.rest (shifted r.word b) in
        let three = ltb-false r.held 3 e in
        record { short = p.short; most = omega (arith, p.most) }

module _ {S : Type 0} (write : Writer S) where
  told-length : (e : Event) (r : Reader) (s : S) (notes : List Note) → length (told write e r s notes).notes ≡ length notes + said e
  told-length Nothing r s notes = omega arith
  told-length (Write o w) r s notes = length-append notes _
  told-length Closed r s notes = length-append notes _

  told-reader : (e : Event) (r : Reader) (s : S) (notes : List Note) → (told write e r s notes).reader ≡ r
  told-reader Nothing r s notes = refl
  told-reader (Write o w) r s notes = refl
  told-reader Closed r s notes = refl

  record Within (bytes : List ℕ) (d : Delivery S) : Type 0 where
    short : (fed write bytes d).reader.held < 4
    most : 4 * length (fed write bytes d).notes + (fed write bytes d).reader.held ≤ 4 * length d.notes + d.reader.held + length bytes

  within : (bytes : List ℕ) (d : Delivery S) → d.reader.held < 4 → Within bytes d
  unfolding each taken
  within [] d h = record { short = h; most = omega arith }
  within (b ∷ bytes) d h =
      let one = took b d.reader in
      let p = byte-paid b d.reader h in
      let same : (taken write b d).reader.held ≡ one.reader.held = ap (λ (r : Reader). r.held) (told-reader one.event one.reader d.state d.notes) in
      let more = told-length one.event one.reader d.state d.notes in
      let k = within bytes (taken write b d) (omega (arith, p.short)) in
      record { short = k.short; most = omega (arith, k.most, p.most) }

  pub held-short : HeldShort write
  held-short bytes d h = (within bytes d h).short

  pub room-enough : RoomEnough write
  room-enough r s piece run h room =
      let k = left write run r s piece in
      let n : (called write r s piece run).used ≡ k.used = ap (λ (c : Call S). c.used) k.is in
      by-test (ltb k.used (length piece)) refl n
    where
      by-test : (t : Bool) → ltb (left write run r s piece).used (length piece) ≡ t → (called write r s piece run).used ≡ (left write run r s piece).used
          → (called write r s piece run).used ≡ length piece
      by-test true e n =
          let k = left write run r s piece in
          let l = ltb-true k.used (length piece) e in
          let p = within (take k.used piece) (delivery r s []) h in
          absurd (omega (arith, p.most, k.last l, k.full l, length-take k.used piece))
      by-test false e n =
          let k = left write run r s piece in
          omega (arith, ltb-false k.used (length piece) e, k.most)

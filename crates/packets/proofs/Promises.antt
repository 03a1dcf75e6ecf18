-- The promises of specs/Promises, proved from the definitions, but for those of a call's room (Room).
-- Assumes nothing.
use Rattle.std.proofs.Common.{◌≡◌, ℕ, ◌+◌, ◌*◌, ◌/◌, ◌%◌, ◌^◌, false, List, [], ◌∷◌, ◌++◌, length, sym, refl, ap, ◌∙◌, append_assoc, append-nil, arith}
use Rattle.basics.specs.Each.{each}
use Rattle.basics.proofs.EachLaws.{each_append}
use Rattle.basics.proofs.One.{settled}
use Rattle.packets.specs.declared.Rest.{Rest}
use Rattle.packets.specs.declared.Rest.TheVariants.{Empty}
use Rattle.packets.specs.declared.Reader.{Reader}
use Rattle.packets.specs.declared.Event.{Event}
use Rattle.packets.specs.declared.Event.TheVariants.{Nothing, Write, Closed}
use Rattle.packets.specs.declared.Heard.{Heard}
use Rattle.packets.specs.Header.{turned_down}
use Rattle.packets.specs.Reader.{opened, advanced, between, blank, shut, heard, headed, worded, shifted, took}
use Rattle.packets.specs.Delivery.{Note, nine, Writer, Delivery, delivery, told, taken, fed}
use Rattle.packets.specs.Promises.{OneOpen, OneTake, joined, spelled, one_call, calls, AnyPieces, carried, PacketCarried, NoWords, NineOnce, Reopened}
use Rattle.packets.proofs.RestLaws.{Going, counting, masking, Live, over, going, next_offset, going-live, going-left, opened-live, rest-offsets, offsets_left}

-- ---- a contract that says what the outcome equals allows one
pub one-open : OneOpen
one-open x y = settled blank x y

pub one-take : OneTake
one-take b r x y = settled (took b r) x y

-- ---- four bytes are one word, low byte first
abbrev pub word : ℕ → ℕ → ℕ → ℕ → ℕ
word a b c d = a + b * 2 ^ 8 + c * 2 ^ 16 + d * 2 ^ 24

pub spelling : (a b c d : ℕ) → shifted (shifted (shifted (shifted 0 a) b) c) d ≡ word a b c d
spelling a b c d =
    let two : shifted (shifted 0 a) b ≡ a * 2 ^ 16 + b * 2 ^ 24 = omega arith in
    let three : shifted (a * 2 ^ 16 + b * 2 ^ 24) c ≡ a * 2 ^ 8 + b * 2 ^ 16 + c * 2 ^ 24 = omega arith in
    rw (two, three) (omega arith)

spelled-word : (w : ℕ) → word (w % 2 ^ 8) (w / 2 ^ 8 % 2 ^ 8) (w / 2 ^ 16 % 2 ^ 8) (w / 2 ^ 24) ≡ w
spelled-word w = omega arith

module _ {S : Type 0} (write : Writer S) where
  -- what a word makes
  abbrev after : Heard → S → List Note → Delivery S
  after h s notes = told write h.event h.reader s notes

  word-taken : (rest : Rest) (s : S) (notes : List Note) (a b c d : ℕ)
      → fed write (a ∷ b ∷ c ∷ d ∷ []) (delivery (between rest) s notes) ≡ after (worded rest (word a b c d)) s notes
  unfolding each taken took
  word-taken rest s notes a b c d = ap (λ (w : ℕ). after (worded rest w) s notes) (spelling a b c d)

  -- a word and what follows it
  word_first : (rest : Rest) (s : S) (notes : List Note) (w : ℕ) (ws : List ℕ)
      → fed write (spelled (w ∷ ws)) (delivery (between rest) s notes) ≡ fed write (spelled ws) (after (worded rest w) s notes)
  unfolding each
  word_first rest s notes w ws =
      ap (each (taken write) (spelled ws))
      (word-taken rest s notes (w % 2 ^ 8) (w / 2 ^ 8 % 2 ^ 8) (w / 2 ^ 16 % 2 ^ 8) (w / 2 ^ 24) ∙ ap (λ (v : ℕ). after (worded rest v) s notes) (spelled-word w))

  -- ---- packets
  going-word : {rest : Rest} → Going rest → (w : ℕ) → worded rest w ≡ heard (between (advanced rest)) (Write (next_offset rest) w)
  going-word (counting h) w = refl
  going-word (masking f h) w = refl

  words-carried : {rest : Rest} → Live rest → (s : S) (notes : List Note) (ws : List ℕ) → length ws ≡ length (offsets_left rest)
      → fed write (spelled ws) (delivery (between rest) s notes) ≡ carried write (offsets_left rest) ws (delivery blank s notes)
  unfolding each carried
  words-carried over s notes [] h = refl
  words-carried over s notes (w ∷ ws) h = absurd (omega arith)
  words-carried {rest = rest} (going g) s notes [] h = absurd (omega (arith, ap length (going-left g)))
  words-carried {rest = rest} (going g) s notes (w ∷ ws) h =
      let st = write (next_offset rest) w s in
      let h' : length ws ≡ length (offsets_left (advanced rest)) = omega (arith, ap length (going-left g)) in
      word_first rest s notes w ws ∙ rw (going-word g w, going-left g) (words-carried {rest = advanced rest} (going-live g) st.state (notes ++ (st.note ∷ [])) ws h')

  -- a header in an empty reader
  header-first : (s : S) (notes : List Note) (h : ℕ) (ws : List ℕ) → turned_down h ≡ false
      → fed write (spelled (h ∷ ws)) (delivery blank s notes) ≡ fed write (spelled ws) (delivery (between (opened h)) s notes)
  unfolding headed
  header-first s notes h ws f = word_first Empty s notes h ws ∙ rw f

  pub packet-carried : PacketCarried write
  packet-carried s notes h ws f g k =
      header-first s notes h ws g
      ∙ words-carried (opened-live h f) s notes ws (rw (rest-offsets h f) k)
      ∙ ap (λ (os : List ℕ). carried write os ws (delivery blank s notes)) (rest-offsets h f)

  pub no-words : NoWords write
  unfolding carried
  no-words s notes h f g k = packet-carried s notes h [] f g (sym (ap length k)) ∙ rw k

  -- ---- a packet turned down
  closed-drops : (s : S) (notes : List Note) (bytes : List ℕ) → fed write bytes (delivery shut s notes) ≡ delivery shut s notes
  unfolding each taken took
  closed-drops s notes [] = refl
  closed-drops s notes (b ∷ bytes) = closed-drops s notes bytes

  pub nine-once : NineOnce write
  unfolding headed each
  nine-once s notes h later f =
      each_append (taken write) (spelled (h ∷ [])) later (delivery blank s notes)
      ∙ ap (each (taken write) later) (word_first Empty s notes h [] ∙ rw f)
      ∙ closed-drops s (notes ++ (nine ∷ [])) later

  pub reopened : Reopened write
  reopened s notes h dropped later f = ap (λ (d : Delivery S). fed write later (delivery blank d.state d.notes)) (nine-once s notes h dropped f)

  -- ---- answers that were there before stay before those of later bytes
  abbrev behind : List Note → Delivery S → Delivery S
  behind before d = delivery d.reader d.state (before ++ d.notes)

  told-behind : (e : Event) (r : Reader) (s : S) (before notes : List Note) → told write e r s (before ++ notes) ≡ behind before (told write e r s notes)
  told-behind Nothing r s before notes = refl
  told-behind (Write o w) r s before notes = rw append_assoc
  told-behind Closed r s before notes = rw append_assoc

  fed-behind : (bytes : List ℕ) (before : List Note) (d : Delivery S) → fed write bytes (behind before d) ≡ behind before (fed write bytes d)
  unfolding each taken
  fed-behind [] before d = refl
  fed-behind (b ∷ bytes) before d =
      let h = took b d.reader in
      ap (each (taken write) bytes) (told-behind h.event h.reader d.state before d.notes) ∙ fed-behind bytes before (taken write b d)

  one-call : (piece : List ℕ) (d : Delivery S) → one_call write piece d ≡ fed write piece d
  one-call piece d =
      sym (fed-behind piece d.notes (delivery d.reader d.state []))
      ∙ ap (λ (notes : List Note). fed write piece (delivery d.reader d.state notes)) (append-nil d.notes)

  pub any-pieces : AnyPieces write
  unfolding calls joined each
  any-pieces [] d = refl
  any-pieces (piece ∷ pieces) d =
      any-pieces pieces (one_call write piece d) ∙ ap (each (taken write) (joined pieces)) (one-call piece d) ∙ sym (each_append (taken write) piece (joined pieces) d)

  -- ---- what every write keeps, any bytes keep
  module _ (P : S → Type 0) (keeps : (o w : ℕ) (s : S) → P s → P (write o w s).state) where
    told-keeps : (e : Event) (r : Reader) (s : S) (notes : List Note) → P s → P (told write e r s notes).state
    told-keeps Nothing r s notes p = p
    told-keeps (Write o w) r s notes p = keeps o w s p
    told-keeps Closed r s notes p = p

    pub fed-keeps : (bytes : List ℕ) (d : Delivery S) → P d.state → P (fed write bytes d).state
    unfolding each taken
    fed-keeps [] d p = p
    fed-keeps (b ∷ bytes) d p = let h = took b d.reader in fed-keeps bytes (taken write b d) (told-keeps h.event h.reader d.state d.notes p)

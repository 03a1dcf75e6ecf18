-- A mono blit from all its words: they finish its rows, each row is the bits of its bytes, and inside the clip that is what is drawn.
-- Assumes nothing.
use mathlib.Core.Path.{◌≡◌, refl, sym, ap, ap₂, subst, ◌∙◌}
use mathlib.Core.Bool.{true, false}
use mathlib.Core.List.{List, [], ◌∷◌, ◌++◌, map-append, append_assoc, append-nil}
use Prim.Native.Nat.{ℕ, zero, suc, ◌+◌, ◌-◌, ◌*◌, ◌/◌, ◌%◌, ◌^◌, ◌<◌, ◌≤◌}
use native.Mathlib.Nat.{add-zero, zero-add, add-mul}
use native.Mathlib.Numerals.{add-one}
use native.Mathlib.Omega.{arith}
use borrow.Author.Tests.{eq-eqb}
use lib.ListN.{length, length-append, length-map}
use Rattle.surface.specs.Asked.{OnColour}
use Rattle.surface.specs.Pixels.{across, origin}
use Rattle.surface.proofs.Bytes.{product_lt}
use Rattle.paint.specs.declared.Clip.{Clip}
use Rattle.paint.specs.declared.Tally.{Tally}
use Rattle.paint.specs.Tally.{tally}
use Rattle.paint.specs.Paint.{State, tallied, state, Touch, touch, paint}
use Rattle.paint.specs.Clip.{in_clip, pixel_at}
use Rattle.paint.specs.Asked.{Room}
use Rattle.paint.proofs.ClipLaws.{in-clip, clip-in}
use Rattle.paint.proofs.Tallies.{Upto, room-left, room-first}
use Rattle.paint.proofs.Frame.{paint-length, paint-upto}
use Rattle.paint.proofs.Turns.{paint-append}
use Rattle.bits.specs.declared.Plain.{Plain}
use Rattle.bits.specs.Bits.{coloured, bit_of, byte_touches}
use Rattle.host.specs.declared.Feed.{Feed}
use Rattle.host.specs.Host.{last_byte_of, Pixel, pixel, by_word, by_run}
use Rattle.host.specs.Stream.{data_byte, value_at, row_from, rows, before, by_words}
use Rattle.host.specs.Draw.{host_touches, drawn}
use Rattle.host.specs.Asked.{Sizes, Opened}
use Rattle.host.proofs.Drawing.{drawn-append}
use Rattle.host.proofs.Needed.{in-time}
use Rattle.host.proofs.Places.{mono-column}
use Rattle.host.proofs.Whole.{Data, Prior, row-append, word-any, all_words}
use Rattle.pours.specs.Pours.{word_in}
use Rattle.plain.specs.Plain.{plain_ink, mono_touches}
use Rattle.plain.specs.Asked.{Whole, Glyph}
use Rattle.plain.proofs.Bits.{cells, bits-touched, cells-drawn}

-- ---- all words of a blit, the data's words s 0, s 1, ..
module _ (s : ℕ → ℕ) (f : Feed) (d : Data s f) where
  run-words : (ws : List ℕ) (k last : ℕ) → Prior s k last → ((n : ℕ) → n < length ws → s (k + n) ≡ word_in ws n) → by_words s f k ++ by_run f last ws k ≡ by_words s f (k + length ws)
  unfolding by_run by_words
  run-words [] k last p at = append-nil (by_words s f k) ∙ ap (by_words s f) (sym (add-zero k))
  run-words (w ∷ ws) k last p at =
      let first : s k ≡ w = ap s (sym (add-zero k)) ∙ at 0 (omega arith) in
      let prior : Prior s (k + 1) w = record { word = λ _. sym first ∙ ap s (omega arith); small = rw first at (d.words k) } in
      let end : k + 1 + length ws ≡ k + suc (length ws) = omega arith in
      ap (λ (v : ℕ). by_words s f k ++ (by_word f last v k ++ by_run f w ws (k + 1))) (sym first)
      ∙ ap (λ (ps : List Pixel). by_words s f k ++ (ps ++ by_run f w ws (k + 1))) (word-any s f d k last p)
      ∙ sym (append_assoc (by_words s f k) (by_word f (before s k) (s k) k) (by_run f w ws (k + 1)))
      ∙ ap (λ (n : ℕ). by_words s f n ++ by_run f w ws (k + 1)) (sym (add-one k))
      ∙ run-words ws (k + 1) w prior (λ n u. ap s (omega arith) ∙ at (suc n) (omega arith)) ∙ ap (by_words s f) end

-- ---- mono pixels, painted
module _ (p : Plain) (feed : Feed) where
  touches-append : (ps qs : List Pixel) → mono_touches p feed (ps ++ qs) ≡ mono_touches p feed ps ++ mono_touches p feed qs
  touches-append ps qs = map-append (λ q. touch (pixel_at (feed.x + q.i) (feed.y + q.j)) (λ now. coloured p q.value)) ps qs

  painted-append : (ps qs : List Pixel) (st : State)
      → paint p.target (mono_touches p feed (ps ++ qs)) st ≡ paint p.target (mono_touches p feed qs) (paint p.target (mono_touches p feed ps) st)
  painted-append ps qs st =
      ap (λ (ts : List Touch). paint p.target ts st) (touches-append ps qs) ∙ paint-append p.target (mono_touches p feed ps) (mono_touches p feed qs) st

-- a loop that paints them, after the first ones
pub record Done (p : Plain) (feed : Feed) (ps : List Pixel) (m₀ : List ℕ) (n : Tally) (m : List ℕ) (r : Tally) : Type 0 where
  pub painted : tallied m r ≡ paint p.target (mono_touches p feed ps) (tallied m₀ n)

module _ {p : Plain} {feed : Feed} {ps : List Pixel} {m₀ : List ℕ} {n : Tally} {m : List ℕ} {r : Tally} (done : Done p feed ps m₀ n m r) where
  pub done-long : length m ≡ length m₀
  done-long = ap (λ (st : State). length st.mem) done.painted ∙ paint-length p.target (mono_touches p feed ps) (tallied m₀ n)

  pub done-upto : Upto n (length ps) r
  done-upto =
      rw length-map at
      (subst (λ (st : State). Upto n (length (mono_touches p feed ps)) st.tally) (sym done.painted) (paint-upto p.target (mono_touches p feed ps) (tallied m₀ n)))

  pub done_more : (qs : List Pixel) {all : List Pixel} {m' : List ℕ} {r' : Tally} → ps ++ qs ≡ all
      → tallied m' r' ≡ paint p.target (mono_touches p feed qs) (tallied m r) → Done p feed all m₀ n m' r'
  done_more qs e put = record {
    painted = put ∙ ap (paint p.target (mono_touches p feed qs)) done.painted ∙ sym (painted-append p feed ps qs (tallied m₀ n))
        ∙ ap (λ (us : List Pixel). paint p.target (mono_touches p feed us) (tallied m₀ n)) e;
  }

-- ---- rows
module _ (s : ℕ → ℕ) (f : Feed) where
  row-cells : (j i n : ℕ) → row_from s f j i n ≡ cells (λ a. value_at s f a j) j i n
  unfolding row_from cells
  row-cells j i zero = refl
  row-cells j i (suc n) = ap (λ (ps : List Pixel). pixel i j (value_at s f i j) ∷ ps) (row-cells j (i + 1) n)

  row-length : (j i n : ℕ) → length (row_from s f j i n) ≡ n
  unfolding row_from
  row-length j i zero = refl
  row-length j i (suc n) = ap suc (row-length j (i + 1) n)

  rows-length : (n : ℕ) → length (rows s f n) ≡ n * f.width
  unfolding rows
  rows-length zero = omega arith
  rows-length (suc n) = length-append (rows s f n) (row_from s f n 0 f.width) ∙ omega (arith, rows-length n, row-length n 0 f.width, add-mul n 1 f.width)

  module _ (mono : f.bytes ≡ 0) where
    value-bit : (i j : ℕ) → value_at s f i j ≡ bit_of (data_byte s (j * f.step + i / 8)) (i % 8)
    unfolding value_at
    value-bit i j = rw (eq-eqb f.bytes 0 mono)

    -- the pixels that one byte of the data holds
    byte-touched : (p : Plain) (j i m : ℕ) → i % 8 ≡ 0 → m ≤ 8 → origin ≤ f.x
        → byte_touches p (data_byte s (j * f.step + i / 8)) 0 (f.x + i - origin) (across false (f.x + i - origin) m (f.y + j - origin)) ≡ mono_touches p f (row_from s f j i m)
    byte-touched p j i m starts few low =
        bits-touched p f (λ a. value_at s f a j) (data_byte s (j * f.step + i / 8)) 0 j i m (omega arith)
        (λ q h.
        let a : (i + q) / 8 ≡ i / 8 = omega arith in
        let b : (i + q) % 8 ≡ 0 + q = omega arith in
        sym (value-bit (i + q) j ∙ ap₂ (λ (c k : ℕ). bit_of (data_byte s (j * f.step + c)) k) a b))
        ∙ ap (mono_touches p f) (sym (row-cells j i m))

-- ---- a whole blit inside the clip
module _ {p : Plain} {c : Clip} {feed : Feed} {len taken n : ℕ} (open' : Opened (plain_ink p) c feed len) (w : Whole p c feed taken n) where
  inside : (i j : ℕ) → i < feed.width → j < feed.height → in_clip c (feed.x + i) (feed.y + j) ≡ true
  inside i j a b =
      let l = in-clip c feed.x feed.y w.start in
      let r = in-clip c (feed.x + (feed.width - 1)) (feed.y + (feed.height - 1)) w.end in
      clip-in c (feed.x + i) (feed.y + j)
      (record { left = omega (arith, l.left); right = omega (arith, r.right); top = omega (arith, l.top); bottom = omega (arith, r.bottom) })

  pub whole-glyph : Glyph p feed len n
  unfolding plain_ink
  whole-glyph =
      let l = in-clip c feed.x feed.y w.start in
      let r = in-clip c (feed.x + (feed.width - 1)) (feed.y + (feed.height - 1)) w.end in
      record {
        rows = open'.rows;
        mono = w.mono;
        all = w.all;
        colour = open'.colour;
        flat = w.flat;
        left = omega (arith, l.left);
        top = omega (arith, l.top);
        right = omega (arith, r.right, open'.bits12.right);
        bottom = omega (arith, r.bottom, open'.bits12.bottom);
        on = λ i j a b. open'.covered.on i j a b (inside i j a b);
      }

  module _ (fore : p.fore < 2 ^ 32) (back : p.back < 2 ^ 32) where
    rows-drawn : (s : ℕ → ℕ) (k : ℕ) (st : State) → k ≤ feed.height → paint p.target (mono_touches p feed (rows s feed k)) st ≡ drawn (plain_ink p) [] c feed (rows s feed k) st
    unfolding rows paint plain_ink host_touches
    rows-drawn s zero st l = refl
    rows-drawn s (suc k) st l =
        painted-append p feed (rows s feed k) (row_from s feed k 0 feed.width) st
        ∙ ap (paint p.target (mono_touches p feed (row_from s feed k 0 feed.width))) (rows-drawn s k st (omega arith))
        ∙ rw (row-cells s feed k 0 feed.width)
        (cells-drawn p c feed w.mono fore back (λ a. value_at s feed a k) k feed.width 0 _ (λ a lo hi. inside a k (omega arith) (omega arith))
        (λ a lo hi. rw (value-bit s feed w.mono a k) (omega arith)))
        ∙ sym (drawn-append (plain_ink p) [] c feed (rows s feed k) (row_from s feed k 0 feed.width) st)

    pub whole-drawn : (last : ℕ) (ws : List ℕ) (st : State) → length ws ≡ n → last < 2 ^ 32 → ((i : ℕ) → word_in ws i < 2 ^ 32)
        → paint p.target (mono_touches p feed (rows (word_in ws) feed feed.height)) st ≡ drawn (plain_ink p) [] c feed (by_run feed last ws taken) st
    unfolding by_words
    whole-drawn last ws st long small words =
        let d : Data (word_in ws) feed = record { held = open'.rows; words = words } in
        let prior : Prior (word_in ws) 0 last = record { word = λ h. absurd (omega arith); small = small } in
        let all : by_run feed last ws 0 ≡ rows (word_in ws) feed feed.height =
        run-words (word_in ws) feed d ws 0 last prior (λ k _. ap (word_in ws) (zero-add k)) ∙ ap (by_words (word_in ws) feed) (zero-add (length ws) ∙ long ∙ w.all) ∙ all_words (word_in ws) feed d w.some in
        rows-drawn (word_in ws) feed.height st (omega arith) ∙ rw w.first (ap (λ (ps : List Pixel). drawn (plain_ink p) [] c feed ps st) (sym all))

-- ---- a blit on its target
module _ {p : Plain} {feed : Feed} {len n : ℕ} (g : Glyph p feed len n) where
  -- the byte of a pixel is one of the data
  pub glyph-byte : (i j : ℕ) → i < feed.width → j < feed.height → (j * feed.step + i / 8) / 4 < n
  unfolding last_byte_of
  glyph-byte i j a b = rw (g.all, ← mono-column feed i g.mono) (in-time feed g.rows i j a b)

  -- and where its row begins can be worked out
  pub glyph-row : (j : ℕ) → j < feed.height → j * feed.step < 2 ^ 30
  glyph-row j b = product_lt 13 17 {a = j} {b = feed.step} (omega (arith, g.rows.sizes.height)) g.rows.sizes.step

  -- its place on the target
  pub glyph-on : (j q : ℕ) → feed.x - origin ≤ q → q < feed.x + feed.width - origin → j < feed.height → OnColour p.target len q (feed.y + j - origin)
  glyph-on j q l h b =
      let e : feed.x + (q + origin - feed.x) - origin ≡ q = omega (arith, g.left) in
      rw e at (g.on (q + origin - feed.x) j (omega (arith, g.left)) b)

-- ---- the loop over row j, the pixels before column i done
pub record LineDone (p : Plain) (feed : Feed) (s : ℕ → ℕ) (j : ℕ) (m₀ : List ℕ) (n : Tally) (i : ℕ) (m : List ℕ) (r : Tally) : Type 0 where
  pub done : Done p feed (row_from s feed j 0 i) m₀ n m r
  pub within : i ≤ feed.width
  pub starts : i < feed.width → i % 8 ≡ 0

module _ {p : Plain} {feed : Feed} {s : ℕ → ℕ} {j : ℕ} {m₀ : List ℕ} {n : Tally} where
  pub line-begins : LineDone p feed s j m₀ n 0 m₀ n
  unfolding row_from paint
  line-begins = record { done = record { painted = refl }; within = omega arith; starts = λ _. refl }

  module _ {i : ℕ} {m : List ℕ} {r : Tally} (now : LineDone p feed s j m₀ n i m r) where
    pub line-room : (k : ℕ) → Room n feed.width → i + k ≤ feed.width → Room r k
    line-room k room fits = room-left room (done-upto now.done) (omega (arith, row-length s feed j 0 i))

    -- the k pixels from column x of the target on are in memory
    pub line-on : {l x : ℕ} → Glyph p feed (length m₀) l → (k : ℕ) → x ≡ feed.x + i - origin → i + k ≤ feed.width → j < feed.height → (q : ℕ) → x ≤ q → q < x + k → OnColour p.target (length m) q (feed.y + j - origin)
    line-on g k column fits below q low high = rw (done-long now.done) (glyph-on g j q (omega arith) (omega (arith, column, fits, g.left)) below)

    -- k pixels of one byte: byte o of the data, from column x of the target on
    pub line-takes : {len l : ℕ} → Glyph p feed len l → ((a : ℕ) → s a < 2 ^ 32) → (k : ℕ) {i' o x : ℕ} {m' : List ℕ} {r' : Tally} → i' ≡ i + k → o ≡ j * feed.step + i / 8 → x ≡ feed.x + i - origin
        → i < feed.width → i + k ≤ feed.width → k ≤ 8 → (i + k < feed.width → k ≡ 8)
        → tallied m' r' ≡ paint p.target (byte_touches p (data_byte s o) 0 x (across false x k (feed.y + j - origin))) (tallied m r)
        → LineDone p feed s j m₀ n i' m' r'
    line-takes g small k next byte column more fits few all put = rw next record {
      done = done_more now.done (row_from s feed j i k)
          (ap (λ (a : ℕ). row_from s feed j 0 i ++ row_from s feed j a k) (sym (zero-add i)) ∙ row-append s feed (record { held = g.rows; words = small }) j 0 i k)
          (rw (byte, column) at put ∙ ap (λ (ts : List Touch). paint p.target ts (tallied m r)) (byte-touched s feed g.mono p j i k (now.starts more) few g.left));
      within = fits;
      starts = λ l. omega (arith, all l, now.starts more);
    }

    pub line-ended : feed.width ≤ i → tallied m r ≡ paint p.target (mono_touches p feed (row_from s feed j 0 feed.width)) (tallied m₀ n)
    line-ended all = let e : i ≡ feed.width = omega (arith, now.within) in rw e at now.done.painted

-- ---- the loop over the rows, those before row j done
pub record RowsDone (p : Plain) (feed : Feed) (s : ℕ → ℕ) (m₀ : List ℕ) (j : ℕ) (m : List ℕ) (r : Tally) : Type 0 where
  pub done : Done p feed (rows s feed j) m₀ (tally 0 0) m r
  pub within : j ≤ feed.height

module _ {p : Plain} {feed : Feed} {s : ℕ → ℕ} {m₀ : List ℕ} where
  pub rows-begin : RowsDone p feed s m₀ 0 m₀ (tally 0 0)
  unfolding rows paint
  rows-begin = record { done = record { painted = refl }; within = omega arith }

  module _ {j : ℕ} {m : List ℕ} {r : Tally} (now : RowsDone p feed s m₀ j m r) where
    pub rows-room : Sizes feed → j < feed.height → Room r feed.width
    rows-room sizes more = room-first (done-upto now.done) (omega (arith, rows-length s feed j, product_lt 13 13 {a = j} {b = feed.width} (omega (arith, sizes.height)) sizes.width, sizes.width))

    pub rows_take : {m' : List ℕ} {r' : Tally} → j < feed.height
        → tallied m' r' ≡ paint p.target (mono_touches p feed (row_from s feed j 0 feed.width)) (tallied m r) → RowsDone p feed s m₀ (j + 1) m' r'
    unfolding rows
    rows_take more put = record { done = done_more now.done (row_from s feed j 0 feed.width) (rw add-one) put; within = omega arith }

    pub rows-ended : feed.height ≤ j → tallied m r ≡ paint p.target (mono_touches p feed (rows s feed feed.height)) (state m₀ 0 0)
    rows-ended all = let e : j ≡ feed.height = omega (arith, now.within) in rw e at now.done.painted

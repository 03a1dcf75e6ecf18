-- Masks repeated: one period more of a row, and one row more.
-- Assumes nothing.
use mathlib.Core.Path.{◌≡◌, sym, ap, subst, ◌∙◌}
use mathlib.Core.List.{List}
use Prim.Native.Nat.{ℕ, ◌+◌, ◌-◌, ◌*◌, ◌%◌, ◌<◌, ◌≤◌}
use native.Mathlib.Nat.{zero-add, mod-lt, mod_self, mod-eq_of_lt, mod-add-mod}
use native.Mathlib.Omega.{arith}
use native.Mathlib.Decide.{ℕ_discrete, dec_lt}
use borrow.Author.Rules.{rules}
use borrow.Rule.Slice.PartMut.{put_mid}
use lib.ListN.{length, get_or, take, drop}
use Rattle.std.proofs.lemmas.List.{places, length-take, length-drop}
use Rattle.surface.proofs.Lists.{by_cases}
use Rattle.wash.specs.Wash.{Repeated, Widened}

-- ---- where the masks begin again
pub again_next : (i period : ℕ) → i % period ≡ 0 → (i + period) % period ≡ 0
again_next i period e = sym (mod-add-mod i period period) ∙ ap (λ (n : ℕ). (n + period) % period) e ∙ rw zero-add (mod_self period)

-- ---- one period more, or what there is room for
part-below : (a k j : ℕ) (xs ys : List ℕ) → j < a → a ≤ length xs → get_or (put_mid a k xs ys) j 0 ≡ get_or xs j 0
part-below a k j xs ys l u = search (rules, places)

part-inside : (a k j : ℕ) (xs ys : List ℕ) → j < length ys → a ≤ length xs → get_or (put_mid a k xs ys) (a + j) 0 ≡ get_or ys j 0
part-inside a k j xs ys l u = search (rules, places)

pub repeated_more : {masks m : List ℕ} {i n : ℕ} (k d : ℕ) (ys : List ℕ) → Repeated masks i m → ((q : ℕ) → q < k → get_or ys q 0 ≡ get_or masks q 0) → k ≤ length ys → i % length masks ≡ 0 → k ≤ length masks → i + k ≡ n
    → n ≤ length m → Repeated masks n (put_mid i d m ys)
repeated_more {masks} {m} {i} {n} k d ys before part long whole short end room =
    record {
      bytes = λ j l.
          by_cases (dec_lt j i)
          (λ low. part-below i d j m ys low (omega arith) ∙ before.bytes j low)
          (λ high.
          let q = j - i in
          let on : j ≡ i + q = omega arith in
          let place : j % length masks ≡ q =
          ap (λ (x : ℕ). x % length masks) on ∙ sym (mod-add-mod i (length masks) q) ∙ ap (λ (x : ℕ). (x + q) % length masks) whole ∙ rw zero-add (mod-eq_of_lt (omega arith)) in
          rw place (ap (λ (x : ℕ). get_or (put_mid i d m ys) x 0) on ∙ part-inside i d q m ys (omega arith) (omega arith) ∙ part q (omega arith)));
    }

-- ---- one row more
of-table : (table : List ℕ) (first d q : ℕ) → q < d → get_or (take d (drop first table)) q 0 ≡ get_or table (first + q) 0
of-table table first d q l = search (rules, places)

pub widened_more : {table masks m ys : List ℕ} {r period n e : ℕ} (d : ℕ) → n ≤ 160 → Widened table r period n m → Repeated masks e ys → masks ≡ take period (drop (r * period) table)
    → 0 < period → r * period + period ≤ length table → e ≡ n → length ys ≡ n → r * 160 + n ≤ length m → Widened table (r + 1) period n (put_mid (r * 160) d m ys)
widened_more {table} {masks} {m} {ys} {r} {period} {n} d few rows row of some held all long room =
    let size : length masks ≡ period = omega (arith, simp (length-take, length-drop) at (ap length of)) in
    record {
      bytes = λ k i l u.
          by_cases (ℕ_discrete k r)
          (λ e. subst (λ (q : ℕ). get_or (put_mid (r * 160) d m ys) (q * 160 + i) 0 ≡ get_or table (q * period + i % period) 0) (sym e)
          (part-inside (r * 160) d i m ys (omega arith) (omega arith) ∙ row.bytes i (omega arith) ∙ ap (λ (x : ℕ). get_or masks (i % x) 0) size
          ∙ ap (λ (x : List ℕ). get_or x (i % period) 0) of ∙ of-table table (r * period) period (i % period) (mod-lt i some)))
          (λ e. part-below (r * 160) d (k * 160 + i) m ys (omega arith) (omega arith) ∙ rows.bytes k i (omega arith) u);
    }

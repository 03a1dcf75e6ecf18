-- What a screen copy leaves, done in its order: what the older rule says where it shares no pixel with its source and where its source is not behind; and the
-- smear of one column.
-- Assumes nothing.
use mathlib.Core.Path.{◌≡◌, sym, ap, subst, ◌∙◌}
use mathlib.Core.Bool.{Bool, true, false, cond, ◌&&◌}
use mathlib.Core.List.{List, [], ◌∷◌}
use mathlib.Core.Option.{Option, none, some}
use Prim.Native.Nat.{ℕ}
use native.Mathlib.Omega.{arith}
use lib.Dec.{eqb}
use lib.ListN.{length}
use Rattle.surface.specs.Place.{read_px}
use Rattle.paint.specs.Paint.{State, state, Touch, paint}
use Rattle.sweep.specs.Copy.{in_turn}
use Rattle.registers.specs.declared.Regs.{Regs}
use Rattle.registers.specs.declared.Place.{Place}
use Rattle.registers.specs.declared.Place.TheVariants.{Register, Pattern, Launch, Nowhere}
use Rattle.registers.specs.Offsets.{place_of}
use Rattle.bank.specs.Bank.{stored}
use Rattle.command.specs.Decode.{target, copy_task}
use Rattle.cuts.specs.Cut.{bit, number, copy_order}
use Rattle.table.specs.Table.{copy_verdict}
use Rattle.acts.proofs.Cases.{by-test}
use Rattle.acts.proofs.Order.{none-shared, not_behind, spread}
use Rattle.engine.specs.declared.Engine.{Engine}
use Rattle.engine.specs.Step.{written, count_of, changed_of, regs, stored_in}
use Rattle.engine.specs.Orders.{order_at, launching, carried_touches, launched_touches, touches_at, touches_of}
use Rattle.engine.specs.Promises.{row1, row2, row3, Copies, CopiesAsBefore, SourceAhead, Smears}
use Rattle.engine.proofs.Short.{copy_touches}
use Rattle.engine.proofs.Orders.{launch-number, launch-copy, the_same, nothing-ordered}
use Rattle.engine.proofs.Commands.{first_of, PaintingOf, later_rows, row-copy, write-written}

-- ---- what a copy touches
carried-copy : (e : Engine) (m : List ℕ) → number (regs e) ≡ 1 → carried_touches e m ≡ copy_touches e
unfolding carried_touches
carried-copy e m n = rw n

launched-copy : (e : Engine) (m : List ℕ) (d : ℕ) → number (regs e) ≡ 1 → launched_touches e m d ≡ copy_touches (stored_in e 0x5c d)
unfolding launched_touches
launched-copy e m d n = rw n

abbrev Touched : Engine → List Touch → Regs → Type 0
Touched e ts r = ts ≡ in_turn (copy_task r) e.bank.pattern (copy_order r)

place-copies : (p : Place) (e : Engine) (m : List ℕ) (o d : ℕ) (r : Regs) → order_at p e o d ≡ some r → number r ≡ 1 → Touched e (touches_at p e m o d) r
unfolding stored_in stored
place-copies Register e m o d r =
    let command = stored_in e 0x70 d in
    by-test (λ t. cond t (some (regs command)) none ≡ some r → number r ≡ 1 → Touched e (cond t (carried_touches command m) []) r) (eqb o 0x70 && bit d 8)
    (λ _ h n. let same = the_same (regs command) r h in
    subst (Touched e (carried_touches command m)) same (carried-copy command m (ap number same ∙ n))) (λ _. nothing-ordered r)
place-copies (Pattern i) e m o d r = nothing-ordered r
place-copies Launch e m o d r = λ h n.
    let same = the_same (launching e d) r h in
    let one : number (regs e) ≡ 1 = sym (launch-number e d) ∙ ap number same ∙ n in
    subst (Touched e (launched_touches e m d)) (sym (launch-copy e d one) ∙ same) (launched-copy e m d one)
place-copies Nowhere e m o d r = nothing-ordered r

-- ---- a taken write's command is one that no row refuses
none-refuses : (a b c : Bool) (rest : List Bool) → first_of 1 (a ∷ b ∷ c ∷ rest) ≡ 0 → first_of 4 rest ≡ 0
unfolding first_of
none-refuses true b c rest z = let one : ◌≡◌ {A = ℕ} 1 0 = z in absurd (omega arith)
none-refuses false true c rest z = let two : ◌≡◌ {A = ℕ} 2 0 = z in absurd (omega arith)
none-refuses false false true rest z = let three : ◌≡◌ {A = ℕ} 3 0 = z in absurd (omega arith)
none-refuses false false false rest z = z

-- no row refuses it, and it has painted in its order
copy_done : (e : Engine) (m : List ℕ) (o d : ℕ) (r : Regs) → Copies e m o d r
    → (copy_verdict r (length m) ≡ 0)
    × (state (written e m o d).memory (count_of (written e m o d).answer) (changed_of (written e m o d).answer) ≡ paint (target r) (in_turn (copy_task r) e.bank.pattern (copy_order r)) (state m 0 0))
copy_done e m o d r c =
    let w = write-written e m o d in
    let painting = subst (λ (k : Option Regs). PaintingOf k (touches_of e m o d) m (written e m o d)) c.carries (w.paints c.taken) in
    let first : first_of 1 (row1 e (length m) ∷ later_rows (row2 (place_of o)) (row3 (place_of o) e o) (some r) (length m)) ≡ 0 =
    subst (λ (k : Option Regs). first_of 1 (row1 e (length m) ∷ later_rows (row2 (place_of o)) (row3 (place_of o) e o) k (length m)) ≡ 0) c.carries (sym w.number ∙ c.taken) in (
      sym (row-copy r (length m) c.copy) ∙ none-refuses (row1 e (length m)) (row2 (place_of o)) (row3 (place_of o) e o) _ first,
      (λ i. state (painting.memory i) (painting.count i) (painting.changed i))
          ∙ ap (λ (ts : List Touch). paint (target r) ts (state m 0 0)) (place-copies (place_of o) e m o d r c.carries c.copy),
    )

-- ---- the promises
pub copies-as-before : CopiesAsBefore
copies-as-before e m o d r c apart = let k = copy_done e m o d r c in k.1 ∙ none-shared r e.bank.pattern m k.0 apart

pub source-ahead : SourceAhead
source-ahead e m o d r c ahead = let k = copy_done e m o d r c in k.1 ∙ not_behind r e.bank.pattern m k.0 ahead.row ahead.column

pub column-smears : Smears
column-smears e m o d r c b bytes p i =
    let k = copy_done e m o d r c in
    ap (λ (st : State). read_px st.mem (target r) p.x p.y) k.1
    ∙ spread r e.bank.pattern m k.0 b.operation b.source_key b.target_key b.surface b.from_left b.column b.row bytes p i

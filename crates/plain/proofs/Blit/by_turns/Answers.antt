-- `plain::Blit::by_turns` meets its contract: each turn draws the pixels that its words finish.
-- Assumes nothing.
use native.Mathlib.Omega.{arith}
use mathlib.Core.Path.{◌≡◌, ap, subst, ◌∙◌}
use mathlib.Core.List.{List, []}
use Prim.Native.Nat.{ℕ, ◌+◌, ◌-◌, ◌<◌, ◌≤◌}
use lib.ListN.{length, take, drop, get_or, length-drop}
use lib.Seq.{get_or-take, get_or-drop, length-take-le, take_all}
use Rattle.host.specs.Host.{last_of}
use Rattle.host.proofs.Runs.{RunLeft, run-begins, run_room, run-takes, run-ended, last_some}
use Rattle.plain.specs.Plain.{plain_ink}
use Rattle.plain.proofs.Blit.by_turns.Goals as goal
use Rattle.plain.proofs.Blit.by_turns.Goals.{After-take_some-t}

-- ---- the words from number i on, and the last of n of them
rest : (ws : List ℕ) (i : ℕ) → take (length ws - i) (drop i ws) ≡ drop i ws
rest ws i = take_all (length ws - i) (drop i ws) (omega (arith, length-drop i ws))

last-of : (ws : List ℕ) (i n last : ℕ) → 0 < n → i + n ≤ length ws → last_of last (take n (drop i ws)) ≡ get_or ws (i + n - 1) 0
last-of ws i n last some fits =
    let long : length (take n (drop i ws)) ≡ n = length-take-le n (drop i ws) (omega (arith, length-drop i ws)) in
    let e : i + (n - 1) ≡ i + n - 1 = omega arith in
    last_some (take n (drop i ws)) last (omega (arith, long)) ∙ ap (λ (k : ℕ). get_or (take n (drop i ws)) (k - 1) 0) long
    ∙ get_or-take n (drop i ws) (n - 1) 0 (omega arith) ∙ get_or-drop i ws (n - 1) 0 ∙ ap (λ (k : ℕ). get_or ws k 0) e

pub loop-i-init : goal.loop-i-init
loop-i-init c = run-begins

pub overflow_cast-i : goal.overflow_cast-i
overflow_cast-i c = omega (arith, c.requires.few)

pub overflow_add-taken : goal.overflow_add-taken
overflow_add-taken c = omega (arith, c.requires.few)

pub offset_bounds-words-i : goal.offset_bounds-words-i
offset_bounds-words-i c = omega (arith, c.requires.short)

pub take_some-t-requires : goal.take_some-t-requires
take_some-t-requires c =
    let now = c.loop-i.invariant in
    let ws = c.args.words.now in
    let i = c.loop-i.i in
    let more : i < length ws = c.loop-i-test.true in
    rw (rest ws i, length-drop i ws, now.left.long)
    (record { opened = c.requires.opened; few = omega (arith, c.requires.few); short = omega (arith, c.requires.short) }, (omega arith, run_room now (length ws - i) c.requires.short (omega arith)))

took : (c : After-take_some-t) → (0 < c.take_some-t.result.taken) × (c.loop-i.i + c.take_some-t.result.taken ≤ length c.args.words.now)
took c =
    let ws = c.args.words.now in
    let i = c.loop-i.i in
    let e = c.take_some-t.ensures in
    (e.0, omega (arith, e.1.0, ap length (rest ws i), length-drop i ws, c.loop-i.invariant.within))

pub overflow_add-i : goal.overflow_add-i
overflow_add-i c = omega (arith, took (goal.at.overflow_add-i c).After-take_some-t, c.requires.short)

pub overflow_sub-before : goal.overflow_sub-before
overflow_sub-before c = omega (arith, took (goal.at.overflow_sub-before c).After-take_some-t)

pub offset_bounds-words-i-in-loop-i : goal.offset_bounds-words-i-in-loop-i
offset_bounds-words-i-in-loop-i c = omega (arith, took (goal.at.offset_bounds-words-i-in-loop-i c).After-take_some-t, c.requires.short)

pub bounds-words-i : goal.bounds-words-i
bounds-words-i c = omega (arith, took (goal.at.bounds-words-i c).After-take_some-t)

pub loop-i-smaller : goal.loop-i-smaller
loop-i-smaller c = omega (arith, took (goal.at.loop-i-smaller c).After-take_some-t, c.loop-i-test.true)

pub loop-i-preserved : goal.loop-i-preserved
loop-i-preserved c =
    let l = c.loop-i in
    let a = c.args in
    let t = c.take_some-t in
    let k = took (goal.at.loop-i-preserved c).After-take_some-t in
    subst (λ (b : ℕ). RunLeft (plain_ink a.self.plain) [] a.self.clip a.self.feed a.last a.words.now a.taken a.mem.now (l.i + t.result.taken) b t.new.mem t.result.n)
    (last-of a.words.now l.i t.result.taken l.before k.0 k.1)
    (run-takes l.invariant c.requires.opened.rows.sizes t.result.taken k.1 (rw (rest a.words.now l.i) at t.ensures.1.1))

pub shape_of-mem : goal.shape_of-mem
shape_of-mem c = c.loop-i.invariant.left.long

pub returns : goal.returns
returns c = run-ended c.loop-i.invariant c.loop-i-test.false

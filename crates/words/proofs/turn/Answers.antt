-- `words::turn` meets its contract: row 1, the words of a host blit, or one of another command.
-- Assumes nothing.
use Rattle.std.proofs.Common.{◌≡◌, ℕ, ◌-◌, ◌<◌, List, length, get_or, take, drop, refl, ap, ◌∙◌, arith}
use Rattle.std.proofs.lemmas.Result.{err_from_is_err_and}
use mathlib.Core.Path.{subst⁻¹}
use Rattle.cuts.specs.Cut.{number}
use Rattle.acts.specs.Fed.{Feeding, feeding_run}
use Rattle.acts.proofs.Laws.{fault-some}
use Rattle.engine.specs.Step.{regs}
use Rattle.words.specs.Words.{Ran}
use Rattle.words.specs.Turn.{sofar}
use Rattle.words.proofs.Laws.{Fits, part-rest, row1-stops, start-stops, start-goes, went-word}
use Rattle.words.proofs.Numbers.{host-number, other-number}
use Rattle.words.proofs.Feeds.{Turned, turned}
use Rattle.words.proofs.turn.Goals.{then-mem-gt16777216-via-then-mem-gt16777216, then-mem-gt16777216-via-else-mem-gt16777216+then-mem-e}
use Rattle.words.proofs.turn.Goals as goal

-- what was fed of the words that are left
was-fed : (ws : List ℕ) (s : Ran) → Fits s → number (regs s.engine) ≡ 3 → s.taken < length ws → {x : Feeding}
    → x ≡ feeding_run s.engine.bank s.engine.blit s.memory (take (length ws - s.taken) (drop s.taken ws)) → Turned ws s x
was-fed ws s fits host some e =
    subst⁻¹ (Turned ws s) (e ∙ ap (feeding_run s.engine.bank s.engine.blit s.memory) (part-rest ws s.taken)) (turned ws s fits host some)

pub returns-then-mem-gt16777216 : goal.returns-then-mem-gt16777216
returns-then-mem-gt16777216 c =
    let a = c.args in
    let s = sofar a.e.now a.mem.now a.sums.now in
    let not_fit : Fits s → ⊥ = λ f.
    let l = f.limit in
    elim c.then-mem-gt16777216.branch [
      | then-mem-gt16777216-via-then-mem-gt16777216 w ↦ omega (arith, w.if-mem-gt16777216.true)
      | then-mem-gt16777216-via-else-mem-gt16777216+then-mem-e w ↦ w.if-mem-e.true f.opened
    ] in
    went-word a.words.now s c.requires (row1-stops s (get_or a.words.now s.taken 0) not_fit)

pub returns-in_err-fed-in-HostBlit : goal.returns-in_err-fed-in-HostBlit
returns-in_err-fed-in-HostBlit c =
    let a = c.args in
    let fits : Fits (sofar a.e.now a.mem.now a.sums.now) = record { limit = c.if-mem-gt16777216.false; opened = c.if-mem-e.false } in
    let fed = was-fed a.words.now (sofar a.e.now a.mem.now a.sums.now) fits (host-number a.e.now.bank.regs c.in-HostBlit.ensures) c.requires c.in_err-fed-in-HostBlit.ensures in
    let r = err_from_is_err_and c.from_residual.result c.from_residual.ensures.1 in
    rw (r.1, r.2) (fed.stops (fault-some c.in_err-fed-in-HostBlit.field-0.0))

pub add-requires : goal.add-requires
add-requires c =
    let a = c.args in
    let fits : Fits (sofar a.e.now a.mem.now a.sums.now) = record { limit = c.if-mem-gt16777216.false; opened = c.if-mem-e.false } in
    let fed = was-fed a.words.now (sofar a.e.now a.mem.now a.sums.now) fits (host-number a.e.now.bank.regs c.in-HostBlit.ensures) c.requires c.in_ok-fed-in-HostBlit.ensures in
    omega (arith, fed.within, c.well_formed.1.1.0)

pub returns-in_ok-fed-in-HostBlit : goal.returns-in_ok-fed-in-HostBlit
returns-in_ok-fed-in-HostBlit c =
    let a = c.args in
    let fits : Fits (sofar a.e.now a.mem.now a.sums.now) = record { limit = c.if-mem-gt16777216.false; opened = c.if-mem-e.false } in
    let fed = was-fed a.words.now (sofar a.e.now a.mem.now a.sums.now) fits (host-number a.e.now.bank.regs c.in-HostBlit.ensures) c.requires c.in_ok-fed-in-HostBlit.ensures in
    rw (c.add.ensures, c.end_feed-e.ensures) (fed.goes refl)

pub returns-in_err-act-in_default : goal.returns-in_err-act-in_default
returns-in_err-act-in_default c =
    let a = c.args in
    let s = sofar a.e.now a.mem.now a.sums.now in
    let fits : Fits s = record { limit = c.if-mem-gt16777216.false; opened = c.if-mem-e.false } in
    let other = other-number a.e.now.bank.regs (λ e. c.in_default.not-HostBlit (c.of.ensures ∙ e)) in
    let r = err_from_is_err_and c.from_residual-in_err-act-in_default.result c.from_residual-in_err-act-in_default.ensures.1 in
    rw (r.1, r.2)
    (went-word a.words.now s c.requires (start-stops s _ fits other c.start.result _ c.start.ensures c.in_err-act-in_default.field-0.0 c.in_err-act-in_default.was))

pub returns-in_ok-act-in_default : goal.returns-in_ok-act-in_default
returns-in_ok-act-in_default c =
    let a = c.args in
    let s = sofar a.e.now a.mem.now a.sums.now in
    let fits : Fits s = record { limit = c.if-mem-gt16777216.false; opened = c.if-mem-e.false } in
    let other = other-number a.e.now.bank.regs (λ e. c.in_default.not-HostBlit (c.of.ensures ∙ e)) in
    rw (c.add-in_default.ensures, c.with_ends-e.ensures a.e.now.bank.pattern)
    (went-word a.words.now s c.requires (start-goes s _ fits other c.start.result _ c.start.ensures c.in_ok-act-in_default.act c.in_ok-act-in_default.was))

-- `trail::walk` meets its contract: by the command's number.
-- Assumes nothing.
use mathlib.Core.Path.{ap, ◌∙◌}
use mathlib.Core.List.{List}
use native.Mathlib.Omega.{arith}
use Rattle.surface.specs.Pixels.{Px}
use Rattle.command.specs.Decode.{target, ink_of}
use Rattle.pages.specs.Pages.{marking}
use Rattle.acts.specs.Deed.{bank_of}
use Rattle.trail.specs.Trail.{sieve_of}
use Rattle.trail.proofs.Sieves.{copy-one, other-one}
use Rattle.trail.proofs.Boxes.{host-asked, host-wet, line-asked, line-wet}
use Rattle.trail.proofs.walk.Goals as goal

pub mark_data-requires : goal.mark_data-requires
mark_data-requires c =
    let a = c.args in
    rw (c.decode_ink-ink.ensures, c.decode_clip-clip.ensures, c.decode_feed-feed.ensures)
    (host-asked (bank_of a.r a.pattern.now) a.blit a.words.now a.mem.now a.count c.requires c.in-3.is)

pub returns-in-3 : goal.returns-in-3
unfolding ink_of
returns-in-3 c =
    let a = c.args in
    c.mark_data.ensures
    ∙ rw (c.decode_ink-ink.ensures, c.decode_clip-clip.ensures, c.decode_feed-feed.ensures)
    (ap (λ (ps : List Px). marking (target a.r) ps a.marks.now)
    (host-wet (bank_of a.r a.pattern.now) a.blit a.words.now a.mem.now a.count c.requires c.in-3.is))

pub mark_dots-requires : goal.mark_dots-requires
mark_dots-requires c =
    let a = c.args in
    rw (c.decode_ink-ink-in-6-to-4294967295.ensures, c.decode_clip-clip-in-6-to-4294967295.ensures, c.decode_line-line.ensures)
    (line-asked (bank_of a.r a.pattern.now) a.blit a.words.now a.mem.now a.count c.requires (omega (arith, c.in-6-to-4294967295.if-this-lt6-own.false)))

pub returns-in-6-to-4294967295 : goal.returns-in-6-to-4294967295
unfolding ink_of
returns-in-6-to-4294967295 c =
    let a = c.args in
    c.mark_dots.ensures
    ∙ rw (c.decode_ink-ink-in-6-to-4294967295.ensures, c.decode_clip-clip-in-6-to-4294967295.ensures, c.decode_line-line.ensures, c.decode_pen-pen.ensures)
    (ap (λ (ps : List Px). marking (target a.r) ps a.marks.now)
    (line-wet (bank_of a.r a.pattern.now) a.blit a.words.now a.mem.now a.count c.requires (omega (arith, c.in-6-to-4294967295.if-this-lt6-own.false))))

pub mark_some-requires : goal.mark_some-requires
mark_some-requires c =
    let a = c.args in
    let s = copy-one (bank_of a.r a.pattern.now) a.blit a.words.now a.mem.now a.count c.requires c.in-1.is in
    rw (c.sieve_of.ensures, c.copy_cut.ensures) (s.can, s.full)

pub returns-in-1 : goal.returns-in-1
unfolding sieve_of
returns-in-1 c =
    let a = c.args in
    let s = copy-one (bank_of a.r a.pattern.now) a.blit a.words.now a.mem.now a.count c.requires c.in-1.is in
    c.mark_some.ensures
    ∙ rw (c.sieve_of.ensures, c.copy_cut.ensures, s.to) (s.same a.marks.now)

pub mark_some-requires-in_default : goal.mark_some-requires-in_default
mark_some-requires-in_default c =
    let a = c.args in
    let s = other-one (bank_of a.r a.pattern.now) a.blit a.words.now a.mem.now a.count c.requires c.in_default.in_default-own.rest.0.1 c.in_default.in_default-own.rest.1
    (omega (arith, c.in_default.if-this-lt6-own.true)) in
    rw (c.sieve_of-in_default.ensures, c.fill_cut.ensures) (s.can, s.full)

pub returns-in_default : goal.returns-in_default
unfolding sieve_of
returns-in_default c =
    let a = c.args in
    let s = other-one (bank_of a.r a.pattern.now) a.blit a.words.now a.mem.now a.count c.requires c.in_default.in_default-own.rest.0.1 c.in_default.in_default-own.rest.1
    (omega (arith, c.in_default.if-this-lt6-own.true)) in
    c.mark_some-in_default.ensures
    ∙ rw (c.sieve_of-in_default.ensures, c.fill_cut.ensures, s.to) (s.same a.marks.now)

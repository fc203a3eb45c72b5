use Rattle.std.proofs.Common.{◌∙◌, sym, ap, get_or, Some, arith}
use Rattle.hg_heap.specs.Held.{is_some_place}
use Rattle.hg_heap.specs.Choice.{blank_on}
use Rattle.hg_heap.proofs.Founds.{found_of, found_is}
use Rattle.hg_heap.proofs.Blanks.{blank_unheld, blank_foreign, none_blank, first_blank, begin_blank}
use Rattle.hg_heap.proofs.heap.Heap.blank_in.Goals as goal

pub returns-in_default-clause-first : goal.returns-in_default-clause-first
returns-in_default-clause-first g c =
    let w = g.S.SlotWords in
    sym (blank_unheld w.number w.records c.args.self.now.segments c.args.arena c.args.class
    c.args.segment c.in_default.ensures.none)

pub returns-then-arena-clause-first : goal.returns-then-arena-clause-first
returns-then-arena-clause-first g c =
    let w = g.S.SlotWords in
    let f = found_of w.number c.args.self.now.segments _ c.in-Some.found c.index-held.result.now
    c.in-Some.ensures.some (c.index-held.ensures
    ∙ ap (λ h. get_or h.segments c.in-Some.found c.index-held.result.now) c.self.view_is) in
    sym (blank_foreign w.number w.records c.args.self.now.segments c.args.arena c.args.class
    c.args.segment c.index-held.result.now (found_is w.number _ _ _ _ f)
    (λ e. c.if-arena.true (c.arena.ensures ∙ e)))

pub returns-in_default-first_begin-clause-first : goal.returns-in_default-first_begin-clause-first
returns-in_default-first_begin-clause-first g c =
    let w = g.S.SlotWords in
    let f = found_of w.number c.args.self.now.segments _ c.in-Some.found c.index-held.result.now
    c.in-Some.ensures.some (c.index-held.ensures
    ∙ ap (λ h. get_or h.segments c.in-Some.found c.index-held.result.now) c.self.view_is) in
    sym (none_blank w.number w.records c.args.self.now.segments c.args.arena c.args.class
    c.args.segment c.index-held.result.now (found_is w.number _ _ _ _ f)
    (sym c.arena.ensures ∙ c.if-arena.false) c.in_default-first_begin.ensures.none)

pub returns-clause-first : goal.returns-clause-first
returns-clause-first g c =
    let w = g.S.SlotWords in
    let f = found_of w.number c.args.self.now.segments _ c.in-Some.found c.index-held.result.now
    c.in-Some.ensures.some (c.index-held.ensures
    ∙ ap (λ h. get_or h.segments c.in-Some.found c.index-held.result.now) c.self.view_is) in
    let here = first_blank w.number w.records c.args.self.now.segments c.args.arena c.args.class
    c.args.segment c.index-held.result.now (found_is w.number _ _ _ _ f)
    (sym c.arena.ensures ∙ c.if-arena.false) c.in-Some-first_begin.page
    c.in-Some-first_begin.ensures.first in
    ap Some (omega (arith, c.from.ensures, c.from-2.ensures)) ∙ sym here

pub returns-clause-blank : goal.returns-clause-blank
returns-clause-blank g c =
    let w = g.S.SlotWords in
    let f = found_of w.number c.args.self.now.segments _ c.in-Some.found c.index-held.result.now
    c.in-Some.ensures.some (c.index-held.ensures
    ∙ ap (λ h. get_or h.segments c.in-Some.found c.index-held.result.now) c.self.view_is) in
    let first = c.in-Some-first_begin.ensures.first in
    ap (λ page. is_some_place (blank_on w.number w.records c.args.self.now.segments c.args.arena
    c.args.class page)) (omega (arith, c.from.ensures, c.from-2.ensures))
    ∙ begin_blank w.number w.records c.args.self.now.segments c.args.arena c.args.class
    c.args.segment c.index-held.result.now (found_is w.number _ _ _ _ f)
    (sym c.arena.ensures ∙ c.if-arena.false) c.in-Some-first_begin.page first.below first.can

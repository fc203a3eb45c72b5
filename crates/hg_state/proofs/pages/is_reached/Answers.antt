use Rattle.std.proofs.Common.{◌≡◌, ◌+◌, ◌-◌, ◌*◌, ◌<◌, refl, ap, ◌∙◌, arith}
use Rattle.std.proofs.lemmas.Bool.{lt-ltb}
use Rattle.hg_size.specs.Runs.{reaches}
use Rattle.hg_machine.specs.State.{class_at}
use Rattle.hg_core.specs.PageClasses.{page_class}
use Rattle.hg_state.proofs.pages.is_reached.Goals as goal

pub returns : goal.returns
returns c =
    let s = c.args.core.now.state in
    let inside : c.args.page - c.args.back < 16 = omega (arith, c.requires.page, c.requires.back) in
    let place : c.args.segment * 16 + (c.args.page - c.args.back) ≡ c.args.segment * 16 + c.args.page - c.args.back = omega (arith, c.requires.back) in
    let there : page_class s c.args.segment (c.args.page - c.args.back) ≡ class_at s (c.args.segment * 16 + (c.args.page - c.args.back)) =
    rw (lt-ltb (c.args.page - c.args.back) 16 inside) refl in
    c.reaches.ensures ∙ ap (λ o. reaches o c.args.back) (c.page_class.ensures ∙ there ∙ ap (class_at s) place)

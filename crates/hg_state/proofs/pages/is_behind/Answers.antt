use Rattle.std.proofs.Common.{◌≡◌, ℕ, ◌+◌, ◌-◌, ◌*◌, ◌%◌, ◌<◌, Bool, sym, ap, ◌∙◌, arith}
use Rattle.std.specs.List.{list_any, range_with_len}
use Rattle.hg_size.specs.Runs.{is_covered, reaches}
use Rattle.hg_machine.specs.State.{State, class_at}
use Rattle.hg_state.specs.Pages.{is_behind}
use Rattle.hg_state.proofs.Texts.{any_found, none_more}
use Rattle.hg_state.proofs.pages.is_behind.Goals as goal

abbrev over : State → ℕ → ℕ → ℕ → Bool
over s segment page back = reaches (class_at s (segment * 16 + page - back)) back

covered_is : (s : State) (segment page : ℕ) → page < 16 → is_behind s segment page ≡ list_any (over s segment page) (range_with_len 1 page)
unfolding is_covered
covered_is s segment page inside =
    let same : (segment * 16 + page) % 16 ≡ page = omega (arith, inside) in
    ap (λ n. list_any (over s segment page) (range_with_len 1 n)) same

next_is : (s : State) (segment page before back : ℕ) (b : Bool) → b ≡ over s segment page back → back ≡ before + 1 → b ≡ over s segment page (1 + before)
next_is s segment page before back b is here =
    let same : back ≡ 1 + before = omega (arith, here) in
    is ∙ ap (over s segment page) same

pub is_reached-requires-clause-back : goal.is_reached-requires-clause-back
is_reached-requires-clause-back c = omega (arith, c.loop-before-test.true, c.loop-before.auto.before-end)

pub returns-then-is_reached : goal.returns-then-is_reached
returns-then-is_reached c =
    let s = c.args.core.now.state in
    let below : c.loop-before.before < c.args.page = omega (arith, c.loop-before-test.true, c.loop-before.auto.before-end) in
    sym (covered_is s c.args.segment c.args.page c.requires
    ∙ any_found (over s c.args.segment c.args.page) 1 c.loop-before.before c.args.page below
    (sym (next_is s c.args.segment c.args.page c.loop-before.before (c.loop-before.before + 1) c.is_reached.result c.is_reached.ensures (omega arith)) ∙ c.if-is_reached.true))

pub loop-before-preserved : goal.loop-before-preserved
loop-before-preserved c =
    let s = c.args.core.now.state in
    none_more (over s c.args.segment c.args.page) 1 c.loop-before.before c.is_reached.result c.loop-before.invariant
    (next_is s c.args.segment c.args.page c.loop-before.before (c.loop-before.before + 1) c.is_reached.result c.is_reached.ensures (omega arith)) c.if-is_reached.false

pub returns : goal.returns
returns c =
    let s = c.args.core.now.state in
    let ends : c.loop-before.before ≡ c.args.page = omega (arith, c.loop-before-test.false, c.loop-before.auto.before-end) in
    sym (covered_is s c.args.segment c.args.page c.requires
    ∙ ap (λ n. list_any (over s c.args.segment c.args.page) (range_with_len 1 n)) (sym ends) ∙ c.loop-before.invariant)

use Rattle.std.proofs.Common.{◌≡◌, ◌∙◌, ◌++◌, ◌∷◌, [], map, refl, sym, ap, subst}
use Rattle.hg_trace.specs.Stored.{IsStore, Says, line_in, lines_in}
use Rattle.hg_trace.specs.Labels.{with_label}
use Rattle.hg_trace.proofs.StoreSteps.{given_behind, label_keeps, label_gain, store_grows, store_gains, lines_gain, grown}
use Rattle.hg_trace.proofs.trace.Trace.push.Goals as goal

pub invariant_of-self : goal.invariant_of-self
invariant_of-self c =
    let old = c.self.inside in
    store_grows old.names c.stored.new.self old.labels old.labels (grown old.names c.stored.new.self c.stored.ensures.grows) (λ n e. refl)
    old.lines.items old.firsts.items c.self.invariant refl

pub invariant_of-self-in_err-reserve : goal.invariant_of-self-in_err-reserve
invariant_of-self-in_err-reserve c =
    let old = c.self.inside in
    subst (λ lines. IsStore (record { names = c.stored.new.self; labels = old.labels; lines = lines }) old.firsts.items) (sym c.reserve.ensures.items)
    (store_grows old.names c.stored.new.self old.labels old.labels (grown old.names c.stored.new.self c.stored.ensures.grows) (λ n e. refl)
    old.lines.items old.firsts.items c.self.invariant refl)

pub invariant_of-self-in_err-add : goal.invariant_of-self-in_err-add
invariant_of-self-in_err-add c =
    let old = c.self.inside in
    subst (λ lines. IsStore (record { names = c.stored.new.self; labels = c.add.new.self; lines = lines }) old.firsts.items) (sym c.reserve.ensures.items)
    (subst (λ labels. IsStore (record { names = c.stored.new.self; labels = labels; lines = old.lines.items }) old.firsts.items) (sym c.in_err-add.ensures.kept)
    (store_grows old.names c.stored.new.self old.labels old.labels (grown old.names c.stored.new.self c.stored.ensures.grows) (λ n e. refl)
    old.lines.items old.firsts.items c.self.invariant refl))

pub invariant_of-self-then-not-branch : goal.invariant_of-self-then-not-branch
invariant_of-self-then-not-branch c =
    let old = c.self.inside in
    subst (λ lines. IsStore (record { names = c.stored.new.self; labels = c.add.new.self; lines = lines }) old.firsts.items) (sym c.reserve.ensures.items)
    (subst (λ labels. IsStore (record { names = c.stored.new.self; labels = labels; lines = old.lines.items }) old.firsts.items) (sym (c.in_ok-add.ensures.known c.if-not-branch.true))
    (store_grows old.names c.stored.new.self old.labels old.labels (grown old.names c.stored.new.self c.stored.ensures.grows) (λ n e. refl)
    old.lines.items old.firsts.items c.self.invariant refl))

pub invariant_of-self-2 : goal.invariant_of-self-2
invariant_of-self-2 c =
    let old = c.self.inside in
    let line = c.args.line.now in
    let labels' = with_label old.labels line.command in
    let added = c.in_ok-add.ensures.ok c.if-not-branch.false in
    let says = subst (λ number. Says c.stored.new.self number line.command c.in_ok-command.command) c.count.ensures c.in_ok-command.ensures.says in
    let gained = store_gains old.names c.stored.new.self old.labels labels' (grown old.names c.stored.new.self c.stored.ensures.grows) (label_keeps old.labels line.command)
    old.lines.items old.firsts.items c.self.invariant line c.in_ok-number.number c.in_ok-command.command c.in_ok-number.ensures.ok says
    (given_behind old.labels line.command) (label_gain old.labels line.command) in
    let items : c.push_reserved.new.self.items ≡ old.lines.items ++ record { number = c.in_ok-number.number; worker = line.worker; command = c.in_ok-command.command } ∷ [] =
    c.push_reserved.ensures.items ∙ ap (λ lines. lines ++ record { number = c.in_ok-number.number; worker = line.worker; command = c.in_ok-command.command } ∷ []) c.reserve.ensures.items in
    subst (λ lines. IsStore (record { names = c.stored.new.self; labels = c.add.new.self; lines = lines }) c.note_first.new.firsts.items) (sym items)
    (subst (λ labels. IsStore (record { names = c.stored.new.self; labels = labels; lines = old.lines.items ++ record { number = c.in_ok-number.number; worker = line.worker; command = c.in_ok-command.command } ∷ [] }) c.note_first.new.firsts.items) (sym added)
    (subst (λ firsts. IsStore (record { names = c.stored.new.self; labels = labels'; lines = old.lines.items ++ record { number = c.in_ok-number.number; worker = line.worker; command = c.in_ok-command.command } ∷ [] }) firsts) (sym c.note_first.ensures) gained))

pub returns-clause-lines : goal.returns-clause-lines
returns-clause-lines c =
    let old = c.self.inside in
    let line = c.args.line.now in
    let labels' = with_label old.labels line.command in
    let added = c.in_ok-add.ensures.ok c.if-not-branch.false in
    let says = subst (λ number. Says c.stored.new.self number line.command c.in_ok-command.command) c.count.ensures c.in_ok-command.ensures.says in
    let gained = lines_gain old.names c.stored.new.self old.labels labels' (grown old.names c.stored.new.self c.stored.ensures.grows) (label_keeps old.labels line.command)
    old.lines.items old.firsts.items c.self.invariant line c.in_ok-number.number c.in_ok-command.command c.in_ok-number.ensures.ok says
    (given_behind old.labels line.command) in
    let items : c.push_reserved.new.self.items ≡ old.lines.items ++ record { number = c.in_ok-number.number; worker = line.worker; command = c.in_ok-command.command } ∷ [] =
    c.push_reserved.ensures.items ∙ ap (λ lines. lines ++ record { number = c.in_ok-number.number; worker = line.worker; command = c.in_ok-command.command } ∷ []) c.reserve.ensures.items in
    ap (λ lines. map (line_in c.stored.new.self c.add.new.self) lines) items ∙ (ap (λ labels. map (line_in c.stored.new.self labels) (old.lines.items ++ record { number = c.in_ok-number.number; worker = line.worker; command = c.in_ok-command.command } ∷ [])) added
    ∙ (gained ∙ ap (λ store. lines_in store ++ line ∷ []) c.self.view_is))

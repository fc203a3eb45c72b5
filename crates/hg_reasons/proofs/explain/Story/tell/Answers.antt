use Rattle.std.proofs.Common.{◌++◌, ℕ, List, Option, ap, ◌∙◌}
use Rattle.std.specs.Prelude.{nat_lt}
use Rattle.std.proofs.lemmas.Result.{on_ok_weaker}
use Rattle.hg_labels.specs.Indexes.{texts}
use Rattle.hg_trace.specs.Stored.{line_in}
use Rattle.hg_reasons.specs.Past.{Past, past_after}
use Rattle.hg_reasons.specs.Explaining.{Story, story_after, words_of}
use Rattle.hg_reasons.specs.Forms.{line_told}
use Rattle.hg_reasons.specs.Wording.{left_after}
use Rattle.hg_reasons.proofs.explain.Story.tell.Goals as goal

-- what is noted, what is appended, the words of that, and their reason
pub returns : goal.returns
returns c =
    on_ok_weaker c.note.result
    (λ noted labels.
    let names = texts c.args.names.now in
    let says = line_in names labels c.args.line.now in
    let s = c.args.core.now.state in
    let told = c.args.told in
    let text = c.args.text.now in
    let reply = c.args.reply.now in
    let past = c.self.inside.past in
    let front = c.self.inside.text.items in
    let form = c.self.inside.form in
    let left = c.self.inside.left in
    let story : ℕ → Past → List ℕ → Story = λ n p t. record { form = form; left = n; past = p; text = t } in
    let after = past_after past says.number says.command told in
    let told_with : Option (List ℕ) → List ℕ = λ w. front ++ line_told form says.number text told reply w in
    let now = c.left_after-self-inside.result in
    let why = c.reason_of-reason.result in
    ap (λ p. story now p c.push_told.new.out.items) (noted names labels)
    ∙ ap (λ t. story now after t) c.in_ok-push_told.ensures
    ∙ ap (λ w. story now after (told_with w)) (c.in_ok-words.ensures labels)
    ∙ ap (λ p. story now after (told_with (words_of p says (nat_lt 0 left) why))) c.policy.ensures.value
    ∙ ap (λ n. story n after (told_with (words_of s.policy says (nat_lt 0 left) why))) c.left_after-self-inside.ensures
    ∙ ap (λ r. story (left_after left r) after (told_with (words_of s.policy says (nat_lt 0 left) r))) (c.reason_of-reason.ensures names labels)
    ∙ ap (λ here. story_after here s says told text reply) c.self.view_is)
    c.note.ensures

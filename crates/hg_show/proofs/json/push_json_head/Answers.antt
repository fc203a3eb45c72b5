use Rattle.std.proofs.Common.{◌≡◌, codes, decimal, ◌∙◌}
use Rattle.hg_show.specs.Json.{json_head}
use Rattle.hg_show.proofs.TextLemmas.{counted_twice}
use Rattle.hg_show.proofs.json.push_json_head.Goals as goal

pub returns : goal.returns
unfolding json_head
returns c =
    let policy = c.args.policy.now in
    let workers : c.from.result ≡ policy.workers = c.from.ensures ∙ c.workers.ensures.workers in
    let generations : c.from-2.result ≡ policy.max_generation = c.from-2.ensures ∙ c.max_generation.ensures.max_generation in
    counted_twice c.args.out.now.items (codes "{\"workers\":") (decimal policy.workers) (codes ",\"max_generation\":") (decimal policy.max_generation) c.push_count.new.out.items c.push_count-2.new.out.items
    (rw workers at c.in_ok-push_count.ensures) (rw generations at c.in_ok-push_count-2.ensures)

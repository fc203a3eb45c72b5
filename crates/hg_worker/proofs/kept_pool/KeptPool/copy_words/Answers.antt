use Rattle.std.proofs.Common.{◌≡◌, ◌++◌, ◌∙◌, ⊎_elim, sym, ap, subst, Some}
use Rattle.std.specs.Prelude.{Contains}
use Rattle.hg_machine.specs.Policy.{arena_of}
use Rattle.hg_heap.specs.Policies.{AreOf}
use Rattle.hg_segment.specs.Kept.{Kept}
use Rattle.hg_worker.specs.Seats.{number_in}
use Rattle.hg_worker.proofs.Copied.{same_number}
use Rattle.hg_table.specs.Named.{table_of_segment}
use Rattle.hg_worker.specs.Seats.{AreOnTable}
use Rattle.hg_worker.proofs.Replaced.{pool_then, standing, then_cases}
use Rattle.hg_worker.proofs.Tables.{same_table}
use Rattle.hg_worker.proofs.kept_pool.KeptPool.copy_words.Goals as goal

pub invariant_of-self : goal.invariant_of-self
invariant_of-self g c =
    let policy = g.N.ServiceName.policy in
    let pool = c.args.self.now.pool in
    let copied = c.copy_words.ensures.copied in
    let number =
    same_number _ copied.before.slots copied.after.slots c.args.words.now c.copy_words.new.words
    copied.copied in
    let there = standing number_in pool c.args.segment copied.before copied.there in
    record {
      each = subst (λ p. AreOf number_in policy (p.orphans ++ p.fresh)) (sym copied.now)
          (pool_then number_in policy pool copied.after c.args.segment c.args.self.now.each (
            ap (arena_of policy) number ∙ c.args.self.now.each.arena copied.before there
                ∙ ap Some (sym (ap (λ (k : Kept _). k.arena) copied.rest)),
            ap (λ (k : Kept _). k.greatest) copied.rest
                ∙ c.args.self.now.each.greatest copied.before there,
          ));
      named = subst (λ p. AreOnTable g.N.TableName.table (p.orphans ++ p.fresh)) (sym copied.now)
          (λ k c'.
          ⊎_elim
          (λ (e : copied.after ≡ k).
          ap (λ (j : Kept _). table_of_segment j.slots) (sym e)
          ∙ same_table _ copied.before.slots copied.after.slots c.args.words.now
          c.copy_words.new.words copied.copied
          ∙ c.args.self.now.named copied.before there)
          (λ (d : Contains (pool.orphans ++ pool.fresh) k). c.args.self.now.named k d)
          (then_cases number_in pool copied.after k c.args.segment c'));
    }

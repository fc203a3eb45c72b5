use Rattle.std.proofs.Common.{◌≡◌, ◌++◌, ◌∷◌, [], map, Some, arith, ◌∙◌, ap, refl}
use Rattle.std.proofs.lemmas.List.{map_push}
use Rattle.toml.specs.Data.{as_table}
use Rattle.toml.specs.View.{table_view, view}
use Rattle.hg_policy_text.specs.Faults.{in_turn, kind}
use Rattle.hg_policy_text.specs.Values.{with_table}
use Rattle.hg_policy_text.proofs.InTurn.{in_turn-more, in_turn-stop, in_turn-end}
use Rattle.hg_policy_text.proofs.Tables.{with_table-Some, with_table-None}
use Rattle.hg_policy_text.proofs.values.tables_in.Goals as goal

pub loop-element-init : goal.loop-element-init
loop-element-init c = rw (c.in_ok-tables.ensures.items, c.deref-element-items.ensures.value) refl

pub returns-in-None : goal.returns-in-None
returns-in-None c =
    in_turn-stop (with_table c.args.key) view (map (λ entry. table_view entry.now) c.loop-element.tables.items) c.deref-element-items.result.now c.loop-element.element-index (in_turn (with_table c.args.key) [] (map view c.args.array.now.items)) c.loop-element.invariant c.element-item.result (omega arith)
    (Some (kind c.args.key)) (with_table-None c.args.key _ _ (c.in-None.ensures ∙ ap (λ v. as_table (view v)) c.element-item.is))

pub loop-element-preserved : goal.loop-element-preserved
loop-element-preserved c =
    let pushed : map (λ entry. table_view entry.now) c.push.new.self.items ≡ map (λ entry. table_view entry.now) c.loop-element.tables.items ++ table_view c.in-Some.table.now ∷ [] = rw c.in_ok-push-in-Some.ensures.items (map_push (λ entry. table_view entry.now) c.loop-element.tables.items c.in-Some.table) in
    rw pushed
    (in_turn-more (with_table c.args.key) view (map (λ entry. table_view entry.now) c.loop-element.tables.items) c.deref-element-items.result.now c.loop-element.element-index (in_turn (with_table c.args.key) [] (map view c.args.array.now.items)) c.loop-element.invariant c.element-item.result (omega arith)
    (map (λ entry. table_view entry.now) c.loop-element.tables.items ++ table_view c.in-Some.table.now ∷ []) (with_table-Some c.args.key _ _ _ (c.in-Some.ensures ∙ ap (λ v. as_table (view v)) c.element-item.is)))

pub returns : goal.returns
returns c = in_turn-end (with_table c.args.key) view (map (λ entry. table_view entry.now) c.loop-element.tables.items) c.deref-element-items.result.now c.loop-element.element-index (in_turn (with_table c.args.key) [] (map view c.args.array.now.items)) c.loop-element.invariant (omega arith)

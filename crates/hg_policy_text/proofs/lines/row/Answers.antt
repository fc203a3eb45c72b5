use Rattle.std.proofs.Common.{◌≡◌, ◌||◌, ◌&&◌, true, false, List, length, map, get_or, sym, ap, ◌∙◌, arith}
use Rattle.std.specs.List.{list_any}
use Rattle.std.proofs.Math.Bool.{or-false}
use Rattle.std.proofs.lemmas.List.{get_or-replicate, length-replicate, take_all}
use Rattle.hg_machine.specs.Policy.{has_right}
use Rattle.hg_policy_text.specs.declared.lines.Line.{Line}
use Rattle.hg_policy.specs.Rights.{rights_of, nothing}
use Rattle.hg_policy.specs.TenantSets.{has_tenant}
use Rattle.hg_policy_text.specs.ReadTables.{line_of}
use Rattle.hg_policy_text.specs.Lines.{names_right}
use Rattle.hg_policy.proofs.GrantTable.{has_none}
use Rattle.hg_policy_text.proofs.LineTable.{row_more, row_is}
use Rattle.hg_policy_text.proofs.lines.row.Goals.{then-has, else-has}
use Rattle.hg_policy_text.proofs.lines.row.Goals as goal

pub loop-line-init : goal.loop-line-init
loop-line-init c = record {
  long = length-replicate 64 c.none-held.result;
  named = λ actor r within.
      ap (λ x. has_right (rights_of x) r) (get_or-replicate 64 actor c.none-held.result nothing (omega (arith, within, c.requires.few)))
      ∙ ap (λ x. has_right x r) c.none-held.ensures ∙ has_none r;
}

pub loop-line-preserved : goal.loop-line-preserved
loop-line-preserved c = record {
  long = elim c.if-has.branch as (λ _. length c.if-has.held ≡ 64) [
    | then-has w ↦ ap length w.held-is ∙ w.add.array_long
    | else-has w ↦ ap length w.held-is ∙ c.loop-line.invariant.long
  ];
  named = λ actor r within.
      let i = c.loop-line.line-index in
      let d : Line = record { owners = record { 0 = 0 }; to = record { 0 = 0 }; rights = nothing } in
      let line = get_or c.args.lines.now i d in
      let old = has_right (rights_of (get_or c.loop-line.held actor nothing)) r in
      let more = has_tenant line.to actor && has_right (rights_of line.rights) r in
      let now = has_right (rights_of (get_or c.if-has.held actor nothing)) r in
      row_more c.args.tenants c.args.owner actor r c.args.lines.now i d old now c.loop-line-test.true c.requires.owner within (c.loop-line.invariant.named actor r within)
      (elim c.if-has.branch as (λ _. now ≡ (old || (has_tenant line.owners c.args.owner && more))) [
        | then-has w ↦
            let has : has_tenant line.owners c.args.owner ≡ true = sym c.has.ensures ∙ w.if-has.true in
            ap (λ held. has_right (rights_of (get_or held actor nothing)) r) w.held-is
            ∙ w.add.ensures actor r (omega (arith, within, c.requires.few))
            ∙ sym (ap (λ b. old || (b && more)) has)
        | else-has w ↦
            let has : has_tenant line.owners c.args.owner ≡ false = sym c.has.ensures ∙ w.if-has.false in
            ap (λ held. has_right (rights_of (get_or held actor nothing)) r) w.held-is
            ∙ sym (or-false old)
            ∙ sym (ap (λ b. old || (b && more)) has)
      ]);
}

pub returns : goal.returns
returns c =
    let all = take_all c.loop-line.line-index c.args.lines.now c.loop-line-test.false in
    row_is c.args.tenants c.args.owner c.args.own c.loop-line.held (map (line_of c.args.tenants) c.args.lines.now) c.requires.few c.requires.owner c.loop-line.invariant.long
    (λ actor r within. c.loop-line.invariant.named actor r within ∙ ap (λ (ls : List Line). list_any (names_right c.args.owner actor r) (map (line_of c.args.tenants) ls)) all)

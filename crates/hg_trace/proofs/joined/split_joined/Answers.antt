use Rattle.std.proofs.Common.{rules, ap, ◌∙◌}
use Rattle.std.specs.List.{concat}
use Rattle.hg_trace.specs.Joined.{around_mark, policy_in, trace_in}
use Rattle.hg_trace.proofs.LineCuts.{concat-lines_of}
use Rattle.hg_trace.proofs.AroundMark.{left_more, within_more, policy_more, trace_more}
use Rattle.hg_trace.proofs.joined.split_joined.Goals as goal

pub loop-line-init : goal.loop-line-init
loop-line-init c =
    let is = c.new-lines.ensures.lines in
    record {
      within = search rules;
      left = ap concat is ∙ concat-lines_of c.args.bytes.now;
      policy = ap (λ lines. concat (around_mark lines).0) is;
      trace = ap (λ lines. concat (around_mark lines).1) is;
    }

pub loop-line-preserved : goal.loop-line-preserved
loop-line-preserved c =
    let bytes = c.args.bytes.now in
    let line = c.in-Some.line.now in
    let so_far = c.loop-line.invariant in
    record {
      within = within_more bytes line c.loop-line.at c.loop-line.lines c.next_line.new.self c.in-Some.ensures so_far.left so_far.within;
      left = left_more bytes line c.loop-line.at c.loop-line.lines c.next_line.new.self c.in-Some.ensures so_far.left;
      policy =
          policy_more bytes line c.loop-line.at c.loop-line.lines c.next_line.new.self c.in-Some.ensures so_far.left (policy_in bytes)
          c.if-is_mark.ensures so_far.policy;
      trace =
          trace_more bytes line c.loop-line.at c.loop-line.lines c.next_line.new.self c.in-Some.ensures so_far.left (trace_in bytes)
          c.if-is_mark.ensures so_far.trace;
    }

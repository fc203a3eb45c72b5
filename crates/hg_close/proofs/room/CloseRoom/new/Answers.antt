use Rattle.std.proofs.Common.{length, sym, ap, ◌∙◌, None, slice_index_or, arith}
use Rattle.std.proofs.lemmas.List.{length-replicate}
use Rattle.hg_remote.specs.Remote.{nothing_sent}
use Rattle.hg_close.proofs.room.CloseRoom.new.Goals as goal

pub returns-clause-room : goal.returns-clause-room
returns-clause-room c =
    let same = c.in_ok-copy.ensures in
    record {
      room_is = record {
        complete = record {
          heaps = c.in_ok-no_heaps.ensures.all ∙ c.workers-workers.ensures.workers
              ∙ sym (ap (λ policy. policy.workers) same);
          hands = ap length c.into_vec.ensures.items ∙ c.in_ok-filled.ensures.all
              ∙ c.from.ensures ∙ c.workers-workers.ensures.workers
              ∙ sym (ap (λ policy. policy.workers) same);
          remotes = ap length c.in_ok-unsent_lists.ensures
              ∙ length-replicate c.segments-segments.result nothing_sent
              ∙ c.segments-segments.ensures.segments
              ∙ sym (ap (λ policy. length policy.segments) same);
        };
        heaps = c.in_ok-no_heaps.ensures.none;
        hands = λ worker. ap (λ hands. slice_index_or hands worker None) c.into_vec.ensures.items
            ∙ c.in_ok-filled.ensures.each worker;
        audited = c.in_ok-audit.ensures ∙ sym (ap (λ policy. length policy.segments) same);
      };
      orphans = c.in_ok-new.ensures.orphans;
      fresh = c.in_ok-new.ensures.fresh;
      words = λ segment lt. c.in_ok-words.ensures segment
          (let e = ap (λ policy. length policy.segments) same in
          let s = c.segments-segments.ensures.segments in omega (arith, lt, e, s));
    }

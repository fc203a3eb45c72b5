-- Room into which all segments have come.
use Rattle.std.proofs.Common.{◌≡◌, ℕ, ◌<◌, ◌++◌, length, sym, ap, subst, ◌∙◌, arith}
use Rattle.hg_machine.specs.Policy.{Policy}
use Rattle.hg_segment.specs.Parted.{plain_number}
use Rattle.hg_heap.specs.Policies.{AreOf}
use Rattle.hg_pool.specs.Pooled.{IsPooled, IsRight}
use Rattle.hg_close.specs.declared.room.CloseRoom.{CloseRoom}
use Rattle.hg_close.specs.Rooms.{IsUnfilled, IsFilled}

abbrev over_with : CloseRoom → CloseRoom → CloseRoom
over_with old room = record old {
  words = room.words;
  parts = record old.parts { pool = room.parts.pool };
}

-- nothing but words and pool has changed, twice
pub still_rest : (old mid new : CloseRoom)
    → mid ≡ record old {
      words = mid.words;
      parts = record old.parts { pool = mid.parts.pool };
    }
    → new ≡ record mid {
      words = new.words;
      parts = record mid.parts { pool = new.parts.pool };
    }
    → new ≡ record old {
      words = new.words;
      parts = record old.parts { pool = new.parts.pool };
    }
still_rest old mid new before here = here ∙ ap (λ r. over_with r new) before

-- nothing else of it has changed since none had
pub filled : (policy : Policy) (old room : CloseRoom) → IsUnfilled old → old.parts.policy ≡ policy
    → room ≡ record old {
      words = room.words;
      parts = record old.parts { pool = room.parts.pool };
    }
    → AreOf plain_number policy (room.parts.pool.orphans ++ room.parts.pool.fresh)
    → IsRight plain_number room.parts.pool
    → ((n : ℕ) → n < length policy.segments → IsPooled plain_number room.parts.pool n)
    → IsFilled room
filled policy old room empty is rest of right there =
    let same = ap (λ (p : Policy). length p.segments) is in
    subst IsFilled (sym rest) (record {
      room_is = record {
        complete = record {
          heaps = empty.room_is.complete.heaps;
          hands = empty.room_is.complete.hands;
          remotes = empty.room_is.complete.remotes;
        };
        heaps = empty.room_is.heaps;
        hands = empty.room_is.hands;
        audited = empty.room_is.audited;
      };
      left = record {
        empty = empty.room_is.heaps;
        once = right.once;
        given = subst (λ p. AreOf plain_number p
            (room.parts.pool.orphans ++ room.parts.pool.fresh)) (sym is) of;
        there = λ n lt. there n (omega (arith, lt, same));
      };
    })

-- Why a worker stays.
use Rattle.std.proofs.Common.{◌≡◌, ◌≢◌, Bool, true, false, T, Option, None, Some, is_some, option_map, refl, sym, subst, ap, ◌∙◌}
use Rattle.hg_place.specs.declared.Handle.{Handle}
use Rattle.hg_place.specs.declared.Place.{Place}
use Rattle.hg_reply.specs.declared.reply.Reply.{Reply}
use Rattle.hg_reply.specs.Replies.{again, plain, valued}
use Rattle.hg_hosted.specs.declared.worker.HostedWorker.{HostedWorker}
use Rattle.hg_hosted.specs.Departing.{IsBack}
use Rattle.hg_hosted.specs.Has.{Has}
use Rattle.hg_hosted.specs.Leaving.{HoldsFirst, HoldsNone}
use Rattle.hg_service_replies.specs.Leaving.{StaysFor}

both_ways : {X : Type 0} {b : Bool} → b ≡ true → b ≡ false → X
both_ways is isnt = absurd (subst T (sym is ∙ isnt) tt)

pub some_of : {X : Type 0} (o : Option X) → is_some o ≡ true → (x : X) × (o ≡ Some x)
some_of None isnt = both_ways isnt refl
some_of (Some x) is = (x, refl)

abbrev place_in : Option Handle → Option Place
place_in = option_map (λ handle. handle.place)

pub has_some : (hand : Option Handle) (place : Option Place) → place ≡ place_in hand → is_some place ≡ true → hand ≢ None
has_some hand place told is none = both_ways is (ap is_some (told ∙ ap place_in none))

pub has_none : (hand : Option Handle) (place : Option Place) → place ≡ place_in hand → is_some place ≡ false → hand ≡ None
has_none None place told isnt = refl
has_none (Some handle) place told isnt = both_ways (ap is_some told) isnt

-- one that was asked for nothing
pub stays_back : (worker : HostedWorker) → IsBack worker worker
stays_back worker = record {
  state = refl;
  taken = refl;
  places = record { segments = refl; lists = refl; left = refl };
}

module _ (worker : HostedWorker) (reply : Reply) where
  -- it has a block in hand
  pub for_hand : Has (λ state. state.hand ≢ None) worker → reply ≡ plain 20 → StaysFor worker reply
  for_hand has told = let own = some_of worker.state worker.there in record {
    hand = λ _. told;
    holds = λ none some. absurd (has own.0 own.1 (none own.0 own.1));
    shared = λ idle. absurd (has own.0 own.1 (idle own.0 own.1).hand);
  }

  module _ (empty : Has (λ state. state.hand ≡ None) worker) where
    -- it holds a segment
    pub for_segment : (segment : _) → Has (HoldsFirst segment) worker → reply ≡ valued 27 segment → StaysFor worker reply
    for_segment segment first told = let own = some_of worker.state worker.there in record {
      hand = λ has. absurd (has own.0 own.1 (empty own.0 own.1));
      holds = λ none some. (segment, first, told);
      shared = λ idle. let it = first own.0 own.1 in both_ways it.held ((idle own.0 own.1).holds segment it.below);
    }

    -- it holds none
    pub for_others : Has HoldsNone worker → reply ≡ again → StaysFor worker reply
    for_others holds told = let own = some_of worker.state worker.there in record {
      hand = λ has. absurd (has own.0 own.1 (empty own.0 own.1));
      holds = λ none some. absurd (some own.0 own.1 (holds own.0 own.1));
      shared = λ idle. told;
    }

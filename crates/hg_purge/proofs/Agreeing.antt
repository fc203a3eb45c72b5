-- Two keeps that agree on one side, and what holds of each.
use Rattle.std.proofs.Common.{◌≡◌, ℕ, Bool, true, List, [], length, filter, Some, None}
use Rattle.std.proofs.Common.{◌||◌, ◌∷◌, if◌then◌else◌, set, is_some, Option, refl, sym, ◌∙◌}
use Rattle.std.specs.List.{AllByRecursion}
use Rattle.hg_place.specs.Places.{page_of, index_of, segment_of, segment_of_page}
use Rattle.hg_remote.specs.Remote.{Remote, slot, thread_at}
use Rattle.hg_remote.specs.Sends.{with_thread}
use Rattle.hg_machine.specs.declared.Event.{Event}
use Rattle.hg_machine.specs.declared.Event.TheVariants as event
use Rattle.hg_machine.specs.declared.Answer.{Answer}
use Rattle.hg_machine.specs.Policy.{arena_of}
use Rattle.hg_machine.specs.Life.{Record, home, never_used}
use Rattle.hg_machine.specs.State.{State, Holder, fresh, hand_of}
use Rattle.hg_machine.specs.Holders.{holds, is_in_arena}
use Rattle.hg_machine.specs.Steps.{successor}
use Rattle.hg_machine.specs.Lists.{Lists, Kept, list_at}
use Rattle.hg_choice.specs.ListsAfter.{lists_after, remote_of}
use Rattle.hg_choice.specs.QueuesAfter.{queues_after}
use Rattle.hg_purge.proofs.SameAt.{SameAt, same_itself, same_after, same_before}

-- what is kept after a served event
abbrev pub after : Kept → ℕ → Event → Answer → Kept
after k w e a = record {
  state = successor k.state w e a;
  lists = lists_after k w e a;
  queues = queues_after k w e a;
}

-- the record of a place after a Take
abbrev pub settled_by : Bool → Record → Record
settled_by b r = if b then record { generation = r.generation; life = home } else r

-- a remote list after a place was sent to it, of whose page another is delayed or isn't, and the
-- lists after that
abbrev pub remote_by : Remote → ℕ → Bool → Remote
remote_by remote place b =
    let first = slot (page_of place) (index_of place) in
    if b
    then with_thread remote (page_of place) (first ∷ thread_at remote (page_of place))
    else record remote { delayed = first ∷ remote.delayed }

abbrev pub sent_by : Lists → ℕ → Bool → Lists
sent_by l place b =
    let now = remote_by (remote_of l (segment_of place)) place b in
    record l {
      thread_free = now.thread_free;
      delayed = set l.delayed (segment_of place) now.delayed;
    }

-- each list has places of its own number alone
abbrev pub AreFiled : (ℕ → ℕ) → List (List ℕ) → Type 0
AreFiled of lists = (i : ℕ) → AllByRecursion (λ place. of place ≡ i) (list_at lists i)

pub record IsFiled (l : Lists) : Type 0 where
  pub free : AreFiled page_of l.free
  pub local_free : AreFiled page_of l.local_free
  pub thread_free : AreFiled page_of l.thread_free
  pub delayed : AreFiled segment_of l.delayed

-- each page has its lists
pub record IsSized (k : Kept) : Type 0 where
  pub free : length k.lists.free ≡ length k.state.classes
  pub local_free : length k.lists.local_free ≡ length k.state.classes
  pub thread_free : length k.lists.thread_free ≡ length k.state.classes

-- which segments and which workers are of the side
module _ (on own : ℕ → Bool) where
  pub record StateOn (s t : State) : Type 0 where
    pub policy : t.policy ≡ s.policy
    pub records : SameAt (λ place. on (segment_of place)) never_used s.records t.records
    pub classes : SameAt (λ page. on (segment_of_page page)) None s.classes t.classes
    pub holders : SameAt on fresh s.holders t.holders
    pub orphans : filter on t.orphans ≡ filter on s.orphans
    pub hands : SameAt own None s.hands t.hands

  pub record ListsOn (l m : Lists) : Type 0 where
    pub free : SameAt (λ page. on (segment_of_page page)) [] l.free m.free
    pub local_free : SameAt (λ page. on (segment_of_page page)) [] l.local_free m.local_free
    pub thread_free : SameAt (λ page. on (segment_of_page page)) [] l.thread_free m.thread_free
    pub delayed : SameAt on [] l.delayed m.delayed

  pub record AgreeOn (k m : Kept) : Type 0 where
    pub state : StateOn k.state m.state
    pub lists : ListsOn k.lists m.lists
    pub queues : SameAt own [] k.queues m.queues

  -- what a worker holds and has in hand is of its side
  pub record IsParted (s : State) : Type 0 where
    pub holding : (worker segment : ℕ) → holds s worker segment ≡ true → on segment ≡ own worker
    pub hands :
        (worker place : ℕ) → hand_of s worker ≡ Some place → on (segment_of place) ≡ own worker

  pub record IsApart (k : Kept) : Type 0 where
    pub parted : IsParted k.state
    pub filed : IsFiled k.lists
    pub sized : IsSized k

  -- what the event names is of the side, or isn't, where there is such a segment; one that there
  -- isn't is of each side
  abbrev pub NamesAt : Bool → State → ℕ → Type 0
  NamesAt b s segment = (b || is_some (arena_of s.policy segment)) ≡ true → on segment ≡ b

  abbrev pub Names : Bool → State → Event → Type 0
  Names b s (event.Free actor handle) = NamesAt b s handle.place.segment
  Names b s (event.Read actor handle index) = NamesAt b s handle.place.segment
  Names b s (event.Write actor handle index value) = NamesAt b s handle.place.segment
  Names b s (event.Look actor place) = NamesAt b s place.segment
  Names b s (event.Refill arena) =
      (segment : ℕ) → is_in_arena s arena segment ≡ true → on segment ≡ b
  Names b s event = Unit {0}

  -- two states that agree, each with the sides parted
  pub record Beside (s t : State) : Type 0 where
    pub same : StateOn s t
    pub here : IsParted s
    pub there : IsParted t

module _ {on own : ℕ → Bool} where
  pub state_itself : (s : State) → StateOn on own s s
  state_itself s = record {
    policy = refl;
    records = same_itself _;
    classes = same_itself _;
    holders = same_itself _;
    orphans = refl;
    hands = same_itself _;
  }

  -- with other records, classes, holders and orphans, or hands
  pub records_on : {s t : State} {xs ys : List Record} → StateOn on own s t
      → SameAt (λ place. on (segment_of place)) never_used xs ys
      → StateOn on own (record s { records = xs }) (record t { records = ys })
  records_on h e = record {
    policy = h.policy;
    records = e;
    classes = h.classes;
    holders = h.holders;
    orphans = h.orphans;
    hands = h.hands;
  }

  pub classes_on : {s t : State} {xs ys : List (Option ℕ)} → StateOn on own s t
      → SameAt (λ page. on (segment_of_page page)) None xs ys
      → StateOn on own (record s { classes = xs }) (record t { classes = ys })
  classes_on h e = record {
    policy = h.policy;
    records = h.records;
    classes = e;
    holders = h.holders;
    orphans = h.orphans;
    hands = h.hands;
  }

  pub holders_on : {s t : State} {xs ys : List Holder} {os ps : List ℕ} → StateOn on own s t
      → SameAt on fresh xs ys → filter on ps ≡ filter on os
      → StateOn on own (record s { holders = xs; orphans = os })
      (record t { holders = ys; orphans = ps })
  holders_on h e f = record {
    policy = h.policy;
    records = h.records;
    classes = h.classes;
    holders = e;
    orphans = f;
    hands = h.hands;
  }

  pub hands_on : {s t : State} {xs ys : List (Option ℕ)} → StateOn on own s t
      → SameAt own None xs ys
      → StateOn on own (record s { hands = xs }) (record t { hands = ys })
  hands_on h e = record {
    policy = h.policy;
    records = h.records;
    classes = h.classes;
    holders = h.holders;
    orphans = h.orphans;
    hands = e;
  }

  pub lists_itself : (l : Lists) → ListsOn on own l l
  lists_itself l = record {
    free = same_itself _;
    local_free = same_itself _;
    thread_free = same_itself _;
    delayed = same_itself _;
  }

  pub agree_itself : (k : Kept) → AgreeOn on own k k
  agree_itself k = record {
    state = state_itself k.state;
    lists = lists_itself k.lists;
    queues = same_itself _;
  }

  pub lists_then : {l m n : Lists} → ListsOn on own l m → ListsOn on own m n → ListsOn on own l n
  lists_then h k = record {
    free = same_after h.free k.free;
    local_free = same_after h.local_free k.local_free;
    thread_free = same_after h.thread_free k.thread_free;
    delayed = same_after h.delayed k.delayed;
  }

  -- what agrees with two keeps is the same to both
  pub agree_beside : {k m n : Kept} → AgreeOn on own k m → AgreeOn on own k n → AgreeOn on own n m
  agree_beside h g = record {
    state = record {
      policy = h.state.policy ∙ sym g.state.policy;
      records = same_after (same_before g.state.records) h.state.records;
      classes = same_after (same_before g.state.classes) h.state.classes;
      holders = same_after (same_before g.state.holders) h.state.holders;
      orphans = h.state.orphans ∙ sym g.state.orphans;
      hands = same_after (same_before g.state.hands) h.state.hands;
    };
    lists = record {
      free = same_after (same_before g.lists.free) h.lists.free;
      local_free = same_after (same_before g.lists.local_free) h.lists.local_free;
      thread_free = same_after (same_before g.lists.thread_free) h.lists.thread_free;
      delayed = same_after (same_before g.lists.delayed) h.lists.delayed;
    };
    queues = same_after (same_before g.queues) h.queues;
  }

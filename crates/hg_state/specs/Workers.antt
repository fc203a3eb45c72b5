-- What the workers hold and have in hand, and what they charge, in lines.
use Rattle.std.specs.Prelude.{ℕ, ◌==◌, ◌++◌, List, [], ◌∷◌, Option, Some, None, decimal}
use Rattle.std.specs.Prelude.{filter, length, if◌then◌else◌}
use Rattle.std.specs.List.{flat_map, range_with_len}
use Rattle.hg_place.specs.Places.{place_at}
use Rattle.hg_place.specs.Texts.{place_text}
use Rattle.hg_machine.specs.Policy.{limit_of}
use Rattle.hg_machine.specs.Charge.{charge}
use Rattle.hg_machine.specs.Holders.{holds}
use Rattle.hg_machine.specs.State.{State, hand_of}
use Rattle.hg_show.specs.Parts.{name_of, tenants_in}
use Rattle.hg_state.specs.Words.{word_of}
use Rattle.hg_state.specs.declared.form.Form.{Form}
use Rattle.hg_state.specs.declared.form.Word.TheVariants as word

-- the numbers of the workers, and of the segments
abbrev pub workers_in : State → List ℕ
workers_in s = range_with_len 0 s.policy.workers

abbrev pub segments_in : State → List ℕ
segments_in s = range_with_len 0 (length s.policy.segments)

-- numbers, with a word before each, or that there are none
abbrev pub next_number : Form → ℕ → List ℕ
next_number form n = word_of form word.NextNumber ++ decimal n

unfoldable pub some_numbers : Form → ℕ → List ℕ → List ℕ
some_numbers form n ns =
    word_of form word.FirstNumber ++ decimal n ++ flat_map (next_number form) ns
    ++ word_of form word.LastNumber

abbrev pub numbers_text : Form → List ℕ → List ℕ
numbers_text form [] = word_of form word.NoNumber
numbers_text form (n ∷ ns) = some_numbers form n ns

-- the segments that a worker holds
abbrev pub held_by : State → ℕ → List ℕ
held_by s worker = filter (holds s worker) (segments_in s)

unfoldable pub held_line : Form → State → ℕ → List ℕ
held_line form s worker =
    word_of form word.Worker ++ decimal worker
    ++ word_of form word.Holds ++ numbers_text form (held_by s worker) ++ word_of form word.End

-- the place that it has in hand, if one
unfoldable pub quoted_place : Form → ℕ → List ℕ
quoted_place form place =
    word_of form word.Quote ++ place_text (place_at place) ++ word_of form word.Quote

abbrev pub hand_text : Form → Option ℕ → List ℕ
hand_text form None = word_of form word.Empty
hand_text form (Some place) = quoted_place form place

unfoldable pub hand_line : Form → State → ℕ → List ℕ
hand_line form s worker =
    word_of form word.Worker ++ decimal worker
    ++ word_of form word.Hand ++ hand_text form (hand_of s worker) ++ word_of form word.End

-- what counts against a tenant's limit with it, where something does
unfoldable pub charge_line : Form → State → ℕ → ℕ → List ℕ
charge_line form s worker tenant =
    if charge s worker tenant == 0
    then []
    else word_of form word.Worker ++ decimal worker
    ++ word_of form word.ChargedTo ++ name_of s.policy tenant
    ++ word_of form word.Bytes ++ decimal (charge s worker tenant)
    ++ word_of form word.Limit ++ decimal (limit_of s.policy tenant) ++ word_of form word.End

unfoldable pub worker_text : Form → State → ℕ → List ℕ
worker_text form s worker =
    held_line form s worker ++ hand_line form s worker
    ++ flat_map (charge_line form s worker) (tenants_in s.policy)

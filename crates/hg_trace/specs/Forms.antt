-- The form of each word of a line, and the first that hasn't its form.
use Rattle.std.specs.Prelude.{ℕ, ◌+◌, ◌^◌, Bool, true, false, not, List, [], ◌∷◌, length}
use Rattle.std.specs.Prelude.{Option, Some, None, is_ok, is_some, option_map, unwrap_or, position}
use Rattle.std.specs.Prelude.{slice_get, slice_index_or, bytes_eq, codes, if◌then◌else◌}
use Rattle.std.specs.List.{range_with_len}
use Rattle.hg_place.specs.declared.geometry.TheConstants.{MAX_SEGMENTS}
use Rattle.hg_policy_text.specs.NameForm.{is_name}
use Rattle.hg_trace.specs.declared.wanted.Wanted.{Wanted}
use Rattle.hg_trace.specs.declared.wanted.Wanted.TheVariants as wanted
use Rattle.hg_trace.specs.Numbers.{number_below}
use Rattle.hg_trace.specs.Handles.{place_of}
use Rattle.hg_trace.specs.Blocks.{block_of}
use Rattle.hg_trace.specs.Commands.{worker_of}
use Rattle.hg_trace.specs.Stored.{named}

-- the operands of a command, in their order
abbrev pub operands_of : List ℕ → Option (List Wanted)
operands_of name =
    if bytes_eq name (codes "alloc")
    then Some (wanted.Actor ∷ wanted.Arena ∷ wanted.Bytes ∷ wanted.As ∷ wanted.Label ∷ [])
    else (if bytes_eq name (codes "free") then Some (wanted.Actor ∷ wanted.Block ∷ [])
    else (if bytes_eq name (codes "deliver") then Some []
    else (if bytes_eq name (codes "take") then Some (wanted.Segment ∷ [])
    else (if bytes_eq name (codes "collect") then Some []
    else (if bytes_eq name (codes "read")
    then Some (wanted.Actor ∷ wanted.Block ∷ wanted.Index ∷ [])
    else (if bytes_eq name (codes "write")
    then Some (wanted.Actor ∷ wanted.Block ∷ wanted.Index ∷ wanted.Value ∷ [])
    else (if bytes_eq name (codes "look") then Some (wanted.Actor ∷ wanted.Place ∷ [])
    else (if bytes_eq name (codes "list") then Some (wanted.Actor ∷ [])
    else (if bytes_eq name (codes "abandon") then Some (wanted.Segment ∷ [])
    else (if bytes_eq name (codes "refill") then Some (wanted.Arena ∷ []) else None))))))))))

-- the least number that is too great
abbrev pub limit_of : Wanted → Option ℕ
limit_of wanted.Bytes = Some (2 ^ 64)
limit_of wanted.Segment = Some MAX_SEGMENTS
limit_of wanted.Index = Some (2 ^ 32)
limit_of wanted.Value = Some (2 ^ 64)
limit_of _ = None

-- whether a word is read as a block does not depend on the labels
abbrev pub has_block_form : List ℕ → Bool
has_block_form word = is_ok (block_of [] word)

-- a word is what is wanted
abbrev pub has_form : Wanted → List ℕ → Bool
has_form wanted.Worker word = is_ok (worker_of word)
has_form wanted.Command word = is_some (operands_of word)
has_form wanted.Actor word = is_name word
has_form wanted.Arena word = is_name word
has_form wanted.Label word = is_name word
has_form wanted.Bytes word = is_some (number_below (2 ^ 64) word)
has_form wanted.Segment word = is_some (number_below MAX_SEGMENTS word)
has_form wanted.Index word = is_some (number_below (2 ^ 32) word)
has_form wanted.Value word = is_some (number_below (2 ^ 64) word)
has_form wanted.Place word = is_ok (place_of word)
has_form wanted.Block word = has_block_form word
has_form wanted.As word = bytes_eq word (codes "as")
has_form _ word = false

-- a line may have no words, and may end before `as` and behind its operands
abbrev pub may_be_missing : Wanted → Bool
may_be_missing wanted.Worker = true
may_be_missing wanted.As = true
may_be_missing wanted.Nothing = true
may_be_missing _ = false

-- what stands there is what is wanted
abbrev pub is_as_wanted : Wanted → Option (List ℕ) → Bool
is_as_wanted form None = may_be_missing form
is_as_wanted form (Some word) = has_form form word

-- the operands that a line is to have, by the name of its command
abbrev pub operands_in : List (List ℕ) → List Wanted
operands_in words = unwrap_or (operands_of (named words 1)) []

-- what is wanted as the word of each number
abbrev pub wanted_at : List (List ℕ) → ℕ → Wanted
wanted_at words number =
    slice_index_or (wanted.Worker ∷ wanted.Command ∷ operands_in words) number wanted.Nothing

-- of the words and the line's end the first that isn't what is wanted there
abbrev pub wrong_word : List (List ℕ) → Option ℕ
wrong_word words =
    position (λ n. not (is_as_wanted (wanted_at words n) (slice_get words n)))
    (range_with_len 0 (length words + 1))

-- by its number, with what is wanted
abbrev pub wrong_in : List (List ℕ) → Option (ℕ × Wanted)
wrong_in words = option_map (λ n. (n, wanted_at words n)) (wrong_word words)

abbrev pub is_block : Wanted → Bool
is_block wanted.Block = true
is_block _ = false

abbrev pub is_label : Wanted → Bool
is_label wanted.Label = true
is_label _ = false

-- the word of a label that no earlier line gave, and that of a label which one gave
abbrev pub given_in : List (List ℕ) → Option (ℕ × Wanted)
given_in words =
    option_map (λ n. (n + 2, wanted.GivenLabel)) (position is_block (operands_in words))

abbrev pub new_in : List (List ℕ) → Option (ℕ × Wanted)
new_in words =
    option_map (λ n. (n + 2, wanted.NewLabel)) (position is_label (operands_in words))

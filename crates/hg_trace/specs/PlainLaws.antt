-- Laws of the language: what is read is what was written in the plain form.
use Rattle.std.specs.Prelude.{◌≡◌, ℕ, ◌↔◌, List, [], Some, Ok}
use Rattle.hg_place.specs.declared.Place.{Place}
use Rattle.hg_place.specs.declared.Handle.{Handle}
use Rattle.hg_trace.specs.declared.line.BlockName.TheVariants as block_name
use Rattle.hg_trace.specs.declared.line.Command.{Command}
use Rattle.hg_trace.specs.declared.line.Line.{Line}
use Rattle.hg_trace.specs.Handles.{place_of}
use Rattle.hg_trace.specs.Blocks.{block_of}
use Rattle.hg_trace.specs.Labels.{labels_after}
use Rattle.hg_trace.specs.Commands.{words_at}
use Rattle.hg_trace.specs.Trace.{trace_of}
use Rattle.hg_trace.specs.Printed.{place_text, handle_text, line_words, lines_text}
use Rattle.hg_trace.specs.Plain.{AreLabels, IsPlainHandle, IsPlain, ArePlain, AreNumbered}

-- a text is read as a place exactly where it is how that place is written
abbrev pub PlacesAreTheirTexts : Type 0
PlacesAreTheirTexts =
    (place : Place) (text : List ℕ) → (place_of text ≡ Ok place) ↔ (text ≡ place_text place)

-- a word is read as a handle exactly where it is how that handle is written
abbrev pub HandlesAreTheirTexts : Type 0
HandlesAreTheirTexts =
    (labels : List (List ℕ)) (handle : Handle) (word : List ℕ)
    → (block_of labels word ≡ Ok (Some (block_name.Handle handle)))
    ↔ ((word ≡ handle_text handle) × IsPlainHandle handle)

-- words are read as a worker's command exactly where they are how it is written, and it is plain
abbrev pub LinesAreTheirWords : Type 0
LinesAreTheirWords =
    (labels : List (List ℕ)) (worker : ℕ) (command : Command) (words : List (List ℕ))
    → AreLabels labels
    → (words_at labels words ≡ Ok (Some (worker, command)))
    ↔ ((words ≡ line_words labels worker command) × IsPlain labels worker command)

-- a trace in its plain form is read back as itself
abbrev pub PlainTracesAreReadBack : Type 0
PlainTracesAreReadBack =
    (lines : List Line) → ArePlain [] lines → AreNumbered 1 lines
    → trace_of (lines_text [] lines) ≡ Ok lines

-- the lines of a trace that was read are plain, and give labels that are names, each once
abbrev pub ReadLinesArePlain : Type 0
ReadLinesArePlain =
    (bytes : List ℕ) (lines : List Line) → trace_of bytes ≡ Ok lines
    → ArePlain [] lines × AreLabels (labels_after [] lines)

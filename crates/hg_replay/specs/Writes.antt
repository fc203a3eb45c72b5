-- What a writer was given, where its writing stopped, and what waits to be written.
use Rattle.std.specs.Prelude.{◌≡◌, ◌<◌, ◌≤◌, ◌+◌, ℕ, true, false, List, ◌++◌, length}
use Rattle.std.specs.Io.KnownBytes.{Appends}
use Rattle.hg_replay.specs.declared.replaying.output.TheConstants.{ROOM}
use Rattle.hg_replay.specs.declared.replaying.output.Output.{Output}
use Rattle.hg_replay.specs.Sinks.{Seen}

-- the known bytes have grown by all of the text
abbrev pub Wrote : Seen → Seen → List ℕ → Type 0
Wrote old new text = Appends old.contents new.contents text

-- the known bytes have grown by a part of the text from its front on, and not by all of it, since a
-- write failed or took nothing
pub record StopsIn (old new : Seen) (text : List ℕ) : Type 0 where
  pub front : List ℕ
  pub rest : List ℕ
  pub split : text ≡ front ++ rest
  pub not_all : 0 < length rest
  pub written : Wrote old new front
  pub stopped : new.has_stopped ≡ true

-- a write stopped in a text and what comes after it, where no more of the text isn't written than
-- may wait
pub record StopsSoon (old new : Seen) (text here : List ℕ) : Type 0 where
  pub stopped : StopsIn old new (text ++ here)
  pub waited : length text ≤ length stopped.front + ROOM

-- the known bytes have grown by all of the text but its end, which waits where there is room
pub record WritesAllBut (waiting : List ℕ) (old new : Seen) (text : List ℕ) : Type 0 where
  pub front : List ℕ
  pub split : text ≡ front ++ waiting
  pub fits : length waiting ≤ ROOM
  pub written : Wrote old new front

-- since the writer was seen so, this text was given to be written
abbrev pub IsGiven : Seen → Seen → Output → List ℕ → Type 0
IsGiven start now output text =
    (output.stopped ≡ false → WritesAllBut output.waiting.items start now text)
    × (output.stopped ≡ true → StopsIn start now text)

-- from one writer and output to another, these bytes more are given to be written
abbrev pub Emits : Seen → Output → Seen → Output → List ℕ → Type 0
Emits old from new to bytes =
    (start : Seen) (text : List ℕ)
    → IsGiven start old from text → IsGiven start new to (text ++ bytes)

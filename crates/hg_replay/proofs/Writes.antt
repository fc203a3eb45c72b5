-- Writes one after the other, and one that stops.
use Rattle.std.proofs.Common.{◌≡◌, ◌==◌, true, false, ℕ, ◌<◌, ◌≤◌, List, [], ◌++◌, length, take, drop, refl, sym, ap, ◌∙◌, subst, append_assoc, append-nil, take-append-drop, arith, length-drop, length-append}
use Rattle.std.proofs.lemmas.Bool.Decides.{nat_tests}
use Rattle.std.specs.Io.KnownBytes.{Keeps}
use Rattle.std.proofs.KnownBytes.{Appends-nil, Appends-trans, Appends-kept}
use Rattle.hg_replay.specs.declared.replaying.output.TheConstants.{ROOM}
use Rattle.hg_replay.specs.declared.replaying.output.Output.{Output}
use Rattle.hg_replay.specs.Sinks.{Seen}
use Rattle.hg_replay.specs.Writes.{Wrote, StopsIn, StopsSoon, WritesAllBut, IsGiven, Emits}

pub moves_front : (all done rest : List ℕ) (n : ℕ) → all ≡ done ++ rest → all ≡ (done ++ take n rest) ++ drop n rest
moves_front all done rest n e = e ∙ ap (λ l. done ++ l) (sym (take-append-drop n rest)) ∙ sym (append_assoc done (take n rest) (drop n rest))

pub some_left : (n : ℕ) → false ≡ n == 0 → 0 < n
some_left n h = grind (arith, nat_tests)

-- a write that took nothing
pub front_none : (a b c : Seen) (all done rest : List ℕ) (n : ℕ) → all ≡ done ++ rest → n ≡ 0 → 0 < length rest → Wrote a b done
    → Wrote b c (take n rest) → c.has_stopped ≡ true → StopsIn a c all
front_none a b c all done rest n e none some p q stopped =
    record {
      front = done ++ take n rest;
      rest = drop n rest;
      split = moves_front all done rest n e;
      not_all = omega (arith, length-drop n rest);
      written = Appends-trans a.contents b.contents c.contents done (take n rest) p q;
      stopped = stopped;
    }

-- of two texts, the first stopped
pub front_first : (a b : Seen) (one other : List ℕ) → StopsIn a b one → StopsIn a b (one ++ other)
front_first a b one other stopped = record {
  front = stopped.front;
  rest = stopped.rest ++ other;
  split = ap (λ l. l ++ other) stopped.split ∙ append_assoc stopped.front stopped.rest other;
  not_all = omega (arith, stopped.not_all, length-append stopped.rest other);
  written = stopped.written;
  stopped = stopped.stopped;
}

-- the first was written, and the other stopped
pub front_later : (a b c : Seen) (one other : List ℕ) → Wrote a b one → StopsIn b c other → StopsIn a c (one ++ other)
front_later a b c one other written stopped = record {
  front = one ++ stopped.front;
  rest = stopped.rest;
  split = ap (λ l. one ++ l) stopped.split ∙ sym (append_assoc one stopped.front stopped.rest);
  not_all = stopped.not_all;
  written = Appends-trans a.contents b.contents c.contents one stopped.front written stopped.written;
  stopped = stopped.stopped;
}

-- a write that failed
pub front_kept : (a b c : Seen) (all done rest : List ℕ) → all ≡ done ++ rest → 0 < length rest → Wrote a b done → Keeps b.contents c.contents → c.has_stopped ≡ true
    → StopsIn a c all
front_kept a b c all done rest e some p q stopped = record {
  front = done;
  rest = rest;
  split = e;
  not_all = some;
  written = Appends-kept a.contents b.contents c.contents done p q;
  stopped = stopped;
}

-- one text, and then the other
pub emits_then : (a b c : Seen) (x y z : Output) (one other : List ℕ) → Emits a x b y one → Emits b y c z other → Emits a x c z (one ++ other)
emits_then a b c x y z one other first second = λ start text given.
    subst (λ l. IsGiven start c z l) (append_assoc text one other) (second start (text ++ one) (first start text given))

pub emits_none : (a : Seen) (x : Output) → Emits a x a x []
emits_none a x = λ start text given. subst (λ l. IsGiven start a x l) (sym (append-nil text)) given

-- once a write has stopped, nothing more is written
pub emits_after_stop : (a : Seen) (x : Output) (bytes : List ℕ) → x.stopped ≡ true → Emits a x a x bytes
emits_after_stop a x bytes stopped = λ start text given.
    (λ on. absurd (cc), λ _. front_first start a text bytes (given.1 stopped))

-- bytes written where none wait
pub emits_written : (a b : Seen) (x : Output) (bytes : List ℕ) → x.waiting.items ≡ [] → x.stopped ≡ false → Wrote a b bytes → Emits a x b x bytes
emits_written a b x bytes none on written = λ start text given.
    let before : WritesAllBut [] start a text = subst (λ l. WritesAllBut l start a text) none (given.0 on) in
    let whole : text ≡ before.front = before.split ∙ append-nil before.front in (
      λ _. subst (λ l. WritesAllBut l start b (text ++ bytes)) (sym none) (record {
        front = before.front ++ bytes;
        split = ap (λ l. l ++ bytes) whole ∙ sym (append-nil (before.front ++ bytes));
        fits = omega arith;
        written = Appends-trans start.contents a.contents b.contents before.front bytes before.written written;
      }),
      λ stopped. absurd (cc),
    )

-- bytes of which the writing stopped, where none wait
pub emits_stopped : (a b : Seen) (x y : Output) (bytes : List ℕ) → x.waiting.items ≡ [] → x.stopped ≡ false → y.stopped ≡ true → StopsIn a b bytes
    → Emits a x b y bytes
emits_stopped a b x y bytes none on stopped front = λ start text given.
    let before : WritesAllBut [] start a text = subst (λ l. WritesAllBut l start a text) none (given.0 on) in
    let whole : before.front ≡ text = sym (before.split ∙ append-nil before.front) in
    (λ off. absurd (cc), λ _. front_later start a b text bytes (subst (λ l. Wrote start a l) whole before.written) front)

-- what waits is given to be written from here on
pub given_here : (a : Seen) (x : Output) → x.stopped ≡ false → length x.waiting.items ≤ ROOM → IsGiven a a x x.waiting.items
given_here a x on fits = (
  λ going. record { front = []; split = refl; fits = fits; written = Appends-nil a.contents },
  λ off. absurd (cc),
)

-- a write stops in what waits and more
pub stops_soon : (a b c : Seen) (waiting text here : List ℕ) → WritesAllBut waiting a b text → StopsIn b c (waiting ++ here) → StopsSoon a c text here
stops_soon a b c waiting text here before later =
    let stop : StopsIn a c (text ++ here) = record {
      front = before.front ++ later.front;
      rest = later.rest;
      split =
          ap (λ l. l ++ here) before.split ∙ append_assoc before.front waiting here
          ∙ ap (λ l. before.front ++ l) later.split ∙ sym (append_assoc before.front later.front later.rest);
      not_all = later.not_all;
      written = Appends-trans a.contents b.contents c.contents before.front later.front before.written later.written;
      stopped = later.stopped;
    } in
    let long = ap (λ l. length l) before.split ∙ length-append before.front waiting in
    let both = length-append before.front later.front in
    let fits = before.fits in
    record { stopped = stop; waited = omega arith }

-- a line is given to be written, and a write stops
pub stops_in_line : (a b c : Seen) (x y : Output) (text here : List ℕ) → IsGiven a b x text → x.stopped ≡ false → y.stopped ≡ true → Emits b x c y here
    → StopsSoon a c text here
stops_in_line a b c x y text here given on stopped emits =
    let before = given.0 on in
    stops_soon a b c x.waiting.items text here before ((emits b x.waiting.items (given_here b x on before.fits)).1 stopped)

-- a write stops in what waits after the last line
pub stops_in_last : (a b c : Seen) (x : Output) (text all here : List ℕ) → IsGiven a b x all → x.stopped ≡ false → all ≡ text ++ here
    → ((start : Seen) (given : List ℕ) → IsGiven start b x given → StopsIn start c given) → StopsSoon a c text here
stops_in_last a b c x text all here given on split stopped =
    let before = given.0 on in
    let waits = x.waiting.items in
    let later : StopsIn b c waits = stopped b waits (given_here b x on before.fits) in
    let soon = stops_soon a b c waits all [] before (subst (StopsIn b c) (sym (append-nil waits)) later) in
    let most = soon.waited in
    let long = ap (λ l. length l) split ∙ length-append text here in
    let stop : StopsIn a c (text ++ here) = record {
      front = soon.stopped.front;
      rest = soon.stopped.rest;
      split = sym split ∙ sym (append-nil all) ∙ soon.stopped.split;
      not_all = soon.stopped.not_all;
      written = soon.stopped.written;
      stopped = soon.stopped.stopped;
    } in
    record { stopped = stop; waited = omega arith }

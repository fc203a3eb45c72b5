-- What the numbers in answers count.
use Rattle.std.specs.Prelude.{◌≡◌, ℕ, ◌&&◌, Bool, is_some, is_none, count_by}
use Rattle.hg_machine.specs.declared.Event.TheVariants as event
use Rattle.hg_machine.specs.declared.Answer.TheVariants as answer
use Rattle.hg_machine.specs.Life.{is_home, is_parted}
use Rattle.hg_machine.specs.State.{State, record_at, class_at, places_in, pages_in}
use Rattle.hg_machine.specs.Steps.{Step}

-- the place was parted, and now is home
abbrev pub came_home : State → State → ℕ → Bool
came_home old new place = is_parted (record_at old place).life && is_home (record_at new place).life

-- the page had a class, and now has none
abbrev pub lost_class : State → State → ℕ → Bool
lost_class old new page = is_some (class_at old page) && is_none (class_at new page)

-- a Take tells how many places came home
abbrev pub TakenIsCounted : Type 0
TakenIsCounted =
    (old : State) (worker segment n : ℕ) (new : State)
    → Step old worker (event.Take segment) (answer.Taken n) new
    → n ≡ count_by (came_home old new) (places_in old)

-- a Collect tells how many pages lost their class
abbrev pub PagesAreCounted : Type 0
PagesAreCounted =
    (old : State) (worker n : ℕ) (new : State)
    → Step old worker event.Collect (answer.Pages n) new
    → n ≡ count_by (lost_class old new) (pages_in old)

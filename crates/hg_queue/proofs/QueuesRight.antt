-- The lists of a queue's pages are queues, also once a page was put in or taken out.
use Rattle.std.proofs.Common.{◌≡◌, ℕ, ◌<◌, List, [], ◌∷◌, length, slice_get, Option, None, Some, sym, ap, ◌∙◌, subst, length-set}
use Rattle.std.specs.Prelude.{Contains, IfSome}
use Rattle.std.proofs.lemmas.List.{length-map}
use Rattle.hg_lists.specs.Lists.{Lists, list_of, without, with_front, without_entry, AreApart}
use Rattle.hg_lists.proofs.Listed.{without_entry-nowhere, Contains-first}
use Rattle.hg_queue.specs.declared.page_queues.TheConstants.{PAGES}
use Rattle.hg_queue.specs.Queues.{queue_of, IsQueued, AreQueues, IsRight}

pub queues_are : (lists : Lists) → IsRight lists → AreQueues lists.by_key
queues_are lists h = record {
  all = h.keys;
  below = λ key page on. subst (λ (n : ℕ). page < n) h.pages (h.apart.below key page on);
  once = h.apart.once;
  alone = h.apart.alone;
}

-- of a value that is seen
pub queues_seen : (lists : Lists) (queues : List (List ℕ)) → lists.by_key ≡ queues → IsRight lists → AreQueues queues
queues_seen lists queues e h = subst AreQueues e (queues_are lists h)

pub pushed_right : (old new : Lists) (key page : ℕ) → IsRight old → new ≡ with_front old key page → AreApart new → IsRight new
pushed_right old new key page h e apart = record {
  keys = ap (λ (l : Lists). length l.by_key) e ∙ length-set old.by_key key (page ∷ list_of old key) ∙ h.keys;
  pages = ap (λ (l : Lists). l.entries) e ∙ h.pages;
  apart = apart;
}

pub removed_right : (old new : Lists) (page : ℕ) → IsRight old → new ≡ without_entry old page → AreApart new → IsRight new
removed_right old new page h e apart = record {
  keys = ap (λ (l : Lists). length l.by_key) e ∙ length-map old.by_key (without page) ∙ h.keys;
  pages = ap (λ (l : Lists). l.entries) e ∙ h.pages;
  apart = apart;
}

-- a page that is in no queue changes none
pub removed_nowhere : (old new : Lists) (queues : List (List ℕ)) (page : ℕ) → old.by_key ≡ queues → new ≡ without_entry old page
    → ¬ IsQueued queues page → new.by_key ≡ queues
removed_nowhere old new queues page seen e away =
    let nowhere : (key : ℕ) → ¬ Contains (list_of old key) page =
    λ key on. away (key, subst (λ (qs : List (List ℕ)). Contains (queue_of qs key) page) seen on) in
    ap (λ (l : Lists). l.by_key) e ∙ ap (λ (l : Lists). l.by_key) (without_entry-nowhere old page nowhere) ∙ seen

-- the first of a queue is a page
pub first_below : (lists : Lists) (key : ℕ) (first : Option ℕ) → IsRight lists → first ≡ slice_get (list_of lists key) 0 → IfSome first (λ page. page < PAGES)
first_below lists key None h e = tt
first_below lists key (Some page) h e = (queues_are lists h).below key page (Contains-first page (list_of lists key) e)

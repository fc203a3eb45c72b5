-- What the calls on lists by key leave of a remote list and its flags.
use Rattle.std.proofs.Common.{◌≡◌, ◌≢◌, ℕ, zero, suc, ◌<◌, Bool, true, false, List, [], ◌∷◌, ◌++◌, length, replicate, Some, slice_get, slice_index_or, slice_set, refl, sym, ap, ◌∙◌, arith, subst, inl, inr, get_or-set_other, get_or-set_same}
use Rattle.std.specs.Prelude.{Contains}
use Rattle.std.specs.List.{concat}
use Rattle.std.proofs.lemmas.List.{length-set, length-map, ext_get_or}
use Rattle.std.proofs.lemmas.Bool.{cases_eq}
use Rattle.hg_place.specs.Places.{page_of}
use Rattle.hg_lists.specs.Lists.{Lists, list_of, AreApart, with_front, without, without_entry}
use Rattle.hg_lists.proofs.InsertsLemmas.{without_entry-first}
use Rattle.hg_lists.proofs.Listed.{Contains-first}
use Rattle.hg_remote.specs.Remote.{Remote, IsRight, contents, slot, thread_at, is_delayed, nothing_sent}
use Rattle.hg_remote.specs.Sends.{with_thread, sent}
use Rattle.hg_remote.specs.Kept.{remote_by, IsKept}
use Rattle.hg_remote.proofs.RemoteBy.{delayed_by, thread_by, set_delayed, set_thread}
use Rattle.hg_remote.proofs.Delayed.{has_of, has_of-same, has_of-other}
use Rattle.hg_remote.proofs.Sent.{Sent, IsNew, thread_sent, delayed_sent, sent_on, sent_off, page_of_slot}
use Rattle.hg_remote.proofs.Drained.{Drained, thread_drained, delayed_drained, unflagged}

-- lists of no place
pub nothing_at : (n page : ℕ) → slice_index_or {A = List ℕ} (replicate n []) page [] ≡ []
nothing_at zero page = refl
nothing_at (suc n) zero = refl
nothing_at (suc n) (suc page) = nothing_at n page

no_flag : (n page : ℕ) → slice_index_or (replicate n false) page false ≡ false
no_flag zero page = refl
no_flag (suc n) zero = refl
no_flag (suc n) (suc page) = no_flag n page

nothing_contained : (x : ℕ) → ¬ Contains {X = ℕ} [] x
nothing_contained x c = omega (arith, c.1)

pub nothing_right : IsRight nothing_sent
nothing_right = record {
  all = refl;
  below = λ place c. absurd (nothing_contained place c);
  once = tt;
  own = λ page place c. absurd (nothing_contained place (subst (λ (xs : List ℕ). Contains xs place) (nothing_at 16 page) c));
  one_delayed = tt;
  behind = λ page any. absurd (any (nothing_at 16 page));
}

pub nothing_by : (m : Lists) → length m.by_key ≡ 17 → ((key : ℕ) → list_of m key ≡ []) → remote_by m.by_key ≡ nothing_sent
nothing_by m keys empty = ap remote_by (ext_get_or [] m.by_key (replicate 17 []) keys (λ key lt. empty key ∙ sym (nothing_at 17 key)))

pub nothing_kept : (m : Lists) → length m.by_key ≡ 17 → m.entries ≡ 8192 → AreApart m → ((key : ℕ) → list_of m key ≡ []) → IsKept m (replicate 16 false)
nothing_kept m keys entries apart empty = record {
  keys = keys;
  entries = entries;
  apart = apart;
  right = subst IsRight (sym (nothing_by m keys empty)) nothing_right;
  flagged = refl;
  told = λ page lt. no_flag 16 page ∙ sym (ap (λ (r : Remote). is_delayed r page) (nothing_by m keys empty));
}

-- after a push on lists by key
pub record Pushed (r : Remote) (new : Lists) (flags : List Bool) (page index : ℕ) : Type 0 where
  pub now : remote_by new.by_key ≡ sent r page index
  pub put : Sent r (remote_by new.by_key) (slot page index)
  pub kept : IsKept new flags

pub thread_pushed : (m new : Lists) (flags : List Bool) (page index : ℕ) → IsKept m flags → IsNew (remote_by m.by_key) page index → slice_index_or flags page false ≡ true → new ≡ with_front m (suc page) (slot page index) → AreApart new → Pushed (remote_by m.by_key) new flags page index
thread_pushed m new flags page index h n flag e apart =
    let r : Remote = remote_by m.by_key in
    let on : is_delayed r page ≡ true = sym (h.told page n.page_below) ∙ flag in
    let is : remote_by new.by_key ≡ with_thread r page (slot page index ∷ thread_at r page) =
    ap (λ (l : Lists). remote_by l.by_key) e ∙ set_thread m.by_key page (slot page index ∷ list_of m (suc page)) ∙ ap (λ (xs : List ℕ). with_thread r page (slot page index ∷ xs)) (thread_by m.by_key page) in
    let put = subst (λ (s : Remote). Sent r s (slot page index)) (sym is) (thread_sent r page index h.right n on) in record {
      now = is ∙ sym (sent_on r page index on);
      put = put;
      kept = record {
        keys = ap (λ (l : Lists). length l.by_key) e ∙ length-set m.by_key (suc page) (slot page index ∷ list_of m (suc page)) ∙ h.keys;
        entries = ap (λ (l : Lists). l.entries) e ∙ h.entries;
        apart = apart;
        right = put.right;
        flagged = h.flagged;
        told = λ p lt. h.told p lt ∙ sym (ap (λ (s : Remote). is_delayed s p) is);
      };
    }

pub delayed_pushed : (m new : Lists) (flags : List Bool) (page index : ℕ) → IsKept m flags → IsNew (remote_by m.by_key) page index → slice_index_or flags page false ≡ false → new ≡ with_front m 0 (slot page index) → AreApart new → Pushed (remote_by m.by_key) new (slice_set flags page true) page index
delayed_pushed m new flags page index h n flag e apart =
    let r : Remote = remote_by m.by_key in
    let off : is_delayed r page ≡ false = sym (h.told page n.page_below) ∙ flag in
    let is : remote_by new.by_key ≡ record r { delayed = slot page index ∷ r.delayed } =
    ap (λ (l : Lists). remote_by l.by_key) e ∙ set_delayed m.by_key (slot page index ∷ list_of m 0) (omega (arith, h.keys)) ∙ ap (λ (xs : List ℕ). record r { delayed = slot page index ∷ xs }) (delayed_by m.by_key) in
    let put = subst (λ (s : Remote). Sent r s (slot page index)) (sym is) (delayed_sent r page index h.right n off) in
    let of_page : page_of (slot page index) ≡ page = page_of_slot page index n.index_below in record {
      now = is ∙ sym (sent_off r page index off);
      put = put;
      kept = record {
        keys = ap (λ (l : Lists). length l.by_key) e ∙ length-set m.by_key 0 (slot page index ∷ list_of m 0) ∙ h.keys;
        entries = ap (λ (l : Lists). l.entries) e ∙ h.entries;
        apart = apart;
        right = put.right;
        flagged = length-set flags page true ∙ h.flagged;
        told = λ p lt. elim (cases_eq p page) [
          | inl s ↦ rw s (get_or-set_same flags page true false (omega (arith, h.flagged, n.page_below)) ∙ sym (ap (λ (s : Remote). is_delayed s page) is ∙ has_of-same (slot page index) page r.delayed of_page))
          | inr ne ↦ get_or-set_other flags page p true false ne ∙ h.told p lt ∙ sym (ap (λ (s : Remote). is_delayed s p) is ∙ has_of-other (slot page index) p r.delayed (λ s. ne (sym s ∙ of_page)))
        ];
      };
    }

-- what begins with a place
pub first_rest : (xs : List ℕ) (x : ℕ) → Some x ≡ slice_get xs 0 → (rest : List ℕ) × (xs ≡ x ∷ rest)
first_rest [] x e = cc
first_rest (y ∷ ys) x e = (ys, let s : y ≡ x = cc in ap (λ (z : ℕ). z ∷ ys) s)

-- the first delayed place
pub record First (m : Lists) (first : ℕ) : Type 0 where
  pub below : first < 8192
  pub page : page_of first < 16
  pub others : List ℕ
  pub leads : (remote_by m.by_key).delayed ≡ first ∷ others
  pub listed : list_of m 0 ≡ first ∷ others

pub first_delayed : (m : Lists) (flags : List Bool) (first : ℕ) → IsKept m flags → Some first ≡ slice_get (list_of m 0) 0 → First m first
first_delayed m flags first h e =
    let small : first < 8192 = omega (arith, h.entries, h.apart.below 0 first (Contains-first first (list_of m 0) e)) in
    let rest = first_rest (list_of m 0) first e in record {
      below = small;
      page = omega (arith, small);
      others = rest.0;
      leads = sym (delayed_by m.by_key) ∙ rest.1;
      listed = rest.1;
    }

-- after a removal from lists by key
pub record Taken (r : Remote) (new : Lists) (flags : List Bool) (place : ℕ) : Type 0 where
  pub drained : Drained r (remote_by new.by_key) place
  pub kept : IsKept new flags

pub thread_taken : (m new : Lists) (flags : List Bool) (first place : ℕ) → IsKept m flags → Some first ≡ slice_get (list_of m 0) 0 → Some place ≡ slice_get (list_of m (suc (page_of first))) 0 → new ≡ without_entry m place → AreApart new → Taken (remote_by m.by_key) new flags place
thread_taken m new flags first place h lead e gone apart =
    let r : Remote = remote_by m.by_key in
    let page : ℕ = page_of first in
    let f = first_delayed m flags first h lead in
    let rest = first_rest (list_of m (suc page)) place e in
    let is : remote_by new.by_key ≡ with_thread r page rest.0 =
    ap (λ (l : Lists). remote_by l.by_key) gone ∙ ap remote_by (without_entry-first m (suc page) place rest.0 h.apart (omega (arith, h.keys, f.page)) rest.1) ∙ set_thread m.by_key page rest.0 in
    let drained = subst (λ (s : Remote). Drained r s place) (sym is) (thread_drained r first f.others place rest.0 h.right f.leads f.page (sym (thread_by m.by_key page) ∙ rest.1)) in record {
      drained = drained;
      kept = record {
        keys = ap (λ (l : Lists). length l.by_key) gone ∙ length-map m.by_key (without place) ∙ h.keys;
        entries = ap (λ (l : Lists). l.entries) gone ∙ h.entries;
        apart = apart;
        right = drained.right;
        flagged = h.flagged;
        told = λ p lt. h.told p lt ∙ sym (ap (λ (s : Remote). is_delayed s p) is);
      };
    }

pub delayed_taken : (m new : Lists) (flags : List Bool) (first : ℕ) → IsKept m flags → Some first ≡ slice_get (list_of m 0) 0 → list_of m (suc (page_of first)) ≡ [] → new ≡ without_entry m first → AreApart new → Taken (remote_by m.by_key) new (slice_set flags (page_of first) false) first
delayed_taken m new flags first h lead empty gone apart =
    let r : Remote = remote_by m.by_key in
    let page : ℕ = page_of first in
    let f = first_delayed m flags first h lead in
    let is : remote_by new.by_key ≡ record r { delayed = f.others } =
    ap (λ (l : Lists). remote_by l.by_key) gone ∙ ap remote_by (without_entry-first m 0 first f.others h.apart (omega (arith, h.keys)) f.listed) ∙ set_delayed m.by_key f.others (omega (arith, h.keys)) in
    let drained = subst (λ (s : Remote). Drained r s first) (sym is) (delayed_drained r first f.others h.right f.leads (sym (thread_by m.by_key page) ∙ empty)) in record {
      drained = drained;
      kept = record {
        keys = ap (λ (l : Lists). length l.by_key) gone ∙ length-map m.by_key (without first) ∙ h.keys;
        entries = ap (λ (l : Lists). l.entries) gone ∙ h.entries;
        apart = apart;
        right = drained.right;
        flagged = length-set flags page false ∙ h.flagged;
        told = λ p lt. elim (cases_eq p page) [
          | inl s ↦ rw s (get_or-set_same flags page false false (omega (arith, h.flagged, f.page)) ∙ sym (ap (λ (s : Remote). is_delayed s page) is ∙ unflagged r first f.others h.right f.leads))
          | inr ne ↦ get_or-set_other flags page p false false ne ∙ h.told p lt ∙ ap (λ (xs : List ℕ). has_of xs p) f.leads ∙ has_of-other first p f.others (λ s. ne (sym s)) ∙ sym (ap (λ (s : Remote). is_delayed s p) is)
        ];
      };
    }

-- nothing stands there exactly where the delayed list is empty
pub none_on : (xs : List ℕ) → (xs ≢ [] → ⊥) → xs ≡ []
none_on [] f = refl
none_on (x ∷ xs) f = absurd (f (λ e. cc))

concat_empty : (lists : List (List ℕ)) → ((page : ℕ) → slice_index_or lists page [] ≡ []) → concat lists ≡ []
concat_empty [] f = refl
concat_empty (xs ∷ lists) f = ap (λ (ys : List ℕ). ys ++ concat lists) (f 0) ∙ concat_empty lists (λ page. f (suc page))

pub contents_none : (r : Remote) → IsRight r → r.delayed ≡ [] → contents r ≡ []
contents_none r h e =
    let each : (page : ℕ) → thread_at r page ≡ [] = λ page. none_on (thread_at r page) (λ any. (let on : is_delayed r page ≡ true = h.behind page any in let off : is_delayed r page ≡ false = ap (λ (xs : List ℕ). has_of xs page) e in cc)) in
    ap (λ (xs : List ℕ). xs ++ concat r.thread_free) e ∙ concat_empty r.thread_free each

append_none : (xs ys : List ℕ) → xs ++ ys ≡ [] → xs ≡ []
append_none [] ys e = refl
append_none (x ∷ xs) ys e = cc

pub delayed_none : (r : Remote) → contents r ≡ [] → r.delayed ≡ []
delayed_none r e = append_none r.delayed (concat r.thread_free) e

pub contents_some : (r : Remote) (first : ℕ) (others : List ℕ) → r.delayed ≡ first ∷ others → contents r ≢ []
contents_some r first others leads e = let none = delayed_none r e in cc

-- What lines and arenas say.
use Rattle.std.proofs.Common.{◌≡◌, ℕ, ◌<◌, Bool, true, false, ◌||◌, ◌&&◌, List, [], ◌∷◌, ◌++◌, length, get_or, replicate, Option, Some, None, Ok, refl, sym, ap, ◌∙◌, arith, cond, position}
use Rattle.std.specs.List.{list_any}
use Rattle.std.specs.Option.{option_or}
use Rattle.std.specs.Str.{bytes_eq}
use Rattle.std.proofs.Math.Bool.{or-false}
use Rattle.std.proofs.lemmas.Bool.{true≢false}
use Rattle.std.proofs.lemmas.List.{get_or_append_left, get_or_push, get_or-replicate, length_push}
use Rattle.std.proofs.lemmas.List.Folds.{list_any_at}
use Rattle.std.proofs.lemmas.List.Quantifiers.{position-Some}
use Rattle.toml.specs.Data.{Data, Members}
use Rattle.hg_place.specs.declared.Right.{Right}
use Rattle.hg_machine.specs.Policy.{Tenant, Rights}
use Rattle.hg_policy_text.specs.declared.key.Key.TheVariants as key
use Rattle.hg_policy_text.specs.declared.key.Level.TheVariants as level
use Rattle.hg_policy_text.specs.Faults.{in_turn}
use Rattle.hg_policy_text.specs.Values.{field_at, value_at, known_keys, whole_at, elements_in, or_else}
use Rattle.hg_policy_text.specs.NameForm.{name_at}
use Rattle.hg_policy.specs.Names.{is_among}
use Rattle.hg_policy.specs.TenantSets.{just, either}
use Rattle.hg_policy_text.specs.Groups.{Group, groups_in, named_in, named_at}
use Rattle.hg_policy_text.specs.Lines.{Line, names_right, rights_in, line_in, with_line, lines_in}
use Rattle.hg_policy_text.specs.Arenas.{Arenas, no_arenas, with_arena, with_named, admitted_in, admitted_at, arena_at, arenas_in}
use Rattle.hg_policy_text.specs.SaidLaws.{is_text, has_some, says, has_entry, stands_for, right_text, says_right, is_open_to}
use Rattle.hg_policy_text.proofs.Chains.{bind_at}
use Rattle.hg_policy_text.proofs.ArenaEntries.{with_arena-is}
use Rattle.hg_policy.proofs.Texts.{text_other}
use Rattle.hg_policy_text.proofs.SaidWords.{in_turn-says, list_any-push, says-read, says-name, has_some-read, rights_in-says, position-push}
use Rattle.hg_policy_laws.proofs.Said.{just-none, either-at, within, named_in-says, named_at-says}

-- a document, with its tenants and groups
module _ (tenants : List Tenant) (document : Members) (entries : List Members) (groups : List Group)
    (heads : (test : Members → Bool) → list_any test entries ≡ has_entry key.Group test document)
    (read : groups_in tenants entries ≡ Ok groups) where
  -- the lines, of two tenants and a right
  module _ (owner actor : List ℕ) (i j : ℕ) (right : Right)
      (at : position (λ tenant. bytes_eq owner tenant.name) tenants ≡ Some i)
      (to : position (λ tenant. bytes_eq actor tenant.name) tenants ≡ Some j) where
    line_in-says : (entry : Members) (line : Line) → line_in tenants groups entry ≡ Ok line → names_right i j right line ≡ says_right document owner actor right entry
    unfolding line_in
    line_in-says entry line e =
        let (known, at1, e1) = bind_at (known_keys level.Grant entry) _ line e in
        let (owners, at2, e2) = bind_at (named_at key.Owner tenants groups entry) _ line e1 in
        let (actors, at3, e3) = bind_at (named_at key.To tenants groups entry) _ line e2 in
        let (value, at4, e4) = bind_at (value_at key.Rights entry) _ line e3 in
        let all : Rights → Line = λ rights. record { owners = owners; to = actors; rights = rights } in
        let (rights, at5, e5) = bind_at (rights_in value) (λ rights. Ok (all rights)) line e4 in
        let f : all rights ≡ line = cc in
        rw (
          ← f,
          named_at-says tenants owner i at document entries groups heads read key.Owner entry owners at2,
          named_at-says tenants actor j to document entries groups heads read key.To entry actors at3,
          rights_in-says right value rights at5,
          says-read key.Rights (has_some (is_text (right_text right))) entry value at4,
        )
        refl

    pub lines_in-says : (lines : List Line) (all : List Members) → lines_in tenants groups all ≡ Ok lines → list_any (names_right i j right) lines ≡ list_any (says_right document owner actor right) all
    unfolding lines_in
    lines_in-says lines all e =
        in_turn-says (with_line tenants groups) (λ _. Prim.Unit {0}) (λ done. list_any (names_right i j right) done) (says_right document owner actor right)
        (λ done entry next e _.
        let (line, at, is) = bind_at (line_in tenants groups entry) (λ line. Ok (done ++ line ∷ [])) next e in
        let f : done ++ line ∷ [] ≡ next = cc in
        (tt, rw (← f) (list_any-push (names_right i j right) done line ∙ ap (λ b. list_any (names_right i j right) done || b) (line_in-says entry line at))))
        [] all lines e tt

  -- whom an arena admits
  module _ (tenant : List ℕ) (k : ℕ) (at : position (λ one. bytes_eq tenant one.name) tenants ≡ Some k) where
    admitted_in-says : (value : Data) (admitted : List Bool) → admitted_in tenants groups value ≡ Ok admitted → get_or admitted k false ≡ has_some (stands_for document tenant) value
    admitted_in-says value admitted e =
        let n = length tenants in
        let below : k < n = within tenants tenant k at in
        let (ds, there, rest) = bind_at (elements_in key.Exclusive value) (λ names. in_turn (with_named tenants groups) (just n []) names) admitted e in
        in_turn-says (with_named tenants groups) (λ _. Prim.Unit {0}) (λ done. get_or done k false) (stands_for document tenant)
        (λ done d next e _.
        let (named, one, is) = bind_at (named_in key.Exclusive tenants groups d) (λ named. Ok (either n done named)) next e in
        let f : either n done named ≡ next = cc in
        (tt, rw (← f) (either-at n done named k below ∙ ap (λ b. get_or done k false || b) (named_in-says tenants tenant k at document entries groups heads read key.Exclusive d named one))))
        (just n []) ds admitted rest tt
        ∙ ap (λ b. b || list_any (stands_for document tenant) ds) (just-none n k below)
        ∙ sym (has_some-read key.Exclusive (stands_for document tenant) value ds there)

    open-says : (o : Option Data) (admitted : List Bool) → or_else (replicate (length tenants) true) (admitted_in tenants groups) o ≡ Ok admitted → get_or admitted k false ≡ is_open_to document tenant o
    open-says None admitted e =
        let f : replicate (length tenants) true ≡ admitted = cc in
        rw (← f) (get_or-replicate (length tenants) k true false (within tenants tenant k at))
    open-says (Some value) admitted e = admitted_in-says value admitted e

    admitted_at-says : (entry : Members) (admitted : List Bool) → admitted_at tenants groups entry ≡ Ok admitted → get_or admitted k false ≡ is_open_to document tenant (field_at key.Exclusive entry)
    unfolding admitted_at
    admitted_at-says entry admitted e = open-says (field_at key.Exclusive entry) admitted e

    -- whom the arena of a number admits, if there is one
    abbrev pub flag_at : List (List Bool) → Option ℕ → Bool
    flag_at rows None = false
    flag_at rows (Some i) = get_or (get_or rows i []) k false

    abbrev pub says_admitted : List ℕ → Members → Bool
    says_admitted arena entry = says key.Name (is_text arena) entry && is_open_to document tenant (field_at key.Exclusive entry)

    flag-by : (b : Bool) (rows : List (List Bool)) (flags : List Bool) (n : ℕ) → length rows ≡ n → flag_at (rows ++ flags ∷ []) (cond b (Some n) None) ≡ (b && get_or flags k false)
    flag-by true rows flags n is = ap (λ row. get_or row k false) (get_or_push rows flags [] n is)
    flag-by false rows flags n is = refl

    flag-push : (names : List (List ℕ)) (rows : List (List Bool)) (arena name : List ℕ) (flags : List Bool) (o : Option ℕ) → length rows ≡ length names → is_among name names ≡ false → position (λ other. bytes_eq arena other) names ≡ o
        → flag_at (rows ++ flags ∷ []) (option_or o (cond (bytes_eq arena name) (Some (length names)) None)) ≡ (flag_at rows o || (bytes_eq arena name && get_or flags k false))
    flag-push names rows arena name flags None each new is = flag-by (bytes_eq arena name) rows flags (length names) each
    flag-push names rows arena name flags (Some i) each new is =
        let p = position-Some (λ other. bytes_eq arena other) names i [] is in
        let other : bytes_eq arena name ≡ false = text_other arena name (λ e.
        true≢false (sym (list_any_at (λ other. bytes_eq name other) names i [] p.0 (ap (λ t. bytes_eq t (get_or names i [])) (sym e) ∙ p.1)) ∙ new)) in
        rw (other, get_or_append_left rows (flags ∷ []) [] i (omega (arith, p.0, each))) (sym (or-false (get_or (get_or rows i []) k false)))

    abbrev pub admits_by : List ℕ → Arenas → Bool
    admits_by arena done = flag_at done.admitted (position (λ other. bytes_eq arena other) done.names)

    arena_at-says : (arena : List ℕ) (done : Arenas) (entry : Members) (out : Arenas) → arena_at tenants groups done entry ≡ Ok out → length done.admitted ≡ length done.names
        → (length out.admitted ≡ length out.names) × (admits_by arena out ≡ (admits_by arena done || says_admitted arena entry))
    unfolding arena_at
    arena_at-says arena done entry out e each =
        let (known, at1, e1) = bind_at (known_keys level.Arena entry) _ out e in
        let (name, at2, e2) = bind_at (name_at key.Name entry) _ out e1 in
        let (segments, at3, e3) = bind_at (whole_at key.Segments 0 9223372036854775807 entry) _ out e2 in
        let (admitted, at4, e4) = bind_at (admitted_at tenants groups entry) (λ admitted. with_arena done name segments admitted) out e3 in
        let w = with_arena-is done out name segments admitted e4 in
        let more : length (done.admitted ++ admitted ∷ []) ≡ length (done.names ++ name ∷ []) = omega (arith, length_push done.admitted admitted, length_push done.names name, each) in
        rw (w.0, says-name key.Name arena entry name at2, ← admitted_at-says entry admitted at4, position-push (λ other. bytes_eq arena other) done.names name)
        (more, flag-push done.names done.admitted arena name admitted (position (λ other. bytes_eq arena other) done.names) each w.2 refl)

    pub arenas_in-says : (arena : List ℕ) (all : List Members) (out : Arenas) → arenas_in tenants groups all ≡ Ok out → admits_by arena out ≡ list_any (says_admitted arena) all
    unfolding arenas_in
    arenas_in-says arena all out e =
        in_turn-says (arena_at tenants groups) (λ done. length done.admitted ≡ length done.names) (admits_by arena) (says_admitted arena) (arena_at-says arena)
        no_arenas all out e refl

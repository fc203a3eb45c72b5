-- What the lines of a document say, by names.
use Rattle.std.proofs.Common.{◌≡◌, ℕ, ◌<◌, Bool, true, false, ◌||◌, ◌&&◌, ◌==◌, List, [], ◌∷◌, ◌++◌, length, get_or, Option, Some, None, Ok, Err, refl, sym, ap, ◌∙◌, inl, inr, arith, if◌then◌else◌, eq-eqb, position}
use Rattle.std.specs.List.{list_any}
use Rattle.std.specs.Option.{option_or, option_map}
use Rattle.std.specs.Str.{bytes_eq}
use Rattle.std.proofs.Math.Bool.{or-false}
use Rattle.std.proofs.lemmas.Bool.{cases_Bool, true≢false}
use Rattle.std.proofs.lemmas.List.Folds.{list_any_at}
use Rattle.std.proofs.lemmas.List.FromFn.{get_or-map-range_with_len}
use Rattle.std.proofs.lemmas.List.Quantifiers.{position-Some}
use Rattle.toml.specs.Data.{Data, Members, string, integer}
use Rattle.hg_machine.specs.Policy.{Tenant, nobody}
use Rattle.hg_policy_text.specs.declared.key.Key.{Key}
use Rattle.hg_policy_text.specs.declared.key.Key.TheVariants as key
use Rattle.hg_policy_text.specs.declared.key.Level.TheVariants as level
use Rattle.hg_policy_text.specs.Faults.{Fault, in_turn, or_fault, no_such_name, repeated}
use Rattle.hg_policy_text.specs.Values.{value_at, known_keys, elements_in}
use Rattle.hg_policy_text.specs.NameForm.{name_at}
use Rattle.hg_policy.specs.Names.{is_among}
use Rattle.hg_policy_text.specs.Tenants.{number_in}
use Rattle.hg_policy.specs.Names.{tenant_names}
use Rattle.hg_policy.specs.TenantSets.{just, either}
use Rattle.hg_policy_text.specs.Groups.{Group, group_names, and_member, group_members_in, with_group, group_at, groups_in, group_named, named_in, named_at}
use Rattle.hg_policy_text.specs.SaidLaws.{is_text, has_some, says, has_entry, is_member, stands_for}
use Rattle.hg_policy_text.proofs.Chains.{bind_at, in_turn-keeps}
use Rattle.hg_policy.proofs.GrantTable.{ne-eqb}
use Rattle.hg_policy.proofs.Names.{list_any-map}
use Rattle.hg_policy.proofs.Texts.{same_text, text_same, text_other}
use Rattle.hg_policy_text.proofs.SaidWords.{in_turn-says, says-read, says-name, has_some-read, some_read}

-- one tenant alone, and the tenants of either list
just-at : (n tenant k : ℕ) → k < n → get_or (just n (tenant ∷ [])) k false ≡ (tenant == k)
just-at n tenant k below = get_or-map-range_with_len (λ other. list_any (λ member. member == other) (tenant ∷ [])) 0 n k k false below (omega arith) ∙ or-false (tenant == k)

pub just-none : (n k : ℕ) → k < n → get_or (just n []) k false ≡ false
just-none n k below = get_or-map-range_with_len (λ other. list_any (λ member. member == other) []) 0 n k k false below (omega arith)

pub either-at : (n : ℕ) (some more : List Bool) (k : ℕ) → k < n → get_or (either n some more) k false ≡ (get_or some k false || get_or more k false)
either-at n some more k below = get_or-map-range_with_len (λ tenant. get_or some tenant false || get_or more tenant false) 0 n k k false below (omega arith)

-- whether the tenants for whom a name stands, if it stands for any, have this one
abbrev pub has_flag : ℕ → Option (List Bool) → Bool
has_flag k None = false
has_flag k (Some flags) = get_or flags k false

flag_by : (b : Bool) (flags : List Bool) (k : ℕ) → has_flag k (if b then Some flags else None) ≡ (b && get_or flags k false)
flag_by true flags k = refl
flag_by false flags k = refl

-- one group more, by a new name
group_named-push : (done : List Group) (g : Group) (text : List ℕ) (k : ℕ) → is_among g.name (group_names done) ≡ false
    → has_flag k (group_named (done ++ g ∷ []) text) ≡ (has_flag k (group_named done text) || (bytes_eq text g.name && get_or g.members k false))
group_named-push [] g text k new = flag_by (bytes_eq text g.name) g.members k
group_named-push (h ∷ done) g text k new = elim (cases_Bool (bytes_eq g.name h.name)) [
  | inl there ↦ absurd (true≢false (sym (ap (λ b. b || is_among g.name (group_names done)) there) ∙ new))
  | inr apart ↦
      let rest : is_among g.name (group_names done) ≡ false = rw apart at new in
      elim (cases_Bool (bytes_eq text h.name)) [
        | inl here ↦
            let other : bytes_eq text g.name ≡ false = text_other text g.name (λ e. true≢false (sym (text_same g.name h.name (sym e ∙ same_text text h.name here)) ∙ apart)) in
            rw (here, other) (sym (or-false (get_or h.members k false)))
        | inr beside ↦ rw beside (group_named-push done g text k rest)
      ]
]

group_named-none : (done : List Group) (g : Group) (text : List ℕ) → group_named done text ≡ None → bytes_eq text g.name ≡ false → group_named (done ++ g ∷ []) text ≡ None
group_named-none [] g text none other = rw other refl
group_named-none (h ∷ done) g text none other = elim (cases_Bool (bytes_eq text h.name)) [
  | inl here ↦ let f : Some h.members ≡ None = rw here at none in cc
  | inr beside ↦ let rest : group_named done text ≡ None = rw beside at none in rw beside (group_named-none done g text rest other)
]

-- one tenant by name and number
module _ (tenants : List Tenant) (name : List ℕ) (k : ℕ) (at : position (λ tenant. bytes_eq name tenant.name) tenants ≡ Some k) where
  pub within : k < length tenants
  within = (position-Some (λ (tenant : Tenant). bytes_eq name tenant.name) tenants k nobody at).0

  pub named : name ≡ (get_or tenants k nobody).name
  named = same_text name (get_or tenants k nobody).name (position-Some (λ (tenant : Tenant). bytes_eq name tenant.name) tenants k nobody at).1

  same_number : (text : List ℕ) (j : ℕ) → position (λ tenant. bytes_eq text tenant.name) tenants ≡ Some j → (j == k) ≡ bytes_eq name text
  same_number text j other = elim (cases_Bool (bytes_eq name text)) [
    | inl same ↦
        let f : Some j ≡ Some k = sym other ∙ ap (λ t. position (λ (tenant : Tenant). bytes_eq t tenant.name) tenants) (sym (same_text name text same)) ∙ at in
        let g : j ≡ k = cc in
        eq-eqb j k g ∙ sym same
    | inr differs ↦
        let is : text ≡ (get_or tenants j nobody).name = same_text text (get_or tenants j nobody).name (position-Some (λ (tenant : Tenant). bytes_eq text tenant.name) tenants j nobody other).1 in
        ne-eqb j k (λ e. true≢false (sym (text_same name text (named ∙ ap (λ i. (get_or tenants i nobody).name) (sym e) ∙ sym is)) ∙ differs)) ∙ sym differs
  ]

  no_number : (text : List ℕ) → position (λ tenant. bytes_eq text tenant.name) tenants ≡ None → bytes_eq name text ≡ false
  no_number text none = text_other name text (λ e.
      let f : Some k ≡ None = sym at ∙ ap (λ t. position (λ (tenant : Tenant). bytes_eq t tenant.name) tenants) e ∙ none in cc)

  number_in-by : (f : Fault) (text : List ℕ) (n : ℕ) → or_fault f (position (λ tenant. bytes_eq text tenant.name) tenants) ≡ Ok n → (n == k) ≡ bytes_eq name text
  number_in-by f text n e = same_number text n (some_read f (position (λ (tenant : Tenant). bytes_eq text tenant.name) tenants) n e)

  number_in-says : (which : Key) (d : Data) (n : ℕ) → number_in which tenants d ≡ Ok n → (n == k) ≡ is_text name d
  number_in-says which (string text) n e = number_in-by (no_such_name text) text n e
  number_in-says which (integer z) n e = cc
  number_in-says which _ n e = cc

  -- the members of a group
  members-says : (value : Data) (members : List Bool) → group_members_in tenants value ≡ Ok members → get_or members k false ≡ has_some (is_text name) value
  members-says value members e =
      let n = length tenants in
      let (ds, read, rest) = bind_at (elements_in key.Members value) (λ names. in_turn (and_member tenants) (just n []) names) members e in
      in_turn-says (and_member tenants) (λ _. Prim.Unit {0}) (λ done. get_or done k false) (is_text name)
      (λ done d next e _.
      let (tenant, number, is) = bind_at (number_in key.Members tenants d) (λ tenant. Ok (either n done (just n (tenant ∷ [])))) next e in
      let f : either n done (just n (tenant ∷ [])) ≡ next = cc in
      (tt, rw (← f) (either-at n done (just n (tenant ∷ [])) k within ∙ ap (λ b. get_or done k false || b) (just-at n tenant k within ∙ number_in-says key.Members d tenant number))))
      (just n []) ds members rest tt
      ∙ ap (λ b. b || list_any (is_text name) ds) (just-none n k within)
      ∙ sym (has_some-read key.Members (is_text name) value ds read)

  -- an entry of a group of this name, with the tenant among its members
  abbrev pub has_member : List ℕ → Members → Bool
  has_member text entry = says key.Name (is_text text) entry && says key.Members (has_some (is_text name)) entry

  with_group-is : (done out : List Group) (text : List ℕ) (members : List Bool) → with_group tenants done text members ≡ Ok out
      → (out ≡ done ++ record { name = text; members = members } ∷ []) × (is_among text (tenant_names tenants) ≡ false) × (is_among text (group_names done) ≡ false)
  with_group-is done out text members e = elim (cases_Bool (is_among text (tenant_names tenants))) [
    | inl there ↦ let f : Err (repeated text) ≡ Ok out = rw there at e in cc
    | inr strange ↦ elim (cases_Bool (is_among text (group_names done))) [
      | inl there ↦ let f : Err (repeated text) ≡ Ok out = rw (strange, there) at e in cc
      | inr new ↦ let f : Ok (done ++ record { name = text; members = members } ∷ []) ≡ Ok out = rw (strange, new) at e in (cc, strange, new)
    ]
  ]

  record IsNextGroup (done out : List Group) (entry : Members) : Type 0 where
    group : Group
    is : out ≡ done ++ group ∷ []
    strange : is_among group.name (tenant_names tenants) ≡ false
    new : is_among group.name (group_names done) ≡ false
    by_name : (text : List ℕ) → says key.Name (is_text text) entry ≡ bytes_eq text group.name
    by_member : says key.Members (has_some (is_text name)) entry ≡ get_or group.members k false

  group_at-is : (done : List Group) (entry : Members) (out : List Group) → group_at tenants done entry ≡ Ok out → IsNextGroup done out entry
  unfolding group_at
  group_at-is done entry out e =
      let (known, at1, e1) = bind_at (known_keys level.Group entry) _ out e in
      let (text, at2, e2) = bind_at (name_at key.Name entry) _ out e1 in
      let (value, at3, e3) = bind_at (value_at key.Members entry) _ out e2 in
      let (members, at4, e4) = bind_at (group_members_in tenants value) (λ members. with_group tenants done text members) out e3 in
      let w = with_group-is done out text members e4 in
      record {
        group = record { name = text; members = members };
        is = w.0;
        strange = w.1;
        new = w.2;
        by_name = λ other. says-name key.Name other entry text at2;
        by_member = says-read key.Members (has_some (is_text name)) entry value at3 ∙ sym (members-says value members at4);
      }

  groups_in-says : (text : List ℕ) (entries : List Members) (groups : List Group) → groups_in tenants entries ≡ Ok groups → has_flag k (group_named groups text) ≡ list_any (has_member text) entries
  unfolding groups_in
  groups_in-says text entries groups e =
      in_turn-says (group_at tenants) (λ _. Prim.Unit {0}) (λ done. has_flag k (group_named done text)) (has_member text)
      (λ done entry next e _.
      let n = group_at-is done entry next e in
      (tt, rw (n.is, n.by_name text, n.by_member) (group_named-push done n.group text k n.new)))
      [] entries groups e tt

  -- no group has a tenant's name
  groups_in-strange : (text : List ℕ) → is_among text (tenant_names tenants) ≡ true → (entries : List Members) (groups : List Group) → groups_in tenants entries ≡ Ok groups → group_named groups text ≡ None
  unfolding groups_in
  groups_in-strange text known entries groups e =
      in_turn-keeps (group_at tenants) (λ done. group_named done text ≡ None)
      (λ done entry next e none.
      let n = group_at-is done entry next e in
      let other : bytes_eq text n.group.name ≡ false = text_other text n.group.name (λ same. true≢false (sym known ∙ ap (λ t. is_among t (tenant_names tenants)) same ∙ n.strange)) in
      rw n.is (group_named-none done n.group text none other))
      [] entries groups e refl

  pub among_tenants : (text : List ℕ) (j : ℕ) → position (λ tenant. bytes_eq text tenant.name) tenants ≡ Some j → is_among text (tenant_names tenants) ≡ true
  among_tenants text j other =
      let p = position-Some (λ (tenant : Tenant). bytes_eq text tenant.name) tenants j nobody other in
      list_any-map (λ other. bytes_eq text other) (λ (tenant : Tenant). tenant.name) tenants
      ∙ list_any_at (λ (tenant : Tenant). bytes_eq text tenant.name) tenants j nobody p.0 p.1

  -- in a document with these groups
  module _ (document : Members) (entries : List Members) (groups : List Group)
      (heads : (test : Members → Bool) → list_any test entries ≡ has_entry key.Group test document)
      (read : groups_in tenants entries ≡ Ok groups) where
    is_member-by : (text : List ℕ) → has_flag k (group_named groups text) ≡ is_member document text name
    is_member-by text = groups_in-says text entries groups read ∙ heads (has_member text)

    stands-by : (text : List ℕ) (o : Option ℕ) (flags : List Bool) → position (λ tenant. bytes_eq text tenant.name) tenants ≡ o
        → or_fault (no_such_name text) (option_or (option_map (λ tenant. just (length tenants) (tenant ∷ [])) o) (group_named groups text)) ≡ Ok flags
        → get_or flags k false ≡ (bytes_eq name text || is_member document text name)
    stands-by text (Some j) flags is e =
        let f : just (length tenants) (j ∷ []) ≡ flags = cc in
        let none : is_member document text name ≡ false = sym (is_member-by text) ∙ ap (has_flag k) (groups_in-strange text (among_tenants text j is) entries groups read) in
        rw (← f, none) (just-at (length tenants) j k within ∙ same_number text j is ∙ sym (or-false (bytes_eq name text)))
    stands-by text None flags is e =
        let there : group_named groups text ≡ Some flags = some_read (no_such_name text) (group_named groups text) flags e in
        rw (no_number text is) (sym (ap (has_flag k) there) ∙ is_member-by text)

    pub named_in-says : (which : Key) (d : Data) (flags : List Bool) → named_in which tenants groups d ≡ Ok flags → get_or flags k false ≡ stands_for document name d
    named_in-says which (string text) flags e = stands-by text (position (λ (tenant : Tenant). bytes_eq text tenant.name) tenants) flags refl e
    named_in-says which (integer z) flags e = cc
    named_in-says which _ flags e = cc

    pub named_at-says : (which : Key) (entry : Members) (flags : List Bool) → named_at which tenants groups entry ≡ Ok flags → get_or flags k false ≡ says which (stands_for document name) entry
    unfolding named_at
    named_at-says which entry flags e =
        let (value, at, rest) = bind_at (value_at which entry) (named_in which tenants groups) flags e in
        named_in-says which value flags rest ∙ sym (says-read which (stands_for document name) entry value at)

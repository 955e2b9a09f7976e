-- The fields that were written are the fields that are read.
use Rattle.std.proofs.Common.{◌≡◌, ℕ, suc, ◌<◌, ◌==◌, true, false, cond, List, [], ◌∷◌, ◌++◌, length, map, Option, Some, None, Result, Ok, Err, codes, Less, Greater, refl, sym, ap, ◌∙◌, arith, append-nil, append_assoc}
use Rattle.std.specs.Prelude.{⊤}
use Rattle.std.specs.Option.{option_map}
use Rattle.std.specs.List.{All, AllByRecursion}
use Rattle.std.specs.List.Sorted.{IsStrictlySortedBy}
use Rattle.std.specs.Map.{keys_of}
use Rattle.std.specs.Ordering.{ordering_reverse}
use Rattle.std.proofs.lemmas.Bool.Decides.{nat_tests}
use Rattle.std.proofs.lemmas.Cmp.{nat_list_cmp_total}
use Rattle.std.proofs.lemmas.List.Elements.{recursion_from_All}
use Rattle.std.proofs.lemmas.List.{length-map}
use Rattle.upd_text.specs.Text.{name_of, value_of, IsName, IsValue}
use Rattle.upd_text.proofs.TextLemmas.{name_parts}
use Rattle.upd_text.specs.Parts.{is_plain}
use Rattle.upd_text.specs.Order.{byte_cmp}
use Rattle.upd_text.specs.Results.{◌>>=◌}
use Rattle.upd_text.specs.declared.fault.NameFault.{NameFault}
use Rattle.serde_json.specs.Data.{Data, string}
use Rattle.serde_json.specs.Events.{items_len}
use Rattle.serde_json.specs.Find.{get}
use Rattle.serde_json.specs.View.{items_of}
use Rattle.tree_writer.proofs.JsonBack.{AllAbove, members_of, KeysRise, puts-rising}
use Rattle.provides_map.specs.Pairs.{Pairs, put, IsPair, IsMap}
use Rattle.provides_map.specs.After.{artifact_name, artifact_group, device_type}
use Rattle.provides_map.specs.declared.change.Clears.{Clears}
use Rattle.provides_map.specs.declared.change.Clears.TheVariants.{All as AllCleared, Listed}
use Rattle.provides_map.specs.declared.change.Want.{Want}
use Rattle.artifact_meta.specs.declared.fault.Field.{Field}
use Rattle.artifact_meta.specs.declared.fault.Field.TheVariants.{PayloadType, InfoType, InfoProvides, InfoDepends, InfoClears, DeviceType, DependsName, DependsGroup}
use Rattle.artifact_meta.specs.declared.fault.MetaFault.{MetaFault}
use Rattle.artifact_meta.specs.declared.fault.MetaFault.TheVariants.{BadText}
use Rattle.artifact_meta.specs.Meta.{present, good, text, texts, texts_after, plain, kind_of, provides_after, provides_of, with_want, wants_after, clears_of, info_of}
use Rattle.artifact_meta.specs.Meta.{wants_of as info_wants}
use Rattle.artifact_meta.specs.Header.{kinds_after, payload_kinds, is_payload_count, group_of, texts_or_none, header_wants, header_of}
use Rattle.tree_writer.specs.declared.spec.PayloadSpec.{PayloadSpec}
use Rattle.tree_writer.specs.declared.spec.TreeSpec.{TreeSpec}
use Rattle.tree_writer.specs.Texts.{Member, dictionary, strings, unless_none, unless_no_texts, unless_no_members, unless_all, header_depends, payload_type, header_data, want_member, pair_member, info_data}
use Rattle.tree_writer.specs.Faults.{patterns_of}
use Rattle.tree_writer.specs.Plan as plan

-- ---- lists of texts

pub texts_after-strings : (reads : List ℕ → Result (List ℕ) NameFault) (f : Field) (found ts : List (List ℕ)) → AllByRecursion (λ t. reads t ≡ Ok t) ts
    → texts_after found reads f (items_of (map string ts)) ≡ Ok (found ++ ts)
texts_after-strings reads f found [] h = ap Ok (sym (append-nil found))
texts_after-strings reads f found (t ∷ ts) h =
    ap (λ (r : Result (List ℕ) NameFault). good f r >>= λ s. texts_after (found ++ s ∷ []) reads f (items_of (map string ts))) h.0
    ∙ texts_after-strings reads f (found ++ t ∷ []) ts h.1
    ∙ ap Ok (append_assoc found (t ∷ []) ts)

pub texts-strings : (reads : List ℕ → Result (List ℕ) NameFault) (f : Field) (ts : List (List ℕ)) → AllByRecursion (λ t. reads t ≡ Ok t) ts → texts reads f (strings ts) ≡ Ok ts
texts-strings reads f ts h = texts_after-strings reads f [] ts h

-- ---- payload types

kind_read : (f : Field) (kind : List ℕ) → IsName kind → is_plain kind ≡ true → kind_of f (Some (string kind)) ≡ Ok kind
kind_read f kind name good-kind =
    ap (λ (r : Result (List ℕ) NameFault). good f r >>= λ n. plain f n) name
    ∙ ap (λ b. cond b (Ok kind) (Err (BadText f))) good-kind

pub record IsKind (payload : PayloadSpec) : Type 0 where
  pub name : IsName payload.kind
  pub plain : is_plain payload.kind ≡ true

kinds_read : (found : List (List ℕ)) (ps : List PayloadSpec) → AllByRecursion IsKind ps → kinds_after found (items_of (map payload_type ps)) ≡ Ok (found ++ map (λ p. p.kind) ps)
kinds_read found [] h = ap Ok (sym (append-nil found))
kinds_read found (p ∷ ps) h =
    ap (λ (r : Result (List ℕ) MetaFault). r >>= λ kind. kinds_after (found ++ kind ∷ []) (items_of (map payload_type ps))) (kind_read PayloadType p.kind h.0.name h.0.plain)
    ∙ kinds_read (found ++ p.kind ∷ []) ps h.1
    ∙ ap Ok (append_assoc found (p.kind ∷ []) (map (λ (q : PayloadSpec). q.kind) ps))

len-items : (ds : List Data) → items_len (items_of ds) ≡ length ds
len-items [] = refl
len-items (d ∷ ds) = ap suc (len-items ds)

payload_kinds-read : (spec : TreeSpec) → is_payload_count (length spec.payloads) ≡ true → AllByRecursion IsKind spec.payloads → payload_kinds (header_data spec) ≡ Ok (map (λ p. p.kind) spec.payloads)
unfolding payload_kinds
payload_kinds-read spec count kinds =
    let many : items_len (items_of (map payload_type spec.payloads)) ≡ length spec.payloads = len-items (map payload_type spec.payloads) ∙ length-map spec.payloads payload_type in
    rw (many, count) (kinds_read [] spec.payloads kinds)

-- ---- what header-info provides and wants

provides_there : (group : Option (List ℕ)) (name : List ℕ) → let d = dictionary (unless_none artifact_group group ++ (artifact_name, string name) ∷ []) in (present artifact_name d ≡ Some (string name)) × (present artifact_group d ≡ option_map string group)
provides_there None name = (refl, refl)
provides_there (Some g) name = (refl, refl)

abbrev texts_there : List (List ℕ) → Option Data
texts_there [] = None
texts_there (t ∷ ts) = Some (strings (t ∷ ts))

abbrev depends : List (List ℕ) → List (List ℕ) → List (List ℕ) → Data
depends types groups names = dictionary (unless_no_texts artifact_group groups ++ (unless_no_texts artifact_name names ++ (device_type, strings types) ∷ []))

depends_there : (types groups names : List (List ℕ)) → (present device_type (depends types groups names) ≡ Some (strings types)) × (present artifact_name (depends types groups names) ≡ texts_there names) × (present artifact_group (depends types groups names) ≡ texts_there groups)
depends_there types [] [] = (refl, refl, refl)
depends_there types [] (n ∷ ns) = (refl, refl, refl)
depends_there types (g ∷ gs) [] = (refl, refl, refl)
depends_there types (g ∷ gs) (n ∷ ns) = (refl, refl, refl)

there_read : (f : Field) (ts : List (List ℕ)) → AllByRecursion IsValue ts → texts_or_none f (texts_there ts) ≡ Ok ts
there_read f [] h = refl
there_read f (t ∷ ts) h = texts-strings value_of f (t ∷ ts) h

header_wants-read : (spec : TreeSpec) → plan.IsSpec spec → header_wants (dictionary (header_depends spec)) ≡ Ok (plan.header_wants spec)
unfolding header_wants
header_wants-read spec s =
    let values = λ (ts : List (List ℕ)) (h : All IsValue ts). recursion_from_All IsValue ts h in
    let there = depends_there spec.device_types spec.needs_groups spec.needs_names in
    rw (
      there.0,
      there.1,
      there.2,
      texts-strings value_of DeviceType spec.device_types (values spec.device_types s.device_types),
      there_read DependsName spec.needs_names (values spec.needs_names s.needs_names),
      there_read DependsGroup spec.needs_groups (values spec.needs_groups s.needs_groups),
    ) refl

some_length : (bytes : List ℕ) → IsName bytes → length bytes == 0 ≡ false
some_length bytes h = let some : 0 < length bytes = (name_parts bytes h).some in grind (arith, nat_tests)

group_read : (group : Option (List ℕ)) → plan.IsNameIfSome group → group_of (option_map string group) ≡ Ok group
group_read None h = refl
group_read (Some g) h = rw (some_length g h, h) refl

pub header-read : (spec : TreeSpec) → plan.IsSpec spec → is_payload_count (length spec.payloads) ≡ true → AllByRecursion IsKind spec.payloads → header_of (header_data spec) ≡ Ok (plan.header_of spec)
unfolding header_of
header-read spec s count kinds =
    let there = provides_there spec.group spec.name in
    rw (
      payload_kinds-read spec count kinds,
      there.0,
      s.name,
      there.1,
      group_read spec.group s.group,
      header_wants-read spec s,
    ) refl

-- ---- type-info

abbrev members_there : List Member → Option Data
members_there [] = None
members_there (m ∷ ms) = Some (dictionary (m ∷ ms))

abbrev clears_there : Clears → Option Data
clears_there AllCleared = None
clears_there (Listed patterns) = Some (strings patterns)

abbrev info : List ℕ → List Member → List Member → Clears → Data
info kind wants pairs clears = dictionary (unless_no_members (codes "artifact_depends") wants ++ (unless_no_members (codes "artifact_provides") pairs ++ (unless_all clears ++ (codes "type", string kind) ∷ [])))

-- what stands at each key
abbrev AreThere : List ℕ → List Member → List Member → Clears → Type 0
AreThere kind wants pairs clears =
    let d = info kind wants pairs clears in
    (get (codes "type") d ≡ Some (string kind)) × (present (codes "artifact_provides") d ≡ members_there pairs) × (present (codes "artifact_depends") d ≡ members_there wants) × (present (codes "clears_artifact_provides") d ≡ clears_there clears)

are_there : (kind : List ℕ) (wants pairs : List Member) (clears : Clears) → AreThere kind wants pairs clears
are_there kind [] [] AllCleared = (refl, refl, refl, refl)
are_there kind [] [] (Listed ps) = (refl, refl, refl, refl)
are_there kind [] (q ∷ qs) AllCleared = (refl, refl, refl, refl)
are_there kind [] (q ∷ qs) (Listed ps) = (refl, refl, refl, refl)
are_there kind (w ∷ ws) [] AllCleared = (refl, refl, refl, refl)
are_there kind (w ∷ ws) [] (Listed ps) = (refl, refl, refl, refl)
are_there kind (w ∷ ws) (q ∷ qs) AllCleared = (refl, refl, refl, refl)
are_there kind (w ∷ ws) (q ∷ qs) (Listed ps) = (refl, refl, refl, refl)

-- pairs in order go in one behind the other

abbrev Precede : Pairs → Pairs → Type 0
Precede [] qs = ⊤
Precede (p ∷ ps) qs = AllAbove p.0 (members_of (map pair_member qs)) × Precede ps qs

all_above : (k : List ℕ) (qs : Pairs) → AllByRecursion (λ y. byte_cmp k y ≡ Less) (keys_of qs) → AllAbove k (members_of (map pair_member qs))
all_above k [] h = tt
all_above k (q ∷ qs) h = (h.0, all_above k qs h.1)

pairs_rise : (qs : Pairs) → IsStrictlySortedBy byte_cmp (keys_of qs) → KeysRise (map pair_member qs)
unfolding IsStrictlySortedBy
pairs_rise [] h = tt
pairs_rise (q ∷ qs) h = (all_above q.0 qs h.0, pairs_rise qs h.1)

put-behind : (found : Pairs) (key value : List ℕ) (qs : Pairs) → Precede found ((key, value) ∷ qs) → put found key value ≡ found ++ (key, value) ∷ []
put-behind [] key value qs h = refl
put-behind (p ∷ found) key value qs h =
    let over : byte_cmp key p.0 ≡ Greater = nat_list_cmp_total.antisymm key p.0 ∙ ap ordering_reverse h.0.0 in
    rw over (ap (λ (ps : Pairs). p ∷ ps) (put-behind found key value qs h.1))

precede-next : (found : Pairs) (q : List ℕ × List ℕ) (qs : Pairs) → Precede found (q ∷ qs) → AllAbove q.0 (members_of (map pair_member qs)) → Precede (found ++ q ∷ []) qs
precede-next [] q qs h over = (over, tt)
precede-next (p ∷ found) q qs h over = (h.0.1, precede-next found q qs h.1 over)

provides_after-pairs : (found qs : Pairs) → AllByRecursion IsPair qs → KeysRise (map pair_member qs) → Precede found qs → provides_after found (members_of (map pair_member qs)) ≡ Ok (found ++ qs)
provides_after-pairs found [] pairs up before = ap Ok (sym (append-nil found))
provides_after-pairs found (q ∷ qs) pairs up before =
    ap (λ (r : Result (List ℕ) NameFault). good InfoProvides r >>= λ key. text value_of InfoProvides (string q.1) >>= λ value. provides_after (put found key value) (members_of (map pair_member qs))) pairs.0.0
    ∙ ap (λ (r : Result (List ℕ) NameFault). good InfoProvides r >>= λ value. provides_after (put found q.0 value) (members_of (map pair_member qs))) pairs.0.1
    ∙ ap (λ (ps : Pairs). provides_after ps (members_of (map pair_member qs))) (put-behind found q.0 q.1 qs before)
    ∙ provides_after-pairs (found ++ q ∷ []) qs pairs.1 up.1 (precede-next found q qs before up.0)
    ∙ ap Ok (append_assoc found (q ∷ []) qs)

provides-read : (qs : Pairs) → IsMap qs → provides_of (members_there (map pair_member qs)) ≡ Ok qs
provides-read [] m = refl
provides-read (q ∷ qs) m =
    let up = pairs_rise (q ∷ qs) m.sorted in
    ap (provides_after []) (puts-rising (map pair_member (q ∷ qs)) up)
    ∙ provides_after-pairs [] (q ∷ qs) m.pairs up tt

-- wants with something allowed

pub record IsFullWant (want : Want) : Type 0 where
  pub key : IsName want.key
  pub some : 0 < length want.allowed
  pub allowed : AllByRecursion IsValue want.allowed

with-full : (found : List Want) (key : List ℕ) (allowed : List (List ℕ)) → 0 < length allowed → with_want found key allowed ≡ found ++ record { key = key; allowed = allowed } ∷ []
with-full found key [] h = absurd (omega arith)
with-full found key (v ∷ vs) h = refl

wants_after-wants : (found ws : List Want) → AllByRecursion IsFullWant ws → wants_after found (members_of (map want_member ws)) ≡ Ok (found ++ ws)
wants_after-wants found [] h = ap Ok (sym (append-nil found))
wants_after-wants found (w ∷ ws) h =
    ap (λ (r : Result (List ℕ) NameFault). good InfoDepends r >>= λ key. texts value_of InfoDepends (strings w.allowed) >>= λ allowed. wants_after (with_want found key allowed) (members_of (map want_member ws))) h.0.key
    ∙ ap (λ (r : Result (List (List ℕ)) MetaFault). r >>= λ allowed. wants_after (with_want found w.key allowed) (members_of (map want_member ws))) (texts-strings value_of InfoDepends w.allowed h.0.allowed)
    ∙ ap (λ (vs : List Want). wants_after vs (members_of (map want_member ws))) (with-full found w.key w.allowed h.0.some)
    ∙ wants_after-wants (found ++ w ∷ []) ws h.1
    ∙ ap Ok (append_assoc found (w ∷ []) ws)

wants-read : (ws : List Want) → AllByRecursion IsFullWant ws → KeysRise (map want_member ws) → info_wants (members_there (map want_member ws)) ≡ Ok ws
wants-read [] h up = refl
wants-read (w ∷ ws) h up = ap (wants_after []) (puts-rising (map want_member (w ∷ ws)) up) ∙ wants_after-wants [] (w ∷ ws) h

clears-read : (clears : Clears) → AllByRecursion IsName (patterns_of clears) → clears_of (clears_there clears) ≡ Ok clears
clears-read AllCleared h = refl
clears-read (Listed patterns) h = ap (λ (r : Result (List (List ℕ)) MetaFault). r >>= λ ps. Ok (Listed ps)) (texts-strings name_of InfoClears patterns h)

pub info-read : (payload : PayloadSpec) → plan.IsPayload payload → is_plain payload.kind ≡ true → AllByRecursion IsFullWant payload.wants → KeysRise (map want_member payload.wants) → info_of (info_data payload) ≡ Ok (plan.info_of payload)
unfolding info_of
info-read payload p good-kind full up =
    let there = are_there payload.kind (map want_member payload.wants) (map pair_member payload.provides) payload.clears in
    rw (
      there.0,
      kind_read InfoType payload.kind p.kind good-kind,
      there.1,
      provides-read payload.provides p.provides,
      there.2,
      wants-read payload.wants full up,
      there.3,
      clears-read payload.clears (recursion_from_All IsName (patterns_of payload.clears) p.patterns),
    ) refl

-- The texts of header-info and type-info say what they were written for.
use Rattle.std.proofs.Common.{◌≡◌, ℕ, ◌-◌, ◌≤◌, true, false, List, [], ◌∷◌, ◌++◌, length, map, Option, Some, None, Ok, codes, refl, ap, ◌∙◌, arith}
use Rattle.std.specs.Prelude.{⊤}
use Rattle.std.specs.List.{AllByRecursion}
use Rattle.std.specs.Option.{ok_or}
use Rattle.std.specs.Str.{IsUtf8}
use Rattle.json.proofs.Printed.Utf8.{are_ascii, IsUtf8-are_ascii}
use Rattle.upd_text.specs.Results.{◌>>=◌}
use Rattle.upd_text.specs.Parts.{is_plain}
use Rattle.serde_json.specs.Data.{Data, string}
use Rattle.serde_json.specs.View.{items_of}
use Rattle.serde_json.specs.Written.{has_float}
use Rattle.provides_map.specs.Pairs.{Pairs}
use Rattle.provides_map.specs.After.{artifact_name, artifact_group, device_type}
use Rattle.provides_map.specs.declared.change.Clears.{Clears}
use Rattle.provides_map.specs.declared.change.Clears.TheVariants.{All as AllCleared, Listed}
use Rattle.provides_map.specs.declared.change.Want.{Want}
use Rattle.artifact_meta.specs.declared.fault.MetaFault.TheVariants.{NotJson}
use Rattle.artifact_meta.specs.declared.fault.MetaFile.TheVariants as file
use Rattle.artifact_meta.specs.Meta.{info_of, type_info_of}
use Rattle.artifact_meta.specs.Header.{is_payload_count, header_of, header_info_of}
use Rattle.tree_writer.specs.declared.spec.PayloadSpec.{PayloadSpec}
use Rattle.tree_writer.specs.declared.spec.TreeSpec.{TreeSpec}
use Rattle.tree_writer.specs.Texts.{Member, strings, unless_none, unless_no_texts, unless_no_members, unless_all, header_depends, header_provides, payload_type, header_members, header_data, header_text, want_member, pair_member, info_members, info_data, info_text}
use Rattle.tree_writer.specs.Faults.{patterns_of}
use Rattle.tree_writer.specs.Plan as plan
use Rattle.tree_writer.proofs.ManifestBack.{all_append}
use Rattle.tree_writer.proofs.JsonBack.{Fits, ItemsFit, MemberFits, KeysRise, dictionary-fits, no_float, json_of-compact_text}
use Rattle.tree_writer.proofs.FieldsBack.{IsKind, IsFullWant, header-read, info-read}

-- ---- what is true of each text of a spec

abbrev pub OfGroup : (List ℕ → Type 0) → Option (List ℕ) → Type 0
OfGroup T None = ⊤
OfGroup T (Some group) = T group

pub record HeaderTexts (T : List ℕ → Type 0) (spec : TreeSpec) : Type 0 where
  pub kinds : AllByRecursion (λ payload. T payload.kind) spec.payloads
  pub name : T spec.name
  pub group : OfGroup T spec.group
  pub types : AllByRecursion T spec.device_types
  pub names : AllByRecursion T spec.needs_names
  pub groups : AllByRecursion T spec.needs_groups

pub record InfoTexts (T : List ℕ → Type 0) (payload : PayloadSpec) : Type 0 where
  pub kind : T payload.kind
  pub pairs : AllByRecursion (λ pair. T pair.0 × T pair.1) payload.provides
  pub wants : AllByRecursion (λ want. T want.key × AllByRecursion T want.allowed) payload.wants
  pub patterns : AllByRecursion T (patterns_of payload.clears)

-- ---- is true of all that is written, and nothing is nested more than three deep

module _ (T : List ℕ → Type 0) (ascii : (bytes : List ℕ) → are_ascii bytes ≡ true → T bytes) where
  texts_fit : (n : ℕ) (ts : List (List ℕ)) → AllByRecursion T ts → ItemsFit T n (items_of (map string ts))
  texts_fit n [] h = tt
  texts_fit n (t ∷ ts) h = (h.0, texts_fit n ts h.1)

  strings_fit : (n : ℕ) (ts : List (List ℕ)) → 1 ≤ n → AllByRecursion T ts → Fits T n (strings ts)
  strings_fit n ts some h = (some, texts_fit (n - 1) ts h)

  unless_no_texts_fit : (key : List ℕ) (ts : List (List ℕ)) → are_ascii key ≡ true → AllByRecursion T ts → AllByRecursion (MemberFits T 1) (unless_no_texts key ts)
  unless_no_texts_fit key [] k h = tt
  unless_no_texts_fit key (t ∷ ts) k h = ((ascii key k, strings_fit 1 (t ∷ ts) (omega arith) h), tt)

  group_fits : (group : Option (List ℕ)) → OfGroup T group → AllByRecursion (MemberFits T 1) (unless_none artifact_group group)
  group_fits None h = tt
  group_fits (Some group) h = ((ascii artifact_group refl, h), tt)

  kinds_fit : (ps : List PayloadSpec) → AllByRecursion (λ (p : PayloadSpec). T p.kind) ps → ItemsFit T 1 (items_of (map payload_type ps))
  kinds_fit [] h = tt
  kinds_fit (p ∷ ps) h = (dictionary-fits T 1 ((codes "type", string p.kind) ∷ []) (omega arith) ((ascii (codes "type") refl, h.0), tt), kinds_fit ps h.1)

  header_fits : (spec : TreeSpec) → HeaderTexts T spec → Fits T 3 (header_data spec)
  header_fits spec t =
      let names : AllByRecursion (MemberFits T 1) (unless_no_texts artifact_name spec.needs_names ++ (device_type, strings spec.device_types) ∷ []) =
      all_append (MemberFits T 1) (unless_no_texts artifact_name spec.needs_names) _ (unless_no_texts_fit artifact_name spec.needs_names refl t.names) ((ascii device_type refl, strings_fit 1 spec.device_types (omega arith) t.types), tt) in
      let depends = all_append (MemberFits T 1) (unless_no_texts artifact_group spec.needs_groups) _ (unless_no_texts_fit artifact_group spec.needs_groups refl t.groups) names in
      let provides = all_append (MemberFits T 1) (unless_none artifact_group spec.group) ((artifact_name, string spec.name) ∷ []) (group_fits spec.group t.group) ((ascii artifact_name refl, t.name), tt) in
      dictionary-fits T 3 (header_members spec) (omega arith) (
        (ascii _ refl, dictionary-fits T 2 (header_depends spec) (omega arith) depends),
        ((ascii _ refl, dictionary-fits T 2 (header_provides spec) (omega arith) provides), ((ascii _ refl, (omega arith, kinds_fit spec.payloads t.kinds)), tt)),
      )

  wants_fit : (ws : List Want) → AllByRecursion (λ (w : Want). T w.key × AllByRecursion T w.allowed) ws → AllByRecursion (MemberFits T 1) (map want_member ws)
  wants_fit [] h = tt
  wants_fit (w ∷ ws) h = ((h.0.0, strings_fit 1 w.allowed (omega arith) h.0.1), wants_fit ws h.1)

  pairs_fit : (qs : Pairs) → AllByRecursion (λ (q : List ℕ × List ℕ). T q.0 × T q.1) qs → AllByRecursion (MemberFits T 1) (map pair_member qs)
  pairs_fit [] h = tt
  pairs_fit (q ∷ qs) h = (h.0, pairs_fit qs h.1)

  unless_no_members_fit : (key : List ℕ) (ms : List Member) → are_ascii key ≡ true → AllByRecursion (MemberFits T 1) ms → AllByRecursion (MemberFits T 2) (unless_no_members key ms)
  unless_no_members_fit key [] k h = tt
  unless_no_members_fit key (m ∷ ms) k h = ((ascii key k, dictionary-fits T 2 (m ∷ ms) (omega arith) h), tt)

  clears_fit : (clears : Clears) → AllByRecursion T (patterns_of clears) → AllByRecursion (MemberFits T 2) (unless_all clears)
  clears_fit AllCleared h = tt
  clears_fit (Listed ps) h = ((ascii _ refl, strings_fit 2 ps (omega arith) h), tt)

  info_fits : (payload : PayloadSpec) → InfoTexts T payload → Fits T 3 (info_data payload)
  info_fits payload t =
      let wants = map want_member payload.wants in
      let pairs = map pair_member payload.provides in
      dictionary-fits T 3 (info_members payload) (omega arith)
      (all_append (MemberFits T 2) (unless_no_members (codes "artifact_depends") wants) _ (unless_no_members_fit (codes "artifact_depends") wants refl (wants_fit payload.wants t.wants))
      (all_append (MemberFits T 2) (unless_no_members (codes "artifact_provides") pairs) _ (unless_no_members_fit (codes "artifact_provides") pairs refl (pairs_fit payload.provides t.pairs))
      (all_append (MemberFits T 2) (unless_all payload.clears) _ (clears_fit payload.clears t.patterns) ((ascii (codes "type") refl, t.kind), tt))))

-- ---- whatever the texts are, no float is written

abbrev Any : List ℕ → Type 0
Any text = ⊤

pub everywhere : {A : Type 0} (P : A → Type 0) → ((x : A) → P x) → (xs : List A) → AllByRecursion P xs
everywhere P f [] = tt
everywhere P f (x ∷ xs) = (f x, everywhere P f xs)

any_group : (group : Option (List ℕ)) → OfGroup Any group
any_group None = tt
any_group (Some group) = tt

any : (ts : List (List ℕ)) → AllByRecursion Any ts
any ts = everywhere Any (λ t. tt) ts

pub header-none : (spec : TreeSpec) → has_float (header_data spec) ≡ false
header-none spec =
    no_float Any 3 (header_data spec) (header_fits Any (λ bytes h. tt) spec (record {
      kinds = everywhere (λ (p : PayloadSpec). Any p.kind) (λ p. tt) spec.payloads;
      name = tt;
      group = any_group spec.group;
      types = any spec.device_types;
      names = any spec.needs_names;
      groups = any spec.needs_groups;
    }))

pub info-none : (payload : PayloadSpec) → has_float (info_data payload) ≡ false
info-none payload =
    no_float Any 3 (info_data payload) (info_fits Any (λ bytes h. tt) payload (record {
      kind = tt;
      pairs = everywhere (λ (q : List ℕ × List ℕ). Any q.0 × Any q.1) (λ q. (tt, tt)) payload.provides;
      wants = everywhere (λ (w : Want). Any w.key × AllByRecursion Any w.allowed) (λ w. (tt, any w.allowed)) payload.wants;
      patterns = any (patterns_of payload.clears);
    }))

pub ruleset no_floats = (header-none, info-none)

-- ---- texts that are UTF-8 are read again

pub header-back : (spec : TreeSpec) → plan.IsSpec spec → HeaderTexts IsUtf8 spec → is_payload_count (length spec.payloads) ≡ true → AllByRecursion IsKind spec.payloads → header_info_of (header_text spec) ≡ Ok (plan.header_of spec)
unfolding header_info_of header_text
header-back spec s t count kinds =
    ap (λ (o : Option Data). ok_or o (NotJson file.HeaderInfo) >>= λ d. header_of d) (json_of-compact_text 3 (header_data spec) (omega arith) (header_fits IsUtf8 IsUtf8-are_ascii spec t))
    ∙ header-read spec s count kinds

-- a payload whose parts are as they are to be
pub record IsGood (payload : PayloadSpec) : Type 0 where
  pub is : plan.IsPayload payload
  pub plain : is_plain payload.kind ≡ true
  pub full : AllByRecursion IsFullWant payload.wants
  pub up : KeysRise (map want_member payload.wants)
  pub texts : InfoTexts IsUtf8 payload

pub info-back : (payload : PayloadSpec) → IsGood payload → type_info_of (info_text payload) ≡ Ok (plan.info_of payload)
unfolding type_info_of info_text
info-back payload g =
    ap (λ (o : Option Data). ok_or o (NotJson file.TypeInfo) >>= λ d. info_of d) (json_of-compact_text 3 (info_data payload) (omega arith) (info_fits IsUtf8 IsUtf8-are_ascii payload g.texts))
    ∙ info-read payload g.is g.plain g.full g.up

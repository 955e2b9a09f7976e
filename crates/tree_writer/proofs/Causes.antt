-- What a spec without a cause is like.
use Rattle.std.proofs.Common.{◌≡◌, ℕ, suc, ◌<◌, ◌≤◌, Bool, true, false, cond, not, ◌&&◌, ltb, nat_le, nat_lt, List, [], ◌∷◌, ◌++◌, length, map, Option, Some, None, Result, Ok, Err, get_or, Less, refl, sym, ap, ◌∙◌, arith}
use Rattle.std.specs.Prelude.{⊤, position}
use Rattle.std.specs.Option.{option_map, option_or}
use Rattle.std.specs.List.{All, AllByRecursion, list_all, filter_map, position_or_len}
use Rattle.std.specs.Str.{IsUtf8, is_utf8}
use Rattle.std.proofs.lemmas.Str.{IsUtf8-from_is_utf8}
use Rattle.std.proofs.lemmas.Bool.{and_parts}
use Rattle.std.proofs.lemmas.Bool.Decides.{nat_tests}
use Rattle.std.proofs.lemmas.Cmp.{nat_list_cmp_total}
use Rattle.std.proofs.lemmas.List.Elements.{recursion_from_All}
use Rattle.std.proofs.lemmas.List.Sums.{fails_before_first}
use Rattle.upd_text.specs.Text.{IsName, IsValue}
use Rattle.upd_text.specs.Order.{byte_cmp, is_below}
use Rattle.upd_text.specs.Parts.{is_plain}
use Rattle.upd_text.specs.Results.{◌>>=◌}
use Rattle.upd_text.proofs.TextLemmas.{not_below}
use Rattle.upd_text.proofs.OrderLemmas.{less}
use Rattle.io_model.specs.Source.{Tree}
use Rattle.provides_map.specs.declared.change.Want.{Want}
use Rattle.artifact_meta.specs.Header.{is_payload_count}
use Rattle.artifact_meta.specs.declared.fault.Field.{Field}
use Rattle.artifact_meta.specs.declared.kinds.TheConstants.{MOST_PAYLOADS}
use Rattle.admit.specs.Table.{heads_of, least, long_path, too_long as head_too_long}
use Rattle.admit.specs.declared.refusal.Refusal.TheVariants.{HeaderTooLong as Refused}
use Rattle.tree_writer.specs.declared.fault.WriteFault.{WriteFault}
use Rattle.tree_writer.specs.declared.fault.WriteFault.TheVariants.{PayloadCount, BadKind, BadFile, BadWant, NotText, BadScript, HeaderTooLong}
use Rattle.tree_writer.specs.declared.spec.PayloadSpec.{PayloadSpec}
use Rattle.tree_writer.specs.declared.spec.TreeSpec.{TreeSpec}
use Rattle.tree_writer.specs.declared.checks.Names.TheVariants.{Files, Scripts}
use Rattle.tree_writer.specs.Texts.{want_member}
use Rattle.tree_writer.specs.Files.{tree_of}
use Rattle.tree_writer.specs.Faults.{bad_kind, first_stale, test_of, bad_file, bad_script, too_many_scripts, is_next_want, first_bad_want, bad_want, are_text, group_is_text, pairs_are_text, wants_are_text, patterns_of, info_tests, field_tests, first_failed, too_long, name_causes, field_causes, spec_causes, causes, first_of, unless, written_tree}
use Rattle.tree_writer.specs.Plan as plan
use Rattle.tree_writer.proofs.JsonBack.{AllAbove, members_of, KeysRise}
use Rattle.tree_writer.proofs.FieldsBack.{IsKind, IsFullWant}
use Rattle.tree_writer.proofs.TextsBack.{OfGroup, HeaderTexts, InfoTexts, IsGood}
use Rattle.tree_writer.proofs.Shape.{AreRight, IsShaped}

or_none : {A : Type 0} (a b : Option A) → option_or a b ≡ None → (a ≡ None) × (b ≡ None)
or_none None b h = (refl, h)
or_none (Some x) b h = absurd cc

map_none : {A B : Type 0} (f : A → B) (o : Option A) → option_map f o ≡ None → o ≡ None
map_none f None h = refl
map_none f (Some x) h = absurd cc

if_none : {A : Type 0} (b : Bool) (x : A) → cond b None (Some x) ≡ None → b ≡ true
if_none true x h = refl
if_none false x h = absurd cc

unless_none : {A : Type 0} (b : Bool) (x : A) → cond b (Some x) None ≡ None → b ≡ false
unless_none true x h = absurd cc
unless_none false x h = refl

not_false : (b : Bool) → not b ≡ false → b ≡ true
not_false true h = refl
not_false false h = absurd cc

-- ---- the rows one by one

all_plain : (ps : List PayloadSpec) → bad_kind ps ≡ None → AllByRecursion (λ p. is_plain p.kind ≡ true) ps
all_plain ps h =
    let test = λ (p : PayloadSpec). not (is_plain p.kind) in
    let none : position test ps ≡ None = map_none BadKind (position test ps) h in
    let all : length ps ≤ position_or_len test ps = not_below _ _ _ none in
    recursion_from_All (λ (p : PayloadSpec). is_plain p.kind ≡ true) ps (λ k d lt. not_false (is_plain (get_or ps k d).kind) (fails_before_first test ps k d (omega (arith, all))))

pub all_fresh : (k : ℕ) (ps : List PayloadSpec) → bad_file k ps ≡ None → AllByRecursion (λ p. first_stale (test_of Files) [] p.files ≡ None) ps
all_fresh k [] h = tt
all_fresh k (p ∷ ps) h =
    let t = or_none (option_map (BadFile k) (first_stale (test_of Files) [] p.files)) (bad_file (suc k) ps) h in
    (map_none (BadFile k) (first_stale (test_of Files) [] p.files) t.0, all_fresh (suc k) ps t.1)

all_wants : (k : ℕ) (ps : List PayloadSpec) → bad_want k ps ≡ None → AllByRecursion (λ p. first_bad_want 0 [] p.wants ≡ None) ps
all_wants k [] h = tt
all_wants k (p ∷ ps) h =
    let t = or_none (option_map (BadWant k) (first_bad_want 0 [] p.wants)) (bad_want (suc k) ps) h in
    (map_none (BadWant k) (first_bad_want 0 [] p.wants) t.0, all_wants (suc k) ps t.1)

-- wants of which each key is above the one before
abbrev Climb : List ℕ → List Want → Type 0
Climb last [] = ⊤
Climb last (w ∷ ws) = (0 < length w.allowed) × (byte_cmp last w.key ≡ Less) × Climb w.key ws

some_left : {A : Type 0} (b : Bool) (o : Option A) (x : A) → cond b o (Some x) ≡ None → (b ≡ true) × (o ≡ None)
some_left true o x h = (refl, h)
some_left false o x h = absurd cc

climb : (i : ℕ) (last : List ℕ) (ws : List Want) → first_bad_want i last ws ≡ None → Climb last ws
climb i last [] h = tt
climb i last (w ∷ ws) h =
    let t = some_left (is_next_want last w) (first_bad_want (suc i) w.key ws) i h in
    let u = and_parts (nat_lt 0 (length w.allowed)) (is_below last w.key) t.0 in
    let some : 0 < length w.allowed = grind (arith, nat_tests, u.0) in
    (some, less (byte_cmp last w.key) u.1, climb (suc i) w.key ws t.1)

over : (k last : List ℕ) (ws : List Want) → byte_cmp k last ≡ Less → Climb last ws → AllAbove k (members_of (map want_member ws))
over k last [] lt h = tt
over k last (w ∷ ws) lt h = let next : byte_cmp k w.key ≡ Less = nat_list_cmp_total.trans k last w.key lt h.1 in (next, over k w.key ws next h.2)

over_itself : (k : List ℕ) (ws : List Want) → Climb k ws → AllAbove k (members_of (map want_member ws))
over_itself k [] h = tt
over_itself k (w ∷ ws) h = (h.1, over k w.key ws h.1 h.2)

rise : (last : List ℕ) (ws : List Want) → Climb last ws → KeysRise (map want_member ws)
rise last [] h = tt
rise last (w ∷ ws) h = (over_itself w.key ws h.2, rise w.key ws h.2)

full : (last : List ℕ) (ws : List Want) → Climb last ws → AllByRecursion (λ (w : Want). IsName w.key) ws → AllByRecursion (λ (w : Want). All IsValue w.allowed) ws → AllByRecursion IsFullWant ws
full last [] h n v = tt
full last (w ∷ ws) h n v = (record { key = n.0; some = h.0; allowed = recursion_from_All IsValue w.allowed v.0 }, full w.key ws h.2 n.1 v.1)

good_payload : (p : PayloadSpec) → plan.IsPayload p → is_plain p.kind ≡ true → first_bad_want 0 [] p.wants ≡ None → InfoTexts IsUtf8 p → IsGood p
good_payload p is plain none texts =
    let up = climb 0 [] p.wants none in
    record {
      is = is;
      plain = plain;
      full = full [] p.wants up (recursion_from_All (λ (v : Want). IsName v.key) p.wants is.keys) (recursion_from_All (λ (v : Want). All IsValue v.allowed) p.wants is.allowed);
      up = rise [] p.wants up;
      texts = texts;
    }

-- ---- the texts

rows_true : (rows : List (Field × Bool)) → first_failed rows ≡ None → AllByRecursion (λ row. row.1 ≡ true) rows
rows_true [] h = tt
rows_true (row ∷ rows) h = let t = some_left row.1 (first_failed rows) row.0 h in (t.0, rows_true rows t.1)

-- what a test that each item passes says of it
all_say : {A : Type 0} (test : A → Bool) (P : A → Type 0) → ((x : A) → test x ≡ true → P x) → (xs : List A) → list_all test xs ≡ true → AllByRecursion P xs
all_say test P says [] h = tt
all_say test P says (x ∷ xs) h = let t = and_parts (test x) (list_all test xs) h in (says x t.0, all_say test P says xs t.1)

utf8 : (ts : List (List ℕ)) → are_text ts ≡ true → AllByRecursion IsUtf8 ts
utf8 = all_say is_utf8 IsUtf8 IsUtf8-from_is_utf8

both_utf8 : (a b : List ℕ) → (is_utf8 a && is_utf8 b) ≡ true → IsUtf8 a × IsUtf8 b
both_utf8 a b h = let t = and_parts (is_utf8 a) (is_utf8 b) h in (IsUtf8-from_is_utf8 a t.0, IsUtf8-from_is_utf8 b t.1)

want_utf8 : (w : Want) → (is_utf8 w.key && are_text w.allowed) ≡ true → IsUtf8 w.key × AllByRecursion IsUtf8 w.allowed
want_utf8 w h = let t = and_parts (is_utf8 w.key) (are_text w.allowed) h in (IsUtf8-from_is_utf8 w.key t.0, utf8 w.allowed t.1)

group_utf8 : (group : Option (List ℕ)) → group_is_text group ≡ true → OfGroup IsUtf8 group
group_utf8 None h = tt
group_utf8 (Some group) h = IsUtf8-from_is_utf8 group h

header_utf8 : (spec : TreeSpec) → AllByRecursion (λ row. row.1 ≡ true) (field_tests spec) → HeaderTexts IsUtf8 spec
header_utf8 spec r = record {
  kinds = all_say (λ (p : PayloadSpec). is_utf8 p.kind) (λ (p : PayloadSpec). IsUtf8 p.kind) (λ p. IsUtf8-from_is_utf8 p.kind) spec.payloads r.0;
  name = IsUtf8-from_is_utf8 spec.name r.1.0;
  group = group_utf8 spec.group r.1.1.0;
  types = utf8 spec.device_types r.1.1.1.0;
  names = utf8 spec.needs_names r.1.1.1.1.0;
  groups = utf8 spec.needs_groups r.1.1.1.1.1.0;
}

infos_utf8 : (ps : List PayloadSpec) → list_all (λ (p : PayloadSpec). is_utf8 p.kind) ps ≡ true → AllByRecursion (λ row. row.1 ≡ true) (info_tests ps) → AllByRecursion (InfoTexts IsUtf8) ps
infos_utf8 [] k r = tt
infos_utf8 (p ∷ ps) k r =
    let kind = and_parts (is_utf8 p.kind) (list_all (λ (q : PayloadSpec). is_utf8 q.kind) ps) k in
    let pairs = and_parts (pairs_are_text p.provides) (list_all (λ (q : PayloadSpec). pairs_are_text q.provides) ps) r.0 in
    let wants = and_parts (wants_are_text p.wants) (list_all (λ (q : PayloadSpec). wants_are_text q.wants) ps) r.1.0 in
    let patterns = and_parts (are_text (patterns_of p.clears)) (list_all (λ (q : PayloadSpec). are_text (patterns_of q.clears)) ps) r.1.1.0 in (
      record {
        kind = IsUtf8-from_is_utf8 p.kind kind.0;
        pairs = all_say (λ (q : List ℕ × List ℕ). is_utf8 q.0 && is_utf8 q.1) (λ (q : List ℕ × List ℕ). IsUtf8 q.0 × IsUtf8 q.1) (λ q. both_utf8 q.0 q.1) p.provides pairs.0;
        wants = all_say (λ (w : Want). is_utf8 w.key && are_text w.allowed) (λ (w : Want). IsUtf8 w.key × AllByRecursion IsUtf8 w.allowed) want_utf8 p.wants wants.0;
        patterns = utf8 (patterns_of p.clears) patterns.0;
      },
      infos_utf8 ps kind.1 (pairs.1, (wants.1, (patterns.1, tt))),
    )

goods : (ps : List PayloadSpec) → AllByRecursion plan.IsPayload ps → AllByRecursion (λ (p : PayloadSpec). is_plain p.kind ≡ true) ps → AllByRecursion (λ (p : PayloadSpec). first_bad_want 0 [] p.wants ≡ None) ps → AllByRecursion (InfoTexts IsUtf8) ps → AllByRecursion IsGood ps
goods [] is plain none texts = tt
goods (p ∷ ps) is plain none texts = (good_payload p is.0 plain.0 none.0 texts.0, goods ps is.1 plain.1 none.1 texts.1)

kinds : (ps : List PayloadSpec) → AllByRecursion plan.IsPayload ps → AllByRecursion (λ (p : PayloadSpec). is_plain p.kind ≡ true) ps → AllByRecursion IsKind ps
kinds [] is pl = tt
kinds (p ∷ ps) is pl = (record { name = is.0.kind; plain = pl.0 }, kinds ps is.1 pl.1)

rights : (ps : List PayloadSpec) → AllByRecursion plan.IsPayload ps → AllByRecursion (λ (p : PayloadSpec). first_stale (test_of Files) [] p.files ≡ None) ps → AllByRecursion (λ (p : PayloadSpec). AreRight (test_of Files) p.files) ps
rights [] is fresh = tt
rights (p ∷ ps) is fresh = (record { fresh = fresh.0; names = is.0.files }, rights ps is.1 fresh.1)

-- ---- the whole

pub record IsSound (spec : TreeSpec) : Type 0 where
  pub count : is_payload_count (length spec.payloads) ≡ true
  pub shape : IsShaped spec
  pub kinds : AllByRecursion IsKind spec.payloads
  pub goods : AllByRecursion IsGood spec.payloads
  pub texts : HeaderTexts IsUtf8 spec
  pub few_scripts : length spec.scripts ≤ 64
  pub few_files : length (tree_of spec) ≤ 256
  pub some : 1 ≤ length spec.payloads
  pub short_heads : head_too_long (heads_of (tree_of spec)) ≡ None

rows_none : (rows : List (Option WriteFault)) → first_of rows ≡ None → AllByRecursion (λ row. row ≡ None) rows
rows_none [] h = tt
rows_none (row ∷ rows) h = let t = or_none row (first_of rows) h in (t.0, rows_none rows t.1)

no_cause : (o : Option WriteFault) (tree : Tree) → (unless o >>= λ _. Ok tree) ≡ Ok tree → o ≡ None
no_cause None tree h = refl
no_cause (Some f) tree h = absurd cc

at_most : (n most : ℕ) → ltb most n ≡ false → n ≤ most
at_most n most h = grind (arith, nat_tests)

heads_short : (t : Tree) → too_long t ≡ None → head_too_long (heads_of t) ≡ None
unfolding head_too_long
heads_short t h = ap (option_map Refused) (map_none HeaderTooLong (least (filter_map (λ head. long_path head.path head.length) (heads_of t))) h)

pub sound : (spec : TreeSpec) → plan.IsSpec spec → written_tree spec ≡ Ok (tree_of spec) → IsSound spec
unfolding written_tree
sound spec s h =
    let none = no_cause (first_of (causes spec)) (tree_of spec) h in
    let r = rows_none (causes spec) none in
    let count = if_none (is_payload_count (length spec.payloads)) _ r.0 in
    let few = and_parts (nat_le 1 (length spec.payloads)) (nat_le (length spec.payloads) MOST_PAYLOADS) count in
    let payloads = recursion_from_All plan.IsPayload spec.payloads s.payloads in
    let plains = all_plain spec.payloads r.1.0 in
    let tests = rows_true (field_tests spec) (map_none NotText (first_failed (field_tests spec)) r.1.1.1.1.1.1.0) in
    let short : length spec.payloads ≤ MOST_PAYLOADS = grind (arith, nat_tests, few.1) in
    record {
      count = count;
      shape = record { few = short; files = rights spec.payloads payloads (all_fresh 0 spec.payloads r.1.1.0); scripts = record { fresh = map_none BadScript (first_stale (test_of Scripts) [] spec.scripts) r.1.1.1.0; names = s.scripts } };
      kinds = kinds spec.payloads payloads plains;
      goods = goods spec.payloads payloads plains (all_wants 0 spec.payloads r.1.1.1.1.1.0) (infos_utf8 spec.payloads tests.0 tests.1.1.1.1.1.1);
      texts = header_utf8 spec tests;
      few_scripts = at_most (length spec.scripts) 64 (unless_none (ltb 64 (length spec.scripts)) _ r.1.1.1.1.0);
      few_files = at_most (length (tree_of spec)) 256 (unless_none (ltb 256 (length (tree_of spec))) _ r.1.1.1.1.1.1.1.0);
      some = grind (arith, nat_tests, few.0);
      short_heads = heads_short (tree_of spec) r.1.1.1.1.1.1.1.1.0;
    }

-- ---- the names come first

or_assoc : (a b c : Option WriteFault) → option_or (option_or a b) c ≡ option_or a (option_or b c)
or_assoc None b c = refl
or_assoc (Some x) b c = refl

first-append : (rows more : List (Option WriteFault)) → first_of (rows ++ more) ≡ option_or (first_of rows) (first_of more)
first-append [] more = refl
first-append (row ∷ rows) more = ap (option_or row) (first-append rows more) ∙ sym (or_assoc row (first_of rows) (first_of more))

then_rest : (a b : Option WriteFault) → unless a ≡ Ok tt → unless (option_or a b) ≡ unless b
then_rest None b h = refl
then_rest (Some x) b h = absurd cc

at_once : (a b : Option WriteFault) (f : WriteFault) → unless a ≡ Err f → unless (option_or a b) ≡ Err f
at_once None b f h = absurd cc
at_once (Some x) b f h = h

pub fields_next : (spec : TreeSpec) (u : Unit {0}) (r : Result (Unit {0}) WriteFault) → Ok u ≡ unless (first_of (name_causes spec)) → r ≡ unless (first_of (field_causes spec)) → r ≡ unless (first_of (spec_causes spec))
fields_next spec u r names fields = fields ∙ sym (ap unless (first-append (name_causes spec) (field_causes spec)) ∙ then_rest (first_of (name_causes spec)) (first_of (field_causes spec)) (sym names))

pub names_fail : (spec : TreeSpec) (f : WriteFault) → Err f ≡ unless (first_of (name_causes spec)) → Err f ≡ unless (first_of (spec_causes spec))
names_fail spec f names = sym (ap unless (first-append (name_causes spec) (field_causes spec)) ∙ at_once (first_of (name_causes spec)) (first_of (field_causes spec)) f (sym names))

pub few_payloads : (spec : TreeSpec) (u : Unit {0}) → Ok u ≡ unless (first_of (name_causes spec)) → length spec.payloads ≤ 8
few_payloads spec u h = by (is_payload_count (length spec.payloads)) refl h
  where
    by : (b : Bool) → is_payload_count (length spec.payloads) ≡ b → Ok u ≡ unless (option_or (cond b None (Some (PayloadCount (length spec.payloads)))) (first_of (bad_kind spec.payloads ∷ bad_file 0 spec.payloads ∷ bad_script spec.scripts ∷ too_many_scripts (length spec.scripts) ∷ []))) → length spec.payloads ≤ 8
    by true e k = let t = and_parts (nat_le 1 (length spec.payloads)) (nat_le (length spec.payloads) MOST_PAYLOADS) e in grind (arith, nat_tests, t.1)
    by false e k = absurd cc

pub ruleset names_first = (fields_next, names_fail, few_payloads)

-- ---- rows behind others

-- the second of three rows refuses
pub second_fails : (a b c : Option WriteFault) (u : Unit {0}) (f : WriteFault) → Ok u ≡ unless a → Err f ≡ unless b → Err f ≡ unless (option_or a (option_or b c))
second_fails None None c u f one two = absurd cc
second_fails None (Some x) c u f one two = two
second_fails (Some y) b c u f one two = absurd cc

whole : (rows : List (Option WriteFault)) (last : Option WriteFault) (u : Unit {0}) → Ok u ≡ unless (first_of rows) → first_of (rows ++ last ∷ []) ≡ last
whole rows last u h = first-append rows (last ∷ []) ∙ by (first_of rows) last h
  where
    by : (a b : Option WriteFault) → Ok u ≡ unless a → option_or a (option_or b None) ≡ b
    by None None k = refl
    by None (Some x) k = refl
    by (Some y) b k = absurd cc

-- the spec has no cause, and the tree has one
pub long_fails : (spec : TreeSpec) (u : Unit {0}) (f : WriteFault) → Ok u ≡ unless (first_of (spec_causes spec)) → Err f ≡ unless (too_long (tree_of spec)) → written_tree spec ≡ Err f
unfolding written_tree
long_fails spec u f none long =
    ap (λ (o : Option WriteFault). unless o >>= λ _. Ok (tree_of spec)) (whole (spec_causes spec) (too_long (tree_of spec)) u none)
    ∙ ap (λ (r : Result (Unit {0}) WriteFault). r >>= λ _. Ok (tree_of spec)) (sym long)

-- there is no cause
pub none_fails : (spec : TreeSpec) (u v : Unit {0}) → Ok u ≡ unless (first_of (spec_causes spec)) → Ok v ≡ unless (too_long (tree_of spec)) → written_tree spec ≡ Ok (tree_of spec)
unfolding written_tree
none_fails spec u v none short =
    ap (λ (o : Option WriteFault). unless o >>= λ _. Ok (tree_of spec)) (whole (spec_causes spec) (too_long (tree_of spec)) u none)
    ∙ ap (λ (r : Result (Unit {0}) WriteFault). r >>= λ _. Ok (tree_of spec)) (sym short)

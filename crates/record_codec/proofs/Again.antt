-- What is spelled so is read, whatever follows.
use Rattle.std.proofs.Common.{◌≡◌, ℕ, ◌+◌, ◌-◌, ◌%◌, ◌^◌, ◌<◌, ◌≤◌, Bool, true, false, ltb, leb, ◌&&◌, List, [], ◌∷◌, ◌++◌, length, get_or, take, drop, Some, Result, Ok, refl, sym, ap, subst, ◌∙◌, append_assoc, append-nil, length-append, IsTrue, arith, eq-eqb}
use Rattle.std.specs.Prelude.{slice_get, codes, nat_eq}
use Rattle.std.specs.Int.{Width, w8, w16, w32, byte_len, from_be_bytes, to_be_bytes}
use Rattle.std.specs.List.{flat_map, starts_with, AllByRecursion}
use Rattle.std.proofs.lemmas.Bool.{le-ltb, leb-true, le-leb, eqb-true, and_parts, and_from}
use Rattle.std.proofs.lemmas.List.{take_at, drop_at}
use Rattle.std.proofs.Math.Seq.{take-append-add}
use Rattle.std.proofs.lemmas.List.Concat.{flat_map-cons}
use Rattle.std.proofs.lemmas.Nat.{from_be_bytes-to_be_bytes_2, from_be_bytes-to_be_bytes_4}
use Rattle.upd_text.specs.Order.{is_below}
use Rattle.record_codec.specs.Keys.{is_name, is_value}
use Rattle.upd_text.specs.Order.{itself}
use Rattle.provides_map.specs.Pairs.{Pairs, IsMap}
use Rattle.provides_map.specs.After.{HasName}
use Rattle.provides_map.specs.Last.{key_of}
use Rattle.script_names.specs.Scripts.{AreScripts, is_artifact_script}
use Rattle.record_codec.specs.Keys.{ascend, is_pair}
use Rattle.record_codec.proofs.Texts.{name_small, value_small, is_named-true, map_ascends, scripts_ascend}
use Rattle.record_codec.specs.Spelling.{short_text, long_text, pair, pairs, scripts, position_bytes, is_kind, is_script}
use Rattle.record_codec.specs.Bytes.{states, outcomes, answers, reboots, state_byte, outcome_byte, answer_byte, reboot_byte}
use Rattle.flow_table.specs.Valid.{is_outcome, is_undoable, is_reboot, is_count, is_valid}
use Rattle.flow_table.specs.declared.position.Position.{Position}
use Rattle.flow_table.specs.declared.position.State.{State}
use Rattle.flow_table.specs.declared.position.State.TheVariants as st
use Rattle.flow_table.specs.declared.position.Outcome.{Outcome}
use Rattle.flow_table.specs.declared.position.Outcome.TheVariants.{Undecided, Kept, Committed, RolledBack, Inconsistent}
use Rattle.flow_table.specs.declared.position.Reboot.{Reboot}
use Rattle.flow_table.specs.declared.position.Reboot.TheVariants.{No, Yes, Automatic}
use Rattle.record_codec.specs.Reading.{Rest, any, bytes_at, number_at, choice_at, literal_at, text_at, position_at, pair_at, items_at, map_at, named_map_at, kinds_at, script_at, scripts_at, version_at, marks_at, is_kind_count, body_at, head_at, entry_at, database, limit, within, is_length}
use Rattle.record_codec.specs.declared.entry.Entry.{Entry}
use Rattle.record_codec.specs.declared.entry.Db.{Db}
use Rattle.record_codec.specs.declared.entry.Db.TheVariants.{Full}
use Rattle.record_codec.proofs.Record.{head_len}
use Rattle.record_codec.specs.declared.entry.Version.{Version}
use Rattle.record_codec.specs.declared.entry.Version.TheVariants.{First, Second}
use Rattle.record_codec.specs.Spelling.{HasVersion, magic, marks, kinds, IsRight, body, head, record_of, record_length}
use Rattle.record_codec.specs.declared.reader.whole.Head.{Head}

-- the text stands at r, and behind it s
pub record Spells (text : List ℕ) (r s : Rest) : Type 0 where
  pub parts : r.bytes ≡ text ++ s.bytes
  pub place : s.at ≡ r.at + length text

pub rest_is : (a : ℕ) (b : List ℕ) (s : Rest) → s.at ≡ a → s.bytes ≡ b → record { at = a; bytes = b } ≡ s
rest_is a b s p q =
    let f : ℕ → Rest = λ x. record { at = x; bytes = b } in
    let g : List ℕ → Rest = λ x. record { at = s.at; bytes = x } in
    ap f (sym p) ∙ ap g (sym q)

-- the place between two texts
abbrev pub mid : List ℕ → List ℕ → Rest → Rest → Rest
mid t u r s = record { at = r.at + length t; bytes = u ++ s.bytes }

pub first : (t u : List ℕ) (r s : Rest) → Spells (t ++ u) r s → Spells t r (mid t u r s)
first t u r s h = record { parts = h.parts ∙ append_assoc t u s.bytes; place = refl }

pub second : (t u : List ℕ) (r s : Rest) → Spells (t ++ u) r s → Spells u (mid t u r s) s
second t u r s h = record { parts = refl; place = omega (arith, h.place, length-append t u) }

pub bytes_again : (text : List ℕ) (n : ℕ) (r s : Rest) → length text ≡ n → Spells text r s → bytes_at n r ≡ Ok (text, s)
unfolding bytes_at
bytes_again text n r s l h =
    let long : ltb (length r.bytes) n ≡ false = le-ltb _ _ (omega (arith, ap length h.parts, length-append text s.bytes, l)) in
    let t : take n r.bytes ≡ text = ap (take n) h.parts ∙ take_at text s.bytes n l in
    let d : drop n r.bytes ≡ s.bytes = ap (drop n) h.parts ∙ drop_at text s.bytes n l in
    let p : s.at ≡ r.at + n = omega (arith, h.place, l) in
    rw (long, t, d) (ap (λ (x : Rest). Ok (text, x)) (rest_is (r.at + n) s.bytes s p refl))

-- ---- numbers
pub record IsWide (w : Width) (limit : ℕ) : Type 0 where
  pub len : (n : ℕ) → length (to_be_bytes w n) ≡ byte_len w
  pub again : (n : ℕ) → n < limit → from_be_bytes w (to_be_bytes w n) ≡ n

pub wide8 : IsWide w8 (2 ^ 8)
wide8 = record { len = λ n. refl; again = λ n lt. omega arith }

pub wide16 : IsWide w16 (2 ^ 16)
wide16 = record { len = λ n. refl; again = λ n lt. from_be_bytes-to_be_bytes_2 n lt }

pub wide32 : IsWide w32 (2 ^ 32)
wide32 = record { len = λ n. refl; again = λ n lt. from_be_bytes-to_be_bytes_4 n lt }

pub number_again : (w : Width) (limit : ℕ) (wide : IsWide w limit) (right : ℕ → Bool) (n : ℕ) (r s : Rest) → n < limit → right n ≡ true → Spells (to_be_bytes w n) r s → number_at w right r ≡ Ok (n, s)
unfolding number_at
number_again w limit wide right n r s lt ok h =
    rw (bytes_again (to_be_bytes w n) (byte_len w) r s (wide.len n) h, wide.again n lt, ok) refl

pub text_again : (w : Width) (limit : ℕ) (wide : IsWide w limit) (right : List ℕ → Bool) (text : List ℕ) (r s : Rest) → length text < limit → right text ≡ true → Spells (to_be_bytes w (length text) ++ text) r s → text_at w right r ≡ Ok (text, s)
unfolding text_at
text_again w limit wide right text r s lt ok h =
    let size = to_be_bytes w (length text) in
    rw (number_again w limit wide any (length text) r (mid size text r s) lt refl (first size text r s h), bytes_again text (length text) (mid size text r s) s refl (second size text r s h), ok) refl

-- ---- a byte that chooses
pub choice_again : {A : Type 0} (all : List A) (right : A → Bool) (b : ℕ) (x : A) (r s : Rest) → b < 2 ^ 8 → slice_get all b ≡ Some x → right x ≡ true → Spells (b ∷ []) r s → choice_at all right r ≡ Ok (x, s)
unfolding choice_at
choice_again all right b x r s lt is ok h =
    let one : to_be_bytes w8 b ≡ b ∷ [] = ap (λ (n : ℕ). n ∷ []) (omega arith) in
    let sp : Spells (to_be_bytes w8 b) r s = rw one h in
    rw (number_again w8 (2 ^ 8) wide8 any b r s lt refl sp, is, ok) refl

pub state_again : (x : State) → (slice_get states (state_byte x) ≡ Some x) × (state_byte x < 2 ^ 8)
unfolding state_byte
state_again st.Idle = (refl, omega arith)
state_again st.Download = (refl, omega arith)
state_again st.Install = (refl, omega arith)
state_again st.Reboot = (refl, omega arith)
state_again st.VerifyReboot = (refl, omega arith)
state_again st.Commit = (refl, omega arith)
state_again st.CommitLeave = (refl, omega arith)
state_again st.Rollback = (refl, omega arith)
state_again st.RollbackReboot = (refl, omega arith)
state_again st.VerifyRollbackReboot = (refl, omega arith)
state_again st.Failure = (refl, omega arith)
state_again st.Cleanup = (refl, omega arith)
state_again st.Wait = (refl, omega arith)

pub outcome_again : (x : Outcome) → (slice_get outcomes (outcome_byte x) ≡ Some x) × (outcome_byte x < 2 ^ 8)
unfolding outcome_byte
outcome_again Undecided = (refl, omega arith)
outcome_again Kept = (refl, omega arith)
outcome_again Committed = (refl, omega arith)
outcome_again RolledBack = (refl, omega arith)
outcome_again Inconsistent = (refl, omega arith)

pub answer_again : (x : Bool) → (slice_get answers (answer_byte x) ≡ Some x) × (answer_byte x < 2 ^ 8)
unfolding answer_byte
answer_again false = (refl, omega arith)
answer_again true = (refl, omega arith)

pub reboot_again : (x : Reboot) → (slice_get reboots (reboot_byte x) ≡ Some x) × (reboot_byte x < 2 ^ 8)
unfolding reboot_byte
reboot_again No = (refl, omega arith)
reboot_again Yes = (refl, omega arith)
reboot_again Automatic = (refl, omega arith)

pub count_below : (s : State) (n : ℕ) → is_count s n ≡ true → n < 2 ^ 8
unfolding is_count
count_below st.Download n h = omega (arith, eqb-true n 1 h)
count_below st.Install n h = omega (arith, eqb-true n 2 h)
count_below _ n h = omega (arith, leb-true n 28 ((and_parts _ _ h).1))

pub position_again : (p : Position) (r s : Rest) → IsTrue (is_valid p) → Spells (position_bytes p) r s → position_at r ≡ Ok (p, s)
unfolding position_at position_bytes
position_again p r s valid h =
    let v = and_parts _ _ valid in
    let v1 = and_parts _ _ v.0 in
    let v2 = and_parts _ _ v1.0 in
    let t0 = state_byte p.state ∷ [] in
    let t1 = outcome_byte p.outcome ∷ [] in
    let t2 = answer_byte p.undoable ∷ [] in
    let t3 = reboot_byte p.reboot ∷ [] in
    let t4 = p.n ∷ [] in
    let h0 : Spells (t0 ++ (t1 ++ (t2 ++ (t3 ++ t4)))) r s = h in
    let m0 = mid t0 (t1 ++ (t2 ++ (t3 ++ t4))) r s in
    let h1 : Spells (t1 ++ (t2 ++ (t3 ++ t4))) m0 s = second t0 (t1 ++ (t2 ++ (t3 ++ t4))) r s h0 in
    let m1 = mid t1 (t2 ++ (t3 ++ t4)) m0 s in
    let h2 : Spells (t2 ++ (t3 ++ t4)) m1 s = second t1 (t2 ++ (t3 ++ t4)) m0 s h1 in
    let m2 = mid t2 (t3 ++ t4) m1 s in
    let h3 : Spells (t3 ++ t4) m2 s = second t2 (t3 ++ t4) m1 s h2 in
    let m3 = mid t3 t4 m2 s in
    let h4 : Spells t4 m3 s = second t3 t4 m2 s h3 in
    let lt : p.n < 2 ^ 8 = count_below p.state p.n v.1 in
    let one : to_be_bytes w8 p.n ≡ t4 = ap (λ (n : ℕ). n ∷ []) (omega arith) in
    let h5 : Spells (to_be_bytes w8 p.n) m3 s = rw one h4 in
    rw (
      choice_again states any (state_byte p.state) p.state r m0 (state_again p.state).1 (state_again p.state).0 refl (first t0 (t1 ++ (t2 ++ (t3 ++ t4))) r s h0),
      choice_again outcomes (is_outcome p.state) (outcome_byte p.outcome) p.outcome m0 m1 (outcome_again p.outcome).1 (outcome_again p.outcome).0 v2.0 (first t1 (t2 ++ (t3 ++ t4)) m0 s h1),
      choice_again answers (is_undoable p.state) (answer_byte p.undoable) p.undoable m1 m2 (answer_again p.undoable).1 (answer_again p.undoable).0 v2.1 (first t2 (t3 ++ t4) m1 s h2),
      choice_again reboots (is_reboot p.state) (reboot_byte p.reboot) p.reboot m2 m3 (reboot_again p.reboot).1 (reboot_again p.reboot).0 v1.1 (first t3 t4 m2 s h3),
      number_again w8 (2 ^ 8) wide8 (is_count p.state) p.n m3 s lt v.1 h5,
    ) refl

-- ---- texts
pub short_again : (right : List ℕ → Bool) (text : List ℕ) (r s : Rest) → length text < 2 ^ 8 → right text ≡ true → Spells (short_text text) r s → text_at w8 right r ≡ Ok (text, s)
unfolding short_text
short_again right text r s lt ok h =
    let e : length text ≡ length text % 256 = omega arith in
    let sp : Spells (to_be_bytes w8 (length text) ++ text) r s = subst (λ (n : ℕ). Spells (n ∷ text) r s) e h in
    text_again w8 (2 ^ 8) wide8 right text r s lt ok sp

pub long_again : (right : List ℕ → Bool) (text : List ℕ) (r s : Rest) → length text < 2 ^ 16 → right text ≡ true → Spells (long_text text) r s → text_at w16 right r ≡ Ok (text, s)
unfolding long_text
long_again right text r s lt ok h = text_again w16 (2 ^ 16) wide16 right text r s lt ok h

pub pair_again : (last : List ℕ) (p : List ℕ × List ℕ) (r s : Rest) → IsTrue (is_pair p) → IsTrue (is_below last p.0) → Spells (pair p) r s → pair_at last r ≡ Ok (p, s)
unfolding pair_at pair
pair_again last p r s ok below h =
    let parts = and_parts _ _ ok in
    let right : List ℕ → Bool = λ k. is_name k && is_below last k in
    let m = mid (long_text p.0) (long_text p.1) r s in
    let kl : length p.0 < 2 ^ 16 = omega (arith, name_small p.0 parts.0) in
    rw (
      long_again right p.0 r m kl (and_from _ _ parts.0 below) (first (long_text p.0) (long_text p.1) r s h),
      long_again is_value p.1 m s (value_small p.1 parts.1) parts.1 (second (long_text p.0) (long_text p.1) r s h),
    ) refl

pub script_again : (last : List ℕ) (name : List ℕ) (r s : Rest) → IsTrue (is_script name) → IsTrue (is_below last name) → Spells (short_text name) r s → script_at last r ≡ Ok (name, s)
unfolding script_at is_script
script_again last name r s ok below h = short_again (λ x. is_script x && is_below last x) name r s (name_small name ((and_parts _ _ ok).0)) (and_from _ _ ok below) h

-- ---- lists
module _ {A : Type 0} (key : A → List ℕ) (right : A → Bool) (spell : A → List ℕ) (item : List ℕ → Rest → Result (A × Rest) ℕ)
    (one : (last : List ℕ) (x : A) (r s : Rest) → IsTrue (right x) → IsTrue (is_below last (key x)) → Spells (spell x) r s → item last r ≡ Ok (x, s)) where
  pub items_again : (last : List ℕ) (xs : List A) (r s : Rest) → IsTrue (ascend key right last xs) → Spells (flat_map spell xs) r s → items_at key item (length xs) last r ≡ Ok (xs, s)
  unfolding items_at
  items_again last [] r s ok h = ap (λ (x : Rest). Ok ([], x)) (rest_is r.at r.bytes s (omega (arith, h.place)) (sym h.parts))
  items_again last (x ∷ xs) r s ok h =
      let parts = and_parts _ _ ok in
      let front = and_parts _ _ parts.0 in
      let sp : Spells (spell x ++ flat_map spell xs) r s = rw flat_map-cons at h in
      let m = mid (spell x) (flat_map spell xs) r s in
      rw (one last x r m front.0 front.1 (first (spell x) (flat_map spell xs) r s sp), items_again (key x) xs m s parts.1 (second (spell x) (flat_map spell xs) r s sp)) refl

pub map_again : (ps : Pairs) (r s : Rest) → IsMap ps → length ps < 2 ^ 16 → Spells (pairs ps) r s → map_at r ≡ Ok (ps, s)
unfolding map_at pairs
map_again ps r s ok lt h =
    let count = to_be_bytes w16 (length ps) in
    let m = mid count (flat_map pair ps) r s in
    rw (
      number_again w16 (2 ^ 16) wide16 any (length ps) r m lt refl (first count (flat_map pair ps) r s h),
      items_again key_of is_pair pair pair_at pair_again [] ps m s (map_ascends ps ok) (second count (flat_map pair ps) r s h),
    ) refl

pub named_map_again : (ps : Pairs) (r s : Rest) → IsMap ps → length ps < 2 ^ 16 → HasName ps → Spells (pairs ps) r s → named_map_at r ≡ Ok (ps, s)
unfolding named_map_at
named_map_again ps r s ok lt named h = rw (map_again ps r s ok lt h, is_named-true ps named) refl

pub scripts_again : (names : List (List ℕ)) (r s : Rest) → AreScripts names → AllByRecursion (λ name. IsTrue (is_artifact_script name)) names → Spells (scripts names) r s → scripts_at r ≡ Ok (names, s)
unfolding scripts_at scripts
scripts_again names r s ok brought h =
    let few : length names ≤ 64 = ok.few in
    let lt : length names < 2 ^ 8 = omega (arith, few) in
    let t = length names ∷ [] in
    let u = flat_map short_text names in
    let one : to_be_bytes w8 (length names) ≡ t = ap (λ (n : ℕ). n ∷ []) (omega arith) in
    let m = mid t u r s in
    let hh : Spells (t ++ u) r s = h in
    let sp : Spells (to_be_bytes w8 (length names)) r m = rw one (first t u r s hh) in
    rw (
      number_again w8 (2 ^ 8) wide8 (λ n. leb n 64) (length names) r m lt (le-leb (length names) 64 few) sp,
      items_again itself is_script short_text script_at script_again [] names m s (scripts_ascend names ok brought) (second t u r s hh),
    ) refl

pub literal_again : (text : List ℕ) (r s : Rest) → ((rest : List ℕ) → starts_with nat_eq (text ++ rest) text ≡ true) → Spells text r s → literal_at text r ≡ Ok s
unfolding literal_at
literal_again text r s computes h =
    let t : starts_with nat_eq r.bytes text ≡ true = ap (λ (b : List ℕ). starts_with nat_eq b text) h.parts ∙ computes s.bytes in
    let d : drop (length text) r.bytes ≡ s.bytes = ap (drop (length text)) h.parts ∙ drop_at text s.bytes (length text) refl in
    let e : record { at = r.at + length text; bytes = drop (length text) r.bytes } ≡ s = rest_is (r.at + length text) (drop (length text) r.bytes) s h.place (sym d) in
    rw t (ap (λ (x : Rest). Ok x) e)

-- ---- the record
pub kind_small : (k : List ℕ) → is_kind k ≡ true → length k < 2 ^ 8
unfolding is_kind
kind_small k h = name_small k (and_parts _ _ h).0

pub record_len : (v : Version) (e : Entry) → length (record_of v e) ≡ record_length e
unfolding record_of
record_len v e = omega (arith, length-append (head v e) (body e), head_len v e)

pub no_zeros : (v : Version) (e : Entry) (rest : List ℕ) → starts_with nat_eq (record_of v e ++ rest) (0 ∷ 0 ∷ 0 ∷ 0 ∷ []) ≡ false
unfolding record_of head
no_zeros First e rest = refl
no_zeros Second e rest = refl

kinds_again : (names : List (List ℕ)) (r s : Rest) → AllByRecursion (λ kind. IsTrue (is_kind kind)) names → Spells (flat_map short_text names) r s → kinds_at (length names) r ≡ Ok (names, s)
unfolding kinds_at
kinds_again [] r s all h =
    let at : s.at ≡ r.at = omega (arith, h.place) in
    rw (at, sym h.parts) refl
kinds_again (name ∷ names) r s all h =
    let t = short_text name in
    let u = flat_map short_text names in
    let g : Spells (t ++ u) r s = subst (λ (x : List ℕ). Spells x r s) (flat_map-cons short_text name names) h in
    let m = mid t u r s in
    rw (short_again is_kind name r m (kind_small name all.0) all.0 (first t u r s g), kinds_again names m s all.1 (second t u r s g)) refl

-- the head that an entry's record has
abbrev pub head_of : Entry → Head
head_of e = record { position = e.position; count = length e.kinds; id = e.id; end = record_length e }

pub body_again : (e : Entry) (r s : Rest) → IsRight e → Spells (body e) r s → body_at (head_of e) r ≡ Ok (e, s)
unfolding body_at body kinds
body_again e r s ok h =
    let a = pairs e.before in
    let b = pairs e.new in
    let c = flat_map short_text e.kinds in
    let d = scripts e.scripts in
    let g : Spells (a ++ (b ++ (c ++ d))) r s = record { parts = h.parts ∙ ap (λ (t : List ℕ). t ++ s.bytes) (append_assoc (a ++ b) c d ∙ append_assoc a b (c ++ d)); place = h.place ∙ ap (λ (t : List ℕ). r.at + length t) (append_assoc (a ++ b) c d ∙ append_assoc a b (c ++ d)) } in
    let m0 = mid a (b ++ (c ++ d)) r s in
    let g0 : Spells (b ++ (c ++ d)) m0 s = second a (b ++ (c ++ d)) r s g in
    let m1 = mid b (c ++ d) m0 s in
    let g1 : Spells (c ++ d) m1 s = second b (c ++ d) m0 s g0 in
    let m2 = mid c d m1 s in
    rw (
      map_again e.before r m0 ok.before ok.before_fits (first a (b ++ (c ++ d)) r s g),
      named_map_again e.new m0 m1 ok.new ok.new_fits ok.named (first b (c ++ d) m0 s g0),
      kinds_again e.kinds m1 m2 ok.kinds (first c d m1 s g1),
      scripts_again e.scripts m2 s ok.scripts ok.brought (second c d m1 s g1),
    ) refl

version_again : (v : Version) (r s : Rest) → Spells (magic v) r s → version_at r ≡ Ok (v, s)
unfolding version_at
version_again First r s h =
    let t : starts_with nat_eq r.bytes (codes "MUP1") ≡ true = rw h.parts refl in
    let d : drop 4 r.bytes ≡ s.bytes = ap (drop 4) h.parts ∙ drop_at (codes "MUP1") s.bytes 4 refl in
    rw t (ap (λ (x : Rest). Ok (First, x)) (rest_is (r.at + 4) (drop 4 r.bytes) s h.place (sym d)))
version_again Second r s h =
    let t : starts_with nat_eq r.bytes (codes "MUP1") ≡ false = rw h.parts refl in
    rw (t, literal_again (codes "MUP2") r s (λ rest. refl) h) refl

marks_again : (v : Version) (e : Entry) (r s : Rest) → IsRight e → HasVersion v e → Spells (marks v e) r s → marks_at v r ≡ Ok ((length e.kinds, e.id), s)
unfolding marks_at
marks_again First e r s ok has h = rw (literal_again (0 ∷ 0 ∷ 0 ∷ []) r s (λ rest. refl) h, has.0, has.1) refl
marks_again Second e r s ok has h =
    let n = length e.kinds in
    let t : List ℕ = n ∷ [] in
    let u = to_be_bytes w16 e.id in
    let m = mid t u r s in
    let right : is_kind_count n ≡ true = and_from _ _ (le-leb 1 n ok.some) (le-leb n 8 ok.few) in
    let one : to_be_bytes w8 n ≡ n ∷ [] = ap (λ (k : ℕ). k ∷ []) (omega (arith, ok.few)) in
    rw (
      number_again w8 (2 ^ 8) wide8 is_kind_count n r m (omega (arith, ok.few)) right (subst (λ (x : List ℕ). Spells x r m) (sym one) (first t u r s h)),
      number_again w16 (2 ^ 16) wide16 any e.id m s ok.small refl (second t u r s h),
    ) refl

pub head_again : (v : Version) (e : Entry) (r s : Rest) → IsRight e → HasVersion v e → record_length e ≤ 131072 → Spells (head v e) r s → head_at r ≡ Ok (head_of e, s)
unfolding head_at head
head_again v e r s ok has small h =
    let a = magic v in
    let b = position_bytes e.position in
    let c = marks v e in
    let d = to_be_bytes w32 (record_length e) in
    let g : Spells (a ++ (b ++ (c ++ d))) r s = record { parts = h.parts ∙ ap (λ (t : List ℕ). t ++ s.bytes) (append_assoc (a ++ b) c d ∙ append_assoc a b (c ++ d)); place = h.place ∙ ap (λ (t : List ℕ). r.at + length t) (append_assoc (a ++ b) c d ∙ append_assoc a b (c ++ d)) } in
    let m0 = mid a (b ++ (c ++ d)) r s in
    let g0 : Spells (b ++ (c ++ d)) m0 s = second a (b ++ (c ++ d)) r s g in
    let m1 = mid b (c ++ d) m0 s in
    let g1 : Spells (c ++ d) m1 s = second b (c ++ d) m0 s g0 in
    let m2 = mid c d m1 s in
    let long : is_length (record_length e) ≡ true = and_from _ _ (le-leb 16 (record_length e) (omega arith)) (le-leb (record_length e) 131072 small) in
    rw (
      version_again v r m0 (first a (b ++ (c ++ d)) r s g),
      position_again e.position m0 m1 ok.position (first b (c ++ d) m0 s g0),
      marks_again v e m1 m2 ok has (first c d m1 s g1),
      number_again w32 (2 ^ 32) wide32 is_length (record_length e) m2 s (omega (arith, small)) long (second c d m1 s g1),
    ) refl

pub entry_again : (v : Version) (e : Entry) (r s : Rest) → IsRight e → HasVersion v e → record_length e ≤ 131072 → r.at ≡ 0 → Spells (record_of v e) r s → entry_at r ≡ Ok e
unfolding entry_at record_of
entry_again v e r s ok has small zero_at h =
    let m = mid (head v e) (body e) r s in
    let inside = within (record_length e) m in
    let end : Rest = record { at = record_length e; bytes = [] } in
    let at16 : r.at + length (head v e) ≡ 16 = omega (arith, zero_at, head_len v e) in
    let left : record_length e - (r.at + length (head v e)) ≡ length (body e) = omega (arith, at16) in
    let cut : take (record_length e - (r.at + length (head v e))) (body e ++ s.bytes) ≡ body e ++ [] = take_at (body e) s.bytes (record_length e - (r.at + length (head v e))) (sym left) ∙ sym (append-nil (body e)) in
    let g : Spells (body e) inside end = record { parts = cut; place = omega (arith, at16) } in
    rw (head_again v e r m ok has small (first (head v e) (body e) r s h), body_again e inside end ok g, eq-eqb (record_length e) (record_length e) refl) refl

pub limit_is : limit ≡ 131072
unfolding limit
limit_is = refl

pub front_again : (text rest : List ℕ) (n : ℕ) → length text ≤ n → take n (text ++ rest) ≡ text ++ take (n - length text) rest
front_again text rest n le =
    let k : n ≡ length text + (n - length text) = omega arith in
    ap (λ (i : ℕ). take i (text ++ rest)) k ∙ take-append-add text rest (n - length text)

pub all_again : (v : Version) (e : Entry) (rest : List ℕ) → IsRight e → HasVersion v e → record_length e ≤ 131072 → database (record_of v e ++ rest) ≡ Ok (Full e)
unfolding database
all_again v e rest ok has small =
    let fits : length (record_of v e) ≤ limit = omega (arith, record_len v e, limit_is) in
    let r : Rest = record { at = 0; bytes = take limit (record_of v e ++ rest) } in
    let s : Rest = record { at = length (record_of v e); bytes = take (limit - length (record_of v e)) rest } in
    let g : Spells (record_of v e) r s = record { parts = front_again (record_of v e) rest limit fits; place = omega arith } in
    rw (no_zeros v e rest, entry_again v e r s ok has small refl g) refl

-- no entry has two records of one version, and no record begins another
same_version : (v w : Version) (e f : Entry) (x y : List ℕ) → record_of v e ++ x ≡ record_of w f ++ y → v ≡ w
unfolding record_of head
same_version First First e f x y is = refl
same_version Second Second e f x y is = refl
same_version First Second e f x y is = absurd (omega (arith, ap (λ (l : List ℕ). get_or l 3 0) is))
same_version Second First e f x y is = absurd (omega (arith, ap (λ (l : List ℕ). get_or l 3 0) is))

pub one_record : (v w : Version) (e f : Entry) (x y : List ℕ) → IsRight e → IsRight f → HasVersion v e → HasVersion w f → record_length e ≤ 131072 → record_length f ≤ 131072 → record_of v e ++ x ≡ record_of w f ++ y → (v ≡ w) × (e ≡ f)
one_record v w e f x y oke okf hase hasf se sf is =
    let full : Entry → Result Db ℕ = λ z. Ok (Full z) in
    let both : full e ≡ full f = sym (all_again v e x oke hase se) ∙ ap database is ∙ all_again w f y okf hasf sf in
    (same_version v w e f x y is, cc)

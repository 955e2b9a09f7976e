-- A whole record that was read is the record of its entry, and the entry is right.
use Rattle.std.proofs.Common.{◌≡◌, ℕ, zero, suc, ◌+◌, ◌-◌, ◌<◌, ◌≤◌, ◌^◌, Bool, true, false, cond, eqb, List, [], ◌∷◌, ◌++◌, length, take, drop, Result, Ok, Err, refl, sym, ap, subst, ◌∙◌, append_assoc, append-nil, length-append, IsTrue, arith}
use Rattle.std.specs.Prelude.{codes, nat_eq, nat_le, IfOk}
use Rattle.std.specs.Int.{w8, w16, w32, to_be_bytes}
use Rattle.std.specs.List.{flat_map, starts_with, AllByRecursion}
use Rattle.std.proofs.lemmas.Bool.{eqb-true, leb-true, and_parts, and_from}
use Rattle.std.proofs.lemmas.List.{take-append-drop, length-take, drop_at, nil_from_length}
use Rattle.std.proofs.lemmas.List.Concat.{flat_map-cons}
use Rattle.upd_text.specs.Order.{is_below, itself}
use Rattle.provides_map.specs.Pairs.{Pairs, IsMap}
use Rattle.provides_map.specs.Last.{key_of}
use Rattle.flow_table.specs.declared.position.Position.{Position}
use Rattle.flow_table.specs.Valid.{is_outcome, is_undoable, is_reboot, is_count, is_valid}
use Rattle.record_codec.specs.declared.entry.Entry.{Entry}
use Rattle.record_codec.specs.declared.entry.Db.{Db}
use Rattle.record_codec.specs.declared.entry.Db.TheVariants.{Empty, Full}
use Rattle.record_codec.specs.Keys.{is_pair}
use Rattle.record_codec.specs.Bytes.{states, outcomes, answers, reboots, state_byte, outcome_byte, answer_byte, reboot_byte}
use Rattle.record_codec.specs.declared.entry.Version.{Version}
use Rattle.record_codec.specs.declared.entry.Version.TheVariants.{First, Second}
use Rattle.record_codec.specs.Spelling.{HasVersion, magic, kinds, short_text, pair, pairs, scripts, position_bytes, is_kind, is_script, is_named, body, head, record_of, record_length, IsRight, IsFound, IfFull}
use Rattle.upd_text.specs.Results.{◌>>=◌}
use Rattle.record_codec.specs.Reading.{Rest, any, choice_at, number_at, literal_at, text_at, position_at, pair_at, items_at, map_at, named_map_at, kinds_at, script_at, scripts_at, version_at, marks_at, is_kind_count, body_at, head_at, entry_at, database, limit, within, is_length, Gives}
use Rattle.record_codec.specs.declared.reader.whole.Head.{Head}
use Rattle.record_codec.specs.declared.fault.DecodeFault.{DecodeFault}
use Rattle.record_codec.proofs.Again.{record_len}
use Rattle.record_codec.proofs.Texts.{HasName-from, IsMap-from, Listed, Listed-from}
use Rattle.record_codec.proofs.Found.{IsBytes, IsBytes-take, Found, then, bind_ok, test_ok, AreCoded, coded_found, byte_found, short_found, literal_found, number_found, exact16, exact32, pair_found, items_found}

same_value : {A : Type 0} (x y : A) (read : Result A ℕ) → read ≡ Ok x → read ≡ Ok y → x ≡ y
same_value x y read e f = cc

states_coded : AreCoded state_byte 0 states
unfolding state_byte
states_coded = (refl, (refl, (refl, (refl, (refl, (refl, (refl, (refl, (refl, (refl, (refl, (refl, (refl, tt)))))))))))))

outcomes_coded : AreCoded outcome_byte 0 outcomes
unfolding outcome_byte
outcomes_coded = (refl, (refl, (refl, (refl, (refl, tt)))))

answers_coded : AreCoded answer_byte 0 answers
unfolding answer_byte
answers_coded = (refl, (refl, tt))

reboots_coded : AreCoded reboot_byte 0 reboots
unfolding reboot_byte
reboots_coded = (refl, (refl, (refl, tt)))

pub position_found : (r : Rest) (x : Position × Rest) → IsBytes r.bytes → position_at r ≡ Ok x → Found (position_bytes x.0) r x.1 × IsTrue (is_valid x.0)
unfolding position_at position_bytes
position_found r x fits e =
    let a = bind_ok (choice_at states any r) _ x e in
    let fa = coded_found state_byte states states_coded any r a.0 fits a.1 in
    let b = bind_ok (choice_at outcomes (is_outcome a.0.0) a.0.1) _ x a.2 in
    let fb = coded_found outcome_byte outcomes outcomes_coded (is_outcome a.0.0) a.0.1 b.0 fa.0.left b.1 in
    let c = bind_ok (choice_at answers (is_undoable a.0.0) b.0.1) _ x b.2 in
    let fc = coded_found answer_byte answers answers_coded (is_undoable a.0.0) b.0.1 c.0 fb.0.left c.1 in
    let d = bind_ok (choice_at reboots (is_reboot a.0.0) c.0.1) _ x c.2 in
    let fd = coded_found reboot_byte reboots reboots_coded (is_reboot a.0.0) c.0.1 d.0 fc.0.left d.1 in
    let n = bind_ok (number_at w8 (is_count a.0.0) d.0.1) _ x d.2 in
    let fn = byte_found (is_count a.0.0) d.0.1 n.0 fd.0.left n.1 in
    let made : Position × Rest = (record { state = a.0.0; outcome = b.0.0; undoable = c.0.0; reboot = d.0.0; n = n.0.0 }, n.0.1) in
    let same : made ≡ x = same_value made x (Ok made) refl n.2 in
    let t1 = state_byte a.0.0 ∷ [] in
    let t2 = outcome_byte b.0.0 ∷ [] in
    let t3 = answer_byte c.0.0 ∷ [] in
    let t4 = reboot_byte d.0.0 ∷ [] in
    let t5 = n.0.0 ∷ [] in
    let all : Found (t1 ++ (t2 ++ (t3 ++ (t4 ++ t5)))) r n.0.1 =
    then t1 (t2 ++ (t3 ++ (t4 ++ t5))) r a.0.1 n.0.1 fa.0 (then t2 (t3 ++ (t4 ++ t5)) a.0.1 b.0.1 n.0.1 fb.0 (then t3 (t4 ++ t5) b.0.1 c.0.1 n.0.1 fc.0 (then t4 t5 c.0.1 d.0.1 n.0.1 fd.0 fn.0))) in
    subst (λ (y : Position × Rest). Found (position_bytes y.0) r y.1 × IsTrue (is_valid y.0)) same
    (all, and_from _ _ (and_from _ _ (and_from _ _ fb.1 fc.1) fd.1) fn.2)

map_found : (r : Rest) (x : Pairs × Rest) → IsBytes r.bytes → map_at r ≡ Ok x → Found (pairs x.0) r x.1 × (length x.0 < 2 ^ 16) × IsMap x.0
unfolding map_at pairs
map_found r x fits e =
    let a = bind_ok (number_at w16 any r) (λ count. items_at key_of pair_at count.0 [] count.1) x e in
    let f = number_found w16 (2 ^ 16) exact16 any r a.0 fits a.1 in
    let h = items_found key_of is_pair pair pair_at pair_found a.0.0 [] a.0.1 x f.0.left a.2 in
    let count : Found (to_be_bytes w16 (length x.0)) r a.0.1 = subst (λ (n : ℕ). Found (to_be_bytes w16 n) r a.0.1) (sym h.1) f.0 in
    let few : length x.0 < 2 ^ 16 = omega (arith, h.1, f.1) in
    (then (to_be_bytes w16 (length x.0)) (flat_map pair x.0) r a.0.1 x.1 count h.0, few, IsMap-from x.0 few h.2)

named_map_found : (r : Rest) (x : Pairs × Rest) → named_map_at r ≡ Ok x → (map_at r ≡ Ok x) × (is_named x.0 ≡ true)
unfolding named_map_at
named_map_found r x e =
    let a = bind_ok (map_at r) _ x e in
    let t = test_ok (is_named a.0.0) r.at a.0 x a.2 in
    (subst (λ (y : Pairs × Rest). map_at r ≡ Ok y) t.1 a.1, subst (λ (y : Pairs × Rest). is_named y.0 ≡ true) t.1 t.0)

script_found : (last : List ℕ) (r : Rest) (x : List ℕ × Rest) → IsBytes r.bytes → script_at last r ≡ Ok x → Found (short_text x.0) r x.1 × IsTrue (is_script x.0) × IsTrue (is_below last x.0)
unfolding script_at
script_found last r x fits e =
    let f = short_found _ r x fits e in
    let k = and_parts (is_script x.0) (is_below last x.0) f.1 in
    (f.0, k.0, k.1)

scripts_found : (r : Rest) (x : List (List ℕ) × Rest) → IsBytes r.bytes → scripts_at r ≡ Ok x → Found (scripts x.0) r x.1 × Listed x.0
unfolding scripts_at scripts
scripts_found r x fits e =
    let a = bind_ok (number_at w8 (λ n. nat_le n 64) r) (λ count. items_at itself script_at count.0 [] count.1) x e in
    let f = byte_found (λ n. nat_le n 64) r a.0 fits a.1 in
    let h = items_found itself is_script short_text script_at script_found a.0.0 [] a.0.1 x f.0.left a.2 in
    let count : Found (length x.0 ∷ []) r a.0.1 = subst (λ (n : ℕ). Found (n ∷ []) r a.0.1) (sym h.1) f.0 in
    let few : length x.0 ≤ 64 = omega (arith, h.1, leb-true a.0.0 64 f.2) in
    (then (length x.0 ∷ []) (flat_map short_text x.0) r a.0.1 x.1 count h.0, Listed-from x.0 few h.2)

kinds_found : (n : ℕ) (r : Rest) (x : List (List ℕ) × Rest) → IsBytes r.bytes → kinds_at n r ≡ Ok x → Found (flat_map short_text x.0) r x.1 × (length x.0 ≡ n) × AllByRecursion (λ kind. IsTrue (is_kind kind)) x.0
unfolding kinds_at
kinds_found zero r x fits e =
    let made : List (List ℕ) × Rest = ([], r) in
    let same : made ≡ x = cc in
    subst (λ (y : List (List ℕ) × Rest). Found (flat_map short_text y.0) r y.1 × (length y.0 ≡ 0) × AllByRecursion (λ kind. IsTrue (is_kind kind)) y.0) same
    (record { spells = record { parts = refl; place = omega arith }; left = fits }, refl, tt)
kinds_found (suc n) r x fits e =
    let a = bind_ok (text_at w8 is_kind r) (λ first. kinds_at n first.1 >>= λ others. Ok (first.0 ∷ others.0, others.1)) x e in
    let b = bind_ok (kinds_at n a.0.1) (λ others. Ok (a.0.0 ∷ others.0, others.1)) x a.2 in
    let f = short_found is_kind r a.0 fits a.1 in
    let h = kinds_found n a.0.1 b.0 f.0.left b.1 in
    let made : List (List ℕ) × Rest = (a.0.0 ∷ b.0.0, b.0.1) in
    let same : made ≡ x = cc in
    let all : Found (short_text a.0.0 ++ flat_map short_text b.0.0) r b.0.1 = then (short_text a.0.0) (flat_map short_text b.0.0) r a.0.1 b.0.1 f.0 h.0 in
    subst (λ (y : List (List ℕ) × Rest). Found (flat_map short_text y.0) r y.1 × (length y.0 ≡ suc n) × AllByRecursion (λ kind. IsTrue (is_kind kind)) y.0) same
    (subst (λ (t : List ℕ). Found t r b.0.1) (sym (flat_map-cons short_text a.0.0 b.0.0)) all, ap suc h.1, (f.1, h.2))

version_found : (r : Rest) (x : Version × Rest) → IsBytes r.bytes → version_at r ≡ Ok x → Found (magic x.0) r x.1
unfolding version_at literal_at
version_found r x fits e = by_front (starts_with nat_eq r.bytes (codes "MUP1")) refl e
  where
    made : Rest
    made = record { at = r.at + 4; bytes = drop 4 r.bytes }

    by_front : (b : Bool) → starts_with nat_eq r.bytes (codes "MUP1") ≡ b → cond b (Ok (First, made)) (literal_at (codes "MUP2") r >>= λ rest. Ok (Second, rest)) ≡ Ok x → Found (magic x.0) r x.1
    by_front true is e =
        let first : Version × Rest = (First, made) in
        let same : first ≡ x = cc in
        let read : literal_at (codes "MUP1") r ≡ Ok made = rw is refl in
        subst (λ (y : Version × Rest). Found (magic y.0) r y.1) same (literal_found (codes "MUP1") r made fits read)
    by_front false is e =
        let a = bind_ok (literal_at (codes "MUP2") r) (λ rest. Ok (Second, rest)) x e in
        let second : Version × Rest = (Second, a.0) in
        let same : second ≡ x = cc in
        subst (λ (y : Version × Rest). Found (magic y.0) r y.1) same (literal_found (codes "MUP2") r a.0 fits a.1)

-- the marks of so many payload types and this number
abbrev spelled : Version → ℕ × ℕ → List ℕ
spelled First m = 0 ∷ 0 ∷ 0 ∷ []
spelled Second m = m.0 ∷ to_be_bytes w16 m.1

abbrev HasMarks : Version → ℕ × ℕ → Type 0
HasMarks First m = (m.0 ≡ 1) × (m.1 ≡ 0)
HasMarks Second m = Unit {0}

record AreMarks (v : Version) (m : ℕ × ℕ) : Type 0 where
  has : HasMarks v m
  some : 1 ≤ m.0
  few : m.0 ≤ 8
  small : m.1 < 2 ^ 16

marks_found : (v : Version) (r : Rest) (x : (ℕ × ℕ) × Rest) → IsBytes r.bytes → marks_at v r ≡ Ok x → Found (spelled v x.0) r x.1 × AreMarks v x.0
unfolding marks_at
marks_found First r x fits e =
    let a = bind_ok (literal_at (0 ∷ 0 ∷ 0 ∷ []) r) (λ rest. Ok ((1, 0), rest)) x e in
    let f = literal_found (0 ∷ 0 ∷ 0 ∷ []) r a.0 fits a.1 in
    let made : (ℕ × ℕ) × Rest = ((1, 0), a.0) in
    let same : made ≡ x = cc in
    subst (λ (y : (ℕ × ℕ) × Rest). Found (spelled First y.0) r y.1 × AreMarks First y.0) same
    (f, record { has = (refl, refl); some = omega arith; few = omega arith; small = omega arith })
marks_found Second r x fits e =
    let a = bind_ok (number_at w8 is_kind_count r) (λ count. number_at w16 any count.1 >>= λ id. Ok ((count.0, id.0), id.1)) x e in
    let b = bind_ok (number_at w16 any a.0.1) (λ id. Ok ((a.0.0, id.0), id.1)) x a.2 in
    let f = byte_found is_kind_count r a.0 fits a.1 in
    let h = number_found w16 (2 ^ 16) exact16 any a.0.1 b.0 f.0.left b.1 in
    let counts = and_parts (nat_le 1 a.0.0) (nat_le a.0.0 8) f.2 in
    let made : (ℕ × ℕ) × Rest = ((a.0.0, b.0.0), b.0.1) in
    let same : made ≡ x = cc in
    subst (λ (y : (ℕ × ℕ) × Rest). Found (spelled Second y.0) r y.1 × AreMarks Second y.0) same (
      then (a.0.0 ∷ []) (to_be_bytes w16 b.0.0) r a.0.1 b.0.1 f.0 h.0,
      record { has = tt; some = leb-true 1 a.0.0 counts.0; few = leb-true a.0.0 8 counts.1; small = h.1 },
    )

-- the head of a record with these fields
abbrev front : Version → Head → List ℕ
front v h = magic v ++ position_bytes h.position ++ spelled v (h.count, h.id) ++ to_be_bytes w32 h.end

record HeadFound (r : Rest) (x : Head × Rest) : Type 0 where
  version : Version
  found : Found (front version x.0) r x.1
  valid : IsTrue (is_valid x.0.position)
  marked : AreMarks version (x.0.count, x.0.id)
  small : x.0.end ≤ 131072

head_found : (r : Rest) (x : Head × Rest) → IsBytes r.bytes → head_at r ≡ Ok x → HeadFound r x
unfolding head_at
head_found r x fits e =
    let a = bind_ok (version_at r) _ x e in
    let fa = version_found r a.0 fits a.1 in
    let b = bind_ok (position_at a.0.1) _ x a.2 in
    let fb = position_found a.0.1 b.0 fa.left b.1 in
    let c = bind_ok (marks_at a.0.0 b.0.1) _ x b.2 in
    let fc = marks_found a.0.0 b.0.1 c.0 fb.0.left c.1 in
    let d = bind_ok (number_at w32 is_length c.0.1) _ x c.2 in
    let fd = number_found w32 (2 ^ 32) exact32 is_length c.0.1 d.0 fc.0.left d.1 in
    let v : Version = a.0.0 in
    let made : Head × Rest = (record { position = b.0.0; count = c.0.0.0; id = c.0.0.1; end = d.0.0 }, d.0.1) in
    let same : made ≡ x = same_value made x (Ok made) refl d.2 in
    let small = and_parts (nat_le 16 d.0.0) (nat_le d.0.0 131072) fd.2 in
    let t1 = magic v in
    let t2 = position_bytes b.0.0 in
    let t3 = spelled v c.0.0 in
    let t4 = to_be_bytes w32 d.0.0 in
    let all : Found (t1 ++ t2 ++ t3 ++ t4) r d.0.1 = then (t1 ++ t2 ++ t3) t4 r c.0.1 d.0.1 (then (t1 ++ t2) t3 r b.0.1 c.0.1 (then t1 t2 r a.0.1 b.0.1 fa fb.0) fc.0) fd.0 in
    subst (λ (y : Head × Rest). HeadFound r y) same
    (record { version = v; found = all; valid = fb.1; marked = fc.1; small = leb-true d.0.0 131072 small.1 })

-- an entry that was read with a head
record BodyFound (h : Head) (r : Rest) (x : Entry × Rest) : Type 0 where
  found : Found (body x.0) r x.1
  right : IsRight x.0
  position : x.0.position ≡ h.position
  id : x.0.id ≡ h.id
  count : length x.0.kinds ≡ h.count

body_found : (v : Version) (h : Head) → IsTrue (is_valid h.position) → AreMarks v (h.count, h.id) → (r : Rest) (x : Entry × Rest) → IsBytes r.bytes → body_at h r ≡ Ok x → BodyFound h r x
unfolding body_at body kinds
body_found v h valid marked r x fits e =
    let a = bind_ok (map_at r) _ x e in
    let fa = map_found r a.0 fits a.1 in
    let b = bind_ok (named_map_at a.0.1) _ x a.2 in
    let nb = named_map_found a.0.1 b.0 b.1 in
    let fb = map_found a.0.1 b.0 fa.0.left nb.0 in
    let c = bind_ok (kinds_at h.count b.0.1) _ x b.2 in
    let fc = kinds_found h.count b.0.1 c.0 fb.0.left c.1 in
    let d = bind_ok (scripts_at c.0.1) _ x c.2 in
    let fd = scripts_found c.0.1 d.0 fc.0.left d.1 in
    let entry : Entry = record { position = h.position; id = h.id; before = a.0.0; new = b.0.0; kinds = c.0.0; scripts = d.0.0 } in
    let made : Entry × Rest = (entry, d.0.1) in
    let same : made ≡ x = same_value made x (Ok made) refl d.2 in
    let t1 = pairs a.0.0 in
    let t2 = pairs b.0.0 in
    let t3 = flat_map short_text c.0.0 in
    let t4 = scripts d.0.0 in
    let all : Found (t1 ++ t2 ++ t3 ++ t4) r d.0.1 =
    then (t1 ++ t2 ++ t3) t4 r c.0.1 d.0.1 (then (t1 ++ t2) t3 r b.0.1 c.0.1 (then t1 t2 r a.0.1 b.0.1 fa.0 fb.0) fc.0) fd.0 in
    let right : IsRight entry = record {
      position = valid;
      before = fa.2;
      before_fits = fa.1;
      new = fb.2;
      new_fits = fb.1;
      named = HasName-from b.0.0 nb.1;
      kinds = fc.2;
      some = omega (arith, fc.1, marked.some);
      few = omega (arith, fc.1, marked.few);
      small = marked.small;
      scripts = fd.1.scripts;
      brought = fd.1.brought;
    } in
    subst (λ (y : Entry × Rest). BodyFound h r y) same (record { found = all; right = right; position = refl; id = refl; count = fc.1 })

front_len : (v : Version) (h : Head) → length (front v h) ≡ 16
unfolding position_bytes
front_len First h = refl
front_len Second h = refl

front_is : (v : Version) (e : Entry) (h : Head) → e.position ≡ h.position → e.id ≡ h.id → length e.kinds ≡ h.count → h.end ≡ record_length e → front v h ≡ head v e
unfolding head
front_is First e h p i k n = rw (← p, n) refl
front_is Second e h p i k n = rw (← p, ← i, ← k, n) refl

of-version : (v : Version) (e : Entry) (h : Head) → e.id ≡ h.id → length e.kinds ≡ h.count → HasMarks v (h.count, h.id) → HasVersion v e
of-version First e h i k has = (k ∙ has.0, i ∙ has.1)
of-version Second e h i k has = tt

-- what stands before the record's end, and what behind it
cut : (all text left : List ℕ) (n : ℕ) → take n all ≡ text ++ left → n ≡ length text → all ≡ text ++ drop n all
cut all text left n is same =
    let none : left ≡ [] = nil_from_length left (omega (arith, ap length is, length-append text left, length-take n all)) in
    let front : take n all ≡ text = is ∙ ap (λ (t : List ℕ). text ++ t) none ∙ append-nil text in
    sym (take-append-drop n all) ∙ ap (λ (t : List ℕ). t ++ drop n all) front

-- a record at the front, and something behind it
record Begins (bytes : List ℕ) (e : Entry) : Type 0 where
  version : Version
  of_version : HasVersion version e
  right : IsRight e
  small : record_length e ≤ 131072
  rest : List ℕ
  parts : bytes ≡ record_of version e ++ rest

entry_found : (r : Rest) (e : Entry) → r.at ≡ 0 → IsBytes r.bytes → entry_at r ≡ Ok e → Begins r.bytes e
unfolding entry_at record_of
entry_found r e zero_at fits is =
    let a = bind_ok (head_at r) _ e is in
    let fa = head_found r a.0 fits a.1 in
    let v : Version = fa.version in
    let h : Head = a.0.0 in
    let m : Rest = a.0.1 in
    let inside : Rest = within h.end m in
    let b = bind_ok (body_at h inside) _ e a.2 in
    let left : Rest = b.0.1 in
    let fb = body_found v h fa.valid fa.marked inside b.0 (IsBytes-take (h.end - m.at) m.bytes fa.found.left) b.1 in
    let t = test_ok (eqb left.at h.end) left.at b.0.0 e b.2 in
    let entry : Entry = b.0.0 in
    let ends : left.at ≡ h.end = eqb-true left.at h.end t.0 in
    let placed : left.at ≡ m.at + length (body entry) = fb.found.spells.place in
    let begun : m.at ≡ 16 = omega (arith, fa.found.spells.place, front_len v h, zero_at) in
    let same : h.end ≡ record_length entry = omega arith in
    let size : h.end - m.at ≡ length (body entry) = omega arith in
    let behind : m.bytes ≡ body entry ++ drop (h.end - m.at) m.bytes = cut m.bytes (body entry) left.bytes (h.end - m.at) fb.found.spells.parts size in
    let whole : r.bytes ≡ (head v entry ++ body entry) ++ drop (h.end - m.at) m.bytes =
    fa.found.spells.parts ∙ ap (λ (x : List ℕ). x ++ m.bytes) (front_is v entry h fb.position fb.id fb.count same) ∙ ap (λ (x : List ℕ). head v entry ++ x) behind ∙ sym (append_assoc (head v entry) (body entry) (drop (h.end - m.at) m.bytes)) in
    let found : Begins r.bytes entry = record { version = v; of_version = of-version v entry h fb.id fb.count fa.marked.has; right = fb.right; small = omega (arith, fa.small); rest = drop (h.end - m.at) m.bytes; parts = whole } in
    subst (λ (y : Entry). Begins r.bytes y) t.1 found

database_entry : (zeros : Bool) (read : Result Entry ℕ) (e : Entry) (all : Result Db ℕ) → all ≡ Ok (Full e) → all ≡ cond zeros (Ok Empty) (read >>= λ x. Ok (Full x)) → read ≡ Ok e
database_entry true read e all is same = absurd cc
database_entry false (Ok x) e all is same = let k : x ≡ e = cc in ap (λ (y : Entry). Ok y) k
database_entry false (Err offset) e all is same = absurd cc

-- what is read is right, and is spelled so
pub database_found : (bytes : List ℕ) (e : Entry) → IsBytes bytes → database bytes ≡ Ok (Full e) → IsFound bytes e
unfolding database
database_found bytes e fits is =
    let r : Rest = record { at = 0; bytes = take limit bytes } in
    let read : entry_at r ≡ Ok e = database_entry (starts_with nat_eq bytes (0 ∷ 0 ∷ 0 ∷ 0 ∷ [])) (entry_at r) e (database bytes) is refl in
    let f = entry_found r e refl (IsBytes-take limit bytes fits) read in
    let all : List ℕ = f.rest ++ drop limit bytes in
    let v : Version = f.version in
    let parts : bytes ≡ record_of v e ++ all = sym (take-append-drop limit bytes) ∙ ap (λ (x : List ℕ). x ++ drop limit bytes) f.parts ∙ append_assoc (record_of v e) f.rest (drop limit bytes) in
    let long : record_length e ≤ length bytes = omega (arith, ap length parts, length-append (record_of v e) all, record_len v e) in
    let rest : drop (record_length e) bytes ≡ all = ap (drop (record_length e)) parts ∙ drop_at (record_of v e) all (record_length e) (record_len v e) in
    record { version = v; of_version = f.of_version; right = f.right; fits = f.small; within = long; begins = parts ∙ ap (λ (x : List ℕ). record_of v e ++ x) (sym rest) }

-- so it is with what decoding gives
pub found_of : (answer : Result Db DecodeFault) (bytes : List ℕ) → IsBytes bytes → Gives answer (database bytes) → IfOk answer (IfFull (IsFound bytes))
found_of (Ok Empty) bytes fits given = tt
found_of (Ok (Full e)) bytes fits given = database_found bytes e fits given
found_of (Err fault) bytes fits given = tt

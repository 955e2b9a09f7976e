-- What is read of a line is spelled as the line, and right.
use Rattle.std.proofs.Common.{◌≡◌, ℕ, zero, suc, ◌<◌, ◌≤◌, Bool, true, false, List, [], ◌∷◌, ◌++◌, length, take, cond, refl, ap, ◌∙◌, subst, arith, inl, inr, ◌⊎◌}
use Rattle.std.specs.Prelude.{◌==◌, ◌&&◌, nat_le, nat_lt, codes, position, Option, Some, None, is_some, Result, Ok, Err}
use Rattle.std.specs.List.{slice_get, slice_index}
use Rattle.std.specs.Result.{result_ok}
use Rattle.std.specs.Str.{bytes_eq}
use Rattle.std.proofs.lemmas.Bool.Decides.{leb_tells}
use Rattle.std.proofs.lemmas.Slice.Eq.{bytes_eq-Decides}
use Rattle.hex.specs.Hex.{decode_of, IsBytes}
use Rattle.hex.proofs.HexLemmas.{decode_of-ok}
use Rattle.upd_text.specs.declared.fault.NameFault.TheVariants.{Empty, TooLong}
use Rattle.upd_text.specs.Text.{IsName, name_of, unless_bad, is_bad, decimal_of}
use Rattle.script_names.specs.Scripts.{IsScript, place_of}
use Rattle.device_model.specs.declared.calls.Event.{Event}
use Rattle.device_model.specs.declared.calls.Event.TheVariants.{Start, End, Pause, Loss}
use Rattle.device_model.specs.declared.calls.Answer.TheVariants.{Exit, Reply, NotStarted}
use Rattle.device_model.specs.declared.calls.Call.TheVariants.{Script, SystemReboot}
use Rattle.device_model.specs.declared.module_word.ModuleWord.{ModuleWord}
use Rattle.device_model.specs.declared.module_word.ModuleWord.TheVariants as asked
use Rattle.device_model.specs.Names.{module_named}
use Rattle.event_text.specs.Lines.{line}
use Rattle.flow_table.specs.declared.position.Position.{Position}
use Rattle.flow_table.specs.declared.position.State.{State}
use Rattle.flow_table.specs.declared.position.Outcome.{Outcome}
use Rattle.flow_table.specs.declared.position.Outcome.TheVariants.{Undecided, Kept, Committed, RolledBack, Inconsistent}
use Rattle.flow_table.specs.declared.position.Reboot.{Reboot as Rebooting}
use Rattle.flow_table.specs.Names.{state_named, outcome_name, outcome_named, reboot_named}
use Rattle.flow_table.proofs.Named.{found-names}
use Rattle.trace_check.specs.declared.note.Deed.{Deed}
use Rattle.trace_check.specs.declared.note.NoteEnd.{NoteEnd}
use Rattle.trace_check.specs.declared.note.NoteEnd.TheVariants as noted_end
use Rattle.trace_check.specs.declared.words.TheConstants.{DEEDS}
use Rattle.trace_check.specs.Form.{is_place, is_noted}
use Rattle.trace_check.specs.Texts.{deed_name, from_line}
use Rattle.trace_check.specs.Lines.{tag, number_in, at_most, is_line, split, undoable_named, deed_named, deed_in, name_in, if_script, script_in, fields_in, position_in, from_in, end_in, called, called_in, run_in, bytes_in, reply_in, exit_in, pause_in, event_named, call_in, answer_in, event_in}
use Rattle.trace_check.specs.Reads.{IsEventText}
use Rattle.trace_check.proofs.Same.{both-parts}
use Rattle.trace_check.proofs.Sounds.{tag-is, only-is, then-is, map-is, behind-is}
use Rattle.trace_check.proofs.Spelled.{line-is}
use Rattle.trace_check.proofs.Spoken.{boot_text}
use Rattle.trace_check.proofs.Retold.{end_words}

-- ---- parts

choice : {A : Type 0} (test : Bool) (x : A) (o : Option A) (y : A) → cond test (Some x) o ≡ Some y → ((test ≡ true) × (x ≡ y)) ⊎ ((test ≡ false) × (o ≡ Some y))
choice true x o y is = inl (refl, cc)
choice false x o y is = inr (refl, is)

pub some-is : {A : Type 0} (x y : A) → ◌≡◌ {A = Option A} (Some x) (Some y) → x ≡ y
some-is x y is = cc

number-small : (most : ℕ) (digits : List ℕ) (n : ℕ) → number_in most digits ≡ Some n → n ≤ most
unfolding number_in
number-small most digits n is =
    let k = then-is (at_most most) (decimal_of digits) n is in
    by k.0 (nat_le k.0 most) refl k.2 where
      by : (m : ℕ) (t : Bool) → nat_le m most ≡ t → cond t (Some m) None ≡ Some n → n ≤ most
      by m true small found =
          let same : m ≡ n = cc in
          subst (λ (i : ℕ). i ≤ most) same (elim (leb_tells m most) [ inl k ↦ k.1 | inr k ↦ absurd (let h = k.0 in cc) ])
      by m false small found = cc

name-same : (text name : List ℕ) → name_of text ≡ Ok name → text ≡ name
unfolding name_of
name-same text name is = by (length text == 0) (nat_lt 128 (length text)) (position is_bad text) is where
  by : (a b : Bool) (o : Option ℕ) → cond a (Err Empty) (cond b (Err TooLong) (unless_bad text o)) ≡ Ok name → text ≡ name
  by true b o h = cc
  by false true o h = cc
  by false false None h = cc
  by false false (Some i) h = cc

pub name-is : (text name : List ℕ) → name_in text ≡ Some name → (text ≡ name) × IsName name
name-is text name is = by (name_of text) refl is where
  by : (r : Result (List ℕ) _) → name_of text ≡ r → result_ok r ≡ Some name → (text ≡ name) × IsName name
  by (Ok n) given found =
      let same : n ≡ name = cc in
      let it : name_of text ≡ Ok name = given ∙ ap Ok same in
      let text_is : text ≡ name = name-same text name it in
      (text_is, subst (λ (l : List ℕ). name_of l ≡ Ok name) text_is it)
  by (Err e) given found = cc

pub script-is : (text name : List ℕ) → script_in text ≡ Some name → (text ≡ name) × IsScript name
script-is text name is =
    let n = then-is if_script (name_in text) name is in
    let named = name-is text n.0 n.1 in
    by n.0 named (is_some (place_of n.0)) refl n.2 where
      by : (m : List ℕ) → (text ≡ m) × IsName m → (t : Bool) → is_some (place_of m) ≡ t → cond t (Some m) None ≡ Some name → (text ≡ name) × IsScript name
      by m named true place found = let same : m ≡ name = cc in subst (λ (l : List ℕ). (text ≡ l) × IsScript l) same (named.0, (named.1, place))
      by m named false place found = cc

-- ---- the first two lines and the last

pub deed-is : (text : List ℕ) (d : Deed) → deed_in text ≡ Some d → text ≡ boot_text d
unfolding deed_in
deed-is text d is =
    let w = then-is deed_named (tag (codes "boot ") text) d is in
    tag-is (codes "boot ") text w.0 w.1 ∙ ap (λ (l : List ℕ). codes "boot " ++ l) (found-names deed_name DEEDS w.0 d w.2)

abbrev a_position : State → Outcome → Bool → Rebooting → ℕ → Position
a_position s o u r n = record { state = s; outcome = o; undoable = u; reboot = r; n = n }

fields-small : (state outcome undoable reboot n : List ℕ) (p : Position) → fields_in state outcome undoable reboot n ≡ Some p → p.n < 256
unfolding fields_in
fields-small state outcome undoable reboot n p is =
    let s = then-is {A = State} _ (state_named state) p is in
    let o = then-is {A = Outcome} _ (outcome_named outcome) p s.2 in
    let u = then-is {A = Bool} _ (undoable_named undoable) p o.2 in
    let r = then-is {A = Rebooting} _ (reboot_named reboot) p u.2 in
    let k = then-is {A = ℕ} _ (number_in 255 n) p r.2 in
    let small = number-small 255 n k.0 k.1 in
    let same : k.0 ≡ p.n = ap (λ (q : Position). q.n) (some-is (a_position s.0 o.0 u.0 r.0 k.0) p k.2) in
    omega (arith, small, same)

position-small : (text : List ℕ) (p : Position) → position_in text ≡ Some p → p.n < 256
unfolding position_in
position-small text p is =
    let a = then-is {A = List ℕ × List ℕ} _ (split text) p is in
    let b = then-is {A = List ℕ × List ℕ} _ (split a.0.1) p a.2 in
    let c = then-is {A = List ℕ × List ℕ} _ (split b.0.1) p b.2 in
    let d = then-is {A = List ℕ × List ℕ} _ (split c.0.1) p c.2 in
    fields-small a.0.0 b.0.0 c.0.0 d.0.0 d.0.1 p d.2

pub record IsFrom (text : List ℕ) (p : Position) : Type 0 where
  pub told : from_line p ≡ text ++ 10 ∷ []
  pub place : is_place p ≡ true
  pub small : p.n < 256

pub from-is : (text : List ℕ) (p : Position) → from_in text ≡ Some p → IsFrom text p
unfolding from_in
from-is text p is =
    let found = only-is (λ (q : Position). is_place q && is_line (from_line q) text) _ p is in
    let w = then-is position_in (tag (codes "from ") text) p found.0 in
    let tests = both-parts (is_place p) (is_line (from_line p) text) found.1 in
    record { told = line-is (from_line p) text tests.1; place = tests.0; small = position-small w.0 p w.2 }

test-is : (text word : List ℕ) → bytes_eq text word ≡ true → text ≡ word
test-is text word h = (bytes_eq-Decides text word).0 h

pub words-are : (text : List ℕ) (e : NoteEnd) → end_in text ≡ Some e → text ≡ end_words e
unfolding end_in
words-are text e is =
    elim (choice (bytes_eq text (codes "none")) noted_end.Nothing _ e is) [
      | inl h ↦ test-is text (codes "none") h.0 ∙ ap end_words h.1
      | inr h ↦ elim (choice (bytes_eq text (codes "waits")) noted_end.Waits _ e h.1) [
        | inl k ↦ test-is text (codes "waits") k.0 ∙ ap end_words k.1
        | inr k ↦ elim (choice (bytes_eq text (codes "reboot-needed")) noted_end.RebootNeeded _ e k.1) [
          | inl m ↦ test-is text (codes "reboot-needed") m.0 ∙ ap end_words m.1
          | inr m ↦ elim (choice (bytes_eq text (codes "halted")) noted_end.Halted _ e m.1) [
            | inl n ↦ test-is text (codes "halted") n.0 ∙ ap end_words n.1
            | inr n ↦ (let w = then-is _ (tag (codes "ended ") text) e n.1 in
                let o = map-is noted_end.Ended (outcome_named w.0) e w.2 in
                tag-is (codes "ended ") text w.0 w.1 ∙ ap (λ (l : List ℕ). codes "ended " ++ l) (found-names outcome_name (Undecided ∷ Kept ∷ Committed ∷ RolledBack ∷ Inconsistent ∷ []) w.0 o.0 o.1) ∙ ap end_words o.2)
          ]
        ]
      ]
    ]

-- ---- events

called-small : (k : ℕ) (kind : List ℕ) (w : ModuleWord) → k < 256 → IsEventText (called k kind w)
called-small k kind (asked.State s) small = small
called-small k kind (asked.Ask q) small = small

called-right : (kinds : List (List ℕ)) (text : List ℕ) (e : Event) → called_in kinds text ≡ Some e → IsEventText e
unfolding called_in
called-right kinds text e is =
    let p = then-is {A = List ℕ × List ℕ} _ (split text) e is in
    let k = then-is {A = ℕ} _ (number_in 255 p.0.0) e p.2 in
    let kind = then-is {A = List ℕ} _ (slice_get kinds k.0) e k.2 in
    let w = then-is {A = ModuleWord} _ (module_named p.0.1) e kind.2 in
    let small = number-small 255 p.0.0 k.0 k.1 in
    subst IsEventText (some-is (called k.0 kind.0 w.0) e w.2) (called-small k.0 kind.0 w.0 (omega arith))

run-right : (text : List ℕ) (e : Event) → run_in text ≡ Some e → IsEventText e
unfolding run_in
run-right text e is =
    let n = map-is (λ (name : List ℕ). Start (Script name)) (name_in text) e is in
    subst IsEventText n.2 (name-is text n.0 n.1).1

ok-is : {E : Type 0} (r : Result (List ℕ) E) (x : List ℕ) → result_ok r ≡ Some x → r ≡ Ok x
ok-is (Ok y) x is = let same : y ≡ x = cc in ap Ok same
ok-is (Err e) x is = cc

bytes-taken : (n : ℕ) (xs : List ℕ) → IsBytes xs → IsBytes (take n xs)
bytes-taken zero xs h = λ i. omega arith
bytes-taken (suc n) [] h = h
bytes-taken (suc n) (x ∷ xs) h = by (bytes-taken n xs (λ j. h (suc j))) where
  by : IsBytes (take n xs) → (i : ℕ) → slice_index (x ∷ take n xs) i < 256
  by rest zero = h zero
  by rest (suc i) = rest i

few-taken : (n : ℕ) (xs : List ℕ) → length (take n xs) ≤ n
few-taken zero xs = omega arith
few-taken (suc n) [] = omega arith
few-taken (suc n) (x ∷ xs) = let rest = few-taken n xs in omega (arith, rest)

bytes-right : (digits bytes : List ℕ) → bytes_in digits ≡ Some bytes → (length bytes ≤ 32) × IsBytes bytes
unfolding bytes_in
bytes-right digits bytes is =
    elim (choice (bytes_eq digits (codes "-")) [] _ bytes is) [
      | inl h ↦ subst (λ (l : List ℕ). (length l ≤ 32) × IsBytes l) h.1 (omega arith, λ i. omega arith)
      | inr h ↦ (let raw = map-is (take 32) (result_ok (decode_of digits)) bytes h.1 in
          let given = ok-is (decode_of digits) raw.0 raw.1 in
          let good = (decode_of-ok digits raw.0 given).3 in
          subst (λ (l : List ℕ). (length l ≤ 32) × IsBytes l) raw.2 (few-taken 32 raw.0, bytes-taken 32 raw.0 good))
    ]

reply-right : (text : List ℕ) (e : Event) → reply_in text ≡ Some e → IsEventText e
unfolding reply_in
reply-right text e is =
    let p = then-is {A = List ℕ × List ℕ} _ (split text) e is in
    let code = then-is {A = ℕ} _ (number_in 255 p.0.0) e p.2 in
    let bytes = then-is {A = List ℕ} _ (bytes_in p.0.1) e code.2 in
    let small = number-small 255 p.0.0 code.0 code.1 in
    let right = bytes-right p.0.1 bytes.0 bytes.1 in
    subst IsEventText (some-is (End (Reply code.0 bytes.0)) e bytes.2) (omega arith, right.0, right.1)

exit-right : (text : List ℕ) (e : Event) → exit_in text ≡ Some e → IsEventText e
unfolding exit_in
exit-right text e is =
    let n = map-is (λ (code : ℕ). End (Exit code)) (number_in 255 text) e is in
    let small = number-small 255 text n.0 n.1 in
    subst IsEventText n.2 (omega arith)

pause-right : (text : List ℕ) (e : Event) → pause_in text ≡ Some e → IsEventText e
unfolding pause_in
pause-right text e is =
    let n = map-is Pause (number_in 4294967295 text) e is in
    let small = number-small 4294967295 text n.0 n.1 in
    subst IsEventText n.2 (omega arith)

named-right : (text : List ℕ) (e : Event) → event_named text ≡ Some e → IsEventText e
named-right text e is =
    elim (choice (bytes_eq text (codes "reboot")) (Start SystemReboot) _ e is) [
      | inl h ↦ subst IsEventText h.1 tt
      | inr h ↦ elim (choice (bytes_eq text (codes "not-started")) (End NotStarted) _ e h.1) [
        | inl k ↦ subst IsEventText k.1 tt
        | inr k ↦ elim (choice (bytes_eq text (codes "loss")) Loss None e k.1) [
          | inl m ↦ subst IsEventText m.1 tt
          | inr m ↦ absurd (let n = m.1 in cc)
        ]
      ]
    ]

answer-right : (text : List ℕ) (e : Event) → answer_in text ≡ Some e → IsEventText e
unfolding answer_in
answer-right text e is =
    elim (behind-is (tag (codes "exit ") text) exit_in _ e is) [
      | inl h ↦ exit-right h.0 e h.2
      | inr h ↦ elim (behind-is (tag (codes "reply ") text) reply_in _ e h.1) [
        | inl k ↦ reply-right k.0 e k.2
        | inr k ↦ elim (behind-is (tag (codes "pause ") text) pause_in (event_named text) e k.1) [
          | inl m ↦ pause-right m.0 e m.2
          | inr m ↦ named-right text e m.1
        ]
      ]
    ]

said-right : (kinds : List (List ℕ)) (text : List ℕ) (e : Event) → call_in kinds text (answer_in text) ≡ Some e → IsEventText e
unfolding call_in
said-right kinds text e is =
    elim (behind-is (tag (codes "module ") text) (called_in kinds) _ e is) [
      | inl h ↦ called-right kinds h.0 e h.2
      | inr h ↦ elim (behind-is (tag (codes "ask ") text) (called_in kinds) _ e h.1) [
        | inl k ↦ called-right kinds k.0 e k.2
        | inr k ↦ elim (behind-is (tag (codes "run ") text) run_in (answer_in text) e k.1) [
          | inl m ↦ run-right m.0 e m.2
          | inr m ↦ answer-right text e m.1
        ]
      ]
    ]

pub record IsSaid (kinds : List (List ℕ)) (text : List ℕ) (e : Event) : Type 0 where
  pub told : line e ≡ text ++ 10 ∷ []
  pub noted : is_noted kinds e ≡ true
  pub right : IsEventText e

pub event-is : (kinds : List (List ℕ)) (text : List ℕ) (e : Event) → event_in kinds text ≡ Some e → IsSaid kinds text e
unfolding event_in
event-is kinds text e is =
    let found = only-is (λ (d : Event). is_noted kinds d && is_line (line d) text) (call_in kinds text (answer_in text)) e is in
    let tests = both-parts (is_noted kinds e) (is_line (line e) text) found.1 in
    record { told = line-is (line e) text tests.1; noted = tests.0; right = said-right kinds text e found.0 }

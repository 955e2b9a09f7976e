-- Walking through the states of a boot.
use Rattle.std.proofs.Common.{◌≡◌, ℕ, ◌+◌, ◌≤◌, Bool, ◌⊎◌, inl, inr, List, [], ◌∷◌, ◌++◌, length, take, drop, refl, sym, ap, ◌∙◌, subst, arith, append-nil, append_assoc, length-append}
use Rattle.std.proofs.lemmas.List.{take-append-drop, length-take-le}
use Rattle.std.proofs.Math.Seq.{take-append_seam}
use Rattle.device_model.specs.declared.calls.Event.{Event}
use Rattle.device_model.specs.declared.calls.Event.TheVariants.{Start, End as Ends, Pause, Loss}
use Rattle.flow_table.specs.declared.position.Position.{Position}
use Rattle.flow_table.specs.declared.position.State.{State}
use Rattle.flow_table.specs.declared.position.State.TheVariants.{Idle, Wait}
use Rattle.flow_table.specs.declared.position.Reboot.{Reboot}
use Rattle.flow_table.specs.declared.table.Heard.{Heard}
use Rattle.flow_table.specs.declared.table.Heard.TheVariants.{Fine}
use Rattle.flow_table.specs.declared.table.Step.TheVariants.{Enter, Stop}
use Rattle.flow_table.specs.Table.{IsRunning, next_of}
use Rattle.flow_words.specs.Course.{Course, done, say, hear, Whole, Part}
use Rattle.flow_words.specs.Rows.{row_by}
use Rattle.flow_words.specs.Words.{Callees, word, word_at}
use Rattle.flow_words.specs.Pieces.{End, Ended, Waits, RebootNeeded, Halted, Pieces, goes_on, reboots, ends, waits, halts}
use Rattle.flow_words.proofs.Courses.{Whole-one}
use Rattle.flow_words.proofs.PieceLaws.{step-one, never-both}
use Rattle.trace_check.proofs.Meaning.{NoWhole}

-- ---- lists

same-rest : (a b c : List Event) → a ++ b ≡ a ++ c → b ≡ c
same-rest [] b c is = is
same-rest (e ∷ a) b c is = same-rest a b c (cc)

rest-one : (w x v y : List Event) → w ≡ x → w ++ v ≡ x ++ y → v ≡ y
rest-one w x v y same is = same-rest x v y (ap (λ (l : List Event). l ++ v) (sym same) ∙ is)

seam : (xs ys all : List Event) (i : ℕ) → all ≡ xs ++ ys → length xs ≡ i → take i all ≡ xs
seam xs ys all i is count = ap (λ (n : ℕ). take n all) (sym count) ∙ ap (λ (l : List Event). take (length xs) l) is ∙ take-append_seam xs ys

-- the events up to one behind
pub split-take : (all : List Event) (at i : ℕ) (piece rest : List Event) → at ≤ length all → drop at all ≡ piece ++ rest → i ≡ at + length piece → take i all ≡ take at all ++ piece
split-take all at i piece rest within is count =
    seam (take at all ++ piece) rest all i (sym (take-append-drop at all) ∙ ap (λ (l : List Event). take at all ++ l) is ∙ sym (append_assoc (take at all) piece rest))
    (length-append (take at all) piece ∙ ap (λ (n : ℕ). n + length piece) (length-take-le at all within) ∙ sym count)

pub split-length : (all : List Event) (at : ℕ) (piece rest : List Event) → at ≤ length all → drop at all ≡ piece ++ rest → length all ≡ at + length piece + length rest
split-length all at piece rest within is =
    let whole : length all ≡ length (take at all) + length (drop at all) = ap length (sym (take-append-drop at all)) ∙ length-append (take at all) (drop at all) in
    let front : length (take at all) ≡ at = length-take-le at all within in
    let back : length (drop at all) ≡ length piece + length rest = ap length is ∙ length-append piece rest in
    omega (arith, whole, front, back)

-- ---- one state

-- nothing follows a whole word
whole-stops : (t : Course Heard) (w x : List Event) (h : Heard) → Whole t w h → Part t (w ++ x) → x ≡ []
whole-stops (done r) [] [] h f p = refl
whole-stops (done r) [] (e ∷ x) h f p = absurd p
whole-stops (done r) (e ∷ w) x h f p = absurd f
whole-stops (say d t) [] x h f p = absurd f
whole-stops (say d t) (e ∷ w) x h f p = whole-stops t w x h f.1 p.1
whole-stops (hear f) [] x h g p = absurd g
whole-stops (hear f) (Ends a ∷ w) x h g p = whole-stops (f a) w x h g p
whole-stops (hear f) (Start c ∷ w) x h g p = absurd g
whole-stops (hear f) (Pause n ∷ w) x h g p = absurd g
whole-stops (hear f) (Loss ∷ w) x h g p = absurd g

module _ {words : Position → Course Heard} {stop : Bool} where
  -- a state that was run and left
  pub left-by : {p q last : Position} {all : List Event} {e : End} (piece v : List Event) (h : Heard) → IsRunning p.state → Whole (words p) piece h → next_of p h stop ≡ Enter q → all ≡ piece ++ v → Pieces words stop p all e last → Pieces words stop q v e last ⊎ ((v ≡ []) × (e ≡ Halted) × (last ≡ p))
  left-by {p} {q} {last} {all} {e} piece v h run whole nxt is (goes_on {q = r} w more k z f n g eq) =
      let one = Whole-one (words p) w more v piece k h f whole (sym eq ∙ is) in
      let same : r ≡ q = step-one stop p r q k h one.1 n nxt in
      let rest : more ≡ v = rest-one w piece more v one.0 (sym eq ∙ is) in
      inl (subst (λ (s : Position). Pieces words stop s v e last) same (subst (λ (l : List Event). Pieces words stop r l e last) rest g))
  left-by {p} {q} {last} {all} piece v h run whole nxt is (reboots k z f n) =
      let one = Whole-one (words p) all [] v piece k h f whole (append-nil all ∙ is) in never-both _ stop p q h k (sym one.1) nxt n
  left-by piece v h run whole nxt is (ends s o) = absurd (subst IsRunning s run)
  left-by piece v h run whole nxt is (waits s) = absurd (subst IsRunning s run)
  left-by {p} piece v h run whole nxt is (halts part) = inr (whole-stops (words p) piece v h whole (subst (λ (l : List Event). Part (words p) l) is part), refl, refl)

  -- a state that was run, and then the device reboots
  pub stopped-by : {p last : Position} {all : List Event} {e : End} (piece v : List Event) (h : Heard) → IsRunning p.state → Whole (words p) piece h → next_of p h stop ≡ Stop → all ≡ piece ++ v → Pieces words stop p all e last → (v ≡ []) × ((e ≡ RebootNeeded) ⊎ (e ≡ Halted)) × (last ≡ p)
  stopped-by {p} piece v h run whole nxt is (goes_on {q = r} w more k z f n g eq) =
      let one = Whole-one (words p) w more v piece k h f whole (sym eq ∙ is) in never-both _ stop p r k h one.1 n nxt
  stopped-by {p} {last} {all} piece v h run whole nxt is (reboots k z f n) =
      let one = Whole-one (words p) all [] v piece k h f whole (append-nil all ∙ is) in
      (sym (rest-one all piece [] v one.0 (append-nil all ∙ is)), inl refl, refl)
  stopped-by piece v h run whole nxt is (ends s o) = absurd (subst IsRunning s run)
  stopped-by piece v h run whole nxt is (waits s) = absurd (subst IsRunning s run)
  stopped-by {p} piece v h run whole nxt is (halts part) = (whole-stops (words p) piece v h whole (subst (λ (l : List Event). Part (words p) l) is part), inr refl, refl)

  -- a state that wasn't run to its end
  pub cut-by : {p last : Position} {all : List Event} {e : End} (whole : List Event) (u : List Event) → IsRunning p.state → NoWhole (words p) whole → whole ≡ all ++ u → Pieces words stop p all e last → (e ≡ Halted) × (last ≡ p) × Part (words p) all
  cut-by {p} {last} {all} whole u run none is (goes_on {q = r} w more k z f n g eq) =
      absurd (none w (more ++ u) k (is ∙ ap (λ (l : List Event). l ++ u) eq ∙ append_assoc w more u) f)
  cut-by {p} {last} {all} whole u run none is (reboots k z f n) = absurd (none all u k is f)
  cut-by whole u run none is (ends s o) = absurd (subst IsRunning s run)
  cut-by whole u run none is (waits s) = absurd (subst IsRunning s run)
  cut-by whole u run none is (halts part) = (refl, refl, part)

-- nothing is called at Idle and at Wait
idle-word : (who : Callees) (s : State) (r : Reboot) → s ≡ Idle → word who (row_by s r) ≡ done Fine
idle-word who s r is = ap (λ (x : State). word who (row_by x r)) is

wait-word : (who : Callees) (s : State) (r : Reboot) → s ≡ Wait → word who (row_by s r) ≡ done Fine
wait-word who s r is = ap (λ (x : State). word who (row_by x r)) is

nothing-done : (t : Course Heard) (w : List Event) → t ≡ done Fine → Part t w → w ≡ []
nothing-done t [] is part = refl
nothing-done t (e ∷ w) is part = absurd (subst (λ (x : Course Heard). Part x (e ∷ w)) is part)

module _ (who : Callees) {stop : Bool} where
  pub idle-by : {p last : Position} {all : List Event} {e : End} → p.state ≡ Idle → Pieces (word_at who) stop p all e last → (all ≡ []) × ((e ≡ Ended p.outcome) ⊎ (e ≡ Halted)) × (last ≡ p)
  idle-by idle (goes_on w more k z f n g eq) = absurd (subst IsRunning idle z)
  idle-by idle (reboots k z f n) = absurd (subst IsRunning idle z)
  idle-by idle (ends s o) = (refl, inl (ap Ended (sym o)), refl)
  idle-by idle (waits s) = let both : Idle ≡ Wait = sym idle ∙ s in absurd cc
  idle-by {p} {last} {all} idle (halts part) = (nothing-done (word_at who p) all (idle-word who p.state p.reboot idle) part, inr refl, refl)

  pub wait-by : {p last : Position} {all : List Event} {e : End} → p.state ≡ Wait → Pieces (word_at who) stop p all e last → (all ≡ []) × ((e ≡ Waits) ⊎ (e ≡ Halted)) × (last ≡ p)
  wait-by wait (goes_on w more k z f n g eq) = absurd (subst IsRunning wait z)
  wait-by wait (reboots k z f n) = absurd (subst IsRunning wait z)
  wait-by wait (ends s o) = let both : Idle ≡ Wait = sym s ∙ wait in absurd cc
  wait-by wait (waits s) = (refl, inl refl, refl)
  wait-by {p} {last} {all} wait (halts part) = (nothing-done (word_at who p) all (wait-word who p.state p.reboot wait) part, inr refl, refl)

-- Nothing follows the events of a deployment that wasn't cut off.
use Rattle.std.proofs.Common.{◌≡◌, Bool, List, [], ◌∷◌, ◌++◌, refl, sym, ap, ◌∙◌, subst, append_assoc, append-nil}
use Rattle.device_model.specs.declared.calls.Event.{Event}
use Rattle.device_model.specs.declared.calls.Event.TheVariants.{Start, End, Pause, Loss}
use Rattle.flow_table.specs.declared.position.State.{State}
use Rattle.flow_table.specs.declared.position.State.TheVariants.{Idle, Wait}
use Rattle.flow_table.specs.declared.position.Position.{Position}
use Rattle.flow_table.specs.declared.table.Heard.{Heard}
use Rattle.flow_table.specs.Table.{IsRunning}
use Rattle.flow_words.specs.Course.{Course, done, say, hear, Part, Whole}
use Rattle.flow_words.specs.Decided.{IsThrough}
use Rattle.flow_words.specs.Pieces.{End as Ending, Pieces, goes_on, reboots, ends, waits, halts}
use Rattle.flow_words.specs.Rows.{row_by}
use Rattle.flow_words.specs.declared.rows.Row.{Row}
use Rattle.flow_words.specs.Words.{Callees, word, word_at}
use Rattle.flow_words.proofs.Courses.{Part-whole, Whole-one}
use Rattle.flow_words.proofs.PieceLaws.{step-one, never-both}

pub whole-stops : (t : Course Heard) (w x : List Event) (h : Heard) → Whole t w h → Part t (w ++ x) → x ≡ []
whole-stops (done r) [] [] h f p = refl
whole-stops (done r) [] (e ∷ x) h f p = absurd p
whole-stops (done r) (e ∷ w) x h f p = absurd f
whole-stops (say d t) [] x h f p = absurd f
whole-stops (say d t) (e ∷ w) x h f p = whole-stops t w x h f.1 p.1
whole-stops (hear f) [] x h g p = absurd g
whole-stops (hear f) (End a ∷ w) x h g p = whole-stops (f a) w x h g p
whole-stops (hear f) (Start c ∷ w) x h g p = absurd g
whole-stops (hear f) (Pause n ∷ w) x h g p = absurd g
whole-stops (hear f) (Loss ∷ w) x h g p = absurd g

last-empty : (u v : List Event) → u ++ v ≡ [] → v ≡ []
last-empty [] v is = is
last-empty (e ∷ u) v is = absurd cc

same-rest : (u v w : List Event) → u ++ v ≡ u ++ w → v ≡ w
same-rest [] v w is = is
same-rest (e ∷ u) v w is = same-rest u v w cc

pub rest-one : (w x v y : List Event) → w ≡ v → w ++ x ≡ v ++ y → x ≡ y
rest-one w x v y same is = same-rest v x y (ap (λ (l : List Event). l ++ x) (sym same) ∙ is)

quiet : (who : Callees) (s : State) (p : Position) (w : List Event) → (row_by s p.reboot ≡ row_by Idle p.reboot) → p.state ≡ s → Part (word_at who p) w → w ≡ []
quiet who s p [] same at part = refl
quiet who s p (e ∷ w) same at part = absurd (subst (λ (r : Row). Part (word who r) (e ∷ w)) (ap (λ (x : State). row_by x p.reboot) at ∙ same) part)

module _ (who : Callees) {stop : Bool} where
  pub pieces-longest : {p q r : Position} {all all' : List Event} {end other : Ending} → Pieces (word_at who) stop p all end q → Pieces (word_at who) stop p all' other r → IsThrough end → (x : List Event) → all' ≡ all ++ x → x ≡ []
  pieces-longest {p} {r} {other} (goes_on {q = a} w v h z f n g eq) (goes_on {q = b} w' y k z' f' n' g' eq') t x is =
      let whole : w ++ (v ++ x) ≡ w' ++ y = sym (append_assoc w v x) ∙ ap (λ (l : List Event). l ++ x) (sym eq) ∙ sym is ∙ eq' in
      let one = Whole-one (word_at who p) w (v ++ x) y w' h k f f' whole in
      let same : a ≡ b = step-one stop p a b h k one.1 n n' in
      pieces-longest g (subst (λ (s : Position). Pieces (word_at who) stop s y other r) (sym same) g') t x (sym (rest-one w (v ++ x) w' y one.0 whole))
  pieces-longest {p} {all'} (goes_on {q = a} w v h z f n g eq) (reboots k z' f' n') t x is =
      let whole : w ++ (v ++ x) ≡ all' ++ [] = sym (append_assoc w v x) ∙ ap (λ (l : List Event). l ++ x) (sym eq) ∙ sym is ∙ sym (append-nil all') in
      let one = Whole-one (word_at who p) w (v ++ x) [] all' h k f f' whole in never-both _ stop p a h k one.1 n n'
  pieces-longest (goes_on w v h z f n g eq) (ends s o) t x is = absurd (subst IsRunning s z)
  pieces-longest (goes_on w v h z f n g eq) (waits s) t x is = absurd (subst IsRunning s z)
  pieces-longest {p} (goes_on w v h z f n g eq) (halts part) t x is =
      last-empty v x (whole-stops (word_at who p) w (v ++ x) h f (subst (λ (l : List Event). Part (word_at who p) l) (is ∙ ap (λ (l : List Event). l ++ x) eq ∙ append_assoc w v x) part))
  pieces-longest {p} {all} (reboots h z f n) (goes_on {q = a} w' y k z' f' n' g' eq') t x is =
      let one = Whole-one (word_at who p) w' y x all k h f' f (sym eq' ∙ is) in never-both _ stop p a k h one.1 n' n
  pieces-longest {p} {all} {all'} (reboots h z f n) (reboots k z' f' n') t x is = whole-stops (word_at who p) all x h f (subst (λ (l : List Event). Part (word_at who p) l) is (Part-whole (word_at who p) all' k f'))
  pieces-longest (reboots h z f n) (ends s o) t x is = absurd (subst IsRunning s z)
  pieces-longest (reboots h z f n) (waits s) t x is = absurd (subst IsRunning s z)
  pieces-longest {p} {all} (reboots h z f n) (halts part) t x is = whole-stops (word_at who p) all x h f (subst (λ (l : List Event). Part (word_at who p) l) is part)
  pieces-longest (ends s o) (goes_on w' y k z' f' n' g' eq') t x is = absurd (subst IsRunning s z')
  pieces-longest (ends s o) (reboots k z' f' n') t x is = absurd (subst IsRunning s z')
  pieces-longest (ends s o) (ends s' o') t x is = sym is
  pieces-longest (ends s o) (waits s') t x is = sym is
  pieces-longest {p} (ends s o) (halts part) t x is = sym is ∙ quiet who Idle p _ refl s part
  pieces-longest (waits s) (goes_on w' y k z' f' n' g' eq') t x is = absurd (subst IsRunning s z')
  pieces-longest (waits s) (reboots k z' f' n') t x is = absurd (subst IsRunning s z')
  pieces-longest (waits s) (ends s' o') t x is = sym is
  pieces-longest (waits s) (waits s') t x is = sym is
  pieces-longest {p} (waits s) (halts part) t x is = sym is ∙ quiet who Wait p _ refl s part
  pieces-longest (halts part) g t x is = absurd t

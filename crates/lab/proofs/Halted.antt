-- The events of a deployment that was cut off behind a start say where it stands.
use Rattle.std.proofs.Common.{◌≡◌, Bool, true, false, List, [], ◌∷◌, ◌++◌, refl, sym, ap, ◌∙◌, subst, append-nil}
use Rattle.device_model.specs.declared.calls.Event.{Event}
use Rattle.flow_table.specs.declared.position.Position.{Position}
use Rattle.flow_words.specs.Course.{Part, Whole}
use Rattle.flow_words.specs.Decided.{IsThrough}
use Rattle.flow_words.specs.Pieces.{End as Ending, Pieces, goes_on, reboots, ends, waits, halts}
use Rattle.flow_words.specs.Rows.{row_of}
use Rattle.flow_words.specs.Words.{Callees, word_at}
use Rattle.flow_words.proofs.Courses.{Whole-one}
use Rattle.flow_words.proofs.PieceLaws.{step-one}
use Rattle.lab.proofs.Busy.{starts_last, whole-ends, word-answered, last-append}
use Rattle.lab.proofs.Longest.{whole-stops, rest-one}

none-last : false ≡ true → ⊥
none-last h = cc

append-quiet : (v w : List Event) → starts_last v ≡ false → starts_last w ≡ false → starts_last (v ++ w) ≡ false
append-quiet [] w h k = k
append-quiet (e ∷ []) [] h k = h
append-quiet (e ∷ []) (f ∷ w) h k = k
append-quiet (e ∷ f ∷ v) w h k = append-quiet (f ∷ v) w h k

-- what wasn't cut off ends with no start
pub through-quiet : (who : Callees) {stop : Bool} {p q : Position} {all : List Event} {end : Ending} → Pieces (word_at who) stop p all end q → IsThrough end → starts_last all ≡ false
through-quiet who {p} (goes_on w v h z f n g eq) t = ap starts_last eq ∙ append-quiet w v (whole-ends (word_at who p) w h (word-answered who (row_of p)) f) (through-quiet who g t)
through-quiet who {p} {all} (reboots h z f n) t = whole-ends (word_at who p) all h (word-answered who (row_of p)) f
through-quiet who (ends s o) t = refl
through-quiet who (waits s) t = refl
through-quiet who (halts part) t = absurd t

-- a whole word is no part that ends with a start
whole-part : (who : Callees) (p : Position) (w v all : List Event) (h : _) → Whole (word_at who p) w h → Part (word_at who p) all → all ≡ w ++ v → starts_last all ≡ true → ⊥
whole-part who p w v all h f part eq last =
    let none : v ≡ [] = whole-stops (word_at who p) w v h f (subst (λ (l : List Event). Part (word_at who p) l) eq part) in
    let same : all ≡ w = eq ∙ ap (λ (l : List Event). w ++ l) none ∙ append-nil w in
    none-last (sym (whole-ends (word_at who p) w h (word-answered who (row_of p)) f) ∙ ap starts_last (sym same) ∙ last)

pub halted-one : (who : Callees) {stop : Bool} {p q r : Position} {all : List Event} {end other : Ending} → Pieces (word_at who) stop p all end q → Pieces (word_at who) stop p all other r → starts_last all ≡ true → q ≡ r
halted-one who {stop} {p} {r} {all} {end} {other} (goes_on {q = a} w v h z f n g eq) (goes_on {q = b} w' y k z' f' n' g' eq') last =
    let one = Whole-one (word_at who p) w v y w' h k f f' (sym eq ∙ eq') in
    let same : a ≡ b = step-one stop p a b h k one.1 n n' in
    let rest : v ≡ y = rest-one w v w' y one.0 (sym eq ∙ eq') in
    halted-one who g (subst (λ (s : Position). Pieces (word_at who) stop s v other r) (sym same) (subst (λ (l : List Event). Pieces (word_at who) stop b l other r) (sym rest) g'))
    (last-append w v (ap starts_last (sym eq) ∙ last) (whole-ends (word_at who p) w h (word-answered who (row_of p)) f))
halted-one who {p} {all} (goes_on w v h z f n g eq) (halts part) last = absurd (whole-part who p w v all h f part eq last)
halted-one who {p} {all} (halts part) (goes_on w v h z f n g eq) last = absurd (whole-part who p w v all h f part eq last)
halted-one who (halts part) (halts part') last = refl
halted-one who g (reboots k z' f' n') last = absurd (none-last (sym (through-quiet who (reboots k z' f' n') tt) ∙ last))
halted-one who (reboots k z' f' n') g last = absurd (none-last (sym (through-quiet who (reboots k z' f' n') tt) ∙ last))
halted-one who (ends s o) g last = absurd (none-last last)
halted-one who (waits s) g last = absurd (none-last last)
halted-one who g (ends s o) last = absurd (none-last last)
halted-one who g (waits s) last = absurd (none-last last)

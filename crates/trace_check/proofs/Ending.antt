-- Notes that are read one at a time.
use Rattle.std.proofs.Common.{◌≡◌, ℕ, ◌+◌, ◌≤◌, Bool, true, false, List, [], ◌∷◌, ◌++◌, length, refl, sym, ap, ◌∙◌, subst, arith, append-nil, cond}
use Rattle.std.specs.Prelude.{Option, Some, None, codes, All}
use Rattle.std.specs.Option.{option_and_then, option_map}
use Rattle.std.specs.List.{AllByRecursion}
use Rattle.device_model.specs.Events.{Recorded}
use Rattle.flow_table.specs.declared.table.TheConstants.{MOST_KINDS}
use Rattle.trace_check.specs.declared.note.Note.{Note}
use Rattle.trace_check.specs.declared.note.NoteEnd.{NoteEnd}
use Rattle.trace_check.specs.declared.note.NoteHead.{NoteHead}
use Rattle.trace_check.specs.declared.stage.Stage.{Stage}
use Rattle.trace_check.specs.declared.stage.Stage.TheVariants.{Between, Booted, Open}
use Rattle.trace_check.specs.Form.{lists_fit}
use Rattle.trace_check.specs.Lines.{tag, lacks, behind, deed_in, from_in, end_in}
use Rattle.trace_check.specs.Reads.{IsRight, IsBadLine}
use Rattle.trace_check.specs.Stages.{Reading, more_step, end_step, step}
use Rattle.trace_check.proofs.Sounds.{map-is, then-is}
use Rattle.trace_check.proofs.Whole.{SoFar, goes-on, lines-are, few-kinds, reads-wrong}

-- ---- a line ends a note whatever was read before

abbrev later : List Note → Reading → Reading
later notes r = (r.0, notes ++ r.1)

goes-later : {A : Type 0} (f : A → Stage) (notes : List Note) (o : Option A) → option_map (λ a. (f a, notes)) o ≡ option_map (later notes) (option_map (λ a. (f a, [])) o)
goes-later f notes None = refl
goes-later f notes (Some a) = ap (λ (l : List Note). Some (f a, l)) (sym (append-nil notes))

module _ (head : NoteHead) (events : Recorded) where
  abbrev ended : NoteEnd → Note
  ended e = record { head = head; events = events; end = e }

  fits-later : (notes : List Note) (e : NoteEnd) (t : Bool) → ◌≡◌ {A = Option Reading} (cond t (Some (Between, notes ++ ended e ∷ [])) None) (option_map (later notes) (cond t (Some (Between, ended e ∷ [])) None))
  fits-later notes e true = refl
  fits-later notes e false = refl

  ends-later : (notes : List Note) (text : List ℕ) → end_step head events notes text ≡ option_map (later notes) (end_step head events [] text)
  unfolding end_step
  ends-later notes text = by (end_in text) where
    by : (o : Option NoteEnd) → option_and_then (λ e. cond (lists_fit head e) (Some (Between, notes ++ ended e ∷ [])) None) o ≡ option_map (later notes) (option_and_then (λ e. cond (lists_fit head e) (Some (Between, ended e ∷ [])) None) o)
    by None = refl
    by (Some e) = fits-later notes e (lists_fit head e)

  fits-few : (e : NoteEnd) (new : Reading) (t : Bool) → ◌≡◌ {A = Option Reading} (cond t (Some (Between, ended e ∷ [])) None) (Some new) → length new.1 ≤ 1
  fits-few e new true is = let same : new ≡ (Between, ended e ∷ []) = cc in subst (λ (r : Reading). length r.1 ≤ 1) (sym same) (omega arith)
  fits-few e new false is = absurd cc

  ends-few : (text : List ℕ) (new : Reading) → end_step head events [] text ≡ Some new → length new.1 ≤ 1
  unfolding end_step
  ends-few text new is = let w = then-is _ (end_in text) new is in fits-few w.0 new (lists_fit head w.0) w.2

step-later : (s : Stage) (notes : List Note) (text : List ℕ) → step s notes text ≡ option_map (later notes) (step s [] text)
unfolding step
step-later Between notes text = goes-later Booted notes (deed_in text)
step-later (Booted d) notes text = goes-later (λ p. Open (record { deed = d; from = p; kinds = []; scripts = []; site = [] }) (record { events = []; room = 0 })) notes (from_in text)
step-later (Open head events) notes text = by (tag (codes "end ") text) where
  by : (o : Option (List ℕ)) → behind o (end_step head events notes) (option_map (λ s. (s, notes)) (more_step head events text)) ≡ option_map (later notes) (behind o (end_step head events []) (option_map (λ s. (s, [])) (more_step head events text)))
  by None = goes-later (λ s. s) notes (more_step head events text)
  by (Some words) = ends-later head events notes words

step-more : (s : Stage) (notes : List Note) (text : List ℕ) (new : Reading) → step s [] text ≡ Some new → step s notes text ≡ Some (new.0, notes ++ new.1)
step-more s notes text new is = step-later s notes text ∙ ap (option_map (later notes)) is

step-none : (s : Stage) (notes : List Note) (text : List ℕ) → step s [] text ≡ None → step s notes text ≡ None
step-none s notes text is = step-later s notes text ∙ ap (option_map (later notes)) is

none-few : {A : Type 0} (f : A → Stage) (o : Option A) (new : Reading) → option_map (λ a. (f a, [])) o ≡ Some new → length new.1 ≤ 1
none-few f o new is = let w = map-is {B = Reading} (λ a. (f a, [])) o new is in subst (λ (r : Reading). length r.1 ≤ 1) w.2 (omega arith)

-- no more than one
step-few : (s : Stage) (text : List ℕ) (new : Reading) → step s [] text ≡ Some new → length new.1 ≤ 1
unfolding step
step-few Between text new is = none-few Booted (deed_in text) new is
step-few (Booted d) text new is = none-few (λ p. Open (record { deed = d; from = p; kinds = []; scripts = []; site = [] }) (record { events = []; room = 0 })) (from_in text) new is
step-few (Open head events) text new is = by (tag (codes "end ") text) is where
  by : (o : Option (List ℕ)) → behind o (end_step head events []) (option_map (λ s. (s, [])) (more_step head events text)) ≡ Some new → length new.1 ≤ 1
  by None is = none-few (λ s. s) (more_step head events text) new is
  by (Some words) is = ends-few head events words new is

all-last : {A : Type 0} (P : A → Type 0) (xs ys : List A) → AllByRecursion P (xs ++ ys) → AllByRecursion P ys
all-last P [] ys all = all
all-last P (x ∷ xs) ys all = all-last P xs ys all.1

-- ---- what a line leads to where the notes that ended are taken out

module _ (stage : Stage) (ended : List Note) (none : ended ≡ []) (line : List ℕ) where
  alone : (o : Option Reading) → step stage ended line ≡ o → step stage [] line ≡ o
  alone o is = ap (λ (l : List Note). step stage l line) (sym none) ∙ is

  pub few-ended : (new : Stage) (e : List Note) → step stage ended line ≡ Some (new, e) → length e ≤ 1
  few-ended new e is = step-few stage line (new, e) (alone (Some (new, e)) is)

  module _ (text rest behind : List ℕ) (notes : List Note) (k : ℕ) (so : SoFar text (stage, notes) rest k) (cut : rest ≡ line ++ 10 ∷ behind) (lack : lacks 10 line ≡ true) where
    pub further : (new : Stage) (e : List Note) → step stage ended line ≡ Some (new, e) → SoFar text (new, notes ++ e) behind (k + 1)
    further new e is = goes-on text (stage, notes) rest line behind k (new, notes ++ e) so cut lack (step-more stage notes line (new, e) (alone (Some (new, e)) is))

    pub kinds-ended : (new : Stage) (e : List Note) → step stage ended line ≡ Some (new, e) → All (λ (n : Note). length n.head.kinds ≤ MOST_KINDS) e
    kinds-ended new e is = few-kinds e (all-last IsRight notes e (lines-are text (new, notes ++ e) behind (k + 1) (further new e is)).notes)

    pub no-further : step stage ended line ≡ None → IsBadLine text k
    no-further is = reads-wrong text (stage, notes) rest line behind k so cut lack (step-none stage notes line (alone None is))

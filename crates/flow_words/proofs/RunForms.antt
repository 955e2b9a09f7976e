-- A run of scripts, as a course and as a list of events.
use Rattle.std.proofs.Common.{◌≡◌, ℕ, Bool, true, false, List, [], ◌∷◌, ◌++◌, cond, refl, sym, ap, ◌∙◌, subst, append-nil}
use Rattle.device_model.specs.declared.calls.Call.TheVariants.{Script}
use Rattle.device_model.specs.declared.calls.Event.{Event}
use Rattle.flow_words.specs.declared.mode.Mode.TheVariants.{Checked, Ignored, Once}
use Rattle.flow_words.specs.Course.{done, Whole}
use Rattle.flow_words.specs.Scripts.{block, step, run}
use Rattle.flow_words.specs.Blocks.{IsBlock}
use Rattle.flow_words.specs.RunLists.{IsCheckedRun, none_left, is_good, is_bad, IsIgnoredRun, no_block, a_block, IsRunOnce, no_try, a_try}
use Rattle.flow_words.proofs.Courses.{Whole-and_then}
use Rattle.flow_words.proofs.BlockForm.{IsBlock-from_whole, Whole-from_block}
use Rattle.flow_words.proofs.Splits.{Whole-split, done-split, call-split}

-- ---- checked

module _ (name : List ℕ) (names : List (List ℕ)) where
  checked-by : (w v : List Event) (middle good : Bool) → IsBlock name w middle → Whole (cond middle (run names Checked) (done false)) v good → (Whole (run names Checked) v good → IsCheckedRun names v good) → IsCheckedRun (name ∷ names) (w ++ v) good
  checked-by w v true good b h more = is_good w v b (more h) refl
  checked-by w v false good b h more =
      let d = done-split false good v h in
      subst (λ (g : Bool). IsCheckedRun (name ∷ names) (w ++ v) g) d.1
      (subst (λ (l : List Event). IsCheckedRun (name ∷ names) l false) (sym (ap (λ (l : List Event). w ++ l) d.0 ∙ append-nil w)) (is_bad b))

pub checked-list : (names : List (List ℕ)) (w : List Event) (good : Bool) → Whole (run names Checked) w good → IsCheckedRun names w good
checked-list [] [] good h = subst (λ (g : Bool). IsCheckedRun [] [] g) h none_left
checked-list [] (e ∷ w) good h = absurd h
checked-list (name ∷ names) w good h =
    let s = Whole-split (block name 30) (λ b. cond b (run names Checked) (done false)) w good h in
    subst (λ (l : List Event). IsCheckedRun (name ∷ names) l good) (sym s.is)
    (checked-by name names s.front s.back s.middle good (IsBlock-from_whole name s.front s.middle s.first) s.second (checked-list names s.back good))

pub list-checked : (names : List (List ℕ)) (w : List Event) (good : Bool) → IsCheckedRun names w good → Whole (run names Checked) w good
list-checked [] w good none_left = refl
list-checked (name ∷ names) all good (is_good w v b r is) =
    subst (λ (l : List Event). Whole (run (name ∷ names) Checked) l good) (sym is)
    (Whole-and_then (block name 30) (λ b. cond b (run names Checked) (done false)) w v true good (Whole-from_block name w true b) (list-checked names v good r))
list-checked (name ∷ names) w good (is_bad b) =
    subst (λ (l : List Event). Whole (run (name ∷ names) Checked) l false) (append-nil w)
    (Whole-and_then (block name 30) (λ b. cond b (run names Checked) (done false)) w [] false false (Whole-from_block name w false b) refl)

-- ---- ignored

pub ignored-list : (names : List (List ℕ)) (w : List Event) (good : Bool) → Whole (run names Ignored) w good → (good ≡ true) × IsIgnoredRun names w
ignored-list [] [] good h = (sym h, no_block)
ignored-list [] (e ∷ w) good h = absurd h
ignored-list (name ∷ names) w good h =
    let s = Whole-split (step name Ignored) (λ b. cond b (run names Ignored) (done false)) w good h in
    let t = Whole-split (block name 30) (λ _. done true) s.front s.middle s.first in
    let d = done-split true s.middle t.back t.second in
    let front : s.front ≡ t.front = t.is ∙ ap (λ (l : List Event). t.front ++ l) d.0 ∙ append-nil t.front in
    let more = ignored-list names s.back good (subst (λ (b : Bool). Whole (cond b (run names Ignored) (done false)) s.back good) (sym d.1) s.second) in
    (more.0, a_block t.front s.back t.middle (IsBlock-from_whole name t.front t.middle t.first) more.1 (s.is ∙ ap (λ (l : List Event). l ++ s.back) front))

pub list-ignored : (names : List (List ℕ)) (w : List Event) → IsIgnoredRun names w → Whole (run names Ignored) w true
list-ignored [] w no_block = refl
list-ignored (name ∷ names) all (a_block w v good b r is) =
    let one : Whole (step name Ignored) w true = subst (λ (l : List Event). Whole (step name Ignored) l true) (append-nil w) (Whole-and_then (block name 30) (λ _. done true) w [] good true (Whole-from_block name w good b) refl) in
    subst (λ (l : List Event). Whole (run (name ∷ names) Ignored) l true) (sym is)
    (Whole-and_then (step name Ignored) (λ b. cond b (run names Ignored) (done false)) w v true true one (list-ignored names v r))

-- ---- once

pub once-list : (names : List (List ℕ)) (w : List Event) (good : Bool) → Whole (run names Once) w good → (good ≡ true) × IsRunOnce names w
once-list [] [] good h = (sym h, no_try)
once-list [] (e ∷ w) good h = absurd h
once-list (name ∷ names) w good h =
    let s = Whole-split (step name Once) (λ b. cond b (run names Once) (done false)) w good h in
    let c = call-split (λ _. true) (Script name) s.front s.middle s.first in
    let more = once-list names s.back good (subst (λ (b : Bool). Whole (cond b (run names Once) (done false)) s.back good) (sym c.gives) s.second) in
    (more.0, a_try c.answer s.back more.1 (s.is ∙ ap (λ (l : List Event). l ++ s.back) c.events))

pub list-once : (names : List (List ℕ)) (w : List Event) → IsRunOnce names w → Whole (run names Once) w true
list-once [] w no_try = refl
list-once (name ∷ names) all (a_try a v r is) =
    subst (λ (l : List Event). Whole (run (name ∷ names) Once) l true) (sym is) (refl, list-once names v r)

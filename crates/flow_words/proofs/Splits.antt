-- Taking a whole word apart.
use Rattle.std.proofs.Common.{◌≡◌, ◌∷◌, ◌++◌, Bool, true, false, List, [], cond, refl, sym, ap, ◌∙◌, subst, append-nil}
use Rattle.device_model.specs.declared.calls.Answer.{Answer}
use Rattle.device_model.specs.declared.calls.Call.{Call}
use Rattle.device_model.specs.declared.calls.Event.{Event}
use Rattle.device_model.specs.declared.calls.Event.TheVariants.{Start, End, Pause, Loss}
use Rattle.script_names.specs.declared.place.Action.TheVariants.{Enter, Leave}
use Rattle.flow_table.specs.declared.table.Heard.{Heard}
use Rattle.flow_table.specs.declared.table.Heard.TheVariants.{Failed}
use Rattle.flow_words.specs.declared.rows.Row.{Row}
use Rattle.flow_words.specs.Course.{Course, call, done, say, hear, and_then, Whole}
use Rattle.flow_words.specs.Words.{Callees, if_good, scripts, main_call, question, calls, errors, word, is_failed}
use Rattle.flow_words.proofs.StateCalls.{after_question, after_main, after_enter, after_calls}

-- a word of two courses is a word of the one and a word of the other
pub record Split {A B : Type 0} (t : Course A) (rest : A → Course B) (w : List Event) (result : B) : Type 0 where
  pub front : List Event
  pub back : List Event
  pub middle : A
  pub is : w ≡ front ++ back
  pub first : Whole t front middle
  pub second : Whole (rest middle) back result

pub Whole-split : {A B : Type 0} (t : Course A) (rest : A → Course B) (w : List Event) (b : B) → Whole (and_then t rest) w b → Split t rest w b
Whole-split (done r) rest w b h = record { front = []; back = w; middle = r; is = refl; first = refl; second = h }
Whole-split (say d t) rest [] b h = absurd h
Whole-split (say d t) rest (e ∷ w) b h =
    let s = Whole-split t rest w b h.1 in
    record { front = e ∷ s.front; back = s.back; middle = s.middle; is = ap (λ (l : List Event). e ∷ l) s.is; first = (h.0, s.first); second = s.second }
Whole-split (hear f) rest [] b h = absurd h
Whole-split (hear f) rest (End a ∷ w) b h =
    let s = Whole-split (f a) rest w b h in
    record { front = End a ∷ s.front; back = s.back; middle = s.middle; is = ap (λ (l : List Event). End a ∷ l) s.is; first = s.first; second = s.second }
Whole-split (hear f) rest (Start c ∷ w) b h = absurd h
Whole-split (hear f) rest (Pause n ∷ w) b h = absurd h
Whole-split (hear f) rest (Loss ∷ w) b h = absurd h

-- a course that is done has no event
pub done-split : {A : Type 0} (r s : A) (w : List Event) → Whole (done r) w s → (w ≡ []) × (r ≡ s)
done-split r s [] h = (refl, h)
done-split r s (e ∷ w) h = absurd h

-- one call has its start and its end
pub record Called {A : Type 0} (f : Answer → A) (c : Call) (w : List Event) (r : A) : Type 0 where
  pub answer : Answer
  pub events : w ≡ Start c ∷ End answer ∷ []
  pub gives : f answer ≡ r

pub call-split : {A : Type 0} (f : Answer → A) (c : Call) (w : List Event) (r : A) → Whole (call c (λ a. done (f a))) w r → Called f c w r
call-split f c [] r h = absurd h
call-split f c (e ∷ []) r h = absurd h.1
call-split f c (e ∷ End a ∷ []) r h = record { answer = a; events = ap (λ (x : Event). x ∷ End a ∷ []) (sym h.0); gives = h.1 }
call-split f c (e ∷ End a ∷ x ∷ w) r h = absurd h.1
call-split f c (e ∷ Start d ∷ w) r h = absurd h.1
call-split f c (e ∷ Pause n ∷ w) r h = absurd h.1
call-split f c (e ∷ Loss ∷ w) r h = absurd h.1

never-failed : (h : Heard) → is_failed h ≡ false → Failed ≡ h → ⊥
never-failed h e is = let x : is_failed Failed ≡ false = subst (λ (y : Heard). is_failed y ≡ false) (sym is) e in absurd cc

-- ---- a state that went well

-- a step that may fail didn't, where what it is a part of isn't Failed
pub record Good (t : Course Bool) (next : Course Heard) (w : List Event) (h : Heard) : Type 0 where
  pub front : List Event
  pub back : List Event
  pub is : w ≡ front ++ back
  pub first : Whole t front true
  pub second : Whole next back h

good-by : (next : Course Heard) (good : Bool) (w : List Event) (h : Heard) → is_failed h ≡ false → Whole (cond good next (done Failed)) w h → (good ≡ true) × Whole next w h
good-by next true w h e x = (refl, x)
good-by next false w h e x = absurd (never-failed h e (done-split Failed h w x).1)

pub good-split : (t : Course Bool) (next : Course Heard) (w : List Event) (h : Heard) → is_failed h ≡ false → Whole (if_good t next) w h → Good t next w h
good-split t next w h e x =
    let s = Whole-split t (λ good. cond good next (done Failed)) w h x in
    let g = good-by next s.middle s.back h e s.second in
    record { front = s.front; back = s.back; is = s.is; first = subst (λ (b : Bool). Whole t s.front b) g.0 s.first; second = g.1 }

-- the steps of a state that went well
pub record Went (who : Callees) (row : Row) (w : List Event) (h : Heard) : Type 0 where
  pub enter : List Event
  pub main : List Event
  pub query : List Event
  pub leave : List Event
  pub is : w ≡ enter ++ (main ++ (query ++ leave))
  pub entered : Whole (scripts who Enter row.enter) enter true
  pub called : Whole (main_call who.kinds row.main) main true
  pub asked : Whole (question who.kinds row.query) query h
  pub left : Whole (scripts who Leave row.leave) leave true

calls-by : (who : Callees) (row : Row) (q h : Heard) (b : Bool) (w : List Event) → is_failed q ≡ b → is_failed h ≡ false → Whole (cond b (done Failed) (if_good (scripts who Leave row.leave) (done q))) w h → (q ≡ h) × Whole (scripts who Leave row.leave) w true
calls-by who row q h true w b e x = absurd (never-failed h e (done-split Failed h w x).1)
calls-by who row q h false w b e x =
    let g = good-split (scripts who Leave row.leave) (done q) w h e x in
    let d = done-split q h g.back g.second in
    (d.1, subst (λ (l : List Event). Whole (scripts who Leave row.leave) l true) (sym (g.is ∙ ap (λ (l : List Event). g.front ++ l) d.0 ∙ append-nil g.front)) g.first)

calls-split : (who : Callees) (row : Row) (w : List Event) (h : Heard) → is_failed h ≡ false → Whole (calls who row) w h → Went who row w h
calls-split who row w h e x =
    let g = good-split (scripts who Enter row.enter) (after_enter who row) w h e x in
    let m = good-split (main_call who.kinds row.main) (after_main who row) g.back h e g.second in
    let s = Whole-split (question who.kinds row.query) (after_question who row) m.back h m.second in
    let l = calls-by who row s.middle h (is_failed s.middle) s.back refl e s.second in
    record {
      enter = g.front;
      main = m.front;
      query = s.front;
      leave = s.back;
      is = g.is ∙ ap (λ (z : List Event). g.front ++ z) (m.is ∙ ap (λ (z : List Event). m.front ++ z) s.is);
      entered = g.first;
      called = m.first;
      asked = subst (λ (z : Heard). Whole (question who.kinds row.query) s.front z) l.0 s.first;
      left = l.1;
    }

word-by : (who : Callees) (row : Row) (q h : Heard) (b : Bool) (w : List Event) → is_failed q ≡ b → is_failed h ≡ false → Whole (cond b (and_then (errors who row.error) (λ _. done Failed)) (done q)) w h → (w ≡ []) × (q ≡ h)
word-by who row q h true w b e x =
    let s = Whole-split (errors who row.error) (λ _. done Failed) w h x in
    absurd (never-failed h e (done-split Failed h s.back s.second).1)
word-by who row q h false w b e x = done-split q h w x

pub word-split : (who : Callees) (row : Row) (w : List Event) (h : Heard) → is_failed h ≡ false → Whole (word who row) w h → Went who row w h
word-split who row w h e x =
    let s = Whole-split (calls who row) (after_calls who row) w h x in
    let l = word-by who row s.middle h (is_failed s.middle) s.back refl e s.second in
    let front : s.front ≡ w = sym (s.is ∙ ap (λ (z : List Event). s.front ++ z) l.0 ∙ append-nil s.front) in
    calls-split who row w h e (subst (λ (z : List Event). Whole (calls who row) z h) front (subst (λ (z : Heard). Whole (calls who row) s.front z) l.1 s.first))

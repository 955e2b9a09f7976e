-- Script names as texts.
use Rattle.std.proofs.Common.{◌≡◌, ◌≢◌, ◌↔◌, ℕ, ◌+◌, ◌∙◌, Bool, true, false, cond, eqb, List, [], ◌∷◌, ◌++◌, length, take, drop, get_or, Option, Some, None, refl, sym, ap, inl, inr, nat_eq, ◌&&◌, append_assoc, length-append}
use Rattle.std.proofs.lemmas.Bool.{true≢false}
use Rattle.std.specs.List.{All, AllByRecursion, list_any, starts_with}
use Rattle.std.specs.Option.{option_and_then}
use Rattle.std.proofs.lemmas.List.{take-append-drop}
use Rattle.std.proofs.lemmas.List.Folds.{list_any_none, list_any_at}
use Rattle.std.proofs.lemmas.Slice.Eq.{bytes_eq-Decides}
use Rattle.std.proofs.lemmas.Bool.{eqb-true, eq-eqb, ne_eqb}
use Rattle.upd_text.specs.Text.{is_digit}
use Rattle.script_names.specs.Scripts.{stages, actions, named, is_end, place_if, place_of}
use Rattle.script_names.specs.Form.{stage_name, action_name, IsTail, Says}
use Rattle.script_names.specs.declared.place.Stage.{Stage}
use Rattle.script_names.specs.declared.place.Stage.TheVariants.{Download, Install, Reboot, Commit, Rollback, RollbackReboot, Failure}
use Rattle.script_names.specs.declared.place.Action.{Action}
use Rattle.script_names.specs.declared.place.Action.TheVariants.{Enter, Leave, Error}
use Rattle.script_names.specs.declared.place.Place.{Place}

-- ---- from the text to the place

named_stage : (s : Stage) (text : List ℕ) → named stages (stage_name s ++ 95 ∷ text) ≡ Some (s, text)
named_stage Download text = refl
named_stage Install text = refl
named_stage Reboot text = refl
named_stage Commit text = refl
named_stage Rollback text = refl
named_stage RollbackReboot text = refl
named_stage Failure text = refl

named_action : (a : Action) (text : List ℕ) → named actions (action_name a ++ 95 ∷ text) ≡ Some (a, text)
named_action Enter text = refl
named_action Leave text = refl
named_action Error text = refl

ends : (x y : ℕ) (tail : List ℕ) → is_digit x ≡ true → is_digit y ≡ true → IsTail tail → is_end (x ∷ y ∷ tail) ≡ true
ends x y tail dx dy (inl e) = rw (e, dx, dy) refl
ends x y tail dx dy (inr (byte, more, e)) = rw (e, dx, dy) refl

no_slash : (name : List ℕ) → All (λ b. b ≢ 47) name → list_any (λ b. eqb b 47) name ≡ false
no_slash name h = list_any_none (λ b. eqb b 47) name (λ k d lt. ne_eqb (get_or name k d) 47 (h k d lt))

place_said : (name : List ℕ) (place : Place) → Says name place → place_of name ≡ Some place
unfolding place_of
place_said name place s =
    let f : Option (Stage × List ℕ) → Option Place = λ o. option_and_then (λ t. option_and_then (λ a. place_if (is_end a.1) t.0 a.0) (named actions t.1)) o in
    let g : Option (Action × List ℕ) → Option Place = λ o. option_and_then (λ a. place_if (is_end a.1) place.stage a.0) o in
    let end = s.tens ∷ s.ones ∷ s.tail in
    let rest = action_name place.action ++ 95 ∷ end in
    let here : place_of name ≡ f (named stages name) = rw (no_slash name s.plain) refl in
    here ∙ ap f (ap (named stages) s.form ∙ named_stage place.stage rest) ∙ ap g (named_action place.action end) ∙ ap (λ b. place_if b place.stage place.action) (ends s.tens s.ones s.tail s.first_digit s.second_digit s.is_tail)

-- ---- from the place to the text

begins : (text word : List ℕ) → starts_with nat_eq text word ≡ true → text ≡ word ++ drop (length word) text
begins text word h =
    let front : word ≡ take (length word) text = (bytes_eq-Decides word (take (length word) text)).0 h in
    sym (take-append-drop (length word) text) ∙ ap (λ w. w ++ drop (length word) text) (sym front)

named_text_at : {A : Type 0} (text_of : A → List ℕ) (w : List ℕ × A) (b : Bool) (other : Option (A × List ℕ)) (text : List ℕ) (r : A × List ℕ) → (b ≡ true → text ≡ (w.0 ++ 95 ∷ []) ++ drop (length (w.0 ++ 95 ∷ [])) text) → w.0 ≡ text_of w.1
    → (other ≡ Some r → text ≡ text_of r.0 ++ 95 ∷ r.1) → cond b (Some (w.1, drop (length w.0 + 1) text)) other ≡ Some r → text ≡ text_of r.0 ++ 95 ∷ r.1
named_text_at {A} text_of w true other text r front is more h =
    let rest = drop (length w.0 + 1) text in
    let here : w.1 ≡ r.0 = cc in
    let behind : rest ≡ r.1 = cc in
    let long : length (w.0 ++ 95 ∷ []) ≡ length w.0 + 1 = length-append w.0 (95 ∷ []) in
    front refl ∙ append_assoc w.0 (95 ∷ []) (drop (length (w.0 ++ 95 ∷ [])) text) ∙ ap (λ k. w.0 ++ 95 ∷ drop k text) long ∙ ap (λ y. w.0 ++ 95 ∷ y) behind ∙ ap (λ y. y ++ 95 ∷ r.1) (is ∙ ap text_of here)
named_text_at text_of w false other text r front is more h = more h

named_text : {A : Type 0} (text_of : A → List ℕ) (ws : List (List ℕ × A)) (text : List ℕ) (r : A × List ℕ) → AllByRecursion (λ w. w.0 ≡ text_of w.1) ws → named ws text ≡ Some r → text ≡ text_of r.0 ++ 95 ∷ r.1
named_text text_of [] text r all h = absurd cc
named_text text_of (w ∷ ws) text r all h = named_text_at text_of w (starts_with nat_eq text (w.0 ++ 95 ∷ [])) (named ws text) text r (begins text (w.0 ++ 95 ∷ [])) all.0 (named_text text_of ws text r all.1) h

unless_some : {A : Type 0} (b : Bool) (o : Option A) (x : A) → cond b None o ≡ Some x → (b ≡ false) × (o ≡ Some x)
unless_some true o x h = absurd cc
unless_some false o x h = (refl, h)

then_some : {A B : Type 0} (f : A → Option B) (o : Option A) (y : B) → option_and_then f o ≡ Some y → (x : A) × (o ≡ Some x) × (f x ≡ Some y)
then_some f None y h = absurd cc
then_some f (Some x) y h = (x, refl, h)

place_some : (b : Bool) (s : Stage) (a : Action) (p : Place) → place_if b s a ≡ Some p → (b ≡ true) × (s ≡ p.stage) × (a ≡ p.action)
place_some true s a p h = let e : record { stage = s; action = a } ≡ p = cc in (refl, ap (λ (q : Place). q.stage) e, ap (λ (q : Place). q.action) e)
place_some false s a p h = absurd cc

pub both_true : (a b : Bool) → a && b ≡ true → (a ≡ true) × (b ≡ true)
both_true true b h = (refl, h)
both_true false b h = absurd cc

record End (text : List ℕ) : Type 0 where
  tens : ℕ
  ones : ℕ
  tail : List ℕ
  first_digit : is_digit tens ≡ true
  second_digit : is_digit ones ≡ true
  is_tail : IsTail tail
  form : text ≡ tens ∷ ones ∷ tail

end_of : (text : List ℕ) → is_end text ≡ true → End text
end_of [] h = absurd cc
end_of (a ∷ []) h = absurd cc
end_of (a ∷ b ∷ []) h = let t = both_true (is_digit a) (is_digit b) h in record { tens = a; ones = b; tail = []; first_digit = t.0; second_digit = t.1; is_tail = inl refl; form = refl }
end_of (a ∷ b ∷ c ∷ []) h = absurd cc
end_of (a ∷ b ∷ c ∷ d ∷ ds) h =
    let t = both_true (is_digit a) (is_digit b && eqb c 95) h in
    let u = both_true (is_digit b) (eqb c 95) t.1 in
    record { tens = a; ones = b; tail = c ∷ d ∷ ds; first_digit = t.0; second_digit = u.0; is_tail = inr (d, ds, ap (λ k. k ∷ d ∷ ds) (eqb-true c 95 u.1)); form = refl }

said_place : (name : List ℕ) (place : Place) → place_of name ≡ Some place → Says name place
unfolding place_of
said_place name place h =
    let t = unless_some (list_any (λ b. eqb b 47) name) _ place h in
    let s = then_some (λ (t : Stage × List ℕ). option_and_then (λ (a : Action × List ℕ). place_if (is_end a.1) t.0 a.0) (named actions t.1)) (named stages name) place t.1 in
    let a = then_some (λ (a : Action × List ℕ). place_if (is_end a.1) s.0.0 a.0) (named actions s.0.1) place s.2 in
    let p = place_some (is_end a.0.1) s.0.0 a.0.0 place a.2 in
    let e = end_of a.0.1 p.0 in
    let front : name ≡ stage_name s.0.0 ++ 95 ∷ s.0.1 = named_text stage_name stages name s.0 (refl, (refl, (refl, (refl, (refl, (refl, (refl, tt))))))) s.1 in
    let back : s.0.1 ≡ action_name a.0.0 ++ 95 ∷ a.0.1 = named_text action_name actions s.0.1 a.0 (refl, (refl, (refl, tt))) a.1 in
    record {
      tens = e.tens;
      ones = e.ones;
      tail = e.tail;
      first_digit = e.first_digit;
      second_digit = e.second_digit;
      is_tail = e.is_tail;
      form = front ∙ ap (λ y. stage_name s.0.0 ++ 95 ∷ y) (back ∙ ap (λ y. action_name a.0.0 ++ 95 ∷ y) e.form ∙ ap (λ k. action_name k ++ 95 ∷ e.tens ∷ e.ones ∷ e.tail) p.2) ∙ ap (λ k. stage_name k ++ 95 ∷ (action_name place.action ++ 95 ∷ e.tens ∷ e.ones ∷ e.tail)) p.1;
      plain = λ k d lt e. true≢false (sym (list_any_at (λ b. eqb b 47) name k d lt (eq-eqb _ _ e)) ∙ t.0);
    }

pub says_place : (name : List ℕ) (place : Place) → (place_of name ≡ Some place) ↔ Says name place
says_place name place = (said_place name place, place_said name place)

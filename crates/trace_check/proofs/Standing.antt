-- Each line that is read leaves a front of notes.
use Rattle.std.proofs.Common.{◌≡◌, ℕ, ◌<◌, Bool, true, false, List, [], ◌∷◌, ◌++◌, length, cond, refl, sym, ap, ◌∙◌, subst, inl, inr, append_assoc, append-nil}
use Rattle.std.specs.Prelude.{◌&&◌, nat_lt, codes, Some, None}
use Rattle.std.specs.List.{flat_map, list_all, AllByRecursion}
use Rattle.std.proofs.lemmas.Bool.{ltb-true}
use Rattle.upd_text.specs.Order.{is_below}
use Rattle.upd_text.proofs.OrderLemmas.{all_push}
use Rattle.script_names.specs.Scripts.{IsScript, last_script}
use Rattle.script_names.proofs.ListLemmas.{scripts_push}
use Rattle.device_model.specs.declared.calls.Event.{Event}
use Rattle.device_model.specs.Events.{Recorded}
use Rattle.event_text.specs.Lines.{line}
use Rattle.trace_check.specs.declared.note.Note.{Note}
use Rattle.trace_check.specs.declared.note.NoteEnd.{NoteEnd}
use Rattle.trace_check.specs.declared.note.NoteEnd.TheVariants as noted_end
use Rattle.trace_check.specs.declared.note.NoteHead.{NoteHead}
use Rattle.trace_check.specs.declared.stage.Stage.{Stage}
use Rattle.trace_check.specs.declared.stage.Stage.TheVariants.{Between, Booted, Open}
use Rattle.trace_check.specs.Form.{is_place, is_noted, lists_fit}
use Rattle.trace_check.specs.Texts.{script_line, site_line, end_line, start_text, lists_text, text_of, texts_of}
use Rattle.trace_check.specs.Lines.{tag, end_in, script_in, event_in}
use Rattle.trace_check.specs.Stages.{Reading, is_none, takes_script, takes_own, with_kind, with_script, with_own, added, with_event, more_step, end_step, step}
use Rattle.trace_check.specs.Reads.{IsEventText, IsRight}
use Rattle.trace_check.proofs.Same.{both-parts, and-made}
use Rattle.trace_check.proofs.Sounds.{tag-is, then-is, map-is, behind-is}
use Rattle.trace_check.proofs.Rightly.{some-is, script-is, words-are, event-is}
use Rattle.trace_check.proofs.Retold.{end_words}
use Rattle.trace_check.proofs.Onward.{Opens, IsStage, stage_text, Steps, none-is, one-more, script-text, own-text, kind-steps, between-steps, booted-steps}

-- ---- scripts

script-steps : (head : NoteHead) (events : Recorded) (notes : List Note) (text rest : List ℕ) (new : Stage) → Opens head events.events → AllByRecursion IsRight notes → text ≡ codes "script " ++ rest → with_script head events rest ≡ Some new → Steps (Open head events) notes text (new, notes)
unfolding with_script
script-steps head events notes text rest new stands right told is =
    let k = then-is {A = List ℕ} _ (script_in rest) new is in
    let named = script-is rest k.0 k.1 in
    by k.0 named (takes_script head events.events k.0) refl k.2 where
      by : (k : List ℕ) → (rest ≡ k) × IsScript k → (t : Bool) → takes_script head events.events k ≡ t → cond t (Some (Open (record head { scripts = head.scripts ++ k ∷ [] }) events)) None ≡ Some new → Steps (Open head events) notes text (new, notes)
      by k named true takes found =
          let p = both-parts (is_none events.events) (is_none head.site && (nat_lt 0 (length head.kinds) && (nat_lt (length head.scripts) 64 && is_below (last_script head.scripts) k))) takes in
          let q = both-parts (is_none head.site) (nat_lt 0 (length head.kinds) && (nat_lt (length head.scripts) 64 && is_below (last_script head.scripts) k)) p.1 in
          let r = both-parts (nat_lt 0 (length head.kinds)) (nat_lt (length head.scripts) 64 && is_below (last_script head.scripts) k) q.1 in
          let s = both-parts (nat_lt (length head.scripts) 64) (is_below (last_script head.scripts) k) r.1 in
          let bare = none-is events.events p.0 in
          let any : 0 < length head.kinds = ltb-true 0 (length head.kinds) r.0 in
          let few : length head.scripts < 64 = ltb-true (length head.scripts) 64 s.0 in
          let said : text ++ 10 ∷ [] ≡ script_line k = ap (λ (l : List ℕ). l ++ 10 ∷ []) (told ∙ ap (λ (l : List ℕ). codes "script " ++ l) named.0) in
          subst (λ (s : Stage). Steps (Open head events) notes text (s, notes)) (some-is (Open (record head { scripts = head.scripts ++ k ∷ [] }) events) new found) (record {
            stage = record {
              count = stands.count;
              place = stands.place;
              kinds = stands.kinds;
              scripts = scripts_push head.scripts k stands.scripts few s.1 named.1;
              site = stands.site;
              events = stands.events;
              noted = stands.noted;
              lists = record { few = stands.lists.few; scripts = λ some. any; site = stands.lists.site };
            };
            notes_right = right;
            is = ap (λ (l : List ℕ). texts_of notes ++ (stage_text (Open head events) ++ l)) said ∙ script-text head events.events k (texts_of notes) bare (none-is head.site q.0);
          })
      by k named false takes found = cc

own-steps : (head : NoteHead) (events : Recorded) (notes : List Note) (text rest : List ℕ) (new : Stage) → Opens head events.events → AllByRecursion IsRight notes → text ≡ codes "site " ++ rest → with_own head events rest ≡ Some new → Steps (Open head events) notes text (new, notes)
unfolding with_own
own-steps head events notes text rest new stands right told is =
    let k = then-is {A = List ℕ} _ (script_in rest) new is in
    let named = script-is rest k.0 k.1 in
    by k.0 named (takes_own head events.events k.0) refl k.2 where
      by : (k : List ℕ) → (rest ≡ k) × IsScript k → (t : Bool) → takes_own head events.events k ≡ t → cond t (Some (Open (record head { site = head.site ++ k ∷ [] }) events)) None ≡ Some new → Steps (Open head events) notes text (new, notes)
      by k named true takes found =
          let p = both-parts (is_none events.events) (nat_lt 0 (length head.kinds) && (nat_lt (length head.site) 64 && is_below (last_script head.site) k)) takes in
          let r = both-parts (nat_lt 0 (length head.kinds)) (nat_lt (length head.site) 64 && is_below (last_script head.site) k) p.1 in
          let s = both-parts (nat_lt (length head.site) 64) (is_below (last_script head.site) k) r.1 in
          let bare = none-is events.events p.0 in
          let any : 0 < length head.kinds = ltb-true 0 (length head.kinds) r.0 in
          let few : length head.site < 64 = ltb-true (length head.site) 64 s.0 in
          let said : text ++ 10 ∷ [] ≡ site_line k = ap (λ (l : List ℕ). l ++ 10 ∷ []) (told ∙ ap (λ (l : List ℕ). codes "site " ++ l) named.0) in
          subst (λ (s : Stage). Steps (Open head events) notes text (s, notes)) (some-is (Open (record head { site = head.site ++ k ∷ [] }) events) new found) (record {
            stage = record {
              count = stands.count;
              place = stands.place;
              kinds = stands.kinds;
              scripts = stands.scripts;
              site = scripts_push head.site k stands.site few s.1 named.1;
              events = stands.events;
              noted = stands.noted;
              lists = record { few = stands.lists.few; scripts = stands.lists.scripts; site = λ some. any };
            };
            notes_right = right;
            is = ap (λ (l : List ℕ). texts_of notes ++ (stage_text (Open head events) ++ l)) said ∙ own-text head events.events k (texts_of notes) bare;
          })
      by k named false takes found = cc

-- ---- events and the end

noted-more : (kinds : List (List ℕ)) (es : List Event) (e : Event) → list_all (is_noted kinds) es ≡ true → is_noted kinds e ≡ true → list_all (is_noted kinds) (es ++ e ∷ []) ≡ true
noted-more kinds [] e h n = and-made (is_noted kinds e) true n refl
noted-more kinds (d ∷ es) e h n =
    let p = both-parts (is_noted kinds d) (list_all (is_noted kinds) es) h in
    and-made (is_noted kinds d) (list_all (is_noted kinds) (es ++ e ∷ [])) p.0 (noted-more kinds es e p.1 n)

event-joins : (t s l e x y : List ℕ) → y ≡ e ++ x → t ++ ((s ++ (l ++ e)) ++ x) ≡ t ++ (s ++ (l ++ y))
event-joins t s l e x y is =
    ap (λ (a : List ℕ). t ++ a) (append_assoc s (l ++ e) x ∙ ap (λ (a : List ℕ). s ++ a) (append_assoc l e x)) ∙ ap (λ (a : List ℕ). t ++ (s ++ (l ++ a))) (sym is)

event-steps : (head : NoteHead) (events : Recorded) (notes : List Note) (text : List ℕ) (new : Stage) → Opens head events.events → AllByRecursion IsRight notes → with_event head events text ≡ Some new → Steps (Open head events) notes text (new, notes)
unfolding with_event
event-steps head events notes text new stands right is =
    let e = map-is (λ (d : Event). Open head (added events d)) (event_in head.kinds text) new is in
    let said = event-is head.kinds text e.0 e.1 in
    subst (λ (s : Stage). Steps (Open head events) notes text (s, notes)) e.2 (record {
      stage = record {
        count = stands.count;
        place = stands.place;
        kinds = stands.kinds;
        scripts = stands.scripts;
        site = stands.site;
        events = all_push IsEventText events.events e.0 stands.events said.right;
        noted = noted-more head.kinds events.events e.0 stands.noted said.noted;
        lists = stands.lists;
      };
      notes_right = right;
      is =
          ap (λ (l : List ℕ). texts_of notes ++ (stage_text (Open head events) ++ l)) (sym said.told)
          ∙ event-joins (texts_of notes) (start_text head) (lists_text head) (flat_map line events.events) (line e.0) (flat_map line (events.events ++ e.0 ∷ [])) (one-more line events.events e.0);
    })

end-said : (e : NoteEnd) → (codes "end " ++ end_words e) ++ 10 ∷ [] ≡ end_line e
end-said noted_end.Nothing = refl
end-said (noted_end.Ended o) = refl
end-said noted_end.Waits = refl
end-said noted_end.RebootNeeded = refl
end-said noted_end.Halted = refl

pub ends-right : (head : NoteHead) (events : Recorded) (e : NoteEnd) → Opens head events.events → lists_fit head e ≡ true → IsRight (record { head = head; events = events; end = e })
ends-right head events e stands fit = record {
  count = stands.count;
  kinds = stands.kinds;
  scripts = stands.scripts;
  site = stands.site;
  events = stands.events;
  is_note = and-made (is_place head.from) (lists_fit head e && list_all (is_noted head.kinds) events.events) stands.place (and-made (lists_fit head e) (list_all (is_noted head.kinds) events.events) fit stands.noted);
}

pub end-joins : (t s l e x : List ℕ) → t ++ ((s ++ (l ++ e)) ++ x) ≡ t ++ (s ++ (l ++ (e ++ x)))
end-joins t s l e x = ap (λ (a : List ℕ). t ++ a) (append_assoc s (l ++ e) x ∙ ap (λ (a : List ℕ). s ++ a) (append_assoc l e x))

end-steps : (head : NoteHead) (events : Recorded) (notes : List Note) (text rest : List ℕ) (new : Reading) → Opens head events.events → AllByRecursion IsRight notes → text ≡ codes "end " ++ rest → end_step head events notes rest ≡ Some new → Steps (Open head events) notes text new
unfolding end_step
end-steps head events notes text rest new stands right told is =
    let e = then-is {A = NoteEnd} _ (end_in rest) new is in
    by e.0 (words-are rest e.0 e.1) (lists_fit head e.0) refl e.2 where
      by : (e : NoteEnd) → rest ≡ end_words e → (t : Bool) → lists_fit head e ≡ t → cond t (Some (Between, notes ++ record { head = head; events = events; end = e } ∷ [])) None ≡ Some new → Steps (Open head events) notes text new
      by e words true fit found =
          let n : Note = record { head = head; events = events; end = e } in
          let said : text ++ 10 ∷ [] ≡ end_line e = ap (λ (l : List ℕ). l ++ 10 ∷ []) (told ∙ ap (λ (l : List ℕ). codes "end " ++ l) words) ∙ end-said e in
          subst (Steps (Open head events) notes text) (some-is (Between, notes ++ n ∷ []) new found) (record {
            stage = tt;
            notes_right = all_push IsRight notes n right (ends-right head events e stands fit);
            is =
                ap (λ (l : List ℕ). texts_of notes ++ (stage_text (Open head events) ++ l)) said
                ∙ end-joins (texts_of notes) (start_text head) (lists_text head) (flat_map line events.events) (end_line e)
                ∙ sym (one-more text_of notes n) ∙ sym (append-nil (texts_of (notes ++ n ∷ [])));
          })
      by e words false fit found = cc

-- ---- any line

more-steps : (head : NoteHead) (events : Recorded) (notes : List Note) (text : List ℕ) (new : Stage) → Opens head events.events → AllByRecursion IsRight notes → more_step head events text ≡ Some new → Steps (Open head events) notes text (new, notes)
unfolding more_step
more-steps head events notes text new stands right is =
    elim (behind-is (tag (codes "kind ") text) (with_kind head events) _ new is) [
      | inl h ↦ kind-steps head events notes text h.0 new stands right (tag-is (codes "kind ") text h.0 h.1) h.2
      | inr h ↦ elim (behind-is (tag (codes "script ") text) (with_script head events) _ new h.1) [
        | inl k ↦ script-steps head events notes text k.0 new stands right (tag-is (codes "script ") text k.0 k.1) k.2
        | inr k ↦ elim (behind-is (tag (codes "site ") text) (with_own head events) (with_event head events text) new k.1) [
          | inl m ↦ own-steps head events notes text m.0 new stands right (tag-is (codes "site ") text m.0 m.1) m.2
          | inr m ↦ event-steps head events notes text new stands right m.1
        ]
      ]
    ]

open-steps : (head : NoteHead) (events : Recorded) (notes : List Note) (text : List ℕ) (new : Reading) → Opens head events.events → AllByRecursion IsRight notes → step (Open head events) notes text ≡ Some new → Steps (Open head events) notes text new
unfolding step
open-steps head events notes text new stands right is =
    elim (behind-is (tag (codes "end ") text) (end_step head events notes) _ new is) [
      | inl h ↦ end-steps head events notes text h.0 new stands right (tag-is (codes "end ") text h.0 h.1) h.2
      | inr h ↦ (let s = map-is (λ (t : Stage). (t, notes)) (more_step head events text) new h.1 in
          subst (Steps (Open head events) notes text) s.2 (more-steps head events notes text s.0 stands right s.1))
    ]

pub steps-are : (s : Stage) (notes : List Note) (text : List ℕ) (new : Reading) → IsStage s → AllByRecursion IsRight notes → step s notes text ≡ Some new → Steps s notes text new
steps-are Between notes text new stands right is = between-steps notes text new right is
steps-are (Booted d) notes text new stands right is = booted-steps d notes text new right is
steps-are (Open head events) notes text new stands right is = open-steps head events notes text new stands right is

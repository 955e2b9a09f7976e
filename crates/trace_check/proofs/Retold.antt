-- The lines of notes are read as the notes.
use Rattle.std.proofs.Common.{◌≡◌, ℕ, ◌+◌, ◌<◌, ◌≤◌, true, List, [], ◌∷◌, ◌++◌, length, map, refl, sym, ap, ◌∙◌, subst, arith, inl, inr, append_assoc, append-nil, length-append}
use Rattle.std.specs.Prelude.{◌&&◌, nat_le, codes, Option, Some, None}
use Rattle.std.specs.List.{flat_map, list_all, AllByRecursion}
use Rattle.std.specs.List.Sorted.{IsStrictlySortedBy}
use Rattle.std.specs.Option.{option_and_then, option_map}
use Rattle.std.specs.declared.cmp.Ordering.TheVariants.{Less}
use Rattle.std.proofs.lemmas.Bool.Decides.{leb_tells}
use Rattle.upd_text.specs.Text.{IsName}
use Rattle.upd_text.specs.Order.{byte_cmp, itself}
use Rattle.upd_text.proofs.FormLemmas.{name_is}
use Rattle.upd_text.proofs.OrderLemmas.{last_from-push}
use Rattle.script_names.specs.Scripts.{IsScript, last_script}
use Rattle.device_model.specs.declared.calls.Answer.TheVariants.{Exit, Reply, NotStarted}
use Rattle.device_model.specs.declared.calls.Call.TheVariants.{Module, Ask, Script, SystemReboot}
use Rattle.device_model.specs.declared.calls.Event.{Event}
use Rattle.device_model.specs.declared.calls.Event.TheVariants.{Start, End, Pause, Loss}
use Rattle.device_model.specs.Events.{Recorded}
use Rattle.event_text.specs.Lines.{event_text}
use Rattle.flow_table.specs.declared.position.Position.{Position}
use Rattle.flow_table.specs.declared.position.Outcome.{Outcome}
use Rattle.flow_table.specs.declared.position.Outcome.TheVariants.{Undecided, Kept, Committed, RolledBack, Inconsistent}
use Rattle.flow_table.specs.Names.{outcome_name}
use Rattle.trace_check.specs.declared.note.Deed.{Deed}
use Rattle.trace_check.specs.declared.note.Note.{Note}
use Rattle.trace_check.specs.declared.note.NoteEnd.{NoteEnd}
use Rattle.trace_check.specs.declared.note.NoteEnd.TheVariants as noted_end
use Rattle.trace_check.specs.declared.note.NoteHead.{NoteHead}
use Rattle.trace_check.specs.declared.stage.Stage.TheVariants.{Between, Booted, Open}
use Rattle.trace_check.specs.Form.{is_empty, is_place, is_noted, lists_fit}
use Rattle.trace_check.specs.Lines.{end_in}
use Rattle.trace_check.specs.Stages.{Reading, with_event, more_step, end_step, step, run}
use Rattle.trace_check.specs.Reads.{IsEventText, IsRight}
use Rattle.trace_check.proofs.Same.{both-parts}
use Rattle.trace_check.proofs.Backs.{event-back}
use Rattle.trace_check.proofs.Spoken.{boot_text, from_text, kind_text, script_text, site_text, end_text, opened, boot-step, from-step, kind-step, script-step, own-step}

-- ---- events and the end

skips : (head : NoteHead) (events : Recorded) (notes : List Note) (e : Event) → step (Open head events) notes (event_text e) ≡ option_map (λ s. (s, notes)) (with_event head events (event_text e))
unfolding step more_step
skips head events notes (Start (Module k kind s)) = refl
skips head events notes (Start (Ask k kind q)) = refl
skips head events notes (Start (Script name)) = refl
skips head events notes (Start SystemReboot) = refl
skips head events notes (End (Exit code)) = refl
skips head events notes (End (Reply code text)) = refl
skips head events notes (End NotStarted) = refl
skips head events notes (Pause seconds) = refl
skips head events notes Loss = refl

ended-back : (o : Outcome) → end_in (codes "ended " ++ outcome_name o) ≡ Some (noted_end.Ended o)
unfolding end_in outcome_name
ended-back Undecided = refl
ended-back Kept = refl
ended-back Committed = refl
ended-back RolledBack = refl
ended-back Inconsistent = refl

module _ (d : Deed) (p : Position) (notes : List Note) where
  event-step : (ks ss os : List (List ℕ)) (es : List Event) (e : Event) → is_noted ks e ≡ true → IsEventText e → step (opened d p ks ss os es) notes (event_text e) ≡ Some (opened d p ks ss os (es ++ e ∷ []), notes)
  unfolding with_event
  event-step ks ss os es e noted right =
      let back = event-back ks e noted right in
      skips (record { deed = d; from = p; kinds = ks; scripts = ss; site = os }) (record { events = es; room = 0 }) notes e ∙ rw back

abbrev pub end_words : NoteEnd → List ℕ
end_words noted_end.Nothing = codes "none"
end_words (noted_end.Ended o) = codes "ended " ++ outcome_name o
end_words noted_end.Waits = codes "waits"
end_words noted_end.RebootNeeded = codes "reboot-needed"
end_words noted_end.Halted = codes "halted"

end-named : (e : NoteEnd) → end_in (end_words e) ≡ Some e
unfolding end_in
end-named noted_end.Nothing = refl
end-named (noted_end.Ended o) = ended-back o
end-named noted_end.Waits = refl
end-named noted_end.RebootNeeded = refl
end-named noted_end.Halted = refl

ends : (head : NoteHead) (events : Recorded) (notes : List Note) (e : NoteEnd) → step (Open head events) notes (end_text e) ≡ end_step head events notes (end_words e)
unfolding step
ends head events notes noted_end.Nothing = refl
ends head events notes (noted_end.Ended o) = refl
ends head events notes noted_end.Waits = refl
ends head events notes noted_end.RebootNeeded = refl
ends head events notes noted_end.Halted = refl

end-step : (head : NoteHead) (events : Recorded) (notes : List Note) (e : NoteEnd) → lists_fit head e ≡ true → step (Open head events) notes (end_text e) ≡ Some (Between, notes ++ record { head = head; events = events; end = e } ∷ [])
unfolding end_step
end-step head events notes e fit = let named = end-named e in ends head events notes e ∙ rw (named, fit)

-- ---- line after line

pub run-append : (r : Reading) (xs ys : List (List ℕ)) → run r (xs ++ ys) ≡ option_and_then (λ s. run s ys) (run r xs)
run-append r [] ys = refl
run-append r (x ∷ xs) ys = by (λ s. run-append s xs ys) (step r.0 r.1 x) where
  by : ((s : Reading) → run s (xs ++ ys) ≡ option_and_then (λ t. run t ys) (run s xs)) → (o : Option Reading) → option_and_then (λ s. run s (xs ++ ys)) o ≡ option_and_then (λ s. run s ys) (option_and_then (λ s. run s xs) o)
  by rest None = refl
  by rest (Some s) = rest s

pub run-one : (r s : Reading) (x : List ℕ) (xs : List (List ℕ)) → step r.0 r.1 x ≡ Some s → run r (x ∷ xs) ≡ run s xs
run-one r s x xs is = ap (option_and_then (λ (t : Reading). run t xs)) is

module _ (d : Deed) (p : Position) (notes : List Note) where
  kinds-run : (ks more : List (List ℕ)) → AllByRecursion IsName more → length ks + length more ≤ 8 → run (opened d p ks [] [] [], notes) (map kind_text more) ≡ Some (opened d p (ks ++ more) [] [] [], notes)
  kinds-run ks [] names few = ap (λ (l : List (List ℕ)). Some (opened d p l [] [] [], notes)) (sym (append-nil ks))
  kinds-run ks (k ∷ more) names few =
      run-one (opened d p ks [] [] [], notes) (opened d p (ks ++ k ∷ []) [] [] [], notes) (kind_text k) (map kind_text more) (kind-step d p notes ks k names.0 (omega arith))
      ∙ kinds-run (ks ++ k ∷ []) more names.1 (simp length-append (omega arith)) ∙ ap (λ (l : List (List ℕ)). Some (opened d p l [] [] [], notes)) (append_assoc ks (k ∷ []) more)

  scripts-run : (ks ss more : List (List ℕ)) → (0 < length more → 0 < length ks) → AllByRecursion IsScript more → AllByRecursion (λ s. byte_cmp (last_script ss) s ≡ Less) more → IsStrictlySortedBy byte_cmp more → length ss + length more ≤ 64 → run (opened d p ks ss [] [], notes) (map script_text more) ≡ Some (opened d p ks (ss ++ more) [] [], notes)
  unfolding IsStrictlySortedBy
  scripts-run ks ss [] any are above sorted few = ap (λ (l : List (List ℕ)). Some (opened d p ks l [] [], notes)) (sym (append-nil ss))
  scripts-run ks ss (s ∷ more) any are above sorted few =
      let last : last_script (ss ++ s ∷ []) ≡ s = last_from-push itself [] ss s in
      let next = subst (λ (l : List ℕ). AllByRecursion (λ (t : List ℕ). byte_cmp l t ≡ Less) more) (sym last) sorted.0 in
      run-one (opened d p ks ss [] [], notes) (opened d p ks (ss ++ s ∷ []) [] [], notes) (script_text s) (map script_text more) (script-step d p notes ks ss s (any (omega arith)) are.0 (omega arith) above.0)
      ∙ scripts-run ks (ss ++ s ∷ []) more (λ h. any (omega arith)) are.1 next sorted.1 (simp length-append (omega arith)) ∙ ap (λ (l : List (List ℕ)). Some (opened d p ks l [] [], notes)) (append_assoc ss (s ∷ []) more)

  own-run : (ks ss os more : List (List ℕ)) → (0 < length more → 0 < length ks) → AllByRecursion IsScript more → AllByRecursion (λ s. byte_cmp (last_script os) s ≡ Less) more → IsStrictlySortedBy byte_cmp more → length os + length more ≤ 64 → run (opened d p ks ss os [], notes) (map site_text more) ≡ Some (opened d p ks ss (os ++ more) [], notes)
  unfolding IsStrictlySortedBy
  own-run ks ss os [] any are above sorted few = ap (λ (l : List (List ℕ)). Some (opened d p ks ss l [], notes)) (sym (append-nil os))
  own-run ks ss os (s ∷ more) any are above sorted few =
      let last : last_script (os ++ s ∷ []) ≡ s = last_from-push itself [] os s in
      let next = subst (λ (l : List ℕ). AllByRecursion (λ (t : List ℕ). byte_cmp l t ≡ Less) more) (sym last) sorted.0 in
      run-one (opened d p ks ss os [], notes) (opened d p ks ss (os ++ s ∷ []) [], notes) (site_text s) (map site_text more) (own-step d p notes ks ss os s (any (omega arith)) are.0 (omega arith) above.0)
      ∙ own-run ks ss (os ++ s ∷ []) more (λ h. any (omega arith)) are.1 next sorted.1 (simp length-append (omega arith)) ∙ ap (λ (l : List (List ℕ)). Some (opened d p ks ss l [], notes)) (append_assoc os (s ∷ []) more)

  events-run : (ks ss os : List (List ℕ)) (es more : List Event) → list_all (is_noted ks) more ≡ true → AllByRecursion IsEventText more → run (opened d p ks ss os es, notes) (map event_text more) ≡ Some (opened d p ks ss os (es ++ more), notes)
  events-run ks ss os es [] noted right = ap (λ (l : List Event). Some (opened d p ks ss os l, notes)) (sym (append-nil es))
  events-run ks ss os es (e ∷ more) noted right =
      let parts = both-parts (is_noted ks e) (list_all (is_noted ks) more) noted in
      run-one (opened d p ks ss os es, notes) (opened d p ks ss os (es ++ e ∷ []), notes) (event_text e) (map event_text more) (event-step d p notes ks ss os es e parts.0 right.0)
      ∙ events-run ks ss os (es ++ e ∷ []) more parts.1 right.1 ∙ ap (λ (l : List Event). Some (opened d p ks ss os l, notes)) (append_assoc es (e ∷ []) more)

-- ---- a note

above-nothing : (xs : List (List ℕ)) → AllByRecursion IsScript xs → AllByRecursion (λ s. byte_cmp [] s ≡ Less) xs
above-nothing [] are = tt
above-nothing ([] ∷ xs) are = absurd (let h = ((name_is []).0 are.0.0).some in omega (arith, h))
above-nothing ((b ∷ x) ∷ xs) are = (refl, above-nothing xs are.1)

pub record Lists (head : NoteHead) : Type 0 where
  pub few : length head.kinds ≤ 8
  pub scripts : 0 < length head.scripts → 0 < length head.kinds
  pub site : 0 < length head.site → 0 < length head.kinds

none-in : {A : Type 0} (xs : List A) → is_empty xs ≡ true → length xs ≡ 0
none-in [] h = refl
none-in (x ∷ xs) h = cc

le-is : (a b : ℕ) → nat_le a b ≡ true → a ≤ b
le-is a b h = elim (leb_tells a b) [ inl k ↦ k.1 | inr k ↦ absurd (let n = k.0 in cc) ]

some-fit : (head : NoteHead) → (nat_le 1 (length head.kinds) && nat_le (length head.kinds) 8) ≡ true → Lists head
some-fit head h =
    let p = both-parts (nat_le 1 (length head.kinds)) (nat_le (length head.kinds) 8) h in
    let least = le-is 1 (length head.kinds) p.0 in
    record { few = le-is (length head.kinds) 8 p.1; scripts = λ any. omega arith; site = λ any. omega arith }

pub lists-are : (head : NoteHead) (e : NoteEnd) → lists_fit head e ≡ true → Lists head
lists-are head noted_end.Nothing fit =
    let p = both-parts (is_empty head.kinds) (is_empty head.scripts && is_empty head.site) fit in
    let q = both-parts (is_empty head.scripts) (is_empty head.site) p.1 in
    let k = none-in head.kinds p.0 in
    let s = none-in head.scripts q.0 in
    let o = none-in head.site q.1 in
    record { few = omega (arith, k); scripts = λ any. omega (arith, s, any); site = λ any. omega (arith, o, any) }
lists-are head (noted_end.Ended o) fit = some-fit head fit
lists-are head noted_end.Waits fit = some-fit head fit
lists-are head noted_end.RebootNeeded fit = some-fit head fit
lists-are head noted_end.Halted fit = some-fit head fit

abbrev pub plain : Note → Note
plain n = record { head = n.head; events = record { events = n.events.events; room = 0 }; end = n.end }

abbrev pub note_lines : Note → List (List ℕ)
note_lines n =
    boot_text n.head.deed ∷ from_text n.head.from ∷ (map kind_text n.head.kinds ++ (map script_text n.head.scripts ++ (map site_text n.head.site ++ (map event_text n.events.events ++ end_text n.end ∷ []))))

pub then-run : (r s : Reading) (xs ys : List (List ℕ)) → run r xs ≡ Some s → run r (xs ++ ys) ≡ run s ys
then-run r s xs ys is = run-append r xs ys ∙ ap (option_and_then (λ (t : Reading). run t ys)) is

pub note-run : (n : Note) (notes : List Note) → IsRight n → run (Between, notes) (note_lines n) ≡ Some (Between, notes ++ plain n ∷ [])
note-run n notes right =
    let d = n.head.deed in
    let p = n.head.from in
    let ks = n.head.kinds in
    let ss = n.head.scripts in
    let os = n.head.site in
    let es = n.events.events in
    let ends_at = end_text n.end ∷ [] in
    let fourth = map event_text es ++ ends_at in
    let third = map site_text os ++ fourth in
    let second = map script_text ss ++ third in
    let first = map kind_text ks ++ second in
    let parts = both-parts (is_place p) (lists_fit n.head n.end && list_all (is_noted ks) es) right.is_note in
    let more = both-parts (lists_fit n.head n.end) (list_all (is_noted ks) es) parts.1 in
    let lists = lists-are n.head n.end more.0 in
    run-one (Between, notes) (Booted d, notes) (boot_text d) (from_text p ∷ first) (boot-step d notes)
    ∙ run-one (Booted d, notes) (opened d p [] [] [] [], notes) (from_text p) first (from-step d p notes parts.0 right.count)
    ∙ then-run (opened d p [] [] [] [], notes) (opened d p ks [] [] [], notes) (map kind_text ks) second (kinds-run d p notes [] ks right.kinds (omega (arith, lists.few)))
    ∙ then-run (opened d p ks [] [] [], notes) (opened d p ks ss [] [], notes) (map script_text ss) third (scripts-run d p notes ks [] ss lists.scripts right.scripts.scripts (above-nothing ss right.scripts.scripts) right.scripts.sorted (omega (arith, right.scripts.few)))
    ∙ then-run (opened d p ks ss [] [], notes) (opened d p ks ss os [], notes) (map site_text os) fourth (own-run d p notes ks ss [] os lists.site right.site.scripts (above-nothing os right.site.scripts) right.site.sorted (omega (arith, right.site.few)))
    ∙ then-run (opened d p ks ss os [], notes) (opened d p ks ss os es, notes) (map event_text es) ends_at (events-run d p notes ks ss os [] es more.1 right.events)
    ∙ run-one (opened d p ks ss os es, notes) (Between, notes ++ plain n ∷ []) (end_text n.end) [] (end-step n.head (record { events = es; room = 0 }) notes n.end more.0)

pub notes-run : (ns done : List Note) → AllByRecursion IsRight ns → run (Between, done) (flat_map note_lines ns) ≡ Some (Between, done ++ map plain ns)
notes-run [] done right = ap (λ (l : List Note). Some (Between, l)) (sym (append-nil done))
notes-run (n ∷ ns) done right =
    then-run (Between, done) (Between, done ++ plain n ∷ []) (note_lines n) (flat_map note_lines ns) (note-run n done right.0)
    ∙ notes-run ns (done ++ plain n ∷ []) right.1 ∙ ap (λ (l : List Note). Some (Between, l)) (append_assoc done (plain n ∷ []) (map plain ns))

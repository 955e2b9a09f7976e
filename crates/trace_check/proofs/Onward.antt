-- What was read so far is a front of notes, and right.
use Rattle.std.proofs.Common.{◌≡◌, ℕ, ◌+◌, ◌<◌, Bool, true, false, List, [], ◌∷◌, ◌++◌, length, cond, refl, sym, ap, ◌∙◌, subst, arith, append_assoc, append-nil, length-append}
use Rattle.std.specs.Prelude.{◌&&◌, nat_lt, codes, Some, None}
use Rattle.std.specs.List.{flat_map, list_all, AllByRecursion}
use Rattle.std.specs.List.Sorted.{IsStrictlySortedBy}
use Rattle.std.proofs.lemmas.Bool.{ltb-true}
use Rattle.std.proofs.lemmas.Bool.Decides.{Decides-eqb}
use Rattle.std.proofs.lemmas.Grind.{flat_map-append}
use Rattle.upd_text.specs.Text.{IsName}
use Rattle.upd_text.proofs.OrderLemmas.{all_push}
use Rattle.script_names.specs.Scripts.{AreScripts}
use Rattle.device_model.specs.declared.calls.Event.{Event}
use Rattle.device_model.specs.Events.{Recorded}
use Rattle.event_text.specs.Lines.{line}
use Rattle.flow_table.specs.declared.position.Position.{Position}
use Rattle.flow_table.specs.declared.table.TheConstants.{MOST_KINDS}
use Rattle.trace_check.specs.declared.note.Deed.{Deed}
use Rattle.trace_check.specs.declared.note.Note.{Note}
use Rattle.trace_check.specs.declared.note.NoteHead.{NoteHead}
use Rattle.trace_check.specs.declared.stage.Stage.{Stage}
use Rattle.trace_check.specs.declared.stage.Stage.TheVariants.{Between, Booted, Open}
use Rattle.trace_check.specs.Form.{is_place, is_noted}
use Rattle.trace_check.specs.Texts.{boot_line, from_line, kind_line, script_line, site_line, start_text, lists_text, texts_of}
use Rattle.trace_check.specs.Lines.{deed_in, from_in, name_in}
use Rattle.trace_check.specs.Stages.{Reading, is_none, takes_kind, with_kind, step}
use Rattle.trace_check.specs.Reads.{IsEventText, IsRight}
use Rattle.trace_check.proofs.Same.{both-parts}
use Rattle.trace_check.proofs.Sounds.{then-is, map-is}
use Rattle.trace_check.proofs.Rightly.{some-is, name-is, deed-is, from-is}
use Rattle.trace_check.proofs.Retold.{Lists}

-- ---- what stands of an open note

pub record Opens (head : NoteHead) (made : List Event) : Type 0 where
  pub count : head.from.n < 256
  pub place : is_place head.from ≡ true
  pub kinds : AllByRecursion IsName head.kinds
  pub scripts : AreScripts head.scripts
  pub site : AreScripts head.site
  pub events : AllByRecursion IsEventText made
  pub noted : list_all (is_noted head.kinds) made ≡ true
  pub lists : Lists head

abbrev pub IsStage : Stage → Type 0
IsStage Between = Unit {0}
IsStage (Booted d) = Unit {0}
IsStage (Open head events) = Opens head events.events

abbrev pub stage_text : Stage → List ℕ
stage_text Between = []
stage_text (Booted d) = boot_line d
stage_text (Open head events) = start_text head ++ (lists_text head ++ flat_map line events.events)

-- a line was read
pub record Steps (s : Stage) (notes : List Note) (text : List ℕ) (new : Reading) : Type 0 where
  pub stage : IsStage new.0
  pub notes_right : AllByRecursion IsRight new.1
  pub is : texts_of notes ++ (stage_text s ++ (text ++ 10 ∷ [])) ≡ texts_of new.1 ++ stage_text new.0

-- ---- lists

pub none-is : {A : Type 0} (xs : List A) → is_none xs ≡ true → xs ≡ []
none-is [] h = refl
none-is (x ∷ xs) h = absurd (let e = (Decides-eqb (length (x ∷ xs)) 0).0 h in omega (arith, e))

pub one-more : {A : Type 0} (f : A → List ℕ) (xs : List A) (x : A) → flat_map f (xs ++ x ∷ []) ≡ flat_map f xs ++ f x
one-more f xs x = flat_map-append f xs (x ∷ []) ∙ ap (λ (l : List ℕ). flat_map f xs ++ l) (append-nil (f x))

pub no-scripts : AreScripts []
unfolding IsStrictlySortedBy
no-scripts = record { sorted = tt; few = omega arith; scripts = tt }

-- ---- the first two lines

pub between-steps : (notes : List Note) (text : List ℕ) (new : Reading) → AllByRecursion IsRight notes → step Between notes text ≡ Some new → Steps Between notes text new
unfolding step
between-steps notes text new right is =
    let d = map-is (λ (deed : Deed). (Booted deed, notes)) (deed_in text) new is in
    let same : text ++ 10 ∷ [] ≡ boot_line d.0 = ap (λ (l : List ℕ). l ++ 10 ∷ []) (deed-is text d.0 d.1) in
    subst (Steps Between notes text) d.2 (record { stage = tt; notes_right = right; is = ap (λ (l : List ℕ). texts_of notes ++ l) same })

pub booted-steps : (d : Deed) (notes : List Note) (text : List ℕ) (new : Reading) → AllByRecursion IsRight notes → step (Booted d) notes text ≡ Some new → Steps (Booted d) notes text new
unfolding step
booted-steps d notes text new right is =
    let p = map-is (λ (q : Position). (Open (record { deed = d; from = q; kinds = []; scripts = []; site = [] }) (record { events = []; room = 0 }), notes)) (from_in text) new is in
    let from = from-is text p.0 p.1 in
    subst (Steps (Booted d) notes text) p.2 (record {
      stage = record { count = from.small; place = from.place; kinds = tt; scripts = no-scripts; site = no-scripts; events = tt; noted = refl; lists = record { few = omega arith; scripts = λ h. omega (arith, h); site = λ h. omega (arith, h) } };
      notes_right = right;
      is = ap (λ (l : List ℕ). texts_of notes ++ (boot_line d ++ l)) (sym from.told) ∙ ap (λ (l : List ℕ). texts_of notes ++ l) (sym (append-nil (boot_line d ++ from_line p.0)));
    })

-- ---- the lists of an open note

kind-joined : (t s k x : List ℕ) → t ++ ((s ++ ((k ++ []) ++ [])) ++ x) ≡ t ++ (s ++ (((k ++ x) ++ []) ++ []))
kind-joined t s k x =
    ap (λ (l : List ℕ). t ++ ((s ++ l) ++ x)) (append-nil (k ++ []) ∙ append-nil k) ∙ ap (λ (l : List ℕ). t ++ l) (append_assoc s k x)
    ∙ sym (ap (λ (l : List ℕ). t ++ (s ++ l)) (append-nil ((k ++ x) ++ []) ∙ append-nil (k ++ x)))

script-joined : (t s k c x : List ℕ) → t ++ ((s ++ ((k ++ (c ++ [])) ++ [])) ++ x) ≡ t ++ (s ++ ((k ++ ((c ++ x) ++ [])) ++ []))
script-joined t s k c x =
    ap (λ (l : List ℕ). t ++ ((s ++ l) ++ x)) (append-nil (k ++ (c ++ [])) ∙ ap (λ (l : List ℕ). k ++ l) (append-nil c)) ∙ ap (λ (l : List ℕ). t ++ l) (append_assoc s (k ++ c) x ∙ ap (λ (l : List ℕ). s ++ l) (append_assoc k c x))
    ∙ sym (ap (λ (l : List ℕ). t ++ (s ++ l)) (append-nil (k ++ ((c ++ x) ++ [])) ∙ ap (λ (l : List ℕ). k ++ l) (append-nil (c ++ x))))

site-joined : (t s k c o x : List ℕ) → t ++ ((s ++ ((k ++ (c ++ o)) ++ [])) ++ x) ≡ t ++ (s ++ ((k ++ (c ++ (o ++ x))) ++ []))
site-joined t s k c o x =
    ap (λ (l : List ℕ). t ++ ((s ++ l) ++ x)) (append-nil (k ++ (c ++ o)))
    ∙ ap (λ (l : List ℕ). t ++ l) (append_assoc s (k ++ (c ++ o)) x ∙ ap (λ (l : List ℕ). s ++ l) (append_assoc k (c ++ o) x ∙ ap (λ (l : List ℕ). k ++ l) (append_assoc c o x)))
    ∙ sym (ap (λ (l : List ℕ). t ++ (s ++ l)) (append-nil (k ++ (c ++ (o ++ x)))))

kind-joins : (t s k c o e x : List ℕ) → c ≡ [] → o ≡ [] → e ≡ [] → t ++ ((s ++ ((k ++ (c ++ o)) ++ e)) ++ x) ≡ t ++ (s ++ (((k ++ x) ++ (c ++ o)) ++ e))
kind-joins t s k c o e x hc ho he =
    ap (λ (l : List ℕ). t ++ ((s ++ ((k ++ (c ++ o)) ++ l)) ++ x)) he ∙ ap (λ (l : List ℕ). t ++ ((s ++ ((k ++ (c ++ l)) ++ [])) ++ x)) ho ∙ ap (λ (l : List ℕ). t ++ ((s ++ ((k ++ (l ++ [])) ++ [])) ++ x)) hc
    ∙ kind-joined t s k x
    ∙ sym (ap (λ (l : List ℕ). t ++ (s ++ (((k ++ x) ++ (c ++ o)) ++ l))) he ∙ ap (λ (l : List ℕ). t ++ (s ++ (((k ++ x) ++ (c ++ l)) ++ []))) ho ∙ ap (λ (l : List ℕ). t ++ (s ++ (((k ++ x) ++ (l ++ [])) ++ []))) hc)

script-joins : (t s k c o e x : List ℕ) → o ≡ [] → e ≡ [] → t ++ ((s ++ ((k ++ (c ++ o)) ++ e)) ++ x) ≡ t ++ (s ++ ((k ++ ((c ++ x) ++ o)) ++ e))
script-joins t s k c o e x ho he =
    ap (λ (l : List ℕ). t ++ ((s ++ ((k ++ (c ++ o)) ++ l)) ++ x)) he ∙ ap (λ (l : List ℕ). t ++ ((s ++ ((k ++ (c ++ l)) ++ [])) ++ x)) ho
    ∙ script-joined t s k c x
    ∙ sym (ap (λ (l : List ℕ). t ++ (s ++ ((k ++ ((c ++ x) ++ o)) ++ l))) he ∙ ap (λ (l : List ℕ). t ++ (s ++ ((k ++ ((c ++ x) ++ l)) ++ []))) ho)

site-joins : (t s k c o e x : List ℕ) → e ≡ [] → t ++ ((s ++ ((k ++ (c ++ o)) ++ e)) ++ x) ≡ t ++ (s ++ ((k ++ (c ++ (o ++ x))) ++ e))
site-joins t s k c o e x he =
    ap (λ (l : List ℕ). t ++ ((s ++ ((k ++ (c ++ o)) ++ l)) ++ x)) he ∙ site-joined t s k c o x ∙ sym (ap (λ (l : List ℕ). t ++ (s ++ ((k ++ (c ++ (o ++ x))) ++ l))) he)

module _ (head : NoteHead) (es : List Event) (x t : List ℕ) (bare : es ≡ []) where
  pub kind-text : head.scripts ≡ [] → head.site ≡ [] → t ++ ((start_text head ++ (lists_text head ++ flat_map line es)) ++ kind_line x) ≡ t ++ (start_text head ++ (lists_text (record head { kinds = head.kinds ++ x ∷ [] }) ++ flat_map line es))
  kind-text none nor =
      kind-joins t (start_text head) (flat_map kind_line head.kinds) (flat_map script_line head.scripts) (flat_map site_line head.site) (flat_map line es) (kind_line x) (ap (flat_map script_line) none) (ap (flat_map site_line) nor) (ap (flat_map line) bare)
      ∙ ap (λ (l : List ℕ). t ++ (start_text head ++ ((l ++ (flat_map script_line head.scripts ++ flat_map site_line head.site)) ++ flat_map line es))) (sym (one-more kind_line head.kinds x))

  pub script-text : head.site ≡ [] → t ++ ((start_text head ++ (lists_text head ++ flat_map line es)) ++ script_line x) ≡ t ++ (start_text head ++ (lists_text (record head { scripts = head.scripts ++ x ∷ [] }) ++ flat_map line es))
  script-text none =
      script-joins t (start_text head) (flat_map kind_line head.kinds) (flat_map script_line head.scripts) (flat_map site_line head.site) (flat_map line es) (script_line x) (ap (flat_map site_line) none) (ap (flat_map line) bare)
      ∙ ap (λ (l : List ℕ). t ++ (start_text head ++ ((flat_map kind_line head.kinds ++ (l ++ flat_map site_line head.site)) ++ flat_map line es))) (sym (one-more script_line head.scripts x))

  pub own-text : t ++ ((start_text head ++ (lists_text head ++ flat_map line es)) ++ site_line x) ≡ t ++ (start_text head ++ (lists_text (record head { site = head.site ++ x ∷ [] }) ++ flat_map line es))
  own-text =
      site-joins t (start_text head) (flat_map kind_line head.kinds) (flat_map script_line head.scripts) (flat_map site_line head.site) (flat_map line es) (site_line x) (ap (flat_map line) bare)
      ∙ ap (λ (l : List ℕ). t ++ (start_text head ++ ((flat_map kind_line head.kinds ++ (flat_map script_line head.scripts ++ l)) ++ flat_map line es))) (sym (one-more site_line head.site x))

pub none-noted : (kinds : List (List ℕ)) (es : List Event) → es ≡ [] → list_all (is_noted kinds) es ≡ true
none-noted kinds es none = subst (λ (l : List Event). list_all (is_noted kinds) l ≡ true) (sym none) refl

pub pushed : {A : Type 0} (xs : List A) (x : A) → length (xs ++ x ∷ []) ≡ length xs + 1
pushed xs x = simp length-append

kind-opens : (head : NoteHead) (es : List Event) (k : List ℕ) → Opens head es → IsName k → es ≡ [] → length head.kinds < 8 → Opens (record head { kinds = head.kinds ++ k ∷ [] }) es
kind-opens head es k stands named none few =
    let long = pushed head.kinds k in
    record {
      count = stands.count;
      place = stands.place;
      kinds = all_push IsName head.kinds k stands.kinds named;
      scripts = stands.scripts;
      site = stands.site;
      events = stands.events;
      noted = none-noted (head.kinds ++ k ∷ []) es none;
      lists = record { few = omega (arith, long, few); scripts = λ any. omega (arith, long); site = λ any. omega (arith, long) };
    }

pub kind-steps : (head : NoteHead) (events : Recorded) (notes : List Note) (text rest : List ℕ) (new : Stage) → Opens head events.events → AllByRecursion IsRight notes → text ≡ codes "kind " ++ rest → with_kind head events rest ≡ Some new → Steps (Open head events) notes text (new, notes)
unfolding with_kind
kind-steps head events notes text rest new stands right told is =
    let k = then-is {A = List ℕ} _ (name_in rest) new is in
    let named = name-is rest k.0 k.1 in
    by k.0 named (takes_kind head events.events) refl k.2 where
      by : (k : List ℕ) → (rest ≡ k) × IsName k → (t : Bool) → takes_kind head events.events ≡ t → cond t (Some (Open (record head { kinds = head.kinds ++ k ∷ [] }) events)) None ≡ Some new → Steps (Open head events) notes text (new, notes)
      by k named true takes found =
          let p = both-parts (is_none events.events) (is_none head.scripts && (is_none head.site && nat_lt (length head.kinds) MOST_KINDS)) takes in
          let q = both-parts (is_none head.scripts) (is_none head.site && nat_lt (length head.kinds) MOST_KINDS) p.1 in
          let r = both-parts (is_none head.site) (nat_lt (length head.kinds) MOST_KINDS) q.1 in
          let bare = none-is events.events p.0 in
          let few : length head.kinds < 8 = ltb-true (length head.kinds) MOST_KINDS r.1 in
          let said : text ++ 10 ∷ [] ≡ kind_line k = ap (λ (l : List ℕ). l ++ 10 ∷ []) (told ∙ ap (λ (l : List ℕ). codes "kind " ++ l) named.0) in
          subst (λ (s : Stage). Steps (Open head events) notes text (s, notes)) (some-is (Open (record head { kinds = head.kinds ++ k ∷ [] }) events) new found) (record {
            stage = kind-opens head events.events k stands named.1 bare few;
            notes_right = right;
            is = ap (λ (l : List ℕ). texts_of notes ++ (stage_text (Open head events) ++ l)) said ∙ kind-text head events.events k (texts_of notes) bare (none-is head.scripts q.0) (none-is head.site r.0);
          })
      by k named false takes found = cc

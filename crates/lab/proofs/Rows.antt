-- Campaigns in a row.
use Rattle.std.proofs.Common.{◌≡◌, ℕ, zero, suc, ◌+◌, Bool, cond, List, [], ◌∷◌, ◌++◌, take, drop, refl, sym, ap, ◌∙◌, subst, append-nil, arith}
use Rattle.std.proofs.lemmas.List.{map-append, take-append-drop}
use Rattle.std.proofs.lemmas.List.Elements.{All-nil, All-append}
use Rattle.std.proofs.lemmas.List.Sums.{sum_by-append}
use Rattle.std.proofs.lemmas.Grind.{flat_map-append}
use Rattle.std.specs.Prelude.{map, Option, Some, slice_get, Result, Ok, Err, IsErr, IfOk}
use Rattle.std.specs.List.{count_by}
use Rattle.upd_text.specs.Counts.{counted}
use Rattle.upd_text.specs.declared.list.NoMemory.{NoMemory}
use Rattle.device_model.specs.declared.calls.Event.{Event}
use Rattle.device_model.specs.Disk.{Disk}
use Rattle.io_model.specs.Source.{Content, Tree}
use Rattle.io_model.specs.Source.Content.{Told}
use Rattle.io_model.specs.MemSource.{Shelf}
use Rattle.script_names.specs.declared.site.Site.{Site}
use Rattle.record_codec.specs.declared.entry.Db.{Db}
use Rattle.slot_store.specs.Slots.{May}
use Rattle.device_mem.specs.declared.script.Script.{Script}
use Rattle.device_mem.specs.Fits.{Fits}
use Rattle.device_mem.specs.MemState.{MemState}
use Rattle.device_mem.proofs.Played.{Fits-append}
use Rattle.client_words.specs.declared.command.Command.{Command}
use Rattle.lab.specs.declared.runs.BootRun.{BootRun}
use Rattle.lab.specs.Events.{ends_with_loss}
use Rattle.lab.specs.Path.{is_off, Path, stays, goes, Leads}
use Rattle.lab.proofs.Payloads.{take-next}
use Rattle.lab.specs.Campaign.{Campaigned, Campaigns, CutShort, LastHas, risen, events_of, is_disk_fault, is_source_fault, IsExpected}

nothing-in : {X : Type 0} (xs ys : List X) → xs ++ ys ≡ [] → (xs ≡ []) × (ys ≡ [])
nothing-in [] ys e = (refl, e)
nothing-in (x ∷ xs) ys e = absurd cc

pub path-append : {site : Site} {content : Content} {c m d : Db} {front back : List BootRun} → Path site content c front m → Path site content m back d → Path site content c (front ++ back) d
path-append stays then = then
path-append (goes step path) then = goes step (path-append path then)

leads-append : {site : Site} (tree mid_tree : Tree) (old mid : Option Disk) (front back : List BootRun) (d : Db) → mid_tree ≡ tree →
    ((m : Db) → May mid m → Leads site (Told tree) old front m) → Leads site (Told mid_tree) mid back d → Leads site (Told tree) old (front ++ back) d
leads-append {site} tree mid_tree old mid front back d same first then =
    let before = first then.from then.may in
    record { from = before.from; may = before.may; path = path-append before.path (subst (λ (t : Tree). Path site (Told t) then.from back d) same then.path) }

risen-more : (n times more : ℕ) → risen (risen n times) more ≡ risen n (times + more)
risen-more n times zero = let same : times ≡ times + 0 = omega arith in ap (risen n) same
risen-more n times (suc more) = let same : suc (times + more) ≡ times + suc more = omega arith in ap counted (risen-more n times more) ∙ ap (risen n) same

risen-row : {X : Type 0} (test : X → Bool) (old mid new : ℕ) (front back : List X) → mid ≡ risen old (count_by test front) → new ≡ risen mid (count_by test back) → new ≡ risen old (count_by test (front ++ back))
risen-row test old mid new front back first then =
    then ∙ ap (λ (n : ℕ). risen n (count_by test back)) first ∙ risen-more old (count_by test front) (count_by test back) ∙ ap (risen old) (sym (sum_by-append (λ x. cond (test x) 1 0) front back))

last-behind : (events : List Event) (front back : List BootRun) (run : BootRun) → LastHas events (run ∷ back) → LastHas events (front ++ run ∷ back)
last-behind events [] back run h = h
last-behind events (r ∷ []) back run h = h
last-behind events (r ∷ next ∷ front) back run h = last-behind events (next ∷ front) back run h

last-row : (mid new : List Event) (front back : List BootRun) → (back ≡ [] → new ≡ mid) → LastHas mid front → LastHas new back → LastHas new (front ++ back)
last-row mid new front [] same first then = subst (λ (l : List BootRun). LastHas new l) (sym (append-nil front)) (subst (λ (j : List Event). LastHas j front) (sym (same refl)) first)
last-row mid new front (run ∷ back) same first then = last-behind new front back run then

fits-row : (script mid_script : Script) (t s t1 s1 t2 s2 : ℕ) (front back : List BootRun) → mid_script ≡ script →
    Fits script t s (events_of front) t1 s1 → Fits mid_script t1 s1 (events_of back) t2 s2 → Fits script t s (events_of (front ++ back)) t2 s2
fits-row script mid_script t s t1 s1 t2 s2 front back same first then =
    subst (λ (l : List Event). Fits script t s l t2 s2) (sym (flat_map-append (λ (r : BootRun). r.events.events) front back))
    (Fits-append script t1 s1 (events_of back) t2 s2 (subst (λ (k : Script). Fits k t1 s1 (events_of back) t2 s2) same then) t s (events_of front) first)

-- what was made before and what was made then
pub campaigned-append : (site : Site) (first then : List Command) (old mid new : MemState) (s s1 s2 : Shelf) (front back : List BootRun) →
    Campaigned site first old mid s s1 front → Campaigned site then mid new s1 s2 back → Campaigned site (first ++ then) old new s s2 (front ++ back)
campaigned-append site first then old mid new s s1 s2 front back a b = record {
  commands = map-append (λ (r : BootRun). r.command) front back ∙ ap (λ (l : List Command). l ++ map (λ (r : BootRun). r.command) back) a.commands ∙ ap (λ (l : List Command). first ++ l) b.commands;
  none = λ e. let are = nothing-in first then e in b.none are.1 ∙ a.none are.0;
  reached = λ d may. leads-append s.tree s1.tree old.device.disk mid.device.disk front back d a.tree a.reached (b.reached d may);
  sound = λ sound. b.sound (a.sound sound);
  fits = fits-row old.plan.script mid.plan.script old.taken old.started mid.taken mid.started new.taken new.started front back a.script a.fits b.fits;
  last = last-row mid.device.journal new.device.journal front back
      (λ e. ap (λ (m : MemState). m.device.journal) (b.none (sym b.commands ∙ ap (λ (l : List BootRun). map (λ (r : BootRun). r.command) l) e))) a.last b.last;
  script = b.script ∙ a.script;
  room = omega (arith, a.room, b.room);
  tree = b.tree ∙ a.tree;
  failing = b.failing ∙ a.failing;
  losses = risen-row (λ (r : BootRun). ends_with_loss r.events.events) old.device.losses mid.device.losses new.device.losses front back a.losses b.losses;
  off = All-append (λ (r : BootRun). is_off r.status ≡ ends_with_loss r.events.events) front back a.off b.off;
  faults = risen-row (λ (r : BootRun). is_disk_fault r.status) old.device.faults mid.device.faults new.device.faults front back a.faults b.faults;
  source_faults = risen-row (λ (r : BootRun). is_source_fault r.status) s.faults s1.faults s2.faults front back a.source_faults b.source_faults;
  answers = λ sound. All-append (λ (r : BootRun). IsExpected r.status) front back (a.answers sound) (b.answers (a.sound sound));
}

-- one command more
pub campaigned-more : (site : Site) (boots : List Command) (i : ℕ) (command : Command) (old mid new : MemState) (s s1 s2 : Shelf) (runs all : List BootRun) (run : BootRun) →
    slice_get boots i ≡ Some command → all ≡ runs ++ run ∷ [] →
    Campaigned site (take i boots) old mid s s1 runs → Campaigned site (command ∷ []) mid new s1 s2 (run ∷ []) → Campaigned site (take (i + 1) boots) old new s s2 all
campaigned-more site boots i command old mid new s s1 s2 runs all run at is first then =
    subst (λ (l : List Command). Campaigned site l old new s s2 all) (sym (take-next boots i command at))
    (subst (λ (l : List BootRun). Campaigned site (take i boots ++ command ∷ []) old new s s2 l) (sym is)
    (campaigned-append site (take i boots) (command ∷ []) old mid new s s1 s2 runs (run ∷ []) first then))

-- no boot yet
pub campaigned-none : (site : Site) (old : MemState) (s : Shelf) → Campaigned site [] old old s s []
campaigned-none site old s = record {
  commands = refl;
  none = λ e. refl;
  reached = λ d may. record { from = d; may = may; path = stays };
  sound = λ sound. sound;
  fits = (refl, refl);
  last = tt;
  script = refl;
  room = omega arith;
  tree = refl;
  failing = refl;
  losses = refl;
  off = All-nil (λ (r : BootRun). is_off r.status ≡ ends_with_loss r.events.events);
  faults = refl;
  source_faults = refl;
  answers = λ sound. All-nil (λ (r : BootRun). IsExpected r.status);
}

-- the boots up to one were made
pub cut-short : (site : Site) (boots : List Command) (i : ℕ) (command : Command) (old mid new : MemState) (s s1 s2 : Shelf) (runs : List BootRun) (run : BootRun) →
    slice_get boots i ≡ Some command → Campaigned site (take i boots) old mid s s1 runs → Campaigned site (command ∷ []) mid new s1 s2 (run ∷ []) → CutShort site boots old new s s2
cut-short site boots i command old mid new s s1 s2 runs run at first last = record {
  made = take (i + 1) boots;
  left = drop (i + 1) boots;
  are = sym (take-append-drop (i + 1) boots);
  runs = runs ++ run ∷ [];
  campaign = campaigned-more site boots i command old mid new s s1 s2 runs (runs ++ run ∷ []) run at refl first last;
}

pub cut-short-err : (site : Site) (boots : List Command) (old new : MemState) (s s' : Shelf) (result : Result (List BootRun) NoMemory) → IsErr result → CutShort site boots old new s s' → Campaigns site boots old new s s' result
cut-short-err site boots old new s s' (Ok runs) err cut = absurd cc
cut-short-err site boots old new s s' (Err e) err cut = cut

pub err-is-no-ok : {A E : Type 0} (result : Result A E) (P : A → Type 0) → IsErr result → IfOk result P
err-is-no-ok (Ok x) P err = absurd cc
err-is-no-ok (Err e) P err = tt

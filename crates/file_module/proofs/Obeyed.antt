-- What a word does, from what its steps do.
use Rattle.std.proofs.Common.{◌≡◌, ◌≢◌, inl, inr, ⊎_elim, ◌⊎◌, ℕ, zero, suc, ◌<◌, ◌≤◌, get_or, take, Bool, true, false, List, [], ◌∷◌, length, refl, sym, ◌∙◌, ap, subst, arith}
use Rattle.std.specs.Prelude.{◌||◌, Option, Some, None, Ok, Err, option_map}
use Rattle.device_model.specs.How.{How, Through}
use Rattle.device_model.specs.declared.calls.ModState.TheVariants.{Download, ArtifactInstall, ArtifactRollback}
use Rattle.device_model.specs.declared.module_word.ModuleWord.TheVariants.{State}
use Rattle.io_model.specs.Source.{Content, bytes_at}
use Rattle.io_model.specs.Source.Content.{Told, Untold}
use Rattle.file_module.specs.declared.answer.FileAct.{FileAct}
use Rattle.file_module.specs.declared.answer.FileAct.TheVariants as act
use Rattle.file_module.specs.declared.answer.Stop.{Stop}
use Rattle.file_module.specs.declared.answer.Stop.TheVariants as stop
use Rattle.file_module.specs.Contents.{Contents, InContent, IsThere, WhenTold}
use Rattle.file_module.specs.Calls.{Gives}
use Rattle.file_module.specs.Copying.{rest}
use Rattle.file_module.specs.Answers.{Counts, TouchesFresh, SetsSaved, Replaces, GivesBack, Unchanged, Untouched, IsOfPlace, IsOfWriting, stopped_by, row_of, how_of, may_answer, is_on, losses_after, faults_after}
use Rattle.file_module.specs.Payload.{When, IsPayload, Finds, payloads}
use Rattle.file_module.specs.Saved.{Kept, IsNew, IsBad, HasHead, head_of, spelling, saved_after, meant_by, rolled_back}
use Rattle.file_module.specs.FileActs.{Clears, Downloads, Installs, GivesSaved, FindsBad, RollsBack, Seeks, NeedsOne, CountsPayloads}
use Rattle.file_module.proofs.Installing.{kept_saving, kept_installing}
use Rattle.file_module.proofs.Touches.{counts_then, done_or_not}

pub clears_both : (a : FileAct) (old mid new : Contents) → SetsSaved act.Done None old mid → TouchesFresh a mid new → (a ≡ act.Done → new.fresh ≡ None) → Clears a old new
clears_both a old mid new first then none = record {
  counts = counts_then a old mid new first.counts then.counts;
  target = then.target ∙ first.target;
  saved = λ e. then.saved ∙ first.done refl;
  fresh = none;
}

pub stops_clearing : (s : Stop) (old new : Contents) → SetsSaved (stopped_by s) None old new → Clears (stopped_by s) old new
stops_clearing s old new first = record { counts = first.counts; target = first.target; saved = λ e. absurd (done_or_not s e); fresh = λ e. absurd (done_or_not s e) }

-- ---- the payload files

true_false : true ≡ false → ⊥
true_false e = cc

one_of : (l : List (List ℕ)) (x : List ℕ) → l ≡ x ∷ [] → length l ≡ 1
one_of l x e = ap length e

pub needs_found : (files : Content) (i : ℕ) (a : FileAct) → When files (λ t. payloads t ≡ bytes_at t i ∷ []) → NeedsOne files a
needs_found (Untold n) i a one = tt
needs_found (Told t) i a one = inl (one_of (payloads t) (bytes_at t i) one)

needs_stopped : (files : Content) (s : Stop) → Finds files (Err s) → NeedsOne files (stopped_by s)
needs_stopped (Untold n) s h = tt
needs_stopped (Told t) (stop.BadPayload n) h = inr (inl (ap act.BadPayload (sym h.1)))
needs_stopped (Told t) stop.SourceFault h = inr (inr refl)
needs_stopped (Told t) _ h = absurd h

seeks_stopped : (files : Content) (s : Stop) (m : Contents) → Finds files (Err s) → Seeks files (stopped_by s) m m
seeks_stopped files s m h = record { bad_payload = bad s h; needs_one = needs_stopped files s h }
  where
    bad : (s : Stop) → Finds files (Err s) → (n : ℕ) → stopped_by s ≡ act.BadPayload n → CountsPayloads files n m m
    bad (stop.BadPayload k) h n e = let same : k ≡ n = cc in subst (λ (j : ℕ). CountsPayloads files j m m) same (record { not_one = h.0; number = h.1; same = refl })
    bad stop.SourceFault h n e = absurd (cc)
    bad _ h n e = absurd h

-- a search that stops has called nothing of the place
unfound : (files : Content) (s : Stop) → Finds files (Err s) → (how_of (stopped_by s) ≡ Through) × (may_answer (State Download) (stopped_by s) ≡ true)
unfound files (stop.BadPayload k) h = (refl, refl)
unfound files stop.SourceFault h = (refl, refl)
unfound files _ h = absurd h

counts_still : (a : FileAct) (m : Contents) → how_of a ≡ Through → m.on ≡ true → Counts a m m
counts_still a m through on = record {
  on = on ∙ sym (ap is_on through);
  told = refl;
  regular = refl;
  losses = sym (ap (λ (h : How). losses_after h m.losses) through);
  faults = sym (ap (λ (h : How). faults_after h m.faults) through);
}

unchanged : (a : FileAct) (m : Contents) → how_of a ≡ Through → Untouched a m m
unchanged a m through = subst (λ (h : How). Unchanged h m m) (sym through) refl

-- an answer after the payload was found says nothing of a number of files
abbrev NoNumber : FileAct → Type 0
NoNumber a = (n : ℕ) → a ≡ act.BadPayload n → ⊥

seeks_found : (files : Content) (i : ℕ) (a : FileAct) (old new : Contents) → Finds files (Ok i) → NoNumber a → Seeks files a old new
seeks_found files i a old new h none = record { bad_payload = λ n e. absurd (none n e); needs_one = needs_found files i a h.1 }

-- the answers of an installation that has found the payload
wrote : (s : Stop) → IsOfWriting s → NoNumber (stopped_by s) × (may_answer (State ArtifactInstall) (stopped_by s) ≡ true)
wrote stop.SourceFault h = ((λ n e. cc), refl)
wrote stop.DiskFault h = ((λ n e. cc), refl)
wrote stop.Off h = ((λ n e. cc), refl)
wrote _ h = absurd (cc)

of_writing : (s : Stop) → IsOfPlace s → IsOfWriting s
of_writing s h = ap (λ (b : Bool). b || (row_of (stopped_by s)).of_source) h

-- ---- Download

pub downloads_none : (files : Content) (s : Stop) (m : Contents) → m.on ≡ true → Finds files (Err s) → Downloads files (stopped_by s) m m
downloads_none files s m on h = record {
  clears = record { counts = counts_still (stopped_by s) m (unfound files s h).0 on; target = refl; saved = λ e. absurd (done_or_not s e); fresh = λ e. absurd (done_or_not s e) };
  answers = (unfound files s h).1;
  kept = λ e. absurd (done_or_not s e);
  seeks = seeks_stopped files s m h;
  irregular = λ told e. ((λ d. done_or_not s d), unchanged (stopped_by s) m (unfound files s h).0);
}

-- it stopped while it looked at the target
pub downloads_unseen : (files : Content) (i : ℕ) (s : Stop) (old new : Contents) → Finds files (Ok i) → IsOfPlace s → TouchesFresh (stopped_by s) old new → Untouched (stopped_by s) old new → Downloads files (stopped_by s) old new
downloads_unseen files i s old new h cause touches untouched = record {
  clears = record { counts = touches.counts; target = touches.target; saved = λ e. absurd (done_or_not s e); fresh = λ e. absurd (done_or_not s e) };
  answers = (wrote s (of_writing s cause)).1;
  kept = λ e. absurd (done_or_not s e);
  seeks = seeks_found files i (stopped_by s) old new h (wrote s (of_writing s cause)).0;
  irregular = λ told e. ((λ d. done_or_not s d), untouched);
}

pub downloads_found : (files : Content) (i : ℕ) (old new : Contents) → Finds files (Ok i) → WhenTold old (old.regular ≡ true) → Clears act.Done old new → Downloads files act.Done old new
downloads_found files i old new h regular clears = record { irregular = λ told e. absurd (true_false (sym (regular told) ∙ e)); clears = clears; answers = refl; kept = λ e. inl (clears.saved e, clears.target); seeks = seeks_found files i act.Done old new h (λ n e. cc) }

pub downloads_cut : (files : Content) (i : ℕ) (s : Stop) (old new : Contents) → Finds files (Ok i) → WhenTold old (old.regular ≡ true) → IsOfPlace s → Clears (stopped_by s) old new → Downloads files (stopped_by s) old new
downloads_cut files i s old new h regular cause clears = record {
  irregular = λ told e. absurd (true_false (sym (regular told) ∙ e));
  clears = clears;
  answers = (wrote s (of_writing s cause)).1;
  kept = λ e. absurd (done_or_not s e);
  seeks = seeks_found files i (stopped_by s) old new h (wrote s (of_writing s cause)).0;
}

-- ---- ArtifactInstall

pub installs_none : (files : Content) (s : Stop) (m : Contents) → m.on ≡ true → Finds files (Err s) → Installs files (stopped_by s) m m
installs_none files s m on h = record {
  counts = counts_still (stopped_by s) m (unfound files s h).0 on;
  answers = (unfound files s h).1;
  seeks = seeks_stopped files s m h;
  keeps = λ told t kept. kept;
  target = λ told e. absurd (done_or_not s e);
  saves = λ told e. absurd (done_or_not s e);
  saved = λ told bytes there. refl;
  irregular = λ told e. ((λ d. done_or_not s d), unchanged (stopped_by s) m (unfound files s h).0);
}

-- the fresh content alone was changed
touched_keeps : (is_new : List ℕ → Type 0) (t : Option (List ℕ)) (a : FileAct) (old new : Contents) → TouchesFresh a old new → Kept is_new t old → Kept is_new t new
touched_keeps is_new t a old new h (inl k) = inl (h.saved ∙ k.0, h.target ∙ k.1)
touched_keeps is_new t a old new h (inr k) = inr (h.saved ∙ k.0, ⊎_elim (λ (was : old.target ≡ t). inl (h.target ∙ was)) (λ (was : IsNew is_new old.target). inr (subst (IsNew is_new) (sym h.target) was)) k.1)

-- it stopped while it looked at the target
pub installs_unseen : (files : Content) (i : ℕ) (s : Stop) (old new : Contents) → Finds files (Ok i) → IsOfPlace s → TouchesFresh (stopped_by s) old new → Untouched (stopped_by s) old new → Installs files (stopped_by s) old new
installs_unseen files i s old new h cause touches untouched = record {
  counts = touches.counts;
  answers = (wrote s (of_writing s cause)).1;
  seeks = seeks_found files i (stopped_by s) old new h (wrote s (of_writing s cause)).0;
  keeps = λ told t kept. touched_keeps (IsPayload files) t (stopped_by s) old new touches kept;
  target = λ told e. absurd (done_or_not s e);
  saves = λ told e. absurd (done_or_not s e);
  saved = λ told bytes there. touches.saved;
  irregular = λ told e. ((λ d. done_or_not s d), untouched);
}

saved_stays : (a : FileAct) (old new : Contents) → SetsSaved a (saved_after old.saved old.target) old new → (bytes : List ℕ) → old.saved ≡ Some bytes → new.saved ≡ old.saved
saved_stays a old new s bytes there = ⊎_elim
    (λ (same : new.saved ≡ old.saved). same)
    (λ (set : new.saved ≡ saved_after old.saved old.target). set ∙ ap (λ (o : Option (List ℕ)). saved_after o old.target) there ∙ sym there)
    s.saved

-- it stopped while it saved
pub installs_cut : (files : Content) (i : ℕ) (s : Stop) (old new : Contents) → Finds files (Ok i) → WhenTold old (old.regular ≡ true) → IsOfPlace s → Counts (stopped_by s) old new
    → WhenTold old (SetsSaved (stopped_by s) (saved_after old.saved old.target) old new) → Installs files (stopped_by s) old new
installs_cut files i s old new h regular cause counts sets = record {
  irregular = λ told e. absurd (true_false (sym (regular told) ∙ e));
  counts = counts;
  answers = (wrote s (of_writing s cause)).1;
  seeks = seeks_found files i (stopped_by s) old new h (wrote s (of_writing s cause)).0;
  keeps = λ told t kept. kept_saving (IsPayload files) t (stopped_by s) old new (sets told) kept;
  target = λ told e. absurd (done_or_not s e);
  saves = λ told e. absurd (done_or_not s e);
  saved = λ told. saved_stays (stopped_by s) old new (sets told);
}

-- it saved, and then replaced the target or stopped there
installs_replacing : (files : Content) (i : ℕ) (a : FileAct) (old mid new : Contents) → Finds files (Ok i) → WhenTold old (old.regular ≡ true) → may_answer (State ArtifactInstall) a ≡ true
    → NoNumber a → Counts act.Done old mid → WhenTold old (SetsSaved act.Done (saved_after old.saved old.target) old mid) → Counts a mid new → WhenTold mid (Replaces (IsPayload files) a mid new)
    → Installs files a old new
installs_replacing files i a old mid new h regular may none first sets then r = record {
  irregular = λ told e. absurd (true_false (sym (regular told) ∙ e));
  counts = counts_then a old mid new first then;
  answers = may;
  seeks = seeks_found files i a old new h none;
  keeps = λ told t kept. kept_installing (IsPayload files) t a old mid new (sets told) (r (first.told ∙ told)) kept;
  target = λ told. (r (first.told ∙ told)).done;
  saves = λ told e nothing. (r (first.told ∙ told)).saved ∙ (sets told).done refl ∙ ap (λ (o : Option (List ℕ)). saved_after o old.target) nothing;
  saved = λ told bytes there. (r (first.told ∙ told)).saved ∙ saved_stays act.Done old mid (sets told) bytes there;
}

pub installs_done : (files : Content) (i : ℕ) (old mid new : Contents) → Finds files (Ok i) → WhenTold old (old.regular ≡ true) → Counts act.Done old mid
    → WhenTold old (SetsSaved act.Done (saved_after old.saved old.target) old mid) → Counts act.Done mid new → WhenTold mid (Replaces (IsPayload files) act.Done mid new)
    → Installs files act.Done old new
installs_done files i old mid new h regular first sets then r = installs_replacing files i act.Done old mid new h regular refl (λ n e. cc) first sets then r

pub installs_stopped : (files : Content) (i : ℕ) (s : Stop) (old mid new : Contents) → Finds files (Ok i) → WhenTold old (old.regular ≡ true) → IsOfWriting s → Counts act.Done old mid
    → WhenTold old (SetsSaved act.Done (saved_after old.saved old.target) old mid) → Counts (stopped_by s) mid new → WhenTold mid (Replaces (IsPayload files) (stopped_by s) mid new)
    → Installs files (stopped_by s) old new
installs_stopped files i s old mid new h regular cause first sets then r = installs_replacing files i (stopped_by s) old mid new h regular (wrote s cause).1 (wrote s cause).0 first sets then r

-- ---- ArtifactRollback

-- the place alone cut it off
cut_by : (s : Stop) → IsOfPlace s → (stopped_by s ≡ act.DiskFault) ⊎ (stopped_by s ≡ act.Off)
cut_by stop.DiskFault h = inl refl
cut_by stop.Off h = inr refl
cut_by _ h = absurd (cc)

may_roll : (a : FileAct) → (a ≡ act.DiskFault) ⊎ (a ≡ act.Off) → may_answer (State ArtifactRollback) a ≡ true
may_roll a (inl e) = subst (λ (b : FileAct). may_answer (State ArtifactRollback) b ≡ true) (sym e) refl
may_roll a (inr e) = subst (λ (b : FileAct). may_answer (State ArtifactRollback) b ≡ true) (sym e) refl

not_bad : (a : FileAct) → (a ≡ act.DiskFault) ⊎ (a ≡ act.Off) → a ≡ act.BadSaved → ⊥
not_bad a (inl e) bad = let no : act.DiskFault ≡ act.BadSaved = sym e ∙ bad in cc
not_bad a (inr e) bad = let no : act.Off ≡ act.BadSaved = sym e ∙ bad in cc

-- where the place cut it off, nothing is said of what is saved
finds_none : (s : Stop) (old new : Contents) → IsOfPlace s → FindsBad (stopped_by s) old new
finds_none s old new cause = record {
  bad_saved = λ told e. absurd (not_bad (stopped_by s) (cut_by s cause) e);
  bad_stays = λ e. absurd (not_bad (stopped_by s) (cut_by s cause) e);
  finds_bad = λ told bad. inr (cut_by s cause);
}

meant_spelling : (t : Option (List ℕ)) → meant_by (spelling t) ≡ t
meant_spelling None = refl
meant_spelling (Some bytes) = refl

-- where t is kept, a rollback gives it
pub rolls_back_to : (is_new : List ℕ → Type 0) (t : Option (List ℕ)) (m : Contents) → Kept is_new t m → rolled_back m.saved m.target ≡ t
rolls_back_to is_new t m (inl h) = ap (λ (o : Option (List ℕ)). rolled_back o m.target) h.0 ∙ h.1
rolls_back_to is_new t m (inr h) = ap (λ (o : Option (List ℕ)). rolled_back o m.target) h.0 ∙ meant_spelling t

rolls_keep : (is_new : List ℕ → Type 0) (t : Option (List ℕ)) (old new : Contents) → (new.target ≡ old.target) ⊎ (new.target ≡ rolled_back old.saved old.target) → new.saved ≡ old.saved → Kept is_new t old → Kept is_new t new
rolls_keep is_new t old new target saved (inl h) = inl (
  saved ∙ h.0,
  ⊎_elim
      (λ (same : new.target ≡ old.target). same ∙ h.1)
      (λ (set : new.target ≡ rolled_back old.saved old.target). set ∙ rolls_back_to is_new t old (inl h))
      target,
)
rolls_keep is_new t old new target saved (inr h) = inr (
  saved ∙ h.0,
  ⊎_elim
      (λ (same : new.target ≡ old.target). ⊎_elim (λ (was : old.target ≡ t). inl (same ∙ was)) (λ (was : IsNew is_new old.target). inr (subst (IsNew is_new) (sym same) was)) h.1)
      (λ (set : new.target ≡ rolled_back old.saved old.target). inl (set ∙ rolls_back_to is_new t old (inr h)))
      target,
)

-- what a rollback gives follows from what it makes of the target
gives_saved : (a : FileAct) (old new : Contents) → new.saved ≡ old.saved → (new.target ≡ old.target) ⊎ (new.target ≡ rolled_back old.saved old.target) → (a ≡ act.Done → new.target ≡ rolled_back old.saved old.target)
    → (old.target ≡ rolled_back old.saved old.target → Untouched a old new) → (old.regular ≡ false → (IsThere old.saved → a ≢ act.Done) × Untouched a old new) → GivesSaved a old new
gives_saved a old new saved target done back irregular = record {
  target = target;
  done = done;
  keeps = λ files t kept. rolls_keep (IsPayload files) t old new target saved kept;
  restores = λ e files t kept. done e ∙ rolls_back_to (IsPayload files) t old kept;
  back = back;
  irregular = irregular;
}

-- nothing is saved
pub rolls_none : (m : Contents) → m.on ≡ true → WhenTold m (m.saved ≡ None) → RollsBack act.Done m m
rolls_none m on none = record {
  counts = counts_still act.Done m refl on;
  answers = refl;
  saved = refl;
  gives = λ told. gives_saved act.Done m m refl (inl refl) (λ e. sym (ap (λ (o : Option (List ℕ)). rolled_back o m.target) (none told))) (λ e. refl) (λ e. ((λ there. absurd (subst IsThere (none told) there)), refl));
  bad = record { bad_saved = λ told e. cc; bad_stays = λ e. refl; finds_bad = λ told bad. absurd (subst IsBad (none told) bad) };
}

-- what is saved is bad
pub rolls_bad : (m : Contents) → m.on ≡ true → WhenTold m (IsBad m.saved) → RollsBack act.BadSaved m m
rolls_bad m on bad = record {
  counts = counts_still act.BadSaved m refl on;
  answers = refl;
  saved = refl;
  gives = λ told. gives_saved act.BadSaved m m refl (inl refl) (λ e. cc) (λ e. refl) (λ e. ((λ there d. cc), refl));
  bad = record { bad_saved = λ told e. bad told; bad_stays = λ e. refl; finds_bad = λ told b. inl refl };
}

-- it stopped before the target was changed
pub rolls_cut : (s : Stop) (old new : Contents) → IsOfPlace s → TouchesFresh (stopped_by s) old new → Untouched (stopped_by s) old new → RollsBack (stopped_by s) old new
rolls_cut s old new cause h untouched = record {
  counts = h.counts;
  answers = may_roll (stopped_by s) (cut_by s cause);
  saved = h.saved;
  gives = λ told. gives_saved (stopped_by s) old new h.saved (inl h.target) (λ e. absurd (done_or_not s e)) (λ e. untouched) (λ e. ((λ there d. done_or_not s d), untouched));
  bad = finds_none s old new cause;
}

-- the target was set to what was saved, or stays
set_to : (bytes : Option (List ℕ)) (a : FileAct) (old new : Contents) → bytes ≡ rolled_back old.saved old.target → new.saved ≡ old.saved → GivesBack a bytes old new → GivesSaved a old new
set_to bytes a old new is saved h = gives_saved a old new saved (⊎_elim (λ (same : new.target ≡ old.target). inl same) (λ (set : new.target ≡ bytes). inr (set ∙ is)) h.sets.target) (λ e. h.sets.done e ∙ is) (λ e. h.same (e ∙ sym is)) (λ e. ((λ there. (h.irregular e).0), (h.irregular e).1))

-- it set the target to what was saved
pub rolls_done : (bytes : Option (List ℕ)) (old new : Contents) → WhenTold old (bytes ≡ rolled_back old.saved old.target) → WhenTold old (IsBad old.saved → ⊥) → Counts act.Done old new → new.saved ≡ old.saved → WhenTold old (GivesBack act.Done bytes old new) → RollsBack act.Done old new
rolls_done bytes old new is good counts saved h = record {
  counts = counts;
  answers = refl;
  saved = saved;
  gives = λ told. set_to bytes act.Done old new (is told) saved (h told);
  bad = record { bad_saved = λ told e. cc; bad_stays = λ e. cc; finds_bad = λ told bad. absurd (good told bad) };
}

pub rolls_stopped : (bytes : Option (List ℕ)) (s : Stop) (old new : Contents) → WhenTold old (bytes ≡ rolled_back old.saved old.target) → IsOfPlace s → Counts (stopped_by s) old new → new.saved ≡ old.saved → WhenTold old (GivesBack (stopped_by s) bytes old new) → RollsBack (stopped_by s) old new
rolls_stopped bytes s old new is cause counts saved h = record {
  counts = counts;
  answers = may_roll (stopped_by s) (cut_by s cause);
  saved = saved;
  gives = λ told. set_to bytes (stopped_by s) old new (is told) saved (h told);
  bad = finds_none s old new cause;
}

-- ---- the first byte of what is saved

pub head_zero : (saved target : Option (List ℕ)) → Some 0 ≡ head_of saved → None ≡ rolled_back saved target
head_zero None target e = absurd (cc)
head_zero (Some []) target e = absurd (cc)
head_zero (Some (zero ∷ bytes)) target e = refl
head_zero (Some (suc n ∷ bytes)) target e = let same : 0 ≡ suc n = cc in absurd (omega arith)

pub head_one : (saved target : Option (List ℕ)) → Some 1 ≡ head_of saved → Some (rest 1 saved) ≡ rolled_back saved target
head_one None target e = absurd (cc)
head_one (Some []) target e = absurd (cc)
head_one (Some (zero ∷ bytes)) target e = let same : ◌≡◌ {A = ℕ} 1 0 = cc in absurd (omega arith)
head_one (Some (suc n ∷ bytes)) target e = refl

pub head_low : (saved : Option (List ℕ)) (head : ℕ) → Some head ≡ head_of saved → head ≤ 1 → IsBad saved → ⊥
head_low None head e le bad = bad
head_low (Some []) head e le bad = cc
head_low (Some (b ∷ bytes)) head e le bad = let same : head ≡ b = cc in omega arith

pub head_high : (saved : Option (List ℕ)) (head : ℕ) → Some head ≡ head_of saved → 1 < head → IsBad saved
head_high None head e lt = absurd (cc)
head_high (Some []) head e lt = absurd (cc)
head_high (Some (b ∷ bytes)) head e lt = let same : head ≡ b = cc in omega arith

pub empty_bad : (saved : Option (List ℕ)) → option_map length saved ≡ Some 0 → IsBad saved
empty_bad None e = absurd (cc)
empty_bad (Some []) e = tt
empty_bad (Some (b ∷ bytes)) e = let none : suc (length bytes) ≡ 0 = cc in absurd (omega arith)

pub has_head : (saved : Option (List ℕ)) (size : ℕ) → option_map length saved ≡ Some size → 0 < size → HasHead saved
has_head None size e lt = absurd (cc)
has_head (Some []) size e lt = let none : 0 ≡ size = cc in absurd (omega arith)
has_head (Some (b ∷ bytes)) size e lt = tt

pub head_inside : (saved : Option (List ℕ)) → HasHead saved → InContent 0 1 saved
head_inside None h = absurd h
head_inside (Some []) h = absurd h
head_inside (Some (b ∷ bytes)) h = omega arith

pub head_read : (saved : Option (List ℕ)) (into : List ℕ) → HasHead saved → length into ≡ 1 → Gives saved 0 into → Some (get_or into 0 0) ≡ head_of saved
head_read None into h long g = absurd h
head_read (Some []) into h long g = absurd h
head_read (Some (b ∷ bytes)) into h long g =
    let first : into ≡ take 1 (b ∷ bytes) = g ∙ ap (λ (n : ℕ). take n (b ∷ bytes)) long in
    ap (λ (l : List ℕ). Some (get_or l 0 0)) first

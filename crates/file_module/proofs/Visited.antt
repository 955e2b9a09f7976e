-- What calls keep, one after the other.
use Rattle.std.proofs.Common.{◌≡◌, inl, inr, ⊎_elim, ℕ, true, List, [], ◌∷◌, refl, sym, ◌∙◌, subst}
use Rattle.std.specs.Prelude.{Option, Some, None}
use Rattle.device_model.specs.declared.calls.ModState.TheVariants.{Download, ArtifactInstall, ArtifactRollback, Cleanup}
use Rattle.device_model.specs.declared.module_word.ModuleWord.{ModuleWord}
use Rattle.device_model.specs.declared.module_word.ModuleWord.TheVariants.{State, Ask}
use Rattle.io_model.specs.Source.{Content}
use Rattle.file_module.specs.declared.answer.FileAct.{FileAct}
use Rattle.file_module.specs.Contents.{Contents}
use Rattle.file_module.specs.Payload.{IsPayload}
use Rattle.file_module.specs.Saved.{Kept, IsNew}
use Rattle.file_module.specs.FileActs.{FileActs}
use Rattle.file_module.specs.Visits.{Visit, SameSlots, IsBetween, Leads, AlwaysKept, AlwaysRestored}

kept_same : (is_new : List ℕ → Type 0) (t : Option (List ℕ)) (old new : Contents) → SameSlots old new → Kept is_new t old → Kept is_new t new
kept_same is_new t old new s (inl h) = inl (s.saved ∙ h.0, s.target ∙ h.1)
kept_same is_new t old new s (inr h) = inr (s.saved ∙ h.0, ⊎_elim (λ (was : old.target ≡ t). inl (s.target ∙ was)) (λ (was : IsNew is_new old.target). inr (subst (IsNew is_new) (sym s.target) was)) h.1)

kept_by : (files : Content) (asked : Option ModuleWord) (a : FileAct) (t : Option (List ℕ)) (old new : Contents) → old.told ≡ true → IsBetween asked → FileActs asked files a old new → Kept (IsPayload files) t old → Kept (IsPayload files) t new
kept_by files None a t old new told between h kept = subst (Kept (IsPayload files) t) (sym (h.unasked refl)) kept
kept_by files (Some (Ask query)) a t old new told between h kept = subst (Kept (IsPayload files) t) (sym (h.idle (Ask query) refl refl)) kept
kept_by files (Some (State Download)) a t old new told between h kept = absurd between
kept_by files (Some (State ArtifactInstall)) a t old new told between h kept = (h.installs refl).keeps told t kept
kept_by files (Some (State ArtifactRollback)) a t old new told between h kept = ((h.rolls_back refl).gives told).keeps files t kept
kept_by files (Some (State Cleanup)) a t old new told between h kept = absurd between
kept_by files (Some (State state)) a t old new told between h kept = subst (Kept (IsPayload files) t) (sym (h.idle (State state) refl refl)) kept

pub always_kept : AlwaysKept
always_kept files t old new [] told kept same = kept_same (IsPayload files) t old new same kept
always_kept files t old new (visit ∷ visits) told kept (same, (is, rest)) =
    let told_before : visit.before.told ≡ true = same.told ∙ told in
    let told_after : visit.after.told ≡ true = is.acts.counts.told ∙ told_before in
    always_kept files t visit.after new visits told_after (kept_by files visit.asked visit.answer t visit.before visit.after told_before is.between is.acts (kept_same (IsPayload files) t old visit.before same kept)) rest

always_told : (files : Content) (old new : Contents) (visits : List Visit) → old.told ≡ true → Leads files old visits new → new.told ≡ true
always_told files old new [] told same = same.told ∙ told
always_told files old new (visit ∷ visits) told (same, (is, rest)) =
    always_told files visit.after new visits (is.acts.counts.told ∙ same.told ∙ told) rest

pub always_restored : AlwaysRestored
always_restored files t old new end visits told kept leads h =
    ((h.rolls_back refl).gives (always_told files old new visits told leads)).restores refl files t (always_kept files t old new visits told kept leads)

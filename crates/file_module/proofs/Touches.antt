-- Steps that change at most the fresh content, one after the other.
use Rattle.std.proofs.Common.{◌≡◌, ◌≢◌, inl, inr, ⊎_elim, ℕ, List, [], ◌∷◌, ◌++◌, refl, sym, subst, ◌∙◌, ap}
use Rattle.std.specs.Prelude.{Option, Some, option_map}
use Rattle.io_model.specs.Source.{Content, bytes_at}
use Rattle.io_model.specs.Source.Content.{Told, Untold}
use Rattle.file_module.specs.Payload.{When, IsPayload, payloads}
use Rattle.file_module.specs.Copying.{CopiesFile, HoldsFile}
use Rattle.file_module.specs.Saved.{IsNew}
use Rattle.file_module.specs.declared.answer.FileAct.{FileAct}
use Rattle.file_module.specs.declared.answer.FileAct.TheVariants.{Done}
use Rattle.file_module.specs.declared.place.Slot.{Slot}
use Rattle.file_module.specs.declared.place.Slot.TheVariants.{Target, Saved, Fresh}
use Rattle.file_module.specs.Contents.{Contents, content}
use Rattle.file_module.specs.Answers.{Counts, TouchesFresh, SetsSaved, SetsTarget, Replaces, IsOfPlace, how_of, losses_after, faults_after, source_after, stopped_by}
use Rattle.file_module.specs.declared.answer.Stop.{Stop}
use Rattle.file_module.specs.declared.answer.Stop.TheVariants as stop

pub counts_then : (act : FileAct) (old mid new : Contents) → Counts Done old mid → Counts act mid new → Counts act old new
counts_then act old mid new a b = record {
  on = b.on;
  told = b.told ∙ a.told;
  regular = b.regular ∙ a.regular;
  losses = b.losses ∙ ap (λ (n : ℕ). losses_after (how_of act) n) a.losses;
  faults = b.faults ∙ ap (λ (n : ℕ). faults_after (how_of act) n) a.faults;
}

pub touches_then : (act : FileAct) (old mid new : Contents) → TouchesFresh Done old mid → TouchesFresh act mid new → TouchesFresh act old new
touches_then act old mid new a b = record {
  counts = counts_then act old mid new a.counts b.counts;
  target = b.target ∙ a.target;
  saved = b.saved ∙ a.saved;
}

pub content_same : (act : FileAct) (slot : Slot) (old new : Contents) → slot ≢ Fresh → TouchesFresh act old new → content slot new ≡ content slot old
content_same act Target old new other h = h.target
content_same act Saved old new other h = h.saved
content_same act Fresh old new other h = absurd (other refl)

-- the place alone cut the call off, so no fault of the source is counted
pub source_kept : (s : Stop) (n : ℕ) → IsOfPlace s → source_after (stopped_by s) n ≡ n
source_kept stop.SourceFault n h = absurd (cc)
source_kept _ n h = refl

pub sets_saved_then : (act : FileAct) (bytes : Option (List ℕ)) (old mid new : Contents) → TouchesFresh Done old mid → SetsSaved act bytes mid new → SetsSaved act bytes old new
sets_saved_then act bytes old mid new a b = record {
  counts = counts_then act old mid new a.counts b.counts;
  saved = ⊎_elim (λ (same : new.saved ≡ mid.saved). inl (same ∙ a.saved)) (λ (set : new.saved ≡ bytes). inr set) b.saved;
  done = b.done;
  target = b.target ∙ a.target;
}

pub done_or_not : (s : Stop) → stopped_by s ≡ Done → ⊥
done_or_not (stop.BadPayload k) e = cc
done_or_not _ e = cc

-- a file was copied into an empty content, and settled
pub holds_file : (files : Content) (i : ℕ) (empty full : Contents) (new : Contents) → empty.fresh ≡ Some [] → CopiesFile files i empty full → new.fresh ≡ full.fresh → HoldsFile files i new
holds_file files i empty full new none h same = record {
  bytes = h.bytes;
  fresh = same ∙ h.added ∙ ap (λ (o : Option (List ℕ)). option_map (λ (l : List ℕ). l ++ h.bytes) o) none;
  same = h.same;
}

is_payload : (files : Content) (i : ℕ) (bytes : List ℕ) → When files (λ t. payloads t ≡ bytes_at t i ∷ []) → When files (λ t. bytes ≡ bytes_at t i) → IsPayload files bytes
is_payload (Untold n) i bytes one same = tt
is_payload (Told t) i bytes one same = one ∙ ap (λ (l : List ℕ). l ∷ []) (sym same)

-- the fresh content was the payload, and was moved
pub replaces_then : (files : Content) (i : ℕ) (act : FileAct) (old mid new : Contents) → When files (λ t. payloads t ≡ bytes_at t i ∷ []) → TouchesFresh Done old mid → HoldsFile files i mid → SetsTarget act mid.fresh mid new → Replaces (IsPayload files) act old new
replaces_then files i act old mid new one a held b =
    let is : IsNew (IsPayload files) mid.fresh = subst (IsNew (IsPayload files)) (sym held.fresh) (is_payload files i held.bytes one held.same) in
    record {
      counts = counts_then act old mid new a.counts b.counts;
      target = ⊎_elim (λ (same : new.target ≡ mid.target). inl (same ∙ a.target)) (λ (set : new.target ≡ mid.fresh). inr (subst (IsNew (IsPayload files)) (sym set) is)) b.target;
      done = λ e. subst (IsNew (IsPayload files)) (sym (b.done e)) is;
      saved = b.saved ∙ a.saved;
    }

pub stops_replacing : (files : Content) (s : Stop) (old new : Contents) → TouchesFresh (stopped_by s) old new → Replaces (IsPayload files) (stopped_by s) old new
stops_replacing files s old new a = record { counts = a.counts; target = inl a.target; done = λ e. absurd (done_or_not s e); saved = a.saved }

-- Calls that leave the disk as it is.
use Rattle.std.proofs.Common.{◌≡◌, ◌⊎◌, inl, inr, ℕ, true, List, refl, sym, subst}
use Rattle.std.specs.Prelude.{Option, Some, None, IfSome, ⊤}
use Rattle.io_model.specs.Source.{Tree, Content, When}
use Rattle.io_model.specs.Source.Content.{Told, Untold}
use Rattle.io_model.specs.Sink.{Written}
use Rattle.device_model.specs.Disk.{Disk, IsApart, WhereTold, MayHold}
use Rattle.device_model.specs.How.{How, Through}
use Rattle.device_model.specs.declared.calls.ModState.TheVariants as state
use Rattle.device_model.specs.declared.module_word.ModuleWord.{ModuleWord}
use Rattle.device_model.specs.declared.module_word.ModuleWord.TheVariants.{State}
use Rattle.device_model.proofs.Keeps.{same}
use Rattle.ab_image.specs.declared.report.AbAct.{AbAct}
use Rattle.ab_image.specs.declared.report.AbAct.TheVariants as answer
use Rattle.ab_image.specs.Layout.{choice_at, origin_at, IsSpared, IsSane}
use Rattle.ab_image.specs.Blocks.{Medium, EndsAs}
use Rattle.ab_image.specs.Parts.{Within, KeepsByte}
use Rattle.ab_image.specs.Words.{Use, Nowhere, use_of}
use Rattle.ab_image.specs.Act.{Answered, Counted, Stands, Writing, ActsFor, Says, KeepsChoice, FoundReady, IsEither, scene}
use Rattle.ab_image.proofs.Withins.{touches-self}
use Rattle.ab_image.proofs.Naming.{names-self, rests-still}
use Rattle.ab_image.proofs.Choices.{IsHeld, held-sane}

pub when-all : (content : Content) (P : Tree → Type 0) → ((t : Tree) → P t) → When content P
when-all (Untold n) P h = tt
when-all (Told t) P h = h t

pub if-all : (disk : Option Disk) (P : Disk → Type 0) → ((d : Disk) → P d) → IfSome disk P
if-all None P h = tt
if-all (Some d) P h = h d

where-refl : (R : Disk → Disk → Type 0) → ((d : Disk) → R d d) → (a : Option Disk) → WhereTold R a a
where-refl R h None = tt
where-refl R h (Some d) = h d

either-still : (content : Content) (disk : Option Disk) → IsSane disk → IfSome disk (λ d. (area : List ℕ) → MayHold disk area → IsEither content d area)
either-still content None sane = tt
either-still content (Some d) sane = λ area held. by-held (held-sane d area sane held)
  where
    by-held : {area : List ℕ} → IsHeld d area → IsEither content d area
    by-held (inl kept) = inl kept
    by-held (inr h) = inr (record { image = h.1.0; whole = h.1.1; sum = λ synced. absurd (h.0 synced) })

within-still : (kept : ℕ → Type 0) (blocks : Medium) → Within kept blocks blocks
within-still kept blocks = record { touches = touches-self kept blocks.disk blocks.disk (λ area held. held); bytes = λ i k. where-refl (KeepsByte i blocks) (λ d. inl refl) blocks.disk; told = where-refl (λ d e. ⊤) (λ d. tt) blocks.disk }

pub ends-still : (how : How) (blocks : Medium) → how ≡ Through → blocks.on ≡ true → EndsAs how blocks blocks
ends-still how blocks through on = subst (λ (h : How). EndsAs h blocks blocks) (sym through) (record { size = refl; on = on; losses = refl; faults = refl })

stands-still : (blocks : Medium) (result : AbAct) → Stands blocks blocks result
stands-still blocks result = record {
  sane = λ s. s;
  boots = λ area held. record { before = area; held = held; same = λ image w. w };
  named = λ e. where-refl _ (λ d. (names-self choice_at d.area, names-self origin_at d.area)) blocks.disk;
}

writing-still : (does : Use) (blocks : Medium) (result : AbAct) → Writing does blocks blocks result
writing-still does blocks result = record {
  early = λ e. record { area = refl; keeps = same blocks.disk blocks.disk refl };
  idle = λ e. refl;
  nothing_to_do = if-all blocks.disk _ (λ d nothing. rests-still result blocks);
  keeps_choice = λ e. where-refl (KeepsChoice result) (λ d. inl refl) blocks.disk;
  choice_alone = λ e. within-still (IsApart choice_at 1) blocks;
}

-- it isn't done, or has nothing to do
pub still-acts : (word : Option ModuleWord) (content : Content) (faults after : ℕ) (blocks : Medium) (before behind : Written) (result : AbAct) → Answered word content blocks result
    → Counted (scene faults blocks before) (scene after blocks behind) result → Says word result before behind
    → (result ≡ answer.Done → (use_of word).writes ≡ Nowhere)
    → ActsFor word content (scene faults blocks before) (scene after blocks behind) result
still-acts word content faults after blocks before behind result answered counted says done_idle = record {
  answered = answered;
  counted = counted;
  says = says;
  stands = stands-still blocks result;
  writing = writing-still (use_of word) blocks result;
  downloads = λ e. record { download_alone = if-all blocks.disk _ (λ d. within-still (IsSpared blocks.size d.area) blocks); download_done = λ done. absurd (undone (State state.Download) (λ idle. cc) e done) };
  commits = λ e. record {
    commits = where-refl (λ d e. KeepsChoice result d e ⊎ FoundReady content d.area) (λ d. inl (inl refl)) blocks.disk;
    commit_cut = λ sane. either-still content blocks.disk sane;
    commit_done = λ done. absurd (undone (State state.ArtifactCommit) (λ idle. cc) e done);
  };
  rollback_done = λ e done. absurd (undone (State state.ArtifactRollback) (λ idle. cc) e done);
  cleans_up = λ e. record { origin_alone = within-still (IsApart origin_at 1) blocks; cleanup_done = λ done. absurd (undone (State state.Cleanup) (λ idle. cc) e done) };
}
  where
    undone : (w : ModuleWord) → ((use_of (Some w)).writes ≡ Nowhere → ⊥) → word ≡ Some w → result ≡ answer.Done → ⊥
    undone w busy e done = busy (subst (λ (o : Option ModuleWord). (use_of o).writes ≡ Nowhere) e (done_idle done))

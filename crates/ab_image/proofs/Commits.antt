-- What ArtifactCommit leaves.
use Rattle.std.proofs.Common.{◌≡◌, ◌∙◌, ◌⊎◌, inl, inr, ℕ, Bool, true, false, List, refl, sym, ap, subst, arith}
use Rattle.std.specs.Prelude.{Option, Some, None, IfSome, option_map, find, Result, Ok, Err, OnOk, ⊤}
use Rattle.std.specs.Option.{option_and_then}
use Rattle.sha2.specs.Sha256.{sha256}
use Rattle.upd_text.specs.Counts.{counted}
use Rattle.io_model.specs.Source.{File, Tree, Content, When, bytes_at}
use Rattle.io_model.specs.Source.Content.{Told, Untold}
use Rattle.io_model.specs.Sink.{Written}
use Rattle.device_model.specs.declared.calls.Down.{Down}
use Rattle.device_model.specs.declared.calls.Down.TheVariants.{Off, Fault}
use Rattle.device_model.specs.declared.calls.ModState.TheVariants as state
use Rattle.device_model.specs.declared.module_word.ModuleWord.{ModuleWord}
use Rattle.device_model.specs.declared.module_word.ModuleWord.TheVariants.{State}
use Rattle.device_model.specs.Disk.{Disk, IsApart, WhereTold, IsSettled, MayHold, area_of}
use Rattle.device_model.specs.How.{Through, how_of as down_how}
use Rattle.ab_image.specs.declared.artifact.Found.{Found}
use Rattle.ab_image.specs.declared.report.AbAct.{AbAct}
use Rattle.ab_image.specs.declared.report.AbAct.TheVariants as answer
use Rattle.ab_image.specs.Layout.{choice_at, origin_at, other, chosen, Agree, IsReady}
use Rattle.ab_image.specs.Blocks.{Medium, EndsAs}
use Rattle.ab_image.specs.Parts.{KeepsByte, Calm}
use Rattle.ab_image.specs.Artifact.{is_type_info, listed_in, listed}
use Rattle.ab_image.specs.Finding.{IsFound, NoSum, listed_at}
use Rattle.ab_image.specs.Choosing.{IsOtherReady, IsUnready, IsEitherBy, Chooses, choice_answer}
use Rattle.ab_image.specs.Answers.{IsCut, IsProper, row_of, how_of, source_after, may_answer}
use Rattle.ab_image.specs.Act.{Comes, HasNoSum, IsNotReady, Answered, ActsFor, WritesNothing, Rests, KeepsChoice, FoundReady, IsEither, scene}
use Rattle.ab_image.proofs.Areas.{choice-apart}
use Rattle.ab_image.proofs.Alone.{within-boots, off-answer}
use Rattle.ab_image.proofs.Naming.{if-disk, where-both, names-kept, through-on}
use Rattle.ab_image.proofs.Still.{when-all, if-all, ends-still, still-acts}

abbrev pub committed : Option ModuleWord
committed = Some (State state.ArtifactCommit)

-- the answers of ArtifactCommit
abbrev IsOfCommit : AbAct → Type 0
IsOfCommit answer.Done = ⊤
IsOfCommit answer.NoChecksum = ⊤
IsOfCommit answer.NotReady = ⊤
IsOfCommit answer.DiskFault = ⊤
IsOfCommit answer.SourceFault = ⊤
IsOfCommit answer.Off = ⊤
IsOfCommit answer.NoMemory = ⊤
IsOfCommit _ = ⊥

row-commit : (size : ℕ) (result : AbAct) → IsOfCommit result → (may_answer committed result ≡ true) × IsProper size result
row-commit size answer.Done u = (refl, tt)
row-commit size answer.NoChecksum u = (refl, tt)
row-commit size answer.NotReady u = (refl, tt)
row-commit size answer.DiskFault u = (refl, tt)
row-commit size answer.SourceFault u = (refl, tt)
row-commit size answer.Off u = (refl, tt)
row-commit size answer.NoMemory u = (refl, tt)
row-commit size _ u = absurd u

answered-commit : (content : Content) (old : Medium) (result : AbAct) → IsOfCommit result → When content (λ tree. Comes answer.NoChecksum (HasNoSum committed tree) result)
    → When content (λ tree. IfSome old.disk (λ d. Comes answer.NotReady (IsNotReady committed tree d.area) result)) → Answered committed content old result
answered-commit content old result u sums ready = record {
  is_for = (row-commit old.size result u).0;
  proper = (row-commit old.size result u).1;
  usage = (λ e. absurd (subst IsOfCommit e u), λ e. absurd cc);
  bad_payload = when-all content _ (λ tree n. record { only = λ e. absurd (subst IsOfCommit e u); always = λ h. let e = h.asked in absurd cc });
  no_checksum = sums;
  too_long = when-all content _ (λ tree n. record { only = λ e. absurd (subst IsOfCommit e u); always = λ h. let e = h.finds.finds.asked in absurd cc });
  differs = when-all content _ (λ tree sum found. record { only = λ e. absurd (subst IsOfCommit e u); always = λ h. let e = h.finds.finds.asked in absurd cc });
  not_ready = ready;
}

-- ---- no sum is listed

-- what the type-info that was found lists is what the artifact lists
listed-found : (tree : Tree) (found : Found) → IsFound tree found → listed tree ≡ listed_at tree found.type_info
listed-found tree found is = by-map (find is_type_info tree) ∙ ap (option_and_then listed_in) (sym is.type_info) ∙ sym (by-index found.type_info)
  where
    by-map : (o : Option File) → option_and_then (λ (f : File). listed_in f.1) o ≡ option_and_then listed_in (option_map (λ (f : File). f.1) o)
    by-map None = refl
    by-map (Some f) = refl

    by-index : (o : Option ℕ) → listed_at tree o ≡ option_and_then listed_in (option_map (bytes_at tree) o)
    by-index None = refl
    by-index (Some i) = refl

pub lists : (content : Content) (found : Found) (o : Option (List ℕ)) → When content (λ tree. IsFound tree found) → When content (λ tree. listed_at tree found.type_info ≡ o) → When content (λ tree. listed tree ≡ o)
lists (Untold n) found o is h = tt
lists (Told t) found o is h = listed-found t found is ∙ h

no-sum : (content : Content) → When content (λ tree. listed tree ≡ None) → When content (λ tree. Comes answer.NoChecksum (HasNoSum committed tree) answer.NoChecksum)
no-sum (Untold n) h = tt
no-sum (Told t) h = record { only = λ e. record { asks = inr refl; none = h }; always = λ cause. inl refl }

unlisted : (content : Content) (disk : Option Disk) → When content (λ tree. listed tree ≡ None) → When content (λ tree. IfSome disk (λ d. Comes answer.NotReady (IsNotReady committed tree d.area) answer.NoChecksum))
unlisted (Untold n) disk h = tt
unlisted (Told t) None h = tt
unlisted (Told t) (Some d) h = record { only = λ e. absurd cc; always = λ r. let no : None ≡ Some r.sum = sym h ∙ r.listed in absurd cc }

cut : (result : AbAct) → IsCut result → (meant : AbAct) → (result ≡ meant → ⊥) → (cause : Type 0) → Comes meant cause result
cut result is meant other cause = record { only = λ e. absurd (other e); always = λ c. inr is }

cut-answered : (content : Content) (old : Medium) (result : AbAct) → IsOfCommit result → IsCut result → Answered committed content old result
cut-answered content old result u is = answered-commit content old result u
    (when-all content _ (λ tree. cut result is answer.NoChecksum (λ e. let no : false ≡ true = subst IsCut e is in cc) (HasNoSum committed tree)))
    (when-all content _ (λ tree. if-all old.disk _ (λ d. cut result is answer.NotReady (λ e. let no : false ≡ true = subst IsCut e is in cc) (IsNotReady committed tree d.area))))

-- a call of the source failed
pub faulted-acts : (content : Content) (faults after : ℕ) (blocks : Medium) (sink : Written) → blocks.on ≡ true → after ≡ counted faults
    → ActsFor committed content (scene faults blocks sink) (scene after blocks sink) answer.SourceFault
faulted-acts content faults after blocks sink on e =
    still-acts committed content faults after blocks sink sink answer.SourceFault (cut-answered content blocks answer.SourceFault tt refl) (record { ends = ends-still Through blocks refl on; source = e }) (λ e. absurd cc, refl) (λ e. absurd cc)

-- no sum is listed, or none was read
pub unlisted-acts : (content : Content) (faults after : ℕ) (blocks : Medium) (sink : Written) (type_info : Option ℕ) (stop : AbAct) → blocks.on ≡ true → after ≡ source_after stop faults
    → NoSum content type_info stop → (When content (λ tree. listed_at tree type_info ≡ None) → When content (λ tree. listed tree ≡ None))
    → ActsFor committed content (scene faults blocks sink) (scene after blocks sink) stop
unlisted-acts content faults after blocks sink type_info answer.NoChecksum on e h lists =
    still-acts committed content faults after blocks sink sink answer.NoChecksum (answered-commit content blocks answer.NoChecksum tt (no-sum content (lists h)) (unlisted content blocks.disk (lists h)))
    (record { ends = ends-still Through blocks refl on; source = e }) (λ e. absurd cc, refl) (λ e. absurd cc)
unlisted-acts content faults after blocks sink type_info answer.SourceFault on e h lists = faulted-acts content faults after blocks sink on e
unlisted-acts content faults after blocks sink type_info answer.NoMemory on e h lists =
    still-acts committed content faults after blocks sink sink answer.NoMemory (cut-answered content blocks answer.NoMemory tt refl) (record { ends = ends-still Through blocks refl on; source = e }) (λ e. absurd cc, refl) (λ e. absurd cc)
unlisted-acts content faults after blocks sink type_info _ on e h lists = absurd h

-- ---- a sum is listed

module _ (content : Content) (sum : List ℕ) (lists : When content (λ tree. listed tree ≡ Some sum)) (old new : Medium) where
  sum-listed : (result : AbAct) → (result ≡ answer.NoChecksum → ⊥) → When content (λ tree. Comes answer.NoChecksum (HasNoSum committed tree) result)
  sum-listed result other = by-content content lists
    where
      by-content : (c : Content) → When c (λ tree. listed tree ≡ Some sum) → When c (λ tree. Comes answer.NoChecksum (HasNoSum committed tree) result)
      by-content (Untold n) h = tt
      by-content (Told t) h = record { only = λ e. absurd (other e); always = λ cause. let no : None ≡ Some sum = sym cause.none ∙ h in absurd cc }

  -- where the other partition was found ready
  was-ready : (disk : Option Disk) → IfSome (area_of disk) (λ area. Agree area → IsOtherReady sum area) → When content (λ tree. IfSome disk (λ d. Comes answer.NotReady (IsNotReady committed tree d.area) answer.Done))
  was-ready disk found = by-content content disk lists found
    where
      by-content : (c : Content) (disk : Option Disk) → When c (λ tree. listed tree ≡ Some sum) → IfSome (area_of disk) (λ area. Agree area → IsOtherReady sum area) → When c (λ tree. IfSome disk (λ d. Comes answer.NotReady (IsNotReady committed tree d.area) answer.Done))
      by-content (Untold n) disk h found = tt
      by-content (Told t) None h found = tt
      by-content (Told t) (Some d) h found = record {
        only = λ e. absurd cc;
        always = λ r.
            let same : Some sum ≡ Some r.sum = sym h ∙ r.listed in
            let sums : sum ≡ r.sum = cc in
            absurd (r.unready (subst (IsReady d.area (other (chosen d.area))) sums (found r.agree)));
      }

  wasnt-ready : (disk : Option Disk) → IfSome (area_of disk) (IsUnready sum) → When content (λ tree. IfSome disk (λ d. Comes answer.NotReady (IsNotReady committed tree d.area) answer.NotReady))
  wasnt-ready disk found = by-content content disk lists found
    where
      by-content : (c : Content) (disk : Option Disk) → When c (λ tree. listed tree ≡ Some sum) → IfSome (area_of disk) (IsUnready sum) → When c (λ tree. IfSome disk (λ d. Comes answer.NotReady (IsNotReady committed tree d.area) answer.NotReady))
      by-content (Untold n) disk h found = tt
      by-content (Told t) None h found = tt
      by-content (Told t) (Some d) h found = record { only = λ e. record { asked = refl; sum = sum; listed = h; agree = found.0; unready = found.1 }; always = λ cause. inl refl }

  answered-choice : (r : Result Bool Down) → Chooses sum old r new → Answered committed content old (choice_answer r)
  answered-choice (Ok true) c = answered-commit content old answer.Done tt (sum-listed answer.Done (λ e. absurd cc)) (was-ready old.disk c.found)
  answered-choice (Ok false) c = answered-commit content old answer.NotReady tt (sum-listed answer.NotReady (λ e. absurd cc)) (wasnt-ready old.disk c.found)
  answered-choice (Err Off) c = cut-answered content old answer.Off tt refl
  answered-choice (Err Fault) c = cut-answered content old answer.DiskFault tt refl

  found-ready : (area : List ℕ) → Agree area → IsOtherReady sum area → FoundReady content area
  found-ready area agree r = record { agree = agree; sum = sum; listed = lists; ready = r }

  keeps : (result : AbAct) → (new.on ≡ false → result ≡ answer.Off) → (a b : Option Disk) → WhereTold (λ d e. KeepsByte choice_at new d e ⊎ (Agree d.area × IsOtherReady sum d.area)) a b → WhereTold (λ d e. KeepsChoice result d e ⊎ FoundReady content d.area) a b
  keeps result off None None h = tt
  keeps result off None (Some e) h = absurd h
  keeps result off (Some d) None h = absurd h
  keeps result off (Some d) (Some e) (inl (inl kept)) = inl (inl kept)
  keeps result off (Some d) (Some e) (inl (inr h)) = inl (inr (off h.0, h.1))
  keeps result off (Some d) (Some e) (inr r) = inr (found-ready d.area r.0 r.1)

  either : (a b : Option Disk) → IfSome a (λ d. (area : List ℕ) → MayHold b area → IsEitherBy sum d area) → IfSome a (λ d. (area : List ℕ) → MayHold b area → IsEither content d area)
  either None b h = tt
  either (Some d) b h = λ area held. by-choice area (h area held)
    where
      sums : (image : List ℕ) → sha256 image ≡ sum → When content (λ tree. listed tree ≡ Some (sha256 image))
      sums image e = subst (λ (s : List ℕ). When content (λ tree. listed tree ≡ Some s)) (sym e) lists

      by-choice : (area : List ℕ) → IsEitherBy sum d area → IsEither content d area
      by-choice area (inl kept) = inl kept
      by-choice area (inr o) = inr (record { image = o.image; whole = o.whole; sum = λ synced. sums o.image (o.summed synced) })

choice-ends : (r : Result Bool Down) (old new : Medium) → EndsAs (down_how r) old new → EndsAs (how_of (choice_answer r)) old new
choice-ends (Ok true) old new h = h
choice-ends (Ok false) old new h = h
choice-ends (Err Off) old new h = h
choice-ends (Err Fault) old new h = h

choice-faults : (r : Result Bool Down) (n : ℕ) → n ≡ source_after (choice_answer r) n
choice-faults (Ok true) n = refl
choice-faults (Ok false) n = refl
choice-faults (Err Off) n = refl
choice-faults (Err Fault) n = refl

choice-sink : (r : Result Bool Down) → choice_answer r ≡ answer.SinkFault → ⊥
choice-sink (Ok true) e = absurd cc
choice-sink (Ok false) e = absurd cc
choice-sink (Err Off) e = absurd cc
choice-sink (Err Fault) e = absurd cc

choice-early : (sum : List ℕ) (old : Medium) (r : Result Bool Down) (new : Medium) → Chooses sum old r new → (row_of (choice_answer r)).early ≡ true → WritesNothing old new
choice-early sum old (Ok true) new c e = absurd cc
choice-early sum old (Ok false) new c e = c.leaves
choice-early sum old (Err Off) new c e = absurd cc
choice-early sum old (Err Fault) new c e = absurd cc

choice-done : (sum : List ℕ) (old : Medium) (r : Result Bool Down) (new : Medium) → Chooses sum old r new → choice_answer r ≡ answer.Done → IsSettled new.disk × WhereTold (λ d e. Agree d.area → chosen e.area ≡ other (chosen d.area)) old.disk new.disk
choice-done sum old (Ok true) new c e = (c.leaves.settled, c.leaves.other)
choice-done sum old (Ok false) new c e = absurd cc
choice-done sum old (Err Off) new c e = absurd cc
choice-done sum old (Err Fault) new c e = absurd cc

through-choice : (r : Result Bool Down) (P : Type 0) → how_of (choice_answer r) ≡ Through → OnOk r P → P
through-choice (Ok x) P e h = h
through-choice (Err Off) P e h = absurd cc
through-choice (Err Fault) P e h = absurd cc

rests-choice : (r : Result Bool Down) (old new : Medium) → Calm old r new → Rests (choice_answer r) old new
rests-choice (Ok true) old new c = record { area = λ ne. c.area; keeps = c.keeps }
rests-choice (Ok false) old new c = record { area = λ ne. c.area; keeps = c.keeps }
rests-choice (Err Off) old new c = record { area = λ ne. absurd (ne refl); keeps = c.keeps }
rests-choice (Err Fault) old new c = record { area = λ ne. c.area; keeps = c.keeps }

pub chooses-acts : (content : Content) (faults : ℕ) (sum : List ℕ) (old new : Medium) (sink : Written) (r : Result Bool Down) → When content (λ tree. listed tree ≡ Some sum) → Chooses sum old r new
    → ActsFor committed content (scene faults old sink) (scene faults new sink) (choice_answer r)
chooses-acts content faults sum old new sink r lists c = record {
  answered = answered-choice content sum lists old new r c;
  counted = record { ends = choice-ends r old new c.ends; source = choice-faults r faults };
  says = (choice-sink r, refl);
  stands = record {
    sane = c.sane;
    boots = within-boots (IsApart choice_at 1) choice-apart old new c.within;
    named = λ e. where-both _ _ old.disk new.disk
        (through-choice r _ e c.named)
        (names-kept origin_at new (through-on _ old new (choice-ends r old new c.ends) e) old.disk new.disk (c.within.bytes origin_at (inr (omega arith))));
  };
  writing = record {
    early = choice-early sum old r new c;
    idle = λ e. absurd cc;
    nothing_to_do = if-disk (λ area. Agree area → ⊥) (Calm old r new) (Rests (choice_answer r) old new) old.disk (rests-choice r old new) c.calm;
    keeps_choice = λ e. absurd cc;
    choice_alone = λ e. c.within;
  };
  downloads = λ e. absurd cc;
  commits = λ e. record {
    commits = keeps content sum lists old new (choice_answer r) (off-answer (choice_answer r) old new (choice-ends r old new c.ends)) old.disk new.disk c.written;
    commit_cut = λ sane. either content sum lists old new old.disk new.disk (c.either sane);
    commit_done = λ done. choice-done sum old r new c done;
  };
  rollback_done = λ e. absurd cc;
  cleans_up = λ e. absurd cc;
}

-- What the words leave that read no artifact.
use Rattle.std.proofs.Common.{◌≡◌, ◌⊎◌, inl, inr, ℕ, true, false, List, length, refl, sym, ◌∙◌, subst, arith}
use Rattle.std.specs.Prelude.{◌≢◌, Option, Some, None, Result, Ok, Err, IfSome, OnOk, ⊤}
use Rattle.io_model.specs.Source.{Tree, Content}
use Rattle.io_model.specs.Sink.{Written}
use Rattle.device_model.specs.declared.calls.Down.{Down}
use Rattle.device_model.specs.declared.calls.Down.TheVariants.{Off, Fault}
use Rattle.device_model.specs.declared.calls.ModState.TheVariants as state
use Rattle.device_model.specs.declared.module_word.ModuleWord.{ModuleWord}
use Rattle.device_model.specs.declared.module_word.ModuleWord.TheVariants.{State}
use Rattle.device_model.specs.Disk.{Disk, IsApart, IsSettled, WhereTold, MayHold}
use Rattle.device_model.specs.How.{Through, how_of as down_how}
use Rattle.ab_image.specs.declared.partition.Partition.{Partition}
use Rattle.ab_image.specs.declared.report.AbAct.{AbAct}
use Rattle.ab_image.specs.declared.report.AbAct.TheVariants as answer
use Rattle.ab_image.specs.Layout.{choice_at, origin_at, chosen, origin, Agree, StaysOrNames}
use Rattle.ab_image.specs.Blocks.{Medium, EndsAs}
use Rattle.ab_image.specs.Parts.{Within, KeepsByte, Calm, Aligns, Cleans, RollsBack}
use Rattle.ab_image.specs.Words.{use_of}
use Rattle.ab_image.specs.Answers.{IsProper, row_of, how_of, source_after, may_answer, answer_of}
use Rattle.ab_image.specs.Act.{FindsImage, Answered, Writing, CleansUp, ActsFor, Says, WritesNothing, Rests, KeepsChoice, BootsAs, Leaves, scene}
use Rattle.ab_image.proofs.Areas.{Keeps, whole-kept, choice-apart, origin-apart}
use Rattle.ab_image.proofs.Naming.{if-disk, where-both, names-kept, through-on}
use Rattle.ab_image.proofs.Still.{when-all, if-all}

-- the answers of such words
abbrev pub IsUnread : AbAct → Type 0
IsUnread answer.Done = ⊤
IsUnread answer.DiskFault = ⊤
IsUnread answer.SinkFault = ⊤
IsUnread answer.Off = ⊤
IsUnread _ = ⊥

-- what their rows say
pub record IsUnreadRow (word : Option ModuleWord) (size faults : ℕ) (result : AbAct) : Type 0 where
  pub may : may_answer word result ≡ true
  pub proper : IsProper size result
  pub late : (row_of result).early ≡ true → ⊥
  pub source : faults ≡ source_after result faults

unread : (word : Option ModuleWord) (size faults : ℕ) (result : AbAct) → IsUnread result → IsUnreadRow word size faults result
unread word size faults answer.Done u = record { may = refl; proper = tt; late = λ e. cc; source = refl }
unread word size faults answer.DiskFault u = record { may = refl; proper = tt; late = λ e. cc; source = refl }
unread word size faults answer.SinkFault u = record { may = refl; proper = tt; late = λ e. cc; source = refl }
unread word size faults answer.Off u = record { may = refl; proper = tt; late = λ e. cc; source = refl }
unread word size faults _ u = absurd u

module _ (word : ModuleWord) (alone : (use_of (Some word)).reads ≡ false) where
  no-reader : (w : ModuleWord) → (use_of (Some w)).reads ≡ true → Some word ≡ Some w → ⊥
  no-reader w reads e = let no : true ≡ false = sym reads ∙ subst (λ (o : Option ModuleWord). (use_of o).reads ≡ false) e alone in cc

  no-download : Some word ≡ Some (State state.Download) → ⊥
  no-download = no-reader (State state.Download) refl

  no-commit : Some word ≡ Some (State state.ArtifactCommit) → ⊥
  no-commit = no-reader (State state.ArtifactCommit) refl

  pub answered-alone : (content : Content) (old : Medium) (result : AbAct) → IsUnread result → Answered (Some word) content old result
  answered-alone content old result u = record {
    is_for = (unread (Some word) old.size 0 result u).may;
    proper = (unread (Some word) old.size 0 result u).proper;
    usage = (λ e. absurd (subst IsUnread e u), λ e. absurd cc);
    bad_payload = when-all content _ (λ tree n. record { only = λ e. absurd (subst IsUnread e u); always = λ h. absurd (no-download h.asked) });
    no_checksum = when-all content _ (λ tree. record { only = λ e. absurd (subst IsUnread e u); always = λ h. absurd (no-sum tree h.asks) });
    too_long = when-all content _ (λ tree n. record { only = λ e. absurd (subst IsUnread e u); always = λ h. absurd (no-download h.finds.finds.asked) });
    differs = when-all content _ (λ tree sum found. record { only = λ e. absurd (subst IsUnread e u); always = λ h. absurd (no-download h.finds.finds.asked) });
    not_ready = when-all content _ (λ tree. if-all old.disk _ (λ d. record { only = λ e. absurd (subst IsUnread e u); always = λ h. absurd (no-commit h.asked) }));
  }
    where
      no-sum : (tree : Tree) → FindsImage (Some word) tree ⊎ (Some word ≡ Some (State state.ArtifactCommit)) → ⊥
      no-sum tree (inl f) = no-download f.asked
      no-sum tree (inr e) = no-commit e

ends-answer : (r : Result (Unit {0}) Down) (old new : Medium) → EndsAs (down_how r) old new → EndsAs (how_of (answer_of r)) old new
ends-answer (Ok x) old new h = h
ends-answer (Err Off) old new h = h
ends-answer (Err Fault) old new h = h

unread-answer : (r : Result (Unit {0}) Down) → IsUnread (answer_of r)
unread-answer (Ok x) = tt
unread-answer (Err Off) = tt
unread-answer (Err Fault) = tt

-- only one answer is the power's
pub off-answer : (result : AbAct) (old new : Medium) → EndsAs (how_of result) old new → new.on ≡ false → result ≡ answer.Off
off-answer answer.Off old new h off = refl
off-answer _ old new h off = let no : true ≡ false = sym h.on ∙ off in absurd cc

done-answer : (r : Result (Unit {0}) Down) (P : Type 0) → answer_of r ≡ answer.Done → OnOk r P → P
done-answer (Ok x) P e h = h
done-answer (Err Off) P e h = absurd cc
done-answer (Err Fault) P e h = absurd cc

through-ok : (r : Result (Unit {0}) Down) (P : Type 0) → how_of (answer_of r) ≡ Through → OnOk r P → P
through-ok (Ok x) P e h = h
through-ok (Err Off) P e h = absurd cc
through-ok (Err Fault) P e h = absurd cc

rests-answer : (r : Result (Unit {0}) Down) (old new : Medium) → Calm old r new → Rests (answer_of r) old new
rests-answer (Ok x) old new c = record { area = λ ne. c.area; keeps = c.keeps }
rests-answer (Err Off) old new c = record { area = λ ne. absurd (ne refl); keeps = c.keeps }
rests-answer (Err Fault) old new c = record { area = λ ne. c.area; keeps = c.keeps }

pub choice-byte : (result : AbAct) (new : Medium) → (new.on ≡ false → result ≡ answer.Off) → (a b : Option Disk) → WhereTold (KeepsByte choice_at new) a b → WhereTold (KeepsChoice result) a b
choice-byte result new off None None h = tt
choice-byte result new off None (Some e) h = h
choice-byte result new off (Some d) None h = h
choice-byte result new off (Some d) (Some e) (inl s) = inl s
choice-byte result new off (Some d) (Some e) (inr h) = inr (off h.0, h.1)

-- the partition that was chosen keeps its image, where only bytes apart from both were written
pub within-boots : (kept : ℕ → Type 0) → ((size : ℕ) (p : Partition) → Keeps kept size p) → (old new : Medium) → Within kept old new → (area : List ℕ) → MayHold new.disk area → BootsAs old.disk area
within-boots kept apart old new w area held =
    let before = w.touches area held in
    record { before = before.0; held = before.1; same = λ image whole. whole-kept kept before.0 area before.2 (chosen before.0) image (apart (length before.0) (chosen before.0)) whole }

-- ---- a rollback and a clean-up: one byte is set to the partition that another names

module _ (at : ℕ) (goal : List ℕ → List ℕ → Type 0) (old new : Medium) (r : Result (Unit {0}) Down) (a : Aligns at goal old r new) where
  done-goal : answer_of r ≡ answer.Done → IsSettled new.disk × WhereTold (λ d e. goal d.area e.area) old.disk new.disk
  done-goal e = (done-answer r _ e a.settled, done-answer r _ e a.area)

  rests-aligned : IfSome old.disk (λ d. Agree d.area → Rests (answer_of r) old new)
  rests-aligned = if-disk Agree (Calm old r new) (Rests (answer_of r) old new) old.disk (rests-answer r old new) a.calm

  -- the byte that may be written, and one that stays
  named-aligned : how_of (answer_of r) ≡ Through → WhereTold (λ d e. StaysOrNames at d.area e.area) old.disk new.disk
  named-aligned e = through-ok r _ e a.named

  named-apart : (i : ℕ) → IsApart at 1 i → how_of (answer_of r) ≡ Through → WhereTold (λ d e. StaysOrNames i d.area e.area) old.disk new.disk
  named-apart i out e = names-kept i new (through-on _ old new (ends-answer r old new a.ends) e) old.disk new.disk (a.within.bytes i out)

  aligned-acts : (word : ModuleWord) → (use_of (Some word)).reads ≡ false → ((size : ℕ) (p : Partition) → Keeps (IsApart at 1) size p) → (content : Content) (faults : ℕ) (sink : Written) → Says (Some word) (answer_of r) sink sink
      → Writing (use_of (Some word)) old new (answer_of r) → (how_of (answer_of r) ≡ Through → WhereTold (λ d e. StaysOrNames choice_at d.area e.area × StaysOrNames origin_at d.area e.area) old.disk new.disk)
      → (Some word ≡ Some (State state.ArtifactRollback) → Leaves (answer_of r) old new (λ before after. chosen after ≡ origin before)) → (Some word ≡ Some (State state.Cleanup) → CleansUp old new (answer_of r))
      → ActsFor (Some word) content (scene faults old sink) (scene faults new sink) (answer_of r)
  aligned-acts word alone apart content faults sink says writing named rolls cleans = record {
    answered = answered-alone word alone content old (answer_of r) (unread-answer r);
    counted = record { ends = ends-answer r old new a.ends; source = (unread (Some word) old.size faults (answer_of r) (unread-answer r)).source };
    says = says;
    stands = record { sane = a.sane; boots = within-boots (IsApart at 1) apart old new a.within; named = named };
    writing = writing;
    downloads = λ e. absurd (no-download word alone e);
    commits = λ e. absurd (no-commit word alone e);
    rollback_done = rolls;
    cleans_up = cleans;
  }

  late-aligned : (row_of (answer_of r)).early ≡ true → WritesNothing old new
  late-aligned e = absurd ((unread None old.size 0 (answer_of r) (unread-answer r)).late e)

no-sink : (r : Result (Unit {0}) Down) → answer_of r ≢ answer.SinkFault
no-sink (Ok x) e = absurd cc
no-sink (Err Off) e = absurd cc
no-sink (Err Fault) e = absurd cc

pub cleans-acts : (content : Content) (faults : ℕ) (old new : Medium) (sink : Written) (r : Result (Unit {0}) Down) → Cleans old r new
    → ActsFor (Some (State state.Cleanup)) content (scene faults old sink) (scene faults new sink) (answer_of r)
cleans-acts content faults old new sink r a =
    let goal : List ℕ → List ℕ → Type 0 = λ before after. Agree after in
    aligned-acts origin_at goal old new r a (State state.Cleanup) refl origin-apart content faults sink (no-sink r, refl)
    (record {
      early = late-aligned origin_at goal old new r a;
      idle = λ e. absurd cc;
      nothing_to_do = rests-aligned origin_at goal old new r a;
      keeps_choice = λ e. choice-byte (answer_of r) new (off-answer (answer_of r) old new (ends-answer r old new a.ends)) old.disk new.disk (a.within.bytes choice_at (inl (omega arith)));
      choice_alone = λ e. absurd cc;
    })
    (λ e. where-both _ _ old.disk new.disk (named-apart origin_at goal old new r a choice_at (inl (omega arith)) e) (named-aligned origin_at goal old new r a e))
    (λ e. absurd cc)
    (λ e. record { origin_alone = a.within; cleanup_done = done-goal origin_at goal old new r a })

pub rolls-acts : (content : Content) (faults : ℕ) (old new : Medium) (sink : Written) (r : Result (Unit {0}) Down) → RollsBack old r new
    → ActsFor (Some (State state.ArtifactRollback)) content (scene faults old sink) (scene faults new sink) (answer_of r)
rolls-acts content faults old new sink r a =
    let goal : List ℕ → List ℕ → Type 0 = λ before after. chosen after ≡ origin before in
    aligned-acts choice_at goal old new r a (State state.ArtifactRollback) refl choice-apart content faults sink (no-sink r, refl)
    (record {
      early = late-aligned choice_at goal old new r a;
      idle = λ e. absurd cc;
      nothing_to_do = rests-aligned choice_at goal old new r a;
      keeps_choice = λ e. absurd cc;
      choice_alone = λ e. a.within;
    })
    (λ e. where-both _ _ old.disk new.disk (named-aligned choice_at goal old new r a e) (named-apart choice_at goal old new r a origin_at (inr (omega arith)) e))
    (λ e. done-goal choice_at goal old new r a)
    (λ e. absurd cc)

-- What Download answers and leaves once it has found an image.
use Rattle.std.proofs.Common.{◌≡◌, ◌⊎◌, inl, inr, ℕ, ◌≤◌, true, List, length, refl, sym, ◌∙◌, ap, subst, arith}
use Rattle.std.specs.Prelude.{Option, Some, None, IfSome}
use Rattle.sha2.specs.Sha256.{sha256}
use Rattle.io_model.specs.Source.{Tree, Content, When, IsLength, bytes_at}
use Rattle.io_model.specs.Source.Content.{Told, Untold}
use Rattle.io_model.specs.Sink.{Written}
use Rattle.device_model.specs.Disk.{Disk, WhereTold, IsSettled}
use Rattle.ab_image.specs.declared.image.Image.{Image}
use Rattle.ab_image.specs.declared.report.AbAct.{AbAct}
use Rattle.ab_image.specs.declared.report.AbAct.TheVariants as answer
use Rattle.ab_image.specs.Layout.{choice_at, partition_size, other, chosen, Agree, Whole}
use Rattle.ab_image.specs.Blocks.{Medium}
use Rattle.ab_image.specs.Parts.{BothTold}
use Rattle.ab_image.specs.Artifact.{image_of, listed}
use Rattle.ab_image.specs.Finding.{IsImageOf}
use Rattle.ab_image.specs.Answers.{IsCut, IsProper, row_of, source_after, may_answer}
use Rattle.ab_image.specs.Act.{Comes, HasCount, HasNoSum, IsTooLong, HasOtherSum, Answered, ActsFor, HoldsImage, scene}
use Rattle.ab_image.specs.Taking.{Judges, Stores}
use Rattle.ab_image.proofs.Steps.{told-any}
use Rattle.ab_image.proofs.Naming.{where-both, names-kept, through-on}
use Rattle.ab_image.proofs.Alone.{choice-byte, off-answer}
use Rattle.ab_image.proofs.Still.{when-all, if-all}
use Rattle.ab_image.proofs.Unfound.{download, same-some, some-none}

-- ---- by the answer

module _ (content : Content) (file : ℕ) (listing : List ℕ) where
  for-judged : (r : AbAct) → Judges content file listing r → may_answer download r ≡ true
  for-judged answer.Done j = refl
  for-judged (answer.Differs a b) j = refl
  for-judged answer.DiskFault j = refl
  for-judged answer.SourceFault j = refl
  for-judged answer.Off j = refl
  for-judged _ j = absurd j

  proper-judged : (size : ℕ) (r : AbAct) → Judges content file listing r → IsProper size r
  proper-judged size answer.Done j = tt
  proper-judged size (answer.Differs a b) j = j.1
  proper-judged size answer.DiskFault j = tt
  proper-judged size answer.SourceFault j = tt
  proper-judged size answer.Off j = tt
  proper-judged size _ j = absurd j

  late-judged : (r : AbAct) → Judges content file listing r → (row_of r).early ≡ true → ⊥
  late-judged answer.Done j e = cc
  late-judged (answer.Differs a b) j e = cc
  late-judged answer.DiskFault j e = cc
  late-judged answer.SourceFault j e = cc
  late-judged answer.Off j e = cc
  late-judged _ j e = j

-- ---- the causes, where the files are told

module _ (tree : Tree) (image : Image) (size : ℕ) (finds : IsImageOf tree image) (long : image.size ≡ length (bytes_at tree image.file)) (fits : image.size ≤ partition_size size) where
  abbrev Judged : AbAct → Type 0
  Judged r = Judges (Told tree) image.file image.listed r

  same-image : (bytes : List ℕ) → image_of tree ≡ Some bytes → bytes ≡ bytes_at tree image.file
  same-image bytes is = same-some (image_of tree) bytes (bytes_at tree image.file) is finds.is_image

  same-sum : (sum : List ℕ) → listed tree ≡ Some sum → sum ≡ image.listed
  same-sum sum is = same-some (listed tree) sum image.listed is finds.is_listed

  differs-always : (sum found : List ℕ) (r : AbAct) → Judged r → HasOtherSum download tree size sum found → (r ≡ answer.Differs sum found) ⊎ IsCut r
  differs-always sum found answer.Done j h =
      absurd (h.differs (same-sum sum h.finds.is_listed ∙ j ∙ ap sha256 (sym (same-image h.image h.finds.is_image)) ∙ sym h.is_found))
  differs-always sum found (answer.Differs a b) j h =
      let first : a ≡ sum = j.0 ∙ sym (same-sum sum h.finds.is_listed) in
      let second : b ≡ found = j.2 ∙ ap sha256 (sym (same-image h.image h.finds.is_image)) ∙ sym h.is_found in
      inl cc
  differs-always sum found answer.DiskFault j h = inr refl
  differs-always sum found answer.SourceFault j h = inr refl
  differs-always sum found answer.Off j h = inr refl
  differs-always sum found _ j h = absurd j

  module _ (r : AbAct) (j : Judged r) where
    no-count : (k : ℕ) → Comes (answer.BadPayload k) (HasCount download tree k) r
    no-count k = record {
      only = λ e. absurd (subst Judged e j);
      always = λ h. absurd (h.wrong (h.is_count ∙ finds.one));
    }

    has-sum : Comes answer.NoChecksum (HasNoSum download tree) r
    has-sum = record {
      only = λ e. absurd (subst Judged e j);
      always = λ h. absurd (some-none (listed tree) image.listed finds.is_listed h.none);
    }

    has-room : (k : ℕ) → Comes (answer.TooLong k) (IsTooLong download tree size k) r
    has-room k = record {
      only = λ e. absurd (subst Judged e j);
      always = λ h. absurd (omega (arith, h.long, h.is_count, ap length (same-image h.image h.finds.is_image), long, fits));
    }

    differs-by : (sum found : List ℕ) → Comes (answer.Differs sum found) (HasOtherSum download tree size sum found) r
    differs-by sum found = record {
      only = λ e.
          let k : Judged (answer.Differs sum found) = subst Judged e j in
          record {
            image = bytes_at tree image.file;
            finds = record { finds = record { asked = refl; one = finds.one }; is_image = finds.is_image; is_listed = finds.is_listed ∙ ap (λ (s : List ℕ). Some s) (sym k.0) };
            fits = subst (λ (n : ℕ). n ≤ partition_size size) long fits;
            is_found = k.2;
            differs = k.1;
          };
      always = differs-always sum found r j;
    }

module _ (image : Image) (old : Medium) (fits : image.size ≤ partition_size old.size) (r : AbAct) where
  count-told : (c : Content) → When c (λ tree. IsImageOf tree image) → IsLength c image.file image.size → Judges c image.file image.listed r → When c (λ tree. (k : ℕ) → Comes (answer.BadPayload k) (HasCount download tree k) r)
  count-told (Untold m) f l j = tt
  count-told (Told tree) f l j = no-count tree image old.size f l fits r j

  sum-told : (c : Content) → When c (λ tree. IsImageOf tree image) → IsLength c image.file image.size → Judges c image.file image.listed r → When c (λ tree. Comes answer.NoChecksum (HasNoSum download tree) r)
  sum-told (Untold m) f l j = tt
  sum-told (Told tree) f l j = has-sum tree image old.size f l fits r j

  room-told : (c : Content) → When c (λ tree. IsImageOf tree image) → IsLength c image.file image.size → Judges c image.file image.listed r → When c (λ tree. (k : ℕ) → Comes (answer.TooLong k) (IsTooLong download tree old.size k) r)
  room-told (Untold m) f l j = tt
  room-told (Told tree) f l j = has-room tree image old.size f l fits r j

  differs-told : (c : Content) → When c (λ tree. IsImageOf tree image) → IsLength c image.file image.size → Judges c image.file image.listed r → When c (λ tree. (sum found : List ℕ) → Comes (answer.Differs sum found) (HasOtherSum download tree old.size sum found) r)
  differs-told (Untold m) f l j = tt
  differs-told (Told tree) f l j = differs-by tree image old.size f l fits r j

  pub answered-taken : (c : Content) → When c (λ tree. IsImageOf tree image) → IsLength c image.file image.size → Judges c image.file image.listed r → Answered download c old r
  answered-taken c f l j = record {
    is_for = for-judged c image.file image.listed r j;
    proper = proper-judged c image.file image.listed old.size r j;
    usage = (λ e. absurd (subst (λ (a : AbAct). Judges c image.file image.listed a) e j), λ e. absurd cc);
    bad_payload = count-told c f l j;
    no_checksum = sum-told c f l j;
    too_long = room-told c f l j;
    differs = differs-told c f l j;
    not_ready = when-all c _ (λ tree. if-all old.disk _ (λ d. record { only = λ e. absurd (subst (λ (a : AbAct). Judges c image.file image.listed a) e j); always = λ h. let e = h.asked in absurd cc }));
  }

-- ---- what is left

-- the other partition has the image, where files and disk are told
holds-told : (c : Content) (image : Image) (a b : Option Disk) → BothTold a b → When c (λ tree. IsImageOf tree image) → When c (λ t. image.listed ≡ sha256 (bytes_at t image.file)) → IfSome b (λ d. Agree d.area)
    → When c (λ t. IfSome b (λ d. Whole d.area (other (chosen d.area)) (bytes_at t image.file))) → WhereTold (λ d e. Agree e.area × When c (λ tree. HoldsImage tree e.area)) a b
holds-told c image None None t f s agree whole = tt
holds-told c image None (Some e) t f s agree whole = t
holds-told c image (Some d) None t f s agree whole = t
holds-told c image (Some d) (Some e) t f s agree whole = (agree, by-content c f s whole)
  where
    by-content : (c : Content) → When c (λ tree. IsImageOf tree image) → When c (λ t. image.listed ≡ sha256 (bytes_at t image.file)) → When c (λ t. Whole e.area (other (chosen e.area)) (bytes_at t image.file)) → When c (λ tree. HoldsImage tree e.area)
    by-content (Untold m) f s w = tt
    by-content (Told tree) f s w = record { image = bytes_at tree image.file; is_image = f.is_image; whole = w; listed = f.is_listed ∙ ap (λ (l : List ℕ). Some l) s }

-- what stands where it is done
pub record IsTaken (c : Content) (file : ℕ) (new : Option Disk) : Type 0 where
  pub settled : IsSettled new
  pub agree : IfSome new (λ d. Agree d.area)
  pub whole : When c (λ t. IfSome new (λ d. Whole d.area (other (chosen d.area)) (bytes_at t file)))

pub taken-acts : (c : Content) (image : Image) (before between behind : ℕ) (old new : Medium) (sink : Written) (r : AbAct) → When c (λ tree. IsImageOf tree image) → IsLength c image.file image.size → image.size ≤ partition_size old.size → between ≡ before
    → behind ≡ source_after r between → Judges c image.file image.listed r → Stores r old new → (r ≡ answer.Done → IsTaken c image.file new.disk)
    → ActsFor download c (scene before old sink) (scene behind new sink) r
taken-acts c image before between behind old new sink r f l fits counts source j s taken =
    let not : (a : AbAct) → r ≡ a → Judges c image.file image.listed a = λ a e. subst (λ (a : AbAct). Judges c image.file image.listed a) e j in
    record {
      answered = answered-taken image old fits r c f l j;
      counted = record { ends = s.ends; source = source ∙ ap (λ (n : ℕ). source_after r n) counts };
      says = (λ e. absurd (not answer.SinkFault e), refl);
      stands = record {
        sane = s.sane;
        boots = s.boots;
        named = λ e. where-both _ _ old.disk new.disk (names-kept choice_at new (through-on _ old new s.ends e) old.disk new.disk s.choice) (s.named e);
      };
      writing = record {
        early = λ e. absurd (late-judged c image.file image.listed r j e);
        idle = λ e. absurd cc;
        nothing_to_do = if-all old.disk _ (λ d nothing. absurd nothing);
        keeps_choice = λ e. choice-byte r new (λ off. off-answer r old new s.ends off) old.disk new.disk s.choice;
        choice_alone = λ e. absurd cc;
      };
      downloads = λ w. record {
        download_alone = s.spared;
        download_done = λ e. let t = taken e in (t.settled, holds-told c image old.disk new.disk (told-any _ old.disk new.disk s.choice) f (not answer.Done e) t.agree t.whole);
      };
      commits = λ e. absurd cc;
      rollback_done = λ e. absurd cc;
      cleans_up = λ e. absurd cc;
    }

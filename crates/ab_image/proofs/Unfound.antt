-- What Download answers and leaves where it finds no image that it may take.
use Rattle.std.proofs.Common.{◌≡◌, ◌⊎◌, inl, inr, ℕ, ◌<◌, true, List, length, refl, sym, ◌∙◌, ap, subst, arith}
use Rattle.std.specs.Prelude.{Option, Some, None}
use Rattle.io_model.specs.Source.{Tree, Content, When}
use Rattle.io_model.specs.Source.Content.{Told, Untold}
use Rattle.io_model.specs.Sink.{Written}
use Rattle.device_model.specs.How.{Through}
use Rattle.device_model.specs.declared.calls.ModState.TheVariants as state
use Rattle.device_model.specs.declared.module_word.ModuleWord.{ModuleWord}
use Rattle.device_model.specs.declared.module_word.ModuleWord.TheVariants.{State}
use Rattle.ab_image.specs.declared.report.AbAct.{AbAct}
use Rattle.ab_image.specs.declared.report.AbAct.TheVariants as answer
use Rattle.ab_image.specs.Layout.{partition_size}
use Rattle.ab_image.specs.Blocks.{Medium}
use Rattle.ab_image.specs.Artifact.{count_images, image_of, listed}
use Rattle.ab_image.specs.Finding.{NoImage}
use Rattle.ab_image.specs.Answers.{IsCut, IsProper, how_of, source_after, may_answer}
use Rattle.ab_image.specs.Act.{Comes, FindsImage, HasCount, HasNoSum, IsTooLong, HasOtherSum, Answered, ActsFor, scene}
use Rattle.ab_image.proofs.Still.{when-all, if-all, ends-still, still-acts}

abbrev pub download : Option ModuleWord
download = Some (State state.Download)

-- two values for one option
pub same-some : {A : Type 0} (o : Option A) (a b : A) → o ≡ Some a → o ≡ Some b → a ≡ b
same-some o a b e f = let both : Some a ≡ Some b = sym e ∙ f in cc

pub some-none : {A : Type 0} (o : Option A) (a : A) → o ≡ Some a → o ≡ None → ⊥
some-none o a e f = let both : Some a ≡ None = sym e ∙ f in absurd cc

module _ (content : Content) (most : ℕ) where
  row-unfound : (stop : AbAct) → NoImage content most stop → (may_answer download stop ≡ true) × (how_of stop ≡ Through)
  row-unfound (answer.BadPayload k) n = (refl, refl)
  row-unfound answer.NoChecksum n = (refl, refl)
  row-unfound (answer.TooLong k) n = (refl, refl)
  row-unfound answer.SourceFault n = (refl, refl)
  row-unfound answer.NoMemory n = (refl, refl)
  row-unfound _ n = absurd n

  proper-unfound : (size : ℕ) (stop : AbAct) → most ≡ partition_size size → NoImage content most stop → IsProper size stop
  proper-unfound size (answer.BadPayload k) is n = n.0
  proper-unfound size (answer.TooLong k) is n = subst (λ (m : ℕ). m < k) is n.0
  proper-unfound size answer.NoChecksum is n = tt
  proper-unfound size answer.SourceFault is n = tt
  proper-unfound size answer.NoMemory is n = tt
  proper-unfound size _ is n = absurd n

-- ---- the causes, where the files are told

module _ (tree : Tree) (size : ℕ) where
  abbrev Unfound : AbAct → Type 0
  Unfound stop = NoImage (Told tree) (partition_size size) stop

  count-always : (k : ℕ) (stop : AbAct) → Unfound stop → HasCount download tree k → (stop ≡ answer.BadPayload k) ⊎ IsCut stop
  count-always k (answer.BadPayload j) n h = inl (ap (λ (i : ℕ). answer.BadPayload i) (n.1 ∙ sym h.is_count))
  count-always k answer.NoChecksum n h = absurd (h.wrong (h.is_count ∙ n.0))
  count-always k (answer.TooLong j) n h = absurd (h.wrong (h.is_count ∙ n.1.one))
  count-always k answer.SourceFault n h = inr refl
  count-always k answer.NoMemory n h = inr refl
  count-always k _ n h = absurd n

  one-image : HasNoSum download tree → count_images tree ≡ 1
  one-image h = asked h.asks
    where
      asked : FindsImage download tree ⊎ (download ≡ Some (State state.ArtifactCommit)) → count_images tree ≡ 1
      asked (inl f) = f.one
      asked (inr e) = absurd cc

  none-always : (stop : AbAct) → Unfound stop → HasNoSum download tree → (stop ≡ answer.NoChecksum) ⊎ IsCut stop
  none-always (answer.BadPayload j) n h = absurd (n.0 (n.1 ∙ one-image h))
  none-always answer.NoChecksum n h = inl refl
  none-always (answer.TooLong j) n h = absurd (some-none (listed tree) n.1.sum n.1.is_listed h.none)
  none-always answer.SourceFault n h = inr refl
  none-always answer.NoMemory n h = inr refl
  none-always _ n h = absurd n

  long-always : (k : ℕ) (stop : AbAct) → Unfound stop → IsTooLong download tree size k → (stop ≡ answer.TooLong k) ⊎ IsCut stop
  long-always k (answer.BadPayload j) n h = absurd (n.0 (n.1 ∙ h.finds.finds.one))
  long-always k answer.NoChecksum n h = absurd (some-none (listed tree) h.sum h.finds.is_listed n.1)
  long-always k (answer.TooLong j) n h =
      inl (ap (λ (i : ℕ). answer.TooLong i) (n.1.is_count ∙ ap length (same-some (image_of tree) n.1.image h.image n.1.is_image h.finds.is_image) ∙ sym h.is_count))
  long-always k answer.SourceFault n h = inr refl
  long-always k answer.NoMemory n h = inr refl
  long-always k _ n h = absurd n

  other-always : (sum found : List ℕ) (stop : AbAct) → Unfound stop → HasOtherSum download tree size sum found → (stop ≡ answer.Differs sum found) ⊎ IsCut stop
  other-always sum found (answer.BadPayload j) n h = absurd (n.0 (n.1 ∙ h.finds.finds.one))
  other-always sum found answer.NoChecksum n h = absurd (some-none (listed tree) sum h.finds.is_listed n.1)
  other-always sum found (answer.TooLong j) n h =
      let same : n.1.image ≡ h.image = same-some (image_of tree) n.1.image h.image n.1.is_image h.finds.is_image in
      absurd (omega (arith, n.0, n.1.is_count, ap length same, h.fits))
  other-always sum found answer.SourceFault n h = inr refl
  other-always sum found answer.NoMemory n h = inr refl
  other-always sum found _ n h = absurd n

  module _ (stop : AbAct) (n : Unfound stop) where
    bad-payload : (k : ℕ) → Comes (answer.BadPayload k) (HasCount download tree k) stop
    bad-payload k = record {
      only = λ e. let u : Unfound (answer.BadPayload k) = subst (λ (a : AbAct). Unfound a) e n in record { asked = refl; is_count = u.1; wrong = u.0 };
      always = count-always k stop n;
    }

    no-checksum : Comes answer.NoChecksum (HasNoSum download tree) stop
    no-checksum = record {
      only = λ e. let u : Unfound answer.NoChecksum = subst (λ (a : AbAct). Unfound a) e n in record { asks = inl (record { asked = refl; one = u.0 }); none = u.1 };
      always = none-always stop n;
    }

    too-long : (k : ℕ) → Comes (answer.TooLong k) (IsTooLong download tree size k) stop
    too-long k = record {
      only = λ e.
          let u : Unfound (answer.TooLong k) = subst (λ (a : AbAct). Unfound a) e n in
          record {
            image = u.1.image;
            sum = u.1.sum;
            finds = record { finds = record { asked = refl; one = u.1.one }; is_image = u.1.is_image; is_listed = u.1.is_listed };
            is_count = u.1.is_count;
            long = u.0;
          };
      always = long-always k stop n;
    }

    other-sum : (sum found : List ℕ) → Comes (answer.Differs sum found) (HasOtherSum download tree size sum found) stop
    other-sum sum found = record {
      only = λ e. absurd (subst (λ (a : AbAct). Unfound a) e n);
      always = other-always sum found stop n;
    }

answered-unfound : (content : Content) (old : Medium) (stop : AbAct) → NoImage content (partition_size old.size) stop → Answered download content old stop
answered-unfound content old stop n = record {
  is_for = (row-unfound content (partition_size old.size) stop n).0;
  proper = proper-unfound content (partition_size old.size) old.size stop refl n;
  usage = (λ e. absurd (subst (λ (a : AbAct). NoImage content (partition_size old.size) a) e n), λ e. absurd cc);
  bad_payload = payload content n;
  no_checksum = checksum content n;
  too_long = long content n;
  differs = other content n;
  not_ready = when-all content _ (λ tree. if-all old.disk _ (λ d. record { only = λ e. absurd (subst (λ (a : AbAct). NoImage content (partition_size old.size) a) e n); always = λ h. let e = h.asked in absurd cc }));
}
  where
    payload : (c : Content) → NoImage c (partition_size old.size) stop → When c (λ tree. (k : ℕ) → Comes (answer.BadPayload k) (HasCount download tree k) stop)
    payload (Untold m) n = tt
    payload (Told tree) n = bad-payload tree old.size stop n

    checksum : (c : Content) → NoImage c (partition_size old.size) stop → When c (λ tree. Comes answer.NoChecksum (HasNoSum download tree) stop)
    checksum (Untold m) n = tt
    checksum (Told tree) n = no-checksum tree old.size stop n

    long : (c : Content) → NoImage c (partition_size old.size) stop → When c (λ tree. (k : ℕ) → Comes (answer.TooLong k) (IsTooLong download tree old.size k) stop)
    long (Untold m) n = tt
    long (Told tree) n = too-long tree old.size stop n

    other : (c : Content) → NoImage c (partition_size old.size) stop → When c (λ tree. (sum found : List ℕ) → Comes (answer.Differs sum found) (HasOtherSum download tree old.size sum found) stop)
    other (Untold m) n = tt
    other (Told tree) n = other-sum tree old.size stop n

-- ---- what is left

pub unfound-acts : (content : Content) (before behind : ℕ) (blocks : Medium) (sink : Written) (stop : AbAct) → blocks.on ≡ true → NoImage content (partition_size blocks.size) stop → behind ≡ source_after stop before
    → ActsFor download content (scene before blocks sink) (scene behind blocks sink) stop
unfound-acts content before behind blocks sink stop on n counts =
    let not : (a : AbAct) → stop ≡ a → NoImage content (partition_size blocks.size) a = λ a e. subst (λ (a : AbAct). NoImage content (partition_size blocks.size) a) e n in
    still-acts download content before behind blocks sink sink stop (answered-unfound content blocks stop n)
    (record { ends = ends-still (how_of stop) blocks (row-unfound content (partition_size blocks.size) stop n).1 on; source = counts })
    (λ e. absurd (not answer.SinkFault e), refl)
    (λ e. absurd (not answer.Done e))

-- An install, over the database that was read.
use Rattle.std.proofs.Common.{◌≡◌, inl, inr, ℕ, List, [], ◌∷◌, refl, sym, ap, ◌∙◌, subst}
use Rattle.std.specs.Prelude.{◌≢◌, ◌≤◌, Bool, true, false, if◌then◌else◌, Option, Some, None, slice_get, option_map, Result, Ok, Err, IsTrue}
use Rattle.upd_text.specs.Told.{WhereTold}
use Rattle.upd_text.specs.Results.{◌>>=◌}
use Rattle.device_model.specs.declared.calls.Event.{Event}
use Rattle.device_model.specs.Disk.{area_of}
use Rattle.device_model.specs.State.{State}
use Rattle.device_model.specs.How.{Through, has_start}
use Rattle.io_model.specs.Source.{Content, Tree, When}
use Rattle.io_model.specs.Source.Content.{Told, Untold}
use Rattle.io_model.specs.Reading.{IsReadBy}
use Rattle.io_model.proofs.Readings.{part_of_once}
use Rattle.script_names.specs.declared.site.Site.{Site}
use Rattle.admit.specs.Given.{SparesPayloads, ReadsPayloads}
use Rattle.admit.specs.Admit.{plan_of, head_plan_of}
use Rattle.admit.specs.Answers.{IsProper}
use Rattle.admit.specs.IsOf.{IsOf}
use Rattle.admit.specs.Differing.{Listed, listed_of, in_payload, first_differing, differing_in, differing}
use Rattle.admit.specs.Table.{unless}
use Rattle.std.specs.List.{filter_map, cons_option}
use Rattle.std.specs.Str.{bytes_eq}
use Rattle.provides_map.specs.Pairs.{Pairs}
use Rattle.manifest_sums.specs.declared.manifest.Line.{Line}
use Rattle.admit.specs.declared.admitted.Admitted.{Admitted}
use Rattle.admit.specs.declared.refusal.Refusal.{Refusal}
use Rattle.admit.specs.declared.refusal.Refusal.TheVariants.{SumDiffers, PayloadDiffers}
use Rattle.admit.specs.declared.refusal.Differs.{Differs}
use Rattle.admit.proofs.Right.{rest_right}
use Rattle.admit.proofs.Spared.{reads_none, reads_after}
use Rattle.flow_table.specs.declared.position.State.{State as At}
use Rattle.flow_table.specs.declared.position.State.TheVariants as at
use Rattle.flow_table.specs.Table.{fresh_position}
use Rattle.flow_words.specs.Pieces.{End}
use Rattle.upd_text.specs.Counts.{counted}
use Rattle.record_codec.specs.declared.length.TheConstants.{LARGEST_RECORD}
use Rattle.flow_drive.specs.declared.flow.DriveEnd.{DriveEnd}
use Rattle.flow_drive.specs.Drive.{Drove, Leads, IsDecided, end_of as drive_end_of}
use Rattle.record_codec.specs.declared.entry.Db.{Db}
use Rattle.record_codec.specs.declared.entry.Entry.{Entry}
use Rattle.record_codec.specs.Spelling.{IsRight, IfFull, record_length}
use Rattle.record_codec.specs.Held.{held, position_of}
use Rattle.slot_store.specs.Kept.{Kept}
use Rattle.work_folder.specs.declared.fault.PrepareFault.{PrepareFault}
use Rattle.work_folder.specs.declared.fault.PrepareFault.TheVariants as prepare_fault
use Rattle.work_folder.specs.Prepare.{Touches, how_of_fault, after_fault, CopiesAll, CopiesSome, first_wrong}
use Rattle.work_folder.specs.Rows.{rows_of, copied_of}
use Rattle.work_folder.specs.Folder as folder
use Rattle.work_folder.proofs.Payloads.{only_payloads}
use Rattle.client_words.specs.declared.command.Command.TheVariants.{Install}
use Rattle.client_top.specs.declared.status.Status.{Status}
use Rattle.client_top.specs.declared.status.Status.TheVariants.{Done, Refused, NoUpdate, Inconsistent, RebootNeeded, DiskFault, SourceFault, NoMemory, SinkFault, Usage, PowerOff, BadStore, TooLarge, NotNow, NotInstalled}
use Rattle.client_top.specs.declared.status.NotNow.TheVariants.{InProgress}
use Rattle.client_top.specs.Finds.{Request, Found, Answers, finds, begun, beginning, starting, none_refused, install_found}
use Rattle.client_top.specs.Boot.{Boot, nothing, runs, begins, breaks_off, Fits}
use Rattle.client_top.specs.Answers.{row_of, source_count, opens, Says}
use Rattle.client_top.specs.Did.{Did, Shelf, is_copied}
use Rattle.client_top.specs.Steps.{Mounted, Planned, unprepared, other_sum, status_after}
use Rattle.client_top.proofs.Mounts.{still-did, reads-nothing}
use Rattle.client_top.proofs.Installs.{unprepared-did, install-did}
use Rattle.client_top.proofs.Afters.{after-ends, after-how, after-count, after-synced, after-due}
use Rattle.client_top.proofs.Trees.{payload-found}

-- ---- where a deployment is in progress

busy-found : (s : At) (site : Site) (content : Content) (c : Db) → s ≢ at.Idle → beginning s site content c ≡ Answers (NotNow (InProgress s))
busy-found at.Idle site content c h = absurd (h refl)
busy-found at.Download site content c h = refl
busy-found at.Install site content c h = refl
busy-found at.Reboot site content c h = refl
busy-found at.VerifyReboot site content c h = refl
busy-found at.Commit site content c h = refl
busy-found at.CommitLeave site content c h = refl
busy-found at.Rollback site content c h = refl
busy-found at.RollbackReboot site content c h = refl
busy-found at.VerifyRollbackReboot site content c h = refl
busy-found at.Failure site content c h = refl
busy-found at.Cleanup site content c h = refl
busy-found at.Wait site content c h = refl

-- ---- what was read

-- all bytes or a part of them, by whether a child was started
less-read : (b : Bool) (t : Tree) (i : ℕ) (old new : List ℕ) → IsReadBy true t i old new → IsReadBy b t i old new
less-read true t i old new h = h
less-read false t i old new h = part_of_once t i old new h

reads-less-told : (b : Bool) (t : Tree) (old new : Option (List ℕ)) → ReadsPayloads true t old new → ReadsPayloads b t old new
reads-less-told b t None None h = tt
reads-less-told b t None (Some n) h = absurd h
reads-less-told b t (Some o) None h = absurd h
reads-less-told b t (Some o) (Some n) h = λ i is. less-read b t i o n (h i is)

reads-less : (b : Bool) (c : Content) (old new : Option (List ℕ)) → When c (λ t. ReadsPayloads true t old new) → When c (λ t. ReadsPayloads b t old new)
reads-less b (Untold n) old new h = tt
reads-less b (Told t) old new h = reads-less-told b t old new h

-- ---- what differs

none-some : {d : Differs} → None ≡ Some d → ⊥
none-some h = cc

some-one : {a d : Differs} → Some a ≡ Some d → a ≡ d
some-one h = cc

-- where it is picked, what differs has its path
differs-by : (b : Bool) (line : Line) (sum : List ℕ) (d : Differs) → (if b then None else Some (record { path = line.path; listed = line.sum; found = sum })) ≡ Some d → line.path ≡ d.path
differs-by true line sum d h = absurd (none-some h)
differs-by false line sum d h = ap (λ (x : Differs). x.path) (some-one h)

picked-by : (b : Bool) (line : Line) (sum : List ℕ) (d : Differs) → in_payload line.path ≡ b → (if b then differing line sum else None) ≡ Some d → in_payload d.path ≡ true
picked-by true line sum d is h = subst (λ (p : List ℕ). in_payload p ≡ true) (differs-by (bytes_eq line.sum sum) line sum d h) is
picked-by false line sum d is h = absurd (none-some h)

-- it is this one, or one of the rest
first-by : (o : Option Differs) (t : Tree) (x : Listed) (xs : List Listed) (d : Differs) → differing_in in_payload t x ≡ o → (first_differing in_payload t xs ≡ Some d → in_payload d.path ≡ true) →
    slice_get (cons_option o (filter_map (differing_in in_payload t) xs)) 0 ≡ Some d → in_payload d.path ≡ true
first-by None t x xs d is rest h = rest h
first-by (Some e) t x xs d is rest h = picked-by (in_payload x.0.path) x.0 _ d refl (is ∙ h)

first-picked : (t : Tree) (xs : List Listed) (d : Differs) → first_differing in_payload t xs ≡ Some d → in_payload d.path ≡ true
first-picked t [] d h = absurd (none-some h)
first-picked t (x ∷ xs) d h = first-by (differing_in in_payload t x) t x xs d refl (first-picked t xs d) h

-- of a plan's copied files
payloads-differ : (t : Tree) (type : List ℕ) (pairs : Pairs) (plan : Admitted) → IsOf (Told t) plan → head_plan_of t type pairs ≡ Ok plan → first_wrong t (copied_of plan) ≡ first_differing in_payload t (listed_of plan)
payloads-differ t type pairs plan of head = only_payloads t plan of (rest_right t type pairs plan head)

-- the refusal of a copied file, where the tree is told and where it isn't
refuses-by : (b : Bool) (d : Differs) → b ≡ true → (if b then PayloadDiffers d else SumDiffers d) ≡ PayloadDiffers d
refuses-by true d h = refl
refuses-by false d h = absurd cc

proper-by : (b : Bool) (count : ℕ) (d : Differs) → IsProper count (if b then PayloadDiffers d else SumDiffers d)
proper-by true count d = tt
proper-by false count d = tt

-- ---- what is found by a plan

abbrev pub request : Site → Content → Request
request site content = record { command = Ok Install; site = site; content = content }

-- a plan of the head whose deployment fits
pub record Heads (site : Site) (content : Content) (c : Db) (plan : Admitted) : Type 0 where
  pub head : When content (λ t. head_plan_of t site.device_type (held c) ≡ Ok plan)
  pub is_of : IsOf content plan
  pub small : record_length (begun c plan) ≤ LARGEST_RECORD

whole-plan : (t : Tree) (type : List ℕ) (pairs : Pairs) (plan : Admitted) → head_plan_of t type pairs ≡ Ok plan → first_differing in_payload t (listed_of plan) ≡ None → plan_of t type pairs ≡ Ok plan
unfolding plan_of
whole-plan t type pairs plan head none =
    ap (λ (x : Result Admitted Refusal). x >>= λ p. unless (option_map PayloadDiffers (first_differing in_payload t (listed_of p))) >>= λ _. Ok p) head
    ∙ ap (λ (o : Option Differs). unless (option_map PayloadDiffers o) >>= λ _. Ok plan) none

copied-by : (e : Entry) (o : Option Differs) → is_copied (starting (none_refused e (option_map PayloadDiffers o))) ≡ true
copied-by e None = refl
copied-by e (Some d) = refl

-- the folder is filled, whatever its sums
copied-found : (site : Site) (content : Content) (c : Db) (plan : Admitted) → Heads site content c plan → is_copied (install_found site content c) ≡ true
copied-found site (Untold n) c plan h = refl
copied-found site (Told t) c plan h =
    ap is_copied (payload-found site t c plan (first_differing in_payload t (listed_of plan)) h.head h.small refl) ∙ copied-by (begun c plan) (first_differing in_payload t (listed_of plan))

-- all copied files have their sums
fits-by : (site : Site) (content : Content) (c : Db) (plan : Admitted) → Heads site content c plan → When content (λ t. first_wrong t (copied_of plan) ≡ None) → Fits (request site content) c plan
fits-by site (Untold n) c plan h right = record { is_plan = h.is_of; small = h.small }
fits-by site (Told t) c plan h right =
    record { is_plan = whole-plan t site.device_type (held c) plan h.head (sym (payloads-differ t site.device_type (held c) plan h.is_of h.head) ∙ right); small = h.small }

-- where the deployment leads, the boot leads
boots-by : (site : Site) (content : Content) (c : Db) (plan : Admitted) → Heads site content c plan → When content (λ t. first_wrong t (copied_of plan) ≡ None) → (position_of c).state ≡ at.Idle →
    (events : List Event) (end : End) (d : Db) → Leads site (begun c plan) false fresh_position events end d → Boot (request site content) c events (Some end) d
boots-by site (Untold n) c plan h right idle events end d l =
    begins plan refl (ap (λ (x : At). beginning x site (Untold n) c) idle) (fits-by site (Untold n) c plan h right) l
boots-by site (Told t) c plan h right idle events end d l =
    runs (begun c plan) fresh_position
    (ap (λ (x : At). beginning x site (Told t) c) idle ∙ payload-found site t c plan None h.head h.small (sym (payloads-differ t site.device_type (held c) plan h.is_of h.head) ∙ right))
    l

-- one of them has another sum
differs-said : (site : Site) (content : Content) (c : Db) (plan : Admitted) (d : Differs) → Heads site content c plan → When content (λ t. first_wrong t (copied_of plan) ≡ Some d) → Says (install_found site content c) site content c (Refused (other_sum d))
differs-said site (Untold n) c plan d h wrong = inr (refl, proper-by (in_payload d.path) n d)
differs-said site (Told t) c plan d h wrong =
    let first = sym (payloads-differ t site.device_type (held c) plan h.is_of h.head) ∙ wrong in
    inl (payload-found site t c plan (Some d) h.head h.small first ∙ ap (λ (r : Refusal). Answers (Refused r)) (sym (refuses-by (in_payload d.path) d (first-picked t (listed_of plan) d first))))

-- ---- what was done

module _ (site : Site) (content : Content) (store : Kept) (old mid : State) (mounted : Mounted store old mid) (right : IfFull IsRight store.db) (shelf : Shelf) where
  abbrev pub asked : Request
  asked = request site content

  -- one is in progress
  pub busy-did : (s : At) → s ≡ (position_of store.db).state → s ≢ at.Idle → Did asked (Some store.db) (NotNow (InProgress s)) old mid shelf shelf
  busy-did s is busy =
      let found : finds asked store.db ≡ Answers (NotNow (InProgress s)) = sym (ap (λ (x : At). beginning x site content store.db) is) ∙ busy-found s site content store.db busy in
      still-did asked store old mid mounted (NotNow (InProgress s)) shelf shelf right refl nothing (record { whose = refl; rests = found }) refl (reads-nothing true content shelf.given)

  module _ (idle : (position_of store.db).state ≡ at.Idle) where
    found : finds asked store.db ≡ install_found site content store.db
    found = ap (λ (x : At). beginning x site content store.db) idle

    opened : IsTrue (opens asked.command (position_of store.db).state)
    opened = subst (λ (x : At). IsTrue (opens asked.command x)) (sym idle) refl

    -- the tree hinders it
    module _ (shelf' : Shelf) (spares : When content (λ t. SparesPayloads t shelf.given shelf'.given)) where
      unread : When content (λ t. ReadsPayloads false t shelf.given shelf'.given)
      unread = reads_none content shelf.given shelf'.given spares

      said : (status : Status) → Says (install_found site content store.db) site content store.db status → Says (finds asked store.db) site content store.db status
      said status h = subst (λ (f : Found). Says f site content store.db status) (sym found) h

      pub memory-did : shelf'.faults ≡ shelf.faults → Did asked (Some store.db) NoMemory old mid shelf shelf'
      memory-did source = still-did asked store old mid mounted NoMemory shelf shelf' right refl nothing (record { whose = refl; rests = tt }) source unread

      pub weighed-did : (status : Status) → shelf'.faults ≡ source_count (row_of status).basis shelf.faults → Planned site content store.db (Err status) → Did asked (Some store.db) status old mid shelf shelf'
      weighed-did (Refused refusal) source w = still-did asked store old mid mounted (Refused refusal) shelf shelf' right refl nothing (record { whose = refl; rests = said (Refused refusal) w }) source unread
      weighed-did (TooLarge bytes) source w = still-did asked store old mid mounted (TooLarge bytes) shelf shelf' right refl nothing (record { whose = refl; rests = said (TooLarge bytes) w }) source unread
      weighed-did SourceFault source w = still-did asked store old mid mounted SourceFault shelf shelf' right refl nothing (record { whose = refl; rests = opened }) source unread
      weighed-did NoMemory source w = memory-did source
      weighed-did (Done good) source w = absurd w
      weighed-did NoUpdate source w = absurd w
      weighed-did Inconsistent source w = absurd w
      weighed-did RebootNeeded source w = absurd w
      weighed-did DiskFault source w = absurd w
      weighed-did SinkFault source w = absurd w
      weighed-did (Usage fault) source w = absurd w
      weighed-did PowerOff source w = absurd w
      weighed-did (BadStore offset) source w = absurd w
      weighed-did (NotNow when) source w = absurd w
      weighed-did (NotInstalled how) source w = absurd w

    -- ---- the tree gives a plan, and the folder is filled

    module _ (plan : Admitted) (heads : Heads site content store.db plan) (ready : State) (shelf2 shelf3 : Shelf) (same : shelf2.faults ≡ shelf.faults) (spares : When content (λ t. SparesPayloads t shelf.given shelf2.given)) where
      copied : is_copied (finds asked store.db) ≡ true
      copied = ap is_copied found ∙ copied-found site content store.db plan heads

      read-on : (whole : Bool) → When content (λ t. ReadsPayloads whole t shelf2.given shelf3.given) → When content (λ t. ReadsPayloads whole t shelf.given shelf3.given)
      read-on whole h = reads_after whole content shelf.given shelf2.given shelf3.given spares h

      module _ (reads : When content (λ t. ReadsPayloads false t shelf2.given shelf3.given)) where
        -- it wasn't filled
        pub unprepared-by : (fault : PrepareFault) → Touches (how_of_fault fault) mid ready → shelf3.faults ≡ after_fault fault shelf2.faults → CopiesSome content (copied_of plan) fault shelf2.given shelf3.given → Did asked (Some store.db) (unprepared fault) old ready shelf shelf3
        unprepared-by prepare_fault.Off touched counts some =
            unprepared-did asked store old mid ready mounted right refl copied PowerOff shelf shelf3 touched breaks_off (record { whose = refl; rests = tt }) (counts ∙ same) (read-on false reads) (λ h. cc)
        unprepared-by prepare_fault.DiskFault touched counts some =
            unprepared-did asked store old mid ready mounted right refl copied DiskFault shelf shelf3 touched breaks_off (record { whose = refl; rests = tt }) (counts ∙ same) (read-on false reads) (λ h. cc)
        unprepared-by prepare_fault.SourceFault touched counts some =
            unprepared-did asked store old mid ready mounted right refl copied SourceFault shelf shelf3 touched nothing (record { whose = refl; rests = opened }) (counts ∙ ap counted same) (read-on false reads) (λ h. cc)
        unprepared-by (prepare_fault.Differs d) touched counts some =
            unprepared-did asked store old mid ready mounted right refl copied (Refused (other_sum d)) shelf shelf3 touched nothing
            (record { whose = refl; rests = subst (λ (f : Found). Says f site content store.db (Refused (other_sum d))) (sym found) (differs-said site content store.db plan d heads some.wrong) })
            (counts ∙ same) (read-on false reads) (λ h. cc)

      -- it was, and the deployment went on
      pub begun-by : (store' : Kept) (new : State) (end : DriveEnd) → When content (λ t. ReadsPayloads true t shelf2.given shelf3.given) → Touches Through mid ready → shelf3.faults ≡ shelf2.faults → CopiesAll content (copied_of plan) shelf2.given shelf3.given →
          WhereTold (λ before now. folder.Stands content (rows_of site (held store.db) plan) now) mid.work ready.work → IsDecided end → Drove site (begun store.db plan) false fresh_position end store' ready new → Did asked (Some store.db) (status_after end false) old new shelf shelf3
      begun-by store' new end reads touched counts all filled decided drove =
          install-did asked store old mid ready mounted right refl copied plan store' new end (status_after end false) shelf shelf3 (fits-by site content store.db plan heads all.right) touched filled drove
          (boots-by site content store.db plan heads all.right idle drove.events (drive_end_of end))
          (after-ends end false) (after-how end false) (after-due asked store.db (area_of old.disk) end false decided (record { deploys = refl; reads = refl; rolls = refl }))
          (after-synced end false) (counts ∙ same ∙ sym (after-count end false shelf.faults)) (reads-less (has_start drove.events) content shelf.given shelf3.given (read-on true reads))

-- What is held at the end of a path, by induction over its boots.
use Rattle.std.proofs.Common.{◌≡◌, ⊎_elim, List, [], ◌∷◌, ◌++◌, refl, sym, ap, ◌∙◌, subst, append_assoc, append-nil}
use Rattle.std.specs.Prelude.{Bool, true, Option, None, Ok}
use Rattle.std.specs.List.{AllByRecursion}
use Rattle.std.proofs.lemmas.List.Elements.{recursion_from_All}
use Rattle.device_model.specs.declared.calls.Event.{Event}
use Rattle.device_model.specs.declared.calls.ModState.TheVariants.{ArtifactCommit}
use Rattle.io_model.specs.Source.{Content}
use Rattle.script_names.specs.declared.site.Site.{Site}
use Rattle.admit.specs.declared.admitted.Admitted.{Admitted}
use Rattle.flow_table.specs.Laws.{BreaksAtLoss, already_at_loss, no_rollback_at_loss, limit_at_loss}
use Rattle.flow_table.specs.Valid.{is_valid}
use Rattle.flow_table.specs.Table.{first_of, fresh_position}
use Rattle.flow_table.specs.declared.position.Outcome.{Outcome}
use Rattle.flow_table.specs.declared.position.Outcome.TheVariants as outcome
use Rattle.flow_table.specs.declared.position.Position.{Position}
use Rattle.flow_table.specs.declared.table.Heard.{Heard}
use Rattle.flow_table.specs.declared.table.Order.{Order}
use Rattle.client_top.specs.Steps.{command_of}
use Rattle.flow_table.specs.declared.table.Opening.TheVariants as opening
use Rattle.flow_table.proofs.Steps.{first_entered}
use Rattle.flow_words.specs.Causes.{HasCommit, Broke, all_exit_0}
use Rattle.flow_words.specs.Course.{Course}
use Rattle.flow_words.specs.Pieces.{End}
use Rattle.flow_words.proofs.Outcomes.{committed-by, inconsistent-by}
use Rattle.flow_words.proofs.PieceLemmas.{pieces-valid}
use Rattle.flow_drive.specs.Calls.{callees}
use Rattle.flow_drive.specs.Drive.{Goes, Leads, at}
use Rattle.record_codec.specs.declared.entry.Entry.{Entry}
use Rattle.record_codec.specs.declared.entry.Db.{Db}
use Rattle.record_codec.specs.declared.entry.Db.TheVariants.{Empty, Full}
use Rattle.record_codec.specs.Held.{held, held_of}
use Rattle.client_words.specs.declared.command.Command.{Command}
use Rattle.client_words.specs.declared.command.Command.TheVariants.{Install}
use Rattle.client_top.specs.Answers.{Words, end_of}
use Rattle.client_top.specs.Promises.{IsOver, KeepsOld, TellsHeld, told_by}
use Rattle.client_top.specs.declared.status.Status.{Status}
use Rattle.client_top.specs.declared.status.Status.TheVariants.{Done, Inconsistent, RebootNeeded, NotInstalled}
use Rattle.client_top.specs.declared.status.Good.TheVariants as good
use Rattle.client_top.proofs.Answered.{IsValidAt, answered}
use Rattle.client_top.specs.Finds.{begun}
use Rattle.client_top.specs.Boot.{Boot, nothing as no_deed, stays as waits, runs as starts, begins as begins_untold, breaks_off, IsPlan, is_stop}
use Rattle.client_top.proofs.Rights.{fresh-valid}
use Rattle.lab.specs.declared.runs.BootRun.{BootRun}
use Rattle.lab.specs.Path.{Step, Path, stays, goes, asked_of}
use Rattle.lab.specs.Holding.{SomeBoot, Deployed, entry_of, InBoot, at_first, later, Commits, Ordered, Mixes, broke_at_first, broke, stopped, at_the_limit, HeldAfter, nothing, old, new, marked, ToldAfter, TellNone}
use Rattle.lab.proofs.Begins.{Starting, goes_on, begins, starting-by}
use Rattle.lab.proofs.Rows.{path-append}

-- ---- with more events behind

commit-more : (kinds : List (List _)) (events tail all : List Event) → all ≡ events ++ tail → HasCommit kinds events → HasCommit kinds all
commit-more kinds events tail all are h = record {
  before = h.before;
  behind = h.behind ++ tail;
  is = are ∙ ap (λ (l : List Event). l ++ tail) h.is ∙ append_assoc h.before (all_exit_0 0 kinds ArtifactCommit ++ h.behind) tail ∙ ap (λ (l : List Event). h.before ++ l) (append_assoc (all_exit_0 0 kinds ArtifactCommit) h.behind tail);
}

broke-more : {words : Position → Course Heard} {stop : Bool} {p : Position} (events tail all : List Event) → all ≡ events ++ tail → Broke words stop p events → Broke words stop p all
broke-more events tail all are b = record {
  there = b.there;
  heard = b.heard;
  front = b.front;
  piece = b.piece;
  back = b.back ++ tail;
  is = are ∙ ap (λ (l : List Event). l ++ tail) b.is ∙ append_assoc b.front (b.piece ++ b.back) tail ∙ ap (λ (l : List Event). b.front ++ l) (append_assoc b.piece b.back tail);
  came = b.came;
  ran = b.ran;
  cause = b.cause;
}

full-is : {c : Db} {e f : Entry} → c ≡ Full e → c ≡ Full f → f ≡ e
full-is h k = by (sym k ∙ h)
  where
    by : {e f : Entry} → Full f ≡ Full e → f ≡ e
    by h = cc

never-full : {c : Db} {e : Entry} → c ≡ Empty → c ≡ Full e → ⊥
never-full h k = by (sym h ∙ k)
  where
    by : {e : Entry} → Empty ≡ Full e → ⊥
    by h = cc

-- what an answer says doesn't hang on the position
told-moved : (status : Status) (e : Entry) (q : Position) → told_by status (record e { position = q }) ≡ told_by status e
told-moved (Done good.Committed) e q = refl
told-moved (Done good.Waiting) e q = refl
told-moved (Done good.RolledBack) e q = refl
told-moved Inconsistent e q = refl
told-moved RebootNeeded e q = refl
told-moved (NotInstalled how) e q = refl
told-moved status e q = refl

module _ (site : Site) (content : Content) where
  -- ---- with more boots behind

  some-more : {from : Db} {row : List BootRun} {Has : Db → BootRun → Type 0} (more : List BootRun) → SomeBoot site content from row Has → SomeBoot site content from (row ++ more) Has
  some-more more b = record {
    front = b.front;
    run = b.run;
    back = b.back ++ more;
    are = ap (λ (l : List BootRun). l ++ more) b.are ∙ append_assoc b.front (b.run ∷ b.back) more;
    before = b.before;
    came = b.came;
    has = b.has;
  }

  abbrev longer : {row : List BootRun} (more : List BootRun) → Deployed site content row → Deployed site content (row ++ more)
  longer more d = record {
    front = d.front;
    first = d.first;
    back = d.back ++ more;
    are = ap (λ (l : List BootRun). l ++ more) d.are ∙ append_assoc d.front (d.first ∷ d.back) more;
    over = d.over;
    came = d.came;
    next = d.next;
    step = d.step;
    installs = d.installs;
    plan = d.plan;
    is_plan = d.is_plan;
  }

  in-more : {row : List BootRun} {Has : Db → BootRun → Type 0} (more : List BootRun) (d : Deployed site content row) → InBoot d Has → InBoot (longer more d) Has
  in-more more d (at_first h) = at_first h
  in-more more d (later b) = later (some-more more b)

  -- ---- what is known of the database at the end

  -- it is of this deployment
  record Standing (row : List BootRun) (c : Db) : Type 0 where
    deployed : Deployed site content row
    place : Position
    is : c ≡ at (entry_of deployed) place
    rest : Path site content deployed.next deployed.back c
    old : HeldAfter site content deployed.front deployed.over (held deployed.over)
    valid : is_valid place ≡ true
    committed : place.outcome ≡ outcome.Committed → InBoot deployed (Commits (entry_of deployed))
    inconsistent : place.outcome ≡ outcome.Inconsistent → InBoot deployed (Mixes site (entry_of deployed))

  data Known (row : List BootRun) (c : Db) : Type 0 where
    empty : c ≡ Empty → Known row c
    stands : Standing row c → Known row c

  module _ {row : List BootRun} {c : Db} (s : Standing row c) where
    rests : Path site content s.deployed.next s.deployed.back (at (entry_of s.deployed) s.place)
    rests = subst (λ (d : Db). Path site content s.deployed.next s.deployed.back d) s.is s.rest

    by-outcome : (o : Outcome) → s.place.outcome ≡ o → HeldAfter site content row (at (entry_of s.deployed) s.place) (held_of o (held s.deployed.over) (entry_of s.deployed).new)
    by-outcome outcome.Undecided is = old s.deployed s.place rests (subst KeepsOld (sym is) tt) s.old
    by-outcome outcome.Kept is = old s.deployed s.place rests (subst KeepsOld (sym is) tt) s.old
    by-outcome outcome.RolledBack is = old s.deployed s.place rests (subst KeepsOld (sym is) tt) s.old
    by-outcome outcome.Committed is = new s.deployed s.place rests is (s.committed is)
    by-outcome outcome.Inconsistent is = marked s.deployed s.place rests is (s.inconsistent is)

  held-known : {row : List BootRun} {c : Db} → Known row c → HeldAfter site content row c (held c)
  held-known {row} (empty is) = subst (λ (d : Db). HeldAfter site content row d (held d)) (sym is) nothing
  held-known {row} (stands s) = subst (λ (d : Db). HeldAfter site content row d (held d)) (sym s.is) (by-outcome s s.place.outcome refl)

  -- ---- one boot more

  module _ {row : List BootRun} {c d : Db} (run : BootRun) (events tail : List Event) (are : run.events.events ≡ events ++ tail) (came : Path site content Empty row c) (step : Step site content c run d) where
    -- nothing was done
    still : Known row c → d ≡ c → Known (row ++ run ∷ []) d
    still (empty is) same = empty (same ∙ is)
    still (stands s) same = stands (record {
      deployed = longer (run ∷ []) s.deployed;
      place = s.place;
      is = same ∙ s.is;
      rest = path-append s.rest (goes step stays);
      old = s.old;
      valid = s.valid;
      committed = λ h. in-more (run ∷ []) s.deployed (s.committed h);
      inconsistent = λ h. in-more (run ∷ []) s.deployed (s.inconsistent h);
    })

    -- the deployment went on
    module _ (s : Standing row c) (p last : Position) (end : End) (leads : Goes site (entry_of s.deployed) (is_stop (Ok run.command)) p events end last) (valid : is_valid p ≡ true) (o : Order) (is : run.command ≡ command_of o) (enters : first_of s.place o ≡ opening.Enter p) where
      here : {Has : Db → BootRun → Type 0} → Has c run → InBoot (longer (run ∷ []) s.deployed) Has
      here has = later (record { front = s.deployed.back; run = run; back = []; are = refl; before = c; came = s.rest; has = (s.place, s.is, has) })

      -- a cause that is said of the position at which the deployment stood
      mixed-here : Mixes site (entry_of s.deployed) (at (entry_of s.deployed) s.place) run → InBoot (longer (run ∷ []) s.deployed) (Mixes site (entry_of s.deployed))
      mixed-here m = here (subst (λ (b : Db). Mixes site (entry_of s.deployed) b run) (sym s.is) m)

      ordered : Ordered (at (entry_of s.deployed) s.place) run
      ordered = record { order = o; is = is; entered = p; enters = enters }

      committed-more : (p.outcome ≡ outcome.Committed → s.place.outcome ≡ outcome.Committed) → last.outcome ≡ outcome.Committed → InBoot (longer (run ∷ []) s.deployed) (Commits (entry_of s.deployed))
      committed-more led h = ⊎_elim
          (λ was. in-more (run ∷ []) s.deployed (s.committed (led was)))
          (λ (did : HasCommit (entry_of s.deployed).kinds events). here (commit-more (entry_of s.deployed).kinds events tail run.events.events are did))
          (committed-by (callees site (entry_of s.deployed)) leads valid h)

      by-loss : BreaksAtLoss s.place → InBoot (longer (run ∷ []) s.deployed) (Mixes site (entry_of s.deployed))
      by-loss (already_at_loss h) = in-more (run ∷ []) s.deployed (s.inconsistent h)
      by-loss (no_rollback_at_loss t u) = mixed-here (stopped ordered t u)
      by-loss (limit_at_loss n u) = mixed-here (at_the_limit ordered n u)

      mixed-more : (p.outcome ≡ outcome.Inconsistent → BreaksAtLoss s.place) → last.outcome ≡ outcome.Inconsistent → InBoot (longer (run ∷ []) s.deployed) (Mixes site (entry_of s.deployed))
      mixed-more led h = ⊎_elim
          (λ was. by-loss (led was))
          (λ b. mixed-here (broke (record { order = o; is = is; entered = p; enters = enters }) (broke-more events tail run.events.events are b)))
          (inconsistent-by leads valid h)

      went : (p.outcome ≡ outcome.Committed → s.place.outcome ≡ outcome.Committed) → (p.outcome ≡ outcome.Inconsistent → BreaksAtLoss s.place) → d ≡ at (entry_of s.deployed) last → Known (row ++ run ∷ []) d
      went commits breaks at_last = stands (record {
        deployed = longer (run ∷ []) s.deployed;
        place = last;
        is = at_last;
        rest = path-append s.rest (goes step stays);
        old = s.old;
        valid = pieces-valid leads valid;
        committed = committed-more commits;
        inconsistent = mixed-more breaks;
      })

    -- a deployment began
    module _ (known : Known row c) (install : run.command ≡ Install) (plan : Admitted) (is_plan : IsPlan site content c plan) (last : Position) (end : End) (leads : Goes site (begun c plan) (is_stop (Ok run.command)) fresh_position events end last) where
      abbrev deployment : Deployed site content (row ++ run ∷ [])
      deployment = record {
        front = row;
        first = run;
        back = [];
        are = refl;
        over = c;
        came = came;
        next = d;
        step = step;
        installs = install;
        plan = plan;
        is_plan = is_plan;
      }

      first-commits : last.outcome ≡ outcome.Committed → InBoot deployment (Commits (entry_of deployment))
      first-commits h = ⊎_elim
          (λ was. absurd cc)
          (λ (did : HasCommit (begun c plan).kinds events). at_first (commit-more (begun c plan).kinds events tail run.events.events are did))
          (committed-by (callees site (begun c plan)) leads fresh-valid h)

      first-mixes : last.outcome ≡ outcome.Inconsistent → InBoot deployment (Mixes site (entry_of deployment))
      first-mixes h = ⊎_elim
          (λ was. absurd cc)
          (λ b. at_first (broke_at_first install (broke-more events tail run.events.events are b)))
          (inconsistent-by leads fresh-valid h)

      began : d ≡ at (begun c plan) last → Known (row ++ run ∷ []) d
      began is = stands (record {
        deployed = deployment;
        place = last;
        is = is;
        rest = stays;
        old = held-known known;
        valid = pieces-valid leads fresh-valid;
        committed = first-commits;
        inconsistent = first-mixes;
      })

    by-start : (e : Entry) (p : Position) (end : End) → Known row c → Starting site content run.command c e p → Leads site e (is_stop (Ok run.command)) p events end d → Known (row ++ run ∷ []) d
    by-start e p end (empty none) (goes_on o command is enters) leads = absurd (never-full none is)
    by-start e p end (stands s) (goes_on o command is enters) leads =
        let same : record (entry_of s.deployed) { position = s.place } ≡ e = full-is is s.is in
        let enter : first_of s.place o ≡ opening.Enter p = subst (λ (x : Entry). first_of x.position o ≡ opening.Enter p) (sym same) enters in
        let led : Leads site (record (entry_of s.deployed) { position = s.place }) (is_stop (Ok run.command)) p events end d = subst (λ (x : Entry). Leads site x (is_stop (Ok run.command)) p events end d) (sym same) leads in
        let opens = first_entered s.place p o s.valid enter in
        went s p led.last end led.goes opens.valid o command enter opens.committed opens.broken led.stands
    by-start e p end known (begins install plan is_plan is fresh) leads =
        let led : Leads site (begun c plan) (is_stop (Ok run.command)) fresh_position events end d = subst (λ (x : Entry). Leads site x (is_stop (Ok run.command)) fresh_position events end d) is (subst (λ (q : Position). Leads site e (is_stop (Ok run.command)) q events end d) fresh leads) in
        began known install plan is_plan led.last end led.goes led.stands

  commands-are : {a b : Command} → ◌≡◌ {A = Words} (Ok a) (Ok b) → a ≡ b
  commands-are h = cc

  by-boot : {row : List BootRun} {c d : Db} {end : Option End} (run : BootRun) (events tail : List Event) → run.events.events ≡ events ++ tail → Path site content Empty row c → Step site content c run d → Known row c → Boot (asked_of site content run.command) c events end d → Known (row ++ run ∷ []) d
  by-boot run events tail are came step known no_deed = still run events tail are came step known refl
  by-boot run events tail are came step known (waits h) = still run events tail are came step known refl
  by-boot {row} {c} run events tail are came step known (starts {end} e p found leads) = by-start run events tail are came step e p end known (starting-by run.command site content c e p found) leads
  by-boot {row} {c} {d} run events tail are came step known (begins_untold {end} plan is found fits leads) =
      by-start run events tail are came step (begun c plan) fresh_position end known (begins (commands-are is) plan fits.is_plan refl refl)
      (subst (λ (b : Bool). Leads site (begun c plan) b fresh_position events end d) (sym (ap is_stop is)) leads)
  by-boot run events tail are came step known breaks_off = still run events tail are came step known refl

  -- ---- boots in a row

  path-known : (front : List BootRun) {c d : Db} {row : List BootRun} → Path site content Empty front c → Known front c → Path site content c row d → Known (front ++ row) d
  path-known front {c} came known stays = subst (λ (l : List BootRun). Known l c) (sym (append-nil front)) known
  path-known front {c} {d} came known (goes {m} {run} {runs = row} step path) =
      subst (λ (l : List BootRun). Known l d) (append_assoc front (run ∷ []) row)
      (path-known (front ++ run ∷ []) (path-append came (goes step stays)) (by-boot run step.events _ step.journal came step known step.boot) path)

  pub held-after : (d : Db) (row : List BootRun) → Path site content Empty row d → HeldAfter site content row d (held d)
  held-after d row path = held-known (path-known [] stays (empty refl) path)

  -- ---- the last answer of a deployment

  known-valid : {row : List BootRun} {c : Db} → Known row c → IsValidAt c
  known-valid (empty is) = subst IsValidAt (sym is) tt
  known-valid (stands s) = subst IsValidAt (sym s.is) s.valid

  told-of : {row : List BootRun} {c d : Db} (status : Status) → Known row d → TellsHeld c status d → ToldAfter site content row status d
  told-of status (empty is) told = absurd (never-full is told.stands)
  told-of status (stands s) told = record {
    deployed = s.deployed;
    position = s.place;
    stands = s.is;
    holds = sym (told-moved status (entry_of s.deployed) s.place) ∙ ap (told_by status) (full-is told.stands s.is) ∙ told-moved status told.deployment told.position ∙ told.holds;
  }

  by-look : {c d : Db} {events : List Event} {end : Option End} (command : Command) → end ≡ None → Boot (asked_of site content command) c events end d → d ≡ c
  by-look command is no_deed = refl
  by-look command is (waits h) = absurd cc
  by-look command is (starts e p found leads) = absurd cc
  by-look command is (begins_untold plan i found fits leads) = absurd cc
  by-look command is breaks_off = absurd cc

  looks-stay : {c d : Db} {row : List BootRun} → Path site content c row d → AllByRecursion (λ (r : BootRun). end_of r.status ≡ None) row → d ≡ c
  looks-stay stays none = refl
  looks-stay (goes {run} step path) none = looks-stay path none.1 ∙ by-look run.command none.0 step.boot

  pub told-after : (c m d : Db) (row looks : List BootRun) (run : BootRun) → Path site content Empty row c → Step site content c run m → IsOver (end_of run.status) → Path site content m looks d → TellNone looks → ToldAfter site content (row ++ run ∷ []) run.status d
  told-after c m d row looks run path step over behind none =
      let known : Known row c = path-known [] stays (empty refl) path in
      let then : Known (row ++ run ∷ []) m = by-boot run step.events _ step.journal path step known step.boot in
      let told : TellsHeld c run.status m = answered (asked_of site content run.command) c m step.events run.status (known-valid known) step.whose step.boot over in
      subst (ToldAfter site content (row ++ run ∷ []) run.status) (sym (looks-stay behind (recursion_from_All (λ (r : BootRun). end_of r.status ≡ None) looks none))) (told-of run.status then told)

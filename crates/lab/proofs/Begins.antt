-- Which deployment a command starts: one that goes on, or one that an install of a plan of the tree begins.
use Rattle.std.proofs.Common.{◌≡◌, refl, ap, ◌∙◌, subst}
use Rattle.std.specs.Prelude.{Bool, true, false, nat_lt, Option, Some, None, Result, Ok, Err, if◌then◌else◌}
use Rattle.std.specs.Option.{option_map}
use Rattle.upd_text.specs.Results.{◌>>=◌}
use Rattle.io_model.specs.Source.{Content, Tree}
use Rattle.io_model.specs.Source.Content.{Told, Untold}
use Rattle.script_names.specs.declared.site.Site.{Site}
use Rattle.admit.specs.declared.admitted.Admitted.{Admitted}
use Rattle.admit.specs.declared.refusal.Refusal.{Refusal}
use Rattle.admit.specs.declared.refusal.Refusal.TheVariants.{PayloadDiffers}
use Rattle.admit.specs.declared.refusal.Differs.{Differs}
use Rattle.admit.specs.Admit.{plan_of, head_plan_of}
use Rattle.admit.specs.Differing.{listed_of, in_payload, first_differing}
use Rattle.admit.specs.Table.{unless}
use Rattle.flow_table.specs.declared.position.State.{State}
use Rattle.flow_table.specs.declared.position.State.TheVariants as at
use Rattle.flow_table.specs.declared.position.Position.{Position}
use Rattle.flow_table.specs.declared.table.Opening.{Opening}
use Rattle.flow_table.specs.declared.table.Opening.TheVariants as opening
use Rattle.flow_table.specs.declared.table.Order.{Order}
use Rattle.flow_table.specs.declared.table.Order.TheVariants as order
use Rattle.flow_table.specs.Table.{first_of, fresh_position}
use Rattle.record_codec.specs.declared.entry.Entry.{Entry}
use Rattle.record_codec.specs.declared.entry.Db.{Db}
use Rattle.record_codec.specs.declared.entry.Db.TheVariants.{Empty, Full}
use Rattle.record_codec.specs.declared.length.TheConstants.{LARGEST_RECORD}
use Rattle.record_codec.specs.Spelling.{record_length}
use Rattle.record_codec.specs.Held.{held, position_of}
use Rattle.client_words.specs.declared.command.Command.{Command}
use Rattle.client_words.specs.declared.command.Command.TheVariants.{Install, Resume, ResumeStop, Commit, Rollback, ShowProvides, ShowArtifact, ShowDeployment, Check, Simulate}
use Rattle.client_top.specs.declared.status.Status.{Status}
use Rattle.client_top.specs.Finds.{Starts, found_for, begun, unless_refused, unless_large, none_refused, unless_damaged, installed, starting, install_found, beginning, opening_at, ordered}
use Rattle.client_top.specs.Boot.{IsPlan}
use Rattle.client_top.specs.Steps.{command_of}
use Rattle.client_top.proofs.Starts.{check-never}

pub data Starting (site : Site) (content : Content) (command : Command) (c : Db) (e : Entry) (p : Position) : Type 0 where
  goes_on : (o : Order) → command ≡ command_of o → c ≡ Full e → first_of e.position o ≡ opening.Enter p → Starting site content command c e p
  begins : command ≡ Install → (plan : Admitted) → IsPlan site content c plan → e ≡ begun c plan → p ≡ fresh_position → Starting site content command c e p

-- ---- one that goes on

opened : (x e : Entry) (p : Position) (o : Opening) → opening_at x o ≡ Starts e p → (x ≡ e) × (o ≡ opening.Enter p)
opened x e p (opening.Enter q) h = (cc, cc)
opened x e p opening.Stay h = absurd cc
opened x e p opening.NoUpdate h = absurd cc
opened x e p (opening.MustResume s) h = absurd cc
opened x e p (opening.NoRollback s) h = absurd cc

by-order : (site : Site) (content : Content) (o : Order) (c : Db) (e : Entry) (p : Position) → ordered o c ≡ Starts e p → Starting site content (command_of o) c e p
by-order site content o Empty e p h = absurd cc
by-order site content o (Full x) e p h =
    let w = opened x e p (first_of x.position o) h in
    goes_on o refl (ap Full w.0) (subst (λ (y : Entry). first_of y.position o ≡ opening.Enter p) w.0 w.1)

-- ---- one that begins

whole-plan : (site : Site) (t : Tree) (c : Db) (plan : Admitted) → head_plan_of t site.device_type (held c) ≡ Ok plan → first_differing in_payload t (listed_of plan) ≡ None → plan_of t site.device_type (held c) ≡ Ok plan
unfolding plan_of
whole-plan site t c plan head none =
    ap (λ (x : Result Admitted Refusal). x >>= λ p. unless (option_map PayloadDiffers (first_differing in_payload t (listed_of p))) >>= λ _. Ok p) head
    ∙ ap (λ (o : Option Differs). unless (option_map PayloadDiffers o) >>= λ _. Ok plan) none

damaged : (x e : Entry) (o : Option Differs) → none_refused x (option_map PayloadDiffers o) ≡ Ok e → (o ≡ None) × (e ≡ x)
damaged x e None h = (refl, cc)
damaged x e (Some d) h = absurd cc

after-large : (c : Db) (t : Tree) (plan : Admitted) (e : Entry) (b : Bool) (s : Status) → ((if b then Err s else Ok (begun c plan)) >>= unless_damaged t plan) ≡ Ok e → (first_differing in_payload t (listed_of plan) ≡ None) × (e ≡ begun c plan)
after-large c t plan e true s h = absurd cc
after-large c t plan e false s h = damaged (begun c plan) e (first_differing in_payload t (listed_of plan)) h

after-head : (site : Site) (t : Tree) (c : Db) (e : Entry) (r : Result Admitted Refusal) → head_plan_of t site.device_type (held c) ≡ r → (unless_refused r >>= λ plan. unless_large (begun c plan) >>= unless_damaged t plan) ≡ Ok e →
    (plan : Admitted) × IsPlan site (Told t) c plan × (e ≡ begun c plan)
after-head site t c e (Ok plan) head h =
    let l = after-large c t plan e (nat_lt LARGEST_RECORD (record_length (begun c plan))) _ h in
    (plan, whole-plan site t c plan head l.0, l.1)
after-head site t c e (Err r) head h = absurd cc

starting-at : (e : Entry) (p : Position) (r : Result Entry Status) → starting r ≡ Starts e p → (r ≡ Ok e) × (p ≡ fresh_position)
starting-at e p (Ok x) h = (cc, cc)
starting-at e p (Err s) h = absurd cc

by-tree : (site : Site) (content : Content) (c : Db) (e : Entry) (p : Position) → install_found site content c ≡ Starts e p → Starting site content Install c e p
by-tree site (Untold n) c e p h = absurd cc
by-tree site (Told t) c e p h =
    let s = starting-at e p (installed site t c) h in
    let w = after-head site t c e (head_plan_of t site.device_type (held c)) refl s.0 in
    begins refl w.0 w.1 w.2 s.1

by-install : (s : State) (site : Site) (content : Content) (c : Db) (e : Entry) (p : Position) → beginning s site content c ≡ Starts e p → Starting site content Install c e p
by-install at.Idle site content c e p h = by-tree site content c e p h
by-install at.Download site content c e p h = absurd cc
by-install at.Install site content c e p h = absurd cc
by-install at.Reboot site content c e p h = absurd cc
by-install at.VerifyReboot site content c e p h = absurd cc
by-install at.Commit site content c e p h = absurd cc
by-install at.CommitLeave site content c e p h = absurd cc
by-install at.Rollback site content c e p h = absurd cc
by-install at.RollbackReboot site content c e p h = absurd cc
by-install at.VerifyRollbackReboot site content c e p h = absurd cc
by-install at.Failure site content c e p h = absurd cc
by-install at.Cleanup site content c e p h = absurd cc
by-install at.Wait site content c e p h = absurd cc

pub starting-by : (command : Command) (site : Site) (content : Content) (c : Db) (e : Entry) (p : Position) → found_for (Ok command) site content c ≡ Starts e p → Starting site content command c e p
starting-by Install site content c e p h = by-install (position_of c).state site content c e p h
starting-by Resume site content c e p h = by-order site content order.Resume c e p h
starting-by ResumeStop site content c e p h = by-order site content order.ResumeStop c e p h
starting-by Commit site content c e p h = by-order site content order.Commit c e p h
starting-by Rollback site content c e p h = by-order site content order.Rollback c e p h
starting-by ShowProvides site content c e p h = absurd cc
starting-by ShowArtifact site content c e p h = absurd cc
starting-by ShowDeployment site content c e p h = absurd cc
starting-by Check site content c e p h = absurd (check-never site content c e p h)
starting-by (Simulate seed rounds) site content c e p h = absurd cc

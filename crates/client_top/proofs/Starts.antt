-- What starts: a deployment that begins, or one that goes on.
use Rattle.std.proofs.Common.{◌≡◌, ◌≢◌, [], refl, sym, ap, subst}
use Rattle.std.specs.Prelude.{Option, Some, None, Bool, true, false, nat_lt, if◌then◌else◌, Result, Ok, Err}
use Rattle.std.specs.Option.{option_map}
use Rattle.upd_text.specs.Results.{◌>>=◌}
use Rattle.io_model.specs.Source.{Content, Tree}
use Rattle.io_model.specs.Source.Content.{Told, Untold}
use Rattle.script_names.specs.declared.site.Site.{Site}
use Rattle.admit.specs.declared.admitted.Admitted.{Admitted}
use Rattle.admit.specs.declared.refusal.Refusal.{Refusal}
use Rattle.admit.specs.declared.refusal.Refusal.TheVariants.{PayloadDiffers}
use Rattle.admit.specs.Admit.{head_plan_of}
use Rattle.admit.specs.Differing.{listed_of, in_payload, first_differing}
use Rattle.flow_table.specs.declared.position.State.{State}
use Rattle.flow_table.specs.declared.position.State.TheVariants as at
use Rattle.flow_table.specs.declared.position.Position.{Position}
use Rattle.flow_table.specs.declared.table.Opening.{Opening}
use Rattle.flow_table.specs.declared.table.Opening.TheVariants as opening
use Rattle.flow_table.specs.declared.table.Order.{Order}
use Rattle.flow_table.specs.declared.table.Order.TheVariants as order
use Rattle.flow_table.specs.Table.{first_of, fresh_position}
use Rattle.record_codec.specs.declared.entry.Entry.{Entry}
use Rattle.record_codec.specs.declared.entry.Db.{Db}
use Rattle.record_codec.specs.declared.entry.Db.TheVariants.{Empty, Full}
use Rattle.record_codec.specs.declared.length.TheConstants.{LARGEST_RECORD}
use Rattle.record_codec.specs.Spelling.{record_length}
use Rattle.record_codec.specs.Held.{held, position_of}
use Rattle.client_words.specs.declared.command.Command.{Command}
use Rattle.client_words.specs.declared.command.Command.TheVariants.{Install, Resume, ResumeStop, Commit, Rollback, ShowProvides, ShowArtifact, ShowDeployment, Check, Simulate}
use Rattle.client_words.specs.declared.command.UsageFault.{UsageFault}
use Rattle.client_top.specs.declared.status.Status.{Status}
use Rattle.client_top.specs.Finds.{Starts, found_for, begun, unless_refused, unless_large, none_refused, unless_damaged, installed, starting, weighing, in_tree, beginning, opening_at, ordered, checked}
use Rattle.client_top.proofs.PlanKinds.{plan-kinds}

-- a deployment goes on from c at p, or one begins over what c holds
pub data Started (c : Db) (e : Entry) (p : Position) : Type 0 where
  goes_on : (o : Order) → c ≡ Full e → first_of e.position o ≡ opening.Enter p → Started c e p
  begins : (plan : Admitted) → e ≡ begun c plan → p ≡ fresh_position → Started c e p

pub opened : (e' e : Entry) (p : Position) (o : Opening) → opening_at e' o ≡ Starts e p → (e' ≡ e) × (o ≡ opening.Enter p)
opened e' e p (opening.Enter q) h = (cc, cc)
opened e' e p opening.Stay h = absurd cc
opened e' e p opening.NoUpdate h = absurd cc
opened e' e p (opening.MustResume s) h = absurd cc
opened e' e p (opening.NoRollback s) h = absurd cc

pub by-order : (o : Order) (c : Db) (e : Entry) (p : Position) → ordered o c ≡ Starts e p → Started c e p
by-order o Empty e p h = absurd cc
by-order o (Full x) e p h =
    let w = opened x e p (first_of x.position o) h in
    goes_on o (ap Full w.0) (subst (λ (y : Entry). first_of y.position o ≡ opening.Enter p) w.0 w.1)

large : (b : Bool) (e x : Entry) (s : Status) → (if b then Err s else Ok e) ≡ Ok x → e ≡ x
large true e x s h = absurd cc
large false e x s h = cc

damaged : (x e : Entry) (r : Option Refusal) → none_refused x r ≡ Ok e → x ≡ e
damaged x e None h = cc
damaged x e (Some r) h = absurd cc

after-large : (c : Db) (t : Tree) (plan : Admitted) (e : Entry) (b : Bool) (s : Status) → ((if b then Err s else Ok (begun c plan)) >>= unless_damaged t plan) ≡ Ok e → begun c plan ≡ e
after-large c t plan e true s h = absurd cc
after-large c t plan e false s h = damaged (begun c plan) e (option_map PayloadDiffers (first_differing in_payload t (listed_of plan))) h

pub after-head : (c : Db) (t : Tree) (e : Entry) (r : Result Admitted Refusal) → (unless_refused r >>= λ plan. unless_large (begun c plan) >>= unless_damaged t plan) ≡ Ok e → (plan : Admitted) × (e ≡ begun c plan) × (r ≡ Ok plan)
after-head c t e (Ok plan) h = (plan, sym (after-large c t plan e (nat_lt LARGEST_RECORD (record_length (begun c plan))) _ h), refl)
after-head c t e (Err r) h = absurd cc

pub starting-at : (e : Entry) (p : Position) (r : Result Entry Status) → starting r ≡ Starts e p → (r ≡ Ok e) × (p ≡ fresh_position)
starting-at e p (Ok x) h = (cc, cc)
starting-at e p (Err s) h = absurd cc

tree-starts : (site : Site) (content : Content) (c : Db) (e : Entry) (p : Position) → in_tree content (λ t. starting (installed site t c)) ≡ Starts e p → (plan : Admitted) × (e ≡ begun c plan) × (p ≡ fresh_position) × (plan.header.kinds ≢ [])
tree-starts site (Untold n) c e p h = absurd cc
tree-starts site (Told t) c e p h =
    let s = starting-at e p (installed site t c) h in
    let w = after-head c t e (head_plan_of t site.device_type (held c)) s.0 in
    (w.0, w.1, s.1, plan-kinds t site.device_type (held c) w.0 w.2)

pub install-starts : (s : State) (site : Site) (content : Content) (c : Db) (e : Entry) (p : Position) → beginning s site content c ≡ Starts e p → (plan : Admitted) × (e ≡ begun c plan) × (p ≡ fresh_position) × (plan.header.kinds ≢ [])
install-starts at.Idle site content c e p h = tree-starts site content c e p h
install-starts at.Download site content c e p h = absurd cc
install-starts at.Install site content c e p h = absurd cc
install-starts at.Reboot site content c e p h = absurd cc
install-starts at.VerifyReboot site content c e p h = absurd cc
install-starts at.Commit site content c e p h = absurd cc
install-starts at.CommitLeave site content c e p h = absurd cc
install-starts at.Rollback site content c e p h = absurd cc
install-starts at.RollbackReboot site content c e p h = absurd cc
install-starts at.VerifyRollbackReboot site content c e p h = absurd cc
install-starts at.Failure site content c e p h = absurd cc
install-starts at.Cleanup site content c e p h = absurd cc
install-starts at.Wait site content c e p h = absurd cc

weighing-never : (e : Entry) (p : Position) (r : Result Entry Status) → weighing r ≡ Starts e p → ⊥
weighing-never e p (Ok x) h = cc
weighing-never e p (Err s) h = cc

pub check-never : (site : Site) (content : Content) (c : Db) (e : Entry) (p : Position) → in_tree content (λ t. weighing (checked site t c)) ≡ Starts e p → ⊥
check-never site (Untold n) c e p h = cc
check-never site (Told t) c e p h = weighing-never e p (checked site t c) h

pub started : (w : Result Command UsageFault) (site : Site) (content : Content) (c : Db) (e : Entry) (p : Position) → found_for w site content c ≡ Starts e p → Started c e p
started (Ok Install) site content c e p h = let w = install-starts (position_of c).state site content c e p h in begins w.0 w.1 w.2
started (Ok Resume) site content c e p h = by-order order.Resume c e p h
started (Ok ResumeStop) site content c e p h = by-order order.ResumeStop c e p h
started (Ok Commit) site content c e p h = by-order order.Commit c e p h
started (Ok Rollback) site content c e p h = by-order order.Rollback c e p h
started (Ok ShowProvides) site content c e p h = absurd cc
started (Ok ShowArtifact) site content c e p h = absurd cc
started (Ok ShowDeployment) site content c e p h = absurd cc
started (Ok Check) site content c e p h = absurd (check-never site content c e p h)
started (Ok (Simulate seed rounds)) site content c e p h = absurd cc
started (Err f) site content c e p h = absurd cc

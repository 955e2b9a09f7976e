-- What each step of the tables makes of a valid position.
use Rattle.std.proofs.Common.{◌≡◌, ◌≢◌, ◌⊎◌, ◌∙◌, ℕ, ◌+◌, ◌<◌, ◌≤◌, Bool, true, false, cond, nat_lt, refl, sym, subst, inl, inr, arith}
use Rattle.std.specs.Prelude.{⊤, ◌&&◌, nat_le}
use Rattle.std.proofs.lemmas.Bool.{and_parts, and_from}
use Rattle.std.proofs.lemmas.Bool.Decides.{nat_tests}
use Rattle.flow_table.specs.declared.position.State.{State}
use Rattle.flow_table.specs.declared.position.State.TheVariants.{Idle, Download, Install, Reboot, VerifyReboot, Commit, CommitLeave, Rollback, RollbackReboot, VerifyRollbackReboot, Failure, Cleanup, Wait}
use Rattle.flow_table.specs.declared.position.Outcome.{Outcome}
use Rattle.flow_table.specs.declared.position.Outcome.TheVariants.{Undecided, Kept, Committed, RolledBack, Inconsistent}
use Rattle.flow_table.specs.declared.position.Reboot.{Reboot as Rebooting}
use Rattle.flow_table.specs.declared.position.Reboot.TheVariants.{No, Yes, Automatic}
use Rattle.flow_table.specs.declared.position.Position.{Position}
use Rattle.flow_table.specs.declared.table.Heard.{Heard}
use Rattle.flow_table.specs.declared.table.Heard.TheVariants.{Fine, Undoable, Needs}
use Rattle.flow_table.specs.declared.table.Step.{Step}
use Rattle.flow_table.specs.declared.table.Step.TheVariants.{Enter, Stop}
use Rattle.flow_table.specs.declared.table.Order.{Order}
use Rattle.flow_table.specs.declared.table.Order.TheVariants as order
use Rattle.flow_table.specs.declared.table.Opening.{Opening}
use Rattle.flow_table.specs.declared.table.Opening.TheVariants as opening
use Rattle.flow_table.specs.Valid.{is_valid, is_outcome, is_undoable, is_reboot, is_count}
use Rattle.flow_table.specs.Table.{IsRunning, enter_of, undo_of, settled, after_install, after_rollback, next_by, next_of, lost_by, lost_of, first_by, first_of, at_running, at_reboot, at_wait}
use Rattle.flow_table.specs.Laws.{is_fine, IsTrial, IsUndoneAtLoss, Breaks, already, no_rollback, rollback_failed, limit, BreaksAtLoss, already_at_loss, no_rollback_at_loss, limit_at_loss}

-- a valid position, by its fields
pub record Fits (s : State) (p : Position) : Type 0 where
  pub outcome : is_outcome s p.outcome ≡ true
  pub undoable : is_undoable s p.undoable ≡ true
  pub reboot : is_reboot s p.reboot ≡ true
  pub count : is_count s p.n ≡ true

pub fits_of : (p : Position) → is_valid p ≡ true → Fits p.state p
fits_of p v =
    let a = and_parts _ _ v in
    let b = and_parts _ _ a.0 in
    let c = and_parts _ _ b.0 in
    record { outcome = c.0; undoable = c.1; reboot = b.1; count = a.1 }

valid_from : (p : Position) → Fits p.state p → is_valid p ≡ true
valid_from p f = and_from _ _ (and_from _ _ (and_from _ _ f.outcome f.undoable) f.reboot) f.count

-- a number of states that a valid position has
abbrev pub InRange : ℕ → Type 0
InRange n = (1 ≤ n) × (n ≤ 28)

pub in_range : (s : State) (n : ℕ) → is_count s n ≡ true → InRange n
unfolding is_count
in_range Download n e = grind (arith, nat_tests)
in_range Install n e = grind (arith, nat_tests)
in_range s n e = let a = and_parts (nat_le 1 n) (nat_le n 28) e in (grind (arith, nat_tests), grind (arith, nat_tests))

counts : (n : ℕ) → InRange n → (nat_le 1 n && nat_le n 28) ≡ true
counts n r = and_from (nat_le 1 n) (nat_le n 28) (let a : 1 ≤ n = r.0 in grind (arith, nat_tests)) (let a : n ≤ 28 = r.1 in grind (arith, nat_tests))

-- an outcome that only an undecided position has
undecided : (o : Outcome) → is_outcome Install o ≡ true → o ≡ Undecided
unfolding is_outcome
undecided Undecided e = refl
undecided Kept e = absurd cc
undecided Committed e = absurd cc
undecided RolledBack e = absurd cc
undecided Inconsistent e = absurd cc

-- what a step from a position with this n and outcome leads to
pub record Leads (was : Outcome) (breaks commits : Type 0) (q : Position) : Type 0 where
  pub valid : is_valid q ≡ true
  pub broken : q.outcome ≡ Inconsistent → breaks
  pub committed : q.outcome ≡ Committed → commits
  pub stays : was ≢ Undecided → q.outcome ≡ was

-- what a state that is entered has to allow
record Allows (s : State) (o : Outcome) (p : Position) : Type 0 where
  outcome : is_outcome s o ≡ true
  undoable : is_undoable s p.undoable ≡ true
  reboot : is_reboot s p.reboot ≡ true
  count : p.n < 28 → is_count s (p.n + 1) ≡ true

ended_decided : (o : Outcome) → is_outcome Idle (settled o) ≡ true
unfolding is_outcome
ended_decided Undecided = refl
ended_decided Kept = refl
ended_decided Committed = refl
ended_decided RolledBack = refl
ended_decided Inconsistent = refl

ended_breaks : (o : Outcome) (breaks : Type 0) → (o ≡ Inconsistent → breaks) → (o ≡ Undecided → breaks) → settled o ≡ Inconsistent → breaks
ended_breaks Undecided breaks b u e = u refl
ended_breaks Kept breaks b u e = absurd cc
ended_breaks Committed breaks b u e = absurd cc
ended_breaks RolledBack breaks b u e = absurd cc
ended_breaks Inconsistent breaks b u e = b refl

ended_commits : (o : Outcome) → settled o ≡ Committed → o ≡ Committed
ended_commits Undecided e = absurd cc
ended_commits Kept e = absurd cc
ended_commits Committed e = refl
ended_commits RolledBack e = absurd cc
ended_commits Inconsistent e = absurd cc

ended_stays : (o was : Outcome) → o ≡ was → was ≢ Undecided → settled o ≡ was
ended_stays Undecided was e n = absurd (n (sym e))
ended_stays Kept was e n = e
ended_stays Committed was e n = e
ended_stays RolledBack was e n = e
ended_stays Inconsistent was e n = e

module _ (was : Outcome) (breaks commits : Type 0) where
  enters_by : (p : Position) (s : State) (o : Outcome) (below : Bool) → nat_lt p.n 28 ≡ below → InRange p.n → Allows s o p
      → (o ≡ Inconsistent → breaks) → (p.n ≡ 28 → o ≡ Undecided → breaks) → (o ≡ Committed → commits) → (was ≢ Undecided → o ≡ was)
      → Leads was breaks commits (cond below (record p { state = s; outcome = o; n = p.n + 1 }) (record p { state = Idle; outcome = settled o }))
  unfolding is_undoable is_reboot is_count
  enters_by p s o true e r a b l c k =
      let less : p.n < 28 = grind (arith, nat_tests) in
      record {
        valid = valid_from (record p { state = s; outcome = o; n = p.n + 1 }) (record { outcome = a.outcome; undoable = a.undoable; reboot = a.reboot; count = a.count less });
        broken = b;
        committed = c;
        stays = k;
      }
  enters_by p s o false e r a b l c k =
      let last : p.n ≡ 28 = let few : p.n ≤ 28 = r.1 in grind (arith, nat_tests) in
      record {
        valid = valid_from (record p { state = Idle; outcome = settled o }) (record { outcome = ended_decided o; undoable = refl; reboot = refl; count = counts p.n r });
        broken = ended_breaks o breaks b (l last);
        committed = λ is. c (ended_commits o is);
        stays = λ n. ended_stays o was (k n) n;
      }

  -- a state is entered, or the deployment ends
  enters : (p : Position) (s : State) (o : Outcome) → InRange p.n → Allows s o p
      → (o ≡ Inconsistent → breaks) → (p.n ≡ 28 → o ≡ Undecided → breaks) → (o ≡ Committed → commits) → (was ≢ Undecided → o ≡ was)
      → Leads was breaks commits (enter_of p s o)
  enters p s o r a b l c k = enters_by p s o (nat_lt p.n 28) refl r a b l c k

  -- with nothing decided
  goes_on : (p : Position) (s : State) → was ≡ Undecided → InRange p.n → Allows s Undecided p → (p.n ≡ 28 → breaks) → Leads was breaks commits (enter_of p s Undecided)
  goes_on p s u r a l = enters p s Undecided r a (λ e. absurd cc) (λ n e. l n) (λ e. absurd cc) (λ n. sym u)

  undoes_by : (p : Position) (can : Bool) → p.undoable ≡ can → was ≡ Undecided → InRange p.n → (p.undoable ≡ false → breaks) → (p.n ≡ 28 → breaks)
      → Leads was breaks commits (cond can (enter_of p Rollback Undecided) (enter_of p Failure Inconsistent))
  unfolding is_outcome is_undoable is_reboot is_count
  undoes_by p true e u r b l = goes_on p Rollback u r (record { outcome = refl; undoable = e; reboot = refl; count = λ less. counts (p.n + 1) (omega arith, omega arith) }) l
  undoes_by p false e u r b l = enters p Failure Inconsistent r (record { outcome = refl; undoable = refl; reboot = refl; count = λ less. counts (p.n + 1) (omega arith, omega arith) }) (λ same. b e) (λ n same. absurd cc) (λ same. absurd cc) (λ n. absurd (n u))

  -- what was installed is taken back
  undoes : (p : Position) → was ≡ Undecided → InRange p.n → (p.undoable ≡ false → breaks) → (p.n ≡ 28 → breaks) → Leads was breaks commits (undo_of p)
  undoes p u r b l = undoes_by p p.undoable refl u r b l

abbrev pub CommitsBy : Position → Heard → Type 0
CommitsBy p h = (p.outcome ≡ Committed) ⊎ ((p.state ≡ Commit) × (h ≡ Fine))

-- ---- NEXT
abbrev pub After : Position → Heard → Step → Type 0
After p h (Enter q) = Leads p.outcome (Breaks p h) (CommitsBy p h) q
After p h Stop = ⊤

-- the count of a state that asks for none of its own
next_count : (p : Position) → InRange p.n → p.n < 28 → (nat_le 1 (p.n + 1) && nat_le (p.n + 1) 28) ≡ true
next_count p r less = counts (p.n + 1) (omega arith, omega arith)

-- from p, with the outcome that it has
keeps : (p : Position) (s : State) (breaks commits : Type 0) → InRange p.n → Allows s p.outcome p → p.outcome ≢ Undecided → (p.outcome ≡ Inconsistent → breaks) → (p.outcome ≡ Committed → commits) → Leads p.outcome breaks commits (enter_of p s p.outcome)
keeps p s breaks commits r a d b c = enters p.outcome breaks commits p s p.outcome r a b (λ n u. absurd (d u)) c (λ n. refl)

-- a state in which what was installed is taken back failed
trial_fails : (s : State) (h : Heard) (p : Position) → p.state ≡ s → IsTrial s → is_fine s h ≡ false → p.outcome ≡ Undecided → InRange p.n → Leads p.outcome (Breaks p h) (CommitsBy p h) (undo_of p)
trial_fails s h p e t f u r = undoes p.outcome (Breaks p h) (CommitsBy p h) p u r (λ can. no_rollback (rw e t) (rw e f) can) (λ n. limit n u)

decided : (o : Outcome) → is_outcome Cleanup o ≡ true → o ≢ Undecided
unfolding is_outcome
decided o e same = let f : is_outcome Cleanup Undecided ≡ true = subst (λ (x : Outcome). is_outcome Cleanup x ≡ true) same e in absurd cc

undone : (o : Outcome) → is_outcome Failure o ≡ true → is_outcome Cleanup o ≡ true
unfolding is_outcome
undone Undecided e = e
undone Kept e = refl
undone Committed e = refl
undone RolledBack e = refl
undone Inconsistent e = refl

committed_is : (o : Outcome) → is_outcome CommitLeave o ≡ true → o ≡ Committed
unfolding is_outcome
committed_is Undecided e = absurd cc
committed_is Kept e = absurd cc
committed_is Committed e = refl
committed_is RolledBack e = absurd cc
committed_is Inconsistent e = absurd cc

-- one row of NEXT
module _ (p : Position) (h : Heard) where
  abbrev Row : Position → Type 0
  Row q = Leads p.outcome (Breaks p h) (CommitsBy p h) q

  -- to Failure, with this outcome
  fails : (o : Outcome) → is_outcome Failure o ≡ true → p.outcome ≡ Undecided → InRange p.n → (o ≡ Inconsistent → Breaks p h) → Row (enter_of p Failure o)
  unfolding is_undoable is_reboot is_count is_outcome
  fails o a u r b =
      enters p.outcome (Breaks p h) (CommitsBy p h) p Failure o r (record { outcome = a; undoable = refl; reboot = refl; count = next_count p r }) b (λ n same. limit n u) (λ same. absurd (not_committed o a same)) (λ n. absurd (n u))
    where
      not_committed : (o : Outcome) → is_outcome Failure o ≡ true → o ≡ Committed → ⊥
      not_committed o a same = let f : is_outcome Failure Committed ≡ true = subst (λ (x : Outcome). is_outcome Failure x ≡ true) same a in cc

  -- to Cleanup, with a decided outcome
  cleans : is_outcome Cleanup p.outcome ≡ true → InRange p.n → Row (enter_of p Cleanup p.outcome)
  unfolding is_undoable is_reboot is_count
  cleans d r = keeps p Cleanup (Breaks p h) (CommitsBy p h) r (record { outcome = d; undoable = refl; reboot = refl; count = next_count p r }) (decided p.outcome d) already inl

  waits_by : (can : Bool) → (can ≡ true → p.undoable ≡ true) → p.outcome ≡ Undecided → InRange p.n → Row (enter_of p (cond can Wait Commit) Undecided)
  unfolding is_outcome is_undoable is_reboot is_count
  waits_by true e u r = goes_on p.outcome (Breaks p h) (CommitsBy p h) p Wait u r (record { outcome = refl; undoable = e refl; reboot = refl; count = next_count p r }) (λ n. limit n u)
  waits_by false e u r = goes_on p.outcome (Breaks p h) (CommitsBy p h) p Commit u r (record { outcome = refl; undoable = refl; reboot = refl; count = next_count p r }) (λ n. limit n u)

  installed : (k : Rebooting) → p.outcome ≡ Undecided → InRange p.n → Row (after_install k p)
  unfolding is_outcome is_undoable is_reboot is_count
  installed No u r = waits_by p.undoable (λ e. e) u r
  installed Yes u r = goes_on p.outcome (Breaks p h) (CommitsBy p h) (record p { reboot = Yes }) Reboot u r (record { outcome = refl; undoable = refl; reboot = refl; count = next_count p r }) (λ n. limit n u)
  installed Automatic u r = goes_on p.outcome (Breaks p h) (CommitsBy p h) (record p { reboot = Automatic }) Reboot u r (record { outcome = refl; undoable = refl; reboot = refl; count = next_count p r }) (λ n. limit n u)

  rolled_back : (k : Rebooting) → p.reboot ≡ k → p.undoable ≡ true → p.outcome ≡ Undecided → InRange p.n → Row (after_rollback k p)
  unfolding is_outcome is_undoable is_reboot is_count
  rolled_back No e can u r = fails RolledBack refl u r (λ same. absurd cc)
  rolled_back Yes e can u r = goes_on p.outcome (Breaks p h) (CommitsBy p h) p RollbackReboot u r (record { outcome = refl; undoable = can; reboot = rw e refl; count = next_count p r }) (λ n. limit n u)
  rolled_back Automatic e can u r = goes_on p.outcome (Breaks p h) (CommitsBy p h) p RollbackReboot u r (record { outcome = refl; undoable = can; reboot = rw e refl; count = next_count p r }) (λ n. limit n u)

both : (a b : Bool) → (a && b) ≡ true → b ≡ true
both true b e = e
both false b e = absurd cc

next_row : (s : State) (h : Heard) (stop : Bool) (p : Position) → p.state ≡ s → Fits s p → InRange p.n → After p h (next_by s h stop p)
unfolding is_outcome is_undoable is_reboot is_count
next_row Idle h stop p e f r = tt
next_row Download (Undoable can) stop p e f r =
    let u = undecided p.outcome f.outcome in
    goes_on p.outcome (Breaks p (Undoable can)) (CommitsBy p (Undoable can)) (record p { undoable = can }) Install u r (record { outcome = refl; undoable = refl; reboot = f.reboot; count = λ less. let one = f.count in grind (arith, nat_tests) }) (λ n. limit n u)
next_row Download h stop p e f r =
    let u = undecided p.outcome f.outcome in
    enters p.outcome (Breaks p h) (CommitsBy p h) p Cleanup Kept r (record { outcome = refl; undoable = refl; reboot = refl; count = next_count p r }) (λ same. absurd cc) (λ n same. limit n u) (λ same. absurd cc) (λ n. absurd (n u))
next_row Install (Needs k) stop p e f r = installed p (Needs k) k (undecided p.outcome f.outcome) r
next_row Install h stop p e f r = trial_fails Install h p e tt refl (undecided p.outcome f.outcome) r
next_row Reboot Fine stop p e f r = tt
next_row Reboot h stop p e f r = trial_fails Reboot h p e tt refl (undecided p.outcome f.outcome) r
next_row VerifyReboot Fine stop p e f r = waits_by p Fine (stop && p.undoable) (both stop p.undoable) (undecided p.outcome f.outcome) r
next_row VerifyReboot h stop p e f r = trial_fails VerifyReboot h p e tt refl (undecided p.outcome f.outcome) r
next_row Commit Fine stop p e f r =
    let u = undecided p.outcome f.outcome in
    enters p.outcome (Breaks p Fine) (CommitsBy p Fine) p CommitLeave Committed r (record { outcome = refl; undoable = refl; reboot = refl; count = next_count p r }) (λ same. absurd cc) (λ n same. limit n u) (λ same. inr (e, refl)) (λ n. absurd (n u))
next_row Commit h stop p e f r = trial_fails Commit h p e tt refl (undecided p.outcome f.outcome) r
next_row CommitLeave h stop p e f r =
    let was = committed_is p.outcome f.outcome in
    subst (λ (o : Outcome). After p h (Enter (enter_of p Cleanup o))) was (cleans p h (subst (λ (o : Outcome). is_outcome Cleanup o ≡ true) (sym was) refl) r)
next_row Rollback Fine stop p e f r = rolled_back p Fine p.reboot refl f.undoable (undecided p.outcome f.outcome) r
next_row Rollback h stop p e f r = fails p h Inconsistent refl (undecided p.outcome f.outcome) r (λ same. rollback_failed e (rw e refl))
next_row RollbackReboot h stop p e f r = tt
next_row VerifyRollbackReboot Fine stop p e f r = fails p Fine RolledBack refl (undecided p.outcome f.outcome) r (λ same. absurd cc)
next_row VerifyRollbackReboot h stop p e f r =
    let u = undecided p.outcome f.outcome in
    goes_on p.outcome (Breaks p h) (CommitsBy p h) p RollbackReboot u r (record { outcome = refl; undoable = f.undoable; reboot = f.reboot; count = next_count p r }) (λ n. limit n u)
next_row Failure h stop p e f r = cleans p h (undone p.outcome f.outcome) r
next_row Cleanup h stop p e f r = record { valid = valid_from (record p { state = Idle }) (record { outcome = f.outcome; undoable = refl; reboot = refl; count = f.count }); broken = already; committed = inl; stays = λ n. refl }
next_row Wait h stop p e f r = tt

next_leads : (p : Position) (h : Heard) (stop : Bool) → is_valid p ≡ true → After p h (next_of p h stop)
next_leads p h stop v = let f = fits_of p v in next_row p.state h stop p refl f (in_range p.state p.n f.count)

-- ---- LOST and FIRST
abbrev pub Lost : Position → Position → Type 0
Lost p q = Leads p.outcome (BreaksAtLoss p) (p.outcome ≡ Committed) q

-- the same state again, or the one that verifies it
again : (p : Position) (s : State) → is_outcome s p.outcome ≡ true → p.outcome ≢ Undecided → (is_undoable s p.undoable ≡ true) → is_reboot s p.reboot ≡ true → (p.n < 28 → is_count s (p.n + 1) ≡ true) → InRange p.n → Lost p (enter_of p s p.outcome)
again p s o d can b n r = keeps p s (BreaksAtLoss p) (p.outcome ≡ Committed) r (record { outcome = o; undoable = can; reboot = b; count = n }) d already_at_loss (λ same. same)

-- a state is entered with nothing decided
tries : (p : Position) (s : State) → p.outcome ≡ Undecided → is_outcome s Undecided ≡ true → is_undoable s p.undoable ≡ true → is_reboot s p.reboot ≡ true → (p.n < 28 → is_count s (p.n + 1) ≡ true) → InRange p.n → Lost p (enter_of p s Undecided)
tries p s u o can b n r = goes_on p.outcome (BreaksAtLoss p) (p.outcome ≡ Committed) p s u r (record { outcome = o; undoable = can; reboot = b; count = n }) (λ last. limit_at_loss last u)

-- the same with the outcome that p has
retries : (p : Position) (s : State) → p.outcome ≡ Undecided → Lost p (enter_of p s Undecided) → Lost p (enter_of p s p.outcome)
retries p s u l = subst (λ (o : Outcome). Lost p (enter_of p s o)) (sym u) l

trial_lost : (s : State) (p : Position) → p.state ≡ s → IsUndoneAtLoss s → p.outcome ≡ Undecided → InRange p.n → Lost p (undo_of p)
trial_lost s p e t u r = undoes p.outcome (BreaksAtLoss p) (p.outcome ≡ Committed) p u r (λ can. no_rollback_at_loss (rw e t) can) (λ n. limit_at_loss n u)

lost_row : (s : State) (p : Position) → IsRunning s → p.state ≡ s → Fits s p → InRange p.n → Lost p (lost_by s p)
unfolding is_outcome is_undoable is_reboot is_count
lost_row Idle p x e f r = absurd x
lost_row Download p x e f r =
    let u = undecided p.outcome f.outcome in
    enters p.outcome (BreaksAtLoss p) (p.outcome ≡ Committed) p Cleanup Kept r (record { outcome = refl; undoable = refl; reboot = refl; count = next_count p r }) (λ same. absurd cc) (λ n same. limit_at_loss n u) (λ same. absurd cc) (λ n. absurd (n u))
lost_row Install p x e f r = trial_lost Install p e tt (undecided p.outcome f.outcome) r
lost_row Reboot p x e f r = let u = undecided p.outcome f.outcome in retries p VerifyReboot u (tries p VerifyReboot u refl refl f.reboot (next_count p r) r)
lost_row VerifyReboot p x e f r = trial_lost VerifyReboot p e tt (undecided p.outcome f.outcome) r
lost_row Commit p x e f r = trial_lost Commit p e tt (undecided p.outcome f.outcome) r
lost_row CommitLeave p x e f r = let was = committed_is p.outcome f.outcome in again p CommitLeave f.outcome (λ u. absurd cc) refl refl (next_count p r) r
lost_row Rollback p x e f r = let u = undecided p.outcome f.outcome in retries p Rollback u (tries p Rollback u refl f.undoable refl (next_count p r) r)
lost_row RollbackReboot p x e f r = let u = undecided p.outcome f.outcome in retries p VerifyRollbackReboot u (tries p VerifyRollbackReboot u refl f.undoable f.reboot (next_count p r) r)
lost_row VerifyRollbackReboot p x e f r = let u = undecided p.outcome f.outcome in retries p VerifyRollbackReboot u (tries p VerifyRollbackReboot u refl f.undoable f.reboot (next_count p r) r)
lost_row Failure p x e f r = again p Failure f.outcome (decided p.outcome (undone p.outcome f.outcome)) refl refl (next_count p r) r
lost_row Cleanup p x e f r = again p Cleanup f.outcome (decided p.outcome f.outcome) refl refl (next_count p r) r
lost_row Wait p x e f r = absurd x

pub lost_leads : (p : Position) → is_valid p ≡ true → IsRunning p.state → Lost p (lost_of p)
lost_leads p v x = let f = fits_of p v in lost_row p.state p x refl f (in_range p.state p.n f.count)

abbrev Opens : Position → Opening → Type 0
Opens p (opening.Enter q) = Lost p q
Opens p opening.Stay = ⊤
Opens p opening.NoUpdate = ⊤
Opens p (opening.MustResume s) = ⊤
Opens p (opening.NoRollback s) = ⊤

running_row : (o : Order) (p : Position) → Lost p (lost_of p) → Opens p (at_running o p)
running_row order.Resume p l = l
running_row order.ResumeStop p l = l
running_row order.Commit p l = tt
running_row order.Rollback p l = tt

rolls_back : (p : Position) → p.outcome ≡ Undecided → p.undoable ≡ true → InRange p.n → Lost p (enter_of p Rollback Undecided)
unfolding is_outcome is_undoable is_reboot is_count
rolls_back p u can r = tries p Rollback u refl can refl (next_count p r) r

commits_now : (p : Position) → p.outcome ≡ Undecided → InRange p.n → Lost p (enter_of p Commit Undecided)
unfolding is_outcome is_undoable is_reboot is_count
commits_now p u r = tries p Commit u refl refl refl (next_count p r) r

rolls_back_by : (p : Position) (can : Bool) → p.undoable ≡ can → p.outcome ≡ Undecided → InRange p.n → Opens p (cond can (opening.Enter (enter_of p Rollback Undecided)) (opening.NoRollback Reboot))
rolls_back_by p true e u r = rolls_back p u e r
rolls_back_by p false e u r = tt

reboot_row : (o : Order) (p : Position) → p.outcome ≡ Undecided → InRange p.n → Lost p (lost_of p) → Opens p (at_reboot o p)
reboot_row order.Resume p u r l = l
reboot_row order.ResumeStop p u r l = l
reboot_row order.Commit p u r l = l
reboot_row order.Rollback p u r l = rolls_back_by p p.undoable refl u r

wait_row : (o : Order) (p : Position) → p.outcome ≡ Undecided → p.undoable ≡ true → InRange p.n → Opens p (at_wait o p)
wait_row order.Resume p u can r = commits_now p u r
wait_row order.ResumeStop p u can r = tt
wait_row order.Commit p u can r = commits_now p u r
wait_row order.Rollback p u can r = rolls_back p u can r

first_row : (s : State) (o : Order) (p : Position) → Fits s p → InRange p.n → (IsRunning s → Lost p (lost_of p)) → Opens p (first_by s o p)
unfolding is_outcome is_undoable is_reboot is_count
first_row Idle o p f r l = tt
first_row Wait o p f r l = wait_row o p (undecided p.outcome f.outcome) f.undoable r
first_row Reboot o p f r l = reboot_row o p (undecided p.outcome f.outcome) r (l tt)
first_row Download o p f r l = running_row o p (l tt)
first_row Install o p f r l = running_row o p (l tt)
first_row VerifyReboot o p f r l = running_row o p (l tt)
first_row Commit o p f r l = running_row o p (l tt)
first_row CommitLeave o p f r l = running_row o p (l tt)
first_row Rollback o p f r l = running_row o p (l tt)
first_row RollbackReboot o p f r l = running_row o p (l tt)
first_row VerifyRollbackReboot o p f r l = running_row o p (l tt)
first_row Failure o p f r l = running_row o p (l tt)
first_row Cleanup o p f r l = running_row o p (l tt)

first_leads : (p : Position) (o : Order) → is_valid p ≡ true → Opens p (first_of p o)
first_leads p o v = let f = fits_of p v in first_row p.state o p f (in_range p.state p.n f.count) (lost_leads p v)

-- ---- where a step enters a position
pub next_entered : (p q : Position) (h : Heard) (stop : Bool) → is_valid p ≡ true → next_of p h stop ≡ Enter q → Leads p.outcome (Breaks p h) (CommitsBy p h) q
next_entered p q h stop v e = subst (λ (s : Step). After p h s) e (next_leads p h stop v)

pub first_entered : (p q : Position) (o : Order) → is_valid p ≡ true → first_of p o ≡ opening.Enter q → Lost p q
first_entered p q o v e = subst (λ (s : Opening). Opens p s) e (first_leads p o v)

-- ---- at Reboot

-- a position at Reboot is undecided, and a loss of power takes nothing back
pub at_reboot_limits : (p : Position) → is_valid p ≡ true → p.state ≡ Reboot → BreaksAtLoss p → p.n ≡ 28
unfolding is_outcome
at_reboot_limits p v at (already_at_loss is) =
    let open_yet : p.outcome ≡ Undecided = undecided p.outcome (subst (λ (s : State). is_outcome s p.outcome ≡ true) at (fits_of p v).outcome) in
    let no : Undecided ≡ Inconsistent = sym open_yet ∙ is in
    absurd cc
at_reboot_limits p v at (no_rollback_at_loss back cannot) = let no : ⊥ = subst IsUndoneAtLoss at back in absurd no
at_reboot_limits p v at (limit_at_loss is u) = is

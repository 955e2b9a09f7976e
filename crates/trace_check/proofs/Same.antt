-- When two events are the same.
use Rattle.std.proofs.Common.{◌≡◌, ℕ, Bool, true, false, List, [], ◌∷◌, get_or, refl, sym, ap, ◌∙◌, subst}
use Rattle.std.specs.Prelude.{◌==◌, ◌&&◌, not}
use Rattle.std.specs.Str.{bytes_eq}
use Rattle.std.proofs.lemmas.Bool.Decides.{Decides-eqb}
use Rattle.std.proofs.lemmas.Slice.Eq.{bytes_eq-Decides}
use Rattle.device_model.specs.declared.calls.Answer.{Answer}
use Rattle.device_model.specs.declared.calls.Answer.TheVariants.{Exit, Reply, NotStarted}
use Rattle.device_model.specs.declared.calls.Call.{Call}
use Rattle.device_model.specs.declared.calls.Call.TheVariants.{Module, Ask, Script, SystemReboot}
use Rattle.device_model.specs.declared.calls.Event.{Event}
use Rattle.device_model.specs.declared.calls.Event.TheVariants.{Start, End, Pause, Loss}
use Rattle.device_model.specs.declared.calls.ModState.{ModState}
use Rattle.device_model.specs.declared.calls.ModState.TheVariants as mod_state
use Rattle.device_model.specs.declared.calls.Query.{Query}
use Rattle.device_model.specs.declared.calls.Query.TheVariants.{SupportsRollback, NeedsArtifactReboot}
use Rattle.flow_table.specs.declared.position.Position.{Position}
use Rattle.flow_table.specs.declared.position.State.{State}
use Rattle.flow_table.specs.declared.position.State.TheVariants as at
use Rattle.flow_table.specs.declared.position.Outcome.{Outcome}
use Rattle.flow_table.specs.declared.position.Outcome.TheVariants.{Undecided, Kept, Committed, RolledBack, Inconsistent}
use Rattle.flow_table.specs.declared.position.Reboot.{Reboot as Rebooting}
use Rattle.flow_table.specs.declared.position.Reboot.TheVariants.{No, Yes, Automatic}
use Rattle.trace_check.specs.Way.{state_code, outcome_code, reboot_code, same_bool, same_position}
use Rattle.trace_check.specs.Reading.{state_number, query_number, same_call, same_answer, same_event}

abbrev states : List ModState
states = mod_state.Download ∷ mod_state.ArtifactInstall ∷ mod_state.ArtifactReboot ∷ mod_state.ArtifactVerifyReboot ∷ mod_state.ArtifactCommit ∷ mod_state.ArtifactRollback ∷ mod_state.ArtifactRollbackReboot ∷ mod_state.ArtifactVerifyRollbackReboot ∷ mod_state.ArtifactFailure ∷ mod_state.Cleanup ∷ []

abbrev state_at : ℕ → ModState
state_at n = get_or states n mod_state.Download

state-back : (s : ModState) → state_at (state_number s) ≡ s
state-back mod_state.Download = refl
state-back mod_state.ArtifactInstall = refl
state-back mod_state.ArtifactReboot = refl
state-back mod_state.ArtifactVerifyReboot = refl
state-back mod_state.ArtifactCommit = refl
state-back mod_state.ArtifactRollback = refl
state-back mod_state.ArtifactRollbackReboot = refl
state-back mod_state.ArtifactVerifyRollbackReboot = refl
state-back mod_state.ArtifactFailure = refl
state-back mod_state.Cleanup = refl

same-state : (s r : ModState) → (state_number s == state_number r) ≡ true → s ≡ r
same-state s r is = sym (state-back s) ∙ ap state_at ((Decides-eqb (state_number s) (state_number r)).0 is) ∙ state-back r

same-query : (q p : Query) → (query_number q == query_number p) ≡ true → q ≡ p
same-query SupportsRollback SupportsRollback is = refl
same-query NeedsArtifactReboot NeedsArtifactReboot is = refl
same-query SupportsRollback NeedsArtifactReboot is = absurd cc
same-query NeedsArtifactReboot SupportsRollback is = absurd cc

pub both-parts : (a b : Bool) → (a && b) ≡ true → (a ≡ true) × (b ≡ true)
both-parts true b is = (refl, is)
both-parts false b is = absurd cc

same-bytes : (x y : List ℕ) → bytes_eq x y ≡ true → x ≡ y
same-bytes x y is = (bytes_eq-Decides x y).0 is

pub call-is : (c d : Call) → same_call c d ≡ true → c ≡ d
call-is (Module k kind s) (Module j other r) is =
    let p = both-parts (k == j) (bytes_eq kind other && (state_number s == state_number r)) is in
    let q = both-parts (bytes_eq kind other) (state_number s == state_number r) p.1 in
    let a : k ≡ j = (Decides-eqb k j).0 p.0 in
    let b : kind ≡ other = same-bytes kind other q.0 in
    let e : s ≡ r = same-state s r q.1 in
    cc
call-is (Ask k kind s) (Ask j other r) is =
    let p = both-parts (k == j) (bytes_eq kind other && (query_number s == query_number r)) is in
    let q = both-parts (bytes_eq kind other) (query_number s == query_number r) p.1 in
    let a : k ≡ j = (Decides-eqb k j).0 p.0 in
    let b : kind ≡ other = same-bytes kind other q.0 in
    let e : s ≡ r = same-query s r q.1 in
    cc
call-is (Script name) (Script other) is = ap Script (same-bytes name other is)
call-is SystemReboot SystemReboot is = refl
call-is (Module k kind s) (Ask j other r) is = absurd cc
call-is (Module k kind s) (Script other) is = absurd cc
call-is (Module k kind s) SystemReboot is = absurd cc
call-is (Ask k kind s) (Module j other r) is = absurd cc
call-is (Ask k kind s) (Script other) is = absurd cc
call-is (Ask k kind s) SystemReboot is = absurd cc
call-is (Script name) (Module j other r) is = absurd cc
call-is (Script name) (Ask j other r) is = absurd cc
call-is (Script name) SystemReboot is = absurd cc
call-is SystemReboot (Module j other r) is = absurd cc
call-is SystemReboot (Ask j other r) is = absurd cc
call-is SystemReboot (Script other) is = absurd cc

answer-is : (a b : Answer) → same_answer a b ≡ true → a ≡ b
answer-is (Exit code) (Exit other) is = ap Exit ((Decides-eqb code other).0 is)
answer-is (Reply code text) (Reply other told) is =
    let p = both-parts (code == other) (bytes_eq text told) is in
    let a : code ≡ other = (Decides-eqb code other).0 p.0 in
    let b : text ≡ told = same-bytes text told p.1 in
    cc
answer-is NotStarted NotStarted is = refl
answer-is (Exit code) (Reply other told) is = absurd cc
answer-is (Exit code) NotStarted is = absurd cc
answer-is (Reply code text) (Exit other) is = absurd cc
answer-is (Reply code text) NotStarted is = absurd cc
answer-is NotStarted (Exit other) is = absurd cc
answer-is NotStarted (Reply other told) is = absurd cc

pub event-is : (d e : Event) → same_event d e ≡ true → d ≡ e
event-is (Start c) (Start d) is = ap Start (call-is c d is)
event-is (End a) (End b) is = ap End (answer-is a b is)
event-is (Pause n) (Pause m) is = ap Pause ((Decides-eqb n m).0 is)
event-is Loss Loss is = refl
event-is (Start c) (End b) is = absurd cc
event-is (Start c) (Pause m) is = absurd cc
event-is (Start c) Loss is = absurd cc
event-is (End a) (Start d) is = absurd cc
event-is (End a) (Pause m) is = absurd cc
event-is (End a) Loss is = absurd cc
event-is (Pause n) (Start d) is = absurd cc
event-is (Pause n) (End b) is = absurd cc
event-is (Pause n) Loss is = absurd cc
event-is Loss (Start d) is = absurd cc
event-is Loss (End b) is = absurd cc
event-is Loss (Pause m) is = absurd cc

eq-self : (n : ℕ) → (n == n) ≡ true
eq-self n = (Decides-eqb n n).1 refl

bytes-self : (x : List ℕ) → bytes_eq x x ≡ true
bytes-self x = (bytes_eq-Decides x x).1 refl

pub and-made : (a b : Bool) → a ≡ true → b ≡ true → (a && b) ≡ true
and-made true b x y = y
and-made false b x y = absurd cc

pub call-self : (c : Call) → same_call c c ≡ true
call-self (Module k kind s) = and-made (k == k) (bytes_eq kind kind && (state_number s == state_number s)) (eq-self k) (and-made (bytes_eq kind kind) (state_number s == state_number s) (bytes-self kind) (eq-self (state_number s)))
call-self (Ask k kind s) = and-made (k == k) (bytes_eq kind kind && (query_number s == query_number s)) (eq-self k) (and-made (bytes_eq kind kind) (query_number s == query_number s) (bytes-self kind) (eq-self (query_number s)))
call-self (Script name) = bytes-self name
call-self SystemReboot = refl

answer-self : (a : Answer) → same_answer a a ≡ true
answer-self (Exit code) = eq-self code
answer-self (Reply code text) = and-made (code == code) (bytes_eq text text) (eq-self code) (bytes-self text)
answer-self NotStarted = refl

pub event-self : (e : Event) → same_event e e ≡ true
event-self (Start c) = call-self c
event-self (End a) = answer-self a
event-self (Pause n) = eq-self n
event-self Loss = refl

-- ---- positions

abbrev resting_states : List State
resting_states = at.Idle ∷ at.Download ∷ at.Install ∷ at.Reboot ∷ at.VerifyReboot ∷ at.Commit ∷ at.CommitLeave ∷ at.Rollback ∷ at.RollbackReboot ∷ at.VerifyRollbackReboot ∷ at.Failure ∷ at.Cleanup ∷ at.Wait ∷ []

flow-back : (s : State) → get_or resting_states (state_code s) at.Idle ≡ s
flow-back at.Idle = refl
flow-back at.Download = refl
flow-back at.Install = refl
flow-back at.Reboot = refl
flow-back at.VerifyReboot = refl
flow-back at.Commit = refl
flow-back at.CommitLeave = refl
flow-back at.Rollback = refl
flow-back at.RollbackReboot = refl
flow-back at.VerifyRollbackReboot = refl
flow-back at.Failure = refl
flow-back at.Cleanup = refl
flow-back at.Wait = refl

abbrev outcomes : List Outcome
outcomes = Undecided ∷ Kept ∷ Committed ∷ RolledBack ∷ Inconsistent ∷ []

outcome-back : (o : Outcome) → get_or outcomes (outcome_code o) Undecided ≡ o
outcome-back Undecided = refl
outcome-back Kept = refl
outcome-back Committed = refl
outcome-back RolledBack = refl
outcome-back Inconsistent = refl

abbrev reboots : List Rebooting
reboots = No ∷ Yes ∷ Automatic ∷ []

reboot-back : (r : Rebooting) → get_or reboots (reboot_code r) No ≡ r
reboot-back No = refl
reboot-back Yes = refl
reboot-back Automatic = refl

bool-is : (a b : Bool) → same_bool a b ≡ true → a ≡ b
bool-is true true is = refl
bool-is false false is = refl
bool-is true false is = absurd cc
bool-is false true is = absurd cc

bool-self : (a : Bool) → same_bool a a ≡ true
bool-self true = refl
bool-self false = refl

pub position-is : (p q : Position) → same_position p q ≡ true → p ≡ q
position-is p q is =
    let a = both-parts (state_code p.state == state_code q.state) _ is in
    let b = both-parts (outcome_code p.outcome == outcome_code q.outcome) _ a.1 in
    let d = both-parts (same_bool p.undoable q.undoable) _ b.1 in
    let e = both-parts (reboot_code p.reboot == reboot_code q.reboot) (p.n == q.n) d.1 in
    let s : p.state ≡ q.state = sym (flow-back p.state) ∙ ap (λ n. get_or resting_states n at.Idle) ((Decides-eqb (state_code p.state) (state_code q.state)).0 a.0) ∙ flow-back q.state in
    let o : p.outcome ≡ q.outcome = sym (outcome-back p.outcome) ∙ ap (λ n. get_or outcomes n Undecided) ((Decides-eqb (outcome_code p.outcome) (outcome_code q.outcome)).0 b.0) ∙ outcome-back q.outcome in
    let u : p.undoable ≡ q.undoable = bool-is p.undoable q.undoable d.0 in
    let r : p.reboot ≡ q.reboot = sym (reboot-back p.reboot) ∙ ap (λ n. get_or reboots n No) ((Decides-eqb (reboot_code p.reboot) (reboot_code q.reboot)).0 e.0) ∙ reboot-back q.reboot in
    let n : p.n ≡ q.n = (Decides-eqb p.n q.n).0 e.1 in
    ap (λ x. record p { state = x }) s ∙ ap (λ x. record p { state = q.state; outcome = x }) o
    ∙ ap (λ x. record q { undoable = x; reboot = p.reboot; n = p.n }) u ∙ ap (λ x. record q { reboot = x; n = p.n }) r ∙ ap (λ x. record q { n = x }) n

position-self : (p : Position) → same_position p p ≡ true
position-self p =
    and-made (state_code p.state == state_code p.state) _ (eq-self (state_code p.state))
    (and-made (outcome_code p.outcome == outcome_code p.outcome) _ (eq-self (outcome_code p.outcome))
    (and-made (same_bool p.undoable p.undoable) _ (bool-self p.undoable)
    (and-made (reboot_code p.reboot == reboot_code p.reboot) (p.n == p.n) (eq-self (reboot_code p.reboot)) (eq-self p.n))))

pub is-position : (p q : Position) → p ≡ q → same_position p q ≡ true
is-position p q is = subst (λ (x : Position). same_position p x ≡ true) is (position-self p)

pub outcome-one : (o q : Outcome) → (outcome_code o == outcome_code q) ≡ true → o ≡ q
outcome-one o q is = sym (outcome-back o) ∙ ap (λ n. get_or outcomes n Undecided) ((Decides-eqb (outcome_code o) (outcome_code q)).0 is) ∙ outcome-back q

not-false : (b : Bool) → false ≡ not b → b ≡ true
not-false true is = refl
not-false false is = absurd cc

pub bytes-alike : (x y : List ℕ) → false ≡ not (bytes_eq x y) → x ≡ y
bytes-alike x y is = same-bytes x y (not-false (bytes_eq x y) is)

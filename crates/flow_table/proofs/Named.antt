-- What is read of a name.
use Rattle.std.proofs.Common.{◌≡◌, ℕ, Bool, true, false, List, [], ◌∷◌, cond, refl, ap, ◌∙◌}
use Rattle.std.specs.Prelude.{Option, Some, None}
use Rattle.std.specs.List.{find}
use Rattle.std.specs.Str.{bytes_eq}
use Rattle.std.proofs.lemmas.Slice.Eq.{bytes_eq-Decides}
use Rattle.flow_table.specs.declared.position.State.{State}
use Rattle.flow_table.specs.declared.position.State.TheVariants as at
use Rattle.flow_table.specs.declared.position.Outcome.{Outcome}
use Rattle.flow_table.specs.declared.position.Outcome.TheVariants.{Undecided, Kept, Committed, RolledBack, Inconsistent}
use Rattle.flow_table.specs.declared.position.Reboot.{Reboot}
use Rattle.flow_table.specs.declared.position.Reboot.TheVariants.{No, Yes, Automatic}
use Rattle.flow_table.specs.Names.{state_name, state_named, outcome_name, outcome_named, reboot_name, reboot_named}

-- a text names what is found
pub found-names : {A : Type 0} (name : A → List ℕ) (xs : List A) (text : List ℕ) (x : A) → find (λ y. bytes_eq text (name y)) xs ≡ Some x → text ≡ name x
found-names name [] text x is = absurd cc
found-names {A} name (y ∷ xs) text x is = by (found-names name xs text x) (bytes_eq text (name y)) refl is where
  by : (find (λ z. bytes_eq text (name z)) xs ≡ Some x → text ≡ name x) → (b : Bool) → bytes_eq text (name y) ≡ b → cond b (Some y) (find (λ z. bytes_eq text (name z)) xs) ≡ Some x → text ≡ name x
  by rest true same found = let it : y ≡ x = cc in (bytes_eq-Decides text (name y)).0 same ∙ ap name it
  by rest false same found = rest found

-- and each name names
pub state-named : (state : State) → state_named (state_name state) ≡ Some state
unfolding state_name
state-named at.Idle = refl
state-named at.Download = refl
state-named at.Install = refl
state-named at.Reboot = refl
state-named at.VerifyReboot = refl
state-named at.Commit = refl
state-named at.CommitLeave = refl
state-named at.Rollback = refl
state-named at.RollbackReboot = refl
state-named at.VerifyRollbackReboot = refl
state-named at.Failure = refl
state-named at.Cleanup = refl
state-named at.Wait = refl

pub outcome-named : (outcome : Outcome) → outcome_named (outcome_name outcome) ≡ Some outcome
unfolding outcome_name
outcome-named Undecided = refl
outcome-named Kept = refl
outcome-named Committed = refl
outcome-named RolledBack = refl
outcome-named Inconsistent = refl

pub reboot-named : (reboot : Reboot) → reboot_named (reboot_name reboot) ≡ Some reboot
unfolding reboot_name
reboot-named No = refl
reboot-named Yes = refl
reboot-named Automatic = refl

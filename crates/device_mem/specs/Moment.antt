-- What a call meets.
use Rattle.std.specs.Prelude.{◌≡◌, ⊤, ℕ, Bool, ◌==◌, List, [], find, Option, Some, None, if◌then◌else◌}
use Rattle.std.specs.List.{list_any}
use Rattle.device_mem.specs.declared.script.LossAt.{LossAt}
use Rattle.device_mem.specs.declared.moment.Moment.{Moment}
use Rattle.device_mem.specs.declared.moment.Moment.TheVariants.{Fine, Fails, Loses}

abbrev pub moment_by : Option LossAt → Bool → Moment
moment_by (Some loss) fails = Loses loss
moment_by None fails = if fails then Fails else Fine

-- what the call with this number meets: the first loss that is planned for it, else a fault that is, else nothing
abbrev pub moment_at : List LossAt → List ℕ → ℕ → Moment
moment_at losses faults n = moment_by (find (λ loss. loss.call == n) losses) (list_any (λ k. k == n) faults)

-- a loss and a fault come only where some are planned
abbrev pub IsPlanned : List LossAt → List ℕ → Moment → Type 0
IsPlanned losses faults (Loses loss) = losses ≡ [] → ⊥
IsPlanned losses faults Fails = faults ≡ [] → ⊥
IsPlanned losses faults Fine = ⊤

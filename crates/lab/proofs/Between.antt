-- Boots of any kind between the resumes that nothing hinders.
use Rattle.std.proofs.Common.{◌≡◌, ◌≢◌, ◌⊎◌, ⊎_elim, inl, inr, ℕ, ◌+◌, ◌≤◌, List, [], ◌∷◌, refl, sym, ap, subst, arith}
use Rattle.std.specs.Prelude.{Bool, Option, Ok}
use Rattle.device_model.specs.declared.calls.Event.{Event}
use Rattle.io_model.specs.Source.{Content}
use Rattle.script_names.specs.declared.site.Site.{Site}
use Rattle.flow_table.specs.declared.position.State.{State}
use Rattle.flow_table.specs.declared.position.State.TheVariants as state
use Rattle.flow_table.specs.declared.position.Position.{Position}
use Rattle.flow_table.specs.Bound.{Nearer, ended, counted}
use Rattle.flow_words.proofs.PieceLemmas.{orders-go-on}
use Rattle.flow_words.specs.Pieces.{End}
use Rattle.flow_drive.specs.Drive.{Leads}
use Rattle.record_codec.specs.declared.entry.Entry.{Entry}
use Rattle.record_codec.specs.declared.entry.Db.{Db}
use Rattle.record_codec.specs.Held.{position_of}
use Rattle.client_words.specs.declared.command.Command.{Command}
use Rattle.client_top.specs.Answers.{Words}
use Rattle.client_top.specs.Finds.{Starts, Unsaid, found_for, beginning}
use Rattle.client_top.specs.Boot.{Boot, nothing, stays, runs, begins, breaks_off}
use Rattle.lab.specs.declared.runs.BootRun.{BootRun}
use Rattle.lab.specs.Path.{Step, Path, stays as no_boot, goes, asked_of}
use Rattle.lab.specs.Bound.{HasResumes, none, one, other, EndsWithin}
use Rattle.lab.proofs.Begins.{Starting, goes_on, begins as begins_new, starting-by}
use Rattle.lab.proofs.Resuming.{resume-nearer, is-idle}

-- ---- an install that finds a deployment in progress begins none

starts-idle : (s : State) (site : Site) (content : Content) (c : Db) (e : Entry) (p : Position) → beginning s site content c ≡ Starts e p → s ≡ state.Idle
starts-idle state.Idle site content c e p h = refl
starts-idle s site content c e p h = absurd cc

unsaid-idle : (s : State) (site : Site) (content : Content) (c : Db) → beginning s site content c ≡ Unsaid → s ≡ state.Idle
unsaid-idle state.Idle site content c h = refl
unsaid-idle s site content c h = absurd cc

-- ---- one boot, of any kind

-- the deployment ended, or no fewer states were entered
abbrev Onward : Db → Db → Type 0
Onward c d = ((position_of d).state ≡ state.Idle) ⊎ (((position_of c).n ≤ (position_of d).n) × ((position_of d).n ≤ 28))

by-near : (c d : Db) → Nearer (position_of c) (position_of d) → Onward c d
by-near c d (ended idle) = inl idle
by-near c d (counted less few) = inr (omega (arith, less), few)

module _ (site : Site) (content : Content) where
  by-start : {c d : Db} {events : List Event} {end : End} {stop : Bool} (command : Command) (e : Entry) (p : Position) → (position_of c).state ≢ state.Idle → found_for (Ok command) site content c ≡ Starts e p → Starting site content command c e p → Leads site e stop p events end d → Onward c d
  by-start {c} {d} command e p busy found (goes_on o is own enters) leads =
      by-near c d (subst (λ (b : Db). Nearer (position_of b) (position_of d)) (sym own)
      (subst (λ (b : Db). Nearer e.position (position_of b)) (sym leads.stands) (orders-go-on e.position o enters leads.goes)))
  by-start {c} command e p busy found (begins_new install plan is_plan is fresh) leads =
      absurd (busy (starts-idle (position_of c).state site content c e p (subst (λ (k : Command). found_for (Ok k) site content c ≡ Starts e p) install found)))

  commands-are : {a b : Command} → ◌≡◌ {A = Words} (Ok a) (Ok b) → a ≡ b
  commands-are h = cc

  by-boot : {c d : Db} {events : List Event} {end : Option End} (command : Command) → (position_of c).state ≢ state.Idle → (position_of c).n ≤ 28 → Boot (asked_of site content command) c events end d → Onward c d
  by-boot command busy few nothing = inr (omega arith, few)
  by-boot command busy few (stays h) = inr (omega arith, few)
  by-boot {c} command busy few (runs e p found leads) = by-start command e p busy found (starting-by command site content c e p found) leads
  by-boot {c} command busy few (begins plan is found fits leads) =
      absurd (busy (unsaid-idle (position_of c).state site content c (subst (λ (k : Command). found_for (Ok k) site content c ≡ Unsaid) (commands-are is) found)))
  by-boot command busy few breaks_off = inr (omega arith, few)

  -- ---- boots in a row

  at-once : {c d : Db} {row : List BootRun} → Path site content c row d → (position_of c).state ≡ state.Idle → EndsWithin site content c row d
  at-once {c} {row} path idle = record { front = []; back = row; are = refl; ended = c; came = no_boot; rest = path; idle = idle }

  later : {c m d : Db} {run : BootRun} {row : List BootRun} → Step site content c run m → EndsWithin site content m row d → EndsWithin site content c (run ∷ row) d
  later {run} step w = record { front = run ∷ w.front; back = w.back; are = ap (λ (l : List BootRun). run ∷ l) w.are; ended = w.ended; came = goes step w.came; rest = w.rest; idle = w.idle }

  by-nearer : (times : ℕ) {c m d : Db} {run : BootRun} {row : List BootRun} → Step site content c run m → Path site content m row d → Nearer (position_of c) (position_of m) → 29 ≤ times + 1 + (position_of c).n
      → ((position_of m).n ≤ 28 → 29 ≤ times + (position_of m).n → EndsWithin site content m row d) → EndsWithin site content c (run ∷ row) d
  by-nearer times step path (ended idle) many rest = later step (at-once path idle)
  by-nearer times step path (counted less few) many rest = later step (rest few (omega (arith, less, many)))

  by-onward : (times : ℕ) {c m d : Db} {run : BootRun} {row : List BootRun} → Step site content c run m → Path site content m row d → Onward c m → 29 ≤ times + (position_of c).n
      → ((position_of m).n ≤ 28 → 29 ≤ times + (position_of m).n → EndsWithin site content m row d) → EndsWithin site content c (run ∷ row) d
  by-onward times step path (inl idle) many rest = later step (at-once path idle)
  by-onward times step path (inr near) many rest = let less = near.0 in later step (rest near.1 (omega (arith, less, many)))

  within : (times : ℕ) {c d : Db} {row : List BootRun} → Path site content c row d → HasResumes times row → (position_of c).n ≤ 28 → 29 ≤ times + (position_of c).n → EndsWithin site content c row d
  within times path none few many = absurd (omega (arith, few, many))
  within times {c} (goes {m} {run} step path) (one {times = before} is has) few many =
      ⊎_elim
      (λ idle. at-once (goes step path) idle)
      (λ busy. by-nearer before step path (resume-nearer site content c m run step is busy) many (within before path has))
      (is-idle site content (position_of c).state)
  within times {c} (goes {m} {run} step path) (other has) few many =
      ⊎_elim
      (λ idle. at-once (goes step path) idle)
      (λ busy. by-onward times step path (by-boot run.command busy few step.boot) many (within times path has))
      (is-idle site content (position_of c).state)

pub ends-within : (site : Site) (content : Content) (c d : Db) (row : List BootRun) (times : ℕ) → Path site content c row d → HasResumes times row → (position_of c).n ≤ 28 → 29 ≤ times + (position_of c).n → EndsWithin site content c row d
ends-within site content c d row times path has few many = within site content times path has few many

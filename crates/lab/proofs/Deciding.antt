-- A round has one outcome.
use Rattle.std.proofs.Common.{◌≡◌, ℕ, zero, suc, List, [], ◌∷◌, refl, sym, ◌∙◌, subst}
use Rattle.std.specs.Prelude.{map, replicate, Option, Some, ⊤}
use Rattle.device_model.specs.declared.calls.Event.{Event}
use Rattle.io_model.specs.Source.{Tree}
use Rattle.io_model.specs.Source.Content.{Told}
use Rattle.script_names.specs.declared.site.Site.{Site}
use Rattle.flow_table.specs.declared.position.Outcome.{Outcome}
use Rattle.flow_table.specs.declared.position.State.TheVariants.{Idle}
use Rattle.flow_words.specs.Pieces.{End, Ended}
use Rattle.record_codec.specs.declared.entry.Db.{Db}
use Rattle.record_codec.specs.Held.{position_of}
use Rattle.device_mem.specs.declared.script.Script.{Script}
use Rattle.device_mem.specs.Fits.{Fits}
use Rattle.client_words.specs.declared.command.Command.{Command}
use Rattle.client_words.specs.declared.command.Command.TheVariants.{Install, Resume}
use Rattle.lab.specs.declared.runs.BootRun.{BootRun}
use Rattle.lab.specs.Campaign.{events_of}
use Rattle.lab.specs.Draws.{round_of}
use Rattle.lab.specs.Simulation.{Played, Until, ends, goes_on, the_site}
use Rattle.lab.specs.Trees.{tree_of}
use Rattle.lab.proofs.Fitting.{fits-one}
use Rattle.lab.proofs.OneWay.{tells-on, tells-end, IsSaid, install-said, resume-said, step-quiet, boots-alike}
use Rattle.lab.proofs.Splitting.{split-fits}

-- ---- the commands of a round

-- the first boot has this command, and each other resumes
abbrev pub Commanded : Command → List BootRun → Type 0
Commanded command [] = ⊤
Commanded command (run ∷ runs) = (run.command ≡ command) × Commanded Resume runs

resumes : (times : ℕ) (runs : List BootRun) → map (λ (r : BootRun). r.command) runs ≡ replicate times Resume → Commanded Resume runs
resumes times [] is = tt
resumes zero (run ∷ runs) is = absurd cc
resumes (suc times) (run ∷ runs) is = (cc, resumes times runs cc)

pub commands : (times : ℕ) (runs : List BootRun) → map (λ (r : BootRun). r.command) runs ≡ Install ∷ replicate times Resume → Commanded Install runs
commands times [] is = tt
commands times (run ∷ runs) is = (cc, resumes times runs cc)

-- ---- boot by boot

same-end : {o x : Outcome} → ◌≡◌ {A = Option End} (Some (Ended x)) (Some (Ended o)) → x ≡ o
same-end h = cc

module _ (script : Script) (none : script.losses ≡ []) (site : Site) (tree : Tree) where
  one-end : {a b : Outcome} {d d' c : Db} {row other : List BootRun} (command : Command) → IsSaid site (Told tree) command → Commanded command row → Commanded command other
      → Until site (Told tree) a d c row → Until site (Told tree) b d' c other → (t s t1 s1 t2 s2 : ℕ) → Fits script t s (events_of row) t1 s1 → Fits script t s (events_of other) t2 s2 → a ≡ b
  one-end {a} {b} command said o o' (ends {run} step is idle) (ends {run = run'} step' is' idle') t s t1 s1 t2 s2 h k =
      let f = tells-end run.status a is in
      let g = tells-end run'.status b is' in
      let x = split-fits script t s run.events.events [] t1 s1 (step-quiet run step f) h in
      let y = split-fits script t s run'.events.events [] t2 s2 (step-quiet run' step' g) k in
      let same = boots-alike script t s none command said run run' step step' f g o.0 o'.0 x.taken x.started y.taken y.started x.begins y.begins in
      same-end (sym is ∙ same.end ∙ is')
  one-end {a} command said o o' (ends {run} step is idle) (goes_on {run = run'} {next} {runs} step' on busy rest) t s t1 s1 t2 s2 h k =
      let f = tells-end run.status a is in
      let g = tells-on run'.status on in
      let x = split-fits script t s run.events.events [] t1 s1 (step-quiet run step f) h in
      let y = split-fits script t s run'.events.events (events_of (next ∷ runs)) t2 s2 (step-quiet run' step' g) k in
      let same = boots-alike script t s none command said run run' step step' f g o.0 o'.0 x.taken x.started y.taken y.started x.begins y.begins in
      absurd (busy (subst (λ (m : Db). (position_of m).state ≡ Idle) same.db idle))
  one-end {b} command said o o' (goes_on {run} {next} {runs} step on busy rest) (ends {run = run'} step' is' idle') t s t1 s1 t2 s2 h k =
      let f = tells-on run.status on in
      let g = tells-end run'.status b is' in
      let x = split-fits script t s run.events.events (events_of (next ∷ runs)) t1 s1 (step-quiet run step f) h in
      let y = split-fits script t s run'.events.events [] t2 s2 (step-quiet run' step' g) k in
      let same = boots-alike script t s none command said run run' step step' f g o.0 o'.0 x.taken x.started y.taken y.started x.begins y.begins in
      absurd (busy (subst (λ (m : Db). (position_of m).state ≡ Idle) (sym same.db) idle'))
  one-end {a} {b} {d'} command said o o' (goes_on {m} {run} {next} {runs} step on busy rest) (goes_on {m = m'} {run = run'} {next = next'} {runs = runs'} step' on' busy' rest') t s t1 s1 t2 s2 h k =
      let f = tells-on run.status on in
      let g = tells-on run'.status on' in
      let x = split-fits script t s run.events.events (events_of (next ∷ runs)) t1 s1 (step-quiet run step f) h in
      let y = split-fits script t s run'.events.events (events_of (next' ∷ runs')) t2 s2 (step-quiet run' step' g) k in
      let same = boots-alike script t s none command said run run' step step' f g o.0 o'.0 x.taken x.started y.taken y.started x.begins y.begins in
      let at = fits-one script t s run.events.events x.taken x.started y.taken y.started x.begins (subst (λ (l : List Event). Fits script t s l y.taken y.started) (sym same.events) y.begins) in
      one-end Resume (resume-said site tree) o.1 o'.1 rest (subst (λ (z : Db). Until site (Told tree) b d' z (next' ∷ runs')) (sym same.db) rest')
      x.taken x.started t1 s1 t2 s2 x.goes
      (subst (λ (n : ℕ). Fits script x.taken n (events_of (next' ∷ runs')) t2 s2) (sym at.1) (subst (λ (n : ℕ). Fits script n y.started (events_of (next' ∷ runs')) t2 s2) (sym at.0) y.goes))

pub played-one : (x : ℕ) (a b : Outcome) → Played (round_of x) a → Played (round_of x) b → a ≡ b
played-one x a b p q =
    one-end (round_of x).script refl the_site (tree_of (round_of x).lengths) Install (install-said the_site (tree_of (round_of x).lengths))
    (commands p.times p.runs p.campaign.commands) (commands q.times q.runs q.campaign.commands) p.path q.path 0 0 p.device.taken p.device.started q.device.taken q.device.started p.campaign.fits q.campaign.fits

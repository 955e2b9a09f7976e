-- Each boot of a round that goes on counts a state.
use Rattle.std.proofs.Common.{◌≡◌, ◌≢◌, ℕ, ◌+◌, ◌<◌, ◌≤◌, List, [], ◌∷◌, length, refl, sym, ap, ◌∙◌, subst, arith}
use Rattle.std.proofs.lemmas.List.Elements.{recursion_from_All}
use Rattle.std.specs.Prelude.{All, map, replicate, Result, Ok, Err}
use Rattle.std.specs.List.{AllByRecursion}
use Rattle.device_model.specs.declared.calls.Event.{Event}
use Rattle.io_model.specs.Source.{Content, Tree}
use Rattle.io_model.specs.Source.Content.{Told}
use Rattle.script_names.specs.declared.site.Site.{Site}
use Rattle.flow_table.specs.declared.position.Position.{Position}
use Rattle.flow_table.specs.declared.position.State.TheVariants.{Idle}
use Rattle.flow_table.specs.declared.table.Order.TheVariants as order
use Rattle.flow_table.specs.declared.table.Opening.TheVariants as opening
use Rattle.flow_table.specs.Table.{fresh_position}
use Rattle.flow_table.specs.Bound.{Nearer, ended, counted}
use Rattle.flow_table.proofs.Resuming.{resume-enters}
use Rattle.flow_words.specs.Pieces.{End}
use Rattle.flow_words.proofs.PieceLemmas.{orders-go-on, pieces-keep}
use Rattle.record_codec.specs.declared.entry.Entry.{Entry}
use Rattle.record_codec.specs.declared.entry.Db.{Db}
use Rattle.record_codec.specs.declared.entry.Db.TheVariants.{Empty, Full}
use Rattle.record_codec.specs.Held.{position_of}
use Rattle.device_mem.specs.declared.script.Script.{Script}
use Rattle.device_mem.specs.Fits.{Fits}
use Rattle.client_words.specs.declared.command.Command.TheVariants.{Install, Resume}
use Rattle.client_top.specs.declared.status.Status.{Status}
use Rattle.client_top.specs.Finds.{Stays, Starts, starting, installed, opening_at}
use Rattle.lab.specs.declared.runs.BootRun.{BootRun}
use Rattle.lab.specs.Campaign.{events_of}
use Rattle.lab.specs.Path.{Step, Path, stays, goes, asked_of}
use Rattle.lab.specs.Simulation.{GoesOn}
use Rattle.lab.proofs.Deciding.{Commanded, commands}
use Rattle.lab.proofs.OneWay.{Going, rests, leads, going, tells-on, install-said, resume-said, step-quiet}
use Rattle.lab.proofs.Splitting.{split-fits}
use Rattle.lab.proofs.Turning.{busy}

-- one state more was counted, below the bound
record More (c m : Db) : Type 0 where
  less : (position_of c).n < (position_of m).n
  few : (position_of m).n ≤ 28

by-near : {c m : Db} → Nearer (position_of c) (position_of m) → (position_of m).state ≢ Idle → More c m
by-near (ended idle) not = absurd (not idle)
by-near (counted less few) not = record { less = less; few = few }

stays-no-start : {e : Entry} {p : Position} → Stays ≡ Starts e p → ⊥
stays-no-start h = cc

same-start : {e f : Entry} {p q : Position} → Starts e p ≡ Starts f q → (e ≡ f) × (p ≡ q)
same-start h = (cc, cc)

-- ---- a resume

resume-more : (site : Site) (content : Content) (c m : Db) {events : List Event} {end : End} → (position_of c).state ≢ Idle → (position_of m).state ≢ Idle → Going (asked_of site content Resume) c events end m → More c m
resume-more site content Empty m not on g = absurd (not refl)
resume-more site content (Full x) m not on (rests f none is same) =
    let r = resume-enters x.position not in absurd (stays-no-start (sym f ∙ ap (opening_at x) r.1))
resume-more site content (Full x) m not on (leads e p found l) =
    let r = resume-enters x.position not in
    let one = same-start (sym (ap (opening_at x) r.1) ∙ found) in
    by-near {c = Full x} {m = m} (subst (λ (d : Db). Nearer x.position (position_of d)) (sym l.stands) (orders-go-on x.position order.Resume (r.1 ∙ ap opening.Enter one.1) l.goes)) on

-- ---- an install

starts-fresh : (r : Result Entry Status) {e : Entry} {p : Position} → starting r ≡ Starts e p → fresh_position ≡ p
starts-fresh (Ok x) h = (same-start h).1
starts-fresh (Err s) h = absurd cc

starts-no-stay : (r : Result Entry Status) → starting r ≡ Stays → ⊥
starts-no-stay (Ok x) h = cc
starts-no-stay (Err s) h = cc

install-one : (site : Site) (tree : Tree) (m : Db) {events : List Event} {end : End} → Going (asked_of site (Told tree) Install) Empty events end m → 1 ≤ (position_of m).n
install-one site tree m (rests f none is same) = absurd (starts-no-stay (installed site tree Empty) f)
install-one site tree m (leads e p found l) =
    let fresh : fresh_position ≡ p = starts-fresh (installed site tree Empty) found in
    subst (λ (d : Db). 1 ≤ (position_of d).n) (sym l.stands) (subst (λ (q : Position). q.n ≤ l.last.n) (sym fresh) (pieces-keep l.goes))

-- ---- boots in a row

module _ (script : Script) (none : script.losses ≡ []) (site : Site) (tree : Tree) where
  far : {c m d : Db} {run : BootRun} {rest : List BootRun} → Step site (Told tree) c run m → Path site (Told tree) m rest d → AllByRecursion (λ r. GoesOn r.status) (run ∷ rest) → Commanded Resume (run ∷ rest)
      → (t s t1 s1 : ℕ) → Fits script t s (events_of (run ∷ rest)) t1 s1 → (position_of c).state ≢ Idle → length (run ∷ rest) + (position_of c).n ≤ 28
  far {c} {m} {run} step stays on are t s t1 s1 h not =
      let tells = tells-on run.status on.0 in
      let x = split-fits script t s run.events.events [] t1 s1 (step-quiet run step tells) h in
      let more = resume-more site (Told tree) c m not (busy site (Told tree) run on.0 script t s x.taken x.started none x.begins c m step)
      (going script t s none Resume (resume-said site tree) run step tells x.taken x.started x.begins are.0) in
      let less = more.less in let few = more.few in omega (arith, less, few)
  far {c} {m} {run} step (goes {run = next} {runs = rest} step' path) on are t s t1 s1 h not =
      let tells = tells-on run.status on.0 in
      let x = split-fits script t s run.events.events (events_of (next ∷ rest)) t1 s1 (step-quiet run step tells) h in
      let still = busy site (Told tree) run on.0 script t s x.taken x.started none x.begins c m step in
      let more = resume-more site (Told tree) c m not still (going script t s none Resume (resume-said site tree) run step tells x.taken x.started x.begins are.0) in
      let left = far step' path on.1 are.1 x.taken x.started t1 s1 x.goes still in
      let less = more.less in omega (arith, less, left)

  by-first : {m d : Db} {run : BootRun} {rest : List BootRun} → Step site (Told tree) Empty run m → Path site (Told tree) m rest d → AllByRecursion (λ r. GoesOn r.status) (run ∷ rest) → Commanded Install (run ∷ rest)
      → (t s : ℕ) → Fits script 0 0 (events_of (run ∷ rest)) t s → length (run ∷ rest) ≤ 28
  by-first step stays on are t s h = omega arith
  by-first {m} {run} step (goes {run = next} {runs = rest} step' path) on are t s h =
      let tells = tells-on run.status on.0 in
      let x = split-fits script 0 0 run.events.events (events_of (next ∷ rest)) t s (step-quiet run step tells) h in
      let one = install-one site tree m (going script 0 0 none Install (install-said site tree) run step tells x.taken x.started x.begins are.0) in
      let left = far step' path on.1 are.1 x.taken x.started t s x.goes (busy site (Told tree) run on.0 script 0 0 x.taken x.started none x.begins Empty m step) in
      omega (arith, one, left)

  pub short-rounds : (times : ℕ) (d : Db) (runs : List BootRun) (t s : ℕ) → Path site (Told tree) Empty runs d → map (λ (r : BootRun). r.command) runs ≡ Install ∷ replicate times Resume
      → All (λ (r : BootRun). GoesOn r.status) runs → Fits script 0 0 (events_of runs) t s → length runs ≤ 28
  short-rounds times d [] t s stays are on h = omega arith
  short-rounds times d (run ∷ rest) t s (goes step path) are on h =
      by-first step path (recursion_from_All (λ (r : BootRun). GoesOn r.status) (run ∷ rest) on) (commands times (run ∷ rest) are) t s h

-- What is told and what is shown.
use Rattle.std.proofs.Common.{◌≡◌, ℕ, List, refl, sym, ap, ◌∙◌, subst}
use Rattle.std.specs.Prelude.{Some, true, false, IsTrue, Ok, Err}
use Rattle.device_model.specs.State.{State}
use Rattle.io_model.specs.Source.{Content}
use Rattle.script_names.specs.declared.site.Site.{Site}
use Rattle.record_codec.specs.declared.entry.Db.{Db}
use Rattle.record_codec.specs.Spelling.{IsRight, IfFull}
use Rattle.slot_store.specs.Kept.{Kept}
use Rattle.slot_store.specs.Put.{Wrote}
use Rattle.device_model.specs.How.{Through}
use Rattle.device_model.proofs.Passes.{passed-none}
use Rattle.client_words.specs.declared.command.UsageFault.{UsageFault}
use Rattle.client_words.specs.declared.command.UsageFault.TheVariants.{UnknownCommand}
use Rattle.client_words.specs.declared.command.Command.{Command}
use Rattle.client_words.specs.declared.command.Command.TheVariants.{Install, Resume, ResumeStop, Commit, Rollback, ShowProvides, ShowArtifact, ShowDeployment, Check, Simulate}
use Rattle.client_top.specs.declared.status.Status.{Status}
use Rattle.client_top.specs.declared.status.Status.TheVariants.{Done, Refused, NoUpdate, Inconsistent, RebootNeeded, DiskFault, SourceFault, NoMemory, SinkFault, Usage, PowerOff, BadStore, TooLarge, NotNow, NotInstalled}
use Rattle.client_top.specs.declared.status.Good.TheVariants.{Committed, Waiting, RolledBack, Shown, Admitted, Simulated}
use Rattle.client_top.specs.Finds.{Request, Answers, found_for}
use Rattle.client_top.specs.Boot.{nothing}
use Rattle.client_top.specs.Answers.{Words, row_of, shows, fail, text_of}
use Rattle.io_model.specs.Sink.{Written, Writes, WritesFront}
use Rattle.client_top.specs.Texts.{shown}
use Rattle.client_top.specs.Did.{Did, Shelf, Obeyed, whole, cut}
use Rattle.client_top.specs.Steps.{Mounted, Tells}
use Rattle.client_top.proofs.Mounts.{still-did, usage-tells}

no : (w : Words) → shows w ≡ false → IsTrue (shows w) → {A : Type 0} → A
no w h s = absurd (never (sym s) h)
  where
    never : true ≡ shows w → shows w ≡ false → ⊥
    never a b = cc

-- an answer of a command that shows nothing has its text in the table
own-text : (w : Words) (c : Db) (status : Status) → shows w ≡ false → IsTrue ((row_of status).whose w) → text_of w (Some c) status ≡ (row_of status).text
own-text w c (Done Shown) h whose = no w h whose
own-text w c (Done Committed) h whose = refl
own-text w c (Done Waiting) h whose = refl
own-text w c (Done RolledBack) h whose = refl
own-text w c (Done Admitted) h whose = refl
own-text w c (Done Simulated) h whose = refl
own-text w c (Refused refusal) h whose = refl
own-text w c NoUpdate h whose = refl
own-text w c Inconsistent h whose = refl
own-text w c RebootNeeded h whose = refl
own-text w c DiskFault h whose = refl
own-text w c SourceFault h whose = refl
own-text w c NoMemory h whose = refl
own-text w c SinkFault h whose = refl
own-text w c (Usage fault) h whose = refl
own-text w c PowerOff h whose = refl
own-text w c (BadStore offset) h whose = refl
own-text w c (TooLarge bytes) h whose = refl
own-text w c (NotNow when) h whose = refl
own-text w c (NotInstalled how) h whose = refl

pub tells : (asked : Request) (c : Db) (status : Status) (old new : State) (shelf shelf' : Shelf) → shows asked.command ≡ false → Did asked (Some c) status old new shelf shelf' → Tells asked status old new shelf shelf'
tells asked c status old new shelf shelf' h did = record { from = Some c; did = did; text = own-text asked.command c status h did.answer.due.whose }

-- the database that was read is shown
pub shown-did : (command : Command) (site : Site) (content : Content) (store : Kept) (old mid : State) (shelf : Shelf) → IsTrue (shows (Ok command)) → Mounted store old mid → IfFull IsRight store.db →
    Did (record { command = Ok command; site = site; content = content }) (Some store.db) (Done Shown) old mid shelf shelf
shown-did ShowProvides site content store old mid shelf h mounted right = still-did (record { command = Ok ShowProvides; site = site; content = content }) store old mid mounted (Done Shown) shelf shelf right refl nothing (record { whose = refl; rests = refl }) refl refl
shown-did ShowArtifact site content store old mid shelf h mounted right = still-did (record { command = Ok ShowArtifact; site = site; content = content }) store old mid mounted (Done Shown) shelf shelf right refl nothing (record { whose = refl; rests = refl }) refl refl
shown-did ShowDeployment site content store old mid shelf h mounted right = still-did (record { command = Ok ShowDeployment; site = site; content = content }) store old mid mounted (Done Shown) shelf shelf right refl nothing (record { whose = refl; rests = refl }) refl refl
shown-did Install site content store old mid shelf h mounted right = absurd cc
shown-did Resume site content store old mid shelf h mounted right = absurd cc
shown-did ResumeStop site content store old mid shelf h mounted right = absurd cc
shown-did Commit site content store old mid shelf h mounted right = absurd cc
shown-did Rollback site content store old mid shelf h mounted right = absurd cc
shown-did Check site content store old mid shelf h mounted right = absurd cc
shown-did (Simulate seed rounds) site content store old mid shelf h mounted right = absurd cc

-- ---- nothing is read

still : (state : State) → state.on ≡ true → Wrote Through state state
still state on = record { passed = passed-none state on; told = λ t. t }

-- a simulation is no command here
simulates-found : (command : Command) (site : Site) (content : Content) (c : Db) → IsTrue (fail (Ok command)) → found_for (Ok command) site content c ≡ Answers (Usage (UnknownCommand 0))
simulates-found (Simulate seed rounds) site content c h = refl
simulates-found Install site content c h = absurd cc
simulates-found Resume site content c h = absurd cc
simulates-found ResumeStop site content c h = absurd cc
simulates-found Commit site content c h = absurd cc
simulates-found Rollback site content c h = absurd cc
simulates-found ShowProvides site content c h = absurd cc
simulates-found ShowArtifact site content c h = absurd cc
simulates-found ShowDeployment site content c h = absurd cc
simulates-found Check site content c h = absurd cc

pub simulates-tells : (asked : Request) (command : Command) (state : State) (shelf : Shelf) → state.on ≡ true → asked.command ≡ Ok command → IsTrue (fail (Ok command)) → Tells asked (Usage (UnknownCommand 0)) state state shelf shelf
simulates-tells asked command state shelf on is fails =
    usage-tells asked (UnknownCommand 0) state shelf (still state on) (subst (λ (w : Words). IsTrue (fail w)) (sym is) fails)
    (λ c. ap (λ (w : Words). found_for w asked.site asked.content c) is ∙ simulates-found command asked.site asked.content c fails)

pub wrong-tells : (asked : Request) (fault : UsageFault) (state : State) (shelf : Shelf) → state.on ≡ true → asked.command ≡ Err fault → Tells asked (Usage fault) state state shelf shelf
wrong-tells asked fault state shelf on is =
    usage-tells asked fault state shelf (still state on) (subst (λ (w : Words). IsTrue (fail w)) (sym is) refl) (λ c. ap (λ (w : Words). found_for w asked.site asked.content c) is)

-- ---- it is told

module _ {asked : Request} {old new : State} {shelf shelf' : Shelf} {before behind : Written} where
  pub told-whole : {status : Status} → Tells asked status old new shelf shelf' → Writes before (row_of status).text behind → Obeyed asked old new shelf shelf' before behind status
  told-whole {status} t w = record { from = t.from; meant = status; did = t.did; said = whole (subst (λ (text : List ℕ). Writes before text behind) (sym t.text) w) }

  pub told-cut : {status : Status} → Tells asked status old new shelf shelf' → WritesFront before (row_of status).text behind → Obeyed asked old new shelf shelf' before behind SinkFault
  told-cut {status} t w = record { from = t.from; meant = status; did = t.did; said = cut (subst (λ (text : List ℕ). WritesFront before text behind) (sym t.text) w) }

  pub shown-whole : (c d : Db) → d ≡ c → Did asked (Some c) (Done Shown) old new shelf shelf' → Writes before (shown asked.command d) behind → Obeyed asked old new shelf shelf' before behind (Done Shown)
  shown-whole c d is did w = record { from = Some c; meant = Done Shown; did = did; said = whole (subst (λ (x : Db). Writes before (shown asked.command x) behind) is w) }

  pub shown-cut : (c d : Db) → d ≡ c → Did asked (Some c) (Done Shown) old new shelf shelf' → WritesFront before (shown asked.command d) behind → Obeyed asked old new shelf shelf' before behind SinkFault
  shown-cut c d is did w = record { from = Some c; meant = Done Shown; did = did; said = cut (subst (λ (x : Db). WritesFront before (shown asked.command x) behind) is w) }

-- Commands that only look.
use Rattle.std.proofs.Common.{◌≡◌, Bool, true, false, List, [], refl, sym, ap, ◌∙◌, subst}
use Rattle.std.specs.Prelude.{◌&&◌, Option, Some, None, Ok, Err}
use Rattle.device_model.specs.declared.calls.Event.{Event}
use Rattle.device_model.specs.Disk.{Disk}
use Rattle.device_model.specs.Work.{Work}
use Rattle.device_model.specs.How.{WorksOn, has_start, work_after}
use Rattle.io_model.specs.Source.{Content}
use Rattle.script_names.specs.declared.site.Site.{Site}
use Rattle.flow_table.specs.declared.position.Position.{Position}
use Rattle.flow_words.specs.Pieces.{End}
use Rattle.record_codec.specs.declared.entry.Entry.{Entry}
use Rattle.record_codec.specs.declared.entry.Db.{Db}
use Rattle.slot_store.specs.Slots.{May}
use Rattle.client_words.specs.declared.command.Command.TheVariants.{Install, Resume, ResumeStop, Commit, Rollback, ShowProvides, ShowArtifact, ShowDeployment, Check, Simulate}
use Rattle.client_top.specs.Finds.{Request, Starts, finds, found_for}
use Rattle.client_top.specs.Boot.{Boot, nothing, stays, runs, begins, breaks_off}
use Rattle.client_top.specs.Answers.{Words, deploys}
use Rattle.client_top.specs.Did.{is_install, prepares, is_copied, Path, LeadsTo}
use Rattle.client_top.proofs.Starts.{check-never}

-- they find nothing to start
never-starts : (w : Words) (site : Site) (content : Content) (c : Db) (e : Entry) (p : Position) → deploys w ≡ false → found_for w site content c ≡ Starts e p → ⊥
never-starts (Ok Install) site content c e p looks h = absurd cc
never-starts (Ok Resume) site content c e p looks h = absurd cc
never-starts (Ok ResumeStop) site content c e p looks h = absurd cc
never-starts (Ok Commit) site content c e p looks h = absurd cc
never-starts (Ok Rollback) site content c e p looks h = absurd cc
never-starts (Ok ShowProvides) site content c e p looks h = cc
never-starts (Ok ShowArtifact) site content c e p looks h = cc
never-starts (Ok ShowDeployment) site content c e p looks h = cc
never-starts (Ok Check) site content c e p looks h = check-never site content c e p h
never-starts (Ok (Simulate seed rounds)) site content c e p looks h = cc
never-starts (Err fault) site content c e p looks h = cc

no-install : (w : Words) → deploys w ≡ false → is_install w ≡ false
no-install (Ok Install) looks = absurd cc
no-install (Ok Resume) looks = refl
no-install (Ok ResumeStop) looks = refl
no-install (Ok Commit) looks = refl
no-install (Ok Rollback) looks = refl
no-install (Ok ShowProvides) looks = refl
no-install (Ok ShowArtifact) looks = refl
no-install (Ok ShowDeployment) looks = refl
no-install (Ok Check) looks = refl
no-install (Ok (Simulate seed rounds)) looks = refl
no-install (Err fault) looks = refl

-- nor the work folder to fill
pub no-folder : (asked : Request) (from : Option Db) → deploys asked.command ≡ false → prepares asked from ≡ false
no-folder asked None looks = refl
no-folder asked (Some c) looks = ap (λ (b : Bool). b && is_copied (finds asked c)) (no-install asked.command looks)

-- so a boot leads nowhere
led : (asked : Request) (c : Db) (events : List Event) (end : Option End) (d : Db) → deploys asked.command ≡ false → Boot asked c events end d → (events ≡ []) × (c ≡ d)
led asked c events end d looks nothing = (refl, refl)
led asked c events end d looks (stays h) = (refl, refl)
led asked c events end d looks (runs e p h l) = absurd (never-starts asked.command asked.site asked.content c e p looks h)
led asked c events end d looks (begins plan install h f l) = absurd (other (sym (ap deploys install) ∙ looks))
  where
    other : true ≡ false → ⊥
    other h = cc
led asked c events end d looks breaks_off = (refl, refl)

pub no-events : (asked : Request) (from : Option Db) (events : List Event) (end : Option End) → deploys asked.command ≡ false → Path asked from events end → events ≡ []
no-events asked None events end looks path = path
no-events asked (Some c) events end looks path = (led asked c events end path.0 looks path.1).0

pub no-work : (events : List Event) (on : Bool) (ready old new : Option Work) → events ≡ [] → ready ≡ old → WorksOn (has_start events) on ready new → new ≡ work_after on old
no-work events on ready old new none kept works = subst (λ (w : List Event). WorksOn (has_start w) on ready new) none works ∙ ap (work_after on) kept

pub no-more : (asked : Request) (from : Option Db) (events : List Event) (end : Option End) (old : Option Disk) (d : Db) → deploys asked.command ≡ false → LeadsTo asked from events end old d → May old d
no-more asked None events end old d looks l = l
no-more asked (Some c) events end old d looks l = subst (May old) (led asked c events end d looks l.1).1 l.0

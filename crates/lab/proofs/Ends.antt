-- How the events of a boot end.
use Rattle.std.proofs.Common.{◌≡◌, Bool, true, false, List, [], ◌∷◌, ◌++◌, refl, ap, ◌∙◌, append-nil}
use Rattle.std.specs.Prelude.{Option, if◌then◌else◌}
use Rattle.device_model.specs.declared.calls.Event.{Event}
use Rattle.device_model.specs.declared.calls.Event.TheVariants.{Start, End as Ends, Pause, Loss}
use Rattle.flow_words.specs.Pieces.{End}
use Rattle.flow_words.specs.Power.{ArePowered}
use Rattle.flow_words.proofs.Powered.{pieces-powered}
use Rattle.flow_drive.specs.Calls.{callees}
use Rattle.record_codec.specs.declared.entry.Db.{Db}
use Rattle.client_top.specs.Finds.{Request, begun}
use Rattle.client_top.specs.Boot.{Boot, nothing, stays, runs, begins, breaks_off}
use Rattle.lab.specs.Events.{ends_with_loss}

pub ends-after-loss : (events : List Event) → ends_with_loss (events ++ Loss ∷ []) ≡ true
ends-after-loss [] = refl
ends-after-loss (e ∷ []) = refl
ends-after-loss (e ∷ f ∷ events) = ends-after-loss (f ∷ events)

powered-end : (events : List Event) → ArePowered events → ends_with_loss events ≡ false
powered-end [] h = refl
powered-end (Start c ∷ []) h = refl
powered-end (Ends a ∷ []) h = refl
powered-end (Pause s ∷ []) h = refl
powered-end (Loss ∷ []) h = absurd h.0
powered-end (e ∷ f ∷ events) h = powered-end (f ∷ events) h.1

-- what a command does ends with no loss of power
pub boot-end : {asked : Request} {c d : Db} {events : List Event} {end : Option End} → Boot asked c events end d → ends_with_loss events ≡ false
boot-end nothing = refl
boot-end (stays h) = refl
boot-end {asked} {events} (runs e p found leads) = powered-end _ (pieces-powered (callees asked.site e) leads.goes)
boot-end {asked} {c} {events} (begins plan is found fits leads) = powered-end _ (pieces-powered (callees asked.site (begun c plan)) leads.goes)
boot-end breaks_off = refl

-- a journal ends with a loss exactly where one stands behind what the command did
pub ends-by : (events journal : List Event) (off : Bool) → ends_with_loss events ≡ false → journal ≡ events ++ (if off then Loss ∷ [] else []) → ends_with_loss journal ≡ off
ends-by events journal true calm is = ap ends_with_loss is ∙ ends-after-loss events
ends-by events journal false calm is = ap ends_with_loss (is ∙ append-nil events) ∙ calm

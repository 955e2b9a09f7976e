-- One turn of the flow, from what the store says of its put.
use Rattle.std.proofs.Common.{◌≡◌, ◌≢◌, Bool, refl, sym, ap, subst, IsTrue}
use Rattle.std.specs.Prelude.{Err, Option}
use Rattle.device_model.specs.declared.calls.Down.{Down}
use Rattle.device_model.specs.Disk.{Disk, KeepsDisk}
use Rattle.device_model.specs.State.{State}
use Rattle.device_model.specs.How.{Through, how_of}
use Rattle.script_names.specs.declared.site.Site.{Site}
use Rattle.flow_table.specs.declared.position.Outcome.{Outcome}
use Rattle.flow_table.specs.declared.position.Outcome.TheVariants as outcome
use Rattle.flow_table.specs.declared.position.Position.{Position}
use Rattle.flow_table.specs.declared.position.State.TheVariants.{Idle}
use Rattle.flow_table.specs.Valid.{is_valid}
use Rattle.record_codec.specs.declared.entry.Entry.{Entry}
use Rattle.record_codec.specs.declared.entry.Db.{Db}
use Rattle.record_codec.specs.declared.entry.Db.TheVariants.{Empty, Full}
use Rattle.slot_store.specs.Slots.{Sound, OldOrNew}
use Rattle.slot_store.specs.Kept.{Kept, IsOf}
use Rattle.slot_store.proofs.Puts.{of-settled}
use Rattle.flow_table.proofs.Positions.{idle-decided}
use Rattle.slot_store.specs.Put.{IsFull, Wrote, IsPut, moved}
use Rattle.flow_words.specs.Words.{word_at}
use Rattle.flow_drive.specs.Calls.{callees}
use Rattle.flow_drive.specs.Drive.{at, Drove, IsDecided, cut_off}
use Rattle.flow_drive.specs.declared.flow.DriveEnd.TheVariants as drive_end
use Rattle.flow_drive.proofs.Going.{SoFar, Stood, put-cut, put-stands}

-- the store is still of a device whose disk was left alone
pub still-of : (store : Kept) (old new : Option Disk) → IsOf store old → KeepsDisk old new → IsOf store new
still-of store old new of keeps = subst (λ (x : Option Disk). IsOf store x) (sym (keeps.settled (of-settled store old of))) of

-- the entry of a store at a position
abbrev entry_or : Entry → Db → Entry
entry_or e Empty = e
entry_or e (Full x) = x

-- it calls the same modules and scripts
pub same-word : (site : Site) (held e : Entry) (here p : Position) → Full held ≡ at e here → word_at (callees site held) p ≡ word_at (callees site e) p
same-word site held e here p is = ap (λ (x : Db). word_at (callees site (entry_or e x)) p) is

pub not-empty : (e : Entry) (here : Position) (A : Type 0) → Empty ≡ at e here → A
not-empty e here A is = absurd cc

-- the entry may be put at any position
abbrev pub Moves : Entry → Db → Type 0
Moves e db = (p : Position) → moved p db ≡ at e p

pub moves-full : (e : Entry) (db : Db) → db ≡ Full e → Moves e db
moves-full e db is p = ap (moved p) is

pub moves-at : (e : Entry) (here : Position) (db : Db) → db ≡ at e here → Moves e db
moves-at e here db is p = ap (moved p) is

module _ (site : Site) (e : Entry) (stop : Bool) (first here : Position) (db : Db) (old now : State) (s : Moves e db × SoFar site e stop first here old now) where
  -- the put was cut off
  pub turn-cut : (cut : Down) (store : Kept) (new : State) → Wrote (how_of {T = Unit {0}} (Err cut)) now new → OldOrNew (moved here db) now.disk new.disk → (Sound now.disk → Sound new.disk) → Drove site e stop first (cut_off cut) store old new
  turn-cut cut store new w any sound = put-cut site e stop first here old now s.1 cut store new w (subst (λ (x : Db). OldOrNew x now.disk new.disk) (s.0 here) any) sound

  -- it was done
  pub turn-stands : (store : Kept) (new : State) → Wrote Through now new → IsPut (moved here db) store now new → (Sound now.disk → Sound new.disk) → Stood site e stop first here store old new
  turn-stands store new w put sound = put-stands site e stop first here old now s.1 store new w (subst (λ (x : Db). IsPut x store now new) (s.0 here) put) sound

-- ---- a deployment that ended has an outcome

outcome-decided : (o : Outcome) → o ≢ outcome.Undecided → IsDecided (drive_end.Ended o)
outcome-decided outcome.Undecided h = absurd (h refl)
outcome-decided outcome.Kept h = tt
outcome-decided outcome.Committed h = tt
outcome-decided outcome.RolledBack h = tt
outcome-decided outcome.Inconsistent h = tt

pub ended-decided : (p : Position) → IsTrue (is_valid p) → p.state ≡ Idle → IsDecided (drive_end.Ended p.outcome)
ended-decided p valid idle = outcome-decided p.outcome (idle-decided p valid idle)

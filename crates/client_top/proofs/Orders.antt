-- An order to a deployment in progress.
use Rattle.std.proofs.Common.{◌≡◌, [], refl, sym, ap, ◌∙◌, subst}
use Rattle.std.specs.Prelude.{Bool, false, IsTrue, Some, Ok}
use Rattle.device_model.specs.Disk.{area_of}
use Rattle.device_model.specs.State.{State}
use Rattle.script_names.specs.declared.site.Site.{Site}
use Rattle.flow_table.specs.Valid.{is_valid}
use Rattle.flow_table.specs.declared.position.Position.{Position}
use Rattle.flow_table.specs.declared.table.Order.{Order}
use Rattle.flow_table.specs.declared.table.Order.TheVariants as order
use Rattle.flow_table.proofs.Steps.{first_entered}
use Rattle.flow_drive.specs.declared.flow.DriveEnd.{DriveEnd}
use Rattle.flow_drive.specs.Drive.{Drove, IsDecided}
use Rattle.record_codec.specs.declared.entry.Entry.{Entry}
use Rattle.record_codec.specs.declared.entry.Db.{Db}
use Rattle.record_codec.specs.declared.entry.Db.TheVariants.{Full}
use Rattle.record_codec.specs.Spelling.{IsRight, IfFull}
use Rattle.slot_store.specs.Kept.{Kept}
use Rattle.slot_store.specs.Put.{IsFull}
use Rattle.client_top.specs.declared.status.Status.{Status}
use Rattle.client_top.specs.declared.status.Status.TheVariants.{Done, Refused, NoUpdate, Inconsistent, RebootNeeded, DiskFault, SourceFault, NoMemory, SinkFault, Usage, PowerOff, BadStore, TooLarge, NotNow, NotInstalled}
use Rattle.client_top.specs.declared.status.Good.TheVariants.{Waiting}
use Rattle.client_top.specs.Finds.{Request, Answers, Stays, Starts, finds, found_for, ordered, opening_at}
use Rattle.client_top.specs.Boot.{nothing, stays, is_stop}
use Rattle.client_top.specs.Answers.{Words, orders, weighs, deploys, rolls_back, reads}
use Rattle.client_top.specs.Did.{Did, Shelf, is_install, Reads}
use Rattle.client_top.specs.Steps.{Mounted, Enters, Rests, answered, waits, IsResting, command_of, stops, takes_back, status_after}
use Rattle.client_top.proofs.Mounts.{still-did}
use Rattle.client_top.proofs.Composed.{drove-did}
use Rattle.client_top.proofs.Afters.{after-ends, after-how, after-count, after-synced, after-due}

-- what is known of the words that give an order
record OrderWords (w : Words) (o : Order) : Type 0 where
  deploys : IsTrue (deploys w)
  orders : IsTrue (orders w)
  reads : IsTrue (reads w)
  rolls : rolls_back w ≡ takes_back o
  stops : is_stop w ≡ stops o
  install : is_install w ≡ false
  weighs : weighs w ≡ false

words-of : (o : Order) → OrderWords (Ok (command_of o)) o
words-of order.Resume = record { deploys = refl; orders = refl; reads = refl; rolls = refl; stops = refl; install = refl; weighs = refl }
words-of order.ResumeStop = record { deploys = refl; orders = refl; reads = refl; rolls = refl; stops = refl; install = refl; weighs = refl }
words-of order.Commit = record { deploys = refl; orders = refl; reads = refl; rolls = refl; stops = refl; install = refl; weighs = refl }
words-of order.Rollback = record { deploys = refl; orders = refl; reads = refl; rolls = refl; stops = refl; install = refl; weighs = refl }

finds-by : (o : Order) (asked : Request) (c : Db) → found_for (Ok (command_of o)) asked.site asked.content c ≡ ordered o c
finds-by order.Resume asked c = refl
finds-by order.ResumeStop asked c = refl
finds-by order.Commit asked c = refl
finds-by order.Rollback asked c = refl

-- ---- where an order leads

pub enters-full : (o : Order) (c : Db) (p : Position) → Enters o c p → IsFull c
enters-full o c p e = subst IsFull (sym e.is) tt

pub enters-valid : (o : Order) (c : Db) (p : Position) → IfFull IsRight c → Enters o c p → IsTrue (is_valid p)
enters-valid o c p right e =
    let entry : IsRight e.entry = subst (IfFull IsRight) e.is right in
    (first_entered e.entry.position p o entry.position e.enters).valid

enters-starts : (o : Order) (c : Db) (p : Position) (e : Enters o c p) → ordered o c ≡ Starts e.entry p
enters-starts o c p e = ap (ordered o) e.is ∙ ap (opening_at e.entry) e.enters

-- ---- what was done

module _ (o : Order) (asked : Request) (store : Kept) (old mid : State) (shelf : Shelf) (is : asked.command ≡ Ok (command_of o)) (mounted : Mounted store old mid) (right : IfFull IsRight store.db) where
  words : OrderWords asked.command o
  words = subst (λ (w : Words). OrderWords w o) (sym is) (words-of o)

  found : finds asked store.db ≡ ordered o store.db
  found = ap (λ (w : Words). found_for w asked.site asked.content store.db) is ∙ finds-by o asked store.db

  untouched : Reads (weighs asked.command) [] asked.content shelf.given shelf.given
  untouched = subst (λ (b : Bool). Reads b [] asked.content shelf.given shelf.given) (sym words.weighs) refl

  rests-by : (status : Status) → IsResting status → ordered o store.db ≡ Answers status → Did asked (Some store.db) status old mid shelf shelf
  rests-by NoUpdate rests h = still-did asked store old mid mounted NoUpdate shelf shelf right refl nothing (record { whose = words.orders; rests = found ∙ h }) refl untouched
  rests-by (NotNow when) rests h = still-did asked store old mid mounted (NotNow when) shelf shelf right refl nothing (record { whose = words.deploys; rests = found ∙ h }) refl untouched
  rests-by (Done good) rests h = absurd rests
  rests-by (Refused refusal) rests h = absurd rests
  rests-by Inconsistent rests h = absurd rests
  rests-by RebootNeeded rests h = absurd rests
  rests-by DiskFault rests h = absurd rests
  rests-by SourceFault rests h = absurd rests
  rests-by NoMemory rests h = absurd rests
  rests-by SinkFault rests h = absurd rests
  rests-by (Usage fault) rests h = absurd rests
  rests-by PowerOff rests h = absurd rests
  rests-by (BadStore offset) rests h = absurd rests
  rests-by (TooLarge bytes) rests h = absurd rests
  rests-by (NotInstalled how) rests h = absurd rests

  waits-by : ordered o store.db ≡ Stays → Did asked (Some store.db) (Done Waiting) old mid shelf shelf
  waits-by h = still-did asked store old mid mounted (Done Waiting) shelf shelf right refl (stays (found ∙ h)) (record { whose = words.deploys; rests = tt }) refl untouched

  -- no position was entered
  pub rested-did : (status : Status) → Rests o store.db status → Did asked (Some store.db) status old mid shelf shelf
  rested-did status (answered rests h) = rests-by status rests h
  rested-did status (waits w h) = subst (λ (s : Status). Did asked (Some store.db) s old mid shelf shelf) (sym w) (waits-by h)

  -- the deployment went on
  pub went-did : (site : Site) (stop back : Bool) (p : Position) (end : DriveEnd) (status : Status) (store' : Kept) (new : State) → asked.site ≡ site → stop ≡ stops o → back ≡ takes_back o → status ≡ status_after end back → Enters o store.db p → IsDecided end →
      ((e : Entry) → store.db ≡ Full e → Drove site e stop p end store' mid new) → Did asked (Some store.db) status old new shelf shelf
  went-did site stop back p end status store' new same stopped taken told enters decided drove =
      let went = subst (λ (s : Site). Drove s enters.entry stop p end store' mid new) (sym same) (drove enters.entry enters.is) in
      let gone = subst (λ (b : Bool). Drove asked.site enters.entry b p end store' mid new) (stopped ∙ sym words.stops) went in
      subst (λ (s : Status). Did asked (Some store.db) s old new shelf shelf) (sym told)
      (drove-did asked store store' old mid new mounted right enters.entry p end (status_after end back) shelf
      (found ∙ enters-starts o store.db p enters) words.install words.weighs gone
      (after-ends end back) (after-how end back)
      (after-due asked store.db (area_of old.disk) end back decided (record { deploys = words.deploys; reads = words.reads; rolls = words.rolls ∙ sym taken }))
      (after-synced end back) (after-count end back shelf.faults))

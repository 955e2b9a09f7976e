-- How a deployment went on so far.
use Rattle.std.proofs.Common.{◌≡◌, ◌⊎◌, inl, inr, ⊎_elim, ℕ, Bool, true, List, [], ◌++◌, refl, sym, ap, ◌∙◌, subst, append-nil, append_assoc}
use Rattle.std.specs.Prelude.{Option, Some, None, Err}
use Rattle.device_model.specs.declared.calls.Event.{Event}
use Rattle.device_model.specs.declared.calls.Down.{Down}
use Rattle.device_model.specs.declared.calls.Down.TheVariants as down
use Rattle.device_model.specs.Disk.{Disk, IsTold, IsSettled, AddsNothing, KeepsDisk}
use Rattle.device_model.specs.State.{State}
use Rattle.device_model.specs.How.{How, Through, PowerLost, how_of, Passed}
use Rattle.script_names.specs.declared.site.Site.{Site}
use Rattle.flow_table.specs.declared.position.Position.{Position}
use Rattle.flow_table.specs.declared.table.Heard.{Heard}
use Rattle.flow_table.specs.declared.table.Step.TheVariants.{Enter, Stop}
use Rattle.flow_table.specs.Table.{IsRunning, next_of}
use Rattle.record_codec.specs.declared.entry.Entry.{Entry}
use Rattle.record_codec.specs.declared.entry.Db.{Db}
use Rattle.slot_store.specs.Slots.{May, Sound, IsAt, OldOrNew}
use Rattle.slot_store.specs.Kept.{Kept, IsOf}
use Rattle.slot_store.specs.Put.{Wrote, IsPut}
use Rattle.flow_words.specs.Stretch.{Stretch, Finishes, Stops}
use Rattle.flow_words.specs.Words.{word_at}
use Rattle.flow_words.specs.Pieces.{End, Halted, goes_on, reboots, halts}
use Rattle.flow_words.proofs.Courses.{Part-whole}
use Rattle.device_model.proofs.Passes.{passed-none, passed-then}
use Rattle.slot_store.proofs.Puts.{of-settled}
use Rattle.slot_store.proofs.Mounts.{may-adds}
use Rattle.flow_drive.specs.Calls.{callees}
use Rattle.flow_drive.specs.Drive.{at, Goes, Leads, Rests, Drove, drive_how, end_of, cut_off}
use Rattle.flow_drive.specs.declared.flow.DriveEnd.{DriveEnd}
use Rattle.flow_drive.specs.declared.flow.DriveEnd.TheVariants as drive_end

module _ (site : Site) (e : Entry) (stop : Bool) (first : Position) where
  -- The events so far lead from the first position to the position here, which is to be put next.
  pub record SoFar (here : Position) (old now : State) : Type 0 where
    pub events : List Event
    pub passed : Passed events Through old now
    pub more : (v : List Event) (end : End) (last : Position) → Goes site e stop here v end last → Goes site e stop first (events ++ v) end last
    pub each : IsTold old.disk → (d : Db) → May now.disk d → ((events ≡ []) × May old.disk d) ⊎ Leads site e stop first events Halted d
    pub told : IsTold old.disk → IsTold now.disk
    pub sound : Sound old.disk → Sound now.disk

  -- The position here was put, and its state is to be run.
  pub record Stood (here : Position) (store : Kept) (old now : State) : Type 0 where
    pub events : List Event
    pub passed : Passed events Through old now
    pub more : (v : List Event) (end : End) (last : Position) → Goes site e stop here v end last → Goes site e stop first (events ++ v) end last
    pub told : IsTold old.disk → IsTold now.disk
    pub sound : Sound old.disk → Sound now.disk
    pub rests : Rests (at e here) store now.disk

-- no event yet
pub so-far-start : (site : Site) (e : Entry) (stop : Bool) (p : Position) (state : State) → state.on ≡ true → SoFar site e stop p p state state
so-far-start site e stop p state on = record {
  events = [];
  passed = passed-none state on;
  more = λ v end last g. g;
  each = λ told d may. inl (refl, may);
  told = λ t. t;
  sound = λ s. s;
}

module _ (site : Site) (e : Entry) (stop : Bool) (first here : Position) (old now : State) (s : SoFar site e stop first here old now) where
  halts-here : Goes site e stop first s.events Halted here
  halts-here = subst (λ (l : List Event). Goes site e stop first l Halted here) (append-nil s.events) (s.more [] Halted here (halts tt))

  then-put : (how : How) (new : State) → Wrote how now new → Passed s.events how old new
  then-put how new w = subst (λ (l : List Event). Passed l how old new) (append-nil s.events) (passed-then s.events [] how old now new s.passed w.passed)

  -- the put of here was cut off
  put-halts : (end : DriveEnd) (store : Kept) (new : State) → end_of end ≡ Halted → (drive_how end ≡ Through → ⊥) → Wrote (drive_how end) now new → OldOrNew (at e here) now.disk new.disk → (Sound now.disk → Sound new.disk) → Drove site e stop first end store old new
  put-halts end store new halted not w any sound = record {
    events = s.events;
    passed = then-put (drive_how end) new w;
    last = here;
    goes = subst (λ (x : End). Goes site e stop first s.events x here) (sym halted) halts-here;
    each = λ told d may. ⊎_elim
        (λ (m : May now.disk d). ⊎_elim
        (λ (b : (s.events ≡ []) × May old.disk d). inr (halted, b.0, b.1))
        (λ (l : Leads site e stop first s.events Halted d). inl (subst (λ (x : End). Leads site e stop first s.events x d) (sym halted) l))
        (s.each told d m))
        (λ (is : d ≡ at e here). inl (record { last = here; goes = subst (λ (x : End). Goes site e stop first s.events x here) (sym halted) halts-here; stands = is }))
        (any d may);
    told = λ t. w.told (s.told t);
    sound = λ h. sound (s.sound h);
    rests = λ through. absurd (not through);
  }

  pub put-cut : (cut : Down) (store : Kept) (new : State) → Wrote (how_of {T = Unit {0}} (Err cut)) now new → OldOrNew (at e here) now.disk new.disk → (Sound now.disk → Sound new.disk) → Drove site e stop first (cut_off cut) store old new
  put-cut down.Off store new w any sound = put-halts drive_end.Off store new refl (λ h. cc) w any sound
  put-cut down.Fault store new w any sound = put-halts drive_end.DiskFault store new refl (λ h. cc) w any sound

  -- it was done
  pub put-stands : (store : Kept) (new : State) → Wrote Through now new → IsPut (at e here) store now new → (Sound now.disk → Sound new.disk) → Stood site e stop first here store old new
  put-stands store new w put sound = record {
    events = s.events;
    passed = then-put Through new w;
    more = s.more;
    told = λ t. w.told (s.told t);
    sound = λ h. sound (s.sound h);
    rests = record { db = put.db; is_at = subst (λ (d : Db). IsAt d new.disk) put.db put.is_at; is_of = put.is_of };
  }

module _ (site : Site) (e : Entry) (stop : Bool) (first here : Position) (store : Kept) (old now : State) (s : Stood site e stop first here store old now) where
  -- the last position
  rest-there : (v : List Event) (end : DriveEnd) (new : State) → drive_how end ≡ Through → new.disk ≡ now.disk → Passed (s.events ++ v) Through old new → Goes site e stop here v (end_of end) here → Drove site e stop first end store old new
  rest-there v end new through same passed goes =
      let at_new : IsAt (at e here) new.disk = subst (λ (x : Option Disk). IsAt (at e here) x) (sym same) s.rests.is_at in
      let all : Goes site e stop first (s.events ++ v) (end_of end) here = s.more v (end_of end) here goes in
      let told : (IsTold old.disk → IsTold new.disk) = λ t. subst IsTold (sym same) (s.told t) in
      record {
        events = s.events ++ v;
        passed = subst (λ (h : How). Passed (s.events ++ v) h old new) (sym through) passed;
        last = here;
        goes = all;
        each = λ t d may. inl (record { last = here; goes = all; stands = at_new.alone (told t) d may });
        told = told;
        sound = λ h. subst Sound (sym same) (s.sound h);
        rests = λ h. record { db = s.rests.db; is_at = at_new; is_of = subst (λ (x : Option Disk). IsOf store x) (sym same) s.rests.is_of };
      }

  -- nothing is called there
  pub rests : (end : DriveEnd) → drive_how end ≡ Through → Goes site e stop here [] (end_of end) here → Drove site e stop first end store old now
  rests end through goes = rest-there [] end now through refl (subst (λ (l : List Event). Passed l Through old now) (sym (append-nil s.events)) s.passed) goes

  same-disk : (new : State) → KeepsDisk now.disk new.disk → new.disk ≡ now.disk
  same-disk new keeps = keeps.settled (of-settled store now.disk s.rests.is_of)

  passed-on : (v : List Event) (how : How) (new : State) → Stretch v how now new → Passed (s.events ++ v) how old new
  passed-on v how new t = passed-then s.events v how old now new s.passed t.passed

  -- its state was run, and then the device reboots
  pub reboots-there : (h : Heard) (new : State) → IsRunning here.state → Finishes (word_at (callees site e) here) h now new → next_of here h stop ≡ Stop → Drove site e stop first drive_end.RebootNeeded store old new
  reboots-there h new runs f is =
      rest-there f.events drive_end.RebootNeeded new refl (same-disk new f.stretch.disk) (passed-on f.events Through new f.stretch) (reboots h runs f.whole is)

  -- power was lost in its state
  pub lost-there : (new : State) → Stops (word_at (callees site e) here) now new → Drove site e stop first drive_end.Off store old new
  lost-there new f =
      let all : Goes site e stop first (s.events ++ f.events) Halted here = s.more f.events Halted here (halts f.part) in
      let same : new.disk ≡ now.disk = same-disk new f.stretch.disk in
      record {
        events = s.events ++ f.events;
        passed = passed-on f.events PowerLost new f.stretch;
        last = here;
        goes = all;
        each = λ t d may. inl (record { last = here; goes = all; stands = s.rests.is_at.alone (s.told t) d (may-adds now.disk new.disk d f.stretch.disk.adds may) });
        told = λ t. subst IsTold (sym same) (s.told t);
        sound = λ h. subst Sound (sym same) (s.sound h);
        rests = λ h. absurd cc;
      }

  -- its state was run, and another is entered
  pub goes-further : (h : Heard) (q : Position) (new : State) → IsRunning here.state → Finishes (word_at (callees site e) here) h now new → next_of here h stop ≡ Enter q → SoFar site e stop first q old new
  goes-further h q new runs f is =
      let same : new.disk ≡ now.disk = same-disk new f.stretch.disk in
      let part : Goes site e stop here f.events Halted here = halts (Part-whole (word_at (callees site e) here) f.events h f.whole) in
      record {
        events = s.events ++ f.events;
        passed = passed-on f.events Through new f.stretch;
        more = λ v end last g. subst (λ (l : List Event). Goes site e stop first l end last) (sym (append_assoc s.events f.events v)) (s.more (f.events ++ v) end last (goes_on f.events v h runs f.whole is g refl));
        each = λ t d may. inr (record { last = here; goes = s.more f.events Halted here part; stands = s.rests.is_at.alone (s.told t) d (subst (λ (x : Option Disk). May x d) same may) });
        told = λ t. subst IsTold (sym same) (s.told t);
        sound = λ h. subst Sound (sym same) (s.sound h);
      }

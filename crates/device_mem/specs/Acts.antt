-- What each call of a device in memory answers and leaves, exactly.
use Rattle.std.specs.Prelude.{◌≡◌, ℕ, Bool, true, false, [], ◌∷◌, Result, Ok, Err, IsOk, IsErr, IsErrOf, MatchBool, if◌then◌else◌}
use Rattle.device_model.specs.declared.calls.Answer.{Answer}
use Rattle.device_model.specs.declared.calls.Answer.TheVariants as answer
use Rattle.device_model.specs.declared.calls.Asked.{Asked}
use Rattle.device_model.specs.declared.calls.Asked.TheVariants as asked
use Rattle.device_model.specs.declared.calls.Call.{Call}
use Rattle.device_model.specs.declared.calls.Down.{Down}
use Rattle.device_model.specs.declared.calls.Down.TheVariants.{Off, Fault}
use Rattle.device_model.specs.declared.calls.Event.TheVariants.{Pause, Loss}
use Rattle.device_model.specs.declared.calls.Ran.{Ran}
use Rattle.device_model.specs.declared.calls.Ran.TheVariants as ran
use Rattle.device_model.specs.State.{with_events}
use Rattle.device_mem.specs.declared.moment.Moment.{Moment}
use Rattle.device_mem.specs.declared.moment.Moment.TheVariants.{Fine, Fails, Loses}
use Rattle.device_mem.specs.declared.script.Tear.TheVariants.{New}
use Rattle.device_mem.specs.Moment.{moment_at}
use Rattle.device_mem.specs.MemState.{MemState, called, with_device, failing, starving, lost, with_end, lost_child}
use Rattle.device_mem.specs.Script.{is_cut, end_of}

-- A call of the disk or of the work folder does its work, fails, or loses power before its work or after it.
abbrev pub ActsAt : {T : Type 0} → Moment → (done failed : MemState → MemState) → MemState → Result T Down → MemState → Type 0
ActsAt Fine done failed m result new = IsOk result × (new ≡ done m)
ActsAt Fails done failed m result new = IsErrOf result Fault × (new ≡ failing (failed m))
ActsAt (Loses loss) done failed m result new = IsErrOf result Off × (new ≡ lost (Loss ∷ []) loss.tear (if loss.before then m else done m))

-- While the device is on each call is counted, and meets what the script plans for its number. One that is off stays as it is.
abbrev pub Acts : {T : Type 0} → (done failed : MemState → MemState) → MemState → Result T Down → MemState → Type 0
Acts done failed old result new =
    MatchBool old.device.on
    (ActsAt (moment_at old.plan.script.losses old.plan.script.faults old.calls) done failed (called old) result new)
    (IsErrOf result Off × (new ≡ old))

-- as ActsAt, but that there may be no memory for the work
abbrev pub GrowsAt : {T : Type 0} → Moment → (done failed : MemState → MemState) → MemState → Result T Down → MemState → Type 0
GrowsAt Fine done failed m (Ok x) new = new ≡ done m
GrowsAt Fine done failed m (Err Fault) new = new ≡ starving (failed m)
GrowsAt Fine done failed m (Err Off) new = ⊥
GrowsAt Fails done failed m result new = IsErrOf result Fault × (new ≡ failing (failed m))
GrowsAt (Loses loss) done failed m result new = IsErrOf result Off × (new ≡ lost (Loss ∷ []) loss.tear (if loss.before then m else done m))

abbrev pub Grows : {T : Type 0} → (done failed : MemState → MemState) → MemState → Result T Down → MemState → Type 0
Grows done failed old result new =
    MatchBool old.device.on
    (GrowsAt (moment_at old.plan.script.losses old.plan.script.faults old.calls) done failed (called old) result new)
    (IsErrOf result Off × (new ≡ old))

-- A child ends with this answer. It loses power where a loss is planned for the call, or else a cut for the child.
abbrev pub EndsAt : {T : Type 0} → Moment → Bool → Call → Answer → (gives off : T) → MemState → T → MemState → Type 0
EndsAt (Loses loss) cut call answer gives off m result new = (result ≡ off) × (new ≡ (if loss.before then lost (Loss ∷ []) loss.tear m else lost_child call loss.tear m))
EndsAt Fine true call answer gives off m result new = (result ≡ off) × (new ≡ lost_child call New m)
EndsAt Fails true call answer gives off m result new = (result ≡ off) × (new ≡ lost_child call New m)
EndsAt Fine false call answer gives off m result new = (result ≡ gives) × (new ≡ with_end call answer m)
EndsAt Fails false call answer gives off m result new = (result ≡ gives) × (new ≡ with_end call answer m)

abbrev pub Ends : {T : Type 0} → Call → (Answer → T) → T → MemState → T → MemState → Type 0
Ends call gives off old result new =
    let script = old.plan.script in
    let answer = end_of script old.taken call in
    MatchBool old.device.on
    (EndsAt (moment_at script.losses script.faults old.calls) (is_cut script old.started) call answer (gives answer) off (called old) result new)
    ((result ≡ off) × (new ≡ old))

-- how a child that is no question ended, by the answer that it took
abbrev pub ran_of : Answer → Ran
ran_of (answer.Exit code) = ran.Exit code
ran_of (answer.Reply code text) = ran.Exit code
ran_of answer.NotStarted = ran.NotStarted

-- how a question ended
abbrev pub asked_of : Answer → Asked
asked_of (answer.Exit code) = asked.Reply code []
asked_of (answer.Reply code text) = asked.Reply code text
asked_of answer.NotStarted = asked.NotStarted

abbrev pub Runs : Call → MemState → Ran → MemState → Type 0
Runs call old result new = Ends call ran_of ran.Off old result new

abbrev pub Asks : Call → MemState → Asked → MemState → Type 0
Asks call old result new = Ends call asked_of asked.Off old result new

-- A pause can't fail.
abbrev pub PausesAt : {T E : Type 0} → Moment → (MemState → MemState) → MemState → Result T E → MemState → Type 0
PausesAt Fine done m result new = IsOk result × (new ≡ done m)
PausesAt Fails done m result new = IsOk result × (new ≡ done m)
PausesAt (Loses loss) done m result new = IsErr result × (new ≡ lost (Loss ∷ []) loss.tear (if loss.before then m else done m))

abbrev pub Pauses : {T E : Type 0} → ℕ → MemState → Result T E → MemState → Type 0
Pauses seconds old result new =
    MatchBool old.device.on
    (PausesAt (moment_at old.plan.script.losses old.plan.script.faults old.calls) (with_device (with_events (Pause seconds ∷ []))) (called old) result new)
    (IsErr result × (new ≡ old))

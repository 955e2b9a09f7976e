-- What a script says of a child.
use Rattle.std.specs.Prelude.{ℕ, ◌+◌, ◌-◌, min, Bool, ◌==◌, [], length, slice_get, unwrap_or, if◌then◌else◌}
use Rattle.std.specs.List.{list_any}
use Rattle.device_model.specs.declared.calls.Answer.{Answer}
use Rattle.device_model.specs.declared.calls.Answer.TheVariants.{Exit, Reply, NotStarted}
use Rattle.device_model.specs.declared.calls.Query.{Query}
use Rattle.device_model.specs.declared.calls.Query.TheVariants.{SupportsRollback, NeedsArtifactReboot}
use Rattle.device_model.specs.declared.calls.Call.{Call}
use Rattle.device_model.specs.declared.calls.Call.TheVariants as call
use Rattle.device_mem.specs.declared.script.Script.{Script}
use Rattle.device_mem.specs.declared.script.Ending.{Ending}
use Rattle.device_mem.specs.declared.script.Ending.TheVariants as ending
use Rattle.device_mem.specs.declared.script.Replying.{Replying}
use Rattle.device_mem.specs.declared.script.Replying.TheVariants as replying

-- the child with this number loses its power
abbrev pub is_cut : Script → ℕ → Bool
is_cut script s = list_any (λ k. k == s) script.cuts

-- the answer with this number; after the list's end the child exits 0
abbrev pub answer_at : Script → ℕ → Answer
answer_at script t = unwrap_or (slice_get script.answers t) (Exit 0)

-- as the end of a child that isn't asked
abbrev pub as_exit : Answer → Answer
as_exit (Exit code) = Exit code
as_exit (Reply code text) = Exit code
as_exit NotStarted = NotStarted

-- as the end of a question
abbrev pub as_reply : Answer → Answer
as_reply (Exit code) = Reply code []
as_reply (Reply code text) = Reply code text
as_reply NotStarted = NotStarted

-- what a payload answers whether a rollback is supported: payload k from 1 on by item k - 1 of `others`, if that is there
abbrev pub support_of : Script → ℕ → Answer
support_of script payload = if payload == 0 then script.supports else unwrap_or (slice_get script.others (payload - 1)) script.supports

-- the reply of this payload
abbrev pub reply_to : Script → ℕ → Query → Answer
reply_to script payload SupportsRollback = as_reply (support_of script payload)
reply_to script payload NeedsArtifactReboot = as_reply script.needs

-- the end of a child that is started where t answers were taken
abbrev pub end_of : Script → ℕ → Call → Answer
end_of script t (call.Module payload kind state) = as_exit (answer_at script t)
end_of script t (call.Ask payload kind query) = reply_to script payload query
end_of script t (call.Script name) = as_exit (answer_at script t)
end_of script t call.SystemReboot = as_exit (answer_at script t)

-- how many answers are taken after its start
abbrev pub taken_after : Script → ℕ → Call → ℕ
taken_after script t (call.Module payload kind state) = min (t + 1) (length script.answers)
taken_after script t (call.Ask payload kind query) = t
taken_after script t (call.Script name) = min (t + 1) (length script.answers)
taken_after script t call.SystemReboot = min (t + 1) (length script.answers)

abbrev pub answer_of : Ending → Answer
answer_of (ending.Exit code) = Exit code
answer_of ending.NotStarted = NotStarted

abbrev pub reply_of : Replying → Answer
reply_of (replying.Reply code text) = Reply code text
reply_of replying.NotStarted = NotStarted

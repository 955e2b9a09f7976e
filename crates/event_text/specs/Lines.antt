-- How events are told, a line for each.
use Rattle.std.specs.Prelude.{ℕ, List, [], ◌∷◌, ◌++◌, codes, decimal}
use Rattle.hex.specs.Hex.{encode_lower}
use Rattle.device_model.specs.declared.calls.Answer.{Answer}
use Rattle.device_model.specs.declared.calls.Answer.TheVariants.{Exit, Reply, NotStarted}
use Rattle.device_model.specs.declared.calls.Call.{Call}
use Rattle.device_model.specs.declared.calls.Call.TheVariants.{Module, Ask, Script, SystemReboot}
use Rattle.device_model.specs.declared.calls.Event.{Event}
use Rattle.device_model.specs.declared.calls.Event.TheVariants.{Start, End, Pause, Loss}
use Rattle.device_model.specs.Names.{mod_state_name, query_name}

-- the number of the payload stands in a call, its type doesn't
abbrev pub call_text : Call → List ℕ
call_text (Module payload kind state) = codes "module " ++ (decimal payload ++ (codes " " ++ mod_state_name state))
call_text (Ask payload kind query) = codes "ask " ++ (decimal payload ++ (codes " " ++ query_name query))
call_text (Script name) = codes "run " ++ name
call_text SystemReboot = codes "reboot"

-- two digits for each byte, and a dash where there is none
abbrev pub reply_text : List ℕ → List ℕ
reply_text [] = codes "-"
reply_text (byte ∷ bytes) = encode_lower (byte ∷ bytes)

abbrev pub answer_text : Answer → List ℕ
answer_text (Exit code) = codes "exit " ++ decimal code
answer_text (Reply code text) = codes "reply " ++ (decimal code ++ (codes " " ++ reply_text text))
answer_text NotStarted = codes "not-started"

abbrev pub event_text : Event → List ℕ
event_text (Start call) = call_text call
event_text (End answer) = answer_text answer
event_text (Pause seconds) = codes "pause " ++ decimal seconds
event_text Loss = codes "loss"

abbrev pub line : Event → List ℕ
line event = event_text event ++ codes "\n"

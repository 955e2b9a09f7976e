use Rattle.std.proofs.Common.{◌∙◌, ap, sym, ℕ, ◌++◌}
use Rattle.std.specs.Prelude.{codes}
use Rattle.std.specs.Fmt.{decimal}
use Rattle.std.specs.Str.{bytes_eq}
use Rattle.device_model.specs.declared.calls.Event.{Event}
use Rattle.event_text.specs.Lines.{call_text, answer_text, line}
use Rattle.trace_check.specs.Lines.{is_line}
use Rattle.trace_check.proofs.Spelled.{newline-off}
use Rattle.trace_check.proofs.spelling.is_spelled.Goals as goal

pub returns-in-Start : goal.returns-in-Start
returns-in-Start c = c.says_call.ensures ∙ newline-off (call_text c.in-Start.call) c.args.text.now ∙ ap (λ (e : Event). is_line (line e) c.args.text.now) (sym c.in-Start.is)

pub returns-in-End : goal.returns-in-End
returns-in-End c = c.says_answer.ensures ∙ newline-off (answer_text c.in-End.answer) c.args.text.now ∙ ap (λ (e : Event). is_line (line e) c.args.text.now) (sym c.in-End.is)

pub returns-in-Pause : goal.returns-in-Pause
returns-in-Pause c =
    c.is_numbered.ensures ∙ ap (λ (n : ℕ). bytes_eq (codes "pause " ++ decimal n) c.args.text.now) c.from.ensures ∙ newline-off (codes "pause " ++ decimal c.in-Pause.seconds) c.args.text.now
    ∙ ap (λ (e : Event). is_line (line e) c.args.text.now) (sym c.in-Pause.is)

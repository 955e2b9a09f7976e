use Rattle.std.proofs.Common.{◌∙◌, ap, sym, List, ℕ}
use Rattle.device_model.specs.declared.calls.Answer.{Answer}
use Rattle.device_model.specs.declared.calls.Event.TheVariants.{End}
use Rattle.event_text.specs.Lines.{answer_text, line}
use Rattle.trace_check.specs.Lines.{is_line}
use Rattle.trace_check.proofs.Spelled.{newline-off}
use Rattle.trace_check.proofs.spelling.says_answer.Goals as goal

pub returns-in-Reply : goal.returns-in-Reply
returns-in-Reply c =
    c.is_line.ensures ∙ ap (λ (l : List ℕ). is_line l c.args.text.now) c.line_of.ensures ∙ ap (λ (a : Answer). is_line (line (End a)) c.args.text.now) c.twin.ensures
    ∙ sym (newline-off (answer_text c.args.answer.now) c.args.text.now)

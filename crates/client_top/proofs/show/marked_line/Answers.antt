use Rattle.std.proofs.Common.{◌∙◌, sym}
use Rattle.client_top.proofs.Marks.{marked-line, plain-line}
use Rattle.client_top.proofs.show.marked_line.Goals as goal

pub returns-then-is_artifact_name : goal.returns-then-is_artifact_name
returns-then-is_artifact_name c = c.name_line.ensures ∙ marked-line (c.args.key.now, c.args.value.now) (sym c.is_artifact_name.ensures ∙ c.if-is_artifact_name.true)

pub returns-else-is_artifact_name : goal.returns-else-is_artifact_name
returns-else-is_artifact_name c = c.line_of.ensures ∙ plain-line (c.args.key.now, c.args.value.now) (sym c.is_artifact_name.ensures ∙ c.if-is_artifact_name.false)

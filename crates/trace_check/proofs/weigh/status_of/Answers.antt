use Rattle.std.proofs.Common.{subst}
use Rattle.std.specs.Prelude.{Err}
use Rattle.trace_check.specs.declared.notes.ReadFault.{ReadFault}
use Rattle.trace_check.specs.Reads.{Reads}
use Rattle.trace_check.proofs.weigh.status_of.Goals as goal

pub returns-in-BadLine : goal.returns-in-BadLine
returns-in-BadLine c = λ text reads. subst (λ (f : ReadFault). Reads text (Err f)) c.in-BadLine.is reads

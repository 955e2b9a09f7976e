use Rattle.std.proofs.Common.{ℕ, subst}
use Rattle.std.specs.Prelude.{Option}
use Rattle.io_model.specs.Source.{When}
use Rattle.trace_check.specs.Finding.{IsTrace}
use Rattle.trace_check.proofs.Checking.{none-finds, file-finds}
use Rattle.trace_check.proofs.check.read_trace.Goals as goal

pub returns-in-Ok-Some-clause-finds : goal.returns-in-Ok-Some-clause-finds
returns-in-Ok-Some-clause-finds g c =
    file-finds (g.S.Source.content c.args.source.now) (g.S.Source.content c.find_trace.new.source) c.in-Ok-Some.field-0 c.in-Ok-Some.i c.read_file.result c.in-Ok-Some.ensures.same c.in-Ok-Some.field-0-is c.in-Ok-Some.ensures.found c.read_file.ensures.long

pub returns-in-Ok-None-clause-finds : goal.returns-in-Ok-None-clause-finds
returns-in-Ok-None-clause-finds g c =
    let content = g.S.Source.content c.args.source.now in
    none-finds content (subst (λ (o : Option ℕ). When content (λ tree. IsTrace tree o)) c.in-Ok-None.field-0-is c.in-Ok-None.ensures.found)

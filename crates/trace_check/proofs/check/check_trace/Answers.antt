use Rattle.std.proofs.Common.{◌∙◌, ℕ, List, sym, subst}
use Rattle.io_model.specs.Sink.{Writes, WritesFront}
use Rattle.trace_check.proofs.Checking.{unsaid-checked, said-checked, cut-checked}
use Rattle.trace_check.proofs.check.check_trace.Goals as goal

pub returns-then-not-is_said-clause-checked : goal.returns-then-not-is_said-clause-checked
returns-then-not-is_said-clause-checked g c =
    let old = g.O.Sink.means c.args.out.now in
    unsaid-checked (g.S.Source.content c.args.source.now) (g.S.Source.faults c.args.source.now) (g.S.Source.faults c.answer-status.new.source) old old c.answer-status.result
    (sym c.is_said.ensures ∙ c.if-not-is_said.true) c.answer-status.ensures.finds c.answer-status.ensures.faults

pub returns-in-Ok-clause-checked : goal.returns-in-Ok-clause-checked
returns-in-Ok-clause-checked g c =
    let old = g.O.Sink.means c.args.out.now in
    let new = g.O.Sink.means c.put.new.self in
    said-checked (g.S.Source.content c.args.source.now) (g.S.Source.faults c.args.source.now) (g.S.Source.faults c.answer-status.new.source) old new c.answer-status.result
    (sym c.is_said.ensures ∙ c.if-not-is_said.false) c.answer-status.ensures.finds c.answer-status.ensures.faults
    (subst (λ (text : List ℕ). Writes old text new) (c.bytes.ensures.bytes ∙ c.line_of.ensures) c.in-Ok.ensures.puts)

pub returns-in-Err-clause-checked : goal.returns-in-Err-clause-checked
returns-in-Err-clause-checked g c =
    let old = g.O.Sink.means c.args.out.now in
    let new = g.O.Sink.means c.put.new.self in
    cut-checked (g.S.Source.content c.args.source.now) (g.S.Source.faults c.args.source.now) (g.S.Source.faults c.answer-status.new.source) old new c.answer-status.result
    (sym c.is_said.ensures ∙ c.if-not-is_said.false) c.answer-status.ensures.finds c.answer-status.ensures.faults
    (subst (λ (text : List ℕ). WritesFront old text new) (c.bytes.ensures.bytes ∙ c.line_of.ensures) c.in-Err.ensures.puts)

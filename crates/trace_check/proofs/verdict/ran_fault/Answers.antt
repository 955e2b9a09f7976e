use Rattle.std.proofs.Common.{◌≡◌, ℕ, ◌∙◌, sym, subst}
use Rattle.trace_check.specs.Verdicts.{Fault}
use Rattle.trace_check.proofs.Judging.{fault-at-once, fault-halted, fault-through, as-ran}
use Rattle.trace_check.proofs.verdict.ran_fault.Goals as goal

pub returns-else-way-events-clause-some : goal.returns-else-way-events-clause-some
returns-else-way-events-clause-some c = λ e is.
    let same : c.walk-way.result.good ≡ e = cc in
    subst (λ (n : ℕ). Fault c.args.head.now c.args.events.now c.args.end n) same (fault-halted c.args.head.now c.in-Enter.first c.args.events.now c.args.end c.args.head.now.from c.walk-way.result c.walk-way.ensures (sym c.in-Enter.ensures) c.in-Halted.is c.if-way-events.false)

pub returns-then-ends_as : goal.returns-then-ends_as
returns-then-ends_as c = record {
  none = λ _. let r = as-ran c.args.head.now c.in-Enter.first c.args.events.now c.args.head.now.from c.walk-way.result c.walk-way.ensures c.args.end (sym c.ends_as.ensures ∙ c.if-ends_as.true) in
      (r.0, record { first = c.in-Enter.first; opens = sym c.in-Enter.ensures; ran = r.1 });
  some = λ e is. absurd cc;
}

pub returns-else-ends_as : goal.returns-else-ends_as
returns-else-ends_as c = record {
  none = λ is. absurd cc;
  some = λ e is.
      let same : c.walk-way.result.good ≡ e = cc in
      subst (λ (n : ℕ). Fault c.args.head.now c.args.events.now c.args.end n) same (fault-through c.args.head.now c.in-Enter.first c.args.events.now c.args.end c.args.head.now.from c.walk-way.result c.walk-way.ensures (sym c.in-Enter.ensures) c.in_default-end.not-Halted (sym c.ends_as.ensures ∙ c.if-ends_as.false));
}

pub returns-in_default : goal.returns-in_default
returns-in_default c = record {
  none = λ is. absurd cc;
  some = λ e is.
      let same : 0 ≡ e = cc in
      subst (λ (n : ℕ). Fault c.args.head.now c.args.events.now c.args.end n) same (fault-at-once c.args.head.now c.args.events.now c.args.end c.requires.moves (λ f there. c.in_default.not-Enter f (c.opening.ensures ∙ there)));
}

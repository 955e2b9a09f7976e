use Rattle.std.proofs.Common.{◌∙◌, sym, ap, subst, refl}
use Rattle.std.specs.Prelude.{Err}
use Rattle.flow_table.proofs.Positions.{running}
use Rattle.flow_table.specs.Table.{next_of}
use Rattle.flow_words.specs.Words.{word_at}
use Rattle.trace_check.specs.Follows.{callees}
use Rattle.trace_check.proofs.Falls.{remaining-falls}
use Rattle.trace_check.proofs.Meaning.{read-came}
use Rattle.trace_check.proofs.Leading.{Led, led-on}
use Rattle.trace_check.proofs.Resting.{way-idle, way-wait, way-stop, way-cut, way-wrong}
use Rattle.trace_check.proofs.way.walk.Goals as goal

pub returns-in-Idle : goal.returns-in-Idle
returns-in-Idle c = way-idle c.args.head.now c.args.first c.args.events.now c.args.target.now c.states.p c.states.at c.states.meets c.resting.result c.states.invariant c.in-Idle.is c.resting.ensures.good c.resting.ensures.through c.resting.ensures.met

pub returns-in-Wait : goal.returns-in-Wait
returns-in-Wait c = way-wait c.args.head.now c.args.first c.args.events.now c.args.target.now c.states.p c.states.at c.states.meets c.resting-in-Wait.result c.states.invariant c.in-Wait.is c.resting-in-Wait.ensures.good c.resting-in-Wait.ensures.through c.resting-in-Wait.ensures.met

pub returns-in-Err-Cut : goal.returns-in-Err-Cut
returns-in-Err-Cut c =
    way-cut c.args.head.now c.args.first c.args.events.now c.args.target.now c.states.p c.states.at c.states.meets _ c.states.invariant
    (running c.states.p.state c.in_default.not-Idle c.in_default.not-Wait) (sym c.in-Err-Cut.ensures ∙ ap Err c.in-Err-Cut.field-0-is) refl refl c.met.ensures

pub returns-in-Err-Wrong : goal.returns-in-Err-Wrong
returns-in-Err-Wrong c =
    way-wrong c.args.head.now c.args.first c.args.events.now c.args.target.now c.states.p c.states.at c.states.meets _ c.states.invariant c.in-Err-Wrong.i
    (running c.states.p.state c.in_default.not-Idle c.in_default.not-Wait) (sym c.in-Err-Wrong.ensures ∙ ap Err c.in-Err-Wrong.field-0-is) refl refl refl

pub returns-in-Stop : goal.returns-in-Stop
returns-in-Stop c =
    way-stop c.args.head.now c.args.first c.args.events.now c.args.target.now c.states.p c.states.at c.states.meets c.resting-in-Stop.result c.states.invariant c.in-Ok.read.0 c.in-Ok.read.1
    (running c.states.p.state c.in_default.not-Idle c.in_default.not-Wait) (sym c.in-Ok.ensures)
    (ap (λ b. next_of c.states.p c.in-Ok.read.0 b) (sym c.is_stop-stop.ensures) ∙ sym c.in-Stop.ensures)
    c.resting-in-Stop.ensures.good c.resting-in-Stop.ensures.through c.resting-in-Stop.ensures.met

pub states-smaller : goal.states-smaller
states-smaller c = remaining-falls c.states.p c.in-Enter.entered c.in-Ok.read.0 c.is_stop-stop.result c.in_default.not-Idle (sym c.in-Enter.ensures)

pub states-preserved : goal.states-preserved
states-preserved c =
    let came = read-came c.args.events.now (word_at (callees c.args.head.now) c.states.p) c.states.at c.in-Ok.read.0 c.in-Ok.read.1 (sym c.in-Ok.ensures) in
    subst (λ m. Led c.args.head.now c.args.first c.args.events.now c.args.target.now c.in-Enter.entered c.in-Ok.read.1 m) (sym c.met-meets.ensures)
    (led-on c.args.head.now c.args.first c.args.events.now c.args.target.now c.states.p c.in-Enter.entered c.states.at c.in-Ok.read.1 c.states.meets came.piece c.in-Ok.read.0 c.states.invariant came.split came.count came.whole
    (running c.states.p.state c.in_default.not-Idle c.in_default.not-Wait)
    (ap (λ b. next_of c.states.p c.in-Ok.read.0 b) (sym c.is_stop-stop.ensures) ∙ sym c.in-Enter.ensures))

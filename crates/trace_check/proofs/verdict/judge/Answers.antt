use Rattle.std.proofs.Common.{refl, ◌≤◌, arith, length}
use Rattle.trace_check.specs.declared.note.Note.{Note}
use Rattle.flow_table.specs.declared.table.TheConstants.{MOST_KINDS}
use Rattle.trace_check.specs.Verdicts.{GoesFrom, before}
use Rattle.trace_check.proofs.Chains.{judged-apart, judged-inside, judged-path, chain-more, goes-first, goes-next, note-has}
use Rattle.trace_check.proofs.verdict.judge.Goals as goal
use Rattle.trace_check.proofs.verdict.judge.Goals.{else-i-gt0-via-then-i-gt0+else-not-goes_on, else-i-gt0-via-else-i-gt0}

pub returns-then-not-goes_on : goal.returns-then-not-goes_on
returns-then-not-goes_on c =
    judged-apart c.args.notes.now c.loop-i.i c.at-note.result.now c.at-note.ensures c.at.result.now (omega (arith, c.if-i-gt0.true)) c.at.ensures c.loop-i.invariant
    (λ g. let t = c.goes_on.ensures.1 g in let f = c.if-not-goes_on.true in cc)

pub fault_of-requires : goal.fault_of-requires
fault_of-requires c = record { kinds = note-has (λ (n : Note). length n.head.kinds ≤ MOST_KINDS) c.args.notes.now c.loop-i.i c.at-note.result.now c.at-note.ensures c.requires.kinds }

pub returns-in-Some : goal.returns-in-Some
returns-in-Some c =
    let f = c.in-Some.ensures.some c.in-Some.event (cc) in
    let link : GoesFrom (before c.args.notes.now c.loop-i.i) c.at-note.result.now = elim c.else-i-gt0.branch [
      | else-i-gt0-via-then-i-gt0+else-not-goes_on w ↦ goes-next c.args.notes.now c.loop-i.i c.at-note.result.now c.at-note.ensures w.at.result.now (omega (arith, w.if-i-gt0.true)) w.at.ensures (w.goes_on.ensures.0 (let h = w.if-not-goes_on.false in cc))
      | else-i-gt0-via-else-i-gt0 w ↦ goes-first c.args.notes.now c.loop-i.i c.at-note.result.now c.at-note.ensures (omega (arith, w.if-i-gt0.false))
    ] in
    judged-inside c.args.notes.now c.loop-i.i c.at-note.result.now c.at-note.ensures c.in-Some.event c.loop-i.invariant link f.1 f.0

pub loop-i-preserved : goal.loop-i-preserved
loop-i-preserved c =
    let follows = c.in_default.ensures.none refl in
    let link : GoesFrom (before c.args.notes.now c.loop-i.i) c.at-note.result.now = elim c.else-i-gt0.branch [
      | else-i-gt0-via-then-i-gt0+else-not-goes_on w ↦ goes-next c.args.notes.now c.loop-i.i c.at-note.result.now c.at-note.ensures w.at.result.now (omega (arith, w.if-i-gt0.true)) w.at.ensures (w.goes_on.ensures.0 (let h = w.if-not-goes_on.false in cc))
      | else-i-gt0-via-else-i-gt0 w ↦ goes-first c.args.notes.now c.loop-i.i c.at-note.result.now c.at-note.ensures (omega (arith, w.if-i-gt0.false))
    ] in
    chain-more c.args.notes.now c.loop-i.i c.at-note.result.now c.at-note.ensures c.loop-i.invariant follows link

pub returns : goal.returns
returns c = judged-path c.args.notes.now c.loop-i.i (let a = c.loop-i.auto.i-end in let b = c.len-i-end.ensures in let d = c.loop-i-test.false in omega (arith, a, b, d)) c.loop-i.invariant

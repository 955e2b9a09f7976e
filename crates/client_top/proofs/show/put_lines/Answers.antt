use Rattle.std.proofs.Common.{List, ℕ, [], take, sym, subst, arith}
use Rattle.std.specs.List.{flat_map}
use Rattle.std.proofs.lemmas.List.{take_all}
use Rattle.io_model.specs.Sink.{Writes, WritesFront}
use Rattle.client_top.specs.Texts.{line, mark_if}
use Rattle.client_top.specs.Waiting.{IsAhead}
use Rattle.client_top.proofs.Marks.{ahead-nothing, ahead-more, ahead-stop, ahead-done, ahead-failed}
use Rattle.client_top.proofs.show.put_lines.Goals as goal

pub loop-i-init : goal.loop-i-init
loop-i-init g c =
    let out = g.O.Sink.means c.args.out.now in
    subst (λ (page : List ℕ). IsAhead out [] page out) (sym c.new-page.ensures) (ahead-nothing out)

pub loop-i-preserved : goal.loop-i-preserved
loop-i-preserved g c =
    let means = g.O.Sink.means in
    ahead-more (λ p. line (mark_if c.args.mark p)) c.args.pairs.now c.loop-i.i (c.pair.result.0.now, c.pair.result.1.now) c.pair.ensures (means c.args.out.now) (means c.loop-i.out) (means c.add_pair.new.out) c.loop-i.page c.add_pair.new.page c.loop-i.invariant c.in-Ok.ensures.ok

pub returns-in-Err-clause-lines : goal.returns-in-Err-clause-lines
returns-in-Err-clause-lines g c =
    let means = g.O.Sink.means in
    ahead-stop (λ p. line (mark_if c.args.mark p)) c.args.pairs.now c.loop-i.i (c.pair.result.0.now, c.pair.result.1.now) c.pair.ensures (means c.args.out.now) (means c.loop-i.out) (means c.add_pair.new.out) c.loop-i.page c.loop-i.invariant c.in-Err.ensures.err

pub returns-in-Ok-flush-clause-lines : goal.returns-in-Ok-flush-clause-lines
returns-in-Ok-flush-clause-lines g c =
    let means = g.O.Sink.means in
    let pairs = c.args.pairs.now in
    subst (λ (ps : List (List ℕ × List ℕ)). Writes (means c.args.out.now) (flat_map (λ p. line (mark_if c.args.mark p)) ps) (means c.flush.new.out)) (take_all c.loop-i.i pairs (omega (arith, c.loop-i-test.false, c.len-i-end.ensures.value)))
    (ahead-done (means c.args.out.now) (means c.loop-i.out) (means c.flush.new.out) (flat_map (λ p. line (mark_if c.args.mark p)) (take c.loop-i.i pairs)) c.loop-i.page c.loop-i.invariant c.in-Ok-flush.ensures.put)

pub returns-in-Err-flush-clause-lines : goal.returns-in-Err-flush-clause-lines
returns-in-Err-flush-clause-lines g c =
    let means = g.O.Sink.means in
    let pairs = c.args.pairs.now in
    subst (λ (ps : List (List ℕ × List ℕ)). WritesFront (means c.args.out.now) (flat_map (λ p. line (mark_if c.args.mark p)) ps) (means c.flush.new.out)) (take_all c.loop-i.i pairs (omega (arith, c.loop-i-test.false, c.len-i-end.ensures.value)))
    (ahead-failed (means c.args.out.now) (means c.loop-i.out) (means c.flush.new.out) (flat_map (λ p. line (mark_if c.args.mark p)) (take c.loop-i.i pairs)) c.loop-i.page c.loop-i.invariant c.in-Err-flush.ensures.put)

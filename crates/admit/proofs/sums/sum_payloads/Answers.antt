use Rattle.std.proofs.Common.{true, false}
use Rattle.admit.proofs.Readings.{all_payloads_read, all_rest_spared}
use Rattle.admit.proofs.sums.sum_payloads.Goals as goal

pub returns-in-Ok-None-clause-payloads : goal.returns-in-Ok-None-clause-payloads
returns-in-Ok-None-clause-payloads g c = all_payloads_read (g.S.Source.content c.args.source.now) c.args.admitted.now c.requires.of_source true c.lines-lines.result.now c.as_slice-numbers.result.now c.lines-lines.ensures c.as_slice-numbers.ensures.items (g.S.Source.given c.args.source.now) (g.S.Source.given c.first_of_payloads.new.source) (rw c.in-Ok-None.field-0-is at c.in-Ok-None.ensures.given)

pub returns-in-Ok-None-clause-rest : goal.returns-in-Ok-None-clause-rest
returns-in-Ok-None-clause-rest g c = all_rest_spared (g.S.Source.content c.args.source.now) c.args.admitted.now c.requires.of_source true c.lines-lines.result.now c.as_slice-numbers.result.now c.lines-lines.ensures c.as_slice-numbers.ensures.items (g.S.Source.given c.args.source.now) (g.S.Source.given c.first_of_payloads.new.source) (rw c.in-Ok-None.field-0-is at c.in-Ok-None.ensures.given)

pub returns-in-Ok-Some-clause-payloads : goal.returns-in-Ok-Some-clause-payloads
returns-in-Ok-Some-clause-payloads g c = all_payloads_read (g.S.Source.content c.args.source.now) c.args.admitted.now c.requires.of_source false c.lines-lines.result.now c.as_slice-numbers.result.now c.lines-lines.ensures c.as_slice-numbers.ensures.items (g.S.Source.given c.args.source.now) (g.S.Source.given c.first_of_payloads.new.source) (rw c.in-Ok-Some.field-0-is at c.in-Ok-Some.ensures.given)

pub returns-in-Ok-Some-clause-rest : goal.returns-in-Ok-Some-clause-rest
returns-in-Ok-Some-clause-rest g c = all_rest_spared (g.S.Source.content c.args.source.now) c.args.admitted.now c.requires.of_source false c.lines-lines.result.now c.as_slice-numbers.result.now c.lines-lines.ensures c.as_slice-numbers.ensures.items (g.S.Source.given c.args.source.now) (g.S.Source.given c.first_of_payloads.new.source) (rw c.in-Ok-Some.field-0-is at c.in-Ok-Some.ensures.given)

pub returns-in-Err-clause-payloads : goal.returns-in-Err-clause-payloads
returns-in-Err-clause-payloads g c = all_payloads_read (g.S.Source.content c.args.source.now) c.args.admitted.now c.requires.of_source false c.lines-lines.result.now c.as_slice-numbers.result.now c.lines-lines.ensures c.as_slice-numbers.ensures.items (g.S.Source.given c.args.source.now) (g.S.Source.given c.first_of_payloads.new.source) (c.in-Err.ensures.given)

pub returns-in-Err-clause-rest : goal.returns-in-Err-clause-rest
returns-in-Err-clause-rest g c = all_rest_spared (g.S.Source.content c.args.source.now) c.args.admitted.now c.requires.of_source false c.lines-lines.result.now c.as_slice-numbers.result.now c.lines-lines.ensures c.as_slice-numbers.ensures.items (g.S.Source.given c.args.source.now) (g.S.Source.given c.first_of_payloads.new.source) (c.in-Err.ensures.given)

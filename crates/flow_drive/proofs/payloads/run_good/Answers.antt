use Rattle.flow_words.specs.Course.{done}
use Rattle.flow_words.specs.Scripts.{is_success}
use Rattle.flow_words.proofs.Reach.{Stops-front}
use Rattle.flow_drive.proofs.payloads.run_good.Goals as goal

pub returns-in-Off-clause-ran : goal.returns-in-Off-clause-ran
returns-in-Off-clause-ran g c = Stops-front (λ a. done (is_success a)) c.in-Off.ensures.ran

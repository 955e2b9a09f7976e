use Rattle.flow_words.specs.Course.{done}
use Rattle.flow_words.specs.Words.{heard}
use Rattle.flow_words.proofs.Reach.{Stops-front}
use Rattle.flow_drive.proofs.payloads.ask_one.Goals as goal

pub returns-in-Off-clause-ran : goal.returns-in-Off-clause-ran
returns-in-Off-clause-ran g c = Stops-front (λ a. done (heard c.args.query a)) c.in-Off.ensures.ran

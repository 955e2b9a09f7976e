use Rattle.std.proofs.Common.{sym}
use Rattle.key_text.proofs.PemLemmas.{behind_at, behind_all}
use Rattle.key_text.proofs.pem.behind_line_ends.Goals as goal

pub returns-in-Some : goal.returns-in-Some
returns-in-Some c = let e = behind_at c.args.text.now c.in-Some.at (sym c.in-Some.ensures.at) in cc

pub returns-in-None : goal.returns-in-None
returns-in-None c = behind_all c.args.text.now (sym c.in-None.ensures.at)

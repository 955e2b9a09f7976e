use Rattle.std.proofs.Common.{◌+◌, ◌++◌, refl}
use Rattle.record_codec.specs.Spelling.{position_bytes}
use Rattle.record_codec.proofs.Again.{position_again}
use Rattle.record_codec.proofs.Whole.{position_found}
use Rattle.record_codec.proofs.Record.{position_len}
use Rattle.record_codec.proofs.laws.one_spelling_of_positions.Goals as goal

pub returns-clause-read : goal.returns-clause-read
unfolding position_bytes
returns-clause-read c = λ p at rest valid. position_again p (record { at = at; bytes = position_bytes p ++ rest }) (record { at = at + 5; bytes = rest }) valid (record { parts = refl; place = refl })

pub returns-clause-found : goal.returns-clause-found
returns-clause-found c = λ r rest p fits is. let f = position_found r (p, rest) fits is in (f.1, f.0.spells.parts, rw (position_len p) at f.0.spells.place)

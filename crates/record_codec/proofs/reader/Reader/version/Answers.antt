use Rattle.record_codec.proofs.Found.{version_first, version_second, version_none}
use Rattle.record_codec.proofs.reader.Reader.version.Goals as goal

pub returns-in-Ok : goal.returns-in-Ok
returns-in-Ok c = version_first c.args.self.now c.literal.new.self c.in-Ok.ensures.read

pub returns-in-Ok-literal : goal.returns-in-Ok-literal
returns-in-Ok-literal c = version_second c.args.self.now c.literal-in-Err.new.self c.in-Err.field-0.at c.in-Err.ensures.read (rw c.in-Err.ensures.same at c.in-Ok-literal.ensures.read)

pub returns-in-Err-literal : goal.returns-in-Err-literal
returns-in-Err-literal c = version_none c.args.self.now c.in-Err.field-0.at c.in-Err-literal.wrong.at c.in-Err.ensures.read (rw c.in-Err.ensures.same at c.in-Err-literal.ensures.read)

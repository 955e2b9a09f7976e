use Rattle.client_top.proofs.Marks.{shown-broken}
use Rattle.client_top.proofs.show.show_held.Goals as goal

pub returns-in-Inconsistent : goal.returns-in-Inconsistent
returns-in-Inconsistent g c = rw (c.in-Inconsistent.is, shown-broken c.args.entry.now.new c.put_lines-in-Inconsistent.ensures.map) c.put_lines-in-Inconsistent.ensures.lines

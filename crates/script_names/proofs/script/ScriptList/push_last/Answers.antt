use Rattle.std.proofs.Common.{refl}
use Rattle.script_names.specs.Scripts.{IsScript}
use Rattle.script_names.proofs.ListLemmas.{scripts_push}
use Rattle.script_names.proofs.script.ScriptList.push_last.Goals as goal

pub invariant_of-self-2 : goal.invariant_of-self-2
invariant_of-self-2 c =
    let script : IsScript c.args.script = rw (← c.script.view_is) (c.bytes-name.ensures.name, rw c.script.invariant refl) in
    rw (c.in_ok-push.ensures.items, c.self.view_is) (scripts_push c.args.self.now c.args.script (rw (← c.self.view_is) c.self.invariant) c.requires.room c.requires.above script)

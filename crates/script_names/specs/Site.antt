-- What a device brings to an artifact.
use Rattle.std.specs.Prelude.{◌≡◌, false}
use Rattle.std.specs.List.{All}
use Rattle.script_names.specs.Scripts.{is_artifact_script}
use Rattle.script_names.specs.declared.site.Site.{Site}

-- its scripts are those that no artifact may bring: scripts of the stage Download
abbrev pub IsSite : Site → Type 0
IsSite site = All (λ name. is_artifact_script name ≡ false) site.scripts

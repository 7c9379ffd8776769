-- What a link with a script tells.
use Rattle.std.specs.Prelude.{ℕ, List, Option, drop}
use Rattle.disk_model.specs.declared.link.Asked.{Asked}
use Rattle.disk_model.specs.declared.link.ScriptLink.{ScriptLink}

-- the answers from its place on
abbrev pub link_script : ScriptLink → List (Option (List ℕ))
link_script l = drop l.at l.script.items

abbrev pub link_asked : ScriptLink → List Asked
link_asked l = l.asked.items

abbrev pub link_faults : ScriptLink → ℕ
link_faults l = l.faults

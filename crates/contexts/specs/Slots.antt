-- What an accept and an uplink leave of a device's two contexts.
use Rattle.std.specs.Prelude.{ℕ, List, Bool, Option, Some, None, option_map, if◌then◌else◌}
use Rattle.contexts.specs.declared.context.Context.{Context}
use Rattle.contexts.specs.declared.slots.Slots.{Slots}

abbrev pub offered : Context → Slots → Slots
offered fresh s = record s { pending = Some fresh }

abbrev pub activated_by : Option Context → Slots → Slots
activated_by None s = s
activated_by (Some c) s = record { active = Some c; pending = None }

-- the pending context, where there is one, becomes active, and the old active one is gone
abbrev pub activated : Slots → Slots
activated s = activated_by s.pending s

-- the contexts at which an uplink is looked at: the one that it names is active
abbrev pub woken : Bool → Slots → Slots
woken pending s = if pending then activated s else s

-- a change of the active context
abbrev pub on_active : (Context → Context) → Slots → Slots
on_active f s = record s { active = option_map f s.active }

-- the frame and its full counter are the last ones
abbrev pub heard : ℕ → List ℕ → Context → Context
heard count frame c = record c { last = Some count; frame = record { items = frame } }

abbrev pub accepted : Bool → ℕ → List ℕ → Slots → Slots
accepted pending count frame s = on_active (heard count frame) (woken pending s)

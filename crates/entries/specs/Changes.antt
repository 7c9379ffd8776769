-- The spelling of changes: devices, seeds, contexts, uplinks and items.
use Rattle.std.specs.Prelude.{ℕ, ◌==◌, [], if◌then◌else◌, List, Some, None}
use Rattle.entries.specs.declared.used_seed.UsedSeed.{UsedSeed}
use Rattle.entries.specs.declared.used_seed.UsedSeed.TheVariants as used_seeds
use Rattle.entries.specs.declared.change.OwnContext.{OwnContext}
use Rattle.entries.specs.declared.change.Joined.{Joined}
use Rattle.entries.specs.declared.change.Rejoined.{Rejoined}
use Rattle.entries.specs.declared.change.Downlink.{Downlink}
use Rattle.entries.specs.declared.change.Downlink.TheVariants as downlinks
use Rattle.entries.specs.declared.change.Uplink.{Uplink}
use Rattle.entries.specs.declared.change.PassiveUplink.{PassiveUplink}
use Rattle.entries.specs.declared.change.Queued.{Queued}
use Rattle.entries.specs.declared.change.RoamingKind.{RoamingKind}
use Rattle.entries.specs.declared.change.RoamingKind.TheVariants as roaming_kinds
use Rattle.entries.specs.declared.change.Stopped.{Stopped}
use Rattle.wire_ids.specs.Forms.{Read, Form, u8, u16, u24, u32, below, mark, arm, sum, flag, optional, short, both, named}
use Rattle.entries.specs.Names.{eui, dev_addr, moment, radio}

-- the type of a rejoin, and the place of its seed, which is FF for type 1
abbrev pub used_seed_tag : UsedSeed → ℕ
used_seed_tag (used_seeds.Rejoin0 place) = 0
used_seed_tag used_seeds.Rejoin1 = 1
used_seed_tag (used_seeds.Rejoin2 place) = 2

abbrev pub used_seed_fields : UsedSeed → List ℕ
used_seed_fields (used_seeds.Rejoin0 place) = (below 4).spell place
used_seed_fields used_seeds.Rejoin1 = (mark 255).spell tt
used_seed_fields (used_seeds.Rejoin2 place) = (below 4).spell place

abbrev pub used_seed_at : ℕ → List ℕ → Read UsedSeed
used_seed_at tag bytes =
    if tag == 0 then arm (below 4) used_seeds.Rejoin0 bytes else (
    if tag == 1 then arm (mark 255) (λ _. used_seeds.Rejoin1) bytes else (
    if tag == 2 then arm (below 4) used_seeds.Rejoin2 bytes else None))

abbrev pub FitsUsedSeed : UsedSeed → Type 0
FitsUsedSeed (used_seeds.Rejoin0 place) = (below 4).Fits place
FitsUsedSeed used_seeds.Rejoin1 = Unit {0}
FitsUsedSeed (used_seeds.Rejoin2 place) = (below 4).Fits place

unfoldable pub used_seed : Form UsedSeed
used_seed = sum used_seed_tag used_seed_fields used_seed_at FitsUsedSeed

abbrev pub own_context : Form OwnContext
own_context = named (both dev_addr radio)
    (λ p. record { dev_addr = p.0; radio = p.1 })
    (λ x. (x.dev_addr, x.radio))

abbrev pub joined : Form Joined
joined = named (both u32 (both u16 (both u24 (optional own_context))))
    (λ p. record { device = p.0; counter = p.1.0; join_nonce = p.1.1.0; own = p.1.1.1 })
    (λ x. (x.device, (x.counter, (x.join_nonce, x.own))))

abbrev pub rejoined : Form Rejoined
rejoined = named (both u32 (both used_seed (both u16 (both u24 (optional own_context)))))
    (λ p. record { device = p.0; used = p.1.0; counter = p.1.1.0; join_nonce = p.1.1.1.0; own = p.1.1.1.1 })
    (λ x. (x.device, (x.used, (x.counter, (x.join_nonce, x.own)))))

abbrev pub downlink_tag : Downlink → ℕ
downlink_tag downlinks.Nothing = 0
downlink_tag downlinks.Empty = 1
downlink_tag downlinks.FirstItem = 2

abbrev pub downlink_at : ℕ → List ℕ → Read Downlink
downlink_at tag bytes =
    if tag == 0 then Some (downlinks.Nothing, bytes) else (if tag == 1 then Some (downlinks.Empty, bytes) else (if tag == 2 then Some (downlinks.FirstItem, bytes) else None))

unfoldable pub downlink : Form Downlink
downlink = sum downlink_tag (λ _. []) downlink_at (λ _. Unit {0})

abbrev pub uplink : Form Uplink
uplink = named (both eui (both flag (both u32 (both short (both u8 downlink)))))
    (λ p. record { dev_eui = p.0; pending = p.1.0; count = p.1.1.0; frame = p.1.1.1.0; channel = p.1.1.1.1.0; down = p.1.1.1.1.1 })
    (λ x. (x.dev_eui, (x.pending, (x.count, (x.frame, (x.channel, x.down))))))

abbrev pub passive_uplink : Form PassiveUplink
passive_uplink = named (both uplink (both u24 moment))
    (λ p. record { up = p.0; net = p.1.0; until = p.1.1 })
    (λ x. (x.up, (x.net, x.until)))

abbrev pub queued : Form Queued
queued = named (both u32 (both u32 (both u8 (both flag short))))
    (λ p. record { device = p.0; number = p.1.0; port = p.1.1.0; confirmed = p.1.1.1.0; payload = p.1.1.1.1 })
    (λ x. (x.device, (x.number, (x.port, (x.confirmed, x.payload)))))

abbrev pub roaming_kind_tag : RoamingKind → ℕ
roaming_kind_tag roaming_kinds.Held = 0
roaming_kind_tag roaming_kinds.Lent = 1
roaming_kind_tag roaming_kinds.Visitor = 2

abbrev pub roaming_kind_at : ℕ → List ℕ → Read RoamingKind
roaming_kind_at tag bytes =
    if tag == 0 then Some (roaming_kinds.Held, bytes) else (if tag == 1 then Some (roaming_kinds.Lent, bytes) else (if tag == 2 then Some (roaming_kinds.Visitor, bytes) else None))

unfoldable pub roaming_kind : Form RoamingKind
roaming_kind = sum roaming_kind_tag (λ _. []) roaming_kind_at (λ _. Unit {0})

abbrev pub stopped : Form Stopped
stopped = named (both eui roaming_kind)
    (λ p. record { dev_eui = p.0; what = p.1 })
    (λ x. (x.dev_eui, x.what))

-- What the steps of one device leave.
use Rattle.std.specs.Prelude.{ℕ, ◌==◌, ◌&&◌, nat_le, nat_lt, List, ◌∷◌, length, take, slice_get, Option, Some, None, Bool, false, if◌then◌else◌}
use Rattle.std.specs.List.{filter}
use Rattle.wire_ids.specs.declared.keys.Seed.{Seed}
use Rattle.wire_ids.specs.Lists.{changed, holds_of}
use Rattle.contexts.specs.Contexts.{fresh_of}
use Rattle.contexts.specs.Queue.{drawn, taken, pushed}
use Rattle.contexts.specs.Slots.{offered, on_active, accepted}
use Rattle.contexts.specs.declared.context.Context.{Context}
use Rattle.contexts.specs.declared.context.Item.{Item}
use Rattle.contexts.specs.declared.context.Origin.{Origin}
use Rattle.contexts.specs.declared.context.Origin.TheVariants.{Seeded, Given}
use Rattle.contexts.specs.declared.slots.Slots.{Slots}
use Rattle.entries.specs.declared.change.Downlink.{Downlink}
use Rattle.entries.specs.declared.change.Downlink.TheVariants as down
use Rattle.entries.specs.declared.change.OwnContext.{OwnContext}
use Rattle.entries.specs.declared.used_seed.UsedSeed.{UsedSeed}
use Rattle.entries.specs.declared.used_seed.UsedSeed.TheVariants.{Rejoin0, Rejoin1, Rejoin2}
use Rattle.entry_codec.specs.Ordered.{put_in}
use Rattle.entry_codec.specs.declared.device.Device.{Device}
use Rattle.entry_codec.specs.declared.device.Granted.{Granted}
use Rattle.entry_codec.specs.declared.device.KeptSeed.{KeptSeed}
use Rattle.entry_codec.specs.declared.device.LentTo.{LentTo}

abbrev pub in_slots : (Slots → Slots) → Device → Device
in_slots f d = record d { slots = f d.slots }

-- ---- lapse

abbrev pub still_lent : ℕ → Option LentTo → Option LentTo
still_lent at None = None
still_lent at (Some l) = if nat_lt at l.until.0 then Some l else None

abbrev pub is_granted : ℕ → Granted → Bool
is_granted at g = nat_lt at g.until.0

-- its lending and its granted sessions that end at this moment, or ended before, are gone
unfoldable pub lapsed : ℕ → Device → Device
lapsed at d = record d { lent = still_lent at d.lent; granted = record { items = filter (is_granted at) d.granted.items } }

-- ---- joins

-- the seed stands first, and a fifth one is dropped
abbrev pub with_seed : Seed → Device → Device
with_seed seed d = record d { seeds = record { items = take 4 (record { seed = seed; rj_count0 = None } ∷ d.seeds.items) } }

-- a new pending context, with which the lending ends
abbrev pub with_own : Seed → Option OwnContext → Device → Device
with_own seed None d = d
with_own seed (Some own) d = record d { slots = offered (fresh_of own.dev_addr (Seeded seed) own.radio) d.slots; lent = None }

abbrev pub with_session : Seed → Option OwnContext → Device → Device
with_session seed own d = with_own seed own (with_seed seed d)

abbrev pub seed_of : ℕ → ℕ → Device → Seed
seed_of counter join_nonce d = record { nonce = join_nonce; join_eui = d.join_eui; counter = counter }

-- a join: DevNonce, JoinNonce, and the context of this desk where there is one
unfoldable pub joined : ℕ → ℕ → Option OwnContext → Device → Device
joined counter join_nonce own d = with_session (seed_of counter join_nonce d) own (record d { dev_nonce = Some counter; join_nonce = join_nonce })

-- ---- rejoins

abbrev pub is_seed : Seed → Seed → Bool
is_seed a b = a.nonce == b.nonce && a.join_eui.0 == b.join_eui.0 && a.counter == b.counter

abbrev pub starts_from : Seed → Origin → Bool
starts_from seed (Seeded own) = is_seed own seed
starts_from seed (Given number keys) = false

abbrev pub is_from : KeptSeed → Context → Bool
is_from kept c = starts_from kept.seed c.origin

-- the pending context was made with the kept seed in this place
abbrev pub is_pending : ℕ → Device → Bool
is_pending place d = holds_of (λ (kept : KeptSeed). holds_of (is_from kept) d.slots.pending) (slice_get d.seeds.items place)

unfoldable pub uses_pending : UsedSeed → Device → Bool
uses_pending (Rejoin0 place) d = is_pending place d
uses_pending Rejoin1 d = false
uses_pending (Rejoin2 place) d = is_pending place d

abbrev pub counted : ℕ → KeptSeed → KeptSeed
counted counter kept = record kept { rj_count0 = Some counter }

abbrev pub with_count : ℕ → ℕ → Device → Device
with_count place counter d = record d { seeds = record { items = changed place (counted counter) d.seeds.items } }

-- the counter is kept where it was looked at: with the used seed, or as RJcount1
abbrev pub kept_count : UsedSeed → ℕ → Device → Device
kept_count (Rejoin0 place) counter d = with_count place counter d
kept_count Rejoin1 counter d = record d { rj_count1 = Some counter }
kept_count (Rejoin2 place) counter d = with_count place counter d

-- a rejoin: its counter, JoinNonce, and the context of this desk where there is one
unfoldable pub rejoined : UsedSeed → ℕ → ℕ → Option OwnContext → Device → Device
rejoined used counter join_nonce own d = with_session (seed_of counter join_nonce d) own (kept_count used counter (record d { join_nonce = join_nonce }))

-- ---- roaming

abbrev pub stepped : Option UsedSeed → ℕ → ℕ → Device → Device
stepped None counter join_nonce d = joined counter join_nonce None d
stepped (Some used) counter join_nonce d = rejoined used counter join_nonce None d

-- the step of a join or rejoin without a context, and the device is lent
unfoldable pub lent_out : Option UsedSeed → ℕ → ℕ → LentTo → Device → Device
lent_out used counter join_nonce to d = record (stepped used counter join_nonce d) { lent = Some to }

unfoldable pub called_back : Device → Device
called_back d = record d { lent = None }

abbrev pub net_of : Granted → ℕ
net_of g = g.net

abbrev pub put_granted : Granted → List Granted → List Granted
put_granted g gs = put_in net_of g (λ (old : Granted). g) gs

-- the network has a session until its moment
unfoldable pub with_grant : Granted → Device → Device
with_grant g d = record d { granted = record { items = put_granted g d.granted.items } }

-- no device has more than 32 granted sessions, as there are no more networks
unfoldable pub can_grant : Granted → Device → Bool
can_grant g d = nat_le (length (put_granted g d.granted.items)) 32

-- ---- marks

unfoldable pub marked : Bool → Device → Device
marked suspended d = record d { suspended = suspended }

-- ---- the active context

abbrev pub answered : Downlink → Context → Context
answered down.Nothing c = c
answered down.Empty c = drawn c
answered down.FirstItem c = taken c

-- an uplink is the last one of the context that it names, which is active from then on; its downlink is drawn or taken there
unfoldable pub heard : Bool → ℕ → List ℕ → Downlink → Slots → Slots
heard pending count frame down s = on_active (answered down) (accepted pending count frame s)

unfoldable pub queued : Item → Device → Device
queued item d = in_slots (on_active (pushed item)) d

-- The JoinNonces that a history gives out, and the DevNonces that it accepts.
use Rattle.std.specs.Prelude.{◌≡◌, ◌≢◌, ℕ, ◌<◌, List, [], ◌∷◌, slice_get, Option, Some, None, is_some, if◌then◌else◌, option_map, AllPairs}
use Rattle.wire_ids.specs.declared.eui.Eui.{Eui}
use Rattle.agreements.specs.LookUps.{AreFound as HasPlaces}
use Rattle.agreements.specs.Walk.{Config}
use Rattle.entries.specs.declared.change.Change.{Change}
use Rattle.entries.specs.declared.change.Change.TheVariants as change
use Rattle.entries.specs.declared.entry.Entry.{Entry}
use Rattle.entries.specs.declared.entry.Event.{Event}
use Rattle.entries.specs.declared.entry.Event.TheVariants as event
use Rattle.entry_codec.specs.Empty.{empty}
use Rattle.entry_codec.specs.Machine.{Machine, after}
use Rattle.entry_codec.specs.Replay.{AllFit}
use Rattle.entry_codec.specs.declared.device.Device.{Device}

-- ---- what events of any kind issue

abbrev pub one_more : {X : Type 0} → Option X → List X → List X
one_more None xs = xs
one_more (Some x) xs = x ∷ xs

-- what the events issue, each in the state that those before it leave
abbrev pub issues : {S E X : Type 0} → (S → E → S) → (S → E → Option X) → S → List E → List X
issues step issued s [] = []
issues step issued s (e ∷ es) = one_more (issued s e) (issues step issued (step s e) es)

-- of one key, the later number is above the earlier one
abbrev pub IsAbove : {K : Type 0} → K × ℕ → K × ℕ → Type 0
IsAbove earlier later = earlier.0 ≡ later.0 → earlier.1 < later.1

-- ---- numbers of devices

-- the device of a join, of a rejoin or of a lending
abbrev pub device_of : Change → Option ℕ
device_of (change.Join j) = Some j.device
device_of (change.Rejoin j) = Some j.device
device_of (change.Lent l) = Some l.device
device_of _ = None

-- the device's DevEUI, and the number
abbrev pub of_device : Option ℕ → Option ℕ → Machine → Option (Eui × ℕ)
of_device None number m = None
of_device (Some device) None m = None
of_device (Some device) (Some number) m = option_map (λ (d : Device). (d.dev_eui, number)) (slice_get m.devices device)

abbrev pub event_number : (Change → Option ℕ) → Event → Machine → Option (Eui × ℕ)
event_number number (event.Kept request c) m = of_device (device_of c) (number c) m
event_number number _ m = None

-- the numbers that the changes of entries issue
abbrev pub issued : (Change → Option ℕ) → Machine → Entry → Option (Eui × ℕ)
issued number m e = event_number number e.event m

-- none is issued to a DevEUI twice, and each is above those before it
pub record IssuesOnce (number : Change → Option ℕ) (m : Machine) (es : List Entry) : Type 0 where
  pub once : AllPairs (λ x y. x ≢ y) (issues after (issued number) m es)
  pub rising : AllPairs IsAbove (issues after (issued number) m es)

-- ---- JoinNonces

-- the JoinNonce that a change gives out (LoRaWAN 1.1, 6.2.3)
abbrev pub given_join_nonce : Change → Option ℕ
given_join_nonce (change.Join j) = Some j.join_nonce
given_join_nonce (change.Rejoin j) = Some j.join_nonce
given_join_nonce (change.Lent l) = Some l.join_nonce
given_join_nonce _ = None

-- over every list of entries that fit
abbrev pub JoinNoncesOnce : Type 0
JoinNoncesOnce = (c : Config) (es : List Entry) → HasPlaces c.devices → AllFit (empty c) es → IssuesOnce given_join_nonce (empty c) es

-- ---- DevNonces

-- the DevNonce of the join that a change accepts (LoRaWAN 1.1, 6.2.2), also where it lends the device
abbrev pub accepted_dev_nonce : Change → Option ℕ
accepted_dev_nonce (change.Join j) = Some j.counter
accepted_dev_nonce (change.Lent l) = if is_some l.used then None else Some l.counter
accepted_dev_nonce _ = None

abbrev pub DevNoncesOnce : Type 0
DevNoncesOnce = (c : Config) (es : List Entry) → HasPlaces c.devices → AllFit (empty c) es → IssuesOnce accepted_dev_nonce (empty c) es

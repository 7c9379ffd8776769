use Rattle.std.proofs.Common.{◌≡◌, ℕ, ◌++◌, ◌≤◌, List, [], length, map, sym, subst, arith}
use Rattle.std.proofs.lemmas.Cmp.{nat_eq_equiv}
use Rattle.std.proofs.lemmas.List.{length-append, length-map}
use Rattle.std.proofs.lemmas.Map.Made.{length-le_from_is_member}
use Rattle.agreements.specs.Walk.{Config}
use Rattle.entries.specs.declared.entry.Entry.{Entry}
use Rattle.entries.specs.declared.entry.Event.{Event}
use Rattle.entries.specs.declared.entry.Event.TheVariants as event
use Rattle.entry_codec.specs.Empty.{empty}
use Rattle.entry_codec.specs.Machine.{Machine, after, entered, on_event, ready, visitor_number}
use Rattle.entry_codec.specs.Sound.{IsSound}
use Rattle.entry_codec.specs.Told.{AsksCanBeTold, AtMostDifferent}
use Rattle.entry_codec.specs.declared.parties.Visitor.{Visitor}
use Rattle.entry_codec.proofs.Sound.{sound-ready}
use Rattle.entry_codec.proofs.laws.opened_asks_can_be_told.Goals as goal

-- where nothing is asked, the guests are the visitors
few_visitors : (vs : List Visitor) → length vs ≤ 1024 → AtMostDifferent 1024 (map visitor_number vs ++ [])
few_visitors vs few ns differ among = omega (
  arith,
  few,
  length-le_from_is_member nat_eq_equiv ns (map visitor_number vs ++ []) differ among,
  length-map vs visitor_number,
  length-append (map visitor_number vs) [],
)

first : (c : Config) → AsksCanBeTold (empty c)
unfolding empty
first c = record { few_guests = few_visitors [] (omega arith); asks = tt }

closed : (r : Machine) (at : ℕ) → length r.visitors ≤ 1024 → AsksCanBeTold (entered at (on_event event.Opened r))
unfolding on_event
closed r at few = record { few_guests = few_visitors r.visitors few; asks = tt }

opened : (m : Machine) (e : Entry) → IsSound m → e.event ≡ event.Opened → AsksCanBeTold (after m e)
opened m e sound is = subst (λ (o : Event). AsksCanBeTold (entered e.moment.0 (on_event o (ready m e)))) (sym is) (closed (ready m e) e.moment.0 (sound-ready m e sound).few_visitors)

pub returns : goal.returns
returns c = record { first = first; opened = opened }

use Rattle.std.proofs.Common.{ℕ, List, ap, map, subst, sym, ◌∙◌}
use Rattle.std.specs.Prelude.{position}
use Rattle.entry_codec.specs.Addresses.{IsTable}
use Rattle.entry_codec.specs.Ends.{EndsFrom}
use Rattle.entry_codec.specs.Index.{is_number, names, row_number}
use Rattle.entry_codec.specs.Kept.{AllFew}
use Rattle.entry_codec.specs.Machine.{Machine}
use Rattle.entry_codec.specs.Sound.{IsSound}
use Rattle.entry_codec.proofs.SoundEmpty.{ends-empty, few-empty, names-empty, sound-empty}
use Rattle.entry_codec.proofs.Tabled.{table_empty}
use Rattle.entry_codec.proofs.state.State.new.Goals as goal

pub invariant_of-result : goal.invariant_of-result
invariant_of-result c =
    let t = c.args.tables.now in (
      subst (λ (m : Machine). IsSound m) (sym c.in_ok-current.ensures) (sound-empty t c.devices.ensures.few c.devices.ensures.sound.limits.networks),
      λ key. c.in_ok-index.ensures key ∙ ap (λ (ns : List ℕ). position (is_number key) ns) (ap (map row_number) c.devices.ensures.rows ∙ sym (ap (λ (m : Machine). names m.devices) c.in_ok-current.ensures ∙ names-empty t)),
      subst (λ (m : Machine). EndsFrom 18446744073709551615 m) (sym c.in_ok-current.ensures) (ends-empty 18446744073709551615 t),
      subst AllFew (sym c.in_ok-kept.ensures) (few-empty t),
      subst (λ (m : Machine). IsTable c.in_ok-addresses.addresses m) (sym c.in_ok-current.ensures) (table_empty t c.in_ok-addresses.addresses c.in_ok-addresses.ensures),
    )

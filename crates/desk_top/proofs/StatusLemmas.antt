-- What a status tells.
use Rattle.std.proofs.Common.{◌≡◌, ℕ, List, Ok, Err, refl, sym, ap, ◌∙◌, arith}
use Rattle.std.specs.Prelude.{◌↔◌}
use Rattle.desk_top.specs.Ends.{Ends, status_of, status_of_stop}
use Rattle.desk_top.specs.Runs.{End, Run}
use Rattle.desk_top.specs.Words.{SpellsNone}
use Rattle.desk_top.specs.declared.fault.Fault.TheVariants.{Usage, Refused, NoDevice, TablesRead, InputRead, Write, TooMuch, Journal, Memory}
use Rattle.desk_top.specs.declared.fault.Stop.{Stop}
use Rattle.desk_top.specs.declared.fault.Stop.TheVariants as stop

no_stop : {P : Type 0} (why : Stop) → status_of_stop why ≡ 2 → P
no_stop stop.Failed is = absurd (omega (arith, is))
no_stop stop.Full is = absurd (omega (arith, is))
no_stop stop.OtherTables is = absurd (omega (arith, is))
no_stop (stop.NotAJournal line) is = absurd (omega (arith, is))
no_stop (stop.BadEntry line) is = absurd (omega (arith, is))

only_usage : (end : End) → status_of end ≡ 2 → end ≡ Err Usage
only_usage (Ok u) is = absurd (omega (arith, is))
only_usage (Err Usage) is = refl
only_usage (Err (Refused line)) is = absurd (omega (arith, is))
only_usage (Err (NoDevice line)) is = absurd (omega (arith, is))
only_usage (Err (Journal why)) is = no_stop why is
only_usage (Err TablesRead) is = absurd (omega (arith, is))
only_usage (Err InputRead) is = absurd (omega (arith, is))
only_usage (Err Write) is = absurd (omega (arith, is))
only_usage (Err TooMuch) is = absurd (omega (arith, is))
only_usage (Err Memory) is = absurd (omega (arith, is))

-- 2 says that the words are no command
pub usage_told : {S T O D K : Type 0} {images : D → List ℕ → Type 0} (run : Run S T O D K) (status : ℕ) → Ends images run status → (status ≡ 2) ↔ SpellsNone run.words
usage_told run status ends = (
  λ is. ends.promises.usage.0 (only_usage ends.end (sym ends.status ∙ is)),
  λ none. ends.status ∙ ap status_of (ends.promises.usage.1 none),
)

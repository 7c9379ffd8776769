-- What words spell.
use Rattle.std.proofs.Common.{List}
use Rattle.std.specs.Prelude.{String}
use Rattle.std.specs.declared.alloc.Global.{Global}
use Rattle.wire_ids.specs.declared.eui.Eui.{Eui}
use Rattle.desk_top.specs.Words.{Spells, SpellsNone}
use Rattle.desk_top.specs.declared.words.Command.TheVariants.{Check, Answer, Suspend, Resume}

pub none_spelled : (words : List (String Global)) → (Spells words Check → ⊥) → (Spells words Answer → ⊥) → ((eui : Eui) → (Spells words (Suspend eui) → ⊥) × (Spells words (Resume eui) → ⊥)) → SpellsNone words
none_spelled words check answer mark Check = check
none_spelled words check answer mark Answer = answer
none_spelled words check answer mark (Suspend eui) = (mark eui).0
none_spelled words check answer mark (Resume eui) = (mark eui).1

use Rattle.std.proofs.Common.{◌≡◌, Some, None, ap, sym, ◌∙◌, arith}
use Rattle.entries.specs.declared.entry.Entry.{Entry}
use Rattle.entries.specs.Entries.{decode_of}
use Rattle.entries.proofs.Entries.{decode-encode, encode-decode}
use Rattle.entries.proofs.codec.decode.Goals as goal

pub returns-in-Ok-clause-found : goal.returns-in-Ok-clause-found
returns-in-Ok-clause-found c = encode-decode c.args.bytes.now c.in-Ok.entry (λ i. omega (arith, c.type_inv.bytes i)) c.in-Ok.ensures

no_entry : (e : Entry) → None ≡ Some e → ⊥
no_entry e h = absurd cc

pub returns-in-Err-NoEntry-clause-none : goal.returns-in-Err-NoEntry-clause-none
returns-in-Err-NoEntry-clause-none c = λ e fits same.
    let none : decode_of c.args.bytes.now ≡ None = rw c.in-Err-NoEntry.field-0-is at c.in-Err-NoEntry.ensures in
    no_entry e (sym none ∙ ap decode_of same ∙ decode-encode e fits)

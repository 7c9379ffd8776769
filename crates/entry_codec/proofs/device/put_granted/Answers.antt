use Rattle.std.proofs.Common.{arith, rules, sym, ◌≡◌, ◌∙◌, ◌≤◌, ◌+◌, length}
use Rattle.entry_codec.specs.declared.device.Granted.{Granted}
use Rattle.entry_codec.specs.Devices.{net_of, put_granted}
use Rattle.entry_codec.proofs.Ordered.{length-put_new, most_places, put_new, put_there}
use Rattle.entry_codec.proofs.device.put_granted.Goals as goal

pub insert-requires : goal.insert-requires
insert-requires c =
    let new = c.args.new in
    let xs = c.args.granted.now.items in
    let more : length (put_granted new xs) ≡ length xs + 1 = length-put_new net_of new (λ (old : Granted). new) xs c.place-at.result (sym (search rules)) (search rules) in
    let room : length (put_granted new xs) ≤ 32 = c.requires in
    let within : c.place-at.result ≤ length xs = search (rules, most_places) in
    (omega arith, (within, omega arith))

pub returns-then-is_at : goal.returns-then-is_at
returns-then-is_at c = c.replace.ensures ∙ sym (put_there net_of c.args.new (λ (old : Granted). c.args.new) c.args.granted.now.items c.place-at.result (sym (search rules)) (search rules))

pub returns-else-is_at : goal.returns-else-is_at
returns-else-is_at c = c.insert.ensures.items ∙ sym (put_new net_of c.args.new (λ (old : Granted). c.args.new) c.args.granted.now.items c.place-at.result (sym (search rules)) (search rules))

use Rattle.std.proofs.Common.{rules}
use Rattle.key_vault.specs.Table.{nwk_at}
use Rattle.join_frames.proofs.AcceptFacts.{accept_one, accept_two, mic_under}
use Rattle.join_frames.proofs.sealing.accept_bytes.Goals as goal

pub returns-in-None-clause-value : goal.returns-in-None-clause-value
returns-in-None-clause-value g c =
    let nwk = nwk_at c.args.vault.now c.args.i in
    let a = c.args.accept.now in
    let is_mic = mic_under nwk _ _ a c.accept_mic-mic.ensures c.js_int.ensures in
    rw (c.of_one.ensures.value, c.seal.ensures, c.is_rejoin-rejoin.ensures) (
    accept_one nwk a _ _ c.in-None.is is_mic c.only_block.ensures (search rules)
    )

pub returns-in-Some-clause-value : goal.returns-in-Some-clause-value
returns-in-Some-clause-value g c =
    let nwk = nwk_at c.args.vault.now c.args.i in
    let a = c.args.accept.now in
    let is_mic = mic_under nwk _ _ a c.accept_mic-mic.ensures c.js_int.ensures in
    rw (c.of_two.ensures.value, c.seal-in-Some.ensures, c.is_rejoin-rejoin.ensures) (
    accept_two nwk a c.in-Some.cf _ _ _ c.in-Some.is is_mic c.first_block.ensures c.second_block.ensures (search rules) (search rules)
    )

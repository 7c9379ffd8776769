use Rattle.std.proofs.Common.{rules, ◌<◌}
use Rattle.exchanges.proofs.Counting.{channel_of_is}
use Rattle.exchanges.proofs.valid.channel_of.Goals as goal

pub returns : goal.returns
returns c =
    let few : c.args.channels < 256 = search rules in
    channel_of_is c.args.keys.now c.args.up.now c.args.count c.args.conf c.args.rate c.args.channels c.mic_up_ok.result few c.requires c.mic_up_ok.ensures.channel c.mic_up_ok.ensures.none

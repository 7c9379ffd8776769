-- Each JoinNonce and each DevNonce of a device, and each number of a downlink counter, in a legal history is above those before it.
use Rattle.std.proofs.Common.{List, [], ◌∷◌}
use Rattle.wire_ids.specs.declared.keys.RootKeys.{RootKeys}
use Rattle.agreements.specs.Walk.{Config}
use Rattle.entries.specs.declared.entry.Entry.{Entry}
use Rattle.entry_codec.specs.Empty.{empty}
use Rattle.entry_codec.specs.Replay.{AllFit}
use Rattle.entry_codec.proofs.Issuing.{dev_nonces_once, join_nonces_once}
use Rattle.histories.proofs.Downlinks.{downlink_numbers_once}
use Rattle.roam_core.specs.Desk.{Desk, desk_after, empty_desk}
use Rattle.roam_core.specs.Issues.{HistoriesIssueOnce}
use Rattle.roam_core.specs.Legal.{IsLegal, MayFollow}

all_fit : (c : Config) (keys : List RootKeys) (s : Desk) (es : List Entry) → MayFollow c keys s es → AllFit s.now es
all_fit c keys s [] may = tt
all_fit c keys s (e ∷ es) may = (may.0, all_fit c keys (desk_after s e) es may.2)

pub legal_fits : (c : Config) (keys : List RootKeys) (history : List Entry) → IsLegal c keys history → AllFit (empty c) history
legal_fits c keys [] legal = tt
legal_fits c keys (e ∷ es) legal = (legal.0, all_fit c keys (desk_after (empty_desk c) e) es legal.2)

pub histories_issue_once : HistoriesIssueOnce
histories_issue_once c keys history places legal =
    let fit = legal_fits c keys history legal in
    record {
      join_nonces = join_nonces_once c history places fit;
      dev_nonces = dev_nonces_once c history places fit;
      downlinks = downlink_numbers_once c history places fit;
    }

-- What a history gives out and accepts.
use Rattle.std.specs.Prelude.{List}
use Rattle.wire_ids.specs.declared.keys.RootKeys.{RootKeys}
use Rattle.agreements.specs.LookUps.{AreFound as HasPlaces}
use Rattle.agreements.specs.Walk.{Config}
use Rattle.entries.specs.declared.entry.Entry.{Entry}
use Rattle.entry_codec.specs.Empty.{empty}
use Rattle.entry_codec.specs.Issues.{IssuesOnce, accepted_dev_nonce, given_join_nonce}
use Rattle.histories.specs.Downlinks as histories
use Rattle.roam_core.specs.Legal.{IsLegal}

-- no JoinNonce is given to a DevEUI twice and no DevNonce of it accepted twice, no downlink counter of a context has a number twice,
-- and each is above those before it
pub record IssuedOnce (c : Config) (history : List Entry) : Type 0 where
  pub join_nonces : IssuesOnce given_join_nonce (empty c) history
  pub dev_nonces : IssuesOnce accepted_dev_nonce (empty c) history
  pub downlinks : histories.IssuesOnce (empty c) history

abbrev pub HistoriesIssueOnce : Type 0
HistoriesIssueOnce = (c : Config) (keys : List RootKeys) (history : List Entry) → HasPlaces c.devices → IsLegal c keys history → IssuedOnce c history

-- Names have one spelling.
use Rattle.std.proofs.Common.{◌≡◌, ℕ, eqb, List, ◌++◌, Some, refl}
use Rattle.wire_ids.specs.declared.party.Sender.{Sender}
use Rattle.wire_ids.specs.declared.party.Sender.TheVariants as senders
use Rattle.wire_ids.specs.declared.party.PeerId.{PeerId}
use Rattle.wire_ids.specs.declared.party.PeerId.TheVariants as peers
use Rattle.wire_ids.specs.Forms.{IsForm, u24}
use Rattle.wire_ids.proofs.Forms.{by_test, taken_arm, arm_again, form-sum, form-both, form-named, form-u8, form-u24, form-u32, form-u64, form-optional, form-exactly}
use Rattle.entries.specs.Names.{eui, dev_addr, moment, radio, session_keys, sender, sender_tag, sender_fields, sender_at, FitsSender, peer, peer_tag, peer_fields, peer_at, FitsPeerId}

pub form-eui : IsForm eui
form-eui = form-named _ _ _ (λ n. refl) (λ x. refl) form-u64

pub form-dev_addr : IsForm dev_addr
form-dev_addr = form-named _ _ _ (λ n. refl) (λ x. refl) form-u32

pub form-moment : IsForm moment
form-moment = form-named _ _ _ (λ n. refl) (λ x. refl) form-u64

pub form-radio : IsForm radio
form-radio = form-named _ _ _ (λ p. refl) (λ x. refl) (form-both _ _ form-u8 (form-both _ _ form-u8 (form-optional _ (form-exactly 16))))

pub form-session_keys : IsForm session_keys
form-session_keys = form-named _ _ _ (λ p. refl) (λ x. refl) (form-both _ _ (form-exactly 16) (form-both _ _ (form-exactly 16) (form-exactly 16)))

sender_again : (x : Sender) (rest : List ℕ) → FitsSender x → sender_at (sender_tag x) (sender_fields x ++ rest) ≡ Some (x, rest)
sender_again (senders.Network x) rest fits = arm_again u24 senders.Network form-u24 x rest fits
sender_again (senders.Party x) rest fits = arm_again eui senders.Party form-eui x rest fits

pub form-sender : IsForm sender
unfolding sender
form-sender = form-sum sender_tag sender_fields sender_at FitsSender sender_again (λ first bytes x rest is.
    by_test (eqb first 0) _ _ _ (taken_arm sender_tag sender_fields FitsSender u24 senders.Network 0 (λ _. refl) (λ _. refl) (λ _ k. k) form-u24 first bytes x rest is) (λ _.
    by_test (eqb first 1) _ _ _ (taken_arm sender_tag sender_fields FitsSender eui senders.Party 1 (λ _. refl) (λ _. refl) (λ _ k. k) form-eui first bytes x rest is) (λ _ none. absurd cc)))

peer_again : (x : PeerId) (rest : List ℕ) → FitsPeerId x → peer_at (peer_tag x) (peer_fields x ++ rest) ≡ Some (x, rest)
peer_again (peers.Network x) rest fits = arm_again u24 peers.Network form-u24 x rest fits
peer_again (peers.JoinServer x) rest fits = arm_again eui peers.JoinServer form-eui x rest fits

pub form-peer : IsForm peer
unfolding peer
form-peer = form-sum peer_tag peer_fields peer_at FitsPeerId peer_again (λ first bytes x rest is.
    by_test (eqb first 0) _ _ _ (taken_arm peer_tag peer_fields FitsPeerId u24 peers.Network 0 (λ _. refl) (λ _. refl) (λ _ k. k) form-u24 first bytes x rest is) (λ _.
    by_test (eqb first 1) _ _ _ (taken_arm peer_tag peer_fields FitsPeerId eui peers.JoinServer 1 (λ _. refl) (λ _. refl) (λ _ k. k) form-eui first bytes x rest is) (λ _ none. absurd cc)))

-- Parts of changes have one spelling.
use Rattle.std.proofs.Common.{◌≡◌, ℕ, eqb, List, [], ◌++◌, Some, refl}
use Rattle.entries.specs.declared.used_seed.UsedSeed.{UsedSeed}
use Rattle.entries.specs.declared.used_seed.UsedSeed.TheVariants as used_seeds
use Rattle.entries.specs.declared.change.Downlink.{Downlink}
use Rattle.entries.specs.declared.change.Downlink.TheVariants as downlinks
use Rattle.entries.specs.declared.change.RoamingKind.{RoamingKind}
use Rattle.entries.specs.declared.change.RoamingKind.TheVariants as roaming_kinds
use Rattle.wire_ids.specs.Forms.{IsForm, below, mark}
use Rattle.wire_ids.proofs.Forms.{by_test, taken_arm, taken_bare, arm_again, form-sum, form-both, form-named, form-u8, form-u16, form-u24, form-u32, form-flag, form-optional, form-below, form-mark, form-short}
use Rattle.entries.specs.Changes.{used_seed, used_seed_tag, used_seed_fields, used_seed_at, FitsUsedSeed, own_context, joined, rejoined, downlink, downlink_tag, downlink_at, uplink, passive_uplink, queued, roaming_kind, roaming_kind_tag, roaming_kind_at, stopped}
use Rattle.entries.proofs.Names.{form-eui, form-dev_addr, form-moment, form-radio}

mark_fits : (x : Unit {0}) → (mark 255).Fits x
unfolding mark
mark_fits x = tt

used_seed_again : (x : UsedSeed) (rest : List ℕ) → FitsUsedSeed x → used_seed_at (used_seed_tag x) (used_seed_fields x ++ rest) ≡ Some (x, rest)
used_seed_again (used_seeds.Rejoin0 x) rest fits = arm_again (below 4) used_seeds.Rejoin0 (form-below 4) x rest fits
used_seed_again used_seeds.Rejoin1 rest fits = arm_again (mark 255) (λ _. used_seeds.Rejoin1) (form-mark 255) tt rest (mark_fits tt)
used_seed_again (used_seeds.Rejoin2 x) rest fits = arm_again (below 4) used_seeds.Rejoin2 (form-below 4) x rest fits

pub form-used_seed : IsForm used_seed
unfolding used_seed
form-used_seed = form-sum used_seed_tag used_seed_fields used_seed_at FitsUsedSeed used_seed_again (λ first bytes x rest is.
    by_test (eqb first 0) _ _ _ (taken_arm used_seed_tag used_seed_fields FitsUsedSeed (below 4) used_seeds.Rejoin0 0 (λ _. refl) (λ _. refl) (λ _ k. k) (form-below 4) first bytes x rest is) (λ _.
    by_test (eqb first 1) _ _ _ (taken_arm used_seed_tag used_seed_fields FitsUsedSeed (mark 255) (λ _. used_seeds.Rejoin1) 1 (λ _. refl) (λ _. refl) (λ _ _. tt) (form-mark 255) first bytes x rest is) (λ _.
    by_test (eqb first 2) _ _ _ (taken_arm used_seed_tag used_seed_fields FitsUsedSeed (below 4) used_seeds.Rejoin2 2 (λ _. refl) (λ _. refl) (λ _ k. k) (form-below 4) first bytes x rest is) (λ _ none. absurd cc))))

pub form-own_context : IsForm own_context
form-own_context = form-named _ _ _ (λ p. refl) (λ x. refl) (form-both _ _ form-dev_addr form-radio)

pub form-joined : IsForm joined
form-joined = form-named _ _ _ (λ p. refl) (λ x. refl) (form-both _ _ form-u32 (form-both _ _ form-u16 (form-both _ _ form-u24 (form-optional _ form-own_context))))

pub form-rejoined : IsForm rejoined
form-rejoined = form-named _ _ _ (λ p. refl) (λ x. refl) (form-both _ _ form-u32 (form-both _ _ form-used_seed (form-both _ _ form-u16 (form-both _ _ form-u24 (form-optional _ form-own_context)))))

downlink_again : (x : Downlink) (rest : List ℕ) → downlink_at (downlink_tag x) rest ≡ Some (x, rest)
downlink_again downlinks.Nothing rest = refl
downlink_again downlinks.Empty rest = refl
downlink_again downlinks.FirstItem rest = refl

pub form-downlink : IsForm downlink
unfolding downlink
form-downlink = form-sum downlink_tag (λ _. []) downlink_at (λ _. Unit {0}) (λ x rest _. downlink_again x rest) (λ first bytes x rest is.
    by_test (eqb first 0) _ _ _ (taken_bare downlink_tag (λ _. []) (λ _. Unit {0}) downlinks.Nothing 0 refl refl tt first bytes x rest is) (λ _.
    by_test (eqb first 1) _ _ _ (taken_bare downlink_tag (λ _. []) (λ _. Unit {0}) downlinks.Empty 1 refl refl tt first bytes x rest is) (λ _.
    by_test (eqb first 2) _ _ _ (taken_bare downlink_tag (λ _. []) (λ _. Unit {0}) downlinks.FirstItem 2 refl refl tt first bytes x rest is) (λ _ none. absurd cc))))

pub form-uplink : IsForm uplink
form-uplink = form-named _ _ _ (λ p. refl) (λ x. refl) (form-both _ _ form-eui (form-both _ _ form-flag (form-both _ _ form-u32 (form-both _ _ form-short (form-both _ _ form-u8 form-downlink)))))

pub form-passive_uplink : IsForm passive_uplink
form-passive_uplink = form-named _ _ _ (λ p. refl) (λ x. refl) (form-both _ _ form-uplink (form-both _ _ form-u24 form-moment))

pub form-queued : IsForm queued
form-queued = form-named _ _ _ (λ p. refl) (λ x. refl) (form-both _ _ form-u32 (form-both _ _ form-u32 (form-both _ _ form-u8 (form-both _ _ form-flag form-short))))

roaming_kind_again : (x : RoamingKind) (rest : List ℕ) → roaming_kind_at (roaming_kind_tag x) rest ≡ Some (x, rest)
roaming_kind_again roaming_kinds.Held rest = refl
roaming_kind_again roaming_kinds.Lent rest = refl
roaming_kind_again roaming_kinds.Visitor rest = refl

pub form-roaming_kind : IsForm roaming_kind
unfolding roaming_kind
form-roaming_kind = form-sum roaming_kind_tag (λ _. []) roaming_kind_at (λ _. Unit {0}) (λ x rest _. roaming_kind_again x rest) (λ first bytes x rest is.
    by_test (eqb first 0) _ _ _ (taken_bare roaming_kind_tag (λ _. []) (λ _. Unit {0}) roaming_kinds.Held 0 refl refl tt first bytes x rest is) (λ _.
    by_test (eqb first 1) _ _ _ (taken_bare roaming_kind_tag (λ _. []) (λ _. Unit {0}) roaming_kinds.Lent 1 refl refl tt first bytes x rest is) (λ _.
    by_test (eqb first 2) _ _ _ (taken_bare roaming_kind_tag (λ _. []) (λ _. Unit {0}) roaming_kinds.Visitor 2 refl refl tt first bytes x rest is) (λ _ none. absurd cc))))

pub form-stopped : IsForm stopped
form-stopped = form-named _ _ _ (λ p. refl) (λ x. refl) (form-both _ _ form-eui form-roaming_kind)

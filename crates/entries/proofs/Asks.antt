-- Parts of asks have one spelling.
use Rattle.std.proofs.Common.{◌≡◌, ℕ, eqb, List, [], ◌++◌, Some, refl}
use Rattle.entries.specs.declared.ask.AskKind.{AskKind}
use Rattle.entries.specs.declared.ask.AskKind.TheVariants as ask_kinds
use Rattle.entries.specs.declared.ask.Effect.{Effect}
use Rattle.entries.specs.declared.ask.Effect.TheVariants as effects
use Rattle.wire_ids.specs.Forms.{IsForm}
use Rattle.wire_ids.proofs.Forms.{by_test, taken_arm, taken_bare, arm_again, form-sum, form-both, form-named, form-u8, form-u16, form-u24, form-u32, form-u64, form-flag, form-optional, form-exactly, form-short}
use Rattle.entries.specs.Asks.{ask_kind, ask_kind_tag, ask_kind_at, rejoin_count, target, new_ask, new_visitor, held_session, held_count, effect, effect_tag, effect_fields, effect_at, FitsEffect, ask_outcome}
use Rattle.entries.proofs.Names.{form-eui, form-dev_addr, form-moment, form-radio, form-session_keys, form-sender, form-peer}

ask_kind_again : (x : AskKind) (rest : List ℕ) → ask_kind_at (ask_kind_tag x) rest ≡ Some (x, rest)
ask_kind_again ask_kinds.HomeNS rest = refl
ask_kind_again ask_kinds.HRStart rest = refl
ask_kind_again ask_kinds.PRStart rest = refl
ask_kind_again ask_kinds.XmitData rest = refl

pub form-ask_kind : IsForm ask_kind
unfolding ask_kind
form-ask_kind = form-sum ask_kind_tag (λ _. []) ask_kind_at (λ _. Unit {0}) (λ x rest _. ask_kind_again x rest) (λ first bytes x rest is.
    by_test (eqb first 0) _ _ _ (taken_bare ask_kind_tag (λ _. []) (λ _. Unit {0}) ask_kinds.HomeNS 0 refl refl tt first bytes x rest is) (λ _.
    by_test (eqb first 1) _ _ _ (taken_bare ask_kind_tag (λ _. []) (λ _. Unit {0}) ask_kinds.HRStart 1 refl refl tt first bytes x rest is) (λ _.
    by_test (eqb first 2) _ _ _ (taken_bare ask_kind_tag (λ _. []) (λ _. Unit {0}) ask_kinds.PRStart 2 refl refl tt first bytes x rest is) (λ _.
    by_test (eqb first 3) _ _ _ (taken_bare ask_kind_tag (λ _. []) (λ _. Unit {0}) ask_kinds.XmitData 3 refl refl tt first bytes x rest is) (λ _ none. absurd cc)))))

pub form-rejoin_count : IsForm rejoin_count
form-rejoin_count = form-named _ _ _ (λ p. refl) (λ x. refl) (form-both _ _ form-u16 form-flag)

pub form-target : IsForm target
form-target = form-named _ _ _ (λ p. refl) (λ x. refl) (form-both _ _ form-ask_kind (form-both _ _ form-peer (form-both _ _ (form-optional _ form-eui) (form-both _ _ (form-optional _ form-dev_addr) (form-both _ _ (form-optional _ form-radio) (form-both _ _ (form-optional _ form-rejoin_count) (form-both _ _ form-short form-u8)))))))

pub form-new_ask : IsForm new_ask
form-new_ask = form-named _ _ _ (λ p. refl) (λ x. refl) (form-both _ _ (form-optional _ form-u64) (form-both _ _ form-sender (form-both _ _ form-short (form-both _ _ form-target form-moment))))

pub form-new_visitor : IsForm new_visitor
form-new_visitor = form-named _ _ _ (λ p. refl) (λ x. refl) (form-both _ _ form-eui (form-both _ _ form-u24 (form-both _ _ form-dev_addr (form-both _ _ form-radio (form-both _ _ form-session_keys form-moment)))))

pub form-held_session : IsForm held_session
form-held_session = form-named _ _ _ (λ p. refl) (λ x. refl) (form-both _ _ form-u24 (form-both _ _ form-dev_addr (form-both _ _ form-eui (form-both _ _ (form-exactly 16) (form-both _ _ form-u32 form-moment)))))

pub form-held_count : IsForm held_count
form-held_count = form-named _ _ _ (λ p. refl) (λ x. refl) (form-both _ _ form-u24 (form-both _ _ form-dev_addr form-u32))

effect_again : (x : Effect) (rest : List ℕ) → FitsEffect x → effect_at (effect_tag x) (effect_fields x ++ rest) ≡ Some (x, rest)
effect_again effects.Nothing rest fits = refl
effect_again (effects.Visitor x) rest fits = arm_again new_visitor effects.Visitor form-new_visitor x rest fits
effect_again (effects.Held x) rest fits = arm_again held_session effects.Held form-held_session x rest fits
effect_again (effects.Counter x) rest fits = arm_again held_count effects.Counter form-held_count x rest fits

pub form-effect : IsForm effect
unfolding effect
form-effect = form-sum effect_tag effect_fields effect_at FitsEffect effect_again (λ first bytes x rest is.
    by_test (eqb first 0) _ _ _ (taken_bare effect_tag effect_fields FitsEffect effects.Nothing 0 refl refl tt first bytes x rest is) (λ _.
    by_test (eqb first 1) _ _ _ (taken_arm effect_tag effect_fields FitsEffect new_visitor effects.Visitor 1 (λ _. refl) (λ _. refl) (λ _ k. k) form-new_visitor first bytes x rest is) (λ _.
    by_test (eqb first 2) _ _ _ (taken_arm effect_tag effect_fields FitsEffect held_session effects.Held 2 (λ _. refl) (λ _. refl) (λ _ k. k) form-held_session first bytes x rest is) (λ _.
    by_test (eqb first 3) _ _ _ (taken_arm effect_tag effect_fields FitsEffect held_count effects.Counter 3 (λ _. refl) (λ _. refl) (λ _ k. k) form-held_count first bytes x rest is) (λ _ none. absurd cc)))))

pub form-ask_outcome : IsForm ask_outcome
form-ask_outcome = form-named _ _ _ (λ p. refl) (λ x. refl) (form-both _ _ form-u64 (form-both _ _ form-flag (form-both _ _ form-short form-effect)))

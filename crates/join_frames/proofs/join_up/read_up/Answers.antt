use Rattle.std.proofs.Common.{rules, ◌≡◌, ◌⊎◌, slice_index_or, refl, ap, ◌∙◌, Ok, Result}
use Rattle.wire_ids.specs.declared.faults.FrameFault.{FrameFault}
use Rattle.join_frames.specs.declared.join_up.JoinUp.{JoinUp}
use Rattle.join_frames.proofs.Forms.{is_join, is_rejoin02, is_rejoin1, one_join, one_rejoin02, one_rejoin1}
use Rattle.join_frames.proofs.join_up.read_up.Goals as goal

ap_ok : (u v : JoinUp) → u ≡ v → ◌≡◌ {A = Result JoinUp FrameFault} (Ok u) (Ok v)
ap_ok u v e = ap (λ (w : JoinUp). let r : Result JoinUp FrameFault = Ok w in r) e

pub returns-in-23-clause-form : goal.returns-in-23-clause-form
returns-in-23-clause-form c = (
  is_join _ _ _ _ _ (search rules) (search rules) c.eui_at.ensures.bytes c.eui_at-in-23.ensures.bytes c.u16_at.ensures.bytes c.array_at.ensures,
  search rules,
  search rules,
  search rules,
  search rules,
)

pub returns-in-23-clause-only : goal.returns-in-23-clause-only
returns-in-23-clause-only c = λ v f. ap_ok _ v
    (one_join _ _ _ _ _ v f (search rules) (search rules) (search rules) (search rules)
    c.eui_at.ensures.bytes c.eui_at-in-23.ensures.bytes c.u16_at.ensures.bytes c.array_at.ensures)

pub returns-in-19-clause-form : goal.returns-in-19-clause-form
returns-in-19-clause-form c =
    let kind : (slice_index_or c.args.frame.now 1 0 ≡ 0) ⊎ (slice_index_or c.args.frame.now 1 0 ≡ 2) = search rules in (
      is_rejoin02 _ _ _ _ _ _ (search rules) (search rules) refl
          (c.from_wire.ensures.bytes ∙ c.array_at-in-19.ensures) c.eui_at-in-19.ensures.bytes c.u16_at-in-19.ensures.bytes c.array_at-in-19-2.ensures,
      search rules,
      kind,
      search rules,
      search rules,
      search rules,
    )

pub returns-in-19-clause-only : goal.returns-in-19-clause-only
returns-in-19-clause-only c =
    let kind : (slice_index_or c.args.frame.now 1 0 ≡ 0) ⊎ (slice_index_or c.args.frame.now 1 0 ≡ 2) = search rules in
    λ v f. ap_ok _ v
    (one_rejoin02 _ _ _ _ _ _ v f (search rules) refl kind (search rules) (search rules) (search rules)
    (c.from_wire.ensures.bytes ∙ c.array_at-in-19.ensures) c.eui_at-in-19.ensures.bytes c.u16_at-in-19.ensures.bytes c.array_at-in-19-2.ensures)

pub returns-in-24-clause-form : goal.returns-in-24-clause-form
returns-in-24-clause-form c = (
  is_rejoin1 _ _ _ _ _ (search rules) (search rules) (search rules)
      c.eui_at-in-24.ensures.bytes c.eui_at-in-24-2.ensures.bytes c.u16_at-in-24.ensures.bytes c.array_at-in-24.ensures,
  search rules,
  search rules,
  search rules,
  search rules,
)

pub returns-in-24-clause-only : goal.returns-in-24-clause-only
returns-in-24-clause-only c = λ v f. ap_ok _ v
    (one_rejoin1 _ _ _ _ _ v f (search rules) (search rules) (search rules) (search rules) (search rules)
    c.eui_at-in-24.ensures.bytes c.eui_at-in-24-2.ensures.bytes c.u16_at-in-24.ensures.bytes c.array_at-in-24.ensures)

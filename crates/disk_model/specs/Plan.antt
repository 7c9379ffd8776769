-- Which calls of an object in memory fail.
use Rattle.std.specs.Prelude.{◌≡◌, ◌-◌, ◌<◌, ℕ}
use Rattle.disk_model.specs.declared.plan.Plan.{Plan}

-- so many calls pass, and so many fail behind them
pub record HasPlan (p : Plan) (before failing : ℕ) : Type 0 where
  pub passes : p.passes ≡ before
  pub fails : p.fails ≡ failing

-- no call passes before the next one that fails
pub record IsFailing (p : Plan) : Type 0 where
  pub none_passes : p.passes ≡ 0
  pub some_fails : 0 < p.fails

-- a call uses up one that passes, or else one that fails
pub record FollowsPlan (old new : Plan) : Type 0 where
  pub passes : new.passes ≡ old.passes - 1
  pub fails : new.fails ≡ old.fails - (1 - old.passes)

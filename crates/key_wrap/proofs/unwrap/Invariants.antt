use Rattle.std.proofs.Common.{◌≡◌}
use Rattle.key_wrap.specs.Wrap.{registers_of}
use Rattle.key_wrap.proofs.Unwinding.{undone}
use Rattle.key_wrap.proofs.unwrap.Given as goal

abbrev pub invariant-steps : goal.invariant-steps
invariant-steps l = l.registers ≡ undone l.keys (registers_of l.wrapped) l.undone

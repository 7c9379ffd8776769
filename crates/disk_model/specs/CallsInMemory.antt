-- What calls in memory tell.
use Rattle.std.specs.Prelude.{ℕ, ◌+◌, ◌-◌, List, vec_len}
use Rattle.std.specs.VecDeque.{deque_len}
use Rattle.disk_model.specs.declared.calls.MemoryCalls.{MemoryCalls}

-- the connections that are left
abbrev pub calls_left : {I O : Type 0} → MemoryCalls I O → List (I × O)
calls_left c = c.left.items

-- those that were given back
abbrev pub calls_back : {I O : Type 0} → MemoryCalls I O → List (I × O)
calls_back c = c.back.items

-- how many are out: neither left nor given back
abbrev pub calls_out : {I O : Type 0} → MemoryCalls I O → ℕ
calls_out c = c.made - (deque_len c.left + vec_len c.back)

abbrev pub calls_faults : {I O : Type 0} → MemoryCalls I O → ℕ
calls_faults c = c.plan.faults

use Rattle.std.proofs.Common.{rules, ◌+◌, ◌-◌, ◌≤◌, length, ◌≡◌, refl}
use Rattle.data_frames.proofs.Spelling.{form_has_no_fault, one_reading, spelled_by, fctrl_of}
use Rattle.data_frames.specs.DataForms.{data_fault}
use Rattle.data_frames.proofs.uplink.read_data.Goals as goal

pub returns-then-not-is_data_sized-clause-only : goal.returns-then-not-is_data_sized-clause-only
unfolding data_fault
returns-then-not-is_data_sized-clause-only c = λ v f. let none = form_has_no_fault _ v f in search rules

pub returns-in_default-clause-only : goal.returns-in_default-clause-only
unfolding data_fault
returns-in_default-clause-only c = λ v f. let none = form_has_no_fault _ v f in search rules

pub returns-clause-form : goal.returns-clause-form
returns-clause-form c = record {
  spelled =
      let at : 8 ≤ 8 + c.from-at.result = search rules in
      let high : 8 + c.from-at.result ≤ length c.args.frame.now - 4 = search rules in
      let len : length c.args.frame.now - 4 + 4 ≡ length c.args.frame.now = search rules in
      spelled_by c.args.frame.now _ (8 + c.from-at.result) (length c.args.frame.now - 4) at high len
      (search rules) c.addr_at.ensures.bytes (fctrl_of _ _ (search rules) (search rules)) c.u16_at.ensures.bytes
      (search rules) (search rules) c.mic_at.ensures.bytes;
  most = search rules;
  mic = search rules;
  addr = search rules;
  wire = search rules;
  fopts = search rules;
  bare = c.port_of-port.ensures.bare;
}

pub returns-clause-only : goal.returns-clause-only
returns-clause-only c = λ v f. (refl, one_reading _ _ v (returns-clause-form c) f)

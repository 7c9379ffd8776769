use Rattle.std.proofs.Common.{◌≡◌, ◌<◌, ◌^◌, ℕ, Option, Some, ap, arith, option_map, subst, sym, ◌∙◌}
use Rattle.wire_ids.specs.Addresses.{address_of, room_of}
use Rattle.wire_ids.specs.declared.address.DevAddr.{DevAddr}
use Rattle.entry_codec.specs.Free.{IsFirstFree}
use Rattle.entry_codec.specs.LookUps.{is_taken}
use Rattle.entry_codec.specs.Machine.{lapse, wake}
use Rattle.entry_codec.proofs.Window.{few_addresses, first_is, found_here, none_here, past_here}
use Rattle.entry_codec.proofs.now.Now.free_address.Goals as goal

pub returns-in-Some-free_in_window : goal.returns-in-Some-free_in_window
returns-in-Some-free_in_window c =
    let m = wake c.args.who (lapse c.args.at c.args.self.now.machine) in
    let first : Some c.in-Some.first.0 ≡ address_of c.args.net c.loop-first.from = sym (ap (option_map (λ (a : DevAddr). a.0)) c.in-Some.is) ∙ c.address_of.ensures in
    c.address_of-in-Some-free_in_window.ensures ∙ found_here c.args.net c.loop-first.from c.in-Some.first.0 c.in-Some-free_in_window.n m first
    (subst (λ (o : Option ℕ). IsFirstFree c.in-Some.first.0 (λ (a : DevAddr). is_taken a m) o) c.in-Some-free_in_window.is c.free_in_window.ensures) c.loop-first.invariant.so_far

pub loop-first-preserved : goal.loop-first-preserved
loop-first-preserved c =
    let m = wake c.args.who (lapse c.args.at c.args.self.now.machine) in
    let first : Some c.in-Some.first.0 ≡ address_of c.args.net c.loop-first.from = sym (ap (option_map (λ (a : DevAddr). a.0)) c.in-Some.is) ∙ c.address_of.ensures in
    let within : c.loop-first.from < room_of c.args.net = (first_is c.args.net c.loop-first.from c.in-Some.first.0 first).0 in
    let net : c.args.net < 2 ^ 24 = omega (arith, c.get.ensures.number, c.get.ensures.small) in
    record {
      so_far = none_here c.args.net c.loop-first.from c.in-Some.first.0 m first
          (subst (λ (o : Option ℕ). IsFirstFree c.in-Some.first.0 (λ (a : DevAddr). is_taken a m) o) c.in_default-free_in_window.is c.free_in_window.ensures) c.loop-first.invariant.so_far;
      small = omega (arith, within, few_addresses c.args.net net);
    }

pub returns : goal.returns
returns c =
    let m = wake c.args.who (lapse c.args.at c.args.self.now.machine) in
    past_here c.args.net c.loop-first.from m (sym (ap (option_map (λ (a : DevAddr). a.0)) c.in_default.is) ∙ c.address_of.ensures) c.loop-first.invariant.so_far

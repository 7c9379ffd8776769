use Rattle.std.proofs.Common.{rules, ◌≡◌, ◌++◌, ◌∙◌, ℕ, List, [], ap, sym, subst}
use Rattle.data_frames.specs.DataForms.{DataForm, up_message}
use Rattle.data_frames.specs.Downlinks.{parts_of, sent}
use Rattle.data_frames.specs.Mics.{f_half, s_half}
use Rattle.data_frames.proofs.Written.{four_of, sent_form, sent_message, sent_mic}
use Rattle.data_frames.proofs.sending.up_bytes.Goals as goal

pub returns : goal.returns
returns c =
    let keys = c.args.keys.now in
    let p = c.args.up.now in
    let message : List ℕ = up_message (parts_of p []) in
    let s : c.s_half-s.result ≡ s_half keys.s p.addr p.count p.conf p.rate p.channel message = rw (c.of.ensures, c.new.ensures, c.as_slice-message.ensures.value, c.up_message-frame.ensures.text) at c.s_half-s.ensures in
    let f : c.f_half-f.result ≡ f_half keys.f p.addr p.count message = rw (c.as_slice-message.ensures.value, c.up_message-frame.ensures.text) at c.f_half-f.ensures in
    let mic = four_of c.s_half-s.result c.f_half-f.result (search rules) (search rules)
    ∙ ap (λ (t : List ℕ). t ++ c.f_half-f.result) s ∙ ap (λ (t : List ℕ). s_half keys.s p.addr p.count p.conf p.rate p.channel message ++ t) f ∙ sym (sent_mic keys p) in
    let whole : c.with_mic.result ≡ up_message (sent keys p) ++ (sent keys p).mic =
    c.with_mic.ensures ∙ ap (λ (t : List ℕ). c.up_message-frame.result ++ t) mic
    ∙ ap (λ (t : List ℕ). t ++ (sent keys p).mic) (c.up_message-frame.ensures.text ∙ sym (sent_message keys p)) in
    record { form = subst (λ (bytes : List ℕ). DataForm bytes (sent keys p)) (sym whole) (sent_form keys p (search rules) c.requires.fopts c.requires.bare c.requires.size) }

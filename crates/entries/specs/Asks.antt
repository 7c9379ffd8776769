-- The spelling of asks and of what they lead to.
use Rattle.std.specs.Prelude.{ℕ, ◌==◌, [], if◌then◌else◌, List, Some, None}
use Rattle.entries.specs.declared.ask.AskKind.{AskKind}
use Rattle.entries.specs.declared.ask.AskKind.TheVariants as ask_kinds
use Rattle.entries.specs.declared.ask.RejoinCount.{RejoinCount}
use Rattle.entries.specs.declared.ask.Target.{Target}
use Rattle.entries.specs.declared.ask.NewAsk.{NewAsk}
use Rattle.entries.specs.declared.ask.NewVisitor.{NewVisitor}
use Rattle.entries.specs.declared.ask.HeldSession.{HeldSession}
use Rattle.entries.specs.declared.ask.HeldCount.{HeldCount}
use Rattle.entries.specs.declared.ask.Effect.{Effect}
use Rattle.entries.specs.declared.ask.Effect.TheVariants as effects
use Rattle.entries.specs.declared.ask.AskOutcome.{AskOutcome}
use Rattle.wire_ids.specs.Forms.{Read, Form, u8, u16, u24, u32, u64, arm, sum, flag, optional, exactly, short, both, named}
use Rattle.entries.specs.Names.{eui, dev_addr, moment, radio, session_keys, sender, peer}

abbrev pub ask_kind_tag : AskKind → ℕ
ask_kind_tag ask_kinds.HomeNS = 0
ask_kind_tag ask_kinds.HRStart = 1
ask_kind_tag ask_kinds.PRStart = 2
ask_kind_tag ask_kinds.XmitData = 3

abbrev pub ask_kind_at : ℕ → List ℕ → Read AskKind
ask_kind_at tag bytes =
    if tag == 0 then Some (ask_kinds.HomeNS, bytes) else (if tag == 1 then Some (ask_kinds.HRStart, bytes) else (if tag == 2 then Some (ask_kinds.PRStart, bytes) else (if tag == 3 then Some (ask_kinds.XmitData, bytes) else None)))

unfoldable pub ask_kind : Form AskKind
ask_kind = sum ask_kind_tag (λ _. []) ask_kind_at (λ _. Unit {0})

abbrev pub rejoin_count : Form RejoinCount
rejoin_count = named (both u16 flag)
    (λ p. record { count = p.0; pending = p.1 })
    (λ x. (x.count, x.pending))

abbrev pub target : Form Target
target = named (both ask_kind (both peer (both (optional eui) (both (optional dev_addr) (both (optional radio) (both (optional rejoin_count) (both short u8)))))))
    (λ p. record { kind = p.0; peer = p.1.0; dev_eui = p.1.1.0; dev_addr = p.1.1.1.0; radio = p.1.1.1.1.0; rejoin = p.1.1.1.1.1.0; frame = p.1.1.1.1.1.1.0; rate = p.1.1.1.1.1.1.1 })
    (λ x. (x.kind, (x.peer, (x.dev_eui, (x.dev_addr, (x.radio, (x.rejoin, (x.frame, x.rate))))))))

abbrev pub new_ask : Form NewAsk
new_ask = named (both (optional u64) (both sender (both short (both target moment))))
    (λ p. record { closes = p.0; sender = p.1.0; body = p.1.1.0; target = p.1.1.1.0; ends = p.1.1.1.1 })
    (λ x. (x.closes, (x.sender, (x.body, (x.target, x.ends)))))

abbrev pub new_visitor : Form NewVisitor
new_visitor = named (both eui (both u24 (both dev_addr (both radio (both session_keys moment)))))
    (λ p. record { dev_eui = p.0; home = p.1.0; dev_addr = p.1.1.0; radio = p.1.1.1.0; keys = p.1.1.1.1.0; until = p.1.1.1.1.1 })
    (λ x. (x.dev_eui, (x.home, (x.dev_addr, (x.radio, (x.keys, x.until))))))

abbrev pub held_session : Form HeldSession
held_session = named (both u24 (both dev_addr (both eui (both (exactly 16) (both u32 moment)))))
    (λ p. record { net = p.0; dev_addr = p.1.0; dev_eui = p.1.1.0; f = p.1.1.1.0; count = p.1.1.1.1.0; until = p.1.1.1.1.1 })
    (λ x. (x.net, (x.dev_addr, (x.dev_eui, (x.f, (x.count, x.until))))))

abbrev pub held_count : Form HeldCount
held_count = named (both u24 (both dev_addr u32))
    (λ p. record { net = p.0; dev_addr = p.1.0; count = p.1.1 })
    (λ x. (x.net, (x.dev_addr, x.count)))

abbrev pub effect_tag : Effect → ℕ
effect_tag effects.Nothing = 0
effect_tag (effects.Visitor visitor) = 1
effect_tag (effects.Held session) = 2
effect_tag (effects.Counter count) = 3

abbrev pub effect_fields : Effect → List ℕ
effect_fields effects.Nothing = []
effect_fields (effects.Visitor visitor) = new_visitor.spell visitor
effect_fields (effects.Held session) = held_session.spell session
effect_fields (effects.Counter count) = held_count.spell count

abbrev pub effect_at : ℕ → List ℕ → Read Effect
effect_at tag bytes =
    if tag == 0 then Some (effects.Nothing, bytes) else (
    if tag == 1 then arm new_visitor effects.Visitor bytes else (
    if tag == 2 then arm held_session effects.Held bytes else (
    if tag == 3 then arm held_count effects.Counter bytes else None)))

abbrev pub FitsEffect : Effect → Type 0
FitsEffect effects.Nothing = Unit {0}
FitsEffect (effects.Visitor visitor) = new_visitor.Fits visitor
FitsEffect (effects.Held session) = held_session.Fits session
FitsEffect (effects.Counter count) = held_count.Fits count

unfoldable pub effect : Form Effect
effect = sum effect_tag effect_fields effect_at FitsEffect

abbrev pub ask_outcome : Form AskOutcome
ask_outcome = named (both u64 (both flag (both short effect)))
    (λ p. record { ask = p.0; kept = p.1.0; answer = p.1.1.0; effect = p.1.1.1 })
    (λ x. (x.ask, (x.kept, (x.answer, x.effect))))

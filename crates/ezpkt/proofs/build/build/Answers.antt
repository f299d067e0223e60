-- What is answered was decided before anything was written, and what is written is the packet.
use Rattle.ezpkt.proofs.Deciding.{gives_size}
use Rattle.ezpkt.specs.Build.{packet_of}
use Rattle.pkt.specs.Written.{leaves}
use Rattle.pkt.specs.Answers.{Answer, gives, says}
use Rattle.std.proofs.Common.{ℕ, sym, ap, ◌∙◌}
use Rattle.ezpkt.proofs.build.build.Goals as goal

pub packet-requires : goal.packet-requires
packet-requires c =
    let a = c.args in
    let e = sym c.answer.ensures ∙ ap says c.in_ok-len.was in
    e ∙ ap gives (sym (gives_size a.req _ _ _ e))

pub returns : goal.returns
returns c =
    let a = c.args in
    let e = sym c.answer.ensures ∙ ap says c.in_ok-len.was in
    record { answer = sym e; after = c.packet.ensures ∙ ap (λ (r : Answer ℕ). leaves r (packet_of a.req a.payload.now) a.out.now) (sym e) }

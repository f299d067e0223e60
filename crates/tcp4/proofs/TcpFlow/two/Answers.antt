-- The acknowledgment stands behind the message, and is built from the flow after it.
use Rattle.tcp4.specs.declared.TcpFlow.{TcpFlow}
use Rattle.tcp4.specs.declared.Side.{Side}
use Rattle.tcp4.specs.Tcp4.{segment_of, after_one, emit}
use Rattle.ezpkt.specs.Build.{tcp_packet}
use Rattle.ezpkt.proofs.Sizes.{tcp_size}
use Rattle.pkt.proofs.Written.{written_behind}
use Rattle.std.proofs.Common.{◌≡◌, ℕ, ◌+◌, List, [], length, ◌∙◌, ap₂, append-nil, arith, le-ltb, lt-ltb}
use Rattle.tcp4.proofs.TcpFlow.two.Goals as goal

pub returns-then-n-gt-TCP_PAYLOAD : goal.returns-then-n-gt-TCP_PAYLOAD
returns-then-n-gt-TCP_PAYLOAD c =
    let t = lt-ltb _ _ c.if-n-gt-TCP_PAYLOAD.true in
    record { answer = simp t; after = simp t }

pub returns-then-out-end : goal.returns-then-out-end
returns-then-out-end c =
    let t = le-ltb _ _ c.if-n-gt-TCP_PAYLOAD.false in
    let u = lt-ltb _ _ c.if-out-end.true in
    record { answer = simp (t, u); after = simp (t, u) }

pub returns : goal.returns
returns c =
    let a = c.args in
    let p : List ℕ = a.payload.now in
    let o : List ℕ = a.out.now in
    let n : ℕ = length p in
    let s : 0 + (40 + n) ≡ 40 + n = omega arith in
    let t = le-ltb _ _ c.if-n-gt-TCP_PAYLOAD.false in
    let u = le-ltb _ _ c.if-out-end.false in
    let first : List ℕ = tcp_packet (segment_of a.self a.side 0x18 a.frag_off) p in
    let then = ap₂ (λ (f : TcpFlow) (x : Side). tcp_packet (segment_of f x 0x10 0) []) c.tx-sent.ensures.0 c.other_side.ensures in
    let flow = c.tx-flow.ensures.0 ∙ ap₂ (λ (f : TcpFlow) (x : Side). after_one f (emit x 0x10 0 [])) c.tx-sent.ensures.0 c.other_side.ensures in
    let both = written_behind first _ _ o _ _ (40 + n) (tcp_size _ p) c.tx-sent.ensures.1 then c.tx-flow.ensures.1 in
    record { answer = simp (t, u, s, flow); after = simp (t, u, append-nil) both }

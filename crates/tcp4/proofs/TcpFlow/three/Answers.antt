-- Each packet stands behind those before it, and is built from the flow after them.
use Rattle.tcp4.specs.declared.TcpFlow.{TcpFlow}
use Rattle.tcp4.specs.declared.Side.{Side}
use Rattle.tcp4.specs.Tcp4.{segment_of, after_one, other, emit}
use Rattle.ezpkt.specs.Build.{tcp_packet}
use Rattle.ezpkt.proofs.Sizes.{tcp_size}
use Rattle.pkt.proofs.Written.{written_behind}
use Rattle.pkt.specs.Written.{written}
use Rattle.std.proofs.Common.{◌≡◌, ℕ, ◌+◌, List, [], ◌++◌, length, ap, ◌∙◌, ap₂, append_assoc, append-nil, length-append, le-ltb, lt-ltb}
use Rattle.tcp4.proofs.TcpFlow.three.Goals as goal

pub returns-then-out-lt120 : goal.returns-then-out-lt120
returns-then-out-lt120 c =
    let t = lt-ltb _ _ c.if-out-lt120.true in
    record { answer = simp t; after = simp t }

pub returns : goal.returns
returns c =
    let a = c.args in
    let o : List ℕ = a.out.now in
    let t = le-ltb _ _ c.if-out-lt120.false in
    let first : List ℕ = tcp_packet (segment_of a.self a.side a.first 0) [] in
    let flow-1 = c.tx-one.ensures.0 in
    let flow-2 = c.tx-two.ensures.0 ∙ ap₂ (λ (f : TcpFlow) (x : Side). after_one f (emit x a.second 0 [])) flow-1 c.other_side.ensures in
    let flow-3 = c.tx-flow.ensures.0 ∙ ap (λ (f : TcpFlow). after_one f (emit a.side 0x10 0 [])) flow-2 in
    let then = ap₂ (λ (f : TcpFlow) (x : Side). tcp_packet (segment_of f x a.second 0) []) flow-1 c.other_side.ensures in
    let last = ap (λ (f : TcpFlow). tcp_packet (segment_of f a.side 0x10 0) []) flow-2 in
    let second : List ℕ = tcp_packet (segment_of (after_one a.self (emit a.side a.first 0 [])) (other a.side) a.second 0) [] in
    let eighty : length (first ++ second) ≡ 80 = length-append first second ∙ ap₂ (λ (x y : ℕ). x + y) (tcp_size _ []) (tcp_size _ []) in
    let two = written_behind first _ second o _ _ 40 (tcp_size _ []) c.tx-one.ensures.1 then c.tx-two.ensures.1 in
    let all = written_behind (first ++ second) _ _ o _ _ 80 eighty two last c.tx-flow.ensures.1 in
    record { answer = simp (t, flow-3); after = simp (t, append-nil) (all ∙ ap (λ (l : List ℕ). written l o) (append_assoc first second _)) }

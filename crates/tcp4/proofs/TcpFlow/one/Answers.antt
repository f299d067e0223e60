-- The packet is written where the decision says that it fits.
use Rattle.std.proofs.Common.{◌≡◌, ℕ, ◌+◌, length, append-nil, arith, le-ltb, lt-ltb}
use Rattle.tcp4.proofs.TcpFlow.one.Goals as goal

pub returns-then-n-gt-TCP_PAYLOAD : goal.returns-then-n-gt-TCP_PAYLOAD
returns-then-n-gt-TCP_PAYLOAD c =
    let t = lt-ltb _ _ c.if-n-gt-TCP_PAYLOAD.true in
    record { answer = simp t; after = simp t }

pub returns-then-out-end : goal.returns-then-out-end
returns-then-out-end c =
    let n : ℕ = length c.args.payload.now in
    let z : 40 + n + 0 ≡ 40 + n = omega arith in
    let t = le-ltb _ _ c.if-n-gt-TCP_PAYLOAD.false in
    let u = lt-ltb _ _ c.if-out-end.true in
    record { answer = simp (t, z, u); after = simp (t, z, u) }

pub returns : goal.returns
returns c =
    let a = c.args in
    let n : ℕ = length a.payload.now in
    let z : 40 + n + 0 ≡ 40 + n = omega arith in
    let s : 0 + (40 + n) ≡ 40 + n = omega arith in
    let t = le-ltb _ _ c.if-n-gt-TCP_PAYLOAD.false in
    let u = le-ltb _ _ c.if-out-end.false in
    record {
      answer = simp (t, z, u, s, c.tx-flow.ensures.0);
      after = simp (t, z, u, append-nil) c.tx-flow.ensures.1;
    }

-- The slice's method fills the first n bytes, and the rest is as it was.
use Rattle.std.proofs.Common.{◌≡◌, length, take, arith}
use Rattle.std.proofs.lemmas.List.{length-take-le}
use lib.ListN.{length-replicate}
use Rattle.pkt.specs.Written.{written}
use Rattle.packet.proofs.put.fill.Goals as goal

pub returns : goal.returns
unfolding written
returns c =
    let a = c.args in
    let n : length (take a.n a.dst.now) ≡ a.n = length-take-le a.n a.dst.now (omega arith) in
    simp (c.fill.ensures.after (λ y e. e), n, length-replicate)

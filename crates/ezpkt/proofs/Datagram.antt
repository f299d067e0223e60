-- What a whole datagram is.
use Rattle.std.proofs.Common.{◌≡◌, ◌+◌, ◌-◌, ◌*◌, min, length, refl, arith, take_all, eq-eqb}
use Rattle.ezpkt.specs.Build.{piece_packet}
use Rattle.ezpkt.specs.Ip4.{DatagramWhole}

pub datagram_whole : DatagramWhole
unfolding piece_packet
datagram_whole t p =
    let s : min (8 * 0) (length p) ≡ 0 = omega arith in
    let e : min (8 * 0 + 8 * length p) (length p) ≡ length p = omega arith in
    let d : length p - 0 ≡ length p = omega arith in
    simp (s, e, d, eq-eqb (length p) (length p) refl, take_all (length p) p (omega arith))

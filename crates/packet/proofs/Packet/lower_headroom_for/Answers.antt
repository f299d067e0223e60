-- What is answered comes from the headroom, so the bytes have room there.
use mathlib.Core.Path.{sym}
use native.Mathlib.Omega.{arith}
use Rattle.packet.proofs.Headroom.{valid_true}
use Rattle.packet.proofs.Answers.{lower_fits}
use Rattle.packet.proofs.Packet.lower_headroom_for.Goals as goal

pub place-requires : goal.place-requires
place-requires c =
    let (v, k) = lower_fits _ _ _ _ (sym c.in_ok-grown.ensures) in
    omega (arith, valid_true _ _ v)

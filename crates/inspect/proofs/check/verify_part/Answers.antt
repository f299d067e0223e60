-- A checksum of so few bytes is not refused, and is 0 exactly if they verify behind the pseudo header.
use Rattle.pkt.specs.Rfc768.{pseudo}
use lib.ListN.{length}
use Prim.Native.Nat.{ℕ}
use mathlib.Core.List.{List, ◌++◌}
use mathlib.Core.Path.{◌∙◌}
use Rattle.inspect.proofs.Whole.{zero_sum, behind_pseudo_lem}
use Rattle.inspect.proofs.check.verify_part.Goals as goal

pub returns : goal.returns
returns c =
    let a = c.args in
    let d : List ℕ = a.part.now in
    let known = c.shared_slice_known-1.given in
    c.is_zero.ensures
    ∙ zero_sum c.transport_csum.result 65515 (length d) (pseudo a.h.saddr a.h.daddr a.protocol (length d) ++ d)
    (behind_pseudo_lem a.h.saddr a.h.daddr a.protocol (length d) d (λ i. (known i).fits))
    c.requires
    c.transport_csum.ensures

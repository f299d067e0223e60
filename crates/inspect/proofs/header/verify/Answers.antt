-- A checksum of so few bytes is not refused, and is 0 exactly if they verify.
use lib.ListN.{length}
use Prim.Native.Nat.{ℕ}
use mathlib.Core.List.{List}
use mathlib.Core.Path.{◌∙◌}
use Rattle.inspect.proofs.Whole.{zero_sum}
use Rattle.inspect.proofs.header.verify.Goals as goal

pub returns : goal.returns
returns c =
    let s : List ℕ = c.args.s.now in
    c.is_zero.ensures
    ∙ zero_sum c.ip_csum.result 65535 (length s) s (λ i. (c.shared_slice_known-1.given i).fits)
    c.requires c.ip_csum.ensures

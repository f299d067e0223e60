-- The checksum of a part as it stands behind its pseudo header, and its own field given back.
use Prim.Native.Nat.{ℕ, ◌<◌}
use mathlib.Core.List.{List, ◌++◌}
use mathlib.Core.Path.{◌∙◌}
use lib.ListN.{length}
use Rattle.pkt.specs.Fields.{Bytes}
use Rattle.pkt.specs.Rfc768.{pseudo}
use Rattle.pkt.specs.Rfc1071.{checksum}
use Rattle.pkt.proofs.Deciding.{summed_is}
use Rattle.mending.proofs.Summing.{without_behind}
use borrow.Author.Rules.{rules}
use Rattle.mending.proofs.sums.behind_pseudo.Goals as goal

pub returns : goal.returns
returns c =
    let a = c.args in
    let d : List ℕ = a.part.now in
    let all : List ℕ = pseudo a.h.saddr a.h.daddr a.protocol (length d) ++ d in
    let bytes : Bytes d = λ i. (c.shared_slice_known-1.given i).fits in
    let byte : a.protocol < 256 = search rules in
    let sum =
    c.unwrap_or-csum.ensures
    ∙ summed_is c.transport_csum.result 65515 (length d) (checksum all) c.transport_csum.ensures c.requires.few in
    c.without.ensures
    ∙ simp (sum, c.be16.ensures) (without_behind a.h.saddr a.h.daddr a.protocol a.at d byte c.requires bytes)

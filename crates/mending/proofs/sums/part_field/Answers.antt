-- By the kind: what is not refused has its fields within it, and each is worked out from the packet's own bytes.
use Prim.Native.Nat.{ℕ}
use native.Mathlib.Omega.{arith}
use mathlib.Core.List.{List}
use mathlib.Core.Path.{◌≡◌, ap, ◌∙◌}
use Rattle.pkt.specs.Answers.{gives}
use Rattle.inspect.specs.Answers.{whole}
use Rattle.inspect.specs.Check.{examine_answer}
use Rattle.inspect.specs.declared.header.IpRead.{IpRead}
use Rattle.inspect.specs.declared.check.Kind.{Kind}
use Rattle.inspect.specs.declared.check.Kind.TheVariants.{Icmp}
use Rattle.inspect.proofs.Reading.{framed}
use Rattle.mending.specs.Sums.{part_fields}
use Rattle.mending.proofs.Wholes.{Known, known, shape_long, data_most, part_asks, sum_within}
use Rattle.mending.proofs.sums.part_field.Goals as goal

-- what is known once the kind is
known_as : (l : List ℕ) (h : IpRead) {k j : Kind} → examine_answer l ≡ gives (whole h k) → k ≡ j → Known l h j
known_as l h {j = j} e s = known l h j (e ∙ ap (λ (i : Kind). gives (whole h i)) s)

pub behind_pseudo-requires : goal.behind_pseudo-requires
behind_pseudo-requires c =
    let l : List ℕ = c.args.packet.now in
    let h : IpRead = c.args.h in
    part_asks l h _ (known_as l h c.requires c.in-Tcp.is) (λ i. (c.shared_slice_known-1.given i).fits) _ (omega arith)

pub field-requires : goal.field-requires
field-requires c =
    let l : List ℕ = c.args.packet.now in
    let h : IpRead = c.args.h in
    let q = known_as l h c.requires c.in-Tcp.is in
    omega (arith, sum_within l h _ q, (framed l h q.frame).least)

pub behind_pseudo-requires-in-Udp : goal.behind_pseudo-requires-in-Udp
behind_pseudo-requires-in-Udp c =
    let l : List ℕ = c.args.packet.now in
    let h : IpRead = c.args.h in
    part_asks l h _ (known_as l h c.requires c.in-Udp.is) (λ i. (c.shared_slice_known-1.given i).fits) _ (omega arith)

pub field-requires-in-Udp : goal.field-requires-in-Udp
field-requires-in-Udp c =
    let l : List ℕ = c.args.packet.now in
    let h : IpRead = c.args.h in
    let q = known_as l h c.requires c.in-Udp.is in
    omega (arith, sum_within l h _ q, (framed l h q.frame).least)

pub icmp_sum-requires : goal.icmp_sum-requires
icmp_sum-requires c =
    let l : List ℕ = c.args.packet.now in
    let h : IpRead = c.args.h in
    let q = known_as l h c.requires c.in-Icmp.is in
    ((shape_long q.shape).0, data_most l h Icmp q (λ i. (c.shared_slice_known-1.given i).fits))

pub field-requires-in-Icmp : goal.field-requires-in-Icmp
field-requires-in-Icmp c =
    let l : List ℕ = c.args.packet.now in
    let h : IpRead = c.args.h in
    let q = known_as l h c.requires c.in-Icmp.is in
    omega (arith, sum_within l h _ q, (framed l h q.frame).least)

pub returns-in-Bare : goal.returns-in-Bare
unfolding part_fields
returns-in-Bare c = rw c.in-Bare.is

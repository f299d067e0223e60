-- By the tests in document 01's order.
use Prim.Native.Nat.{ℕ, ◌≤◌}
use native.Mathlib.Omega.{arith}
use mathlib.Core.Path.{sym, ◌∙◌}
use mathlib.Core.List.{List}
use lib.ListN.{length}
use borrow.Author.Tests.{lt-ltb, le-ltb}
use Rattle.inspect.specs.Header.{frame_answer}
use Rattle.inspect.specs.declared.header.IpRead.{IpRead}
use Rattle.inspect.proofs.Reading.{ipv4_least}
use Rattle.inspect.proofs.header.frame.Goals as goal

pub returns-then-n-lt20 : goal.returns-then-n-lt20
unfolding frame_answer
returns-then-n-lt20 c = simp (lt-ltb _ _ c.if-n-lt20.true)

pub returns-then-not_ipv4 : goal.returns-then-not_ipv4
unfolding frame_answer
returns-then-not_ipv4 c =
    let long = c.if-n-lt20.false in
    simp (le-ltb _ _ long, sym c.not_ipv4.ensures ∙ c.if-not_ipv4.true)

pub returns-then-h : goal.returns-then-h
unfolding frame_answer
returns-then-h c =
    let ipv4 = sym c.not_ipv4.ensures ∙ c.if-not_ipv4.false in
    let h : IpRead = c.fields-h.result in
    let least : 20 ≤ h.start = rw c.fields-h.ensures (ipv4_least _ ipv4).1 in
    simp (le-ltb _ _ c.if-n-lt20.false, ipv4, ← c.fields-h.ensures, lt-ltb h.end h.start (omega arith))

pub returns-then-n-h : goal.returns-then-n-h
unfolding frame_answer
returns-then-n-h c =
    let l : List ℕ = c.args.packet.now in
    let ipv4 = sym c.not_ipv4.ensures ∙ c.if-not_ipv4.false in
    let h : IpRead = c.fields-h.result in
    simp (
      le-ltb _ _ c.if-n-lt20.false,
      ipv4,
      ← c.fields-h.ensures,
      le-ltb h.end h.start (omega arith),
      lt-ltb (length l) h.end (omega arith),
    )

pub returns : goal.returns
unfolding frame_answer
returns c =
    let l : List ℕ = c.args.packet.now in
    let ipv4 = sym c.not_ipv4.ensures ∙ c.if-not_ipv4.false in
    let h : IpRead = c.fields-h.result in
    simp (
      le-ltb _ _ c.if-n-lt20.false,
      ipv4,
      ← c.fields-h.ensures,
      le-ltb h.end h.start (omega arith),
      le-ltb (length l) h.end (omega arith),
    )

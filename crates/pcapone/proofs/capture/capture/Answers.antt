-- The echo fits its buffer, so the packet stands at its start, and its capture is written.
use Rattle.pcapone.specs.Capture.{file_of}
use Rattle.pcapone.proofs.Output.{file_length, too_long, no_room}
use Rattle.pkt.specs.Written.{written}
use Rattle.pkt.specs.Answers.{gives}
use Rattle.ezpkt.specs.Icmp4.{new_icmp_flow, ping_of}
use Rattle.ezpkt.specs.Build.{answer_of}
use Rattle.ezpkt.proofs.Verifying.{packet_front}
use native.Mathlib.Omega.{arith}
use borrow.Author.Tests.{le-ltb}
use lib.ListN.{length, take, replicate}
use mathlib.Core.List.{List}
use Prim.Native.Nat.{ℕ, ◌+◌, ◌-◌}
use mathlib.Core.Path.{◌≡◌, ap, ◌∙◌}
use Rattle.pcapone.proofs.capture.capture.Goals as goal

pub returns-then-n-gt4096 : goal.returns-then-n-gt4096
returns-then-n-gt4096 c = search too_long

pub returns-then-out-size : goal.returns-then-out-size
returns-then-out-size c = search no_room

pub returns : goal.returns
returns c =
    let a = c.args in
    let p : List ℕ = a.input.now in
    let o : List ℕ = a.out.now in
    let n : ℕ = length p in
    let t = le-ltb _ _ c.if-n-gt4096.false in
    let u = le-ltb _ _ c.if-out-size.false in
    let s : 28 + n - 0 ≡ 28 + n = omega arith in
    let e = rw c.new.ensures at c.echo.ensures.after in
    let fits : answer_of (ping_of (new_icmp_flow 0x0a000001 0x0a000002)) n 4124 ≡ gives (28 + n) =
    simp (le-ltb 65507 n (omega arith), le-ltb 4124 (28 + n) (omega arith)) in
    let front = ap (λ (k : ℕ). take k c.echo.new.out) s ∙ packet_front (ping_of (new_icmp_flow 0x0a000001 0x0a000002)) p (replicate 4124 0) _ (28 + n) fits e in
    record { answer = simp (t, u, file_length p); after = simp (t, u) (c.put_file.ensures ∙ ap (λ (l : List ℕ). written (file_of l) o) front) }

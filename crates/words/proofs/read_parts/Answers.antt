-- An address is good where its five parts are.
use mathlib.Core.Path.{◌∙◌}
use Prim.Native.Nat.{◌+◌, ◌*◌}
use native.Mathlib.Omega.{arith}
use Rattle.std.specs.Prelude.{Some}
use Rattle.words.proofs.Reading.{and_fails, number_wrong, number_good, number_most}
use Rattle.words.proofs.read_parts.Goals as goal

pub returns-in_err-a : goal.returns-in_err-a
returns-in_err-a c = simp (c.from_residual.ensures, number_wrong _ _ _ _ c.read_number.ensures c.in_err-a.was)

pub returns-in_err-b : goal.returns-in_err-b
returns-in_err-b c = simp (c.from_residual-in_err-b.ensures, number_wrong _ _ _ _ c.read_number-2.ensures c.in_err-b.was, and_fails)

pub returns-in_err-c : goal.returns-in_err-c
returns-in_err-c c = simp (c.from_residual-in_err-c.ensures, number_wrong _ _ _ _ c.read_number-3.ensures c.in_err-c.was, and_fails)

pub returns-in_err-d : goal.returns-in_err-d
returns-in_err-d c = simp (c.from_residual-in_err-d.ensures, number_wrong _ _ _ _ c.read_number-4.ensures c.in_err-d.was, and_fails)

pub returns-in_err-port : goal.returns-in_err-port
returns-in_err-port c = simp (c.from_residual-in_err-port.ensures, number_wrong _ _ _ _ c.read_number-5.ensures c.in_err-port.was, and_fails)

pub ip_of-ip-requires : goal.ip_of-ip-requires
ip_of-ip-requires c =
    let m1 = number_most _ _ _ _ c.read_number.ensures _ c.in_ok-a.was in
    let m2 = number_most _ _ _ _ c.read_number-2.ensures _ c.in_ok-b.was in
    let m3 = number_most _ _ _ _ c.read_number-3.ensures _ c.in_ok-c.was in
    let m4 = number_most _ _ _ _ c.read_number-4.ensures _ c.in_ok-d.was in
    omega arith

pub returns : goal.returns
returns c =
    let g1 = number_good _ _ _ _ c.read_number.ensures _ c.in_ok-a.was in
    let g2 = number_good _ _ _ _ c.read_number-2.ensures _ c.in_ok-b.was in
    let g3 = number_good _ _ _ _ c.read_number-3.ensures _ c.in_ok-c.was in
    let g4 = number_good _ _ _ _ c.read_number-4.ensures _ c.in_ok-d.was in
    let g5 = number_good _ _ _ _ c.read_number-5.ensures _ c.in_ok-port.was in
    let ip = c.ip_of-ip.ensures ∙ (λ i. ((g1.1 i * 256 + g2.1 i) * 256 + g3.1 i) * 256 + g4.1 i) in
    simp (g1.0, g2.0, g3.0, g4.0, g5.0) (λ i. Some (record { ip = ip i; port = g5.1 i }))

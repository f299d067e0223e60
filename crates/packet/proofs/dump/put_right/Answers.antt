-- Each part is written into the rest of the output behind those before it.
use mathlib.Core.Path.{refl}
use Prim.Native.Nat.{ℕ, ◌+◌}
use native.Mathlib.Omega.{arith}
use mathlib.Core.List.{List, [], ◌∷◌, ◌++◌, map}
use lib.ListN.{length, length-map}
use Rattle.pkt.proofs.Written.{written_behind}
use Rattle.packet.specs.Dump.{space, newline, shown_of, right}
use Rattle.packet.proofs.dump.put_right.Goals as goal

pub returns : goal.returns
unfolding right
returns c =
    let a = c.args in
    let b : List ℕ = a.l.now in
    let o : List ℕ = a.out.now in
    let chars : List ℕ = (space ∷ []) ++ map shown_of b in
    let two = written_behind (space ∷ []) _ (map shown_of b) o _ _ 1 refl c.fill.ensures refl c.put_chars.ensures in
    written_behind chars _ (newline ∷ []) o _ _ (1 + length b) (omega (arith, length-map b shown_of)) two refl c.fill-2.ensures

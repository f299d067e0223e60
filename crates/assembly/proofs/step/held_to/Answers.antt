-- The blocks below a known total are looked at, and no total is not held.
use Prim.Native.Nat.{ℕ, ◌*◌}
use lib.ListN.{length}
use mathlib.Core.Path.{sym, ap, ◌∙◌}
use native.Mathlib.Omega.{arith}
use Rattle.std.specs.Prelude.{Option}
use Rattle.assembly.proofs.Steps.{fits_at}
use Rattle.assembly.specs.Assembly.{held_to}
use Rattle.assembly.specs.Map.{marked}
use Rattle.assembly.proofs.step.held_to.Goals as goal

pub all_marked-requires : goal.all_marked-requires
all_marked-requires c =
    let a = c.args in
    omega (arith, c.blocks-in-Some.ensures, fits_at (64 * length a.map.now) a.total _ c.requires c.in-Some.is)

pub returns-in-Some : goal.returns-in-Some
unfolding held_to
returns-in-Some c =
    c.all_marked.ensures
    ∙ ap (λ (n : ℕ). marked c.args.map.now n) c.blocks-in-Some.ensures
    ∙ sym (ap (λ (o : Option ℕ). held_to c.args.map.now o) c.in-Some.is)

pub returns-in-None : goal.returns-in-None
unfolding held_to
returns-in-None c = cc

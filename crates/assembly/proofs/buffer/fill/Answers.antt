-- The slice's method fills the part, which is the value stored there.
use Rattle.assembly.proofs.Bytes.{filled}
use Rattle.assembly.proofs.buffer.fill.Goals as goal

pub returns : goal.returns
returns c =
    let a = c.args in
    filled a.b.now _ a.from a.to a.v c.requires.from_le_to c.requires.to_in_bounds (c.fill.ensures.after (λ y e. e))

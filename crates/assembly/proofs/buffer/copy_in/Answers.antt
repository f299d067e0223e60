-- The copy onto the part from `at` on is the data stored there.
use Rattle.assembly.proofs.Bytes.{copied}
use Rattle.assembly.proofs.buffer.copy_in.Goals as goal

pub returns : goal.returns
returns c = let a = c.args in copied a.payload.now a.body.now _ a.at c.requires c.copy.ensures

-- Keys are equal where their four fields are.
use Rattle.assembly.proofs.Carrying.{fields_equal}
use Rattle.assembly.proofs.carried.same_key.Goals as goal

pub returns : goal.returns
returns c = search fields_equal

-- 8, or the header.
use Rattle.assembly.proofs.Carrying.{same_key_given, other_key_eight}
use Rattle.assembly.proofs.carried.keyed.Goals as goal

pub returns-then-same_key : goal.returns-then-same_key
returns-then-same_key c = search same_key_given

pub returns : goal.returns
returns c = search other_key_eight

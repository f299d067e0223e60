use Rattle.words.proofs.Texts.{plain_short, plain_long}
use Rattle.words.proofs.is_plain.Goals as goal

pub returns-then-n-lt2 : goal.returns-then-n-lt2
returns-then-n-lt2 c = search plain_short

pub returns : goal.returns
returns c = search plain_long

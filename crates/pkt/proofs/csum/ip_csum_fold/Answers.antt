-- A 16-bit sum is what it folds to.
use Rattle.std.proofs.Common.{ℕ, ◌-◌, sym, ap, rules}
use Rattle.pkt.proofs.Checksum.{canon_small}
use Rattle.pkt.proofs.csum.ip_csum_fold.Goals as goal

pub returns : goal.returns
returns c = ap (λ (k : ℕ). 65535 - k) (sym (canon_small c.args.running (search rules)))

-- The fold of the bytes' sum is their checksum.
use Rattle.std.proofs.Common.{length, arith, le-ltb, lt-ltb}
use Rattle.pkt.proofs.Checksum.{checksum_total}
use Rattle.pkt.proofs.ipv4.ip_csum.Goals as goal

pub returns-then-buf-gt-BYTES : goal.returns-then-buf-gt-BYTES
returns-then-buf-gt-BYTES c = simp (lt-ltb 65535 (length c.args.buf.now) (omega arith))

pub returns : goal.returns
returns c =
    let known = c.shared_slice_known-1.given in
    simp (le-ltb 65535 (length c.args.buf.now) (omega (arith, c.if-buf-gt-BYTES.false)))
    (cc (checksum_total c.args.buf.now (λ i. (known i).fits)))

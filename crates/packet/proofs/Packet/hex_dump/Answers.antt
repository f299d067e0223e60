-- A valid record has a dump whose length is known, and it is written where it has room.
use mathlib.Core.Path.{sym, ◌∙◌}
use native.Mathlib.Omega.{arith}
use lib.ListN.{length}
use borrow.Author.Tests.{lt-ltb, le-ltb}
use Rattle.packet.proofs.Headroom.{valid_true}
use Rattle.packet.specs.Dump.{dump_of}
use Rattle.packet.proofs.HexDump.{packet_length, packet_dump_length}
use Rattle.packet.proofs.Packet.hex_dump.Goals as goal

pub returns-then-not-is_valid : goal.returns-then-not-is_valid
returns-then-not-is_valid c =
    let v = sym c.is_valid.ensures ∙ c.if-not-is_valid.true in
    record { answer = simp v; after = simp v }

pub overflow_sub-to : goal.overflow_sub-to
overflow_sub-to c = omega (arith, valid_true _ _ (sym c.is_valid.ensures ∙ c.if-not-is_valid.false))

pub size-size-requires : goal.size-size-requires
size-size-requires c = omega (arith, valid_true _ _ (sym c.is_valid.ensures ∙ c.if-not-is_valid.false))

pub returns-then-out-size : goal.returns-then-out-size
returns-then-out-size c =
    let a = c.args in
    let v = sym c.is_valid.ensures ∙ c.if-not-is_valid.false in
    let e = c.size-size.ensures ∙ sym (packet_dump_length a.self a.buf.now v) in
    let t = lt-ltb (length a.out.now) (length (dump_of a.self a.buf.now)) (omega arith) in
    record { answer = simp (v, t); after = simp (v, t) }

pub slice_bounds-put_dump-count : goal.slice_bounds-put_dump-count
slice_bounds-put_dump-count c = omega (arith, valid_true _ _ (sym c.is_valid.ensures ∙ c.if-not-is_valid.false))

pub slice_bounds-put_dump-start : goal.slice_bounds-put_dump-start
slice_bounds-put_dump-start c = omega (arith, valid_true _ _ (sym c.is_valid.ensures ∙ c.if-not-is_valid.false))

pub slice_bounds-put_dump-end : goal.slice_bounds-put_dump-end
slice_bounds-put_dump-end c = omega (arith, valid_true _ _ (sym c.is_valid.ensures ∙ c.if-not-is_valid.false))

pub put_dump-requires : goal.put_dump-requires
put_dump-requires c =
    let a = c.args in
    let v = sym c.is_valid.ensures ∙ c.if-not-is_valid.false in
    rw (packet_length a.self a.buf.now v) (omega (arith, valid_true _ _ v))

pub returns : goal.returns
returns c =
    let a = c.args in
    let v = sym c.is_valid.ensures ∙ c.if-not-is_valid.false in
    let e = c.size-size.ensures ∙ sym (packet_dump_length a.self a.buf.now v) in
    let t = le-ltb (length a.out.now) (length (dump_of a.self a.buf.now)) (omega arith) in
    record { answer = simp (v, t, e); after = simp (v, t) c.put_dump.ensures }

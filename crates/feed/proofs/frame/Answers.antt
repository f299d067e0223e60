-- Where nothing is refused, the datagram's payload is cut into the output, piece by piece.
use Rattle.std.proofs.Common.{◌≡◌, ℕ, ◌+◌, ◌-◌, ◌*◌, ◌≤◌, List, length, take, drop, sym, ap, ◌∙◌, subst, arith, rules}
use Rattle.pkt.specs.Answers.{Answer, gives, mapped}
use Rattle.pkt.specs.Written.{written, leaves}
use Rattle.ezpkt.specs.Build.{udp_packet}
use Rattle.std.proofs.lemmas.Result.{err_from_is_err_and}
use Rattle.pcap.specs.Pcap.{records_bytes}
use Rattle.feed.specs.declared.Feed.{Feed}
use Rattle.planner.specs.Cutting.{blocks_in, piece_count}
use Rattle.feed.specs.Feed.{frame_dgram, payload_of, frame_records, pieces_for, feed_answer, written_for}
use Rattle.feed.specs.Steps.{records_from}
use Rattle.planner.proofs.Counting.{count_some, begins_within}
use Rattle.feed.proofs.Feeding.{granted, payload_length, payload_lent}
use Rattle.feed.proofs.frame.Goals as goal

pub overflow_add-n : goal.overflow_add-n
overflow_add-n c =
    let a = c.args in
    let n : ℕ = length a.bytes.now in
    let t = granted a.feed.link n a.usec (length a.scratch.now) (length a.out.now) c.in_ok-size.size c.in_ok-size.ensures in
    let few = t.few in
    search rules

pub overflow_sub-blocks : goal.overflow_sub-blocks
overflow_sub-blocks c =
    let a = c.args in
    let n : ℕ = length a.bytes.now in
    let t = granted a.feed.link n a.usec (length a.scratch.now) (length a.out.now) c.in_ok-size.size c.in_ok-size.ensures in
    omega (arith, t.least)

pub overflow_cast-blocks : goal.overflow_cast-blocks
overflow_cast-blocks c =
    let a = c.args in
    let n : ℕ = length a.bytes.now in
    let t = granted a.feed.link n a.usec (length a.scratch.now) (length a.out.now) c.in_ok-size.size c.in_ok-size.ensures in
    let most = t.most in
    search rules

pub datagram-requires : goal.datagram-requires
datagram-requires c =
    let a = c.args in
    let n : ℕ = length a.bytes.now in
    let t = granted a.feed.link n a.usec (length a.scratch.now) (length a.out.now) c.in_ok-size.size c.in_ok-size.ensures in
    (t.few, t.scratch_room)

pub overflow_add-n-2 : goal.overflow_add-n-2
overflow_add-n-2 c =
    let a = c.args in
    let n : ℕ = length a.bytes.now in
    let t = granted a.feed.link n a.usec (length a.scratch.now) (length a.out.now) c.in_ok-size.size c.in_ok-size.ensures in
    let few = t.few in
    search rules

pub slice_bounds-put_all-start : goal.slice_bounds-put_all-start
slice_bounds-put_all-start c =
    let a = c.args in
    let n : ℕ = length a.bytes.now in
    let t = granted a.feed.link n a.usec (length a.scratch.now) (length a.out.now) c.in_ok-size.size c.in_ok-size.ensures in
    let few = t.scratch_room in
    omega (arith, c.datagram.auto.scratch)

pub slice_bounds-put_all-end : goal.slice_bounds-put_all-end
slice_bounds-put_all-end c =
    let a = c.args in
    let n : ℕ = length a.bytes.now in
    let t = granted a.feed.link n a.usec (length a.scratch.now) (length a.out.now) c.in_ok-size.size c.in_ok-size.ensures in
    let few = t.scratch_room in
    omega (arith, c.datagram.auto.scratch)

pub put_all-requires : goal.put_all-requires
put_all-requires c =
    let a = c.args in
    let n : ℕ = length a.bytes.now in
    let t = granted a.feed.link n a.usec (length a.scratch.now) (length a.out.now) c.in_ok-size.size c.in_ok-size.ensures in
    let k : ℕ = 28 + n - 20 in
    let ce = c.count-pieces.ensures in
    let pl : length (take k (drop 20 c.datagram.new.scratch)) ≡ 8 + n =
    ap (λ (l : List ℕ). length (take k (drop 20 l))) c.datagram.ensures
    ∙ ap length (payload_lent a.feed a.bytes.now a.scratch.now k (omega arith)) ∙ payload_length a.feed a.bytes.now in
    let w = begins_within (8 + n) a.feed.link in
    record {
      few = omega (arith, pl, t.few);
      some = omega (arith, t.least);
      most = omega (arith, t.most);
      some_piece = omega (arith, ce, count_some (8 + n) a.feed.link);
      within =
          subst (λ (x : ℕ). (x - 1) * (8 * blocks_in a.feed.link) ≤ length (take k (drop 20 c.datagram.new.scratch))) (sym ce)
          (subst (λ (y : ℕ). (pieces_for a.feed.link n - 1) * (8 * blocks_in a.feed.link) ≤ y) (sym pl) w);
      has_room = omega (arith, pl, ce, t.out_room);
    }

pub returns-in_err-size : goal.returns-in_err-size
returns-in_err-size c =
    let a = c.args in
    let p = err_from_is_err_and c.from_residual.result c.from_residual.ensures.1 in
    let e = c.in_err-size.ensures in
    record {
      answer = rw (p.1, p.2) (ap (mapped (written_for a.feed (length a.bytes.now))) e);
      output_is = ap (λ (x : Answer ℕ). leaves x (records_bytes (frame_records a.feed a.bytes.now a.sec a.usec)) a.out.now) e;
      scratch_is = ap (λ (x : Answer ℕ). leaves x (udp_packet (frame_dgram a.feed) a.bytes.now) a.scratch.now) e;
    }

pub returns : goal.returns
returns c =
    let a = c.args in
    let f : Feed = a.feed in
    let b : List ℕ = a.bytes.now in
    let n : ℕ = length b in
    let k : ℕ = 28 + n - 20 in
    let size : ℕ = c.in_ok-size.size in
    let e : gives size ≡ feed_answer f.link n a.usec (length a.scratch.now) (length a.out.now) = c.in_ok-size.ensures in
    let p : take k (drop 20 c.datagram.new.scratch) ≡ payload_of f b =
    ap (λ (l : List ℕ). take k (drop 20 l)) c.datagram.ensures ∙ payload_lent f b a.scratch.now k (omega arith) in
    let ce : c.count-pieces.result ≡ piece_count (length (payload_of f b)) f.link =
    c.count-pieces.ensures ∙ ap (λ (x : ℕ). piece_count x f.link) (sym (payload_length f b)) in
    record {
      answer =
          (λ i. gives (record { feed = c.next.ensures i; bytes = size; pieces = c.count-pieces.ensures i }))
          ∙ ap (mapped (written_for f n)) e;
      output_is =
          c.put_all.ensures
          ∙ (λ i. written (records_from (c.template.ensures i) (p i) (blocks_in f.link) (ce i) 0 a.sec a.usec) a.out.now)
          ∙ ap (λ (x : Answer ℕ). leaves x (records_bytes (frame_records f b a.sec a.usec)) a.out.now) e;
      scratch_is =
          c.datagram.ensures ∙ ap (λ (x : Answer ℕ). leaves x (udp_packet (frame_dgram f) b) a.scratch.now) e;
    }

-- What a frame's answer tells, and the payload that its datagram has behind the IPv4 header.
use Rattle.std.proofs.Common.{◌≡◌, ℕ, ◌+◌, ◌≤◌, false, ltb, List, ◌++◌, length, take, drop, sym, ap, ◌∙◌, append_assoc, length-append, take_at, drop_at, ltb-false}
use Rattle.pkt.specs.Answers.{gives}
use Rattle.pkt.specs.Written.{written}
use Rattle.pkt.specs.Rfc791.{ip_header}
use Rattle.pkt.specs.Rfc768.{udp_header, udp_checksum}
use Rattle.pkt.specs.declared.ipv4.udp_hdr.{udp_hdr}
use Rattle.pkt.proofs.Choice.{or_no}
use Rattle.pkt.proofs.Deciding.{past}
use Rattle.pkt.proofs.Headers.{ip_length, udp_length}
use Rattle.ezpkt.specs.Build.{flow_ip, udp_hdr_of, udp_packet}
use Rattle.pcap.specs.Answers.{most_micros}
use Rattle.feed.specs.declared.Feed.{Feed}
use Rattle.feed.specs.Feed.{bad_link, frame_dgram, payload_of, frame_size, feed_answer}

-- a link that 24 does not refuse
pub link_good : (m : ℕ) → bad_link m ≡ false → (28 ≤ m) × (m ≤ 65535)
link_good m e = let p = or_no (ltb m 28) (ltb 65535 m) e in (ltb-false m 28 p.0, ltb-false 65535 m p.1)

-- nothing is refused
pub record Granted (m n usec scratch out size : ℕ) : Type 0 where
  pub few : n ≤ 65507
  pub good : bad_link m ≡ false
  pub least : 28 ≤ m
  pub most : m ≤ 65535
  pub micros : usec ≤ most_micros
  pub scratch_room : 28 + n ≤ scratch
  pub out_room : frame_size m n ≤ out
  pub is_size : frame_size m n ≡ size

pub granted : (m n usec scratch out size : ℕ) → gives size ≡ feed_answer m n usec scratch out → Granted m n usec scratch out size
granted m n usec scratch out size e =
    let a = past (ltb 65507 n) 1 _ size (sym e) in
    let b = past (bad_link m) 24 _ size a.1 in
    let c = past (ltb most_micros usec) 17 _ size b.1 in
    let d = past _ 3 _ size c.1 in
    let g = link_good m b.0 in
    let r = or_no (ltb scratch (28 + n)) (ltb out (frame_size m n)) d.0 in
    record {
      few = ltb-false 65507 n a.0;
      good = b.0;
      least = g.0;
      most = g.1;
      micros = ltb-false most_micros usec c.0;
      scratch_room = ltb-false scratch (28 + n) r.0;
      out_room = ltb-false out (frame_size m n) r.1;
      is_size = cc d.1;
    }

pub payload_length : (f : Feed) (b : List ℕ) → length (payload_of f b) ≡ 8 + length b
unfolding payload_of
payload_length f b = length-append (udp_header (udp_hdr_of (frame_dgram f) (length b)) _) b ∙ ap (λ (k : ℕ). k + length b) (udp_length _ _)

-- the datagram in the scratch buffer, from behind its IPv4 header to its end
pub payload_lent : (f : Feed) (b s : List ℕ) (k : ℕ) → k ≡ 8 + length b → take k (drop 20 (written (udp_packet (frame_dgram f) b) s)) ≡ payload_of f b
unfolding udp_packet written payload_of
payload_lent f b s k e =
    let ip : List ℕ = ip_header (flow_ip f.marks 17 (28 + length b) 0 f.car.ip f.core.ip) in
    let h : udp_hdr = udp_hdr_of (frame_dgram f) (length b) in
    let udp : List ℕ = udp_header h (udp_checksum f.car.ip f.core.ip h b) ++ b in
    let rest : List ℕ = drop (length (ip ++ udp)) s in
    ap (λ (l : List ℕ). take k (drop 20 l)) (append_assoc ip udp rest)
    ∙ ap (take k) (drop_at ip (udp ++ rest) 20 (ip_length _))
    ∙ take_at udp rest k (payload_length f b ∙ sym e)

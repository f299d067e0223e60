-- Fields of the encoded headers, read back by the one law for fields of every width.
use mathlib.Core.Path.{◌≡◌, ap, ◌∙◌}
use Prim.Native.Nat.{ℕ, ◌+◌}
use native.Mathlib.Omega.{arith}
use mathlib.Core.List.{List, [], ◌++◌}
use lib.ListN.{length, take, drop, length-append}
use borrow.Author.Tests.{le-ltb, eq-eqb}
use Rattle.pkt.specs.Fields.{field, widths}
use Rattle.pkt.specs.Rfc1071.{checksum}
use Rattle.pkt.specs.Rfc791.{ip_fields, ip_bytes, ip_header}
use Rattle.pkt.specs.Rfc768.{udp_fields, udp_header}
use Rattle.pkt.specs.Rfc792.{echo_fields, echo_header}
use Rattle.pkt.specs.Rfc9293.{tcp_fields, tcp_header}
use Rattle.pkt.specs.declared.ipv4.tcp_hdr.{tcp_hdr}
use Rattle.pkt.proofs.Checksum.{checksum_most}
use Rattle.pkt.proofs.Fields.{field_at_lem}
use Rattle.pkt.proofs.Headers.{tcp_length}
use Rattle.inspect.specs.Header.{field_at}
use Rattle.inspect.specs.Tcp.{tcp_of}
use Rattle.inspect.specs.Encoded.{SumsStand, TcpBack}

pub sums_stand : SumsStand
unfolding field_at ip_header ip_bytes tcp_header udp_header echo_header widths
sums_stand =
    record {
      ip = λ h rest.
          let c : ℕ = checksum (ip_bytes h 0) in
          field_at_lem (take 7 (ip_fields h c)) (field 2 c) (drop 8 (ip_fields h c)) rest ∙ omega (arith, checksum_most (ip_bytes h 0));
      tcp = λ h c rest most. field_at_lem (take 7 (tcp_fields h c)) (field 2 c) (drop 8 (tcp_fields h c)) rest ∙ omega arith;
      udp = λ h c rest most. field_at_lem (take 3 (udp_fields h c)) (field 2 c) [] rest ∙ omega arith;
      echo = λ h e c rest most. field_at_lem (take 2 (echo_fields h e c)) (field 2 c) (drop 3 (echo_fields h e c)) rest ∙ omega arith;
    }

pub tcp_offset : (t : tcp_hdr) (c : ℕ) (p : List ℕ) → field_at (tcp_header t c ++ p) 12 1 ≡ 0x50
unfolding field_at tcp_header widths
tcp_offset t c p = field_at_lem (take 4 (tcp_fields t c)) (field 1 0x50) (drop 5 (tcp_fields t c)) p

pub tcp_back : TcpBack
unfolding field_at tcp_header widths tcp_of
tcp_back h c rest fit =
    let d : List ℕ = tcp_header h c ++ rest in
    let size : length d ≡ 20 + length rest = length-append (tcp_header h c) rest ∙ ap (λ (n : ℕ). n + length rest) (tcp_length h c) in
    let long = le-ltb (length d) 20 (omega arith) in
    let offset = eq-eqb (field_at d 12 1) 0x50 (tcp_offset h c rest) in
    let sport : field_at d 0 2 ≡ h.sport = field_at_lem [] (field 2 h.sport) (drop 1 (tcp_fields h c)) rest ∙ omega (arith, fit.sport) in
    let dport : field_at d 2 2 ≡ h.dport = field_at_lem (take 1 (tcp_fields h c)) (field 2 h.dport) (drop 2 (tcp_fields h c)) rest ∙ omega (arith, fit.dport) in
    let seq : field_at d 4 4 ≡ h.seq = field_at_lem (take 2 (tcp_fields h c)) (field 4 h.seq) (drop 3 (tcp_fields h c)) rest ∙ omega (arith, fit.seq) in
    let ack : field_at d 8 4 ≡ h.ack = field_at_lem (take 3 (tcp_fields h c)) (field 4 h.ack) (drop 4 (tcp_fields h c)) rest ∙ omega (arith, fit.ack) in
    let flags : field_at d 13 1 ≡ h.flags = field_at_lem (take 5 (tcp_fields h c)) (field 1 h.flags) (drop 6 (tcp_fields h c)) rest ∙ omega (arith, fit.flags) in
    simp (long, offset, sport, dport, seq, ack, flags)

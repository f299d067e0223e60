-- What reading owes headers that were encoded.
use Rattle.std.specs.Prelude.{◌≡◌, List, ◌++◌, ℕ, ◌%◌, ◌≤◌, ◌<◌}
use Rattle.pkt.specs.Answers.{gives}
use Rattle.pkt.specs.Rfc1071.{checksum}
use Rattle.pkt.specs.Rfc791.{ip_bytes, ip_header, ip_sum_at}
use Rattle.pkt.specs.Rfc768.{udp_header, udp_sum_at}
use Rattle.pkt.specs.Rfc792.{echo_header, echo_sum_at}
use Rattle.pkt.specs.Rfc9293.{tcp_header, tcp_sum_at}
use Rattle.pkt.specs.declared.ipv4.tcp_hdr.{tcp_hdr}
use Rattle.pkt.specs.declared.ipv4.udp_hdr.{udp_hdr}
use Rattle.pkt.specs.declared.ipv4.icmp_hdr.{icmp_hdr}
use Rattle.pkt.specs.declared.ipv4.icmp_echo_hdr.{icmp_echo_hdr}
use Rattle.pkt.specs.declared.ipv4.ip_hdr.{ip_hdr}
use Rattle.inspect.specs.Header.{has_bit, field_at}
use Rattle.inspect.specs.Tcp.{tcp_read_answer}
use Rattle.inspect.specs.declared.header.IpRead.{IpRead}

-- its fields, the bits and the offset out of the 16-bit field, and where its data is
unfoldable pub read_of : ip_hdr → IpRead
read_of h =
    record {
      tos = h.tos;
      tot_len = h.tot_len;
      id = h.id;
      evil = has_bit 0x8000 h.frag_off;
      df = has_bit 0x4000 h.frag_off;
      mf = has_bit 0x2000 h.frag_off;
      off = h.frag_off % 0x2000;
      ttl = h.ttl;
      protocol = h.protocol;
      saddr = h.saddr;
      daddr = h.daddr;
      start = 20;
      end = h.tot_len;
    }

-- The numbers of an IPv4 header fit their fields, as those of the code's types do.
pub record IpFit (h : ip_hdr) : Type 0 where
  pub tos : h.tos < 256
  pub total : h.tot_len < 65536
  pub id : h.id < 65536
  pub frag : h.frag_off < 65536
  pub ttl : h.ttl < 256
  pub protocol : h.protocol < 256
  pub saddr : h.saddr < 4294967296
  pub daddr : h.daddr < 4294967296

-- The checksum that is put into a header stands at its place there.
pub record SumsStand : Type 0 where
  pub ip : (h : ip_hdr) (rest : List ℕ) → field_at (ip_header h ++ rest) ip_sum_at 2 ≡ checksum (ip_bytes h 0)
  pub tcp : (h : tcp_hdr) (c : ℕ) (rest : List ℕ) → c ≤ 65535 → field_at (tcp_header h c ++ rest) tcp_sum_at 2 ≡ c
  pub udp : (h : udp_hdr) (c : ℕ) (rest : List ℕ) → c ≤ 65535 → field_at (udp_header h c ++ rest) udp_sum_at 2 ≡ c
  pub echo : (h : icmp_hdr) (e : icmp_echo_hdr) (c : ℕ) (rest : List ℕ) → c ≤ 65535 → field_at (echo_header h e c ++ rest) echo_sum_at 2 ≡ c

-- So do those of a TCP header.
pub record TcpFit (h : tcp_hdr) : Type 0 where
  pub sport : h.sport < 65536
  pub dport : h.dport < 65536
  pub seq : h.seq < 4294967296
  pub ack : h.ack < 4294967296
  pub flags : h.flags < 256

-- An encoded TCP header is read back, whatever stands behind it.
abbrev pub TcpBack : Type 0
TcpBack = (h : tcp_hdr) (c : ℕ) (rest : List ℕ) → TcpFit h → tcp_read_answer (tcp_header h c ++ rest) ≡ gives h

-- Document 02, T-13: "What a single wrong word can do."
use Rattle.std.specs.Prelude.{◌≡◌, ◌⊎◌, ◌↔◌, List, ℕ, ◌+◌, ◌-◌, ◌%◌, ◌≤◌, ◌<◌, length, get_or, set}
use Rattle.pkt.specs.Answers.{refused, gives}
use Rattle.pkt.specs.Rfc768.{udp_sum_at}
use Rattle.ezpkt.specs.Build.{packet_of}
use Rattle.ezpkt.specs.declared.build.TcpSegment.{TcpSegment}
use Rattle.ezpkt.specs.declared.build.UdpDatagram.{UdpDatagram}
use Rattle.ezpkt.specs.declared.build.IcmpEcho.{IcmpEcho}
use Rattle.ezpkt.specs.declared.build.Request.{Request}
use Rattle.ezpkt.specs.declared.build.Request.TheVariants.{Tcp, Udp, Echo}
use Rattle.inspect.specs.declared.check.Verdict.TheVariants.{Good, NoChecksum}
use Rattle.inspect.specs.Header.{field_at, read_answer}
use Rattle.inspect.specs.Check.{check_answer}
use Rattle.inspect.specs.declared.header.IpRead.{IpRead}
use Rattle.mending.specs.Sums.{renewed}
use Rattle.demands.specs.Mending.{Asked, Whole}

-- "change one of its big-endian 16-bit words .. to another number": the word of l at an even place i, to x. The packet is then `renewed i x l`: its
-- bytes i and i + 1 are those of x, and all others are as they were.
pub record WordChange (l : List ℕ) (i x : ℕ) : Type 0 where
  pub even : i % 2 ≡ 0
  pub within : i + 2 ≤ length l
  pub number : x < 65536
  pub another : field_at l i 2 ≡ x → ⊥

-- ".. or the odd last byte": of l, to b. The packet is then `set l (length l - 1) b`.
pub record LastChange (l : List ℕ) (b : ℕ) : Type 0 where
  pub odd : length l % 2 ≡ 1
  pub number : b < 256
  pub another : get_or l (length l - 1) 0 ≡ b → ⊥

-- "that word went from 0000 to ffff or from ffff to 0000"
abbrev pub Turned : ℕ → ℕ → Type 0
Turned w x = ((w ≡ 0) × (x ≡ 65535)) ⊎ ((w ≡ 65535) × (x ≡ 0))

-- behind the 20 bytes of an IPv4 header
abbrev pub behind_ip : ℕ
behind_ip = 20

-- A word of the transport part is changed: "The check then still answers good only if" it turned; and if it did, it does.
abbrev pub GoodIfTurned : List ℕ → ℕ → ℕ → Type 0
GoodIfTurned l i x = (check_answer (renewed i x l) ≡ gives Good) ↔ Turned (field_at l i 2) x

-- The odd last byte is changed: it stands for a word whose low byte is 0, and is always seen.
abbrev pub LastSeen : List ℕ → ℕ → Type 0
LastSeen l b = check_answer (set l (length l - 1) b) ≡ refused 15

pub record WrongWords : Type 0 where
  -- "take any TCP segment we build with offset 0, MF and the reserved bit clear", of any flow, with any TOS and TTL
  pub tcp : (t : TcpSegment) (p : List ℕ) → Asked (Tcp t) p → Whole (Tcp t) → (i x : ℕ) → behind_ip ≤ i
      → WordChange (packet_of (Tcp t) p) i x → GoodIfTurned (packet_of (Tcp t) p) i x
  pub tcp_last : (t : TcpSegment) (p : List ℕ) → Asked (Tcp t) p → Whole (Tcp t) → (b : ℕ)
      → LastChange (packet_of (Tcp t) p) b → LastSeen (packet_of (Tcp t) p) b
  -- A UDP datagram: every word but the checksum's,
  pub udp : (u : UdpDatagram) (p : List ℕ) → Asked (Udp u) p → Whole (Udp u) → (i x : ℕ) → behind_ip ≤ i → (i ≡ behind_ip + udp_sum_at → ⊥)
      → WordChange (packet_of (Udp u) p) i x → GoodIfTurned (packet_of (Udp u) p) i x
  -- .. which is always seen, unless it becomes 0: that is read as none.
  pub udp_sum : (u : UdpDatagram) (p : List ℕ) → Asked (Udp u) p → Whole (Udp u) → (x : ℕ) → WordChange (packet_of (Udp u) p) (behind_ip + udp_sum_at) x
      → (x ≡ 0 → ⊥) → check_answer (renewed (behind_ip + udp_sum_at) x (packet_of (Udp u) p)) ≡ refused 15
  pub udp_none : (u : UdpDatagram) (p : List ℕ) → Asked (Udp u) p → Whole (Udp u)
      → check_answer (renewed (behind_ip + udp_sum_at) 0 (packet_of (Udp u) p)) ≡ gives NoChecksum
  pub udp_last : (u : UdpDatagram) (p : List ℕ) → Asked (Udp u) p → Whole (Udp u) → (b : ℕ)
      → LastChange (packet_of (Udp u) p) b → LastSeen (packet_of (Udp u) p) b
  -- an ICMP echo
  pub echo : (e : IcmpEcho) (p : List ℕ) → Asked (Echo e) p → (i x : ℕ) → behind_ip ≤ i
      → WordChange (packet_of (Echo e) p) i x → GoodIfTurned (packet_of (Echo e) p) i x
  pub echo_last : (e : IcmpEcho) (p : List ℕ) → Asked (Echo e) p → (b : ℕ) → LastChange (packet_of (Echo e) p) b → LastSeen (packet_of (Echo e) p) b
  -- the IPv4 header of anything that is built: where its first byte, which says how long it is, stays, a header that is read turned one word, and one
  -- that turned one is not refused by 7.
  pub header_read : (q : Request) (p : List ℕ) → Asked q p → (i x : ℕ) (h : IpRead) → i < behind_ip → WordChange (packet_of q p) i x
      → field_at (renewed i x (packet_of q p)) 0 1 ≡ 0x45 → read_answer (renewed i x (packet_of q p)) ≡ gives h → Turned (field_at (packet_of q p) i 2) x
  pub header_turned : (q : Request) (p : List ℕ) → Asked q p → (i x : ℕ) → i < behind_ip → WordChange (packet_of q p) i x
      → Turned (field_at (packet_of q p) i 2) x → read_answer (renewed i x (packet_of q p)) ≡ refused 7 → ⊥

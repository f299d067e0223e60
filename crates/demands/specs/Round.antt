-- Build, cut, assemble, check: a packet that is built, whose IPv4 payload is cut, is put together again and checked.
use Rattle.std.specs.Prelude.{◌≡◌, List, ℕ, take, drop, Ok}
use Rattle.pkt.specs.Answers.{gives}
use Rattle.ezpkt.specs.Build.{Answered}
use Rattle.ezpkt.specs.Ip4.{datagram_of}
use Rattle.ezpkt.specs.declared.ip4.Template.{Template}
use Rattle.ezpkt.specs.declared.build.Request.{Request}
use Rattle.ezpkt.specs.declared.build.TcpSegment.{TcpSegment}
use Rattle.ezpkt.specs.declared.build.UdpDatagram.{UdpDatagram}
use Rattle.ezpkt.specs.declared.build.IcmpEcho.{IcmpEcho}
use Rattle.ezpkt.specs.declared.build.Request.TheVariants.{Tcp, Udp, Echo}
use Rattle.inspect.specs.declared.check.Verdict.TheVariants.{Good}
use Rattle.inspect.specs.Check.{check_answer}
use Rattle.assembly.specs.declared.Rec.{Rec}
use Rattle.assembly.specs.View.{view}
use Rattle.assembly.specs.declared.Outcome.TheVariants.{Complete}
use Rattle.assembly.specs.Answers.{standing}
use Rattle.assembly.specs.Calls.{capacity, map_bytes, progress_answer}
use Rattle.demands.specs.Cutting.{Finished, CallsAssemble}

-- the IPv4 payload of a packet of n bytes that a call left at the start of the output b
abbrev pub payload_in : ℕ → List ℕ → List ℕ
payload_in n b = drop 20 (take n b)

-- A template names the protocol and the addresses.
abbrev pub Names : Template → ℕ → ℕ → ℕ → Type 0
Names t p s d = (t.protocol ≡ p) × (t.saddr ≡ s) × (t.daddr ≡ d)

-- The template names what the packet of a request has, and the check is to call it good. (What a piece carries need not be a transport part, so
-- nothing is owed there.)
pub data Owed (t : Template) : Request → Type 0 where
  of_tcp : (x : TcpSegment) → Names t 6 x.saddr x.daddr → Owed t (Tcp x)
  of_udp : (x : UdpDatagram) → Names t 17 x.saddr x.daddr → Owed t (Udp x)
  of_echo : (x : IcmpEcho) → Names t 1 x.saddr x.daddr → Owed t (Echo x)

-- The IPv4 payload d of that packet, cut under t: demand 3 holds of it, and what `datagram` builds of what was put together, the first k bytes of
-- the payload buffer where `progress` answers complete with k, is checked good.
pub record RoundTrip (t : Template) (d : List ℕ) : Type 0 where
  pub calls : CallsAssemble t d
  pub checked : (r : Rec) (payload map : List ℕ) → Finished t d r payload map
      → (k : ℕ) → progress_answer capacity map_bytes (view r payload map) ≡ gives (standing Complete k)
      → (o b : List ℕ) (n : ℕ) → Answered (datagram_of t k) (take k payload) o (Ok n) b → check_answer b ≡ gives Good

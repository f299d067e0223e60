-- Each call's whole promise to C: the wrapped call's answer, as C sees it, and every lent byte after it.
use Rattle.std.specs.Prelude.{ℕ, ◌≡◌, List, length}
use Rattle.pkt.specs.Answers.{Answer, ListAnswer, mapped, plainly}
use Rattle.pkt.specs.Written.{leaves, Promise}
use Rattle.ezpkt.specs.Build.{answer_of, packet_of}
use Rattle.tcp4.specs.Tcp4.{Emit, send_answer, sent_bytes}
use Rattle.ezpkt.specs.Icmp4.{with_flow}
use Rattle.ezpkt.specs.declared.ip4.Template.{Template}
use Rattle.ezpkt.specs.declared.build.Request.{Request}
use Rattle.pieces.specs.Fragments.{packets_of, ends_from, fragments_answer}
use Rattle.pieces.specs.declared.BlockRequest.{BlockRequest}
use Rattle.pcap.specs.Answers.{record_answer}
use Rattle.pcap.specs.Pcap.{record_bytes}
use Rattle.tcp4.specs.declared.TcpFlow.{TcpFlow}
use Rattle.ezpkt.specs.declared.icmp4.IcmpFlow.{IcmpFlow}
use Rattle.packet.specs.Headroom.{valid}
use Rattle.packet.specs.Dump.{dump_of}
use Rattle.packet.specs.Answers.{copy_answer}
use Rattle.packet.specs.declared.Packet.{Packet}
use Rattle.assembly.specs.View.{view, record_of}
use Rattle.assembly.specs.Answers.{reply_of, payload_after, map_after}
use Rattle.assembly.specs.Calls.{capacity, map_bytes, open_answer, take_answer}
use Rattle.assembly.specs.declared.Key.{Key}
use Rattle.wispbundle.specs.Answers.{length_for, listed_for, tcp_for, icmp_for, rec_of, opened_for, taken_for}
use Rattle.wispbundle.specs.declared.lengths.wb_length.{wb_length}
use Rattle.wispbundle.specs.declared.building.wb_listed.{wb_listed}
use Rattle.wispbundle.specs.declared.tcp.wb_tcp_sent.{wb_tcp_sent}
use Rattle.wispbundle.specs.declared.icmp.wb_icmp_sent.{wb_icmp_sent}
use Rattle.wispbundle.specs.declared.assembling.wb_assembly.{wb_assembly}
use Rattle.wispbundle.specs.declared.assembling.wb_opened.{wb_opened}
use Rattle.wispbundle.specs.declared.assembling.wb_taken.{wb_taken}

-- The one answer r, which is a, and the one buffer o' after the call, which is x.
abbrev pub Given : {R : Type 0} → R → List ℕ → R → List ℕ → Type 0
Given {R} a x r o' = Promise (λ (c : R). c) a x r o'

-- bytes b into the buffer o, where the answer is a
abbrev pub Writes : Answer ℕ → List ℕ → List ℕ → wb_length → List ℕ → Type 0
Writes a b o r o' = Given (length_for a) (leaves a b o) r o'

-- the packet that a request and its payload p are, into the buffer o
abbrev pub Builds : Request → List ℕ → List ℕ → wb_length → List ℕ → Type 0
Builds q p o r o' = Writes (answer_of q (length p) (length o)) (packet_of q p) o r o'

-- the packets of a list of requests under the template t, end to end into the buffer o, and their ends into e
abbrev pub Cuts : Template → List BlockRequest → List ℕ → List ℕ → List ℕ → wb_listed → List ℕ → List ℕ → Type 0
Cuts t rs p o e r o' e' =
    let a : ListAnswer ℕ = fragments_answer rs (length p) (length o) (length e) in
    Promise {B = List ℕ × List ℕ} (λ (c : wb_listed). c) (listed_for a) (leaves (plainly a) (packets_of t rs p) o, leaves (plainly a) (ends_from (length p) 0 rs) e) r (o', e')

-- a record of the packet d, taken at sec and usec, into the buffer o
abbrev pub Records : ℕ → ℕ → List ℕ → List ℕ → wb_length → List ℕ → Type 0
Records sec usec d o r o' = Writes (record_answer (length d) usec (length o)) (record_bytes sec usec d) o r o'

-- the dump of a packet in the buffer b, into the buffer o
abbrev pub Dumps : Packet → List ℕ → List ℕ → wb_length → List ℕ → Type 0
Dumps p b o r o' = Writes (copy_answer (valid p (length b)) (length (dump_of p b)) (length o)) (dump_of p b) o r o'

-- packets of the flow f, end to end into the buffer o
abbrev pub TcpSends : TcpFlow → List Emit → List ℕ → wb_tcp_sent → List ℕ → Type 0
TcpSends f es o r o' =
    Given (tcp_for f (send_answer f es (length o))) (leaves (send_answer f es (length o)) (sent_bytes f es) o) r o'

-- the packet q of the flow f, which is g after it, with the payload p, into the buffer o
abbrev pub IcmpSends : IcmpFlow → Request → IcmpFlow → List ℕ → List ℕ → wb_icmp_sent → List ℕ → Type 0
IcmpSends f q g p o r o' =
    Given (icmp_for f (with_flow g (answer_of q (length p) (length o)))) (leaves (answer_of q (length p) (length o)) (packet_of q p) o) r o'

-- d and m are the buffers before, d' and m' after
pub record AssemblyOpens (k : Key) (d m : List ℕ) (r : wb_opened) (d' m' : List ℕ) : Type 0 where
  pub answer : r ≡ opened_for (mapped record_of (open_answer capacity map_bytes k (length d) (length m)))
  pub payload_is : d' ≡ payload_after (open_answer capacity map_bytes k (length d) (length m)) d
  pub map_is : m' ≡ map_after (open_answer capacity map_bytes k (length d) (length m)) m

-- a is the assembly before, l the packet
pub record AssemblyTakes (a : wb_assembly) (d m l : List ℕ) (r : wb_taken) (d' m' : List ℕ) : Type 0 where
  pub answer : r ≡ taken_for a (mapped reply_of (take_answer capacity map_bytes (view (rec_of a) d m) l))
  pub payload_is : d' ≡ payload_after (take_answer capacity map_bytes (view (rec_of a) d m) l) d
  pub map_is : m' ≡ map_after (take_answer capacity map_bytes (view (rec_of a) d m) l) m

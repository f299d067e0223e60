-- Demand 1 as C sees it: a status other than 0 leaves every lent byte, the flow and the assembly as they were.
use mathlib.Core.Path.{◌≡◌, refl, ap, ◌∙◌}
use mathlib.Core.List.{List}
use Prim.Native.Nat.{ℕ, ◌<◌}
use native.Mathlib.Omega.{arith}
use lib.ListN.{length}
use Rattle.pkt.specs.Answers.{Answer, refused, gives, mapped}
use Rattle.pkt.specs.Written.{leaves}
use Rattle.ezpkt.specs.Build.{answer_of, packet_of}
use Rattle.ezpkt.specs.Icmp4 as icmp
use Rattle.tcp4.specs.Tcp4 as tcp
use Rattle.ezpkt.specs.declared.build.Request.{Request}
use Rattle.ezpkt.specs.declared.icmp4.IcmpFlow.{IcmpFlow}
use Rattle.tcp4.specs.declared.TcpFlow.{TcpFlow}
use Rattle.assembly.specs.Assembly.{State}
use Rattle.assembly.specs.View.{view, record_of}
use Rattle.assembly.specs.Answers.{reply_of, payload_after, map_after}
use Rattle.assembly.specs.Calls.{capacity, map_bytes, open_answer, take_answer}
use Rattle.assembly.specs.declared.Key.{Key}
use Rattle.wispbundle.specs.Answers.{tcp_for, icmp_for, rec_of, opened_for, taken_for}
use Rattle.wispbundle.specs.Calls.{Writes, TcpSends, IcmpSends, AssemblyOpens, AssemblyTakes}
use Rattle.wispbundle.specs.declared.lengths.wb_length.{wb_length}
use Rattle.wispbundle.specs.declared.tcp.wb_tcp_sent.{wb_tcp_sent}
use Rattle.wispbundle.specs.declared.icmp.wb_icmp_sent.{wb_icmp_sent}
use Rattle.wispbundle.specs.declared.assembling.wb_assembly.{wb_assembly}
use Rattle.wispbundle.specs.declared.assembling.wb_opened.{wb_opened}
use Rattle.wispbundle.specs.declared.assembling.wb_taken.{wb_taken}

pub writes_refused : (a : Answer ℕ) (b o : List ℕ) (r : wb_length) (o' : List ℕ) → Writes a b o r o' → 0 < r.status → o' ≡ o
writes_refused (gives k) b o r o' x h = let z : r.status ≡ 0 = ap (λ (s : wb_length). s.status) x.answer in absurd (omega (arith, z, h))
writes_refused (refused n) b o r o' x h = x.after

tcp_kept : (f : TcpFlow) (a : Answer tcp.Gone) (b o : List ℕ) (r : wb_tcp_sent) → r ≡ tcp_for f a → 0 < r.status → (r.flow ≡ f) × (leaves a b o ≡ o)
tcp_kept f (gives g) b o r e h = let z : r.status ≡ 0 = ap (λ (s : wb_tcp_sent). s.status) e in absurd (omega (arith, z, h))
tcp_kept f (refused n) b o r e h = (ap (λ (s : wb_tcp_sent). s.flow) e, refl)

pub tcp_refused : (f : TcpFlow) (es : List tcp.Emit) (o : List ℕ) (r : wb_tcp_sent) (o' : List ℕ) → TcpSends f es o r o' → 0 < r.status
    → (r.flow ≡ f) × (o' ≡ o)
tcp_refused f es o r o' x h =
    let (flow, bytes) = tcp_kept f (tcp.send_answer f es (length o)) (tcp.sent_bytes f es) o r x.answer h in
    (flow, x.after ∙ bytes)

icmp_kept : (f g : IcmpFlow) (a : Answer ℕ) (b o : List ℕ) (r : wb_icmp_sent) → r ≡ icmp_for f (icmp.with_flow g a) → 0 < r.status
    → (r.flow ≡ f) × (leaves a b o ≡ o)
icmp_kept f g (gives k) b o r e h = let z : r.status ≡ 0 = ap (λ (s : wb_icmp_sent). s.status) e in absurd (omega (arith, z, h))
icmp_kept f g (refused n) b o r e h = (ap (λ (s : wb_icmp_sent). s.flow) e, refl)

pub icmp_refused : (f : IcmpFlow) (q : Request) (g : IcmpFlow) (p o : List ℕ) (r : wb_icmp_sent) (o' : List ℕ) → IcmpSends f q g p o r o' → 0 < r.status
    → (r.flow ≡ f) × (o' ≡ o)
icmp_refused f q g p o r o' x h =
    let (flow, bytes) = icmp_kept f g (answer_of q (length p) (length o)) (packet_of q p) o r x.answer h in
    (flow, x.after ∙ bytes)

opened_kept : (a : Answer State) (d m : List ℕ) (r : wb_opened) → r ≡ opened_for (mapped record_of a) → 0 < r.status
    → (payload_after a d ≡ d) × (map_after a m ≡ m)
opened_kept (gives s) d m r e h = let z : r.status ≡ 0 = ap (λ (s : wb_opened). s.status) e in absurd (omega (arith, z, h))
opened_kept (refused n) d m r e h = (refl, refl)

pub open_refused : (k : Key) (d m : List ℕ) (r : wb_opened) (d' m' : List ℕ) → AssemblyOpens k d m r d' m' → 0 < r.status → (d' ≡ d) × (m' ≡ m)
open_refused k d m r d' m' x h =
    let (payload, map) = opened_kept (open_answer capacity map_bytes k (length d) (length m)) d m r x.answer h in
    (x.payload_is ∙ payload, x.map_is ∙ map)

taken_kept : (b : wb_assembly) (a : Answer State) (d m : List ℕ) (r : wb_taken) → r ≡ taken_for b (mapped reply_of a) → 0 < r.status
    → (r.assembly ≡ b) × (payload_after a d ≡ d) × (map_after a m ≡ m)
taken_kept b (gives s) d m r e h = let z : r.status ≡ 0 = ap (λ (s : wb_taken). s.status) e in absurd (omega (arith, z, h))
taken_kept b (refused n) d m r e h = (ap (λ (s : wb_taken). s.assembly) e, refl, refl)

pub take_refused : (b : wb_assembly) (d m l : List ℕ) (r : wb_taken) (d' m' : List ℕ) → AssemblyTakes b d m l r d' m' → 0 < r.status
    → (r.assembly ≡ b) × (d' ≡ d) × (m' ≡ m)
take_refused b d m l r d' m' x h =
    let (assembly, payload, map) = taken_kept b (take_answer capacity map_bytes (view (rec_of b) d m) l) d m r x.answer h in
    (assembly, x.payload_is ∙ payload, x.map_is ∙ map)

-- What the calls that build and send leave: each packet has the length that is answered, and is checked as it is owed.
use Rattle.ezpkt.specs.declared.icmp4.EchoSent.{EchoSent}
use Rattle.std.specs.Prelude.{Ok}
use mathlib.Core.Path.{◌≡◌, refl, sym, ap, subst, ◌∙◌}
use mathlib.Core.Bool.{false}
use mathlib.Core.List.Memᴰ
use mathlib.Core.List.{List, [], ◌∷◌, ◌++◌, append_assoc}
use Prim.Native.Nat.{ℕ, ◌+◌, ◌-◌, ◌≤◌, ◌<◌}
use native.Mathlib.Omega.{arith}
use lib.ListN.{length, drop, length-append}
use lib.Seq.{slice, take_at, take-append-add, drop-append_seam}
use lib.Dec.{ltb}
use borrow.Author.Tests.{le-ltb}
use Rattle.pkt.specs.Answers.{Answer, refused, gives}
use Rattle.pkt.specs.Fields.{Bytes}
use Rattle.pkt.specs.Written.{written, leaves}
use Rattle.pkt.proofs.Choice.{or_no, pick_no}
use Rattle.pkt.proofs.Deciding.{past, bounded}
use Rattle.ezpkt.specs.Build.{packet_of, answer_of, Answered}
use Rattle.ezpkt.specs.Icmp4 as icmp
use Rattle.ezpkt.specs.declared.build.Request.{Request}
use Rattle.ezpkt.specs.declared.build.Request.TheVariants.{Tcp, Echo}
use Rattle.ezpkt.specs.declared.icmp4.IcmpFlow.{IcmpFlow}
use Rattle.ezpkt.proofs.Verifying.{built_packet, built_total}
use Rattle.ezpkt.proofs.Sizes.{tcp_size}
use Rattle.tcp4.specs.Tcp4.{Emit, Gone, segment_of, advance, after_one, after_all, sent_bytes, ends_from, size_all, any_long, send_answer}
use Rattle.tcp4.specs.declared.TcpFlow.{TcpFlow}
use Rattle.tcp4.specs.declared.Side.{Side}
use Rattle.tcp4.specs.declared.Side.TheVariants.{Client, Server}
use Rattle.inspect.specs.Header.{field_at}
use Rattle.inspect.specs.Check.{check_answer}
use Rattle.demands.specs.Ranges.{Between, Marked, InRange}
use Rattle.demands.specs.Outputs.{Stands, request_of, EndToEnd, none, next, Sendable, BuiltAsOwed}
use Rattle.demands.proofs.Checked.{packet_checked}

-- ---- one packet

-- what lies between two others
pub between : (a m r : List ℕ) (i n : ℕ) → length a ≡ i → length m ≡ n → slice i (i + n) (a ++ (m ++ r)) ≡ m
between a m r i n at size =
    subst (λ (k : ℕ). slice k (k + n) (a ++ (m ++ r)) ≡ m) at
    (ap (drop (length a)) (take-append-add a (m ++ r) n ∙ ap (λ (l : List ℕ). a ++ l) (take_at m r n size)) ∙ drop-append_seam a m)

-- A packet that an output o has room for, behind others and with more behind it.
stands : (q : Request) (p o b a r : List ℕ) (i n : ℕ) → InRange q → Bytes p → answer_of q (length p) (length o) ≡ gives n
    → b ≡ a ++ (packet_of q p ++ r) → length a ≡ i → Stands q p b i (i + n)
unfolding field_at
stands q p o b a r i n range bp e is at =
    let x : Answered q p o (Ok n) (leaves (answer_of q (length p) (length o)) (packet_of q p) o) = record { answer = sym e; after = refl } in
    let front : slice i (i + n) b ≡ packet_of q p = ap (slice i (i + n)) is ∙ between a (packet_of q p) r i n at (built_packet q p o _ (Ok n) n x refl).0 in
    let far : n ≡ i + n - i = omega arith in
    record {
      packet = front;
      total = ap (λ (l : List ℕ). field_at l 2 2) front ∙ built_total q p o _ (Ok n) n x refl ∙ far;
      checked = λ rest. ap (λ (l : List ℕ). check_answer (l ++ rest)) front ∙ packet_checked q p rest (length o) n range bp e;
    }

-- One that stands at the output's start.
first : (q : Request) (p o b : List ℕ) (n : ℕ) → InRange q → Bytes p → answer_of q (length p) (length o) ≡ gives n
    → b ≡ leaves (answer_of q (length p) (length o)) (packet_of q p) o → Stands q p b 0 n
unfolding written
first q p o b n range bp e is =
    let zero : 0 + n ≡ n = omega arith in
    subst (Stands q p b 0) zero (stands q p o b [] _ 0 n range bp e (is ∙ ap (λ (a : Answer ℕ). leaves a (packet_of q p) o) e) refl)

-- ---- several of a flow

-- A flow's packet has the flow's addresses and marks, and the flow keeps them.
in_range : (f : TcpFlow) (s : Side) (flags frag : ℕ) → frag < 65536 → Between f.cl.ip f.sv.ip → Marked f.marks
    → InRange (Tcp (segment_of f s flags frag))
in_range f Client flags frag h fits m = (h, fits, m)
in_range f Server flags frag h fits m = (h, (fits.1, fits.0), m)

kept : (f : TcpFlow) (s : Side) (k : ℕ) → Between f.cl.ip f.sv.ip × Marked f.marks
    → Between (advance s k f).cl.ip (advance s k f).sv.ip × Marked (advance s k f).marks
kept f Client k fits = fits
kept f Server k fits = fits

end_to_end : (b r o : List ℕ) (f : TcpFlow) (es : List Emit) (a : List ℕ) (i : ℕ) → Between f.cl.ip f.sv.ip × Marked f.marks → Sendable es
    → any_long es ≡ false → size_all es ≤ length o → b ≡ a ++ (sent_bytes f es ++ r) → length a ≡ i → EndToEnd b f es i (ends_from i es)
end_to_end b r o f [] a i fits ok short room is at = none f i
end_to_end b r o f (e ∷ es) a i fits ok short room is at =
    let p : List ℕ = e.body in
    let q : Request = request_of f e in
    let n : ℕ = 40 + length p in
    let later : List ℕ = sent_bytes (after_one f e) es in
    let (few, rest) = or_no (ltb 65495 (length p)) (any_long es) short in
    let given : answer_of q (length p) (length o) ≡ gives n = pick_no _ _ few ∙ pick_no _ _ (le-ltb (length o) n (omega arith)) in
    let here : b ≡ a ++ (packet_of q p ++ (later ++ r)) = is ∙ ap (λ (l : List ℕ). a ++ l) (append_assoc (packet_of q p) later r) in
    let (whole, bp) = ok e (Memᴰ.head refl) in
    next f e es i (i + n) _
    (stands q p o b a _ i n (in_range f e.side e.flags e.frag whole fits.0 fits.1) bp given here at)
    (end_to_end b r o (after_one f e) es (a ++ packet_of q p) (i + n) (kept f e.side _ fits) (λ x m. ok x (Memᴰ.tail m)) rest (omega arith)
    (here ∙ sym (append_assoc a (packet_of q p) (later ++ r)))
    (length-append a (packet_of q p) ∙ (let size = tcp_size (segment_of f e.side e.flags e.frag) p in omega arith)))

-- what an accepted call tells
pub record Accepted (f : TcpFlow) (es : List Emit) (o : List ℕ) (g : Gone) : Type 0 where
  pub short : any_long es ≡ false
  pub room : size_all es ≤ length o
  pub flow : after_all f es ≡ g.flow
  pub ends : ends_from 0 es ≡ g.ends

pub was_accepted : (f : TcpFlow) (es : List Emit) (o : List ℕ) (g : Gone) → send_answer f es (length o) ≡ gives g → Accepted f es o g
was_accepted f es o g e =
    let (short, rest) = past (any_long es) 1 _ g e in
    let (room, given) = bounded (length o) (size_all es) 3 g _ rest in
    let all : Gone = record { flow = after_all f es; ends = ends_from 0 es } in
    let same : all ≡ g = cc given in
    record { short = short; room = room; flow = ap (λ (x : Gone). x.flow) same; ends = ap (λ (x : Gone). x.ends) same }

sent : (f : TcpFlow) (es : List Emit) (o b : List ℕ) (g : Gone) → Between f.cl.ip f.sv.ip × Marked f.marks → Sendable es
    → send_answer f es (length o) ≡ gives g → b ≡ leaves (send_answer f es (length o)) (sent_bytes f es) o → EndToEnd b f es 0 g.ends
unfolding written
sent f es o b g fits ok e is =
    let w = was_accepted f es o g e in
    subst (EndToEnd b f es 0) w.ends
    (end_to_end b _ o f es [] 0 fits ok w.short w.room (is ∙ ap (λ (x : Answer Gone). leaves x (sent_bytes f es) o) e) refl)

-- an echo's answer tells what building it is answered
echo_given : (f g : IcmpFlow) (a : Answer ℕ) (n : ℕ) → gives (icmp.echo_gone g n) ≡ icmp.with_flow f a → a ≡ gives n
echo_given f g (gives m) n e = let z : icmp.echo_gone g n ≡ icmp.echo_gone f m = cc in ap (λ (x : EchoSent). gives x.size) (sym z)
echo_given f g (refused m) n e = let z : ◌≡◌ {A = ℕ} 0 1 = cc in absurd (omega arith)

-- Demand 2: "headers, lengths and checksums": each call leaves packets of the lengths that it answers, and these are checked as they are owed.
pub built_as_owed : BuiltAsOwed
built_as_owed =
    record {
      building = λ q p o b n range bp x. first q p o b n range bp (sym x.answer) x.after;
      echoing = λ e f g p o b n range bp x. first (Echo e) p o b n range bp (echo_given f g _ n x.answer) x.after;
      sending = λ f es o b r g fits m ok x e. sent f es o b g (fits, m) ok (sym x.answer ∙ e) x.after;
    }

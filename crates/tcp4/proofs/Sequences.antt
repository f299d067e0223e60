-- The sequence law: after any accepted calls a side's number is its start and what was consumed since then, modulo 2^32.
use Rattle.std.proofs.Common.{◌≡◌, ℕ, ◌+◌, ◌%◌, ◌<◌, cond, ltb, List, [], ◌∷◌, length, sym, ap, ◌∙◌, arith}
use Rattle.pkt.specs.Answers.{refused, gives}
use Rattle.pkt.specs.Rfc9293.{RST, ACK}
use Rattle.pkt.specs.declared.refusal.Refusal.{Refusal}
use Rattle.std.specs.Prelude.{Result}
use Rattle.pkt.proofs.Deciding.{past}
use Rattle.tcp4.specs.Tcp4.{Emit, Gone, emit, consumed, advance, after_one, after_all, any_long, size_all, ends_from, send_answer, popped, sent_says, Sends}
use Rattle.tcp4.specs.Sequence.{Call, Leads, sending, skipping, heading, pushing, popping, Run, none, next, seq_of, Count, mine, sent_by, restart, side_of, counted, counted_all, begun, Counts, Below, SequenceLaw, NothingConsumed}
use Rattle.tcp4.specs.declared.TcpFlow.{TcpFlow}
use Rattle.tcp4.specs.declared.Header.{Header}
use Rattle.tcp4.specs.declared.PushedState.{PushedState}
use Rattle.tcp4.specs.declared.Side.{Side}
use Rattle.tcp4.specs.declared.Side.TheVariants.{Client, Server}
use Rattle.tcp4.specs.declared.Seq.{Seq}
use Rattle.tcp4.specs.declared.Seq.TheVariants.{Is, Nothing}
use Rattle.tcp4.specs.declared.Sent.{Sent}

moved : (x n a b : ℕ) → x ≡ (a + b) % 4294967296 → (x + n) % 4294967296 ≡ (a + (b + n)) % 4294967296
moved x n a b h = omega arith

-- nothing is consumed since a start
begins : (n : ℕ) → n < 4294967296 → n ≡ (n + 0) % 4294967296
begins n b = omega arith

stayed : (x a b : ℕ) → x ≡ (a + b) % 4294967296 → x ≡ (a + (b + 0)) % 4294967296
stayed x a b h = omega arith

-- moving on a side counts for that side alone
advanced : (w s : Side) (n : ℕ) (f : TcpFlow) (k : Count) → Counts (seq_of w f) k
    → Counts (seq_of w (advance s n f)) (record { start = k.start; since = k.since + mine w s n })
advanced Client Client n f k h = moved f.cl_seq n k.start k.since h
advanced Client Server n f k h = stayed f.cl_seq k.start k.since h
advanced Server Client n f k h = stayed f.sv_seq k.start k.since h
advanced Server Server n f k h = moved f.sv_seq n k.start k.since h

-- packets one after the other
emitted : (w : Side) (es : List Emit) (f : TcpFlow) (k : Count) → Counts (seq_of w f) k
    → Counts (seq_of w (after_all f es)) (record { start = k.start; since = k.since + sent_by w es })
emitted w [] f k h = stayed (seq_of w f) k.start k.since h
emitted w (e ∷ es) f k h =
    let n : ℕ = mine w e.side (consumed e.flags (length e.body)) in
    let one = advanced w e.side (consumed e.flags (length e.body)) f k h in
    let rest = emitted w es (after_one f e) (record { start = k.start; since = k.since + n }) one in
    let s : k.since + n + sent_by w es ≡ k.since + (n + sent_by w es) = omega arith in
    rw s at rest

-- a side counts from the number that it is set to, or goes on
set : (w : Side) (c s : Seq) (f : TcpFlow) (k : Count) → Below c → Below s → Counts (seq_of w f) k
    → Counts (seq_of w (popped f c s)) (restart (side_of w c s) k)
set Client (Is n) s f k b d h = begins n b
set Client Nothing s f k b d h = h
set Server c (Is n) f k b d h = begins n d
set Server c Nothing f k b d h = h

-- The flow that a call which sends gives is the flow after its packets.
given : (f : TcpFlow) (es : List Emit) (room : ℕ) (g : Gone) → send_answer f es room ≡ gives g → after_all f es ≡ g.flow
given f es room g e =
    let all : Gone = record { flow = after_all f es; ends = ends_from 0 es } in
    let a = past (any_long es) 1 (cond (ltb room (size_all es)) (refused 3) (gives all)) g e in
    let b = past (ltb room (size_all es)) 3 (gives all) g a.1 in
    let same : all ≡ g = cc b.1 in
    ap (λ (x : Gone). x.flow) same

sent : (f : TcpFlow) (es : List Emit) (o : List ℕ) (r : Result Sent Refusal) (o' : List ℕ) (g : Gone) → Sends f es o r o' → sent_says r ≡ gives g
    → after_all f es ≡ g.flow
sent f es o r o' g x e = given f es (length o) g (sym x.answer ∙ e)

-- a call
counts : (w : Side) (f : TcpFlow) (c : Call) (g : TcpFlow) (k : Count) → Leads f c g → Counts (seq_of w f) k → Counts (seq_of w g) (counted w c k)
counts w _ _ _ k (sending f es o r o' s x e) h = ap (seq_of w) (sym (sent f es o r o' s x e)) ∙ emitted w es f k h
counts w _ _ _ k (skipping f s n g e) h = ap (seq_of w) e ∙ advanced w s n f k h
counts w _ _ _ k (heading f s dlen csum r e) h = ap (λ (x : Header). seq_of w x.flow) e ∙ advanced w s dlen f k h
counts w _ _ _ k (pushing f c' s r a b e) h = ap (λ (x : PushedState). seq_of w x.flow) e ∙ set w c' s f k a b h
counts w _ _ _ k (popping f c' s g a b e) h = ap (seq_of w) e ∙ set w c' s f k a b h

counts_all : (w : Side) (f : TcpFlow) (cs : List Call) (g : TcpFlow) (k : Count) → Run f cs g → Counts (seq_of w f) k
    → Counts (seq_of w g) (counted_all w cs k)
counts_all w _ _ _ k (none f) h = h
counts_all w _ _ _ k (next f c m cs' g l r) h = counts_all w m cs' g (counted w c k) r (counts w f c m k l h)

pub sequence_law : SequenceLaw
sequence_law w f cs g b r = counts_all w f cs g (begun w f) r (begins (seq_of w f) b)

-- ---- nothing consumed

-- moving a side on by nothing
kept : (f : TcpFlow) (s : Side) → seq_of s f < 4294967296 → advance s 0 f ≡ f
kept f Client b = ap (λ (n : ℕ). record { cl = f.cl; sv = f.sv; cl_seq = n; sv_seq = f.sv_seq; marks = f.marks }) (sym (begins f.cl_seq b))
kept f Server b = ap (λ (n : ℕ). record { cl = f.cl; sv = f.sv; cl_seq = f.cl_seq; sv_seq = n; marks = f.marks }) (sym (begins f.sv_seq b))

pub nothing_consumed : NothingConsumed
nothing_consumed =
    record {
      acknowledging = λ f s o r o' g b x e. sym (sent f (emit s ACK 0 [] ∷ []) o r o' g x e) ∙ kept f s b;
      resetting = λ f s o r o' g b x e. sym (sent f (emit s RST 0 [] ∷ []) o r o' g x e) ∙ kept f s b;
      following = λ f s b. kept f s b;
    }

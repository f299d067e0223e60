-- The packets of accepted calls, one call after the other, are reported as they were sent; and the ends that a call answers go up within its output.
use mathlib.Core.Path.{◌≡◌, refl, sym, ap, subst, ◌∙◌}
use mathlib.Core.Bool.{Bool, false, ◌||◌, cond}
use mathlib.Core.List.Memᴰ
use mathlib.Core.List.{List, [], ◌∷◌, ◌++◌, append_assoc, append-nil, Memᴰ}
use Prim.Native.Nat.{ℕ, suc, ◌+◌, ◌≤◌}
use native.Mathlib.Omega.{arith}
use lib.ListN.{length, length-append}
use lib.Dec.{ltb}
use borrow.Author.Tests.{ltb-false, le-ltb}
use Rattle.pkt.specs.Answers.{Answer, gives, gives_all, list_says}
use Rattle.pkt.specs.Written.{leaves}
use Rattle.pkt.proofs.Choice.{or_no, pick_no}
use Rattle.pkt.proofs.Written.{written_length}
use Rattle.ezpkt.specs.declared.SocketAddrV4.{SocketAddrV4}
use Rattle.ezpkt.proofs.Sizes.{tcp_size}
use Rattle.tcp4.specs.Tcp4.{Emit, Gone, segment_of, after_one, after_all, sent_one, sent_bytes, ends_from, size_all, any_long, sent_says, send_answer, Sends}
use Rattle.tcp4.specs.declared.TcpFlow.{TcpFlow}
use Rattle.tcp4.specs.declared.Sent.{Sent}
use Rattle.tcp4.specs.declared.Sent.TheVariants as sent
use Rattle.reporting.specs.Report.{cut_at, first_wrong, most_packets, nothing_yet, report_after, report_from, report_of, Reports}
use Rattle.reporting.specs.Packets.{class_of}
use Rattle.reporting.specs.declared.Report.{Report}
use Rattle.std.specs.Prelude.{Result, Ok, Err}
use Rattle.pkt.specs.declared.refusal.Refusal.{Refusal}
use Rattle.pkt.specs.declared.refusal.ListRefusal.{ListRefusal}
use Rattle.pkt.specs.declared.refusal.ListRefusal.TheVariants.{Whole, At}
use Rattle.reporting.proofs.Totals.{reported_is}
use Rattle.demands.specs.Outputs.{EndToEnd, none, next}
use Rattle.demands.specs.Reporting.{TwoEnds, Passable, CallsSend, AsSent, SentExpected}
use Rattle.demands.specs.Reporting as calls
use Rattle.demands.proofs.Outputs.{was_accepted, built_as_owed}
use Rattle.demands.proofs.Expected.{Along, stands_more}

-- ---- one call

-- packets end to end, each counted behind those that were sent before
all_more : (cl sv : SocketAddrV4) (b : List ℕ) (f : TcpFlow) (es : List Emit) (i : ℕ) (js : List ℕ) (ds : List Emit) (r : Report) → EndToEnd b f es i js
    → Along cl sv f ds r → ((e : Emit) → Memᴰ e es → Passable e) → any_long es ≡ false
    → Along cl sv (after_all f es) (ds ++ es) (report_from cl sv r (cut_at i js b))
unfolding report_from cut_at
all_more cl sv b _ _ _ _ ds r (none f i) a ok short = subst (λ (x : List Emit). Along cl sv f x r) (sym (append-nil ds)) a
all_more cl sv b _ _ _ _ ds r (next f e es i j js s rest) a ok short =
    let (few, others) = or_no (ltb 65495 (length e.body)) (any_long es) short in
    let one = stands_more cl sv f ds r e b i j a (ok e (Memᴰ.head refl)) (ltb-false 65495 (length e.body) few) s in
    subst (λ (x : List Emit). Along cl sv (after_all (after_one f e) es) x (report_from cl sv r (cut_at i (j ∷ js) b))) (append_assoc ds (e ∷ []) es)
    (all_more cl sv b (after_one f e) es j js (ds ++ (e ∷ [])) _ rest one (λ x m. ok x (Memᴰ.tail m)) others)

-- ---- one call after the other

report_behind : (cl sv : SocketAddrV4) (r : Report) (ps qs : List (List ℕ)) → report_from cl sv r (ps ++ qs) ≡ report_from cl sv (report_from cl sv r ps) qs
unfolding report_from
report_behind cl sv r [] qs = refl
report_behind cl sv r (p ∷ ps) qs = report_behind cl sv (report_after r (class_of cl sv p)) ps qs

calls_more : (cl sv : SocketAddrV4) (f : TcpFlow) (es : List Emit) (ps : List (List ℕ)) (ds : List Emit) (r : Report) → CallsSend f es ps
    → Along cl sv f ds r → ((e : Emit) → Memᴰ e es → Passable e) → AsSent (ds ++ es) (report_from cl sv r ps)
unfolding report_from
calls_more cl sv _ _ _ ds r (calls.none f) a ok = subst (λ (x : List Emit). AsSent x r) (sym (append-nil ds)) a.sent
calls_more cl sv _ _ _ ds r (calls.more f es o q b g rest ps x e c) a ok =
    let here : (y : Emit) → Memᴰ y es → Passable y = λ y m. ok y (Memᴰ.append_left rest m) in
    let w = was_accepted f es o g (sym x.answer ∙ e) in
    let stand = built_as_owed.sending f es o b q g a.two.addresses a.two.marked (λ y m. ((here y m).frag, (here y m).bytes)) x e in
    let one = all_more cl sv b f es 0 g.ends ds r stand a here w.short in
    let onward = subst (λ (h : TcpFlow). Along cl sv h (ds ++ es) (report_from cl sv r (cut_at 0 g.ends b))) w.flow one in
    subst (AsSent (ds ++ (es ++ rest))) (sym (report_behind cl sv r (cut_at 0 g.ends b) ps))
    (subst (λ (y : List Emit). AsSent y (report_from cl sv (report_from cl sv r (cut_at 0 g.ends b)) ps)) (append_assoc ds es rest)
    (calls_more cl sv g.flow rest ps (ds ++ es) _ c onward (λ y m. ok y (Memᴰ.append_right es m))))

-- nothing was sent, and nothing is reported
at_start : (f : TcpFlow) → TwoEnds f → Along f.cl f.sv f [] nothing_yet
at_start f two =
    record {
      two = two;
      from = refl;
      to = refl;
      sent =
          record {
            client = record { segments = refl; bytes = refl; syns = refl; fins = refl; expected = refl; early = refl; late = refl };
            server = record { segments = refl; bytes = refl; syns = refl; fins = refl; expected = refl; early = refl; late = refl };
            none_failed = refl;
            no_others = refl;
          };
      client = λ some. absurd (some refl);
      server = λ some. absurd (some refl);
    }

-- ---- the ends of one call

few_ends : (r : Result Sent Refusal) (g : Gone) → sent_says r ≡ gives g → length g.ends ≤ 3
few_ends (Ok (sent.One f a)) g e = let z : record { flow = f; ends = a ∷ [] } ≡ g = cc in subst (λ (x : Gone). length x.ends ≤ 3) z (omega arith)
few_ends (Ok (sent.Two f a b)) g e = let z : record { flow = f; ends = a ∷ b ∷ [] } ≡ g = cc in subst (λ (x : Gone). length x.ends ≤ 3) z (omega arith)
few_ends (Ok (sent.Three f a b c)) g e = let z : record { flow = f; ends = a ∷ b ∷ c ∷ [] } ≡ g = cc in subst (λ (x : Gone). length x.ends ≤ 3) z (omega arith)
few_ends (Err n) g e = let z : ◌≡◌ {A = ℕ} 0 1 = cc in absurd (omega arith)

-- They go up, and none is past the bytes that are sent.
right_ends : (at n : ℕ) (es : List Emit) → at + size_all es ≤ n → first_wrong at n (ends_from at es) ≡ length (ends_from at es)
unfolding first_wrong
right_ends at n [] h = refl
right_ends at n (e ∷ es) h =
    let j : ℕ = at + (40 + length e.body) in
    let up = le-ltb j at (omega arith) in
    let within = le-ltb n j (omega arith) in
    ap (λ (x : Bool). cond (x || ltb n j) 0 (suc (first_wrong j n (ends_from j es)))) up
    ∙ ap (λ (x : Bool). cond x 0 (suc (first_wrong j n (ends_from j es)))) within
    ∙ ap suc (right_ends j n es (omega arith))

sent_length : (f : TcpFlow) (es : List Emit) → length (sent_bytes f es) ≡ size_all es
sent_length f [] = refl
sent_length f (e ∷ es) =
    let later : List ℕ = sent_bytes (after_one f e) es in
    length-append (sent_one f e) later ∙ omega (arith, tcp_size (segment_of f e.side e.flags e.frag) e.body, sent_length (after_one f e) es)

-- the output after a call is as long as before
same_length : (f : TcpFlow) (es : List Emit) (o b : List ℕ) (g : Gone) → send_answer f es (length o) ≡ gives g → b ≡ leaves (send_answer f es (length o)) (sent_bytes f es) o
    → size_all es ≤ length o → length b ≡ length o
same_length f es o b g e is room =
    ap length (is ∙ ap (λ (x : Answer Gone). leaves x (sent_bytes f es) o) e) ∙ written_length (sent_bytes f es) o (omega (arith, sent_length f es))

not_refused : (f : TcpFlow) (es : List Emit) (o : List ℕ) (r : Result Sent Refusal) (b : List ℕ) (g : Gone) → Sends f es o r b → sent_says r ≡ gives g
    → (q : Result Report ListRefusal) → Reports b g.ends f.cl f.sv q → (x : Report) × (q ≡ Ok x)
not_refused f es o r b g x e q p =
    let given = sym x.answer ∙ e in
    let w = was_accepted f es o g given in
    let n = same_length f es o b g given x.after w.room in
    let right : first_wrong 0 (length b) g.ends ≡ length g.ends =
    subst (λ (js : List ℕ). first_wrong 0 (length b) js ≡ length js) w.ends (right_ends 0 (length b) es (omega (arith, n, w.room))) in
    let few = le-ltb most_packets (length g.ends) (omega (arith, few_ends r g e)) in
    let all = le-ltb (first_wrong 0 (length b) g.ends) (length g.ends) (omega (arith, right)) in
    go q _ (p ∙ pick_no _ _ few ∙ pick_no _ _ all)
  where
    go : (q : Result Report ListRefusal) (y : Report) → list_says q ≡ gives_all y → (x : Report) × (q ≡ Ok x)
    go (Ok x) y h = (x, refl)
    go (Err (Whole n)) y h = let z : ◌≡◌ {A = ℕ} 0 1 = cc in absurd (omega arith)
    go (Err (At n i)) y h = let z : ◌≡◌ {A = ℕ} 0 1 = cc in absurd (omega arith)

-- What the calls of a flow send is reported as sent, and all of it as expected.
pub sent_expected : SentExpected
sent_expected =
    record {
      reported =
          λ f es ps two ok sends l js r cut given.
          subst (AsSent es) (ap (report_of f.cl f.sv) (sym cut) ∙ sym (reported_is l js f.cl f.sv r given))
          (calls_more f.cl f.sv f es ps [] nothing_yet sends (at_start f two) ok);
      accepted = not_refused;
    }

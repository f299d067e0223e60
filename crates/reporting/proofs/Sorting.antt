-- What a packet that passes the check has, and the class that tests lead to.
use Rattle.std.proofs.Common.{◌≡◌, ℕ, ◌≤◌, Bool, true, false, cond, List, length, sym, refl, ap, ◌∙◌, subst, ap₂, true≢false, arith, length-drop, length-take, ltb-false, eq-eqb, ne_eqb}
use Rattle.pkt.specs.Answers.{Answer, refused, gives, and_then, most_bytes}
use Rattle.pkt.specs.Fields.{Bytes}
use Rattle.pkt.proofs.Choice.{pick_yes, pick_no, or_no}
use Rattle.pkt.proofs.Deciding.{past}
use Rattle.pkt.specs.declared.ipv4.tcp_hdr.{tcp_hdr}
use Rattle.ezpkt.specs.declared.SocketAddrV4.{SocketAddrV4}
use Rattle.tcp4.specs.declared.Side.TheVariants.{Client, Server}
use Rattle.inspect.specs.Header.{header_of, data_of, frame_answer, read_answer}
use Rattle.inspect.specs.Check.{tcp_cut, is_cut, is_piece, is_other, whole_answer, part_answer, check_answer, verdict_of}
use Rattle.inspect.specs.Options.{past_options}
use Rattle.inspect.specs.Tcp.{tcp_of, tcp_read_answer}
use Rattle.inspect.specs.declared.check.Verdict.{Verdict}
use Rattle.inspect.specs.declared.header.IpRead.{IpRead}
use Rattle.inspect.proofs.Reading.{was_read, framed, frame_end}
use Rattle.reporting.specs.Packets.{is_passed, passes, goes, sided, tcp_class, part_class, class_of}
use Rattle.reporting.specs.declared.Segment.{Segment}
use Rattle.reporting.specs.declared.Class.{Class}
use Rattle.reporting.specs.declared.Class.TheVariants.{Failed, Other, Own}

-- ---- the sides

pub of_client : (cl sv from to : SocketAddrV4) (s : Segment) (r : Bool) → r ≡ goes from to cl sv → r ≡ true → Own Client s ≡ sided cl sv from to s
of_client cl sv from to s r e t = sym (pick_yes (Own Client s) (cond (goes from to sv cl) (Own Server s) Other) (sym e ∙ t))

pub of_server : (cl sv from to : SocketAddrV4) (s : Segment) (r q : Bool) → r ≡ goes from to cl sv → r ≡ false → q ≡ goes from to sv cl → q ≡ true
    → Own Server s ≡ sided cl sv from to s
of_server cl sv from to s r q e t f u =
    sym (pick_no (Own Client s) (cond (goes from to sv cl) (Own Server s) Other) (sym e ∙ t) ∙ pick_yes (Own Server s) Other (sym f ∙ u))

-- ---- what passes

-- where an answer is given that goes on from another, both are
gave : {A B : Type 0} (a : Answer A) (f : A → Answer B) (b : B) → and_then a f ≡ gives b → (x : A) × (a ≡ gives x) × (f x ≡ gives b)
gave (gives x) f b e = (x, refl, e)
gave (refused n) f b e = let z : ◌≡◌ {A = ℕ} 0 1 = cc in absurd (omega arith)

-- What passes is framed by its header, and is whole: TCP's part is not cut.
record Passed (p : List ℕ) : Type 0 where
  frame : frame_answer p ≡ gives (header_of p)
  whole : is_cut (header_of p).protocol (data_of (header_of p) p) ≡ false

was_passed : (p : List ℕ) → passes p ≡ true → Passed p
unfolding check_answer whole_answer
was_passed p e =
    let v = verdict (check_answer p) e in
    let r = gave (read_answer p) (λ h. part_answer h (data_of h p)) v.0 v.1 in
    let f = (was_read p r.0 r.1).0 in
    let i = (framed p r.0 f).is in
    let w = gave (whole_answer r.0 (data_of r.0 p)) (λ k. verdict_of k r.0 (data_of r.0 p)) v.0 r.2 in
    let a = past (is_piece r.0) 13 _ w.0 w.1 in
    let b = past (is_other r.0.protocol) 12 _ w.0 a.1 in
    let c = past (is_cut r.0.protocol (data_of r.0 p)) 14 _ w.0 b.1 in
    record { frame = f ∙ ap gives i; whole = ap (λ (h : IpRead). is_cut h.protocol (data_of h p)) (sym i) ∙ c.0 }
  where
    verdict : (a : Answer Verdict) → is_passed a ≡ true → (v : Verdict) × (a ≡ gives v)
    verdict (gives v) t = (v, refl)
    verdict (refused n) t = absurd (true≢false (sym t))

-- So is its TCP header there, where its protocol is 6.
uncut : (p : List ℕ) → passes p ≡ true → (header_of p).protocol ≡ 6 → tcp_cut (data_of (header_of p) p) ≡ false
uncut p e six = sym (pick_yes (tcp_cut (data_of (header_of p) p)) _ (eq-eqb _ _ six)) ∙ (was_passed p e).whole

passed_tcp : (p : List ℕ) → passes p ≡ true → (header_of p).protocol ≡ 6 → tcp_read_answer (data_of (header_of p) p) ≡ gives (tcp_of (data_of (header_of p) p))
passed_tcp p e six = pick_no (refused 14) (gives (tcp_of (data_of (header_of p) p))) (uncut p e six)

-- The part is TCP's header at least, and no more than a packet holds.
tcp_long : (p : List ℕ) → passes p ≡ true → (header_of p).protocol ≡ 6 → 20 ≤ length (data_of (header_of p) p)
tcp_long p e six = ltb-false _ _ (or_no _ _ (uncut p e six)).0

pub part_few : (p : List ℕ) → Bytes p → passes p ≡ true → length (data_of (header_of p) p) ≤ most_bytes
part_few p b e = simp (length-take, length-drop) (omega (arith, frame_end p (header_of p) b (was_passed p e).frame, (framed p (header_of p) (was_passed p e).frame).least))

-- ---- the class, by what was read

gave_one : {A : Type 0} (a : Answer A) (x y : A) → a ≡ gives x → a ≡ gives y → x ≡ y
gave_one a x y e f = let g : ◌≡◌ {A = Answer _} (gives x) (gives y) = sym e ∙ f in cc

never : {A : Type 0} (a : Answer A) (x : A) (n : ℕ) → a ≡ gives x → a ≡ refused n → ⊥
never a x n e f = let z : ◌≡◌ {A = ℕ} 0 1 = cc in omega arith

pub header_is : (p : List ℕ) (h : IpRead) → frame_answer p ≡ gives h → header_of p ≡ h
header_is p h e = sym (framed p h e).is

pub never_unframed : (p : List ℕ) (n : ℕ) → passes p ≡ true → frame_answer p ≡ refused n → ⊥
never_unframed p n e f = never (frame_answer p) (header_of p) n (was_passed p e).frame f

-- with the header that was read
passed_is : (cl sv : SocketAddrV4) (p : List ℕ) (h : IpRead) → passes p ≡ true → frame_answer p ≡ gives h → part_class cl sv h (data_of h p) ≡ class_of cl sv p
unfolding class_of
passed_is cl sv p h e f = sym (pick_yes (part_class cl sv (header_of p) (data_of (header_of p) p)) Failed e ∙ ap (λ (g : IpRead). part_class cl sv g (data_of g p)) (header_is p h f))

pub passed_other : (cl sv : SocketAddrV4) (p : List ℕ) (h : IpRead) → passes p ≡ true → frame_answer p ≡ gives h → (h.protocol ≡ 6 → ⊥) → Other ≡ class_of cl sv p
passed_other cl sv p h e f n = sym (pick_no (tcp_class cl sv h (tcp_of (data_of h p)) (length (data_of h p))) Other (ne_eqb _ _ n)) ∙ passed_is cl sv p h e f

-- with both headers
read_tcp : (p : List ℕ) (h : IpRead) → passes p ≡ true → frame_answer p ≡ gives h → h.protocol ≡ 6 → tcp_read_answer (data_of h p) ≡ gives (tcp_of (data_of h p))
read_tcp p h e f six =
    subst (λ (g : IpRead). tcp_read_answer (data_of g p) ≡ gives (tcp_of (data_of g p))) (header_is p h f) (passed_tcp p e (ap (λ (g : IpRead). g.protocol) (header_is p h f) ∙ six))

pub never_cut : (p : List ℕ) (h : IpRead) (n : ℕ) → passes p ≡ true → frame_answer p ≡ gives h → h.protocol ≡ 6 → tcp_read_answer (data_of h p) ≡ refused n → ⊥
never_cut p h n e f six g = never (tcp_read_answer (data_of h p)) (tcp_of (data_of h p)) n (read_tcp p h e f six) g

pub passed_long : (p : List ℕ) (h : IpRead) → passes p ≡ true → frame_answer p ≡ gives h → h.protocol ≡ 6 → 20 ≤ length (data_of h p)
passed_long p h e f six =
    subst (λ (g : IpRead). 20 ≤ length (data_of g p)) (header_is p h f) (tcp_long p e (ap (λ (g : IpRead). g.protocol) (header_is p h f) ∙ six))

pub passed_own : (cl sv : SocketAddrV4) (p : List ℕ) (h : IpRead) (t : tcp_hdr) (r : Class) → passes p ≡ true → frame_answer p ≡ gives h → h.protocol ≡ 6
    → tcp_read_answer (data_of h p) ≡ gives t → r ≡ tcp_class cl sv h t (length (data_of h p)) → r ≡ class_of cl sv p
passed_own cl sv p h t r e f six g k =
    k ∙ ap (λ (u : tcp_hdr). tcp_class cl sv h u (length (data_of h p))) (gave_one (tcp_read_answer (data_of h p)) t (tcp_of (data_of h p)) g (read_tcp p h e f six))
    ∙ sym (pick_yes (tcp_class cl sv h (tcp_of (data_of h p)) (length (data_of h p))) Other (eq-eqb _ _ six)) ∙ passed_is cl sv p h e f

-- ---- the class does not depend on where the data part is

pub class_alike : (cl sv : SocketAddrV4) (p q : List ℕ) (n : ℕ) → check_answer q ≡ check_answer p → header_of q ≡ past_options n (header_of p)
    → data_of (header_of q) q ≡ data_of (header_of p) p → class_of cl sv q ≡ class_of cl sv p
unfolding class_of
class_alike cl sv p q n e f d =
    ap₂ (λ (t : Bool) (c : Class). cond t c Failed) (ap is_passed e)
    (ap (λ (h : IpRead). part_class cl sv h (data_of (header_of q) q)) f ∙ ap (part_class cl sv (header_of p)) d)

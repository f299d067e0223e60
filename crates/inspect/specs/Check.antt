-- The check of a finished packet: document 01, 'Check of a finished packet' and its numbers 13, 12, 14 and 15.
use Rattle.std.specs.Prelude.{ℕ, Bool, not, ◌&&◌, ◌||◌, cond, List, ◌++◌, length, ltb, eqb}
use Rattle.pkt.specs.Answers.{Answer, refused, gives, mapped, and_then}
use Rattle.pkt.specs.Rfc768.{pseudo, udp_sum_at}
use Rattle.inspect.specs.Answers.{whole}
use Rattle.inspect.specs.Header.{field_at, frame_answer, unreserved, read_answer, data_of}
use Rattle.inspect.specs.declared.header.IpRead.{IpRead}
use Rattle.inspect.specs.declared.check.Kind.{Kind}
use Rattle.inspect.specs.declared.check.Kind.TheVariants.{Tcp, Udp, Bare, Icmp}
use Rattle.inspect.specs.declared.check.Whole.{Whole}
use Rattle.inspect.specs.declared.check.Verdict.{Verdict}
use Rattle.inspect.specs.declared.check.Verdict.TheVariants.{Good, NoChecksum}
use Rattle.pkt.specs.Rfc1071.{verifies}

-- 13: "offset not 0, or MF set"
abbrev pub of_many : Bool → ℕ → Bool
of_many mf off = mf || not (eqb off 0)

abbrev pub is_piece : IpRead → Bool
is_piece h = of_many h.mf h.off

-- 12: "protocol is not 1, 6 or 17"
abbrev pub is_other : ℕ → Bool
is_other p = not (eqb p 1) && (not (eqb p 6) && not (eqb p 17))

-- 14: "transport part under 20 (TCP)"; "TCP data offset byte not 0x50"
abbrev pub tcp_cut : List ℕ → Bool
tcp_cut d = ltb (length d) 20 || not (eqb (field_at d 12 1) 0x50)

-- 14: "or 8 bytes"; "UDP length not the IPv4 payload's"
abbrev pub udp_cut : List ℕ → Bool
udp_cut d = ltb (length d) 8 || not (eqb (field_at d 4 2) (length d))

abbrev pub is_cut : ℕ → List ℕ → Bool
is_cut p d = cond (eqb p 6) (tcp_cut d) (cond (eqb p 17) (udp_cut d) (ltb (length d) 8))

-- the kind of a transport part: TCP, UDP, UDP whose checksum's field is 0, ICMP
abbrev pub kind_of : ℕ → List ℕ → Kind
kind_of p d = cond (eqb p 6) Tcp (cond (eqb p 17) (cond (eqb (field_at d udp_sum_at 2) 0) Bare Udp) Icmp)

-- What kind of packet a header and its data part are, and whether it is whole: 13, 12, 14.
unfoldable pub whole_answer : IpRead → List ℕ → Answer Kind
whole_answer h d =
    cond (is_piece h) (refused 13) (cond (is_other h.protocol) (refused 12)
    (cond (is_cut h.protocol d) (refused 14) (gives (kind_of h.protocol d))))

-- RFC 768 and RFC 9293, 3.1: a transport part verifies with its pseudo header before it
abbrev pub verifies_behind_pseudo : IpRead → ℕ → List ℕ → Bool
verifies_behind_pseudo h p d = verifies (pseudo h.saddr h.daddr p (length d) ++ d)

-- 15: "transport checksum does not verify"; "It answers good, good without checksum (UDP field 0), or a refusal."
abbrev pub unless_bad : Bool → Answer Verdict
unless_bad t = cond t (gives Good) (refused 15)

-- Whether the sums of a whole packet verify. A UDP field of 0 is not summed.
unfoldable pub verdict_of : Kind → IpRead → List ℕ → Answer Verdict
verdict_of Tcp h d = unless_bad (verifies_behind_pseudo h 6 d)
verdict_of Udp h d = unless_bad (verifies_behind_pseudo h 17 d)
verdict_of Bare h d = gives NoChecksum
verdict_of Icmp h d = unless_bad (verifies d)

-- a header and its data part: 13, 12, 14, 15
abbrev pub part_answer : IpRead → List ℕ → Answer Verdict
part_answer h d = and_then (whole_answer h d) (λ k. verdict_of k h d)

-- the check's answer: 4, 5, 6, 4, 7, 18, 13, 12, 14, 15
unfoldable pub check_answer : List ℕ → Answer Verdict
check_answer l = and_then (read_answer l) (λ h. part_answer h (data_of h l))

-- the answer of the check up to its sums, the header and the kind of what it would call good if 7 and 15 were never given: 4, 5, 6, 4, 18, 13, 12, 14
unfoldable pub examine_answer : List ℕ → Answer Whole
examine_answer l = and_then (and_then (frame_answer l) unreserved) (λ h. mapped (whole h) (whole_answer h (data_of h l)))

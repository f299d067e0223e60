-- What each answer is to C. The status is 0 where the call was carried out, and else the refusal's number; on a refusal all else is 0, but a
-- flow or an assembly that was handed in comes back as it was, and a refusal with an index has it.
use Rattle.std.specs.Prelude.{ℕ, true, false, cond, get_or, is_some, unwrap_or}
use Rattle.std.specs.Bool.{then_some}
use Rattle.pkt.specs.Answers.{Answer, refused, gives, ListAnswer, refused_whole, refused_at, gives_all}
use Rattle.tcp4.specs.Tcp4 as tcp
use Rattle.ezpkt.specs.declared.icmp4.IcmpFlow.{IcmpFlow}
use Rattle.ezpkt.specs.declared.icmp4.EchoSent.{EchoSent}
use Rattle.tcp4.specs.declared.TcpFlow.{TcpFlow}
use Rattle.tcp4.specs.declared.PushedState.{PushedState}
use Rattle.tcp4.specs.declared.Seq.{Seq}
use Rattle.tcp4.specs.declared.Seq.TheVariants.{Is, Nothing}
use Rattle.ezpkt.specs.declared.udp4.Choices.{Choices}
use Rattle.inspect.specs.declared.check.Verdict.{Verdict}
use Rattle.inspect.specs.declared.check.Verdict.TheVariants.{Good, NoChecksum}
use Rattle.assembly.specs.declared.Outcome.{Outcome}
use Rattle.assembly.specs.declared.Outcome.TheVariants.{Waiting, Complete, Spoilt}
use Rattle.assembly.specs.declared.Taken.{Taken}
use Rattle.assembly.specs.Answers.{Standing}
use Rattle.assembly.specs.declared.Rec.{Rec}
use Rattle.wispbundle.specs.declared.sums.wb_sum.{wb_sum}
use Rattle.wispbundle.specs.declared.lengths.wb_length.{wb_length}
use Rattle.wispbundle.specs.declared.building.wb_listed.{wb_listed}
use Rattle.wispbundle.specs.declared.tcp.wb_tcp_sent.{wb_tcp_sent}
use Rattle.wispbundle.specs.declared.tcp.wb_seq.{wb_seq}
use Rattle.wispbundle.specs.declared.tcp.wb_pushed.{wb_pushed}
use Rattle.wispbundle.specs.declared.icmp.wb_icmp_sent.{wb_icmp_sent}
use Rattle.wispbundle.specs.declared.udp.wb_choices.{wb_choices}
use Rattle.wispbundle.specs.declared.checking.wb_checked.{wb_checked}
use Rattle.wispbundle.specs.declared.assembling.wb_assembly.{wb_assembly}
use Rattle.wispbundle.specs.declared.assembling.wb_opened.{wb_opened}
use Rattle.wispbundle.specs.declared.assembling.wb_taken.{wb_taken}
use Rattle.wispbundle.specs.declared.assembling.wb_progress.{wb_progress}

-- a checksum
abbrev pub sum_for : Answer ℕ → wb_sum
sum_for (gives c) = record { status = 0; sum = c }
sum_for (refused n) = record { status = n; sum = 0 }

-- how many bytes were written
abbrev pub length_for : Answer ℕ → wb_length
length_for (gives k) = record { status = 0; length = k }
length_for (refused n) = record { status = n; length = 0 }

-- how many bytes were written for a list; on a refusal that is for one of the list, the index of the first such
abbrev pub listed_for : ListAnswer ℕ → wb_listed
listed_for (gives_all k) = record { status = 0; length = k; index = 0 }
listed_for (refused_whole n) = record { status = n; length = 0; index = 0 }
listed_for (refused_at n i) = record { status = n; length = 0; index = i }

-- ---- flows

abbrev pub tcp_ends : ℕ → TcpFlow → ℕ → ℕ → ℕ → wb_tcp_sent
tcp_ends n f a b c = record { status = n; flow = f; first = a; second = b; third = c }

-- the flow after packets, and where the first, the second and the third of them end, as far as there are so many
abbrev pub tcp_for : TcpFlow → Answer tcp.Gone → wb_tcp_sent
tcp_for f (gives g) = tcp_ends 0 g.flow (get_or g.ends 0 0) (get_or g.ends 1 0) (get_or g.ends 2 0)
tcp_for f (refused n) = tcp_ends n f 0 0 0

-- a number for a side, or nothing for it; and back
abbrev pub seq_from : wb_seq → Seq
seq_from s = cond s.is_set (Is s.number) Nothing

abbrev pub seq_for : Seq → wb_seq
seq_for (Is n) = record { is_set = true; number = n }
seq_for Nothing = record { is_set = false; number = 0 }

abbrev pub pushed_for : PushedState → wb_pushed
pushed_for p = record { flow = p.flow; cl = seq_for p.cl; sv = seq_for p.sv }

-- the flow after an echo, and the echo's length
abbrev pub icmp_for : IcmpFlow → Answer EchoSent → wb_icmp_sent
icmp_for f (gives g) = record { status = 0; flow = g.flow; length = g.size }
icmp_for f (refused n) = record { status = n; flow = f; length = 0 }

-- another source address than the flow's, or none
abbrev pub choices_of : wb_choices → Choices
choices_of x = record { srcip = then_some x.other_source x.srcip; frag_off = x.frag_off; csum = x.csum }

-- ---- the check

abbrev pub checked_for : Answer Verdict → wb_checked
checked_for (gives Good) = record { status = 0; no_checksum = false }
checked_for (gives NoChecksum) = record { status = 0; no_checksum = true }
checked_for (refused n) = record { status = n; no_checksum = false }

-- ---- an assembly

-- the record that C hands in, "total (known or not)"; and back
abbrev pub rec_of : wb_assembly → Rec
rec_of a = record { key = a.key; total = then_some a.known a.total; floor = a.floor; spoilt = a.spoilt }

abbrev pub assembly_for : Rec → wb_assembly
assembly_for r =
    record { key = r.key; known = is_some r.total; total = unwrap_or r.total 0; floor = r.floor; spoilt = r.spoilt }

abbrev pub no_assembly : wb_assembly
no_assembly =
    record { key = record { saddr = 0; daddr = 0; id = 0; protocol = 0 }; known = false; total = 0; floor = 0; spoilt = false }

abbrev pub opened_for : Answer Rec → wb_opened
opened_for (gives r) = record { status = 0; assembly = assembly_for r }
opened_for (refused n) = record { status = n; assembly = no_assembly }

-- "waiting, complete or spoilt"
abbrev pub outcome_for : Outcome → ℕ
outcome_for Waiting = 1
outcome_for Complete = 2
outcome_for Spoilt = 3

abbrev pub accepted_for : ℕ → Rec → wb_taken
accepted_for o r = record { status = 0; outcome = o; assembly = assembly_for r }

abbrev pub taken_for : wb_assembly → Answer Taken → wb_taken
taken_for a (gives t) = accepted_for (outcome_for t.answer) t.rec
taken_for a (refused n) = record { status = n; outcome = 0; assembly = a }

-- how an assembly stands
abbrev pub stood_for : ℕ → ℕ → wb_progress
stood_for o n = record { status = 0; outcome = o; length = n }

abbrev pub progress_for : Answer Standing → wb_progress
progress_for (gives s) = stood_for (outcome_for s.answer) s.bytes
progress_for (refused n) = record { status = n; outcome = 0; length = 0 }

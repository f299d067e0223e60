-- Document 01, 'Numbered answers': the numbers that a call can give.
use Rattle.std.specs.Prelude.{◌≡◌, Bool, true, false, ◌||◌, List, [], ◌∷◌, ℕ, suc, ◌<◌, eqb, length, Result, Option}
use Rattle.pkt.specs.Answers.{Answer, refused, gives, says, ListAnswer, refused_whole, refused_at, gives_all, list_says, unless_long}
use Rattle.pkt.specs.declared.refusal.Refusal.{Refusal}
use Rattle.pkt.specs.declared.refusal.ListRefusal.{ListRefusal}
use Rattle.pkt.specs.declared.ipv4.tcp_hdr.{tcp_hdr}
use Rattle.ezpkt.specs.Build.{answer_of, Answered}
use Rattle.ezpkt.specs.Icmp4 as icmp
use Rattle.tcp4.specs.Tcp4 as tcp
use Rattle.pieces.specs.Fragments.{Fragmented}
use Rattle.ezpkt.specs.declared.SocketAddrV4.{SocketAddrV4}
use Rattle.ezpkt.specs.declared.build.Request.{Request}
use Rattle.ezpkt.specs.declared.build.Request.TheVariants.{Tcp, Udp, Echo, Piece}
use Rattle.ezpkt.specs.declared.build.IcmpEcho.{IcmpEcho}
use Rattle.ezpkt.specs.declared.ip4.Template.{Template}
use Rattle.ezpkt.specs.declared.icmp4.IcmpFlow.{IcmpFlow}
use Rattle.ezpkt.specs.declared.icmp4.EchoSent.{EchoSent}
use Rattle.tcp4.specs.declared.TcpFlow.{TcpFlow}
use Rattle.tcp4.specs.declared.Sent.{Sent}
use Rattle.pieces.specs.declared.BlockRequest.{BlockRequest}
use Rattle.inspect.specs.Header.{frame_answer, read_answer}
use Rattle.inspect.specs.Check.{examine_answer, check_answer}
use Rattle.inspect.specs.Tcp.{tcp_read_answer}
use Rattle.inspect.specs.declared.header.IpRead.{IpRead}
use Rattle.inspect.specs.declared.check.Whole.{Whole}
use Rattle.inspect.specs.declared.check.Verdict.{Verdict}
use Rattle.assembly.specs.declared.Key.{Key}
use Rattle.assembly.specs.declared.Rec.{Rec}
use Rattle.assembly.specs.declared.Taken.{Taken}
use Rattle.assembly.specs.declared.carried.Misfit.{Misfit}
use Rattle.assembly.specs.Assembly.{State}
use Rattle.assembly.specs.declared.step.Progress.{Progress}
use Rattle.assembly.specs.Answers.{fit_says, progress_says}
use Rattle.assembly.specs.Carried.{fit_answer}
use Rattle.assembly.specs.Calls.{Opens, Takes, Puts, stands_answer}
use Rattle.table.specs.Table.{table_take, Tables, TakesOut, Discards}
use Rattle.table.specs.declared.Slot.{Slot}
use Rattle.table.specs.declared.After.{After}
use Rattle.assembly.specs.declared.Outcome.{Outcome}
use Rattle.packet.specs.Answers as packet
use Rattle.packet.specs.declared.Packet.{Packet}
use Rattle.packet.specs.declared.PktSlice.{PktSlice}
use Rattle.packet.specs.declared.Grown.{Grown}
use Rattle.planner.specs.Answers.{judge_answer, Decided, Plans}
use Rattle.planner.specs.declared.Job.{Job}
use Rattle.feed.specs.Feed.{Feeds}
use Rattle.feed.specs.declared.Feed.{Feed}
use Rattle.feed.specs.declared.Written.{Written}
use Rattle.reading.specs.Reading.{step_at}
use Rattle.reading.specs.declared.Spot.{Spot}
use Rattle.reporting.specs.Report.{Reports}
use Rattle.reporting.specs.declared.Report.{Report}
use Rattle.exporting.specs.Export.{Exports}
use Rattle.mending.specs.Mend.{Mends}
use Rattle.mending.specs.declared.Counts.{Counts}
use Rattle.pcap.specs.Answers.{record_answer, HeaderWritten, RecordWritten}

abbrev pub is_in : ℕ → List ℕ → Bool
is_in n [] = false
is_in n (m ∷ ms) = eqb n m || is_in n ms

-- an answer that is no refusal, or one by a number of ns
pub data Among {A : Type 0} (ns : List ℕ) : Answer A → Type 0 where
  number : (n : ℕ) → is_in n ns ≡ true → Among ns (refused n)
  accepted : (a : A) → Among ns (gives a)

-- over a list of count elements: one that is no refusal, or one of the whole by a number of ns, or one by a number of ms with an element's index
pub data AmongList {A : Type 0} (ns ms : List ℕ) (count : ℕ) : ListAnswer A → Type 0 where
  number_whole : (n : ℕ) → is_in n ns ≡ true → AmongList ns ms count (refused_whole n)
  number_at : (n i : ℕ) → is_in n ms ≡ true → i < count → AmongList ns ms count (refused_at n i)
  accepted_all : (a : A) → AmongList ns ms count (gives_all a)

-- "building 1, 2, 3", of which 2 is "piece offset above 8,191"; document 02, T-09: "22, first of the building order for UDP"
abbrev pub build_numbers : Request → List ℕ
build_numbers (Tcp t) = 1 ∷ 3 ∷ []
build_numbers (Udp u) = 22 ∷ 1 ∷ 3 ∷ []
build_numbers (Echo e) = 1 ∷ 3 ∷ []
build_numbers (Piece q) = 1 ∷ 2 ∷ 3 ∷ []

-- Every public call of the library crates that can refuse.
pub record Numbered : Type 0 where
  -- "The checksum gives only 1.": `ip_csum`, `transport_csum`, `tcp_csum`, `udp_csum`, `icmp_csum`
  pub summing : (most n c : ℕ) (r : Result ℕ Refusal) → says r ≡ unless_long most n c → Among (1 ∷ []) (says r)
  -- `answer`
  pub answering : (q : Request) (n room : ℕ) (r : Result ℕ Refusal) → says r ≡ answer_of q n room → Among (build_numbers q) (says r)
  -- `build`, `fragment`, `tail`, `datagram`, `client_dgram`, `server_dgram`
  pub building : (q : Request) (p o : List ℕ) (r : Result ℕ Refusal) (o' : List ℕ) → Answered q p o r o' → Among (build_numbers q) (says r)
  -- `echo`, `echo_reply`
  pub echoing : (e : IcmpEcho) (f : IcmpFlow) (p o : List ℕ) (r : Result EchoSent Refusal) (o' : List ℕ) → icmp.Echoed (Echo e) f p o r o'
      → Among (1 ∷ 3 ∷ []) (says r)
  -- the calls of `TcpFlow` that send
  pub sending : (f : TcpFlow) (es : List tcp.Emit) (o : List ℕ) (r : Result Sent Refusal) (o' : List ℕ) → tcp.Sends f es o r o' → Among (1 ∷ 3 ∷ []) (tcp.sent_says r)
  -- `fragments`: 1 and 3 of the whole list, and 2 with the index of a request
  pub cutting : (t : Template) (rs : List BlockRequest) (p o e : List ℕ) (r : Result ℕ ListRefusal) (o' e' : List ℕ) → Fragmented t rs p o e r o' e'
      → AmongList (1 ∷ 3 ∷ []) (2 ∷ []) (length rs) (list_says r)
  -- "opening gives only 11"
  pub opening : (C M : ℕ) (k : Key) (d m : List ℕ) (r : Result Rec Refusal) (d' m' : List ℕ) → Opens C M k d m r d' m' → Among (11 ∷ []) (says r)
  -- "Assembly 11, 4 (under 20), 5, 6, 4 (total), 7, 8, 9, 10", and document 02's 18, "directly after 7 in both orders"
  pub taking : (C M : ℕ) (s : State) (l : List ℕ) (r : Result Taken Refusal) (d m : List ℕ) → Takes C M s l r d m
      → Among (11 ∷ 4 ∷ 5 ∷ 6 ∷ 7 ∷ 18 ∷ 8 ∷ 9 ∷ 10 ∷ []) (says r)
  -- of these 9, and 10 or the number `far`, by `carried::fit`,
  pub placing : (C far n : ℕ) (h : IpRead) (r : Result IpRead Misfit) → fit_says far r ≡ fit_answer C far n h → Among (9 ∷ far ∷ []) (fit_says far r)
  -- 11, 9 and 10 by `any::put`,
  pub putting : (s : State) (h : IpRead) (b : List ℕ) (r : Result Taken Refusal) (d m : List ℕ) → Puts s h b r d m → Among (11 ∷ 9 ∷ 10 ∷ []) (says r)
  -- and 11 by `progress` and `any::progress`
  pub progressing : (ok : Bool) (s : State) (r : Result Progress Refusal) → progress_says r ≡ stands_answer ok s → Among (11 ∷ []) (progress_says r)
  -- Document 02, T-03: a table's `take` gives 11, 4, 5, 6, 7, 18, 9, 20 and 19: "8 does not arise here", nor does 10;
  pub tabling : (t : List Slot) (d m l : List ℕ) (r : After Outcome) (d' m' : List ℕ) → Tables (table_take t d m l) t d m r d' m'
      → Among (11 ∷ 4 ∷ 5 ∷ 6 ∷ 7 ∷ 18 ∷ 9 ∷ 20 ∷ 19 ∷ []) (says r.answer)
  -- "for taking, 11, 27 .., 3; for discarding, 11, 27": `take_out`, `discard`
  pub taking_out : (t : List Slot) (d m : List ℕ) (k : Key) (o : List ℕ) (r : After ℕ) (d' m' o' : List ℕ) → TakesOut t d m k o r d' m' o'
      → Among (11 ∷ 27 ∷ 3 ∷ []) (says r.answer)
  pub discarding : (t : List Slot) (d m : List ℕ) (k : Key) (r : After (Unit {0})) (d' m' : List ℕ) → Discards t d m k r d' m'
      → Among (11 ∷ 27 ∷ []) (says r.answer)
  -- "Packet check 4, 5, 6, 4, 7, 13, 12, 14, 15", with 18 after 7, and its parts: `frame`,
  pub framing : (l : List ℕ) (r : Result IpRead Refusal) → says r ≡ frame_answer l → Among (4 ∷ 5 ∷ 6 ∷ []) (says r)
  -- `header::read`,
  pub reading : (l : List ℕ) (r : Result IpRead Refusal) → says r ≡ read_answer l → Among (4 ∷ 5 ∷ 6 ∷ 7 ∷ 18 ∷ []) (says r)
  -- `examine`,
  pub examining : (l : List ℕ) (r : Result Whole Refusal) → says r ≡ examine_answer l → Among (4 ∷ 5 ∷ 6 ∷ 18 ∷ 13 ∷ 12 ∷ 14 ∷ []) (says r)
  -- `tcp::read`,
  pub tcp_reading : (d : List ℕ) (r : Result tcp_hdr Refusal) → says r ≡ tcp_read_answer d → Among (14 ∷ []) (says r)
  -- and `check`.
  pub checking : (l : List ℕ) (r : Result Verdict Refusal) → says r ≡ check_answer l → Among (4 ∷ 5 ∷ 6 ∷ 7 ∷ 18 ∷ 13 ∷ 12 ∷ 14 ∷ 15 ∷ []) (says r)
  -- "Capture 1, 17, 3": `record_answer`, `write_record`
  pub recording : (n usec room : ℕ) (r : Result ℕ Refusal) → says r ≡ record_answer n usec room → Among (1 ∷ 17 ∷ 3 ∷ []) (says r)
  pub capturing : (sec usec : ℕ) (d o : List ℕ) (r : Result ℕ Refusal) (o' : List ℕ) → RecordWritten sec usec d o r o' → Among (1 ∷ 17 ∷ 3 ∷ []) (says r)
  -- `write_header`
  pub heading : (o : List ℕ) (r : Result ℕ Refusal) (o' : List ℕ) → HeaderWritten o r o' → Among (3 ∷ []) (says r)
  -- Document 02, T-08, "23 .., 25 with the record number .., then 3": a reader's `here`, or `step_at`, behind k records, and `mend`
  pub stepping : (l : List ℕ) (at k : ℕ) (r : Result (Option Spot) ListRefusal) → list_says r ≡ step_at l at k → AmongList (23 ∷ []) (25 ∷ []) (suc k) (list_says r)
  pub mending : (l o : List ℕ) (e : List (List ℕ)) (r : Result Counts ListRefusal) (o' : List ℕ) (e' : List (List ℕ)) → Mends l o e r o' e'
      → AmongList (23 ∷ 3 ∷ []) (25 ∷ []) (length l) (list_says r)
  -- Document 02, T-14, "23, 25 as in T-08, then 17 with the record number, then 3": `export`
  pub exporting : (l o : List ℕ) (r : Result ℕ ListRefusal) (o' : List ℕ) → Exports l o r o' → AmongList (23 ∷ 3 ∷ []) (25 ∷ 17 ∷ []) (length l) (list_says r)
  -- Document 02, T-10, "26 for a longer list, then 25 with the first index": `flow_report`, over so many ends
  pub reporting : (l es : List ℕ) (cl sv : SocketAddrV4) (r : Result Report ListRefusal) → Reports l es cl sv r → AmongList (26 ∷ []) (25 ∷ []) (length es) (list_says r)
  -- Document 02, T-07, "The check .. refuses with 1. Refusals of the planner: 1, then 21 .., then 3": `is_plan` and `judge`, `decide`, `plan`
  pub judging : (n : ℕ) (b : Bool) (r : Result Bool Refusal) → says r ≡ judge_answer n b → Among (1 ∷ []) (says r)
  pub deciding : (n m places : ℕ) (r : Result Job Refusal) → Decided n m places r → Among (1 ∷ 21 ∷ 3 ∷ []) (says r)
  pub planning : (n m : ℕ) (l : List BlockRequest) (r : Result ℕ Refusal) (l' : List BlockRequest) → Plans n m l r l' → Among (1 ∷ 21 ∷ 3 ∷ []) (says r)
  -- Document 02, T-05, "1, 24 .., 17, 3": a feed's `frame` (`begin` is `write_header`)
  pub feeding : (f : Feed) (b : List ℕ) (sec usec : ℕ) (s o : List ℕ) (r : Result Written Refusal) (s' o' : List ℕ) → Feeds f b sec usec s o r s' o'
      → Among (1 ∷ 24 ∷ 17 ∷ 3 ∷ []) (says r)
  -- "Headroom and dump 16, then 3", of the calls that write where there may be no room: `Packet::new`,
  pub making : (h : ℕ) (b : List ℕ) (r : Result Packet Refusal) (b' : List ℕ) → packet.MadeNew h b r b' → Among (16 ∷ 3 ∷ []) (says r)
  -- `push_slice`, `push_bytes`, `push_hdr`, `push`,
  pub appending : (p : Packet) (k : ℕ) (d b : List ℕ) (r : Result Grown Refusal) (b' : List ℕ) → packet.Appended p k d b r b' → Among (16 ∷ 3 ∷ []) (says r)
  -- `to_vec`, `to_vec_from`, `hex_dump`;
  pub copying : (ok : Bool) (k : ℕ) (d o : List ℕ) (r : Result ℕ Refusal) (o' : List ℕ) → packet.CopiedOut ok k d o r o' → Among (16 ∷ 3 ∷ []) (says r)
  -- and 16 alone of the others: `lower_headroom_for`,
  pub prepending : (p : Packet) (d b : List ℕ) (r : Result Grown Refusal) (b' : List ℕ) → packet.Prepended p d b r b' → Among (16 ∷ []) (says r)
  -- `lower_headroom`,
  pub lowering : (p : Packet) (k n : ℕ) (r : Result Grown Refusal) → says r ≡ packet.lower_answer p k n → Among (16 ∷ []) (says r)
  -- `return_headroom`,
  pub returning : (p : Packet) (s : PktSlice) (n : ℕ) (r : Result Packet Refusal) → says r ≡ packet.return_answer p s n → Among (16 ∷ []) (says r)
  -- `headroom`, `len`, `bit_time`, `hex_dump_len`,
  pub counting : (p : Packet) (n k : ℕ) (r : Result ℕ Refusal) → says r ≡ packet.if_valid p n (gives k) → Among (16 ∷ []) (says r)
  -- `is_empty`,
  pub testing : (p : Packet) (n : ℕ) (t : Bool) (r : Result Bool Refusal) → says r ≡ packet.if_valid p n (gives t) → Among (16 ∷ []) (says r)
  -- `as_slice`.
  pub viewing : (p : Packet) (n : ℕ) (s : PktSlice) (r : Result PktSlice Refusal) → says r ≡ packet.if_valid p n (gives s) → Among (16 ∷ []) (says r)

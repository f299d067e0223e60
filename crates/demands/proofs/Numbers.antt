-- The numbers that a call can give: each decision is a chain of tests, and each test names its number.
use mathlib.Core.Path.{◌≡◌, refl, sym, ap, subst, ◌∙◌}
use mathlib.Core.Bool.{Bool, true, false, not, ◌||◌, cond, true≢false}
use mathlib.Core.List.{List, [], ◌∷◌}
use Prim.Native.Nat.{ℕ, zero, suc, ◌+◌, ◌*◌, ◌≤◌, ◌<◌}
use native.Mathlib.Omega.{arith}
use lib.Dec.{ltb, eqb}
use lib.ListN.{length, take, drop, length-take, length-drop}
use borrow.Author.Tests.{ltb-true, eq-eqb}
use Rattle.pkt.specs.Answers.{Answer, refused, gives, and_then, mapped, ListAnswer, refused_whole, refused_at, gives_all, unless_long, fitting}
use Rattle.ezpkt.specs.Build.{size_of, sized_answer, answer_of}
use Rattle.ezpkt.specs.Icmp4.{echo_gone}
use Rattle.tcp4.specs.Tcp4 as tcp
use Rattle.pieces.specs.Fragments.{sum_of, first_bad, fragments_answer}
use Rattle.ezpkt.specs.declared.build.Request.{Request}
use Rattle.ezpkt.specs.declared.build.Request.TheVariants.{Tcp, Udp, Echo, Piece}
use Rattle.tcp4.specs.declared.TcpFlow.{TcpFlow}
use Rattle.pieces.specs.declared.BlockRequest.{BlockRequest}
use Rattle.inspect.specs.declared.check.Verdict.TheVariants.{Good}
use Rattle.inspect.specs.Answers as inspect
use Rattle.inspect.specs.Header.{header_of, not_ipv4, frame_answer, summed, unreserved, read_answer, data_of}
use Rattle.inspect.specs.Check.{is_piece, is_other, tcp_cut, is_cut, whole_answer, verifies_behind_pseudo, verdict_of, check_answer, examine_answer}
use Rattle.inspect.specs.declared.header.IpRead.{IpRead}
use Rattle.inspect.specs.declared.check.Kind.{Kind}
use Rattle.inspect.specs.declared.check.Kind.TheVariants as kind
use Rattle.assembly.specs.Assembly.{State, opened, step, outcome, complete, held_bytes}
use Rattle.assembly.specs.declared.Key.{Key}
use Rattle.assembly.specs.View.{record_of, piece}
use Rattle.assembly.specs.Answers.{reply_of, standing_of}
use Rattle.assembly.specs.Carried.{key_of, same_key, broken, fit_answer, keyed_answer, head_answer, piece_of, piece_answer}
use Rattle.assembly.specs.Calls.{sized, usable, open_answer, take_answer, ready, put_answer, stands_answer}
use Rattle.table.specs.declared.Slot.{Slot}
use Rattle.std.specs.Prelude.{Option, Some, None}
use Rattle.table.specs.Slots.{slot_bytes, state_at, key_from, free_from, table_fits}
use Rattle.table.specs.Table.{opened_at, placed_at, place_for, stepped_by, piece_for, table_take, held_for, discard_answer, outing, out_answer}
use Rattle.packet.specs.Headroom.{most_end, valid, leads}
use Rattle.packet.specs.Answers.{if_valid, lower_answer, copy_answer}
use Rattle.packet.specs.declared.Packet.{Packet}
use Rattle.planner.specs.Cutting.{piece_count}
use Rattle.planner.specs.Answers.{can_plan, plan_answer, job_for}
use Rattle.feed.specs.Feed.{bad_link, frame_size, feed_answer, written_for}
use Rattle.pcap.specs.Pcap.{file_header}
use Rattle.pcap.specs.Answers.{most_micros, record_answer}
use Rattle.pcap.specs.Read.{Recorded, Records, whole, broken_after, in_front, record_at, record_size, is_broken, records_in, records_of}
use Rattle.pcap.proofs.Pcap.{file_header_length}
use Rattle.reading.specs.Reading.{starts_with, header_size, spot_at, step_at}
use Rattle.reading.specs.Ends.{all_of, records_answer}
use Rattle.reading.proofs.Stepping.{steps_read}
use Rattle.ezpkt.specs.declared.SocketAddrV4.{SocketAddrV4}
use Rattle.reporting.specs.Report.{first_wrong, most_packets, report_answer}
use Rattle.exporting.specs.Pcapng.{exported}
use Rattle.exporting.specs.Export.{unless_late, answer_for, export_answer}
use Rattle.mending.specs.Mend.{changes, room_answer, and_then_all, mend_answer}
use Rattle.mending.proofs.Records.{whole_of}
use Rattle.demands.specs.Numbers.{is_in, Among, number, accepted, AmongList, number_whole, number_at, accepted_all, build_numbers, Numbered}
use Rattle.pkt.specs.Rfc1071.{verifies}

-- a test that refuses by x where it holds, or where it does not, and what follows
refusing : {A : Type 0} (ns : List ℕ) (t : Bool) (x : ℕ) (rest : Answer A) → is_in x ns ≡ true → Among ns rest → Among ns (cond t (refused x) rest)
refusing ns true x rest h r = number x h
refusing ns false x rest h r = r

unless : {A : Type 0} (ns : List ℕ) (t : Bool) (x : ℕ) (rest : Answer A) → is_in x ns ≡ true → Among ns rest → Among ns (cond t rest (refused x))
unless ns true x rest h r = r
unless ns false x rest h r = number x h

-- two decisions, and what is made of an answer
then_in : {A B : Type 0} (ns : List ℕ) (a : Answer A) (f : A → Answer B) → Among ns a → ((x : A) → Among ns (f x)) → Among ns (and_then a f)
then_in ns (refused n) f (number m h) g = number m h
then_in ns (gives a) f r g = g a

pub mapped_in : {A B : Type 0} (ns : List ℕ) (f : A → B) (a : Answer A) → Among ns a → Among ns (mapped f a)
mapped_in ns f (refused n) (number m h) = number m h
mapped_in ns f (gives a) r = accepted (f a)

-- No refusal has the number 0 where 0 is not among the numbers.
pub above_0 : {A : Type 0} (ns : List ℕ) (a : Answer A) → is_in 0 ns ≡ false → Among ns a → (n : ℕ) → a ≡ refused n → 0 < n
above_0 ns (gives a) none r n e = let z : ◌≡◌ {A = ℕ} 0 1 = cc in absurd (omega arith)
above_0 ns (refused zero) none (number m h) n e = let z : ◌≡◌ {A = Bool} true false = sym h ∙ none in absurd (true≢false z)
above_0 ns (refused (suc m)) none r n e = let z : suc m ≡ n = cc in omega (arith, z)

pub summed_in : (most n c : ℕ) → Among (1 ∷ []) (unless_long most n c)
summed_in most n c = refusing _ (ltb most n) 1 _ refl (accepted c)

pub fitting_in : (size room : ℕ) → Among (3 ∷ []) (fitting size room)
fitting_in size room = refusing _ (ltb room size) 3 _ refl (accepted size)

-- ---- building

sized_in : (ns : List ℕ) (most head n room : ℕ) → is_in 1 ns ≡ true → is_in 3 ns ≡ true → Among ns (sized_answer most head n room)
sized_in ns most head n room one three = refusing ns (ltb most n) 1 _ one (refusing ns (ltb room (head + n)) 3 _ three (accepted _))

pub built_in : (q : Request) (n room : ℕ) → Among (build_numbers q) (answer_of q n room)
built_in (Tcp t) n room = sized_in _ 65495 40 n room refl refl
built_in (Udp u) n room = unless _ u.csum 22 _ refl (sized_in _ 65507 28 n room refl refl)
built_in (Echo t) n room = sized_in _ 65507 28 n room refl refl
built_in (Piece q) n room =
    let size : ℕ = size_of (Piece q) n in
    refusing _ (ltb 65515 n) 1 _ refl (refusing _ (ltb 8191 q.off) 2 _ refl (refusing _ (ltb room size) 3 _ refl (accepted size)))

pub sent_in : (f : TcpFlow) (es : List tcp.Emit) (room : ℕ) → Among (1 ∷ 3 ∷ []) (tcp.send_answer f es room)
sent_in f es room = refusing _ (tcp.any_long es) 1 _ refl (refusing _ (ltb room (tcp.size_all es)) 3 _ refl (accepted _))

-- ---- building from a list of count requests

module _ {A : Type 0} (ns ms : List ℕ) (count : ℕ) where
  -- a test that refuses the whole by x, and what follows
  refusing_whole : (t : Bool) (x : ℕ) (rest : ListAnswer A) → is_in x ns ≡ true → AmongList ns ms count rest
      → AmongList ns ms count (cond t (refused_whole x) rest)
  refusing_whole true x rest h r = number_whole x h
  refusing_whole false x rest h r = r

  -- one that refuses by x where i is a request's index
  refusing_at : (i x : ℕ) (rest : ListAnswer A) → is_in x ms ≡ true → AmongList ns ms count rest
      → AmongList ns ms count (cond (ltb i count) (refused_at x i) rest)
  refusing_at i x rest h r = go (ltb i count) refl
    where
      go : (t : Bool) → ltb i count ≡ t → AmongList ns ms count (cond t (refused_at x i) rest)
      go true e = number_at x i h (ltb-true i count e)
      go false e = r

-- 1 of the payload, 2 of the first offset that is too large, 3 of the output and of the places for ends
pub fragments_in : (rs : List BlockRequest) (n room places : ℕ) → AmongList (1 ∷ 3 ∷ []) (2 ∷ []) (length rs) (fragments_answer rs n room places)
fragments_in rs n room places =
    refusing_whole _ _ _ (ltb 65515 n) 1 _ refl
    (refusing_at _ _ _ (first_bad rs) 2 _ refl (refusing_whole _ _ _ (ltb room (sum_of n rs) || ltb places (length rs)) 3 _ refl (accepted_all _)))

-- ---- reading, where 4, 5 and 6 are among the numbers

module _ (ns : List ℕ) (four : is_in 4 ns ≡ true) (five : is_in 5 ns ≡ true) (six : is_in 6 ns ≡ true) where
  frame_in : (l : List ℕ) → Among ns (frame_answer l)
  unfolding frame_answer
  frame_in l =
      refusing ns (ltb (length l) 20) 4 _ four
      (refusing ns (not_ipv4 l) 5 _ five
      (refusing ns (ltb (header_of l).end (header_of l).start) 6 _ six (refusing ns (ltb (length l) (header_of l).end) 4 _ four (accepted _))))

  -- and 18
  clear_in : is_in 18 ns ≡ true → (a : Answer IpRead) → Among ns a → Among ns (and_then a unreserved)
  clear_in eighteen a given = then_in ns a _ given (λ h. refusing ns h.evil 18 _ eighteen (accepted h))

  -- and 7
  read_in_lem : is_in 7 ns ≡ true → is_in 18 ns ≡ true → (l : List ℕ) → Among ns (read_answer l)
  unfolding read_answer
  read_in_lem seven eighteen l =
      clear_in eighteen (and_then (frame_answer l) (summed l))
      (then_in ns (frame_answer l) _ (frame_in l) (λ h. unless ns (verifies (take h.start l)) 7 _ seven (accepted h)))

-- and where 13, 12 and 14, or 15, are
module _ (ns : List ℕ) (thirteen : is_in 13 ns ≡ true) (twelve : is_in 12 ns ≡ true) (fourteen : is_in 14 ns ≡ true) where
  whole_in : (h : IpRead) (d : List ℕ) → Among ns (whole_answer h d)
  unfolding whole_answer
  whole_in h d =
      refusing ns (is_piece h) 13 _ thirteen (refusing ns (is_other h.protocol) 12 _ twelve (refusing ns (is_cut h.protocol d) 14 _ fourteen (accepted _)))

module _ (ns : List ℕ) (fifteen : is_in 15 ns ≡ true) where
  verdict_in : (k : Kind) (h : IpRead) (d : List ℕ) → Among ns (verdict_of k h d)
  unfolding verdict_of
  verdict_in kind.Tcp h d = unless ns (verifies_behind_pseudo h 6 d) 15 _ fifteen (accepted Good)
  verdict_in kind.Udp h d = unless ns (verifies_behind_pseudo h 17 d) 15 _ fifteen (accepted Good)
  verdict_in kind.Bare h d = accepted _
  verdict_in kind.Icmp h d = unless ns (verifies d) 15 _ fifteen (accepted Good)

pub check_in : (l : List ℕ) → Among (4 ∷ 5 ∷ 6 ∷ 7 ∷ 18 ∷ 13 ∷ 12 ∷ 14 ∷ 15 ∷ []) (check_answer l)
unfolding check_answer
check_in l =
    then_in _ (read_answer l) _ (read_in_lem _ refl refl refl refl refl l)
    (λ h. let d : List ℕ = data_of h l in then_in _ (whole_answer h d) _ (whole_in _ refl refl refl h d) (λ k. verdict_in _ refl k h d))

examine_in : (l : List ℕ) → Among (4 ∷ 5 ∷ 6 ∷ 18 ∷ 13 ∷ 12 ∷ 14 ∷ []) (examine_answer l)
unfolding examine_answer
examine_in l =
    then_in _ (and_then (frame_answer l) unreserved) _ (clear_in _ refl refl refl refl (frame_answer l) (frame_in _ refl refl refl l))
    (λ h. let d : List ℕ = data_of h l in mapped_in _ (inspect.whole h) (whole_answer h d) (whole_in _ refl refl refl h d))

-- ---- assembling

second_in : (a b : ℕ) → is_in b (a ∷ b ∷ []) ≡ true
second_in a b = go (eqb b a)
  where
    go : (t : Bool) → (t || (eqb b b || false)) ≡ true
    go true = refl
    go false = simp (eq-eqb b b refl)

piece_in : (ns : List ℕ) (C far n : ℕ) (h : IpRead) → is_in 9 ns ≡ true → is_in far ns ≡ true → Among ns (fit_answer C far n h)
unfolding fit_answer
piece_in ns C far n h nine other = refusing ns (broken h.mf n) 9 _ nine (refusing ns (ltb C (8 * h.off + n)) far _ other (accepted h))

pub take_in : (C M : ℕ) (s : State) (l : List ℕ) → Among (11 ∷ 4 ∷ 5 ∷ 6 ∷ 7 ∷ 18 ∷ 8 ∷ 9 ∷ 10 ∷ []) (take_answer C M s l)
unfolding take_answer piece_answer head_answer keyed_answer
take_in C M s l =
    unless ns (usable C M s) 11 _ refl
    (mapped_in ns (step s) (piece_answer C s.key l)
    (then_in ns (head_answer s.key l) _
    (then_in ns (read_answer l) _ (read_in_lem ns refl refl refl refl refl l) (λ h. unless ns (same_key (key_of h) s.key) 8 _ refl (accepted h)))
    (λ h. let n : ℕ = length (data_of h l) in mapped_in ns (piece_of l) (fit_answer C 10 n h) (piece_in ns C 10 n h refl refl))))
  where
    ns : List ℕ
    ns = 11 ∷ 4 ∷ 5 ∷ 6 ∷ 7 ∷ 18 ∷ 8 ∷ 9 ∷ 10 ∷ []

put_in : (s : State) (h : IpRead) (b : List ℕ) → Among (11 ∷ 9 ∷ 10 ∷ []) (put_answer s h b)
unfolding put_answer
put_in s h b =
    unless _ (ready s) 11 _ refl
    (mapped_in _ (λ g. step s (piece g.off g.mf b)) (fit_answer (length s.payload) 10 (length b) h) (piece_in _ (length s.payload) 10 (length b) h refl refl))

pub open_in : (C M : ℕ) (k : Key) (p m : ℕ) → Among (11 ∷ []) (open_answer C M k p m)
unfolding open_answer
open_in C M k p m = unless _ (sized C M p m) 11 _ refl (accepted (opened k C M))

pub stands_in : (ok : Bool) (s : State) → Among (11 ∷ []) (stands_answer ok s)
stands_in ok s = unless _ ok 11 _ refl (accepted (standing_of s))

-- ---- a table

-- the lowest slot with the key, else the lowest free one, or 19
placed_in : (ns : List ℕ) → is_in 19 ns ≡ true → (t : List Slot) (d m : List ℕ) (k : Key) → Among ns (place_for t d m k)
placed_in ns nineteen t d m k = go (key_from 0 k t)
  where
    opens : (e : Option ℕ) → Among ns (opened_at k e)
    opens (Some i) = accepted _
    opens None = number 19 nineteen

    go : (f : Option ℕ) → Among ns (placed_at t d m k f)
    go (Some i) = accepted _
    go None = opens (free_from 0 t)

tabled_in : (t : List Slot) (d m l : List ℕ) → Among (11 ∷ 4 ∷ 5 ∷ 6 ∷ 7 ∷ 18 ∷ 9 ∷ 20 ∷ 19 ∷ []) (table_take t d m l)
unfolding table_take piece_for
tabled_in t d m l =
    unless ns (table_fits t (length d) (length m)) 11 _ refl
    (then_in ns (read_answer l) _ (read_in_lem ns refl refl refl refl refl l)
    (λ h. let n : ℕ = length (data_of h l) in
    then_in ns (fit_answer slot_bytes 20 n h) _ (piece_in ns slot_bytes 20 n h refl refl) (λ g. mapped_in ns (stepped_by (piece_of l h)) _ (placed_in ns refl t d m (key_of h)))))
  where
    ns : List ℕ
    ns = 11 ∷ 4 ∷ 5 ∷ 6 ∷ 7 ∷ 18 ∷ 9 ∷ 20 ∷ 19 ∷ []

-- the slot with the key, or 27
found_in_lem : (ns : List ℕ) → is_in 27 ns ≡ true → (f : Option ℕ) → Among ns (held_for f)
found_in_lem ns h (Some i) = accepted i
found_in_lem ns h None = number 27 h

out_in : (t : List Slot) (d m : List ℕ) (k : Key) (room : ℕ) → Among (11 ∷ 27 ∷ 3 ∷ []) (out_answer t d m k room)
unfolding out_answer
out_in t d m k room =
    unless _ (table_fits t (length d) (length m)) 11 _ refl
    (then_in _ (held_for (key_from 0 k t)) _ (found_in_lem _ refl (key_from 0 k t))
    (λ i. let n : ℕ = length (held_bytes (state_at t d m i)) in
    unless _ (complete (state_at t d m i)) 27 _ refl (mapped_in _ (λ n. outing (state_at t d m i) i) (fitting n room) (refusing _ (ltb room n) 3 _ refl (accepted n)))))

discard_in : (t : List Slot) (d m : ℕ) (k : Key) → Among (11 ∷ 27 ∷ []) (discard_answer t d m k)
unfolding discard_answer
discard_in t d m k = unless _ (table_fits t d m) 11 _ refl (found_in_lem _ refl (key_from 0 k t))

-- ---- capturing, and a packet with headroom

pub record_in : (n usec room : ℕ) → Among (1 ∷ 17 ∷ 3 ∷ []) (record_answer n usec room)
record_in n usec room =
    refusing _ (ltb 65535 n) 1 _ refl (refusing _ (ltb 999999 usec) 17 _ refl (refusing _ (ltb room (16 + n)) 3 _ refl (accepted _)))

-- a frame of a feed
plan_in : (n m places : ℕ) → Among (1 ∷ 21 ∷ 3 ∷ []) (plan_answer n m places)
plan_in n m places =
    refusing _ (ltb 65515 n) 1 _ refl
    (refusing _ (not (can_plan n m)) 21 _ refl (refusing _ (ltb places (piece_count n m)) 3 _ refl (accepted _)))

feed_in : (m n usec scratch out : ℕ) → Among (1 ∷ 24 ∷ 17 ∷ 3 ∷ []) (feed_answer m n usec scratch out)
feed_in m n usec scratch out =
    refusing _ (ltb 65507 n) 1 _ refl
    (refusing _ (bad_link m) 24 _ refl
    (refusing _ (ltb 999999 usec) 17 _ refl (refusing _ (ltb scratch (28 + n) || ltb out (frame_size m n)) 3 _ refl (accepted _))))

-- ---- reporting

-- 26 of too many ends, 25 of the first that is wrong
reported_in : (l es : List ℕ) (cl sv : SocketAddrV4) → AmongList (26 ∷ []) (25 ∷ []) (length es) (report_answer l es cl sv)
reported_in l es cl sv = refusing_whole _ _ _ (ltb most_packets (length es)) 26 _ refl (refusing_at _ _ _ (first_wrong 0 (length l) es) 25 _ refl (accepted_all _))

-- ---- reading and mending a capture

-- a step behind k records
step_in : (l : List ℕ) (at k : ℕ) → AmongList (23 ∷ []) (25 ∷ []) (suc k) (step_at l at k)
step_in l at k = refusing_whole _ _ _ (ltb at header_size) 23 _ refl (go (eqb (length (drop at l)) 0) (is_broken (drop at l)))
  where
    go : (e b : Bool) → AmongList (23 ∷ []) (25 ∷ []) (suc k) (cond e (gives_all None) (cond b (refused_at 25 k) (gives_all (Some (spot_at l at k)))))
    go true b = accepted_all None
    go false true = number_at 25 k refl (omega arith)
    go false false = accepted_all _

-- No more records are read than are looked for.
records_few : (most : ℕ) (l : List ℕ) → length (whole_of (records_in most l)) ≤ most
unfolding records_in whole_of
records_few zero l = omega arith
records_few (suc most) l = go (eqb (length l) 0) (is_broken l) (records_in most (drop (record_size l) l)) (records_few most (drop (record_size l) l))
  where
    go : (e b : Bool) (w : Records) → length (whole_of w) ≤ most
        → length (whole_of (cond e (whole []) (cond b (broken_after []) (in_front (record_at l) w)))) ≤ suc most
    go true b w h = omega arith
    go false true w h = omega arith
    go false false (whole rs) h = omega arith
    go false false (broken_after rs) h = omega arith

-- What is answered for a capture's records is so numbered if it is for each answer of reading them: behind the 24 bytes of the header one record more
-- is looked for than there are bytes, fewer than the capture has.
of_records : {B : Type 0} (ns ms l : List ℕ) (f : ListAnswer (List Recorded) → ListAnswer B) → AmongList ns ms (length l) (f (refused_whole 23))
    → ((k : ℕ) → k < length l → AmongList ns ms (length l) (f (refused_at 25 k)))
    → ((rs : List Recorded) → length rs < length l → AmongList ns ms (length l) (f (gives_all rs)))
    → AmongList ns ms (length l) (f (records_answer l))
unfolding whole_of
of_records ns ms l f header broken all = go (starts_with file_header l) refl
  where
    read : (w : Records) → length (whole_of w) < length l → AmongList ns ms (length l) (f (all_of w))
    read (whole rs) h = all rs h
    read (broken_after rs) h = broken (length rs) h

    go : (t : Bool) → starts_with file_header l ≡ t → AmongList ns ms (length l) (f (cond t (all_of (records_of (drop header_size l))) (refused_whole 23)))
    go true e =
        let first : length (take header_size l) ≡ 24 = ap length (steps_read.opens l e) ∙ file_header_length in
        let few = records_few (suc (length (drop header_size l))) (drop header_size l) in
        read (records_of (drop header_size l)) (omega (arith, length-take header_size l, length-drop header_size l))
    go false e = header

mended_in : (l : List ℕ) (room places : ℕ) → AmongList (23 ∷ 3 ∷ []) (25 ∷ []) (length l) (mend_answer l room places)
mended_in l room places =
    of_records _ _ l (λ a. and_then_all a (room_answer (length l) (length (changes l)) room places)) (number_whole 23 refl) (λ k h. number_at 25 k refl h)
    (λ rs h. refusing_whole _ _ _ (ltb room (length l) || ltb places (length (changes l))) 3 _ refl (accepted_all _))

-- 17 of the first record that is late
late_in : (k count : ℕ) (rs : List Recorded) (a : ListAnswer ℕ) → k + length rs < count → AmongList (23 ∷ 3 ∷ []) (25 ∷ 17 ∷ []) count a
    → AmongList (23 ∷ 3 ∷ []) (25 ∷ 17 ∷ []) count (unless_late k rs a)
unfolding unless_late
late_in k count [] a h among = among
late_in k count (r ∷ rs) a h among = go (ltb most_micros r.stamped.usec) (late_in (suc k) count rs a (omega arith) among)
  where
    go : (b : Bool) → AmongList (23 ∷ 3 ∷ []) (25 ∷ 17 ∷ []) count (unless_late (suc k) rs a)
        → AmongList (23 ∷ 3 ∷ []) (25 ∷ 17 ∷ []) count (cond b (refused_at 17 k) (unless_late (suc k) rs a))
    go true next = number_at 17 k refl (omega arith)
    go false next = next

exported_in : (l : List ℕ) (room : ℕ) → AmongList (23 ∷ 3 ∷ []) (25 ∷ 17 ∷ []) (length l) (export_answer l room)
exported_in l room =
    of_records _ _ l (λ a. answer_for a room) (number_whole 23 refl) (λ k h. number_at 25 k refl h)
    (λ rs h. late_in 0 (length l) rs _ (omega arith) (refusing_whole _ _ _ (ltb room (length (exported rs))) 3 _ refl (accepted_all _)))

pub copy_in : (ok : Bool) (k room : ℕ) → Among (16 ∷ 3 ∷ []) (copy_answer ok k room)
copy_in ok k room = unless _ ok 16 _ refl (refusing _ (ltb room k) 3 _ refl (accepted k))

valid_in : {A : Type 0} (ns : List ℕ) (p : Packet) (n : ℕ) (rest : Answer A) → is_in 16 ns ≡ true → Among ns rest → Among ns (if_valid p n rest)
valid_in ns p n rest h r = unless ns (valid p n) 16 rest h r

lower_in : (p : Packet) (k n : ℕ) → Among (16 ∷ []) (lower_answer p k n)
lower_in p k n = valid_in _ p n _ refl (refusing _ (ltb p.headroom k) 16 _ refl (accepted _))

-- ---- all

-- what a contract says of an answer tells its numbers
told : {A : Type 0} (ns : List ℕ) (a b : Answer A) → a ≡ b → Among ns b → Among ns a
told ns a b e h = subst (Among ns) (sym e) h

-- Demand 1: "it builds, or refuses by a number in document 01".
pub numbered : Numbered
numbered =
    record {
      summing = λ most n c r e. told _ _ _ e (summed_in most n c);
      answering = λ q n room r e. told _ _ _ e (built_in q n room);
      building = λ q p o r o' x. told _ _ _ x.answer (built_in q (length p) (length o));
      echoing = λ e f p o r o' x. told _ _ _ x.answer (mapped_in _ (echo_gone f) _ (built_in (Echo e) (length p) (length o)));
      sending = λ f es o r o' x. told _ _ _ x.answer (sent_in f es (length o));
      cutting = λ t rs p o e r o' e' x. subst (AmongList _ _ _) (sym x.answer) (fragments_in rs (length p) (length o) (length e));
      opening = λ C M k d m r d' m' x. told _ _ _ x.answer (mapped_in _ record_of _ (open_in C M k (length d) (length m)));
      taking = λ C M s l r d m x. told _ _ _ x.answer (mapped_in _ reply_of _ (take_in C M s l));
      placing = λ C far n h r e. told _ _ _ e (piece_in _ C far n h refl (second_in 9 far));
      putting = λ s h b r d m x. told _ _ _ x.answer (mapped_in _ reply_of _ (put_in s h b));
      progressing = λ ok s r e. told _ _ _ e (stands_in ok s);
      tabling = λ t d m l r d' m' x. told _ _ _ x.answer (mapped_in _ (λ y. outcome y.state) _ (tabled_in t d m l));
      taking_out = λ t d m k o r d' m' o' x. told _ _ _ x.answer (mapped_in _ (λ y. length y.datagram) _ (out_in t d m k (length o)));
      discarding = λ t d m k r d' m' x. told _ _ _ x.answer (mapped_in _ (λ i. tt {0}) _ (discard_in t (length d) (length m) k));
      framing = λ l r e. told _ _ _ e (frame_in _ refl refl refl l);
      reading = λ l r e. told _ _ _ e (read_in_lem _ refl refl refl refl refl l);
      examining = λ l r e. told _ _ _ e (examine_in l);
      tcp_reading = λ d r e. told _ _ _ e (refusing _ (tcp_cut d) 14 _ refl (accepted _));
      checking = λ l r e. told _ _ _ e (check_in l);
      recording = λ n usec room r e. told _ _ _ e (record_in n usec room);
      capturing = λ sec usec d o r o' x. told _ _ _ x.answer (record_in (length d) usec (length o));
      heading = λ o r o' x. told _ _ _ x.answer (fitting_in 24 (length o));
      reporting = λ l es cl sv r e. subst (AmongList _ _ _) (sym e) (reported_in l es cl sv);
      stepping = λ l at k r e. subst (AmongList _ _ _) (sym e) (step_in l at k);
      mending = λ l o e r o' e' x. subst (AmongList _ _ _) (sym x.answer) (mended_in l (length o) (length e));
      exporting = λ l o r o' x. subst (AmongList _ _ _) (sym x.answer) (exported_in l (length o));
      judging = λ n b r e. told _ _ _ e (refusing _ (ltb 65515 n) 1 _ refl (accepted b));
      deciding = λ n m places r x. told _ _ _ x (mapped_in _ (job_for n m) _ (plan_in n m places));
      planning = λ n m l r l' x. told _ _ _ x.answer (plan_in n m (length l));
      feeding = λ f b sec usec s o r s' o' x. told _ _ _ x.answer (mapped_in _ (written_for f (length b)) _ (feed_in f.link (length b) usec (length s) (length o)));
      making =
          λ h b r b' x.
          told _ _ _ x.answer (refusing _ (ltb most_end h) 16 _ refl (refusing _ (ltb (length b) h) 3 _ refl (accepted _)));
      appending =
          λ p k d b r b' x.
          told _ _ _ x.answer
          (valid_in _ p (length b) _ refl
          (refusing _ (ltb most_end (p.end + k)) 16 _ refl (refusing _ (ltb (length b) (p.end + k)) 3 _ refl (accepted _))));
      copying = λ ok k d o r o' x. told _ _ _ x.answer (copy_in ok k (length o));
      prepending = λ p d b r b' x. told _ _ _ x.answer (lower_in p (length d) (length b));
      lowering = λ p k n r e. told _ _ _ e (lower_in p k n);
      returning = λ p s n r e. told _ _ _ e (valid_in _ p n _ refl (unless _ (leads p s) 16 _ refl (accepted _)));
      counting = λ p n k r e. told _ _ _ e (valid_in _ p n _ refl (accepted k));
      testing = λ p n t r e. told _ _ _ e (valid_in _ p n _ refl (accepted t));
      viewing = λ p n s r e. told _ _ _ e (valid_in _ p n _ refl (accepted s));
    }

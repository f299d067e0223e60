-- What each call answers, in document 01's terms.
use Rattle.std.specs.Prelude.{ℕ, cond, List, ◌++◌, length, nat_lt, Result, Ok, Err}
use Rattle.std.specs.Result.{result_unwrap_or}
use Rattle.pkt.specs.Rfc1071.{checksum}
use Rattle.pkt.specs.Rfc768.{pseudo, udp_checksum}
use Rattle.pkt.specs.Rfc9293.{tcp_checksum}
use Rattle.pkt.specs.Rfc792.{echo_checksum}
use Rattle.pkt.specs.declared.ipv4.tcp_hdr.{tcp_hdr}
use Rattle.pkt.specs.declared.ipv4.udp_hdr.{udp_hdr}
use Rattle.pkt.specs.declared.ipv4.icmp_hdr.{icmp_hdr}
use Rattle.pkt.specs.declared.ipv4.icmp_echo_hdr.{icmp_echo_hdr}
use Rattle.pkt.specs.declared.refusal.Refusal.{Refusal}
use Rattle.pkt.specs.declared.refusal.ListRefusal.{ListRefusal}
use Rattle.pkt.specs.declared.refusal.ListRefusal.TheVariants.{Whole, At}
use Rattle.pkt.specs.Refusal.{number_of}

-- An answer: a refusal's number in document 01's table, or what the call gives.
pub data Answer (A : Type 0) : Type 0 where
  refused : ℕ → Answer A
  gives : A → Answer A

-- what is made of what is given; a refusal stays
abbrev pub mapped : {A B : Type 0} → (A → B) → Answer A → Answer B
mapped f (refused n) = refused n
mapped f (gives a) = gives (f a)

-- one answer, and what follows where it is no refusal
abbrev pub and_then : {A B : Type 0} → Answer A → (A → Answer B) → Answer B
and_then (refused n) f = refused n
and_then (gives a) f = f a

-- An answer of a call over a list: a refusal's number for the whole call, a refusal's number with the index of the first element that it is for,
-- or what the call gives.
pub data ListAnswer (A : Type 0) : Type 0 where
  refused_whole : ℕ → ListAnswer A
  refused_at : ℕ → ℕ → ListAnswer A
  gives_all : A → ListAnswer A

-- the same with no index
abbrev pub plainly : {A : Type 0} → ListAnswer A → Answer A
plainly (refused_whole n) = refused n
plainly (refused_at n i) = refused n
plainly (gives_all a) = gives a

-- what a call's result says: the number of a refusal, or what the call gives
abbrev pub says : {A : Type 0} → Result A Refusal → Answer A
says (Ok a) = gives a
says (Err e) = refused (number_of e)

-- .. and the result of a call over a list
abbrev pub list_says : {A : Type 0} → Result A ListRefusal → ListAnswer A
list_says (Ok a) = gives_all a
list_says (Err (Whole e)) = refused_whole (number_of e)
list_says (Err (At e i)) = refused_at (number_of e) i

-- the number of a checksum that was not refused
abbrev pub summed : Result ℕ Refusal → ℕ
summed r = result_unwrap_or r 0

-- Number 1: "payload above 65,495 (TCP), 65,507 (UDP, ICMP), 65,515 (IPv4 payload); more than 65,535 bytes to sum or to put in one
-- capture record"
abbrev pub most_tcp : ℕ
most_tcp = 65495

abbrev pub most_udp : ℕ
most_udp = 65507

abbrev pub most_ip : ℕ
most_ip = 65515

abbrev pub most_bytes : ℕ
most_bytes = 65535

-- Number 2: "piece offset above 8,191"
abbrev pub most_offset : ℕ
most_offset = 8191

-- Number 1 is given exactly when there are more bytes than `most`.
abbrev pub unless_long : ℕ → ℕ → ℕ → Answer ℕ
unless_long most n c = cond (nat_lt most n) (refused 1) (gives c)

-- Number 3: size bytes are written, or there is not room for so many.
abbrev pub fitting : ℕ → ℕ → Answer ℕ
fitting size room = cond (nat_lt room size) (refused 3) (gives size)

abbrev pub csum_answer : List ℕ → Answer ℕ
csum_answer l = unless_long most_bytes (length l) (checksum l)

abbrev pub tcp_answer : ℕ → ℕ → tcp_hdr → List ℕ → Answer ℕ
tcp_answer s d h p = unless_long most_tcp (length p) (tcp_checksum s d h p)

abbrev pub udp_answer : ℕ → ℕ → udp_hdr → List ℕ → Answer ℕ
udp_answer s d h p = unless_long most_udp (length p) (udp_checksum s d h p)

abbrev pub echo_answer : icmp_hdr → icmp_echo_hdr → List ℕ → Answer ℕ
echo_answer h e p = unless_long most_udp (length p) (echo_checksum h e p)

-- a whole transport part l behind its pseudo header
abbrev pub transport_answer : ℕ → ℕ → ℕ → List ℕ → Answer ℕ
transport_answer s d p l = unless_long most_ip (length l) (checksum (pseudo s d p (length l) ++ l))

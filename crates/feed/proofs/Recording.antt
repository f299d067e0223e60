-- What the calls below leave where nothing is refused, and records one behind the other.
use Rattle.std.proofs.Common.{◌≡◌, ℕ, zero, suc, ◌+◌, ◌-◌, ◌*◌, ◌<◌, ◌≤◌, true, List, [], ◌++◌, length, take, drop, sym, refl, ap, ◌∙◌, append_assoc, suc-mul, arith, length-append, length-drop, take-append-drop, length-take-le}
use lib.Seq.{take-append-add, drop-append-add}
use Rattle.pkt.specs.Answers.{Answer}
use Rattle.std.specs.Prelude.{Result}
use Rattle.pkt.specs.declared.refusal.Refusal.{Refusal}
use Rattle.pkt.specs.Written.{written, leaves}
use Rattle.pkt.proofs.Written.{written_then, written_length}
use Rattle.ezpkt.proofs.Sizes.{size_is}
use Rattle.ezpkt.proofs.Deciding.{udp_given, piece_given}
use Rattle.pcap.specs.Pcap.{record_bytes, records_bytes}
use Rattle.pcap.proofs.Pcap.{record_length}
use Rattle.planner.specs.Cutting.{length_at, requests_from}
use Rattle.feed.specs.Steps.{record_long, records_from}
use Rattle.ezpkt.specs.Build.{fragment_size, packet_of, udp_packet, Answered}
use Rattle.ezpkt.specs.Ip4.{fragment_of}
use Rattle.ezpkt.specs.declared.ip4.Template.{Template}
use Rattle.ezpkt.specs.declared.build.UdpDatagram.{UdpDatagram}
use Rattle.ezpkt.specs.declared.build.Request.TheVariants.{Udp}

-- a datagram with a checksum
pub udp_written : (u : UdpDatagram) (p o : List ℕ) (r : Result ℕ Refusal) (o' : List ℕ) → u.csum ≡ true → length p ≤ 65507 → 28 + length p ≤ length o
    → Answered (Udp u) p o r o' → o' ≡ written (udp_packet u p) o
udp_written u p o r o' on few room x = x.after ∙ ap (λ (a : Answer ℕ). leaves a (udp_packet u p) o) (udp_given u (length p) (length o) on few room)

-- a piece
pub piece_written : (t : Template) (off len : ℕ) (p o : List ℕ) (r : Result ℕ Refusal) (o' : List ℕ) → length p ≤ 65515 → off ≤ 8191
    → fragment_size off len (length p) ≤ length o → Answered (fragment_of t off len) p o r o' → o' ≡ written (packet_of (fragment_of t off len) p) o
piece_written t off len p o r o' few low room x =
    x.after ∙ ap (λ (a : Answer ℕ). leaves a (packet_of (fragment_of t off len) p) o) (piece_given t off len (length p) (length o) few low room)

-- ---- a turn: so many pieces are behind the one at block off, and the record goes to place at

pub record Turn (b n behind off at out : ℕ) : Type 0 where
  pub within : 8 * off + behind * (8 * b) ≤ n
  pub room : at + 36 * (behind + 1) + n ≤ out + 8 * off

-- how long its record is
abbrev pub turn_size : ℕ → ℕ → ℕ → ℕ → ℕ
turn_size b n behind off = record_long off (length_at b behind off n) n

-- the last carries all that is left, every other is full
pub last_size : (b n off : ℕ) → 8 * off ≤ n → turn_size b n 0 off ≡ 36 + (n - 8 * off)
unfolding record_long
last_size b n off h = omega arith

pub full_size : (b n k off : ℕ) → 8 * off + 8 * b ≤ n → turn_size b n (suc k) off ≡ 36 + 8 * b
unfolding record_long
full_size b n k off h = omega arith

-- a full one is within
pub full_within : (b n k off at out : ℕ) → Turn b n (suc k) off at out → 8 * off + 8 * b + k * (8 * b) ≤ n
full_within b n k off at out t = omega (arith, t.within, suc-mul k (8 * b))

-- it has room
pub turn_room : (b n behind off at out : ℕ) → Turn b n behind off at out → turn_size b n behind off ≤ out - at
turn_room b n zero off at out t = omega (arith, last_size b n off (omega (arith, t.within)), t.room)
turn_room b n (suc k) off at out t =
    let w = full_within b n k off at out t in
    omega (arith, full_size b n k off (omega arith), t.room)

-- and so does the next
next_room : (b n k off at out size : ℕ) → size ≡ 36 + 8 * b → at + 36 * (suc k + 1) + n ≤ out + 8 * off → at + size + 36 * (k + 1) + n ≤ out + 8 * (off + b)
next_room b n k off at out size e h = omega arith

pub turn_next : (b n behind off at out : ℕ) → 0 < behind → Turn b n behind off at out → Turn b n (behind - 1) (off + b) (at + turn_size b n behind off) out
turn_next b n zero off at out h t = absurd (omega arith)
turn_next b n (suc k) off at out h t =
    let w = full_within b n k off at out t in
    let s = full_size b n k off (omega arith) in
    let z : suc k - 1 ≡ k = omega arith in
    rw z (record { within = omega (arith, w); room = next_room b n k off at out _ s t.room })

-- ---- what is written

-- one record, and behind it the others
pub records_step : (t : Template) (d : List ℕ) (b left off sec usec : ℕ) → 0 < left
    → records_from t d b left off sec usec
    ≡ record_bytes sec usec (packet_of (fragment_of t off (length_at b (left - 1) off (length d))) d) ++ records_from t d b (left - 1) (off + b) sec usec
unfolding requests_from records_bytes
records_step t d b zero off sec usec h = absurd (omega arith)
records_step t d b (suc k) off sec usec h = let z : suc k - 1 ≡ k = omega arith in rw z refl

pub records_none : (t : Template) (d : List ℕ) (b left off sec usec : ℕ) → left ≡ 0 → records_from t d b left off sec usec ≡ []
unfolding requests_from records_bytes
records_none t d b zero off sec usec e = refl
records_none t d b (suc k) off sec usec e = absurd (omega arith)

pub record_long_lem : (t : Template) (d : List ℕ) (off len sec usec : ℕ)
    → length (record_bytes sec usec (packet_of (fragment_of t off len) d)) ≡ record_long off len (length d)
unfolding record_long
record_long_lem t d off len sec usec = record_length sec usec _ ∙ ap (λ (k : ℕ). 16 + k) (size_is (fragment_of t off len) d)

-- what is left is written behind what was
pub written_on : (a b o : List ℕ) (at k : ℕ) → at ≤ length o → length a ≡ k
    → take (at + k) (take at o ++ written a (drop at o)) ++ written b (drop (at + k) (take at o ++ written a (drop at o)))
    ≡ take at o ++ written (a ++ b) (drop at o)
written_on a b o at k h e =
    let n : length (take at o) ≡ at = length-take-le at o h in
    let w : List ℕ = written a (drop at o) in
    let f : take (at + k) (take at o ++ w) ≡ take at o ++ take k w =
    ap (λ (x : ℕ). take (x + k) (take at o ++ w)) (sym n) ∙ take-append-add (take at o) w k in
    let g : drop (at + k) (take at o ++ w) ≡ drop k w =
    ap (λ (x : ℕ). drop (x + k) (take at o ++ w)) (sym n) ∙ drop-append-add (take at o) w k in
    rw (f, g, append_assoc) (ap (λ (x : List ℕ). take at o ++ x) (written_then a b (drop at o) k e))

pub none_behind : (at : ℕ) (o : List ℕ) → take at o ++ written [] (drop at o) ≡ o
unfolding written
none_behind at o = take-append-drop at o

pub behind_length : (a o : List ℕ) (at : ℕ) → at + length a ≤ length o → length (take at o ++ written a (drop at o)) ≡ length o
behind_length a o at h =
    simp (length-append, written_length a (drop at o) (omega (arith, length-drop at o)), length-take-le at o (omega arith), length-drop) (omega arith)

-- ---- the same numbers, as the code has them
pub as_small : (k r m : ℕ) → k ≡ r → r ≤ m → k ≤ m
as_small k r m e h = omega arith

pub turn_as : (b n behind off at at' out out' : ℕ) → at' ≡ at → out' ≡ out → Turn b n behind off at out → Turn b n behind off at' out'
turn_as b n behind off at at' out out' e f t = record { within = t.within; room = omega (arith, t.room) }

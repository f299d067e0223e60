-- Laws of the decision before a packet is written: what an answer tells of sizes and bounds.
use Rattle.std.proofs.Common.{◌≡◌, ℕ, ◌+◌, ◌%◌, ◌≤◌, Bool, true, false, cond, List, length, arith, le-ltb, lt-ltb}
use native.Mathlib.Decide.{dec_le}
use Rattle.ezpkt.specs.Ip4.{fragment_of, tail_of}
use Rattle.ezpkt.specs.declared.ip4.Template.{Template}
use Rattle.std.specs.Prelude.{Result}
use Rattle.pkt.specs.declared.refusal.Refusal.{Refusal}
use Rattle.pkt.specs.Answers.{refused, gives, most_udp, most_ip, most_offset}
use Rattle.pkt.proofs.Deciding.{bounded}
use Rattle.ezpkt.specs.Build.{fragment_size, sized_answer, datagram_answer, fragment_answer, answer_of, size_of, Answered}
use Rattle.ezpkt.specs.declared.build.IpPiece.{IpPiece}
use Rattle.ezpkt.specs.declared.build.UdpDatagram.{UdpDatagram}
use Rattle.ezpkt.specs.declared.build.Request.{Request}
use Rattle.ezpkt.specs.declared.build.Request.TheVariants.{Tcp, Udp, Echo, Piece}

pub record Fits (most size n room k : ℕ) : Type 0 where
  pub few : n ≤ most
  pub room_for : size ≤ room
  pub is_size : size ≡ k

pub sized_fits : (most head n room k : ℕ) → sized_answer most head n room ≡ gives k → Fits most (head + n) n room k
sized_fits most head n room k e =
    let a = bounded most n 1 k _ e in
    let b = bounded room (head + n) 3 k _ a.1 in
    record { few = a.0; room_for = b.0; is_size = (let q : head + n ≡ k = cc b.1 in q) }

pub datagram_fits : (u : UdpDatagram) (n room k : ℕ) → datagram_answer u n room ≡ gives k → Fits 65507 (28 + n) n room k
datagram_fits u n room k e = go u.csum e
  where
    go : (csum : Bool) → cond csum (sized_answer 65507 28 n room) (refused 22) ≡ gives k → Fits 65507 (28 + n) n room k
    go true d = sized_fits 65507 28 n room k d
    go false d = let z : ◌≡◌ {A = ℕ} 0 1 = cc in absurd (omega arith)

pub piece_fits : (q : IpPiece) (n room k : ℕ) → fragment_answer q n room ≡ gives k → (q.off ≤ 8191) × Fits 65515 (size_of (Piece q) n) n room k
piece_fits q n room k e =
    let a = bounded 65515 n 1 k _ e in
    let b = bounded 8191 q.off 2 k _ a.1 in
    let d = bounded room (size_of (Piece q) n) 3 k _ b.1 in
    (b.0, record { few = a.0; room_for = d.0; is_size = (let z : size_of (Piece q) n ≡ k = cc d.1 in z) })

-- The other way: a datagram with a checksum or a piece that is short and near enough is taken where its packet has room.
pub udp_given : (u : UdpDatagram) (n room : ℕ) → u.csum ≡ true → n ≤ most_udp → 28 + n ≤ room → answer_of (Udp u) n room ≡ gives (28 + n)
udp_given u n room on few fits = simp (on, le-ltb most_udp n few, le-ltb room (28 + n) fits)

pub piece_given : (t : Template) (off len n room : ℕ) → n ≤ most_ip → off ≤ most_offset → fragment_size off len n ≤ room
    → answer_of (fragment_of t off len) n room ≡ gives (fragment_size off len n)
piece_given t off len n room few near fits = simp (le-ltb most_ip n few, le-ltb most_offset off near, le-ltb room (fragment_size off len n) fits)

-- An answer that gives a length gives the packet's.
pub gives_size : (q : Request) (n room k : ℕ) → answer_of q n room ≡ gives k → size_of q n ≡ k
gives_size (Tcp t) n room k e = (sized_fits 65495 40 n room k e).is_size
gives_size (Udp u) n room k e = (datagram_fits u n room k e).is_size
gives_size (Echo x) n room k e = (sized_fits 65507 28 n room k e).is_size
gives_size (Piece q) n room k e = (piece_fits q n room k e).1.is_size

-- A length that is given fits the 16-bit field.
pub gives_short : (q : Request) (n room k : ℕ) → answer_of q n room ≡ gives k → k ≤ 65535
gives_short (Tcp t) n room k e = let f = sized_fits 65495 40 n room k e in omega (arith, f.few, f.is_size)
gives_short (Udp u) n room k e = let f = datagram_fits u n room k e in omega (arith, f.few, f.is_size)
gives_short (Echo x) n room k e = let f = sized_fits 65507 28 n room k e in omega (arith, f.few, f.is_size)
gives_short (Piece q) n room k e = let f = (piece_fits q n room k e).1 in omega (arith, f.few, f.is_size)

-- `tail` hands on the length modulo 65,536: a payload of more bytes is refused whatever it asks for.
pub tail_answered : (t : Template) (off : ℕ) (p o : List ℕ) (r : Result ℕ Refusal) (o' : List ℕ)
    → Answered (fragment_of t off (length p % 65536)) p o r o' → Answered (tail_of t off (length p)) p o r o'
tail_answered t off p o r o' x = go (dec_le (length p) 65515)
  where
    go : Dec (length p ≤ 65515) → Answered (tail_of t off (length p)) p o r o'
    go (yes h) = let e : length p % 65536 ≡ length p = omega arith in rw e at x
    go (no h) =
        let long = lt-ltb 65515 (length p) (omega arith) in
        record { answer = simp long (simp long at x.answer); after = simp long (simp long at x.after) }

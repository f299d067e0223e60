-- What the calls on a packet answer, and what they leave in the lent buffers.
use Rattle.std.specs.Prelude.{ℕ, ◌+◌, ◌-◌, ◌*◌, Bool, cond, ◌&&◌, List, length, ltb, Result}
use Rattle.pkt.specs.Answers.{Answer, refused, gives, fitting, says}
use Rattle.pkt.specs.Written.{zeros, Done, Wrote}
use Rattle.packet.specs.Headroom.{most_end, valid, len_of, packet, part, within, leads, bytes_at, whole_of, placed}
use Rattle.packet.specs.Dump.{dump_of}
use Rattle.packet.specs.declared.Packet.{Packet}
use Rattle.packet.specs.declared.PktSlice.{PktSlice}
use Rattle.packet.specs.declared.Grown.{Grown}
use Rattle.pkt.specs.declared.refusal.Refusal.{Refusal}

-- ---- what is answered for the record p over a buffer of n bytes

-- number 16: "headroom record with headroom > end, end > buffer or end (also the new one) > 1,048,576"; and else a
abbrev pub if_valid : {A : Type 0} → Packet → ℕ → Answer A → Answer A
if_valid p n a = cond (valid p n) a (refused 16)

-- "`bit_time` is (length + 24)·8"
abbrev pub bit_time_of : Packet → ℕ
bit_time_of p = (len_of p + 24) * 8

-- a new packet behind h bytes of headroom, which are to be written: its end is h
abbrev pub new_answer : ℕ → ℕ → Answer Packet
new_answer h n = cond (ltb most_end h) (refused 16) (cond (ltb n h) (refused 3) (gives (packet h h)))

-- k bytes appended, which are to be written: 16 also for the new end
abbrev pub push_answer : Packet → ℕ → ℕ → Answer Grown
push_answer p k n =
    if_valid p n
    (cond (ltb most_end (p.end + k)) (refused 16)
    (cond (ltb n (p.end + k)) (refused 3) (gives (record { whole = packet p.headroom (p.end + k); added = part p.end k }))))

-- k bytes of the headroom prepended: "lowering by more than the headroom"
abbrev pub lower_answer : Packet → ℕ → ℕ → Answer Grown
lower_answer p k n =
    if_valid p n
    (cond (ltb p.headroom k) (refused 16)
    (gives (record { whole = packet (p.headroom - k) p.end; added = part (p.headroom - k) k })))

-- the part s returned to the headroom: "returning from another place or more than the packet"
abbrev pub return_answer : Packet → PktSlice → ℕ → Answer Packet
return_answer p s n = if_valid p n (cond (leads p s) (gives (packet (p.headroom + s.len) p.end)) (refused 16))

-- k bytes into an output of room bytes, where ok says that they are there to be copied
abbrev pub copy_answer : Bool → ℕ → ℕ → Answer ℕ
copy_answer ok k room = cond ok (fitting k room) (refused 16)

-- ---- whole promises

-- a new packet in the buffer b: the headroom's bytes are zero
abbrev pub MadeNew : ℕ → List ℕ → Result Packet Refusal → List ℕ → Type 0
MadeNew h b r b' = Wrote says (new_answer h (length b)) (zeros h) b r b'

-- k bytes appended, which are d
abbrev pub Appended : Packet → ℕ → List ℕ → List ℕ → Result Grown Refusal → List ℕ → Type 0
Appended p k d b r b' = Done says (push_answer p k (length b)) (placed p.end d b) b r b'

-- the bytes d prepended from the headroom
abbrev pub Prepended : Packet → List ℕ → List ℕ → Result Grown Refusal → List ℕ → Type 0
Prepended p d b r b' = Done says (lower_answer p (length d) (length b)) (placed (p.headroom - length d) d b) b r b'

-- the k bytes d at the start of the output o, where ok says that they are there to be copied
abbrev pub CopiedOut : Bool → ℕ → List ℕ → List ℕ → Result ℕ Refusal → List ℕ → Type 0
CopiedOut ok k d o r o' = Wrote says (copy_answer ok k (length o)) d o r o'

-- to_vec: the packet of the buffer b, and never the headroom
abbrev pub WholeCopied : Packet → List ℕ → List ℕ → Result ℕ Refusal → List ℕ → Type 0
WholeCopied p b o r o' = CopiedOut (valid p (length b)) (len_of p) (bytes_at (whole_of p) b) o r o'

-- to_vec_from: a part of the packet, and "a part not within the packet" is refused
abbrev pub PartCopied : Packet → PktSlice → List ℕ → List ℕ → Result ℕ Refusal → List ℕ → Type 0
PartCopied p s b o r o' = CopiedOut (valid p (length b) && within p s) s.len (bytes_at s b) o r o'

-- hex_dump: the dump of the packet
abbrev pub Dumped : Packet → List ℕ → List ℕ → Result ℕ Refusal → List ℕ → Type 0
Dumped p b o r o' = CopiedOut (valid p (length b)) (length (dump_of p b)) (dump_of p b) o r o'

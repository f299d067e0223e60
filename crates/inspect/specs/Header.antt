-- Which bytes are an IPv4 packet, and what its header says: RFC 791, 3.1, document 01's numbers 4 to 7, document 02's 18, and its T-11: "The header
-- reader shall accept header lengths of 5 to 15 words, sum the whole header, pass over the options and answer where the data starts."
use Rattle.std.specs.Prelude.{ℕ, ◌-◌, ◌*◌, ◌/◌, ◌%◌, Bool, false, not, ◌||◌, cond, List, length, take, drop, ltb, eqb, Result, Ok, Err}
use Rattle.pkt.specs.Answers.{Answer, refused, gives, and_then}
use Rattle.pkt.specs.Rfc1071.{verifies}
use Rattle.pkt.specs.Fields.{value}
use Rattle.pkt.specs.declared.refusal.Refusal.{Refusal}
use Rattle.inspect.specs.declared.header.IpRead.{IpRead}

-- the number that k bytes of l from a place on stand for, big-endian
unfoldable pub field_at : List ℕ → ℕ → ℕ → ℕ
field_at l at k = value 0 (take k (drop at l))

-- the halves of the first byte: the version, and the header's length in words of four bytes
abbrev pub version_field : List ℕ → ℕ
version_field l = field_at l 0 1 / 16

abbrev pub words_field : List ℕ → ℕ
words_field l = field_at l 0 1 % 16

-- the total length that l names
abbrev pub length_field : List ℕ → ℕ
length_field l = field_at l 2 2

-- whether the bit that stands for n is set in a number
abbrev pub has_bit : ℕ → ℕ → Bool
has_bit n x = eqb (x / n % 2) 1

-- 3.1, in the figure's order; "0x8000 is reserved .., 0x4000 DF, 0x2000 MF, and the low 13 bits are the offset ..". The data part runs from
-- the header's end, behind its options, to the total length.
unfoldable pub header_of : List ℕ → IpRead
header_of l =
    record {
      tos = field_at l 1 1;
      tot_len = length_field l;
      id = field_at l 4 2;
      evil = has_bit 0x8000 (field_at l 6 2);
      df = has_bit 0x4000 (field_at l 6 2);
      mf = has_bit 0x2000 (field_at l 6 2);
      off = field_at l 6 2 % 0x2000;
      ttl = field_at l 8 1;
      protocol = field_at l 9 1;
      saddr = field_at l 12 4;
      daddr = field_at l 16 4;
      start = 4 * words_field l;
      end = length_field l;
    }

-- "5 now means version not 4 or header length under 5 words"
unfoldable pub not_ipv4 : List ℕ → Bool
not_ipv4 l = not (eqb (version_field l) 4) || ltb (words_field l) 5

-- Numbers 4 (under 20), 5, 6 ("total length under the header length") and 4 (total): what the header says of a packet that is all there.
unfoldable pub frame_answer : List ℕ → Answer IpRead
frame_answer l =
    cond (ltb (length l) 20) (refused 4)
    (cond (not_ipv4 l) (refused 5)
    (cond (ltb (header_of l).end (header_of l).start) (refused 6)
    (cond (ltb (length l) (header_of l).end) (refused 4) (gives (header_of l)))))

-- a checksum of bytes with their own checksum among them: 0 exactly if they verify
abbrev pub is_zero : Result ℕ Refusal → Bool
is_zero (Ok c) = eqb c 0
is_zero (Err e) = false

-- 7, "IPv4 header checksum does not verify", of a packet l with the header h
abbrev pub summed : List ℕ → IpRead → Answer IpRead
summed l h = cond (verifies (take h.start l)) (gives h) (refused 7)

-- Document 02, T-06: "A switch under test set the 0x8000 bit .. RFC 791 says it is zero. Assembly and packet check now refuse it": 18
abbrev pub unreserved : IpRead → Answer IpRead
unreserved h = cond h.evil (refused 18) (gives h)

-- the reader's answer: 4, 5, 6, 4, then 7, "18, directly after 7", or the header's fields
unfoldable pub read_answer : List ℕ → Answer IpRead
read_answer l = and_then (and_then (frame_answer l) (summed l)) unreserved

-- the data part of a packet l with the header h
abbrev pub data_of : IpRead → List ℕ → List ℕ
data_of h l = take (h.end - h.start) (drop h.start l)

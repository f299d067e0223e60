-- What the program writes: document 01, 'Hex dump and capture'.
use Rattle.std.specs.Prelude.{ℕ, ◌+◌, ◌≡◌, Bool, ◌||◌, cond, List, [], ◌∷◌, length, ltb, Option, Some, None}
use Rattle.pkt.specs.Written.{written}
use Rattle.pcap.specs.Pcap.{capture_bytes}
use Rattle.ezpkt.specs.Build.{packet_of}
use Rattle.ezpkt.specs.Icmp4.{new_icmp_flow, ping_of}

-- "the first echo of a flow from 10.0.0.1 to 10.0.0.2"
abbrev pub first_echo : List ℕ → List ℕ
first_echo p = packet_of (ping_of (new_icmp_flow 0x0a000001 0x0a000002)) p

-- "a capture, time 0": the file header and one record
unfoldable pub file_of : List ℕ → List ℕ
file_of d = capture_bytes (record { sec = 0; usec = 0; packet = d } ∷ [])

-- "reads at most 4,096 bytes of standard input (more: it writes nothing)": nothing for n bytes that are more, and nothing where there is no room
abbrev pub no_output : ℕ → ℕ → Bool
no_output n room = ltb 4096 n || ltb room (68 + n)

-- what is written for the input p, into a buffer of room bytes
abbrev pub output_for : List ℕ → ℕ → List ℕ
output_for p room = cond (no_output (length p) room) [] (file_of (first_echo p))

-- how many bytes those are, if it is written
abbrev pub size_for : List ℕ → ℕ → Option ℕ
size_for p room = cond (no_output (length p) room) None (Some (length (output_for p room)))

-- The whole promise, for an input p and a buffer o: the answer is how many bytes the output has, if there is one, and it stands at the buffer's start.
pub record Captures (p o : List ℕ) (r : Option ℕ) (o' : List ℕ) : Type 0 where
  pub answer : r ≡ size_for p (length o)
  pub after : o' ≡ written (output_for p (length o)) o

-- "For the input `lap!`, 72 bytes"
abbrev pub lap_input : List ℕ
lap_input = 0x6c ∷ 0x61 ∷ 0x70 ∷ 0x21 ∷ []

abbrev pub lap_output : List ℕ
lap_output =
    0xd4 ∷ 0xc3 ∷ 0xb2 ∷ 0xa1 ∷ 0x02 ∷ 0x00 ∷ 0x04 ∷ 0x00 ∷ 0x00 ∷ 0x00 ∷ 0x00 ∷ 0x00 ∷ 0x00 ∷ 0x00 ∷ 0x00 ∷ 0x00
    ∷ 0xff ∷ 0xff ∷ 0x00 ∷ 0x00 ∷ 0x65 ∷ 0x00 ∷ 0x00 ∷ 0x00 ∷ 0x00 ∷ 0x00 ∷ 0x00 ∷ 0x00 ∷ 0x00 ∷ 0x00 ∷ 0x00 ∷ 0x00
    ∷ 0x20 ∷ 0x00 ∷ 0x00 ∷ 0x00 ∷ 0x20 ∷ 0x00 ∷ 0x00 ∷ 0x00 ∷ 0x45 ∷ 0x00 ∷ 0x00 ∷ 0x20 ∷ 0x00 ∷ 0x00 ∷ 0x00 ∷ 0x00
    ∷ 0x40 ∷ 0x01 ∷ 0x66 ∷ 0xdb ∷ 0x0a ∷ 0x00 ∷ 0x00 ∷ 0x01 ∷ 0x0a ∷ 0x00 ∷ 0x00 ∷ 0x02 ∷ 0x08 ∷ 0x00 ∷ 0x09 ∷ 0x49
    ∷ 0x12 ∷ 0x34 ∷ 0x00 ∷ 0x00 ∷ 0x6c ∷ 0x61 ∷ 0x70 ∷ 0x21 ∷ []

abbrev pub LapCaptured : Type 0
LapCaptured = output_for lap_input 4164 ≡ lap_output

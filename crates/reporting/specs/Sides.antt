-- One side of a flow: document 02, T-10, "segments, payload bytes, SYNs, FINs, and segments that arrive as expected, early or late".
use Rattle.std.specs.Prelude.{ℕ, zero, suc, ◌+◌, ◌-◌, ◌*◌, ◌%◌, ◌≤◌, cond, ℤ, pos, negsuc, ◌==◌, nat_lt}
use Rattle.pkt.specs.Answers.{most_bytes}
use Rattle.pkt.specs.Rfc9293.{FIN, SYN}
use Rattle.tcp4.specs.Tcp4.{set_in, consumed}
use Rattle.reporting.specs.declared.Tally.{Tally}
use Rattle.reporting.specs.declared.Segment.{Segment}
use Rattle.reporting.specs.declared.Arrival.{Arrival}
use Rattle.reporting.specs.declared.Arrival.TheVariants.{Expected, Early, Late}

-- "Every sequence number is taken modulo 4,294,967,296." (document 01)
abbrev pub cycle : ℕ
cycle = 4294967296

abbrev pub half_cycle : ℕ
half_cycle = 2147483648

-- how far a number lies ahead of another, going up
abbrev pub ahead : ℕ → ℕ → ℕ
ahead next seq = (seq + (cycle - next)) % cycle

-- "The signed distance from the expected number runs from −2,147,483,648 to 2,147,483,647": `pos n` is n, `negsuc n` is −(n + 1).
abbrev pub distance : ℕ → ℕ → ℤ
distance next seq = cond (nat_lt (ahead next seq) half_cycle) (pos (ahead next seq)) (negsuc (cycle - 1 - ahead next seq))

-- "zero is expected, positive early, negative late"
abbrev pub arrival_by : ℤ → Arrival
arrival_by (pos zero) = Expected
arrival_by (pos (suc n)) = Early
arrival_by (negsuc n) = Late

-- "The first segment of a side counts as expected": whatever its number.
abbrev pub arrival_of : Tally → Segment → Arrival
arrival_of t s = cond (t.segments == 0) Expected (arrival_by (distance t.next s.seq))

-- ".. what comes next: its sequence number plus what it consumes"
abbrev pub behind_it : Segment → ℕ
behind_it s = (s.seq + consumed s.flags s.size) % cycle

-- "Only an expected or early segment moves the expected number."
abbrev pub next_by : Arrival → ℕ → Segment → ℕ
next_by Expected next s = behind_it s
next_by Early next s = behind_it s
next_by Late next s = next

-- 1 for a segment that arrives so, else 0
abbrev pub as_expected : Arrival → ℕ
as_expected Expected = 1
as_expected Early = 0
as_expected Late = 0

abbrev pub as_early : Arrival → ℕ
as_early Expected = 0
as_early Early = 1
as_early Late = 0

abbrev pub as_late : Arrival → ℕ
as_late Expected = 0
as_late Early = 0
as_late Late = 1

-- a side with no segment yet
abbrev pub no_segments : Tally
no_segments = record { segments = 0; bytes = 0; syns = 0; fins = 0; expected = 0; early = 0; late = 0; next = 0 }

-- a side after a segment that arrives so, and after one more
unfoldable pub tallied : Tally → Segment → Arrival → Tally
tallied t s a =
    record {
      segments = t.segments + 1;
      bytes = t.bytes + s.size;
      syns = t.syns + set_in s.flags SYN;
      fins = t.fins + set_in s.flags FIN;
      expected = t.expected + as_expected a;
      early = t.early + as_early a;
      late = t.late + as_late a;
      next = next_by a t.next s;
    }

abbrev pub side_after : Tally → Segment → Tally
side_after t s = tallied t s (arrival_of t s)

-- No number of a side is above k, and its bytes are not above k packets'.
pub record Few (k : ℕ) (t : Tally) : Type 0 where
  pub segments : t.segments ≤ k
  pub bytes : t.bytes ≤ most_bytes * k
  pub syns : t.syns ≤ k
  pub fins : t.fins ≤ k
  pub expected : t.expected ≤ k
  pub early : t.early ≤ k
  pub late : t.late ≤ k

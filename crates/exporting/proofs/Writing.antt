-- The blocks of a capture's records, one behind the other.
use mathlib.Core.Path.{◌≡◌, refl, sym, ap, ◌∙◌, subst}
use Prim.Native.Nat.{ℕ, ◌+◌, ◌-◌, ◌≤◌}
use native.Mathlib.Omega.{arith}
use mathlib.Core.Bool.{Bool, true, false, true≢false}
use mathlib.Core.Logic.{◌⊎◌, inl, inr}
use mathlib.Core.List.{List, [], ◌∷◌, ◌++◌, append_assoc}
use lib.ListN.{length, drop, length-append}
use borrow.Rule.Slice.PartMut.{mid_of, put_mid}
use Rattle.std.specs.Prelude.{None}
use Rattle.pkt.specs.Answers.{ListAnswer, refused_at, gives_all}
use Rattle.pkt.specs.Written.{written}
use Rattle.pkt.proofs.Parts.{mid_length}
use Rattle.pkt.proofs.Written.{written_behind, written_length}
use Rattle.pkt.proofs.Choice.{pick_no}
use Rattle.pcap.specs.Pcap.{file_header}
use Rattle.pcap.specs.Read.{number, Recorded, Records, whole, broken_after, in_front}
use Rattle.reading.specs.Reading.{starts_with, open_at, step_at, more_at, past_at}
use Rattle.reading.specs.Ends.{records_answer}
use Rattle.reading.proofs.Broken.{broken_no, more_yes}
use Rattle.reading.proofs.Ending.{there_found, spot_within}
use Rattle.exporting.specs.Pcapng.{block, section_block, interface_block, packet_block, packet_blocks, exported}
use Rattle.exporting.specs.Export.{export_answer, records_given, export_of}
use Rattle.exporting.specs.Steps.{block_size, head_size, step_block, StepAsks, WriteAsks}
use Rattle.exporting.proofs.Laying.{here_length}
use Rattle.exporting.proofs.Walking.{Walk, walk_start, record_here, walk_next, walk_end}
use Rattle.exporting.proofs.Answering.{blocks_append, blocks_more, blocks_length, exported_length, given}
use Rattle.exporting.proofs.Back.{answered_whole}

-- Where the loop is, with the output o₀ at first: a walk, records that are left, and the blocks of those behind it written.
pub record Laid (l o₀ : List ℕ) (read at : ℕ) (o : List ℕ) : Type 0 where
  pub done : List Recorded
  pub left : List Recorded
  pub header : starts_with file_header l ≡ true
  pub walk : Walk l read done (whole left)
  pub place : at ≡ length (packet_blocks done)
  pub bytes : o ≡ written (packet_blocks done) o₀
  pub room : length (packet_blocks (done ++ left)) ≤ length o₀

-- Records are answered only where the capture starts with the file header.
header_there : (l : List ℕ) (rs : List Recorded) → records_answer l ≡ gives_all rs → starts_with file_header l ≡ true
header_there l rs e = go (starts_with file_header l) refl
  where
    go : (b : Bool) → starts_with file_header l ≡ b → starts_with file_header l ≡ true
    go true h = h
    go false h = absurd (true≢false (cc (sym e ∙ pick_no _ _ h)))

pub at_start : (l o : List ℕ) (read : ℕ) → read ≡ open_at l → WriteAsks packet_blocks l o → Laid l o read 0 o
unfolding packet_blocks written
at_start l o read e asks =
    let header = header_there l asks.records asks.read in
    record {
      done = [];
      left = asks.records;
      header = header;
      walk = rw e (subst (Walk l (open_at l) []) (answered_whole l asks.records asks.read) (walk_start l header));
      place = refl;
      bytes = refl;
      room = asks.fits;
    }

-- The first of the records that are left, and the others.
record First (l : List ℕ) (read : ℕ) (done left : List Recorded) : Type 0 where
  pub others : List Recorded
  pub first : left ≡ record_here l read done ∷ others
  pub walk : Walk l (past_at l read) (done ++ record_here l read done ∷ []) (whole others)

first_left : (l : List ℕ) (read : ℕ) (done left : List Recorded) → more_at l read ≡ true → Walk l read done (whole left) → First l read done left
first_left l read done left more w = let (rest, first, next) = walk_next l read done (whole left) more w in go rest first next
  where
    go : (rest : Records) → whole left ≡ in_front (record_here l read done) rest → Walk l (past_at l read) (done ++ record_here l read done ∷ []) rest
        → First l read done left
    go (whole rs) e next = record { others = rs; first = cc e; walk = next }
    go (broken_after rs) e next = absurd (true≢false (cc e))

-- The output stays as long as it was.
pub laid_length : (l o₀ o : List ℕ) (read at : ℕ) → Laid l o₀ read at o → length o ≡ length o₀
laid_length l o₀ o read at f =
    let done = f.done in
    let all : length (packet_blocks (done ++ f.left)) ≡ length (packet_blocks done) + length (packet_blocks f.left) =
    ap length (blocks_append done f.left) ∙ length-append (packet_blocks done) (packet_blocks f.left) in
    ap length f.bytes ∙ written_length (packet_blocks done) o₀ (omega (arith, all, f.room))

-- There is room for the next block.
room_here : (l o₀ o : List ℕ) (read at : ℕ) → more_at l read ≡ true → Laid l o₀ read at o → at + block_size (number 4 8 (drop read l)) ≤ length o
room_here l o₀ o read at more f =
    let done = f.done in
    let r : Recorded = record_here l read done in
    let next = first_left l read done f.left more f.walk in
    let split = ap (λ (t : List Recorded). done ++ t) next.first ∙ sym (append_assoc done (r ∷ []) next.others) in
    let rest : length (packet_blocks (done ++ f.left)) ≡ length (packet_blocks (done ++ r ∷ [])) + length (packet_blocks next.others) =
    ap (λ (t : List Recorded). length (packet_blocks t)) split
    ∙ ap length (blocks_append (done ++ r ∷ []) next.others)
    ∙ length-append (packet_blocks (done ++ r ∷ [])) (packet_blocks next.others) in
    let one = blocks_length done r ∙ ap (λ (i : ℕ). length (packet_blocks done) + block_size i) (here_length l read more) in
    omega (arith, rest, one, f.place, f.room, laid_length l o₀ o read at f)

pub step_asks : (l o₀ o : List ℕ) (read at : ℕ) → more_at l read ≡ true → Laid l o₀ read at o → StepAsks l (step_at l read 0) (length (mid_of at (length o - at) o))
step_asks l o₀ o read at more f =
    let room = room_here l o₀ o read at more f in
    rw (there_found l read 0 more)
    (record {
      within = (spot_within l read more).0;
      short = (broken_no (drop read l) (more_yes l read more).1).1;
      fits = omega (arith, room, mid_length at o);
    })

-- The block of the record at a place.
block_here : (l : List ℕ) (read : ℕ) (done : List Recorded) → more_at l read ≡ true → step_block l (step_at l read 0) ≡ packet_block (record_here l read done)
block_here l read done more = ap (step_block l) (there_found l read 0 more)

pub fits_on : (l o₀ o : List ℕ) (read at : ℕ) → more_at l read ≡ true → Laid l o₀ read at o → at + length (step_block l (step_at l read 0)) ≤ length o
fits_on l o₀ o read at more f =
    let room = room_here l o₀ o read at more f in
    let r : Recorded = record_here l read f.done in
    let one = blocks_length f.done r ∙ ap (λ (i : ℕ). length (packet_blocks f.done) + block_size i) (here_length l read more) in
    let two = ap length (blocks_more f.done r) ∙ length-append (packet_blocks f.done) (packet_block r) in
    omega (arith, room, one, two, ap length (block_here l read f.done more))

pub at_next : (l o₀ o : List ℕ) (read at n : ℕ) (e : List ℕ) → more_at l read ≡ true → n ≡ length (step_block l (step_at l read 0))
    → e ≡ written (step_block l (step_at l read 0)) (mid_of at (length o - at) o) → Laid l o₀ read at o
    → Laid l o₀ (past_at l read) (at + n) (put_mid at (length o - at) o e)
at_next l o₀ o read at n e more size is f =
    let done = f.done in
    let r : Recorded = record_here l read done in
    let next = first_left l read done f.left more f.walk in
    let block = block_here l read done more in
    record {
      done = done ++ r ∷ [];
      left = next.others;
      header = f.header;
      walk = next.walk;
      place = omega (arith, f.place, size, ap length block, ap length (blocks_more done r), length-append (packet_blocks done) (packet_block r));
      bytes =
          written_behind (packet_blocks done) (step_block l (step_at l read 0)) (packet_block r) o₀ o e at (sym f.place) f.bytes block is
          ∙ ap (λ (t : List ℕ). written t o₀) (sym (blocks_more done r));
      room =
          subst (λ (t : List Recorded). length (packet_blocks t) ≤ length o₀)
          (ap (λ (t : List Recorded). done ++ t) next.first ∙ sym (append_assoc done (r ∷ []) next.others)) f.room;
    }

pub at_end : (l o₀ o : List ℕ) (read at : ℕ) → more_at l read ≡ false → WriteAsks packet_blocks l o₀ → Laid l o₀ read at o
    → o ≡ written (packet_blocks (records_given (records_answer l))) o₀
at_end l o₀ o read at none asks f = go (walk_end l read f.done (whole f.left) f.header none f.walk)
  where
    go : ((step_at l read (length f.done) ≡ gives_all None) × (records_answer l ≡ gives_all f.done))
        ⊎ ((step_at l read (length f.done) ≡ refused_at 25 (length f.done)) × (records_answer l ≡ refused_at 25 (length f.done)))
        → o ≡ written (packet_blocks (records_given (records_answer l))) o₀
    go (inl (s, e)) = f.bytes ∙ ap (λ (a : ListAnswer (List Recorded)). written (packet_blocks (records_given a)) o₀) (sym e)
    go (inr (s, e)) = absurd (true≢false (cc (sym e ∙ asks.read)))

-- ---- the whole file

-- There is room for the first two blocks, and the output stays as long.
pub head_kept : (l o o₁ : List ℕ) → WriteAsks exported l o → o₁ ≡ written (section_block ++ interface_block) o → (head_size ≤ length o) × (length o₁ ≡ length o)
unfolding section_block interface_block block
head_kept l o o₁ asks e =
    let room : head_size ≤ length o = omega (arith, asks.fits, exported_length asks.records) in
    (room, ap length e ∙ written_length (section_block ++ interface_block) o room)

-- What is asked of all is asked of the packets' blocks behind them.
pub packets_ask : (l o o₁ : List ℕ) → WriteAsks exported l o → length o₁ ≡ length o → WriteAsks packet_blocks l (mid_of head_size (length o₁ - head_size) o₁)
packets_ask l o o₁ asks same =
    record { records = asks.records; read = asks.read; fits = omega (arith, asks.fits, exported_length asks.records, mid_length head_size o₁) }

-- The packets' blocks behind the first two are the capture as pcapng.
pub file_written : (l o o₁ e : List ℕ) → o₁ ≡ written (section_block ++ interface_block) o
    → e ≡ written (packet_blocks (records_given (records_answer l))) (mid_of head_size (length o₁ - head_size) o₁)
    → put_mid head_size (length o₁ - head_size) o₁ e ≡ written (export_of l) o
unfolding exported section_block interface_block block
file_written l o o₁ e is packets =
    written_behind (section_block ++ interface_block) (packet_blocks (records_given (records_answer l))) _ o o₁ e head_size refl is refl packets

-- ---- the answer

-- Where a size is answered, the records are whole, and there is room for so many bytes.
pub accepted : (l o : List ℕ) (n : ℕ) → gives_all n ≡ export_answer l (length o) → WriteAsks exported l o
accepted l o n e =
    let g = given (records_answer l) (length o) n (sym e) in
    record { records = g.records; read = g.read; fits = omega (arith, g.size, g.fits) }

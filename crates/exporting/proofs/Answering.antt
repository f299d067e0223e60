-- The answer, record by record.
use mathlib.Core.Path.{◌≡◌, refl, sym, ap, ap₂, ◌∙◌}
use Prim.Native.Nat.{ℕ, suc, ◌+◌, ◌-◌, ◌≤◌, ◌<◌}
use native.Mathlib.Omega.{arith}
use mathlib.Core.Bool.{Bool, true, false, true≢false}
use mathlib.Core.Logic.{◌⊎◌, inl, inr}
use mathlib.Core.List.{List, [], ◌∷◌, ◌++◌, append-nil, append_assoc}
use lib.ListN.{length, drop, length-append}
use lib.Dec.{ltb}
use borrow.Author.Tests.{ltb-true, ltb-false, lt-ltb}
use Rattle.std.specs.Prelude.{None}
use Rattle.pkt.specs.Answers.{ListAnswer, refused_whole, refused_at, gives_all}
use Rattle.pkt.proofs.Choice.{pick_yes, pick_no}
use Rattle.pcap.specs.Answers.{most_micros}
use Rattle.pcap.specs.Pcap.{file_header}
use Rattle.pcap.specs.Read.{number, Recorded, Records, records_of}
use Rattle.reading.specs.Reading.{starts_with, header_size, open_at, Next, step_at, more_at, past_at}
use Rattle.reading.specs.Ends.{records_answer}
use Rattle.reading.proofs.Broken.{broken_no, more_yes}
use Rattle.reading.proofs.Ending.{there_found, spot_within}
use Rattle.exporting.specs.Pcapng.{block, section_block, interface_block, packet_block, packet_blocks, exported}
use Rattle.exporting.specs.Export.{unless_late, room_for, answer_for, export_answer}
use Rattle.exporting.specs.Steps.{block_size, head_size, timely, with_record, with_step, ended_by, StepShort}
use Rattle.exporting.proofs.Laying.{block_length, here_length}
use Rattle.exporting.proofs.Walking.{Walk, walk_start, record_here, walk_next, walk_end}

-- ---- the answer for some records, and for one more

-- the answer for the records so far
abbrev pub so_far : List Recorded → ℕ → ListAnswer ℕ
so_far done room = unless_late 0 done (room_for (length (exported done)) room)

-- One record, behind n bytes: where these do not fit, neither do more.
one_more : (k : ℕ) (r : Recorded) (n m l room : ℕ) → m ≡ n + block_size l
    → timely k r.stamped.usec (room_for m room) ≡ with_record (room_for n room) k r.stamped.usec l room
one_more k r n m l room size = go (ltb room n) refl
  where
    go : (b : Bool) → ltb room n ≡ b → timely k r.stamped.usec (room_for m room) ≡ with_record (room_for n room) k r.stamped.usec l room
    go true e = rw (e, lt-ltb room m (omega (arith, ltb-true room n e))) refl
    go false e = rw (e, size) refl

-- The answer for records from the k-th on, and one more behind them.
late_more : (k : ℕ) (ds : List Recorded) (r : Recorded) (n m l room : ℕ) → m ≡ n + block_size l
    → unless_late k (ds ++ r ∷ []) (room_for m room) ≡ with_record (unless_late k ds (room_for n room)) (k + length ds) r.stamped.usec l room
unfolding unless_late
late_more k [] r n m l room size =
    one_more k r n m l room size ∙ ap (λ (i : ℕ). with_record (room_for n room) i r.stamped.usec l room) (omega arith)
late_more k (d ∷ ds) r n m l room size = go (ltb most_micros d.stamped.usec) refl (late_more (suc k) ds r n m l room size)
  where
    go : (b : Bool) → ltb most_micros d.stamped.usec ≡ b
        → unless_late (suc k) (ds ++ r ∷ []) (room_for m room) ≡ with_record (unless_late (suc k) ds (room_for n room)) (suc k + length ds) r.stamped.usec l room
        → unless_late k (d ∷ (ds ++ r ∷ [])) (room_for m room) ≡ with_record (unless_late k (d ∷ ds) (room_for n room)) (k + suc (length ds)) r.stamped.usec l room
    go true e next = rw e refl
    go false e next =
        let i : suc k + length ds ≡ k + suc (length ds) = omega arith in
        rw e (next ∙ ap (λ (j : ℕ). with_record (unless_late (suc k) ds (room_for n room)) j r.stamped.usec l room) i)

-- An answer that is no refusal is the one behind the test of times,
pub late_given : (k : ℕ) (rs : List Recorded) (a : ListAnswer ℕ) (n : ℕ) → unless_late k rs a ≡ gives_all n → a ≡ gives_all n
unfolding unless_late
late_given k [] a n e = e
late_given k (r ∷ rs) a n e = go (ltb most_micros r.stamped.usec) refl (late_given (suc k) rs a n)
  where
    go : (b : Bool) → ltb most_micros r.stamped.usec ≡ b → (unless_late (suc k) rs a ≡ gives_all n → a ≡ gives_all n) → a ≡ gives_all n
    go true p next = absurd (true≢false (cc (sym e ∙ pick_yes _ _ p)))
    go false p next = next (sym (pick_no _ _ p) ∙ e)

-- and the size that is answered is the one that there is room for.
pub room_given : (size room n : ℕ) → room_for size room ≡ gives_all n → (n ≡ size) × (size ≤ room)
room_given size room n e = go (ltb room size) refl
  where
    go : (b : Bool) → ltb room size ≡ b → (n ≡ size) × (size ≤ room)
    go true p = absurd (true≢false (cc (sym e ∙ pick_yes _ _ p)))
    go false p = (cc (sym e ∙ pick_no _ _ p), ltb-false room size p)

-- What is known where a size n is answered.
pub record Given (a : ListAnswer (List Recorded)) (room n : ℕ) : Type 0 where
  pub records : List Recorded
  pub read : a ≡ gives_all records
  pub size : n ≡ length (exported records)
  pub fits : n ≤ room

pub given : (a : ListAnswer (List Recorded)) (room n : ℕ) → answer_for a room ≡ gives_all n → Given a room n
given (refused_whole x) room n e = absurd (true≢false (cc e))
given (refused_at x k) room n e = absurd (true≢false (cc e))
given (gives_all rs) room n e =
    let g = room_given (length (exported rs)) room n (late_given 0 rs _ n e) in
    record { records = rs; read = refl; size = g.0; fits = omega (arith, g.0, g.1) }

-- ---- the blocks of some records, and of others behind them

pub blocks_append : (ds es : List Recorded) → packet_blocks (ds ++ es) ≡ packet_blocks ds ++ packet_blocks es
unfolding packet_blocks
blocks_append [] es = refl
blocks_append (d ∷ ds) es = ap (λ (t : List ℕ). packet_block d ++ t) (blocks_append ds es) ∙ sym (append_assoc (packet_block d) (packet_blocks ds) (packet_blocks es))

pub blocks_more : (ds : List Recorded) (r : Recorded) → packet_blocks (ds ++ r ∷ []) ≡ packet_blocks ds ++ packet_block r
unfolding packet_blocks
blocks_more ds r = blocks_append ds (r ∷ []) ∙ ap (λ (t : List ℕ). packet_blocks ds ++ t) (append-nil (packet_block r))

pub blocks_length : (ds : List Recorded) (r : Recorded) → length (packet_blocks (ds ++ r ∷ [])) ≡ length (packet_blocks ds) + block_size (length r.stamped.packet)
blocks_length ds r =
    ap length (blocks_more ds r)
    ∙ length-append (packet_blocks ds) (packet_block r)
    ∙ ap (λ (n : ℕ). length (packet_blocks ds) + n) (block_length r.stamped.sec r.stamped.usec r.original r.stamped.packet)

-- A file has 48 bytes beside the packets' blocks.
pub exported_length : (ds : List Recorded) → length (exported ds) ≡ head_size + length (packet_blocks ds)
unfolding exported section_block interface_block block
exported_length ds = omega arith

none_length : length (exported []) ≡ head_size
unfolding packet_blocks
none_length = exported_length []

more_length : (ds : List Recorded) (r : Recorded) → length (exported (ds ++ r ∷ [])) ≡ length (exported ds) + block_size (length r.stamped.packet)
more_length ds r = omega (arith, exported_length (ds ++ r ∷ []), exported_length ds, blocks_length ds r)

-- ---- the loop

-- Where it is: at 0, where the capture does not start with the file header; or in a walk, with the answer for the records behind it.
pub record Behind (l : List ℕ) (at count : ℕ) (a : ListAnswer ℕ) (room : ℕ) : Type 0 where
  pub done : List Recorded
  pub rest : Records
  pub header : starts_with file_header l ≡ true
  pub walk : Walk l at done rest
  pub counted : count ≡ length done
  pub says : a ≡ so_far done room

abbrev pub Facts : List ℕ → ℕ → ℕ → ListAnswer ℕ → ℕ → Type 0
Facts l at count a room = ((starts_with file_header l ≡ false) × (at ≡ 0)) ⊎ Behind l at count a room

pub at_start : (l : List ℕ) (at room : ℕ) (a : ListAnswer ℕ) → at ≡ open_at l → a ≡ room_for head_size room → Facts l at 0 a room
unfolding unless_late
at_start l at room a e is = go (starts_with file_header l) refl
  where
    go : (b : Bool) → starts_with file_header l ≡ b → Facts l at 0 a room
    go false h = inl (h, e ∙ pick_no _ _ h)
    go true h =
        inr
        (record {
          done = [];
          rest = records_of (drop header_size l);
          header = h;
          walk = rw e (walk_start l h);
          counted = refl;
          says = is ∙ ap (λ (n : ℕ). room_for n room) (sym none_length);
        })

-- A record stands only behind the file header.
pub in_walk : (l : List ℕ) (at count : ℕ) (a : ListAnswer ℕ) (room : ℕ) → more_at l at ≡ true → Facts l at count a room → Behind l at count a room
in_walk l at count a room more (inl (h, z)) = absurd (true≢false (sym more ∙ ap (more_at l) z))
in_walk l at count a room more (inr b) = b

-- A step finds the record, which is short.
pub step_short : (l : List ℕ) (at k : ℕ) → more_at l at ≡ true → StepShort (step_at l at k)
step_short l at k more = rw (there_found l at k more) (broken_no (drop at l) (more_yes l at more).1).1

pub at_next : (l : List ℕ) (at count : ℕ) (a : ListAnswer ℕ) (room : ℕ) → more_at l at ≡ true → Behind l at count a room
    → Facts l (past_at l at) (count + 1) (with_step a (step_at l at count) room) room
at_next l at count a room more b =
    let done = b.done in
    let r : Recorded = record_here l at done in
    let (left, first, walk) = walk_next l at done b.rest more b.walk in
    let n : ℕ = number 4 8 (drop at l) in
    let size = more_length done r ∙ ap (λ (i : ℕ). length (exported done) + block_size i) (here_length l at more) in
    let counted : count ≡ 0 + length done = omega (arith, b.counted) in
    let grown : length (done ++ r ∷ []) ≡ suc (length done) = length-append done (r ∷ []) ∙ omega arith in
    inr
    (record {
      done = done ++ r ∷ [];
      rest = left;
      header = b.header;
      walk = walk;
      counted = omega (arith, b.counted, grown);
      says =
          ap (λ (s : ListAnswer Next). with_step a s room) (there_found l at count more)
          ∙ ap₂ (λ (x : ListAnswer ℕ) (k : ℕ). with_record x k r.stamped.usec n room) b.says counted
          ∙ sym (late_more 0 done r (length (exported done)) _ n room size);
    })

pub at_end : (l : List ℕ) (at count : ℕ) (a : ListAnswer ℕ) (room : ℕ) → more_at l at ≡ false → Facts l at count a room
    → ended_by (step_at l at count) a ≡ export_answer l room
at_end l at count a room none (inl (h, z)) =
    ap (λ (i : ℕ). ended_by (step_at l i count) a) z ∙ sym (ap (λ (x : ListAnswer (List Recorded)). answer_for x room) (pick_no _ _ h))
at_end l at count a room none (inr b) = go (walk_end l at b.done b.rest b.header none b.walk)
  where
    step_is : step_at l at count ≡ step_at l at (length b.done)
    step_is = ap (step_at l at) b.counted

    go : ((step_at l at (length b.done) ≡ gives_all None) × (records_answer l ≡ gives_all b.done))
        ⊎ ((step_at l at (length b.done) ≡ refused_at 25 (length b.done)) × (records_answer l ≡ refused_at 25 (length b.done)))
        → ended_by (step_at l at count) a ≡ export_answer l room
    go (inl (s, e)) = rw (step_is ∙ s, e) b.says
    go (inr (s, e)) = rw (step_is ∙ s, e) refl

-- A record more is counted below 2 ^ 64, and the walk goes on.
pub counts_on : (l : List ℕ) (at count : ℕ) (a : ListAnswer ℕ) (room : ℕ) → more_at l at ≡ true → Behind l at count a room → count + 1 ≤ length l
counts_on l at count a room more b = omega (arith, b.counted, b.walk.few, (spot_within l at more).0)

pub falls : (l : List ℕ) (at : ℕ) → more_at l at ≡ true → length l - past_at l at < length l - at
falls l at more = let w = spot_within l at more in omega (arith, w.0, w.1)

-- What is exported is read back: over any number of records, and so with what a call wrote.
use mathlib.Core.Path.{◌≡◌, refl, sym, ap, ◌∙◌, subst}
use Prim.Native.Nat.{ℕ, zero, suc, ◌+◌, ◌/◌, ◌%◌, ◌^◌, ◌≤◌, ◌<◌}
use native.Mathlib.Omega.{arith}
use native.Mathlib.Nat.{pow-suc, pow-zero, one-le-pow}
use mathlib.Core.Bool.{Bool, true, false, true≢false}
use mathlib.Core.List.{List, [], ◌∷◌, ◌++◌, map}
use lib.ListN.{length, take, drop, length-append, length-drop}
use lib.Seq.{take_at, length-take-le, get_or-drop, drop-drop}
use lib.Dec.{ltb, eqb}
use borrow.Author.Tests.{ltb-false}
use Rattle.std.specs.Prelude.{Ok}
use Rattle.pkt.specs.Answers.{ListAnswer, refused_whole, refused_at, gives_all, plainly}
use Rattle.pkt.specs.Fields.{Bytes}
use Rattle.pkt.specs.Written.{written, leaves}
use Rattle.pkt.proofs.Choice.{pick_yes, pick_no}
use Rattle.pcap.specs.Answers.{most_micros}
use Rattle.pcap.specs.Pcap.{file_header}
use Rattle.pcap.specs.Read.{le_value, number, Recorded, Records, whole, broken_after, in_front, record_at, record_size, is_broken, records_in, records_of}
use Rattle.reading.specs.Reading.{starts_with, header_size}
use Rattle.reading.specs.Ends.{all_of, records_answer}
use Rattle.reading.proofs.Broken.{broken_no}
use Rattle.exporting.specs.Pcapng.{block, section_block, interface_block, micros, packet_block, packet_blocks, exported}
use Rattle.exporting.specs.Read.{items_in, items_of, resolution, records_back}
use Rattle.exporting.specs.Export.{unless_late, answer_for, records_given, Exports}
use Rattle.exporting.specs.Back.{Timed, AllTimed, as_packet, as_items, Back, ReadsBack}
use Rattle.exporting.proofs.Answering.{room_given}
use Rattle.exporting.proofs.Block.{section_read, interface_read, packet_read}

-- ---- any number of records

-- The blocks that were written are those that are read.
packets_read : (rs : List Recorded) (most : ℕ) → AllTimed rs → length rs < most → items_in most (packet_blocks rs) ≡ map as_packet rs
unfolding packet_blocks items_in AllTimed
packets_read rs zero h m = absurd (omega arith)
packets_read [] (suc most) h m = refl
packets_read (r ∷ rs) (suc most) (h, t) m = rw (packet_read r h most (packet_blocks rs), packets_read rs most t (omega arith))

-- A block has bytes,
some : (r : Recorded) → 0 < length (packet_block r)
unfolding packet_block block
some r = omega arith

-- so there are no more records than bytes.
many : (rs : List Recorded) → length rs ≤ length (packet_blocks rs)
unfolding packet_blocks
many [] = omega arith
many (r ∷ rs) = omega (arith, many rs, some r, length-append (packet_block r) (packet_blocks rs))

-- So it is with the section and the interface in front,
all_read : (rs : List Recorded) (most : ℕ) → AllTimed rs → length rs < most → items_in (suc (suc most)) (exported rs) ≡ as_items rs
unfolding exported
all_read rs most h m = rw (section_read (suc most) (interface_block ++ packet_blocks rs), interface_read most (packet_blocks rs), packets_read rs most h m)

-- with as many blocks as there may be in so many bytes.
items_read : (rs : List Recorded) → AllTimed rs → items_of (exported rs) ≡ as_items rs
unfolding exported section_block interface_block block
items_read rs h = all_read rs (length (drop 1 (exported rs))) h (omega (arith, many rs))

-- The packets' times, data and lengths are those of the records.
packets_back : (rs : List Recorded) → AllTimed rs → records_back (map as_packet rs) ≡ rs
unfolding records_back AllTimed
packets_back [] h = refl
packets_back (r ∷ rs) (h, t) =
    let s : micros r / resolution ≡ r.stamped.sec = omega (arith, h.micros) in
    let u : micros r % resolution ≡ r.stamped.usec = omega (arith, h.micros) in
    rw (s, u, packets_back rs t)

-- So the records are read back.
records_back_lem : (rs : List Recorded) → AllTimed rs → records_back (items_of (exported rs)) ≡ rs
unfolding records_back
records_back_lem rs h = ap records_back (items_read rs h) ∙ packets_back rs h

-- ---- the records of a capture

-- A number in k bytes is below 256 ^ k, also where they are cut short.
number_below : (k i : ℕ) (l : List ℕ) → Bytes l → number k i l < 256 ^ k
unfolding number le_value
number_below zero i l b = omega (arith, pow-zero 256)
number_below (suc k) zero [] b = omega (arith, one-le-pow (suc k) 256 (omega arith))
number_below (suc k) (suc i) [] b = omega (arith, one-le-pow (suc k) 256 (omega arith))
number_below (suc k) zero (x ∷ l) b = omega (arith, b 0, pow-suc 256 k, number_below k 0 l (λ j. b (suc j)))
number_below (suc k) (suc i) (x ∷ l) b = number_below (suc k) i l (λ j. b (suc j))

-- A record of bytes that is not broken has seconds and an original length of 32 bits and at most 65,535 bytes.
record_timed : (l : List ℕ) → Bytes l → is_broken l ≡ false → (record_at l).stamped.usec ≤ most_micros → Timed (record_at l)
unfolding record_at record_size
record_timed l b e u =
    let w = broken_no l e in
    record {
      seconds = omega (arith, number_below 4 0 l b);
      micros = u;
      original = omega (arith, number_below 4 12 l b);
      short = omega (arith, w.1, length-take-le (number 4 8 l) (drop 16 l) (omega (arith, w.2, length-drop 16 l)));
    }

-- The first of the records that are read is whole, and the others are read behind it.
first_read : (most : ℕ) (l : List ℕ) (r : Recorded) (rs : List Recorded) → records_in (suc most) l ≡ whole (r ∷ rs)
    → (is_broken l ≡ false) × (r ≡ record_at l) × (records_in most (drop (record_size l) l) ≡ whole rs)
unfolding records_in
first_read most l r rs e = go (eqb (length l) 0) refl (is_broken l) refl (records_in most (drop (record_size l) l)) refl
  where
    go : (s : Bool) → eqb (length l) 0 ≡ s → (t : Bool) → is_broken l ≡ t → (w : Records) → records_in most (drop (record_size l) l) ≡ w
        → (is_broken l ≡ false) × (r ≡ record_at l) × (records_in most (drop (record_size l) l) ≡ whole rs)
    go true p t q w x = absurd (true≢false (cc (sym e ∙ pick_yes _ _ p)))
    go false p true q w x = absurd (true≢false (cc (sym e ∙ pick_no _ _ p ∙ pick_yes _ _ q)))
    go false p false q (broken_after ss) x = absurd (true≢false (cc (sym e ∙ pick_no _ _ p ∙ pick_no _ _ q ∙ ap (in_front (record_at l)) x)))
    go false p false q (whole ss) x =
        let both : whole (r ∷ rs) ≡ whole (record_at l ∷ ss) = sym e ∙ pick_no _ _ p ∙ pick_no _ _ q ∙ ap (in_front (record_at l)) x in
        (q, cc both, x ∙ sym (cc both))

-- An answer that is no refusal is not 17: the first record has a time that is one, and the others are asked the same.
not_late : (k : ℕ) (r : Recorded) (rs : List Recorded) (a : ListAnswer ℕ) (n : ℕ) → unless_late k (r ∷ rs) a ≡ gives_all n
    → (r.stamped.usec ≤ most_micros) × (unless_late (suc k) rs a ≡ gives_all n)
unfolding unless_late
not_late k r rs a n e = go (ltb most_micros r.stamped.usec) refl
  where
    go : (t : Bool) → ltb most_micros r.stamped.usec ≡ t → (r.stamped.usec ≤ most_micros) × (unless_late (suc k) rs a ≡ gives_all n)
    go true p = absurd (true≢false (cc (sym e ∙ pick_yes _ _ p)))
    go false p = (ltb-false _ _ p, sym (pick_no _ _ p) ∙ e)

-- So has each, and the answer is the one that is given behind that test.
all_timed : (most : ℕ) (l : List ℕ) (at k : ℕ) (rs : List Recorded) (a : ListAnswer ℕ) (n : ℕ) → Bytes l → records_in most (drop at l) ≡ whole rs
    → unless_late k rs a ≡ gives_all n → AllTimed rs × (a ≡ gives_all n)
unfolding records_in unless_late AllTimed
all_timed zero l at k rs a n b e u = absurd (true≢false (cc e))
all_timed (suc most) l at k [] a n b e u = (tt, u)
all_timed (suc most) l at k (r ∷ rs) a n b e u =
    let first = first_read most (drop at l) r rs e in
    let late = not_late k r rs a n u in
    let bytes : Bytes (drop at l) = λ i. rw (get_or-drop at l i 0) (b (at + i)) in
    let next : ℕ = at + record_size (drop at l) in
    let behind : records_in most (drop next l) ≡ whole rs = ap (records_in most) (sym (drop-drop (record_size (drop at l)) at l)) ∙ first.2 in
    let rest = all_timed most l next (suc k) rs a n b behind late.1 in
    let time = subst (λ (x : Recorded). x.stamped.usec ≤ most_micros) first.1 late.0 in
    ((subst Timed (sym first.1) (record_timed (drop at l) bytes first.0 time), rest.0), rest.1)

-- ---- what a call wrote

-- A capture that is answered with its records is read whole behind its header.
pub answered_whole : (l : List ℕ) (rs : List Recorded) → records_answer l ≡ gives_all rs → records_of (drop header_size l) ≡ whole rs
answered_whole l rs e = go (starts_with file_header l) refl (records_of (drop header_size l)) refl
  where
    go : (t : Bool) → starts_with file_header l ≡ t → (w : Records) → records_of (drop header_size l) ≡ w → records_of (drop header_size l) ≡ whole rs
    go false p w x = cc (sym e ∙ pick_no _ _ p)
    go true p (broken_after ss) x = cc (sym e ∙ pick_yes _ _ p ∙ ap all_of x)
    go true p (whole ss) x = let same : gives_all rs ≡ gives_all ss = sym e ∙ pick_yes _ _ p ∙ ap all_of x in x ∙ sym (cc same)

-- What a call wrote is the export of the capture's records, and those have times.
calls_back : (l o o' : List ℕ) (n : ℕ) → Bytes l → Exports l o (Ok n) o' → Back l o' n
unfolding written
calls_back l o o' n b m = go (records_answer l) refl m.answer m.after
  where
    go : (a : ListAnswer (List Recorded)) → records_answer l ≡ a → gives_all n ≡ answer_for a (length o)
        → o' ≡ leaves (plainly (answer_for a (length o))) (exported (records_given a)) o → Back l o' n
    go (refused_whole x) e q w = absurd (true≢false (cc q))
    go (refused_at x k) e q w = absurd (true≢false (cc q))
    go (gives_all rs) e q w =
        let timed = all_timed (suc (length (drop header_size l))) l header_size 0 rs _ n b (answered_whole l rs e) (sym q) in
        let size = (room_given (length (exported rs)) (length o) n timed.1).0 in
        let wrote : o' ≡ written (exported rs) o = w ∙ ap (λ (a : ListAnswer ℕ). leaves (plainly a) (exported rs) o) (sym q) in
        let front : take n o' ≡ exported rs = ap (take n) wrote ∙ take_at (exported rs) (drop (length (exported rs)) o) n (sym size) in
        record {
          records = rs;
          read = e;
          items = ap items_of front ∙ items_read rs timed.0;
          back = ap (λ (t : List ℕ). records_back (items_of t)) front ∙ records_back_lem rs timed.0;
          size = size;
        }

pub reads_back : ReadsBack
reads_back = record { items = items_read; records = records_back_lem; calls = calls_back }

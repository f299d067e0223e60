-- A frame that may go out is not refused, and its records have room.
use mathlib.Core.Path.{◌≡◌, ap, ◌∙◌}
use mathlib.Core.List.{List}
use Prim.Native.Nat.{ℕ, ◌+◌, ◌-◌, ◌*◌, ◌≤◌, ◌<◌}
use native.Mathlib.Nat.{div-lt_iff_lt-mul}
use native.Mathlib.Omega.{arith}
use lib.ListN.{length, take, drop, length-take}
use borrow.Author.Tests.{le-ltb}
use Rattle.pkt.specs.Answers.{Answer, gives, says, mapped}
use Rattle.pkt.specs.Written.{written, leaves}
use Rattle.pcap.specs.Pcap.{records_bytes}
use Rattle.feed.specs.declared.Feed.{Feed}
use Rattle.feed.specs.declared.Written.{Written}
use Rattle.std.specs.Prelude.{Result, Option, Ok, Err, Some}
use Rattle.std.specs.Result.{result_unwrap_or}
use Rattle.pkt.specs.declared.refusal.Refusal.{Refusal}
use Rattle.planner.specs.Cutting.{blocks_in, full_above, piece_count}
use Rattle.feed.specs.Feed.{next_feed, written_for, frame_size, frame_records, feed_answer, Feeds}
use Rattle.lapfeed.specs.Frames.{second_of, micro_of, most_records, Ready, Put, Follows}

-- what one packet cannot carry takes at most 8,189 full ones
few_full : (above full : ℕ) → 8 ≤ full → above ≤ 65507 → full_above above full < 8190
few_full above full h few = let p : 0 < full = omega arith in (div-lt_iff_lt-mul p).1 (omega arith)

pub size_most : (m n : ℕ) → 28 ≤ m → n ≤ 65507 → frame_size m n ≤ most_records
unfolding piece_count
size_most m n h few =
    let q = few_full (8 + n - (m - 20)) (8 * blocks_in m) (omega arith) (omega arith) in
    omega (arith, q)

not_refused : (f : Feed) (i n usec scratch out : ℕ) → usec ≤ 999999 → Ready f i n scratch out → feed_answer f.link n usec scratch out ≡ gives (frame_size f.link n)
not_refused f i n usec scratch out t r =
    let most = size_most f.link n r.least r.few in
    simp (
      le-ltb 65507 n r.few,
      le-ltb f.link 28 r.least,
      le-ltb 65535 f.link r.most,
      le-ltb 999999 usec t,
      le-ltb scratch (28 + n) r.scratch_room,
      le-ltb out (frame_size f.link n) (omega (arith, most, r.out_room)),
    )

-- what a frame that was not refused wrote
given_written : (r : Result Written Refusal) (v w : Written) → says r ≡ gives w → result_unwrap_or r v ≡ w
given_written (Ok u) v w e = cc
given_written (Err n) v w e = absurd cc

pub records_put : (f : Feed) (i : ℕ) (b s o : List ℕ) (sec usec : ℕ) (r : Result Written Refusal) (n v : Written) (s' o' : List ℕ)
    → Ready f i (length b) (length s) (length o) → sec ≡ second_of i → usec ≡ micro_of i → usec ≤ 999999
    → Feeds f b sec usec s o r s' o' → v ≡ result_unwrap_or r n → Put f i b o v o'
records_put f i b s o sec usec r n v s' o' ready at-sec at-usec low x is =
    let g = not_refused f i (length b) usec (length s) (length o) low ready in
    let w : Written = written_for f (length b) (frame_size f.link (length b)) in
    let e : v ≡ w = is ∙ given_written r n w (x.answer ∙ ap (mapped (written_for f (length b))) g) in
    record {
      answer = e;
      within = omega (arith, ap (λ (y : Written). y.bytes) e, size_most f.link (length b) ready.least ready.few);
      after =
          x.output_is
          ∙ ap (λ (a : Answer ℕ). leaves a (records_bytes (frame_records f b sec usec)) o) g
          ∙ (λ j. written (records_bytes (frame_records f b (at-sec j) (at-usec j))) o);
    }

-- the feed after a frame
pub put_next : (f : Feed) (i : ℕ) (b o : List ℕ) (r : Written) (o' : List ℕ) → Put f i b o r o' → r.feed ≡ next_feed f
put_next f i b o r o' x = ap (λ (w : Written). w.feed) x.answer

pub led_on : (f g : Feed) (r : Option Feed) → Follows f r → r ≡ Some g → g ≡ next_feed f
led_on f g r x e = rw e at x

-- the buffers: a frame's part of the input, and the whole of the others
pub lent_few : (l : List ℕ) (size most : ℕ) → size ≤ most → length (take (size - 0) (drop 0 l)) ≤ most
lent_few l size most h = omega (arith, length-take (size - 0) (drop 0 l))

pub lent_room : (l : List ℕ) (size most : ℕ) (s : List ℕ) → size ≤ most → length s ≡ 28 + most → 28 + length (take (size - 0) (drop 0 l)) ≤ length s
lent_room l size most s h e = omega (arith, lent_few l size most h)

pub whole_room : (o : List ℕ) → length o ≡ most_records → most_records ≤ length o
whole_room o e = omega arith

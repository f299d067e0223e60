-- Frames one behind the other leave a capture, and it reads back as what went in.
use Rattle.std.proofs.Common.{◌≡◌, ℕ, suc, ◌+◌, ◌%◌, ◌^◌, ◌<◌, ◌≤◌, List, [], ◌∷◌, ◌++◌, map, length, take, sym, refl, ap, ◌∙◌, subst, ap₂, arith, take_at}
use mathlib.Core.List.{Memᴰ}
use Rattle.pkt.specs.Answers.{Answer, refused, gives, mapped, most_bytes}
use Rattle.std.specs.Prelude.{Ok}
use Rattle.pkt.specs.Written.{written, leaves}
use Rattle.ezpkt.specs.Build.{udp_packet}
use Rattle.ezpkt.specs.declared.SocketAddrV4.{SocketAddrV4}
use Rattle.pcap.specs.Pcap.{Stamped, file_header, records_bytes, capture_bytes}
use Rattle.pcap.specs.Runs.{AllTakable}
use Rattle.pcap.specs.Read.{read_file}
use Rattle.pcap.specs.Answers.{most_micros, HeaderWritten}
use Rattle.pcap.proofs.Answers.{fitting_fits}
use Rattle.pcap.proofs.Pcap.{file_header_length}
use Rattle.pcap.proofs.Read.{capture_read}
use Rattle.pcap.proofs.Runs.{records_append, takable_append}
use Rattle.ezpkt.specs.declared.Marks.{Marks}
use Rattle.feed.specs.declared.Feed.{Feed}
use Rattle.feed.specs.declared.Written.{Written}
use Rattle.feed.specs.Feed.{new_feed, feed_marked, next_feed, frame_dgram, frame_packets, stamped_at, frame_records, written_for, Feeds}
use Rattle.feed.specs.Runs.{feed_at, lap_from, lap_records, FramesWritten, none, accepted, refused, LapWritten, behind_header, ReadsLap}
use Rattle.feed.proofs.Feeding.{Granted, granted}
use Rattle.feed.proofs.Fitting.{frames_fit}

-- ---- an accepted frame

-- what it left
pub record Left (f : Feed) (b : List ℕ) (sec usec : ℕ) (s o : List ℕ) (w : Written) (s' o' : List ℕ) : Type 0 where
  pub granted : Granted f.link (length b) usec (length s) (length o) w.bytes
  pub next : w.feed ≡ next_feed f
  pub output_is : o' ≡ written (records_bytes (frame_records f b sec usec)) o
  pub scratch_is : s' ≡ written (udp_packet (frame_dgram f) b) s

told_size : (f : Feed) (n : ℕ) (w : Written) (a : Answer ℕ) → gives w ≡ mapped (written_for f n) a → (a ≡ gives w.bytes) × (w.feed ≡ next_feed f)
told_size f n w (gives x) e =
    let is : w ≡ written_for f n x = cc e in
    (ap (λ (v : Written). gives v.bytes) (sym is), ap (λ (v : Written). v.feed) is)
told_size f n w (refused x) e = let z : ◌≡◌ {A = ℕ} 0 1 = cc in absurd (omega arith)

pub left_accepted : (f : Feed) (b : List ℕ) (sec usec : ℕ) (s o : List ℕ) (w : Written) (s' o' : List ℕ) → Feeds f b sec usec s o (Ok w) s' o'
    → Left f b sec usec s o w s' o'
left_accepted f b sec usec s o w s' o' x =
    let t = told_size f (length b) w _ x.answer in
    record {
      granted = granted f.link (length b) usec (length s) (length o) w.bytes (sym t.0);
      next = t.1;
      output_is = x.output_is ∙ ap (λ (a : Answer ℕ). leaves a (records_bytes (frame_records f b sec usec)) o) t.0;
      scratch_is = x.scratch_is ∙ ap (λ (a : Answer ℕ). leaves a (udp_packet (frame_dgram f) b) s) t.0;
    }

-- packets that are short enough are such as a capture takes, at any time of its range
all_takable : (sec usec : ℕ) (ps : List (List ℕ)) → sec < 2 ^ 32 → usec ≤ most_micros → ((p : List ℕ) → Memᴰ p ps → length p ≤ most_bytes)
    → AllTakable (map (stamped_at sec usec) ps)
unfolding AllTakable
all_takable sec usec [] hs hu short = tt
all_takable sec usec (p ∷ ps) hs hu short = (
  record { seconds = hs; micros = hu; short = short p (Memᴰ.head refl) },
  all_takable sec usec ps hs hu (λ q m. short q (Memᴰ.tail m)),
)

module _ (f : Feed) (b : List ℕ) (sec usec : ℕ) (s o : List ℕ) (w : Written) (s' o' : List ℕ) (x : Feeds f b sec usec s o (Ok w) s' o') where
  left : Left f b sec usec s o w s' o'
  left = left_accepted f b sec usec s o w s' o' x

  -- what it wrote is its records,
  wrote : take w.bytes o' ≡ records_bytes (frame_records f b sec usec)
  unfolding written
  wrote =
      let l : List ℕ = records_bytes (frame_records f b sec usec) in
      let size : length l ≡ w.bytes = (frames_fit f b left.granted.good).bytes sec usec ∙ left.granted.is_size in
      ap (take w.bytes) left.output_is ∙ take_at l _ w.bytes size

  -- and these are such as a capture takes.
  takable : sec < 2 ^ 32 → AllTakable (frame_records f b sec usec)
  takable hs =
      let g = left.granted in
      all_takable sec usec (frame_packets f b) hs g.micros (λ p m. let fit = (frames_fit f b g.good).fit p m in omega (arith, fit, g.most))

-- ---- one frame behind the other

module _ (car core : SocketAddrV4) (link : ℕ) (m : Marks) where
  -- the feed after frame number i is the one before the next
  next_number : (i : ℕ) → next_feed (feed_at car core link m i) ≡ feed_at car core link m (suc i)
  next_number i =
      let e : (i % 65536 + 1) % 65536 ≡ suc i % 65536 = omega arith in
      ap (λ (k : ℕ). record { car = car; core = core; link = link; id = k; marks = m }) e

  -- Calls from frame number i on: what they wrote, and where they end.
  record Onward (i : ℕ) (xs : List Stamped) (g : Feed) (c : List ℕ) : Type 0 where
    bytes : c ≡ records_bytes (lap_from car core link m i xs)
    takable : AllTakable (lap_from car core link m i xs)
    feed : g ≡ feed_at car core link m (i + length xs)

  fed_on : (i : ℕ) (f : Feed) (xs : List Stamped) (g : Feed) (c : List ℕ) → f ≡ feed_at car core link m i → FramesWritten f xs g c → Onward i xs g c
  unfolding lap_from records_bytes AllTakable
  fed_on i _ _ _ _ e (none f) = record { bytes = refl; takable = tt; feed = e ∙ ap (feed_at car core link m) (omega arith) }
  fed_on i _ _ _ _ e (refused f x xs g c s o s' o' n y more) = fed_on i f xs g c e more
  fed_on i _ _ _ _ e (accepted f x xs g c s o s' o' w hs y more) =
      let here : List Stamped = frame_records (feed_at car core link m i) x.packet x.sec x.usec in
      let behind : List Stamped = lap_from car core link m (suc i) xs in
      let same : frame_records f x.packet x.sec x.usec ≡ here = ap (λ (h : Feed). frame_records h x.packet x.sec x.usec) e in
      let l = left f x.packet x.sec x.usec s o w s' o' y in
      let later = fed_on (suc i) w.feed xs g c (l.next ∙ ap next_feed e ∙ next_number i) more in
      record {
        bytes =
            ap₂ ◌++◌ (wrote f x.packet x.sec x.usec s o w s' o' y ∙ ap records_bytes same) later.bytes
            ∙ sym (records_append here behind);
        takable = takable_append here behind (subst AllTakable same (takable f x.packet x.sec x.usec s o w s' o' y hs)) later.takable;
        feed = later.feed ∙ ap (feed_at car core link m) (omega arith);
      }

  -- what `begin` wrote
  header_first : (o o' : List ℕ) (k : ℕ) → HeaderWritten o (Ok k) o' → take k o' ≡ file_header
  unfolding written
  header_first o o' k x =
      let fits = fitting_fits 24 (length o) k (sym x.answer) in
      let put = x.after ∙ ap (λ (a : Answer ℕ). leaves a file_header o) (sym x.answer) in
      ap (take k) put ∙ take_at file_header _ k (file_header_length ∙ fits.1)

  lap_is : (xs : List Stamped) (g : Feed) (l : List ℕ) → LapWritten (feed_marked (new_feed car core link) m) xs g l
      → (l ≡ capture_bytes (lap_records car core link m xs)) × AllTakable (lap_records car core link m xs) × (g ≡ feed_at car core link m (length xs))
  unfolding capture_bytes
  lap_is xs g _ (behind_header c o o' k x more) =
      let all = fed_on 0 (feed_marked (new_feed car core link) m) xs g c refl more in
      (ap₂ ◌++◌ (header_first o o' k x) all.bytes, all.takable, all.feed ∙ ap (feed_at car core link m) (omega arith))

pub reads_lap : ReadsLap
reads_lap =
    record {
      reads = λ car core link m xs g l x. let (is, takable, _) = lap_is car core link m xs g l x in ap read_file is ∙ capture_read (lap_records car core link m xs) takable;
      numbers = λ car core link m xs g l x. (lap_is car core link m xs g l x).2;
    }

-- A packet that is mended: as whole as it was, and with its sums as they belong.
use mathlib.Core.Path.{◌≡◌, refl, sym, ap, ◌∙◌}
use mathlib.Core.Bool.{true}
use mathlib.Core.Logic.{inl, inr}
use Prim.Native.Nat.{ℕ, ◌+◌, ◌-◌, ◌≤◌, ◌<◌}
use native.Mathlib.Omega.{arith}
use mathlib.Core.List.{List, ◌++◌}
use lib.ListN.{length, take}
use lib.Seq.{length-take-le}
use borrow.Author.Tests.{eq-eqb}
use Rattle.pkt.specs.Answers.{gives}
use Rattle.pkt.specs.Fields.{Bytes}
use Rattle.pkt.specs.Rfc1071.{words, sum, checksum, Verifies, verifies}
use Rattle.pkt.specs.Rfc768.{pseudo, nonzero, udp_sum_at}
use Rattle.pkt.specs.Rfc792.{echo_sum_at}
use Rattle.pkt.specs.Rfc9293.{tcp_sum_at}
use Rattle.pkt.proofs.Checksum.{checksum_most, nonzero_range}
use Rattle.inspect.specs.Answers.{whole}
use Rattle.inspect.specs.declared.check.Verdict.TheVariants.{Good}
use Rattle.inspect.specs.Header.{field_at, data_of}
use Rattle.inspect.specs.Check.{unless_bad, verdict_of, check_answer}
use Rattle.inspect.specs.declared.header.IpRead.{IpRead}
use Rattle.inspect.specs.declared.check.Kind.{Kind}
use Rattle.inspect.specs.declared.check.Kind.TheVariants.{Tcp, Udp, Bare, Icmp}
use Rattle.inspect.proofs.Numbers.{take_bytes, drop_bytes}
use Rattle.inspect.proofs.Reading.{framed}
use Rattle.mending.specs.Packets.{verdict_for, AllWithin, AllRight}
use Rattle.mending.specs.Sums.{renewed, ip_sum, behind_pseudo, part_fields, fields_of, put_fields}
use Rattle.mending.proofs.Renewed.{renewed_length, renewed_bytes, renewed_again, renewed_same, take_before, take_within, field_before, field_behind, field_here}
use Rattle.mending.proofs.Summing.{renewed_verifies, behind_verifies, behind_verifies_nonzero}
use Rattle.mending.proofs.Wholes.{Shape, tcp, udp, bare, icmp, sum_at, shape_long, Known, data_length, sum_within, checked}
use Rattle.mending.proofs.Kept.{frame_kept, data_kept, data_renewed, data_field}

-- ---- the number that belongs into the field of a transport part d

-- a UDP field of 0 stays
unfoldable pub part_sum : Kind → IpRead → List ℕ → ℕ
part_sum Tcp h d = behind_pseudo 6 tcp_sum_at h d
part_sum Udp h d = nonzero (behind_pseudo 17 udp_sum_at h d)
part_sum Bare h d = 0
part_sum Icmp h d = checksum (renewed echo_sum_at 0 d)

part_sum_below : (k : Kind) (h : IpRead) (d : List ℕ) → part_sum k h d < 65536
unfolding part_sum
part_sum_below Tcp h d = omega (arith, checksum_most (pseudo h.saddr h.daddr 6 (length d) ++ renewed 16 0 d))
part_sum_below Udp h d =
    let c : ℕ = behind_pseudo 17 6 h d in
    omega (arith, (nonzero_range c (checksum_most (pseudo h.saddr h.daddr 17 (length d) ++ renewed 6 0 d))).1)
part_sum_below Bare h d = omega arith
part_sum_below Icmp h d = omega (arith, checksum_most (renewed 2 0 d))

-- It does not depend on what the field held,
part_sum_kept : (k : Kind) (h : IpRead) (y : ℕ) (d : List ℕ) → part_sum k h (renewed (sum_at k) y d) ≡ part_sum k h d
unfolding part_sum
part_sum_kept Tcp h y d = rw (renewed_length 16 y d, renewed_again 16 0 y d)
part_sum_kept Udp h y d = rw (renewed_length 6 y d, renewed_again 6 0 y d)
part_sum_kept Bare h y d = refl
part_sum_kept Icmp h y d = rw (renewed_again 2 0 y d)

-- leaves the part as whole as it was,
shape_kept : {p : ℕ} {k : Kind} (h : IpRead) (d : List ℕ) → Shape p d k → Shape p (renewed (sum_at k) (part_sum k h d) d) k
unfolding part_sum
shape_kept h d (tcp e long offset) =
    let y : ℕ = behind_pseudo 6 16 h d in
    tcp e (rw (renewed_length 16 y d) long) (field_before 12 1 16 y d (omega arith) ∙ offset)
shape_kept h d (udp e long len some) =
    let c : ℕ = behind_pseudo 17 6 h d in
    let y : ℕ = nonzero c in
    let range = nonzero_range c (checksum_most (pseudo h.saddr h.daddr 17 (length d) ++ renewed 6 0 d)) in
    let here : field_at (renewed 6 y d) 6 2 ≡ y = field_here 6 y d long (omega arith) in
    udp e (rw (renewed_length 6 y d) long) (field_before 4 2 6 y d (omega arith) ∙ len ∙ sym (renewed_length 6 y d)) (λ z. omega arith)
shape_kept h d (bare e long len none) =
    bare e (rw (renewed_length 6 0 d) long) (field_before 4 2 6 0 d (omega arith) ∙ len ∙ sym (renewed_length 6 0 d)) (field_here 6 0 d long (omega arith))
shape_kept h d (icmp e long) = icmp e (rw (renewed_length 2 (checksum (renewed 2 0 d)) d) long)

-- and makes its sum verify.
good_sum : (l : List ℕ) → Verifies l → unless_bad (verifies l) ≡ gives Good
good_sum l e = ap unless_bad (eq-eqb (sum (words l)) 65535 e)

part_verdict : {p : ℕ} {k : Kind} (h : IpRead) (d : List ℕ) → Bytes d → Shape p d k
    → verdict_of k h (renewed (sum_at k) (part_sum k h d) d) ≡ gives (verdict_for k)
unfolding verdict_of part_sum
part_verdict h d b (tcp e long offset) =
    let s : ℕ = h.saddr in
    let t : ℕ = h.daddr in
    let r : List ℕ = renewed 16 (behind_pseudo 6 16 h d) d in
    good_sum (pseudo s t 6 (length r) ++ r) (rw (renewed_length 16 (behind_pseudo 6 16 h d) d) (behind_verifies s t 6 (length d) 16 d refl (omega arith) b))
part_verdict h d b (udp e long len some) =
    let s : ℕ = h.saddr in
    let t : ℕ = h.daddr in
    let r : List ℕ = renewed 6 (nonzero (behind_pseudo 17 6 h d)) d in
    good_sum (pseudo s t 17 (length r) ++ r)
    (rw (renewed_length 6 (nonzero (behind_pseudo 17 6 h d)) d) (behind_verifies_nonzero s t 17 (length d) 6 d refl (omega arith) b))
part_verdict h d b (bare e long len none) = refl
part_verdict h d b (icmp e long) = good_sum (renewed 2 (checksum (renewed 2 0 d)) d) (renewed_verifies 2 d refl (omega arith) b)

-- ---- the fields of a packet l

-- Its part's field holds that number exactly if those of its fields that are the part's are right.
part_right : (k : Kind) (h : IpRead) (l : List ℕ) → field_at l (h.start + sum_at k) 2 ≡ part_sum k h (data_of h l) → AllRight (part_fields k h l)
unfolding part_sum part_fields AllRight
part_right Tcp h l e = (e, tt)
part_right Udp h l e = (e, tt)
part_right Bare h l e = tt
part_right Icmp h l e = (e, tt)

right_part : {p : ℕ} {k : Kind} (h : IpRead) (l : List ℕ) → Shape p (data_of h l) k → 8 ≤ h.end - h.start → AllRight (part_fields k h l)
    → field_at l (h.start + sum_at k) 2 ≡ part_sum k h (data_of h l)
unfolding part_sum part_fields AllRight
right_part h l (tcp e long offset) few r = r.0
right_part h l (udp e long len some) few r = r.0
right_part h l (bare e long len none) few r = sym (data_field h 6 2 l few) ∙ none
right_part h l (icmp e long) few r = r.0

part_within : (k : Kind) (h : IpRead) (l : List ℕ) → h.start + sum_at k + 2 ≤ length l → AllWithin (part_fields k h l) l
unfolding part_sum part_fields AllWithin
part_within Tcp h l e = (e, part_sum_below Tcp h (data_of h l), tt)
part_within Udp h l e = (e, part_sum_below Udp h (data_of h l), tt)
part_within Bare h l e = tt
part_within Icmp h l e = (e, part_sum_below Icmp h (data_of h l), tt)

-- Putting the part's fields into a packet m, whose field is as it was there, is putting the number there.
put_part : {n : ℕ} {k : Kind} (h : IpRead) (l m : List ℕ) → Bytes m → h.start + sum_at k + 2 ≤ length m
    → field_at m (h.start + sum_at k) 2 ≡ field_at (data_of h l) (sum_at k) 2 → Shape n (data_of h l) k
    → put_fields (part_fields k h l) m ≡ renewed (h.start + sum_at k) (part_sum k h (data_of h l)) m
unfolding put_fields part_fields part_sum
put_part h l m b here same (tcp e long offset) = refl
put_part h l m b here same (udp e long len some) = refl
put_part h l m b here same (bare e long len none) =
    sym (ap (λ (y : ℕ). renewed (h.start + 6) y m) (sym (same ∙ none)) ∙ renewed_same (h.start + 6) m b here)
put_part h l m b here same (icmp e long) = refl

-- ---- a packet p with the header h, of the kind k

-- its two numbers put there
unfoldable pub mended : List ℕ → IpRead → Kind → List ℕ
mended p h k = renewed (h.start + sum_at k) (part_sum k h (data_of h p)) (renewed 10 (ip_sum h p) p)

module _ (p : List ℕ) (h : IpRead) (k : Kind) (b : Bytes p) (q : Known p h k) where
  d : List ℕ
  d = data_of h p

  -- the packet with its header's number alone
  half : List ℕ
  half = renewed 10 (ip_sum h p) p

  -- Where the header ends, where the part's field stands, and where the packet ends.
  record Order : Type 0 where
    start : 20 ≤ h.start
    least : 8 ≤ h.end - h.start
    part : sum_at k + 2 ≤ h.end - h.start
    here : h.start + sum_at k + 2 ≤ length p
    all : h.start ≤ length p

  order : Order
  order =
      let f = framed p h q.frame in
      let long = shape_long q.shape in
      let n = data_length p h k q in
      record { start = f.least; least = omega arith; part = omega arith; here = sum_within p h k q; all = omega arith }

  half_data : data_of h half ≡ d
  unfolding d half
  half_data = data_kept h 10 (ip_sum h p) p (omega (arith, order.start))

  mended_data : data_of h (mended p h k) ≡ renewed (sum_at k) (part_sum k h d) d
  unfolding mended d half
  mended_data = data_renewed h (sum_at k) (part_sum k h d) half order.part ∙ ap (renewed (sum_at k) (part_sum k h d)) half_data

  -- the header with its number
  mended_front : take h.start (mended p h k) ≡ renewed 10 (ip_sum h p) (take h.start p)
  unfolding mended
  mended_front =
      take_before h.start (h.start + sum_at k) (part_sum k h (data_of h p)) (renewed 10 (ip_sum h p) p) (omega arith)
      ∙ take_within h.start 10 (ip_sum h p) p (omega (arith, order.start))

  pub mended_known : Known (mended p h k) h k
  unfolding mended d
  mended_known =
      record {
        frame = frame_kept (h.start + sum_at k) (part_sum k h (data_of h p)) (renewed 10 (ip_sum h p) p) (inr (omega (arith, order.start)))
            ∙ frame_kept 10 (ip_sum h p) p (inl refl) ∙ q.frame;
        clear = q.clear;
        piece = q.piece;
        shape = rw mended_data (shape_kept h d q.shape);
      }

  -- The check calls it good.
  pub mended_good : check_answer (mended p h k) ≡ gives (verdict_for k)
  unfolding d
  mended_good =
      let front : List ℕ = take h.start p in
      let size : length front ≡ h.start = length-take-le h.start p order.all in
      let v : Verifies (renewed 10 (ip_sum h p) front) = renewed_verifies 10 front refl (omega (arith, order.start)) (take_bytes h.start p b) in
      let w : verifies (take h.start (mended p h k)) ≡ true = ap verifies mended_front ∙ eq-eqb (sum (words (renewed 10 (ip_sum h p) front))) 65535 v in
      checked (mended p h k) h k mended_known w
      ∙ ap (verdict_of k h) mended_data
      ∙ part_verdict h d (take_bytes (h.end - h.start) _ (drop_bytes h.start p b)) q.shape

  -- Each of its fields is right.
  pub mended_right : AllRight (fields_of (gives (whole h k)) (mended p h k))
  unfolding mended d half AllRight
  mended_right =
      let y : ℕ = part_sum k h d in
      let size : length half ≡ length p = renewed_length 10 (ip_sum h p) p in
      let front : ip_sum h (mended p h k) ≡ ip_sum h p =
      ap (λ (l : List ℕ). checksum (renewed 10 0 l)) mended_front ∙ ap checksum (renewed_again 10 0 (ip_sum h p) (take h.start p)) in
      let ip : field_at (mended p h k) 10 2 ≡ ip_sum h p =
      field_before 10 2 (h.start + sum_at k) y half (omega (arith, order.start))
      ∙ field_here 10 (ip_sum h p) p (omega (arith, order.start, order.all)) (omega (arith, checksum_most (renewed 10 0 (take h.start p)))) in
      let part : part_sum k h (data_of h (mended p h k)) ≡ y = ap (part_sum k h) mended_data ∙ part_sum_kept k h y d in
      let here : field_at (mended p h k) (h.start + sum_at k) 2 ≡ y = field_here (h.start + sum_at k) y half (omega (arith, order.here)) (part_sum_below k h d) in
      (ip ∙ sym front, part_right k h (mended p h k) (here ∙ sym part))

  -- Where each was right before, nothing is changed.
  pub right_mended : AllRight (fields_of (gives (whole h k)) p) → mended p h k ≡ p
  unfolding mended AllRight
  right_mended r =
      let ip : renewed 10 (ip_sum h p) p ≡ p =
      ap (λ (x : ℕ). renewed 10 x p) (sym r.0) ∙ renewed_same 10 p b (omega (arith, order.start, order.all)) in
      let part = right_part h p q.shape order.least r.1 in
      ap (renewed (h.start + sum_at k) (part_sum k h (data_of h p))) ip
      ∙ ap (λ (y : ℕ). renewed (h.start + sum_at k) y p) (sym part)
      ∙ renewed_same (h.start + sum_at k) p b order.here

  -- It is what mending makes of the packet.
  pub is_mended : put_fields (fields_of (gives (whole h k)) p) p ≡ mended p h k
  unfolding mended half put_fields
  is_mended =
      put_part h p half (renewed_bytes 10 (ip_sum h p) p b) (omega (arith, order.here, renewed_length 10 (ip_sum h p) p))
      (field_behind (h.start + sum_at k) 2 10 (ip_sum h p) p (omega (arith, order.start)) ∙ sym (data_field h (sum_at k) 2 p order.part))
      q.shape

  pub fields_within : AllWithin (fields_of (gives (whole h k)) p) p
  unfolding AllWithin
  fields_within =
      (omega (arith, order.all, order.start), omega (arith, checksum_most (renewed 10 0 (take h.start p))), part_within k h p order.here)

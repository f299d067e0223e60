-- What a packet is that the check, up to its sums, does not refuse.
use mathlib.Core.Path.{◌≡◌, refl, sym, ap, ◌∙◌}
use mathlib.Core.Bool.{Bool, true, false, not, ◌&&◌, cond}
use Prim.Native.Nat.{ℕ, ◌+◌, ◌-◌, ◌%◌, ◌≤◌, ◌<◌}
use native.Mathlib.Omega.{arith}
use mathlib.Core.List.{List}
use lib.ListN.{length, take, length-take, length-drop}
use lib.Dec.{ltb, eqb}
use borrow.Author.Tests.{ltb-false, le-ltb, eqb-true, eqb-false, eq-eqb, ne_eqb, not-false}
use Rattle.pkt.specs.Answers.{Answer, refused, gives, says, mapped, and_then, most_ip}
use Rattle.pkt.specs.declared.refusal.Refusal.{Refusal}
use Rattle.std.specs.Prelude.{Result, Ok, Err, Some}
use Rattle.std.specs.Result.{result_ok}
use Rattle.pkt.specs.Fields.{Bytes}
use Rattle.pkt.specs.Rfc1071.{verifies}
use Rattle.pkt.specs.Rfc768.{udp_sum_at}
use Rattle.pkt.specs.Rfc792.{echo_sum_at}
use Rattle.pkt.specs.Rfc9293.{tcp_sum_at}
use Rattle.pkt.proofs.Choice.{or_no, pick_yes, pick_no}
use Rattle.pkt.proofs.Deciding.{past}
use Rattle.inspect.specs.Answers.{whole}
use Rattle.inspect.specs.declared.check.Whole.{Whole}
use Rattle.inspect.specs.Header.{field_at, frame_answer, summed, unreserved, read_answer, data_of}
use Rattle.inspect.specs.Check.{is_piece, is_other, tcp_cut, udp_cut, is_cut, kind_of, whole_answer, verdict_of, part_answer, check_answer, examine_answer}
use Rattle.inspect.specs.declared.header.IpRead.{IpRead}
use Rattle.inspect.specs.declared.check.Kind.{Kind}
use Rattle.inspect.specs.declared.check.Kind.TheVariants.{Tcp, Udp, Bare, Icmp}
use Rattle.inspect.proofs.Reading.{framed, frame_end, was_seen}
use Rattle.mending.specs.Sums.{PartAsks}

-- A transport part d of the protocol p is whole and of a kind.
pub data Shape (p : ℕ) (d : List ℕ) : Kind → Type 0 where
  tcp : p ≡ 6 → 20 ≤ length d → field_at d 12 1 ≡ 0x50 → Shape p d Tcp
  udp : p ≡ 17 → 8 ≤ length d → field_at d 4 2 ≡ length d → (field_at d 6 2 ≡ 0 → ⊥) → Shape p d Udp
  bare : p ≡ 17 → 8 ≤ length d → field_at d 4 2 ≡ length d → field_at d 6 2 ≡ 0 → Shape p d Bare
  icmp : p ≡ 1 → 8 ≤ length d → Shape p d Icmp

shape_of : (p : ℕ) (d : List ℕ) → is_other p ≡ false → is_cut p d ≡ false → Shape p d (kind_of p d)
shape_of p d other cut = go (eqb p 6) (eqb p 17) (eqb (field_at d 6 2) 0) (eqb p 1) refl refl refl refl other cut
  where
    go : (t u z i : Bool) → eqb p 6 ≡ t → eqb p 17 ≡ u → eqb (field_at d 6 2) 0 ≡ z → eqb p 1 ≡ i
        → (not i && (not t && not u)) ≡ false
        → cond t (tcp_cut d) (cond u (udp_cut d) (ltb (length d) 8)) ≡ false
        → Shape p d (cond t Tcp (cond u (cond z Bare Udp) Icmp))
    go true u z i et eu ez ei o q =
        let w = or_no (ltb (length d) 20) _ q in
        tcp (eqb-true p 6 et) (ltb-false (length d) 20 w.0) (eqb-true (field_at d 12 1) 0x50 (not-false (eqb (field_at d 12 1) 0x50) w.1))
    go false true true i et eu ez ei o q =
        let w = or_no (ltb (length d) 8) _ q in
        bare (eqb-true p 17 eu) (ltb-false (length d) 8 w.0) (eqb-true (field_at d 4 2) (length d) (not-false (eqb (field_at d 4 2) (length d)) w.1))
        (eqb-true (field_at d 6 2) 0 ez)
    go false true false i et eu ez ei o q =
        let w = or_no (ltb (length d) 8) _ q in
        udp (eqb-true p 17 eu) (ltb-false (length d) 8 w.0) (eqb-true (field_at d 4 2) (length d) (not-false (eqb (field_at d 4 2) (length d)) w.1))
        (eqb-false (field_at d 6 2) 0 ez)
    go false false z true et eu ez ei o q = icmp (eqb-true p 1 ei) (ltb-false (length d) 8 q)
    go false false z false et eu ez ei o q = let z : ◌≡◌ {A = ℕ} 0 1 = cc in absurd (omega arith)

-- where the transport's checksum stands in the part
abbrev pub sum_at : Kind → ℕ
sum_at Tcp = tcp_sum_at
sum_at Udp = udp_sum_at
sum_at Bare = udp_sum_at
sum_at Icmp = echo_sum_at

sum_even : (k : Kind) → sum_at k % 2 ≡ 0
sum_even Tcp = refl
sum_even Udp = refl
sum_even Bare = refl
sum_even Icmp = refl

pub shape_long : {p : ℕ} {d : List ℕ} {k : Kind} → Shape p d k → (8 ≤ length d) × (sum_at k + 2 ≤ length d)
shape_long (tcp e long offset) = (omega arith, omega arith)
shape_long (udp e long len some) = (long, omega arith)
shape_long (bare e long len none) = (long, omega arith)
shape_long (icmp e long) = (long, omega arith)

record Shaped (p : ℕ) (d : List ℕ) (k : Kind) : Type 0 where
  other : is_other p ≡ false
  cut : is_cut p d ≡ false
  kind : kind_of p d ≡ k

shaped : {p : ℕ} {d : List ℕ} {k : Kind} → Shape p d k → Shaped p d k
shaped {d = d} (tcp e long offset) =
    rw e (record { other = refl; cut = simp (le-ltb (length d) 20 long, eq-eqb (field_at d 12 1) 0x50 offset); kind = refl })
shaped {d = d} (udp e long len some) =
    rw e
    (record { other = refl; cut = simp (le-ltb (length d) 8 long, eq-eqb (field_at d 4 2) (length d) len); kind = simp (ne_eqb (field_at d 6 2) 0 some) })
shaped {d = d} (bare e long len none) =
    rw e
    (record { other = refl; cut = simp (le-ltb (length d) 8 long, eq-eqb (field_at d 4 2) (length d) len); kind = simp (eq-eqb (field_at d 6 2) 0 none) })
shaped {d = d} (icmp e long) = rw e (record { other = refl; cut = le-ltb (length d) 8 long; kind = refl })

-- ---- a header h and its data part d

whole_shape : (h : IpRead) (d : List ℕ) (k : Kind) → whole_answer h d ≡ gives k → (is_piece h ≡ false) × Shape h.protocol d k
unfolding whole_answer
whole_shape h d k e =
    let a = past (is_piece h) 13 _ k e in
    let b = past (is_other h.protocol) 12 _ k a.1 in
    let c = past (is_cut h.protocol d) 14 _ k b.1 in
    let q : kind_of h.protocol d ≡ k = cc c.1 in
    (a.0, rw q at (shape_of h.protocol d b.0 c.0))

shape_whole : (h : IpRead) (d : List ℕ) (k : Kind) → is_piece h ≡ false → Shape h.protocol d k → whole_answer h d ≡ gives k
unfolding whole_answer
shape_whole h d k piece s =
    let q = shaped s in
    pick_no (refused 13) _ piece ∙ pick_no (refused 12) _ q.other ∙ pick_no (refused 14) _ q.cut ∙ ap gives q.kind

-- ---- a packet l

-- It has the header h and is of the kind k.
pub record Known (l : List ℕ) (h : IpRead) (k : Kind) : Type 0 where
  pub frame : frame_answer l ≡ gives h
  pub clear : h.evil ≡ false
  pub piece : is_piece h ≡ false
  pub shape : Shape h.protocol (data_of h l) k

was_whole : (g h : IpRead) (k : Kind) (a : Answer Kind) → mapped (whole g) a ≡ gives (whole h k) → (g ≡ h) × (a ≡ gives k)
was_whole g h k (refused n) e = let z : ◌≡◌ {A = ℕ} 0 1 = cc in absurd (omega arith)
was_whole g h k (gives j) e =
    let q : whole g j ≡ whole h k = cc in
    (ap (λ (w : Whole). w.header) q, ap (λ (w : Whole). gives w.kind) q)

pub known : (l : List ℕ) (h : IpRead) (k : Kind) → examine_answer l ≡ gives (whole h k) → Known l h k
unfolding examine_answer
known l h k e = go (and_then (frame_answer l) unreserved) refl e
  where
    go : (a : Answer IpRead) → and_then (frame_answer l) unreserved ≡ a
        → and_then a (λ g. mapped (whole g) (whole_answer g (data_of g l))) ≡ gives (whole h k) → Known l h k
    go (refused n) s q = let z : ◌≡◌ {A = ℕ} 0 1 = cc in absurd (omega arith)
    go (gives g) s q =
        let w = was_whole g h k (whole_answer g (data_of g l)) q in
        let seen = was_seen (frame_answer l) h (s ∙ ap gives w.0) in
        let part = whole_shape h (data_of h l) k (ap (λ (x : IpRead). whole_answer x (data_of x l)) (sym w.0) ∙ w.1) in
        record { frame = seen.0; clear = seen.1; piece = part.0; shape = part.1 }

pub known_ok : (l : List ℕ) (r : Result Whole Refusal) (w : Whole) → says r ≡ examine_answer l → result_ok r ≡ Some w → Known l w.header w.kind
known_ok l (Ok v) w e o = known l w.header w.kind (sym e ∙ ap gives (cc))
known_ok l (Err x) w e o = cc

module _ (l : List ℕ) (h : IpRead) (k : Kind) (q : Known l h k) where
  pub examined : examine_answer l ≡ gives (whole h k)
  unfolding examine_answer
  examined =
      ap (λ (a : Answer IpRead). and_then (and_then a unreserved) (λ g. mapped (whole g) (whole_answer g (data_of g l)))) q.frame
      ∙ ap (λ (a : Answer IpRead). and_then a (λ g. mapped (whole g) (whole_answer g (data_of g l)))) (pick_no (refused 18) (gives h) q.clear)
      ∙ ap (mapped (whole h)) (shape_whole h (data_of h l) k q.piece q.shape)

  -- Where its header verifies, the check asks for the transport's sum alone.
  pub checked : verifies (take h.start l) ≡ true → check_answer l ≡ verdict_of k h (data_of h l)
  unfolding check_answer read_answer
  checked v =
      let read : read_answer l ≡ gives h =
      ap (λ (a : Answer IpRead). and_then (and_then a (summed l)) unreserved) q.frame
      ∙ ap (λ (a : Answer IpRead). and_then a unreserved) (pick_yes (gives h) (refused 7) v)
      ∙ pick_no (refused 18) (gives h) q.clear in
      ap (λ (a : Answer IpRead). and_then a (λ g. part_answer g (data_of g l))) read
      ∙ ap (λ (a : Answer Kind). and_then a (λ j. verdict_of j h (data_of h l))) (shape_whole h (data_of h l) k q.piece q.shape)

  -- The data part is as long as the header says, and no longer than a packet's can be.
  pub data_length : length (data_of h l) ≡ h.end - h.start
  data_length =
      let f = framed l h q.frame in
      simp (length-take, length-drop) (omega arith)

  pub data_most : Bytes l → length (data_of h l) ≤ most_ip
  data_most b =
      let f = framed l h q.frame in
      omega (arith, data_length, frame_end l h b q.frame)

  -- The transport's checksum stands within it, and so within the packet.
  pub part_asks : Bytes l → (p : ℕ) → 0 < p → PartAsks p (sum_at k) (data_of h l)
  part_asks b p some = record { some = some; within = (shape_long q.shape).1; even = sum_even k; few = data_most b }

  pub sum_within : h.start + sum_at k + 2 ≤ length l
  sum_within =
      let f = framed l h q.frame in
      omega (arith, data_length, (shape_long q.shape).1)

-- Where the header and the data part of such a packet lie.
pub record Places (l : List ℕ) (h : IpRead) : Type 0 where
  pub start : 20 ≤ h.start
  pub few : h.start ≤ 60
  pub order : h.start ≤ h.end
  pub within : h.end ≤ length l

pub places : (l : List ℕ) (h : IpRead) (k : Kind) → examine_answer l ≡ gives (whole h k) → Places l h
places l h k e =
    let f = framed l h (known l h k e).frame in
    record { start = omega arith; few = omega arith; order = omega arith; within = omega arith }

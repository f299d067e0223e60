-- Laws of the header reader's answer.
use mathlib.Core.Path.{◌≡◌, refl, sym, ap, ◌∙◌}
use mathlib.Core.Bool.{Bool, true, false, not, cond}
use Prim.Native.Nat.{ℕ, ◌+◌, ◌-◌, ◌≤◌}
use native.Mathlib.Omega.{arith}
use mathlib.Core.List.{List, ◌++◌}
use lib.ListN.{length, take, length-append, length-take}
use lib.Dec.{ltb, eqb}
use borrow.Author.Tests.{le-ltb, ltb-false, not-false, eqb-true}
use Rattle.pkt.specs.Answers.{Answer, refused, gives, and_then}
use Rattle.inspect.specs.Header.{version_field, words_field, length_field, header_of, not_ipv4, frame_answer, summed, unreserved, read_answer}
use Rattle.inspect.specs.declared.header.IpRead.{IpRead}
use Rattle.pkt.specs.Fields.{Bytes}
use Rattle.pkt.proofs.Choice.{or_no}
use Rattle.pkt.proofs.Deciding.{past, held}
use Rattle.inspect.proofs.Numbers.{field_below, part_front, field_front}
use Rattle.pkt.specs.Rfc1071.{verifies}

-- What is known of a header h that was read from l, up to its checksum.
pub record Framed (l : List ℕ) (h : IpRead) : Type 0 where
  pub version : version_field l ≡ 4
  pub is : h ≡ header_of l
  pub least : 20 ≤ h.start
  pub most : h.start ≤ 60
  pub order : h.start ≤ h.end
  pub all : h.end ≤ length l
  pub offset : h.off ≤ 8191

-- The version of an IPv4 packet is 4, and its header has 20 bytes at least.
pub ipv4_least : (l : List ℕ) → not_ipv4 l ≡ false → (version_field l ≡ 4) × (20 ≤ (header_of l).start)
unfolding header_of not_ipv4
ipv4_least l e =
    let o = or_no (not (eqb (version_field l) 4)) (ltb (words_field l) 5) e in
    let five = ltb-false (words_field l) 5 o.1 in
    (eqb-true (version_field l) 4 (not-false (eqb (version_field l) 4) o.0), omega arith)

pub framed : (l : List ℕ) (h : IpRead) → frame_answer l ≡ gives h → Framed l h
unfolding frame_answer header_of
framed l h e =
    let a = past (ltb (length l) 20) 4 _ h e in
    let b = past (not_ipv4 l) 5 _ h a.1 in
    let v = ipv4_least l b.0 in
    let d = past (ltb (header_of l).end (header_of l).start) 6 _ h b.1 in
    let f = past (ltb (length l) (header_of l).end) 4 _ h d.1 in
    let q : header_of l ≡ h = cc f.1 in
    record {
      version = v.0;
      is = sym q;
      least = rw (← q) v.1;
      most = rw (← q) (omega arith);
      order = rw (← q) (ltb-false (header_of l).end (header_of l).start d.0);
      all = rw (← q) (ltb-false (length l) (header_of l).end f.0);
      offset = rw (← q) (omega arith);
    }

-- What is seen with its reserved bit clear was seen before that was asked.
pub was_seen : (a : Answer IpRead) (h : IpRead) → and_then a unreserved ≡ gives h → (a ≡ gives h) × (h.evil ≡ false)
was_seen (refused n) h q = let z : ◌≡◌ {A = ℕ} 0 1 = cc in absurd (omega arith)
was_seen (gives g) h q =
    let w = past g.evil 18 (gives g) h q in
    let same : g ≡ h = cc w.1 in
    (w.1, ap (λ (x : IpRead). x.evil) (sym same) ∙ w.0)

-- A header g that is seen, and is h with its reserved bit clear, is framed.
pub clear_framed : (l : List ℕ) (g h : IpRead) → gives g ≡ frame_answer l → gives h ≡ unreserved g → Framed l h
clear_framed l g h e q = framed l h (sym e ∙ (was_seen (gives g) h (sym q)).0)

-- A header that was read is framed, and verifies.
pub was_read : (l : List ℕ) (h : IpRead) → read_answer l ≡ gives h → (frame_answer l ≡ gives h) × (verifies (take h.start l) ≡ true)
unfolding read_answer
was_read l h e = go (frame_answer l) (was_seen (and_then (frame_answer l) (summed l)) h e).0
  where
    go : (a : Answer IpRead) → and_then a (summed l) ≡ gives h → (a ≡ gives h) × (verifies (take h.start l) ≡ true)
    go (refused n) q = let z : ◌≡◌ {A = ℕ} 0 1 = cc in absurd (omega arith)
    go (gives g) q =
        let w = held (verifies (take g.start l)) 7 g h q in
        (ap gives w.1, ap (λ (x : IpRead). verifies (take x.start l)) (sym w.1) ∙ w.0)

pub read_framed : (l : List ℕ) (h : IpRead) → read_answer l ≡ gives h → Framed l h
read_framed l h e = framed l h (was_read l h e).0

-- The total length fits its two bytes.
pub frame_end : (l : List ℕ) (h : IpRead) → Bytes l → frame_answer l ≡ gives h → h.end ≤ 65535
unfolding header_of
frame_end l h b e = rw (framed l h e).is (omega (arith, field_below 2 2 l b))

pub read_end : (l : List ℕ) (h : IpRead) → Bytes l → read_answer l ≡ gives h → h.end ≤ 65535
read_end l h b e = frame_end l h b (was_read l h e).0

-- ---- bytes behind the packet

-- The header's fields stand in the first 20 bytes.
header_front : (n : ℕ) (l r : List ℕ) → 20 ≤ n → n ≤ length l → header_of (take n l ++ r) ≡ header_of l
unfolding header_of
header_front n l r h m =
    simp (
      field_front 0 1 n l r (omega arith) m,
      field_front 1 1 n l r (omega arith) m,
      field_front 2 2 n l r (omega arith) m,
      field_front 4 2 n l r (omega arith) m,
      field_front 6 2 n l r (omega arith) m,
      field_front 8 1 n l r (omega arith) m,
      field_front 9 1 n l r (omega arith) m,
      field_front 12 4 n l r (omega arith) m,
      field_front 16 4 n l r (omega arith) m,
    )

end_is : (l : List ℕ) → (header_of l).end ≡ length_field l
unfolding header_of
end_is l = refl

module _ (l r : List ℕ) (long : 20 ≤ length_field l) (there : length_field l ≤ length l) where
  frame_front : frame_answer (take (length_field l) l ++ r) ≡ frame_answer l
  unfolding frame_answer not_ipv4
  frame_front =
      let n : ℕ = length_field l in
      let m : List ℕ = take n l ++ r in
      let size : length m ≡ n + length r = simp (length-append, length-take) (omega arith) in
      let a = le-ltb (length m) 20 (omega arith) in
      let b = le-ltb (length l) 20 (omega arith) in
      let d = le-ltb (length m) (header_of l).end (omega (arith, end_is l)) in
      let f = le-ltb (length l) (header_of l).end (omega (arith, end_is l)) in
      simp (a, b, field_front 0 1 n l r (omega arith) there, header_front n l r long there, d, f)

  -- The reader's answer is that of the first bytes, as many as the total length says, whatever is behind them.
  pub read_front : read_answer (take (length_field l) l ++ r) ≡ read_answer l
  unfolding read_answer
  read_front =
      ap (λ (a : Answer IpRead). and_then (and_then a (summed (take (length_field l) l ++ r))) unreserved) frame_front
      ∙ ap (λ (a : Answer IpRead). and_then a unreserved) (go (frame_answer l) refl)
    where
      go : (a : Answer IpRead) → frame_answer l ≡ a → and_then a (summed (take (length_field l) l ++ r)) ≡ and_then a (summed l)
      go (refused n) e = refl
      go (gives h) e =
          let f = framed l h e in
          let n : h.end ≡ length_field l = ap (λ (g : IpRead). g.end) f.is ∙ end_is l in
          ap (λ (s : List ℕ). cond (verifies s) (gives h) (refused 7)) (part_front 0 h.start (length_field l) l r (omega arith) there)

-- what a header that was read says of its packet's length
pub read_total : (l : List ℕ) (h : IpRead) → read_answer l ≡ gives h → h.end ≡ length_field l
read_total l h e = ap (λ (g : IpRead). g.end) (read_framed l h e).is ∙ end_is l

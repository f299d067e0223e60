-- Reading back what was written gives the times and packets that went in.
use mathlib.Core.Path.{◌≡◌, refl, ap, ◌∙◌}
use Prim.Native.Nat.{ℕ, zero, suc, ◌+◌, ◌^◌, ◌≤◌, ◌<◌}
use native.Mathlib.Omega.{arith}
use mathlib.Core.Bool.{false}
use mathlib.Core.List.{List, [], ◌∷◌, ◌++◌, append_assoc, map}
use lib.ListN.{length, take, drop, length-append}
use lib.Seq.{take_at, drop_at}
use lib.Dec.{ltb, eqb}
use borrow.Author.Tests.{le-ltb, ne_eqb}
use Rattle.pcap.specs.Pcap.{le, file_header, record_header, record_bytes, Stamped, records_bytes, capture_bytes}
use Rattle.pcap.specs.Runs.{AllTakable, ReadsCapture}
use Rattle.pcap.specs.Read.{le_value, number, Recorded, whole, record_at, record_size, is_broken, records_in, read_file, wholly, captured}
use Rattle.pcap.proofs.Pcap.{number_at, record_header_length, record_length}

module _ (s u : ℕ) (d q : List ℕ) (hs : s < 256 ^ 4) (hu : u < 256 ^ 4) (hd : length d ≤ 65535) where
  sec_is : number 4 0 (record_bytes s u d ++ q) ≡ s
  unfolding record_bytes record_header
  sec_is = number_at 4 s [] (le 4 u ++ (le 4 (length d) ++ (le 4 (length d) ++ (d ++ q)))) 0 refl hs

  usec_is : number 4 4 (record_bytes s u d ++ q) ≡ u
  unfolding record_bytes record_header
  usec_is = number_at 4 u (le 4 s) (le 4 (length d) ++ (le 4 (length d) ++ (d ++ q))) 4 refl hu

  captured_is : number 4 8 (record_bytes s u d ++ q) ≡ length d
  unfolding record_bytes record_header
  captured_is = number_at 4 (length d) (le 4 s ++ le 4 u) (le 4 (length d) ++ (d ++ q)) 8 refl (omega arith)

  original_is : number 4 12 (record_bytes s u d ++ q) ≡ length d
  unfolding record_bytes record_header
  original_is = number_at 4 (length d) (le 4 s ++ (le 4 u ++ le 4 (length d))) (d ++ q) 12 refl (omega arith)

  packet_is : take (length d) (drop 16 (record_bytes s u d ++ q)) ≡ d
  unfolding record_bytes
  packet_is = rw (append_assoc, drop_at (record_header s u (length d)) (d ++ q) 16 (record_header_length s u (length d)), take_at d q (length d) refl)

  rest_is : drop (16 + length d) (record_bytes s u d ++ q) ≡ q
  rest_is = drop_at (record_bytes s u d) q (16 + length d) (record_length s u d)

  all_length : length (record_bytes s u d ++ q) ≡ 16 + length d + length q
  all_length = length-append (record_bytes s u d) q ∙ ap (λ (m : ℕ). m + length q) (record_length s u d)

  record_is : record_at (record_bytes s u d ++ q) ≡ wholly (record { sec = s; usec = u; packet = d })
  unfolding record_at wholly
  record_is = rw (captured_is, original_is, sec_is, usec_is, packet_is)

  size_is : record_size (record_bytes s u d ++ q) ≡ 16 + length d
  unfolding record_size
  size_is = ap (λ (n : ℕ). 16 + n) captured_is

  not_broken : is_broken (record_bytes s u d ++ q) ≡ false
  unfolding is_broken
  not_broken =
      let l = all_length in
      let a : ltb (length (record_bytes s u d ++ q)) 16 ≡ false = le-ltb (length (record_bytes s u d ++ q)) 16 (omega arith) in
      let b : ltb (length (record_bytes s u d ++ q)) (16 + length d) ≡ false = le-ltb (length (record_bytes s u d ++ q)) (16 + length d) (omega arith) in
      rw (a, captured_is, size_is, le-ltb 65535 (length d) hd, b)

  -- a record in front of bytes that hold the records rs
  one_more : (most : ℕ) (rs : List Recorded) → records_in most q ≡ whole rs
      → records_in (suc most) (record_bytes s u d ++ q) ≡ whole (wholly (record { sec = s; usec = u; packet = d }) ∷ rs)
  unfolding records_in
  one_more most rs e =
      let l = all_length in
      let a : eqb (length (record_bytes s u d ++ q)) 0 ≡ false = ne_eqb (length (record_bytes s u d ++ q)) 0 (λ (z : length (record_bytes s u d ++ q) ≡ 0). omega arith) in
      rw (a, not_broken, size_is, rest_is, record_is, e)

-- Over any number of records: those that were written are those that are read.
pub records_read : (rs : List Stamped) (most : ℕ) → AllTakable rs → length rs < most → records_in most (records_bytes rs) ≡ whole (map wholly rs)
unfolding records_bytes records_in AllTakable wholly
records_read rs zero h m = absurd (omega arith)
records_read [] (suc most) h m = refl
records_read (r ∷ rs) (suc most) (h, t) m =
    one_more r.sec r.usec r.packet (records_bytes rs) (omega (arith, h.seconds)) (omega (arith, h.micros)) h.short most (map wholly rs) (records_read rs most t (omega arith))

many : (rs : List Stamped) → length rs ≤ length (records_bytes rs)
unfolding records_bytes
many [] = omega arith
many (r ∷ rs) =
    let t = many rs in
    omega (
      arith,
      length-append (record_bytes r.sec r.usec r.packet) (records_bytes rs),
      record_length r.sec r.usec r.packet,
    )

pub capture_read : ReadsCapture
unfolding read_file captured capture_bytes file_header number le_value
capture_read rs h =
    let t : ltb (length (capture_bytes rs)) 24 ≡ false = le-ltb (length (capture_bytes rs)) 24 (omega arith) in
    rw (t, records_read rs (suc (length (records_bytes rs))) h (omega (arith, many rs)))

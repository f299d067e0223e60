-- One block, and other bytes behind it, as it is read.
use mathlib.Core.Path.{◌≡◌, refl, sym, ap, ap₂, ◌∙◌}
use Prim.Native.Nat.{ℕ, suc, ◌+◌, ◌*◌, ◌-◌, ◌/◌, ◌%◌, ◌^◌, ◌<◌}
use native.Mathlib.Omega.{arith}
use mathlib.Core.Bool.{false}
use mathlib.Core.List.{List, [], ◌∷◌, ◌++◌, append_assoc}
use lib.ListN.{length, take, drop, length-append, length-replicate}
use lib.Seq.{take_at, drop_at, drop-length}
use lib.Dec.{ltb, eqb}
use borrow.Author.Tests.{le-ltb, eq-eqb, ne_eqb}
use Rattle.pkt.specs.Written.{zeros}
use Rattle.pkt.proofs.Choice.{pick_no}
use Rattle.pcap.specs.Pcap.{le}
use Rattle.pcap.specs.Read.{le_value, number, Recorded}
use Rattle.pcap.proofs.Pcap.{number_at}
use Rattle.exporting.specs.Pcapng.{block, section_block, interface_block, micros, padding, packet_block}
use Rattle.exporting.specs.Read.{total_of, block_broken, Item, section, interface, padded, item_of, item_at, items_in}
use Rattle.exporting.specs.Back.{Timed, as_packet}

-- a block's bytes are those of its body, and twelve
pub block_length : (kind : ℕ) (body : List ℕ) → length (block kind body) ≡ 12 + length body
unfolding block
block_length kind body = omega (arith, length-append body (le 4 (12 + length body)))

-- A block of a type that has four bytes, with a body of whole words that is not too long, and behind it q.
module _ (kind : ℕ) (body q : List ℕ) (hk : kind < 256 ^ 4) (hb : 12 + length body < 256 ^ 4) (words : (12 + length body) % 4 ≡ 0) where
  -- Its type is read,
  kind_is : number 4 0 (block kind body ++ q) ≡ kind
  unfolding block
  kind_is = number_at 4 kind [] (le 4 (12 + length body) ++ ((body ++ le 4 (12 + length body)) ++ q)) 0 refl hk

  -- its length,
  total_is : total_of (block kind body ++ q) ≡ 12 + length body
  unfolding block
  total_is = number_at 4 (12 + length body) (le 4 kind) ((body ++ le 4 (12 + length body)) ++ q) 4 refl hb

  -- the same length at its end,
  end_is : number 4 (12 + length body - 4) (block kind body ++ q) ≡ 12 + length body
  unfolding block
  end_is =
      rw (append_assoc body (le 4 (12 + length body)) q)
      (number_at 4 (12 + length body) (le 4 kind ++ (le 4 (12 + length body) ++ body)) q (12 + length body - 4) (omega arith) hb)

  -- its body,
  body_is : take (length body) (drop 8 (block kind body ++ q)) ≡ body
  unfolding block
  body_is = rw (append_assoc body (le 4 (12 + length body)) q) (take_at body (le 4 (12 + length body) ++ q) (length body) refl)

  -- and what is behind it.
  rest_is : drop (12 + length body) (block kind body ++ q) ≡ q
  rest_is = drop_at (block kind body) q (12 + length body) (block_length kind body)

  -- There are all of its bytes,
  all_length : length (block kind body ++ q) ≡ 12 + length body + length q
  all_length = length-append (block kind body) q ∙ ap (λ (n : ℕ). n + length q) (block_length kind body)

  -- so it is not broken,
  not_broken : block_broken (block kind body ++ q) ≡ false
  unfolding block_broken
  not_broken =
      let l = all_length in
      let a : ltb (length (block kind body ++ q)) 12 ≡ false = le-ltb (length (block kind body ++ q)) 12 (omega arith) in
      let b : ltb (length (block kind body ++ q)) (12 + length body) ≡ false = le-ltb (length (block kind body ++ q)) (12 + length body) (omega arith) in
      rw (a, total_is, le-ltb (12 + length body) 12 (omega arith), words, b, end_is, eq-eqb (12 + length body) (12 + length body) refl)

  -- and it says what its body does under its type.
  item_is : item_at (block kind body ++ q) ≡ item_of kind body
  item_is = let n : 12 + length body - 12 ≡ length body = omega arith in rw (kind_is, total_is, n, body_is)

  -- It is the first that is read, and others are read behind it.
  block_read : (most : ℕ) → items_in (suc most) (block kind body ++ q) ≡ item_of kind body ∷ items_in most q
  unfolding items_in
  block_read most =
      let l = all_length in
      let some : eqb (length (block kind body ++ q)) 0 ≡ false =
      ne_eqb (length (block kind body ++ q)) 0 (λ (z : length (block kind body ++ q) ≡ 0). omega arith) in
      pick_no _ _ some
      ∙ pick_no _ _ not_broken
      ∙ ap₂ (λ (i : Item) (t : List ℕ). i ∷ items_in most t) item_is (ap (λ (n : ℕ). drop n (block kind body ++ q)) total_is ∙ rest_is)

-- ---- the three blocks

-- the section header block: version 1.0, length unknown, no options
pub section_read : (most : ℕ) (q : List ℕ) → items_in (suc most) (section_block ++ q) ≡ section 0x1a2b_3c4d 1 0 0xffff_ffff_ffff_ffff [] ∷ items_in most q
unfolding section_block item_of number le_value
section_read most q =
    block_read 0x0a0d_0d0a (le 4 0x1a2b_3c4d ++ (le 2 1 ++ (le 2 0 ++ le 8 0xffff_ffff_ffff_ffff))) q (omega arith) (omega arith) refl most

-- the interface description block: link type 101, snap length 65,535, no options
pub interface_read : (most : ℕ) (q : List ℕ) → items_in (suc most) (interface_block ++ q) ≡ interface 101 65535 [] ∷ items_in most q
unfolding interface_block item_of number le_value
interface_read most q = block_read 1 (le 2 101 ++ (le 2 0 ++ le 4 65535)) q (omega arith) (omega arith) refl most

-- the block of a record with a time that is one
module _ (r : Recorded) (t : Timed r) where
  abbrev bytes : List ℕ
  bytes = r.stamped.packet

  -- its time's two words
  abbrev high : ℕ
  high = micros r / 2 ^ 32

  abbrev low : ℕ
  low = micros r % 2 ^ 32

  -- its padding, and all of its body
  abbrev behind : List ℕ
  behind = zeros (padding (length bytes))

  abbrev body : List ℕ
  body = le 4 0 ++ (le 4 high ++ (le 4 low ++ (le 4 (length bytes) ++ (le 4 r.original ++ (bytes ++ behind)))))

  -- The data is padded to whole words.
  body_length : length body ≡ 20 + padded (length bytes)
  unfolding padding
  body_length = omega (arith, length-append bytes behind, length-replicate {A = ℕ} (padding (length bytes)) 0)

  -- Each field is read at its place, the data behind them, and no options.
  packet_is : item_of 6 body ≡ as_packet r
  unfolding item_of
  packet_is =
      let lengths : List ℕ = le 4 (length bytes) ++ (le 4 r.original ++ (bytes ++ behind)) in
      let i : number 4 0 body ≡ 0 = number_at 4 0 [] (le 4 high ++ (le 4 low ++ lengths)) 0 refl (omega arith) in
      let h : number 4 4 body ≡ high = number_at 4 high (le 4 0) (le 4 low ++ lengths) 4 refl (omega (arith, t.seconds, t.micros)) in
      let l : number 4 8 body ≡ low = number_at 4 low (le 4 0 ++ le 4 high) lengths 8 refl (omega arith) in
      let c : number 4 12 body ≡ length bytes =
      number_at 4 (length bytes) (le 4 0 ++ (le 4 high ++ le 4 low)) (le 4 r.original ++ (bytes ++ behind)) 12 refl (omega (arith, t.short)) in
      let o : number 4 16 body ≡ r.original =
      number_at 4 r.original (le 4 0 ++ (le 4 high ++ (le 4 low ++ le 4 (length bytes)))) (bytes ++ behind) 16 refl (omega (arith, t.original)) in
      let none : drop (20 + padded (length bytes)) body ≡ [] = ap (λ (n : ℕ). drop n body) (sym body_length) ∙ drop-length body in
      let time : high * 4294967296 + low ≡ micros r = omega arith in
      rw (i, h, l, c, o, time, take_at bytes behind (length bytes) refl, none)

  -- So the block is read as that of its record.
  pub packet_read : (most : ℕ) (q : List ℕ) → items_in (suc most) (packet_block r ++ q) ≡ as_packet r ∷ items_in most q
  unfolding packet_block
  packet_read most q =
      let size = body_length in
      block_read 6 body q (omega arith) (omega (arith, t.short)) (omega arith) most ∙ ap (λ (i : Item). i ∷ items_in most q) packet_is

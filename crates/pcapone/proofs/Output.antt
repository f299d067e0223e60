-- How long the output is, the capture or nothing, and what is promised where it is nothing.
use mathlib.Core.Path.{◌≡◌, refl}
use Rattle.std.specs.Prelude.{Some, None}
use mathlib.Core.Bool.{Bool, true, false, ◌||◌, cond}
use mathlib.Core.List.{List, [], append-nil}
use Prim.Native.Nat.{ℕ, ◌+◌, ◌≤◌, ◌<◌}
use native.Mathlib.Omega.{arith}
use lib.ListN.{length, length-append}
use lib.Dec.{ltb}
use borrow.Author.Tests.{lt-ltb, ltb-false}
use Rattle.pkt.specs.Written.{written}
use Rattle.ezpkt.specs.Icmp4.{new_icmp_flow, ping_of}
use Rattle.ezpkt.proofs.Sizes.{size_is}
use Rattle.pcap.specs.Pcap.{records_bytes, capture_bytes}
use Rattle.pcap.proofs.Pcap.{file_header_length, record_length}
use Rattle.pcapone.specs.Capture.{first_echo, file_of, no_output, output_for, Captures}

pub file_length : (p : List ℕ) → length (file_of (first_echo p)) ≡ 68 + length p
unfolding file_of capture_bytes records_bytes
file_length p =
    let d : List ℕ = first_echo p in
    let e : length d ≡ 28 + length p = size_is (ping_of (new_icmp_flow 0x0a000001 0x0a000002)) p in
    let r = record_length 0 0 d in
    simp (length-append, append-nil, file_header_length, r, e) (omega arith)

-- The output is within the buffer.
output_fits : (p : List ℕ) (room : ℕ) → length (output_for p room) ≤ room
output_fits p room = go (ltb 4096 (length p)) (ltb room (68 + length p)) (λ e. ltb-false room (68 + length p) e)
  where
    go : (long short : Bool) → (short ≡ false → 68 + length p ≤ room) → length (cond (long || short) [] (file_of (first_echo p))) ≤ room
    go true short h = omega arith
    go false true h = omega arith
    go false false h = omega (arith, h refl, file_length p)

pub captures_fits : (p o : List ℕ) (n : ℕ) (o' : List ℕ) → Captures p o (Some n) o' → n ≤ length o
captures_fits p o n o' x = go (no_output (length p) (length o)) (length (output_for p (length o))) (output_fits p (length o)) x.answer
  where
    go : (b : Bool) (k : ℕ) → k ≤ length o → Some n ≡ cond b None (Some k) → n ≤ length o
    go true k h e = let z : ◌≡◌ {A = ℕ} 0 1 = cc in absurd (omega arith)
    go false k h e = let z : n ≡ k = cc in omega (arith, h, z)

-- For more than 4,096 bytes, and where there is no room: none, and the buffer as it was.
pub too_long : (p o o' : List ℕ) → 4096 < length p → o' ≡ o → Captures p o None o'
unfolding written
too_long p o o' l e = let t = lt-ltb _ _ l in record { answer = simp t; after = simp t e }

pub no_room : (p o o' : List ℕ) → length o < 68 + length p → o' ≡ o → Captures p o None o'
unfolding written
no_room p o o' l e = go (ltb 4096 (length p)) refl
  where
    go : (b : Bool) → ltb 4096 (length p) ≡ b → Captures p o None o'
    go true t = record { answer = simp t; after = simp t e }
    go false t = let u = lt-ltb _ _ l in record { answer = simp (t, u); after = simp (t, u) e }

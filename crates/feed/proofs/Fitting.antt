-- A frame's packets are as many as are answered, fit the link, and their records have the length that is answered.
use Rattle.std.proofs.Common.{◌≡◌, ℕ, zero, suc, ◌+◌, ◌-◌, ◌*◌, ◌≤◌, false, ◌⊎◌, List, [], length, sym, refl, ap, ◌∙◌, inl, inr, suc-mul, arith, length-append}
use mathlib.Core.List.Memᴰ
use mathlib.Core.List.{Memᴰ}
use Rattle.ezpkt.specs.Build.{packet_of}
use Rattle.ezpkt.specs.Ip4.{fragment_of}
use Rattle.ezpkt.specs.declared.ip4.Template.{Template}
use Rattle.ezpkt.proofs.Sizes.{size_is}
use Rattle.pcap.specs.Pcap.{record_bytes, records_bytes}
use Rattle.feed.specs.declared.Feed.{Feed}
use Rattle.planner.specs.Cutting.{blocks_in, piece_count, length_at, requests_from}
use Rattle.feed.specs.Cutting.{pieces_from}
use Rattle.feed.specs.Feed.{bad_link, template_of, payload_of, FrameFits}
use Rattle.feed.specs.Steps.{record_long, records_from}
use Rattle.planner.proofs.Counting.{count_some, begins_within, count_covers}
use Rattle.feed.proofs.Feeding.{link_good}
use Rattle.feed.proofs.Feeding.{payload_length}
use Rattle.feed.proofs.Recording.{last_size, full_size, record_long_lem}

pieces_many : (t : Template) (d : List ℕ) (b count off : ℕ) → length (pieces_from t d b count off) ≡ count
unfolding requests_from
pieces_many t d b zero off = refl
pieces_many t d b (suc k) off = ap suc (pieces_many t d b k (off + b))

-- a full piece is within the payload where those behind it are
pub full_before : (b n k off : ℕ) → 8 * off + suc k * (8 * b) ≤ n → 8 * (off + b) + k * (8 * b) ≤ n
full_before b n k off h = omega (arith, suc-mul k (8 * b))

records_long : (t : Template) (d : List ℕ) (b k off sec usec : ℕ) → 8 * off + k * (8 * b) ≤ length d
    → length (records_from t d b (suc k) off sec usec) ≡ 36 * suc k + (length d - 8 * off)
unfolding requests_from records_bytes
records_long t d b zero off sec usec h =
    let one : List ℕ = record_bytes sec usec (packet_of (fragment_of t off (length_at b 0 off (length d))) d) in
    omega (arith, length-append one [], record_long_lem t d off (length_at b 0 off (length d)) sec usec, last_size b (length d) off (omega arith))
records_long t d b (suc k) off sec usec h =
    let one : List ℕ = record_bytes sec usec (packet_of (fragment_of t off b) d) in
    let w = full_before b (length d) k off h in
    let rest = records_long t d b k (off + b) sec usec w in
    omega (arith, length-append one (records_from t d b (suc k) (off + b) sec usec), record_long_lem t d off b sec usec, full_size b (length d) k off (omega arith), rest)

-- the packet of a turn, in bytes
packet_long : (t : Template) (d : List ℕ) (off len : ℕ) → 16 + length (packet_of (fragment_of t off len) d) ≡ record_long off len (length d)
unfolding record_long
packet_long t d off len = ap (λ (k : ℕ). 16 + k) (size_is (fragment_of t off len) d)

packets_fit : (t : Template) (d : List ℕ) (b k off room : ℕ) → 8 * b ≤ room → 8 * off + k * (8 * b) ≤ length d → length d ≤ 8 * off + k * (8 * b) + room
    → (p : List ℕ) → Memᴰ p (pieces_from t d b (suc k) off) → length p ≤ 20 + room
unfolding requests_from
packets_fit t d b zero off room full h most p m = go (Memᴰ.cases_cons m)
  where
    go : (p ≡ packet_of (fragment_of t off (length_at b 0 off (length d))) d) ⊎ Memᴰ p [] → length p ≤ 20 + room
    go (inl e) = omega (arith, ap length e, packet_long t d off (length_at b 0 off (length d)), last_size b (length d) off (omega arith))
    go (inr n) = absurd (Memᴰ.not-nil n)
packets_fit t d b (suc k) off room full h most p m = go (Memᴰ.cases_cons m) (packets_fit t d b k (off + b) room full w (omega (arith, suc-mul k (8 * b))) p)
  where
    w : 8 * (off + b) + k * (8 * b) ≤ length d
    w = full_before b (length d) k off h

    go : (p ≡ packet_of (fragment_of t off b) d) ⊎ Memᴰ p (pieces_from t d b (suc k) (off + b)) → (Memᴰ p (pieces_from t d b (suc k) (off + b)) → length p ≤ 20 + room)
        → length p ≤ 20 + room
    go (inl e) below = omega (arith, ap length e, packet_long t d off b, full_size b (length d) k off (omega (arith, w)))
    go (inr n) below = below n

-- from block 0 on nothing is behind
zero_less : (n a : ℕ) → a + (n - 8 * 0) ≡ a + n
zero_less n a = omega arith

pub frames_fit : (f : Feed) (b : List ℕ) → bad_link f.link ≡ false → FrameFits f b
frames_fit f b good =
    let g = link_good f.link good in
    let d : List ℕ = payload_of f b in
    let m : ℕ = f.link in
    let c : ℕ = piece_count (length d) m in
    let k : ℕ = c - 1 in
    let s : c ≡ suc (c - 1) = omega (arith, count_some (length d) m) in
    let w = begins_within (length d) m in
    let v = count_covers (length d) m g.0 in
    let n = payload_length f b in
    record {
      pieces = pieces_many (template_of f) d (blocks_in m) c 0 ∙ ap (λ (x : ℕ). piece_count x m) n;
      bytes =
          λ sec usec.
          ap (λ (x : ℕ). length (records_from (template_of f) d (blocks_in m) x 0 sec usec)) s
          ∙ records_long (template_of f) d (blocks_in m) (c - 1) 0 sec usec (omega (arith, w))
          ∙ zero_less (length d) (36 * suc (c - 1))
          ∙ ap (λ (x : ℕ). 36 * x + length d) (sym s)
          ∙ ap (λ (x : ℕ). 36 * piece_count x m + x) n;
      fit =
          λ p q.
          let r = packets_fit (template_of f) d (blocks_in m) (c - 1) 0 (m - 20) (omega arith) (omega (arith, w)) (omega (arith, v)) p (rw s at q) in
          omega (arith, r, g.0);
    }

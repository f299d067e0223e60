-- What the pieces of a datagram carry: each a part that begins within it, and together all of it.
use Rattle.std.proofs.Common.{◌≡◌, ℕ, zero, suc, ◌+◌, ◌-◌, ◌*◌, ◌<◌, ◌≤◌, ◌⊎◌, List, [], length, refl, inl, inr, arith}
use mathlib.Core.List.Memᴰ
use mathlib.Core.List.{Memᴰ}
use native.Mathlib.Decide.{dec_le}
use Rattle.ezpkt.specs.Build.{start_at, end_at, packet_of}
use Rattle.ezpkt.specs.Ip4.{fragment_of}
use Rattle.ezpkt.specs.declared.ip4.Template.{Template}
use Rattle.planner.specs.Cutting.{blocks_in, piece_count, length_at, requests_from}
use Rattle.feed.specs.Cutting.{pieces_from, cut_for}
use Rattle.planner.proofs.Counting.{count_some, begins_within}
use Rattle.feed.proofs.Fitting.{full_before}

-- p is the packet of a piece of d that begins within it
pub record PieceWithin (t : Template) (d p : List ℕ) : Type 0 where
  pub off : ℕ
  pub len : ℕ
  pub within : 8 * off ≤ length d
  pub is : p ≡ packet_of (fragment_of t off len) d

-- .. is one of the packets ps, and carries the byte at place j
pub record PieceAt (t : Template) (d : List ℕ) (ps : List (List ℕ)) (j : ℕ) : Type 0 where
  pub off : ℕ
  pub len : ℕ
  pub within : 8 * off ≤ length d
  pub among : Memᴰ (packet_of (fragment_of t off len) d) ps
  pub from : start_at off (length d) ≤ j
  pub till : j < end_at off len (length d)

module _ (t : Template) (d : List ℕ) (b : ℕ) where
  each_within : (k off : ℕ) → 8 * off + k * (8 * b) ≤ length d → (p : List ℕ) → Memᴰ p (pieces_from t d b (suc k) off) → PieceWithin t d p
  unfolding requests_from
  each_within zero off h p m = go (Memᴰ.cases_cons m)
    where
      go : (p ≡ packet_of (fragment_of t off (length_at b 0 off (length d))) d) ⊎ Memᴰ p [] → PieceWithin t d p
      go (inl e) = record { off = off; len = length_at b 0 off (length d); within = omega arith; is = e }
      go (inr n) = absurd (Memᴰ.not-nil n)
  each_within (suc k) off h p m = go (Memᴰ.cases_cons m) (each_within k (off + b) (full_before b (length d) k off h) p)
    where
      go : (p ≡ packet_of (fragment_of t off b) d) ⊎ Memᴰ p (pieces_from t d b (suc k) (off + b))
          → (Memᴰ p (pieces_from t d b (suc k) (off + b)) → PieceWithin t d p) → PieceWithin t d p
      go (inl e) later = record { off = off; len = b; within = omega (arith, full_before b (length d) k off h); is = e }
      go (inr n) later = later n

  each_reached : (k off : ℕ) → 8 * off + k * (8 * b) ≤ length d → (j : ℕ) → 8 * off ≤ j → j < length d → PieceAt t d (pieces_from t d b (suc k) off) j
  unfolding requests_from
  each_reached zero off h j from till =
      record {
        off = off;
        len = length_at b 0 off (length d);
        within = omega arith;
        among = Memᴰ.head refl;
        from = omega arith;
        till = omega arith;
      }
  each_reached (suc k) off h j from till = go (dec_le (8 * (off + b)) j) (λ behind. each_reached k (off + b) (full_before b (length d) k off h) j behind till)
    where
      w : 8 * (off + b) + k * (8 * b) ≤ length d
      w = full_before b (length d) k off h

      go : Dec (8 * (off + b) ≤ j) → (8 * (off + b) ≤ j → PieceAt t d (pieces_from t d b (suc k) (off + b)) j) → PieceAt t d (pieces_from t d b (suc (suc k)) off) j
      go (yes behind) later =
          let q = later behind in
          record { off = q.off; len = q.len; within = q.within; among = Memᴰ.tail q.among; from = q.from; till = q.till }
      go (no before) later =
          record {
            off = off;
            len = b;
            within = omega (arith, w);
            among = Memᴰ.head refl;
            from = omega arith;
            till = omega (arith, w);
          }

module _ (t : Template) (d : List ℕ) (m : ℕ) where
  counted : piece_count (length d) m ≡ suc (piece_count (length d) m - 1)
  counted = omega (arith, count_some (length d) m)

  pub pieces_within : (p : List ℕ) → Memᴰ p (cut_for t d m) → PieceWithin t d p
  pieces_within p q = each_within t d (blocks_in m) (piece_count (length d) m - 1) 0 (omega (arith, begins_within (length d) m)) p (rw counted at q)

  pub pieces_reach : (j : ℕ) → j < length d → PieceAt t d (cut_for t d m) j
  pieces_reach j till = rw counted (each_reached t d (blocks_in m) (piece_count (length d) m - 1) 0 (omega (arith, begins_within (length d) m)) j (omega arith) till)

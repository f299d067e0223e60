-- Laws of bytes written into a buffer.
use Rattle.std.proofs.Common.{◌≡◌, ℕ, ◌-◌, ◌≤◌, List, ◌++◌, length, take, drop, sym, refl, ap, ◌∙◌, append_assoc, append-nil, arith, length-append, length-drop, drop-drop, take_at, drop_at}
use lib.Seq.{take-length}
use borrow.Rule.Slice.PartMut.{mid_of, put_mid}
use Rattle.std.proofs.lemmas.List.{take_all, drop_all, length-take-le}
use Rattle.pkt.specs.Written.{written}
use Rattle.pkt.proofs.Parts.{mid_tail, post_tail}

-- a copy that is done up to the end
pub copy_done : (s d : List ℕ) (i : ℕ) → i ≡ length s → take i s ++ drop i d ≡ written s d
unfolding written
copy_done s d i e = rw (e, take-length)

-- what `copy` leaves, where there is room
pub copy_written : (s d : List ℕ) → length s ≤ length d → written (take (length d) s) d ≡ written s d
copy_written s d h = ap (λ (l : List ℕ). written l d) (take_all (length d) s h)

pub copy_whole : (s d e : List ℕ) → length s ≤ length d → e ≡ s → e ++ drop (length s) d ≡ written (take (length d) s) d
unfolding written
copy_whole s d e h is = rw (take_all (length d) s h, is) refl

-- .. and where there is not
pub copy_cut : (s d e : List ℕ) → length d ≤ length s → e ≡ take (length d) s → e ≡ written (take (length d) s) d
unfolding written
copy_cut s d e h is = rw (is, length-take-le (length d) s h, drop_all (length d) d (omega arith), append-nil) refl

pub written_length : (a d : List ℕ) → length a ≤ length d → length (written a d) ≡ length d
unfolding written
written_length a d h = simp (length-append, length-drop) (omega arith)

-- Bytes behind those that were written before, as the part from there on is lent: all of them, one after the other.
pub written_then : (a b d : List ℕ) (n : ℕ) → length a ≡ n → take n (written a d) ++ written b (drop n (written a d)) ≡ written (a ++ b) d
unfolding written
written_then a b d n h =
    rw (take_at a (drop (length a) d) n h, drop_at a (drop (length a) d) n h, drop-drop, length-append) (sym (append_assoc a b _))

-- What o holds once a was written into `&mut o[at..]`.
pub put_behind : (a o e : List ℕ) (at : ℕ) → e ≡ written a (mid_of at (length o - at) o) → put_mid at (length o - at) o e ≡ take at o ++ written a (drop at o)
put_behind a o e at h = let f : e ≡ written a (drop at o) = h ∙ ap (written a) (mid_tail at o) in rw (f, post_tail at o, append-nil)

-- What d₁ holds once b was written into `&mut d₁[n..]`, behind a that was written into d before.
pub written_behind : (a b₀ b d d₁ e : List ℕ) (n : ℕ) → length a ≡ n → d₁ ≡ written a d → b₀ ≡ b
    → e ≡ written b₀ (mid_of n (length d₁ - n) d₁) → put_mid n (length d₁ - n) d₁ e ≡ written (a ++ b) d
written_behind a b₀ b d d₁ e n h h₁ hb he =
    rw (he, hb, mid_tail n d₁, post_tail n d₁, append-nil, h₁) (written_then a b d n h)

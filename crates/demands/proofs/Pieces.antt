-- The header of a piece: its numbers fit their fields, and MF and the offset are read back.
use mathlib.Core.Path.{◌≡◌, ap₂}
use mathlib.Core.Bool.{Bool, true, false}
use Prim.Native.Nat.{ℕ, ◌+◌, ◌*◌, ◌/◌, ◌%◌, ◌≤◌, ◌<◌}
use native.Mathlib.Omega.{arith}
use lib.Dec.{eqb}
use borrow.Author.Tests.{eq-eqb, ne_eqb}
use Rattle.ezpkt.specs.Build.{flag_bit, piece_flags, piece_ip}
use Rattle.ezpkt.specs.declared.build.IpPiece.{IpPiece}
use Rattle.inspect.specs.Header.{has_bit}
use Rattle.inspect.specs.Check.{of_many, is_piece}
use Rattle.inspect.specs.Encoded.{read_of, IpFit}
use Rattle.demands.specs.Ranges.{Fitting}

ones : Bool → ℕ
ones b = flag_bit b 1

ones_most : (b : Bool) → ones b ≤ 1
unfolding ones
ones_most true = omega arith
ones_most false = omega arith

bit_is : (b : Bool) (n : ℕ) → flag_bit b n ≡ n * ones b
unfolding ones
bit_is true n = omega arith
bit_is false n = omega arith

test_is : (b : Bool) (x : ℕ) → x ≡ ones b → eqb x 1 ≡ b
unfolding ones
test_is true x e = eq-eqb x 1 e
test_is false x e = ne_eqb x 1 (λ z. omega arith)

flags_is : (q : IpPiece) (m : Bool) → piece_flags q m ≡ 32768 * ones q.template.evil + 16384 * ones q.template.df + 8192 * ones m + q.off
flags_is q m = simp (bit_is q.template.evil 32768, bit_is q.template.df 16384, bit_is m 8192)

flags_most : (q : IpPiece) (m : Bool) → q.off ≤ 8191 → piece_flags q m < 65536
flags_most q m h = omega (arith, flags_is q m, ones_most q.template.evil, ones_most q.template.df, ones_most m)

pub flags_more : (q : IpPiece) (m : Bool) → q.off ≤ 8191 → has_bit 0x2000 (piece_flags q m) ≡ m
flags_more q m h =
    test_is m (piece_flags q m / 0x2000 % 2) (omega (arith, flags_is q m, ones_most q.template.evil, ones_most q.template.df, ones_most m))

pub flags_offset : (q : IpPiece) (m : Bool) → q.off ≤ 8191 → piece_flags q m % 0x2000 ≡ q.off
flags_offset q m h = omega (arith, flags_is q m, ones_most q.template.evil, ones_most q.template.df, ones_most m)

-- the reserved bit
flags_evil : (q : IpPiece) (m : Bool) → q.off ≤ 8191 → has_bit 0x8000 (piece_flags q m) ≡ q.template.evil
flags_evil q m h =
    test_is q.template.evil (piece_flags q m / 0x8000 % 2)
    (omega (arith, flags_is q m, ones_most q.template.evil, ones_most q.template.df, ones_most m))

pub piece_evil : (q : IpPiece) (size : ℕ) (m : Bool) → q.off ≤ 8191 → (read_of (piece_ip q size m)).evil ≡ q.template.evil
unfolding read_of
piece_evil q size m h = flags_evil q m h

pub piece_fit : (q : IpPiece) (size : ℕ) (m : Bool) → Fitting q.template → q.off ≤ 8191 → size < 65536 → IpFit (piece_ip q size m)
piece_fit q size m fits off few =
    record {
      tos = fits.tos;
      total = few;
      id = fits.id;
      frag = flags_most q m off;
      ttl = fits.ttl;
      protocol = fits.protocol;
      saddr = fits.saddr;
      daddr = fits.daddr;
    }

pub piece_read : (q : IpPiece) (size : ℕ) (m : Bool) → q.off ≤ 8191 → is_piece (read_of (piece_ip q size m)) ≡ of_many m q.off
unfolding read_of
piece_read q size m h = ap₂ of_many (flags_more q m h) (flags_offset q m h)

-- Laws of records, parts and buffers.
use mathlib.Core.Path.{◌≡◌, refl, sym, ap, ◌∙◌}
use Prim.Native.Nat.{ℕ, ◌+◌, ◌-◌, ◌≤◌}
use mathlib.Core.Bool.{true}
use mathlib.Core.List.{List, append_assoc}
use lib.ListN.{length, take, length-append, take-append-drop}
use lib.Seq.{length-take-le}
use lib.Dec.{leb, eqb}
use borrow.Author.Tests.{leb-true, eqb-true}
use borrow.Rule.Slice.PartMut.{mid_of, put_mid}
use Rattle.pkt.specs.Written.{written}
use Rattle.pkt.proofs.Choice.{and_both}
use Rattle.pkt.proofs.Written.{written_behind}
use Rattle.packet.specs.Headroom.{valid, len_of, within, leads, placed}
use Rattle.packet.specs.declared.Packet.{Packet}
use Rattle.packet.specs.declared.PktSlice.{PktSlice}

-- what a valid record says
pub valid_true : (p : Packet) (n : ℕ) → valid p n ≡ true → (p.headroom ≤ p.end) × (p.end ≤ n) × (p.end ≤ 1048576)
unfolding valid
valid_true p n e =
    let (h, r) = and_both (leb p.headroom p.end) _ e in
    let (b, m) = and_both (leb p.end n) _ r in
    (leb-true _ _ h, leb-true _ _ b, leb-true _ _ m)

-- what a part within the packet says
pub within_true : (p : Packet) (s : PktSlice) → within p s ≡ true → (p.headroom ≤ s.off) × (s.off + s.len ≤ p.end)
unfolding within
within_true p s e = let (h, r) = and_both (leb p.headroom s.off) _ e in (leb-true _ _ h, leb-true _ _ r)

-- what a part that leads the packet says
pub leads_true : (p : Packet) (s : PktSlice) → leads p s ≡ true → (s.off ≡ p.headroom) × (s.len ≤ len_of p)
unfolding leads
leads_true p s e = let (h, r) = and_both (eqb s.off p.headroom) _ e in (eqb-true _ _ h, leb-true _ _ r)

-- Bytes written into `&mut b[n..]` are placed at n.
pub placed_lent : (d b e : List ℕ) (n : ℕ) → n ≤ length b → e ≡ written d (mid_of n (length b - n) b) → put_mid n (length b - n) b e ≡ placed n d b
unfolding placed written
placed_lent d b e n h q =
    let l = length-take-le n b h in
    let w : b ≡ written (take n b) b = ap (λ (x : List ℕ). x) (sym (rw l (take-append-drop n b))) in
    written_behind (take n b) d d b b e n l w refl q ∙ rw (length-append, l, append_assoc)

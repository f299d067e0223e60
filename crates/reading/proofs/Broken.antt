-- Laws of a record that is broken, and of one that is not.
use Rattle.std.proofs.Common.{◌≡◌, ℕ, ◌+◌, ◌<◌, ◌≤◌, Bool, true, false, ltb, List, length, drop, sym, refl, ◌∙◌, true≢false, arith, length-drop, ltb-false, le-ltb, lt-ltb}
use borrow.Author.Tests.{not-true}
use Rattle.pkt.proofs.Choice.{or_no, pick_yes, pick_no}
use Rattle.pcap.specs.Read.{number, record_size, is_broken}
use Rattle.reading.specs.Reading.{header_size, more_at}

pub broken_short : (l : List ℕ) → length l < 16 → is_broken l ≡ true
unfolding is_broken
broken_short l h = rw (lt-ltb (length l) 16 h)

pub broken_test : (l : List ℕ) → 16 ≤ length l → number 4 8 l ≤ 65535 → is_broken l ≡ ltb (length l) (16 + number 4 8 l)
unfolding is_broken record_size
broken_test l h g = rw (le-ltb (length l) 16 h, le-ltb 65535 (number 4 8 l) g)

pub broken_no : (l : List ℕ) → is_broken l ≡ false → (16 ≤ length l) × (number 4 8 l ≤ 65535) × (record_size l ≤ length l)
unfolding is_broken
broken_no l e =
    let a = or_no _ _ e in
    let b = or_no _ _ a.1 in
    (ltb-false _ _ a.0, ltb-false _ _ b.0, ltb-false _ _ b.1)

-- A record that is not broken, at a place, has its header and its bytes there.
pub header_there : (l : List ℕ) (at : ℕ) → is_broken (drop at l) ≡ false → at + 16 ≤ length l
header_there l at e = omega (arith, length-drop at l, (broken_no (drop at l) e).0)

pub bytes_there : (l : List ℕ) (at : ℕ) → is_broken (drop at l) ≡ false → at + record_size (drop at l) ≤ length l
bytes_there l at e = let w = broken_no (drop at l) e in omega (arith, length-drop at l, w.0, w.2)

-- Where a whole record stands, the place is behind the file header, and the record is not broken.
pub more_yes : (l : List ℕ) (at : ℕ) → more_at l at ≡ true → (ltb at header_size ≡ false) × (is_broken (drop at l) ≡ false)
more_yes l at e = go (ltb at header_size) refl
  where
    go : (b : Bool) → ltb at header_size ≡ b → (ltb at header_size ≡ false) × (is_broken (drop at l) ≡ false)
    go true t = absurd (true≢false (sym e ∙ pick_yes _ _ t))
    go false t = (t, not-true _ (sym (pick_no _ _ t) ∙ e))

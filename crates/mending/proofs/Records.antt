-- A capture's fields, put at their places, mend the packet of each record and leave its header, so that the same records stand there.
use mathlib.Core.Path.{◌≡◌, refl, sym, ap, ap₂, ◌∙◌, subst}
use mathlib.Core.Logic.{◌⊎◌, inl, inr}
use Prim.Native.Nat.{ℕ, zero, suc, ◌+◌, ◌≤◌}
use native.Mathlib.Omega.{arith}
use mathlib.Core.Bool.{Bool, true, false}
use mathlib.Core.List.{List, [], ◌∷◌, ◌++◌, append_assoc}
use lib.ListN.{length, length-append}
use lib.Seq.{take-append_seam, drop-append_seam}
use lib.Dec.{eqb}
use borrow.Author.Tests.{eq-eqb}
use Rattle.pkt.specs.Fields.{Bytes}
use Rattle.pkt.proofs.Choice.{pick_yes, pick_no}
use Rattle.pcap.specs.Read.{Recorded, Records, whole, broken_after, in_front, number, is_broken, records_in}
use Rattle.inspect.proofs.Numbers.{take_bytes, drop_bytes}
use Rattle.mending.specs.Sums.{sums_in, mend_packet}
use Rattle.mending.specs.Packets.{AllRight, PacketsMended}
use Rattle.mending.specs.Mend.{Listed, listed, put_sums, changes_of}
use Rattle.mending.specs.Captures.{mend_record, mend_records, AllGood}
use Rattle.mending.specs.declared.sums.SumField.{SumField}
use Rattle.mending.proofs.Placing.{put_listed, put_append}
use Rattle.mending.proofs.Laid.{Laid, stops, goes, record_of, laid_rest, laid_whole, laid_some, laid_record, sums_by}

-- the bytes with each packet mended
unfoldable pub mended_by : {l : List ℕ} → Laid l → List ℕ
mended_by (stops l e) = l
mended_by (goes h p r sixteen names few v) = h ++ (mend_packet p ++ mended_by v)

-- ---- bytes of a part

bytes_front : (a b : List ℕ) → Bytes (a ++ b) → Bytes a
bytes_front a b h = subst Bytes (take-append_seam a b) (take_bytes (length a) (a ++ b) h)

bytes_behind : (a b : List ℕ) → Bytes (a ++ b) → Bytes b
bytes_behind a b h = subst Bytes (drop-append_seam a b) (drop_bytes (length a) (a ++ b) h)

pub packet_bytes : (h p r : List ℕ) → Bytes (h ++ (p ++ r)) → Bytes p
packet_bytes h p r b = bytes_front p r (bytes_behind h (p ++ r) b)

pub rest_bytes : (h p r : List ℕ) → Bytes (h ++ (p ++ r)) → Bytes r
rest_bytes h p r b = bytes_behind p r (bytes_behind h (p ++ r) b)

-- ---- records that are read

records_goes : (h p r : List ℕ) (most : ℕ) → length h ≡ 16 → number 4 8 h ≡ length p → length p ≤ 65535
    → records_in (suc most) (h ++ (p ++ r)) ≡ in_front (record_of h p) (records_in most r)
unfolding records_in
records_goes h p r most sixteen names few =
    pick_no _ _ (laid_some h p r sixteen names few)
    ∙ pick_no _ _ (laid_whole h p r sixteen names few)
    ∙ ap₂ (λ (x : Recorded) (t : List ℕ). in_front x (records_in most t)) (laid_record h p r sixteen names few) (laid_rest h p r sixteen names few)

-- Where no whole record stands, none is read.
records_stop : (l : List ℕ) (most : ℕ) → is_broken l ≡ true → (records_in most l ≡ whole []) ⊎ (records_in most l ≡ broken_after [])
unfolding records_in
records_stop l zero e = inr refl
records_stop l (suc most) e = go (eqb (length l) 0) refl
  where
    go : (b : Bool) → eqb (length l) 0 ≡ b → (records_in (suc most) l ≡ whole []) ⊎ (records_in (suc most) l ≡ broken_after [])
    go true t = inl (pick_yes _ _ t)
    go false t = inr (pick_no _ _ t ∙ pick_yes _ _ e)

front_mended : (x : Recorded) (w : Records) → mend_records (in_front x w) ≡ in_front (mend_record x) (mend_records w)
front_mended x (whole rs) = refl
front_mended x (broken_after rs) = refl

-- the whole records, also where a broken one follows
unfoldable pub whole_of : Records → List Recorded
whole_of (whole rs) = rs
whole_of (broken_after rs) = rs

whole_front : (x : Recorded) (w : Records) → whole_of (in_front x w) ≡ x ∷ whole_of w
unfolding whole_of
whole_front x (whole rs) = refl
whole_front x (broken_after rs) = refl

-- ---- fields that hold what belongs there

right_none : (k which start : ℕ) (fs : List SumField) (ss : List Listed) → AllRight fs → changes_of (listed k which start fs ++ ss) ≡ changes_of ss
unfolding AllRight changes_of
right_none k which start [] ss h = refl
right_none k which start (f ∷ fs) ss (h, t) = pick_yes _ _ (eq-eqb f.old f.new h) ∙ right_none k (suc which) start fs ss t

module _ (pm : PacketsMended) where
  -- The fields, put, mend each packet.
  pub put_laid : {r : List ℕ} (v : Laid r) (k at : ℕ) (a : List ℕ) → length a ≡ at → Bytes r → put_sums (sums_by v k at) (a ++ r) ≡ a ++ mended_by v
  unfolding put_sums sums_by mended_by
  put_laid (stops l e) k at a here b = refl
  put_laid (goes h p r sixteen names few v) k at a here b =
      let q : List ℕ = mend_packet p in
      let next : ℕ = at + (16 + length p) in
      let ss : List Listed = listed k 0 (at + 16) (sums_in p) in
      let parts : (a ++ h) ++ (p ++ r) ≡ a ++ (h ++ (p ++ r)) = simp append_assoc in
      let after : (a ++ (h ++ q)) ++ r ≡ (a ++ h) ++ (q ++ r) = simp append_assoc in
      let whole : (a ++ (h ++ q)) ++ mended_by v ≡ a ++ (h ++ (q ++ mended_by v)) = simp append_assoc in
      let size : length (a ++ (h ++ q)) ≡ next = omega (arith, length-append a (h ++ q), length-append h q, pm.size p) in
      put_append ss (sums_by v (suc k) next) (a ++ (h ++ (p ++ r)))
      ∙ ap (put_sums (sums_by v (suc k) next))
      (ap (put_sums ss) (sym parts)
      ∙ put_listed k 0 (at + 16) (sums_in p) (a ++ h) p r (omega (arith, length-append a h)) (pm.within p (packet_bytes h p r b))
      ∙ sym after)
      ∙ put_laid v (suc k) next (a ++ (h ++ q)) size (rest_bytes h p r b)
      ∙ whole

  pub mended_length : {r : List ℕ} (v : Laid r) → length (mended_by v) ≡ length r
  unfolding mended_by
  mended_length (stops l e) = refl
  mended_length (goes h p r sixteen names few v) =
      omega (
        arith,
        mended_length v,
        pm.size p,
        length-append h (mend_packet p ++ mended_by v),
        length-append (mend_packet p) (mended_by v),
        length-append h (p ++ r),
        length-append p r,
      )

  -- What is mended is laid out as it was.
  pub still : {r : List ℕ} (v : Laid r) → Laid (mended_by v)
  unfolding mended_by
  still (stops l e) = stops l e
  still (goes h p r sixteen names few v) = goes h (mend_packet p) (mended_by v) sixteen (names ∙ sym (pm.size p)) (omega (arith, pm.size p)) (still v)

  pub mended_twice : {r : List ℕ} (v : Laid r) → Bytes r → mended_by (still v) ≡ mended_by v
  unfolding mended_by still
  mended_twice (stops l e) b = refl
  mended_twice (goes h p r sixteen names few v) b =
      ap₂ (λ (q t : List ℕ). h ++ (q ++ t)) (pm.twice p (packet_bytes h p r b)) (mended_twice v (rest_bytes h p r b))

  pub none_again : {r : List ℕ} (v : Laid r) (k at : ℕ) → Bytes r → changes_of (sums_by (still v) k at) ≡ []
  unfolding sums_by still mended_by changes_of
  none_again (stops l e) k at b = refl
  none_again (goes h p r sixteen names few v) k at b =
      right_none k 0 (at + 16) (sums_in (mend_packet p)) (sums_by (still v) (suc k) (at + (16 + length (mend_packet p))))
      (pm.right_then p (packet_bytes h p r b))
      ∙ none_again v (suc k) (at + (16 + length (mend_packet p))) (rest_bytes h p r b)

  pub records_mended : {r : List ℕ} (v : Laid r) (most : ℕ) → records_in most (mended_by v) ≡ mend_records (records_in most r)
  unfolding records_in mended_by
  records_mended (stops l e) most = go (records_stop l most e)
    where
      go : (records_in most l ≡ whole []) ⊎ (records_in most l ≡ broken_after []) → records_in most l ≡ mend_records (records_in most l)
      go (inl s) = s ∙ sym (ap mend_records s)
      go (inr s) = s ∙ sym (ap mend_records s)
  records_mended (goes h p r sixteen names few v) zero = refl
  records_mended (goes h p r sixteen names few v) (suc most) =
      let size = pm.size p in
      records_goes h (mend_packet p) (mended_by v) most sixteen (names ∙ sym size) (omega arith)
      ∙ ap (in_front (record_of h (mend_packet p))) (records_mended v most)
      ∙ sym (ap mend_records (records_goes h p r most sixteen names few) ∙ front_mended (record_of h p) (records_in most r))

  -- The check calls each of its packets good that it would call so if 7 and 15 were never given.
  pub good_mended : {r : List ℕ} (v : Laid r) (most : ℕ) → Bytes r → AllGood (whole_of (records_in most (mended_by v)))
  unfolding records_in mended_by whole_of AllGood
  good_mended (stops l e) most b = go (records_stop l most e)
    where
      go : (records_in most l ≡ whole []) ⊎ (records_in most l ≡ broken_after []) → AllGood (whole_of (records_in most l))
      go (inl s) = rw s tt
      go (inr s) = rw s tt
  good_mended (goes h p r sixteen names few v) zero b = tt
  good_mended (goes h p r sixteen names few v) (suc most) b =
      let q : List ℕ = mend_packet p in
      let size = pm.size p in
      let bp = packet_bytes h p r b in
      let here : records_in (suc most) (h ++ (q ++ mended_by v)) ≡ in_front (record_of h q) (records_in most (mended_by v)) =
      records_goes h q (mended_by v) most sixteen (names ∙ sym size) (omega arith) in
      subst AllGood (sym (ap whole_of here ∙ whole_front (record_of h q) (records_in most (mended_by v))))
      (λ w e. pm.good_then p w bp (sym (pm.whole_still p bp) ∙ e), good_mended v most (rest_bytes h p r b))

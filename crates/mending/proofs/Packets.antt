-- What mending owes one packet.
use mathlib.Core.Path.{◌≡◌, refl, sym, ap, ◌∙◌}
use Prim.Native.Nat.{ℕ}
use mathlib.Core.List.{List, [], ◌∷◌}
use lib.ListN.{length}
use Rattle.pkt.specs.Answers.{Answer, refused, gives}
use Rattle.pkt.specs.Fields.{Bytes}
use Rattle.inspect.specs.declared.check.Whole.{Whole}
use Rattle.inspect.specs.Check.{check_answer, examine_answer}
use Rattle.mending.specs.Packets.{verdict_for, AllWithin, AllRight, PacketsMended}
use Rattle.mending.specs.Sums.{renewed, fields_of, sums_in, put_fields, mend_packet}
use Rattle.mending.specs.declared.sums.SumField.{SumField}
use Rattle.mending.proofs.Renewed.{renewed_length, renewed_bytes}
use Rattle.mending.proofs.Wholes.{known, examined}
use Rattle.mending.proofs.Anew.{mended, mended_known, mended_good, mended_right, right_mended, is_mended, fields_within}

-- ---- any fields

put_length : (fs : List SumField) (p : List ℕ) → length (put_fields fs p) ≡ length p
unfolding put_fields
put_length [] p = refl
put_length (f ∷ fs) p = put_length fs (renewed f.at f.new p) ∙ renewed_length f.at f.new p

put_bytes : (fs : List SumField) (p : List ℕ) → Bytes p → Bytes (put_fields fs p)
unfolding put_fields
put_bytes [] p b = b
put_bytes (f ∷ fs) p b = put_bytes fs (renewed f.at f.new p) (renewed_bytes f.at f.new p b)

-- ---- a packet that the check, up to its sums, would refuse

pub refused_stays : (p : List ℕ) (n : ℕ) → examine_answer p ≡ refused n → mend_packet p ≡ p
unfolding sums_in put_fields
refused_stays p n e = ap (λ (a : Answer Whole). put_fields (fields_of a p) p) e

-- ---- and one that it would not

module _ (p : List ℕ) (w : Whole) (b : Bytes p) (e : examine_answer p ≡ gives w) where
  pub mended_is : mend_packet p ≡ mended p w.header w.kind
  unfolding sums_in
  mended_is =
      ap (λ (a : Answer Whole). put_fields (fields_of a p) p) e ∙ is_mended p w.header w.kind b (known p w.header w.kind e)

  good_then : check_answer (mend_packet p) ≡ gives (verdict_for w.kind)
  good_then = ap check_answer mended_is ∙ mended_good p w.header w.kind b (known p w.header w.kind e)

  whole_then : examine_answer (mend_packet p) ≡ gives w
  whole_then =
      ap examine_answer mended_is
      ∙ examined (mended p w.header w.kind) w.header w.kind (mended_known p w.header w.kind b (known p w.header w.kind e))

whole_still : (p : List ℕ) → Bytes p → examine_answer (mend_packet p) ≡ examine_answer p
whole_still p b = go (examine_answer p) refl
  where
    go : (a : Answer Whole) → examine_answer p ≡ a → examine_answer (mend_packet p) ≡ examine_answer p
    go (refused n) e = ap examine_answer (refused_stays p n e)
    go (gives w) e = whole_then p w b e ∙ sym e

within : (p : List ℕ) → Bytes p → AllWithin (sums_in p) p
unfolding sums_in AllWithin
within p b = go (examine_answer p) refl
  where
    go : (a : Answer Whole) → examine_answer p ≡ a → AllWithin (fields_of a p) p
    go (refused n) e = tt
    go (gives w) e = fields_within p w.header w.kind b (known p w.header w.kind e)

right_then : (p : List ℕ) → Bytes p → AllRight (sums_in (mend_packet p))
unfolding sums_in AllRight
right_then p b = rw (whole_still p b) (go (examine_answer p) refl)
  where
    go : (a : Answer Whole) → examine_answer p ≡ a → AllRight (fields_of a (mend_packet p))
    go (refused n) e = tt
    go (gives w) e = rw (mended_is p w b e) (mended_right p w.header w.kind b (known p w.header w.kind e))

right_stays : (p : List ℕ) → Bytes p → AllRight (sums_in p) → mend_packet p ≡ p
unfolding sums_in
right_stays p b = go (examine_answer p) refl
  where
    go : (a : Answer Whole) → examine_answer p ≡ a → AllRight (fields_of a p) → mend_packet p ≡ p
    go (refused n) e r = refused_stays p n e
    go (gives w) e r = mended_is p w b e ∙ right_mended p w.header w.kind b (known p w.header w.kind e) r

pub packets_mended : PacketsMended
packets_mended =
    record {
      within = within;
      bytes = λ p b. put_bytes (sums_in p) p b;
      size = λ p. put_length (sums_in p) p;
      others = refused_stays;
      good_then = λ p w b e. good_then p w b e;
      whole_still = whole_still;
      right_then = right_then;
      right_stays = right_stays;
      twice = λ p b. right_stays (mend_packet p) (put_bytes (sums_in p) p b) (right_then p b);
    }

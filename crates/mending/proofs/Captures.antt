-- A mended capture is its first 24 bytes as they were and behind them its records, each packet mended: so what holds of packets holds of it.
use mathlib.Core.Path.{◌≡◌, refl, sym, ap, ap₂, ◌∙◌, subst}
use Prim.Native.Nat.{ℕ, zero, suc}
use native.Mathlib.Omega.{arith}
use mathlib.Core.Bool.{Bool, true, false}
use mathlib.Core.List.{List, [], ◌++◌}
use lib.ListN.{length, take, drop, length-append, take-append-drop}
use lib.Seq.{drop_at}
use Rattle.pkt.specs.Fields.{Bytes}
use Rattle.pkt.proofs.Choice.{pick_yes, pick_no}
use Rattle.pcap.specs.Pcap.{file_header}
use Rattle.pcap.specs.Read.{Recorded, whole, records_in, records_of}
use Rattle.pcap.proofs.Pcap.{file_header_length}
use Rattle.inspect.proofs.Numbers.{drop_bytes}
use Rattle.reading.specs.Reading.{starts_with, header_size}
use Rattle.reading.proofs.Stepping.{steps_read}
use Rattle.mending.specs.Packets.{PacketsMended}
use Rattle.mending.proofs.Packets.{packets_mended}
use Rattle.mending.specs.Mend.{Listed, sums_from, sums_of, put_sums, mend, changes_of, changes}
use Rattle.mending.specs.Captures.{AllHold, mend_records, AllGood, CapturesMended}
use Rattle.mending.proofs.Placing.{put_length, put_bytes, AllFrom, put_front}
use Rattle.mending.proofs.Laid.{Laid, laid, sums_by, sums_laid, sums_from_lem}
use Rattle.mending.proofs.Records.{mended_by, put_laid, mended_length, still, mended_twice, none_again, whole_of, records_mended, good_mended}
use Rattle.mending.proofs.Holding.{hold_mended, put_unlisted}

-- ---- a capture that does not start with the header

unopened_from : (most : ℕ) (l : List ℕ) → sums_from most 0 0 l ≡ []
unfolding sums_from
unopened_from zero l = refl
unopened_from (suc most) l = refl

-- has no fields, and stays.
unopened : (l : List ℕ) → starts_with file_header l ≡ false → sums_of l ≡ []
unopened l e = ap (λ (n : ℕ). sums_from (length l) 0 n l) (pick_no header_size 0 e) ∙ unopened_from (length l) l

unopened_stays : (l : List ℕ) → starts_with file_header l ≡ false → mend l ≡ l
unfolding put_sums
unopened_stays l e = ap (λ (ss : List Listed). put_sums ss l) (unopened l e)

-- ---- one that does

-- its fields, where r stands behind the header a
pub opened : (a r : List ℕ) (v : Laid r) → length a ≡ header_size → starts_with file_header (a ++ r) ≡ true → sums_of (a ++ r) ≡ sums_by v 0 header_size
opened a r v n e =
    ap (λ (m : ℕ). sums_from (length (a ++ r)) 0 m (a ++ r)) (pick_yes header_size 0 e)
    ∙ sums_laid v (length (a ++ r)) 0 header_size a n (omega arith) (omega (arith, length-append a r))

module _ (l : List ℕ) (e : starts_with file_header l ≡ true) where
  -- its first bytes, and its records
  first : List ℕ
  first = take header_size l

  rest : List ℕ
  rest = drop header_size l

  view : Laid rest
  view = laid (length rest) rest (omega arith)

  parts : first ++ rest ≡ l
  unfolding first rest
  parts = take-append-drop header_size l

  first_length : length first ≡ header_size
  unfolding first
  first_length = ap length (steps_read.opens l e) ∙ file_header_length

  sums_are : sums_of l ≡ sums_by view 0 header_size
  sums_are = subst (λ (t : List ℕ). sums_of t ≡ sums_by view 0 header_size) parts (opened first rest view first_length (ap (starts_with file_header) parts ∙ e))

  opens_still : starts_with file_header (mend l) ≡ true
  unfolding first
  opens_still =
      let behind : AllFrom header_size (sums_of l) = subst (AllFrom header_size) (sym sums_are) (sums_from_lem view 0 header_size) in
      steps_read.opens_all (mend l) (put_front header_size (sums_of l) l behind ∙ steps_read.opens l e)

  module _ (pm : PacketsMended) (b : Bytes l) where
    rest_bytes : Bytes rest
    unfolding rest
    rest_bytes = drop_bytes header_size l b

    mend_is : mend l ≡ first ++ mended_by view
    mend_is =
        ap₂ put_sums sums_are (sym parts) ∙ put_laid pm view 0 header_size first first_length rest_bytes

    mend_rest : drop header_size (mend l) ≡ mended_by view
    mend_rest = ap (drop header_size) mend_is ∙ drop_at first (mended_by view) header_size first_length

    sums_again : sums_of (mend l) ≡ sums_by (still pm view) 0 header_size
    sums_again =
        ap sums_of mend_is
        ∙ opened first (mended_by view) (still pm view) first_length (ap (starts_with file_header) (sym mend_is) ∙ opens_still)

    holds : AllHold (sums_of l) l (mend l)
    holds =
        subst (λ (ss : List Listed). AllHold ss l (mend l)) (sym sums_are)
        (rw (parts, ← mend_is) at (hold_mended pm view 0 header_size first first first_length first_length rest_bytes))

    records_are : records_of (drop header_size (mend l)) ≡ mend_records (records_of (drop header_size l))
    unfolding rest
    records_are =
        ap records_of mend_rest
        ∙ ap (λ (n : ℕ). records_in (suc n) (mended_by view)) (mended_length pm view)
        ∙ records_mended pm view (suc (length rest))

    all_good : (rs : List Recorded) → records_of (drop header_size (mend l)) ≡ whole rs → AllGood rs
    unfolding whole_of
    all_good rs q =
        subst AllGood (ap whole_of (sym (ap records_of mend_rest) ∙ q)) (good_mended pm view (suc (length (mended_by view))) rest_bytes)

    nothing_again : changes (mend l) ≡ []
    nothing_again = ap changes_of sums_again ∙ none_again pm view 0 header_size rest_bytes

    bytes_again : Bytes (mended_by view)
    bytes_again = subst Bytes mend_rest (drop_bytes header_size (mend l) (put_bytes (sums_of l) l b))

    same_again : mend (mend l) ≡ mend l
    same_again =
        ap₂ put_sums sums_again mend_is
        ∙ put_laid pm (still pm view) 0 header_size first first_length bytes_again
        ∙ ap (λ (t : List ℕ). first ++ t) (mended_twice pm view rest_bytes)
        ∙ sym mend_is

-- ---- every capture

either : {P : Type 0} (l : List ℕ) → (starts_with file_header l ≡ true → P) → (starts_with file_header l ≡ false → P) → P
either {P} l f g = go (starts_with file_header l) refl
  where
    go : (t : Bool) → starts_with file_header l ≡ t → P
    go true e = f e
    go false e = g e

module _ (pm : PacketsMended) (l : List ℕ) where
  all_hold : Bytes l → AllHold (sums_of l) l (mend l)
  unfolding AllHold
  all_hold b = either l (λ e. holds l e pm b) (λ e. subst (λ (ss : List Listed). AllHold ss l (mend l)) (sym (unopened l e)) tt)

  none_twice : Bytes l → changes (mend l) ≡ []
  unfolding changes_of
  none_twice b = either l (λ e. nothing_again l e pm b) (λ e. ap changes (unopened_stays l e) ∙ ap changes_of (unopened l e))

captures_by : PacketsMended → CapturesMended
captures_by pm =
    record {
      bytes = λ l b. put_bytes (sums_of l) l b;
      size = λ l. put_length (sums_of l) l;
      alone = λ l i b u. put_unlisted (sums_of l) l i b (all_hold pm l b) u;
      hold = all_hold pm;
      opens = λ l. either l (λ e. opens_still l e ∙ sym e) (λ e. ap (starts_with file_header) (unopened_stays l e));
      reads = λ l b e. records_are l e pm b;
      good_then = λ l rs b e. all_good l e pm b rs;
      none_twice = none_twice pm;
      twice = λ l b. either l (λ e. same_again l e pm b) (λ e. ap mend (unopened_stays l e));
    }

pub captures_mended : CapturesMended
captures_mended = captures_by packets_mended

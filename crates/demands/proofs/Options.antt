-- A packet with options is what it is without them: what is made of a packet's header and its data part does not look at the places.
use mathlib.Core.Path.{◌≡◌, refl, sym, ap, ◌∙◌, subst}
use mathlib.Core.Bool.{Bool, true, false, cond}
use mathlib.Core.List.{List, ◌++◌}
use Prim.Native.Nat.{ℕ, ◌+◌, ◌*◌}
use native.Mathlib.Omega.{arith}
use lib.ListN.{length, length-append}
use lib.Dec.{ltb}
use Rattle.pkt.specs.Answers.{Answer, refused, gives, mapped, and_then}
use Rattle.pkt.specs.Fields.{Bytes}
use Rattle.pkt.specs.Rfc791.{ip_header}
use Rattle.pkt.specs.declared.ipv4.ip_hdr.{ip_hdr}
use Rattle.ezpkt.specs.declared.SocketAddrV4.{SocketAddrV4}
use Rattle.inspect.specs.declared.check.Whole.{Whole}
use Rattle.inspect.specs.Answers.{whole}
use Rattle.inspect.specs.Header.{header_of, frame_answer, unreserved, read_answer, data_of}
use Rattle.inspect.specs.Check.{whole_answer, check_answer, examine_answer}
use Rattle.inspect.specs.Encoded.{read_of}
use Rattle.inspect.specs.Options.{option_header, past_options}
use Rattle.inspect.specs.declared.header.IpRead.{IpRead}
use Rattle.inspect.specs.declared.check.Kind.{Kind}
use Rattle.inspect.proofs.Reading.{framed}
use Rattle.inspect.proofs.Decoding.{option_data, option_framed, option_read, option_checked, data_is, framed_is, decoded, check_encoded}
use Rattle.assembly.specs.declared.Key.{Key}
use Rattle.assembly.specs.Assembly.{State, step}
use Rattle.assembly.specs.Piece.{Piece}
use Rattle.assembly.specs.View.{piece}
use Rattle.assembly.specs.Answers.{Steps, state_after}
use Rattle.assembly.specs.Carried.{key_of, same_key, piece_of, broken, fit_answer, keyed_answer, head_answer, piece_answer}
use Rattle.assembly.specs.Calls.{usable, take_answer}
use Rattle.assembly.specs.Packets.{after, take_all}
use Rattle.table.specs.declared.Slot.{Slot}
use Rattle.table.specs.Slots.{slot_bytes, table_fits}
use Rattle.table.specs.Table.{Placing, piece_for, table_take, Tables}
use Rattle.reporting.specs.Packets.{class_of}
use Rattle.reporting.specs.Report.{nothing_yet, report_after, report_from, report_of}
use Rattle.reporting.specs.declared.Report.{Report}
use Rattle.reporting.proofs.Sorting.{class_alike}
use Rattle.reporting.proofs.Totals.{reported_is}
use Rattle.mending.specs.Sums.{renewed, mend_packet}
use Rattle.mending.proofs.Renewed.{renewed_length}
use Rattle.mending.proofs.Wholes.{Shape, sum_at, Known, known}
use Rattle.mending.proofs.Anew.{part_sum}
use Rattle.mending.proofs.Encoded.{option_mended, encoded_mended}
use Rattle.demands.specs.Options.{Optioned, bare_with, full_with, bare, full, Mixed, none, same, with_options, OptionsPassed}
use Rattle.demands.proofs.Parts.{parts_of_lem}

-- ---- what is made of a header g and its data part, however many bytes of options lie between

-- the piece of an assembly, of the header that was read: 8, 9, 10
unfoldable keyed_piece : ℕ → Key → IpRead → List ℕ → Answer Piece
keyed_piece C k g b = cond (same_key (key_of g) k) (and_then (fit_answer C 10 (length b) g) (λ i. gives (piece g.off g.mf b))) (refused 8)

piece_through : (C : ℕ) (k : Key) (l : List ℕ) → piece_answer C k l ≡ and_then (read_answer l) (λ g. keyed_piece C k g (data_of g l))
unfolding piece_answer head_answer keyed_answer fit_answer keyed_piece
piece_through C k l = go (read_answer l)
  where
    fit : (g : IpRead) (a b : Bool)
        → mapped (piece_of l) (cond a (refused 9) (cond b (refused 10) (gives g))) ≡ and_then (cond a (refused 9) (cond b (refused 10) (gives g))) (λ i. gives (piece_of l g))
    fit g true b = refl
    fit g false true = refl
    fit g false false = refl

    keyed : (g : IpRead) (a : Bool)
        → and_then (cond a (gives g) (refused 8)) (λ h. mapped (piece_of l) (fit_answer C 10 (length (data_of h l)) h))
        ≡ cond a (and_then (fit_answer C 10 (length (data_of g l)) g) (λ i. gives (piece_of l g))) (refused 8)
    keyed g true = fit g (broken g.mf (length (data_of g l))) (ltb C (8 * g.off + length (data_of g l)))
    keyed g false = refl

    go : (a : Answer IpRead)
        → and_then (and_then a (keyed_answer k)) (λ h. mapped (piece_of l) (fit_answer C 10 (length (data_of h l)) h)) ≡ and_then a (λ g. keyed_piece C k g (data_of g l))
    go (refused n) = refl
    go (gives g) = keyed g (same_key (key_of g) k)

fit_same : {B : Type 0} (x : Answer B) (C far size n : ℕ) (g : IpRead) → and_then (fit_answer C far size (past_options n g)) (λ i. x) ≡ and_then (fit_answer C far size g) (λ i. x)
unfolding fit_answer
fit_same x C far size n g = go (broken g.mf size) (ltb C (8 * g.off + size))
  where
    go : (a b : Bool)
        → and_then (cond a (refused 9) (cond b (refused far) (gives (past_options n g)))) (λ i. x) ≡ and_then (cond a (refused 9) (cond b (refused far) (gives g))) (λ i. x)
    go true b = refl
    go false true = refl
    go false false = refl

keyed_same : (C : ℕ) (k : Key) (n : ℕ) (g : IpRead) (b : List ℕ) → keyed_piece C k (past_options n g) b ≡ keyed_piece C k g b
unfolding keyed_piece
keyed_same C k n g b = ap (λ (a : Answer Piece). cond (same_key (key_of g) k) a (refused 8)) (fit_same (gives (piece g.off g.mf b)) C 10 (length b) n g)

placed_same : (t : List Slot) (d m : List ℕ) (n : ℕ) (g : IpRead) (b : List ℕ) → piece_for t d m (past_options n g) b ≡ piece_for t d m g b
unfolding piece_for
placed_same t d m n g b = fit_same _ slot_bytes 20 (length b) n g

-- ---- one packet

module _ (o : Optioned) where
  abbrev h : ip_hdr
  h = o.parts.header

  abbrev n : ℕ
  n = length o.options

  abbrev g : IpRead
  g = read_of h

  module _ (r : List ℕ) where
    behind_it : length (o.parts.part ++ r) ≡ length o.parts.part + length r
    behind_it = length-append o.parts.part r

    full_read : read_answer (full o r) ≡ unreserved (past_options n g)
    full_read =
        option_read h o.options o.any (o.parts.part ++ r) o.parts.fits o.room
        (omega (arith, o.parts.total)) (omega (arith, o.parts.total, behind_it))

    bare_read : read_answer (bare o.parts r) ≡ unreserved g
    bare_read = decoded h (o.parts.part ++ r) o.parts.fits (omega (arith, o.parts.total)) (omega (arith, o.parts.total, behind_it))

    module _ (x : ℕ) where
      full_framed : frame_answer (full_with x o r) ≡ gives (past_options n g)
      full_framed =
          option_framed h o.options o.any x (o.parts.part ++ r) o.parts.fits o.room
          (omega (arith, o.parts.total)) (omega (arith, o.parts.total, behind_it))

      bare_framed : frame_answer (bare_with x o.parts r) ≡ gives g
      bare_framed =
          framed_is h x (o.parts.part ++ r) o.parts.fits (omega (arith, o.parts.total)) (omega (arith, o.parts.total, behind_it))

      full_data : data_of (past_options n g) (full_with x o r) ≡ o.parts.part
      full_data = option_data h o.options x o.parts.part r o.parts.total

      bare_data : data_of g (bare_with x o.parts r) ≡ o.parts.part
      bare_data = data_is h x o.parts.part r o.parts.total

  module _ (r r' : List ℕ) where
    read_same : read_answer (full o r) ≡ mapped (past_options n) (read_answer (bare o.parts r'))
    read_same = full_read r ∙ go g.evil ∙ ap (mapped (past_options n)) (sym (bare_read r'))
      where
        go : (e : Bool) → cond e (refused 18) (gives (past_options n g)) ≡ mapped (past_options n) (cond e (refused 18) (gives g))
        go true = refl
        go false = refl

    -- What is made of the header that was read and of the data part is the same, where it does not look at the places.
    through : {B : Type 0} (F : IpRead → List ℕ → Answer B) → ((b : List ℕ) → F (past_options n g) b ≡ F g b)
        → and_then (read_answer (full o r)) (λ i. F i (data_of i (full o r))) ≡ and_then (read_answer (bare o.parts r')) (λ i. F i (data_of i (bare o.parts r')))
    unfolding option_header ip_header
    through F alike =
        ap (λ (a : Answer IpRead). and_then a (λ i. F i (data_of i (full o r)))) (full_read r)
        ∙ go g.evil
        ∙ ap (λ (a : Answer IpRead). and_then a (λ i. F i (data_of i (bare o.parts r')))) (sym (bare_read r'))
      where
        go : (e : Bool)
            → and_then (cond e (refused 18) (gives (past_options n g))) (λ i. F i (data_of i (full o r)))
            ≡ and_then (cond e (refused 18) (gives g)) (λ i. F i (data_of i (bare o.parts r')))
        go true = refl
        go false = ap (F (past_options n g)) (full_data r _) ∙ alike o.parts.part ∙ ap (F g) (sym (bare_data r' _))

    check_same : check_answer (full o r) ≡ check_answer (bare o.parts r')
    check_same =
        option_checked h o.options o.parts.part r o.any o.parts.fits o.room o.parts.total
        ∙ sym (check_encoded h o.parts.part r' o.parts.fits o.parts.total)

    piece_same : (C : ℕ) (k : Key) → piece_answer C k (full o r) ≡ piece_answer C k (bare o.parts r')
    piece_same C k =
        piece_through C k (full o r) ∙ through (keyed_piece C k) (λ b. keyed_same C k n g b) ∙ sym (piece_through C k (bare o.parts r'))

    take_same : (C M : ℕ) (s : State) → take_answer C M s (full o r) ≡ take_answer C M s (bare o.parts r')
    unfolding take_answer
    take_same C M s = ap (λ (a : Answer Piece). cond (usable C M s) (mapped (step s) a) (refused 11)) (piece_same C s.key)

    table_same : (t : List Slot) (d m : List ℕ) → table_take t d m (full o r) ≡ table_take t d m (bare o.parts r')
    unfolding table_take
    table_same t d m =
        ap (λ (a : Answer Placing). cond (table_fits t (length d) (length m)) a (refused 11)) (through (piece_for t d m) (λ b. placed_same t d m n g b))

    class_same : (cl sv : SocketAddrV4) → class_of cl sv (full o r) ≡ class_of cl sv (bare o.parts r')
    unfolding option_header ip_header
    class_same cl sv =
        let l : List ℕ = bare o.parts r' in
        let here : header_of (full o r) ≡ past_options n g = sym (framed (full o r) (past_options n g) (full_framed r _)).is in
        let there : header_of l ≡ g = sym (framed l g (bare_framed r' _)).is in
        class_alike cl sv l (full o r) n check_same (here ∙ ap (past_options n) (sym there))
        (ap (λ (i : IpRead). data_of i (full o r)) here ∙ full_data r _ ∙ sym (bare_data r' _) ∙ ap (λ (i : IpRead). data_of i l) (sym there))

    module _ (x y : ℕ) where
      abbrev moved : Whole → Whole
      moved w = whole (past_options n w.header) w.kind

      examine_same : examine_answer (full_with x o r) ≡ mapped moved (examine_answer (bare_with y o.parts r'))
      unfolding examine_answer whole_answer
      examine_same =
          ap (λ (a : Answer IpRead). and_then (and_then a unreserved) (λ i. mapped (whole i) (whole_answer i (data_of i (full_with x o r))))) (full_framed r x)
          ∙ go g.evil
          ∙ ap (λ (a : Answer IpRead). mapped moved (and_then (and_then a unreserved) (λ i. mapped (whole i) (whole_answer i (data_of i (bare_with y o.parts r'))))))
          (sym (bare_framed r' y))
        where
          twice : (a : Answer Kind) → mapped (whole (past_options n g)) a ≡ mapped moved (mapped (whole g) a)
          twice (refused m) = refl
          twice (gives k) = refl

          go : (e : Bool)
              → and_then (cond e (refused 18) (gives (past_options n g))) (λ i. mapped (whole i) (whole_answer i (data_of i (full_with x o r))))
              ≡ mapped moved (and_then (cond e (refused 18) (gives g)) (λ i. mapped (whole i) (whole_answer i (data_of i (bare_with y o.parts r')))))
          go true = refl
          go false =
              ap (λ (b : List ℕ). mapped (whole (past_options n g)) (whole_answer g b)) (full_data r x)
              ∙ twice (whole_answer g o.parts.part)
              ∙ ap (λ (b : List ℕ). mapped moved (mapped (whole g) (whole_answer g b))) (sym (bare_data r' y))

      mend_same : (w : Whole) → Bytes o.parts.part → Bytes r → Bytes r' → examine_answer (bare_with y o.parts r') ≡ gives w
          → (d : List ℕ) × (length d ≡ length o.parts.part) × (mend_packet (bare_with y o.parts r') ≡ ip_header h ++ (d ++ r'))
          × (mend_packet (full_with x o r) ≡ option_header h o.options ++ (d ++ r))
      mend_same w b br br' e =
          let k : Kind = w.kind in
          let l : List ℕ = bare_with y o.parts r' in
          let was = known l w.header k e in
          let seen : gives w.header ≡ gives g = sym was.frame ∙ bare_framed r' y in
          let is : w.header ≡ g = cc in
          let q : Known l g k = subst (λ (i : IpRead). Known l i k) is was in
          let d : List ℕ = o.parts.part in
          let shape : Shape g.protocol d k = subst (λ (z : List ℕ). Shape g.protocol z k) (bare_data r' y) q.shape in (
            renewed (sum_at k) (part_sum k g d) d,
            renewed_length (sum_at k) (part_sum k g d) d,
            encoded_mended h o.parts.fits y d r' o.parts.total q.clear k q.piece shape b br',
            option_mended h o.parts.fits o.options o.any o.room x d r o.parts.total q.clear k q.piece shape b br,
          )

-- ---- packets with options and without, mixed

assembled : (C M : ℕ) (s : State) (ls ms : List (List ℕ)) → Mixed ls ms → take_all C M s ms ≡ take_all C M s ls
unfolding take_all after
assembled C M s ls ms none = refl
assembled C M s ls ms (same l xs ys x) = assembled C M (after C M s l) xs ys x
assembled C M s ls ms (with_options o r r' xs ys x) =
    ap (λ (a : Answer State). take_all C M (state_after a s) ys) (take_same o r' r C M s) ∙ assembled C M (after C M s (bare o.parts r)) xs ys x

reported_alike : (cl sv : SocketAddrV4) (q : Report) (ls ms : List (List ℕ)) → Mixed ls ms → report_from cl sv q ms ≡ report_from cl sv q ls
unfolding report_from
reported_alike cl sv q ls ms none = refl
reported_alike cl sv q ls ms (same l xs ys x) = reported_alike cl sv (report_after q (class_of cl sv l)) xs ys x
reported_alike cl sv q ls ms (with_options o r r' xs ys x) =
    ap (λ c. report_from cl sv (report_after q c) ys) (class_same o r' r cl sv)
    ∙ reported_alike cl sv (report_after q (class_of cl sv (bare o.parts r))) xs ys x

-- Document 02, T-11: "Assembly, packet check, mender and report all follow."
pub options_passed : OptionsPassed
options_passed =
    record {
      built = parts_of_lem;
      read = read_same;
      checked = check_same;
      carried = piece_same;
      taken =
          λ o r r' C M s a d m. (
            subst (λ (z : Answer State). Steps z s a d m) (take_same o r r' C M s),
            subst (λ (z : Answer State). Steps z s a d m) (sym (take_same o r r' C M s)),
          );
      tabled =
          λ o r r' t d m a d' m'. (
            subst (λ (z : Answer Placing). Tables z t d m a d' m') (table_same o r r' t d m),
            subst (λ (z : Answer Placing). Tables z t d m a d' m') (sym (table_same o r r' t d m)),
          );
      assembled = assembled;
      reported =
          λ ls ms x l es m fs e e' cl sv r q a b.
          reported_is m fs cl sv q b
          ∙ ap (report_of cl sv) e'
          ∙ reported_alike cl sv nothing_yet ls ms x
          ∙ ap (report_of cl sv) (sym e)
          ∙ sym (reported_is l es cl sv r a);
      examined = λ o x y r r'. examine_same o r r' x y;
      mended = λ o x y r r' w b br br' e. mend_same o r r' x y w b br br' e;
    }

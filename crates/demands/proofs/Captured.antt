-- A capture is mended packet by packet: its records stand as they are laid out, and a packet that is mended is as long as it was.
use mathlib.Core.Path.{◌≡◌, refl, sym, ap, ap₂, ◌∙◌, subst}
use mathlib.Core.List.{List, [], ◌∷◌, ◌++◌, append_assoc, map, Memᴰ}
use Prim.Native.Nat.{ℕ, zero, suc, ◌/◌, ◌%◌, ◌≤◌}
use native.Mathlib.Omega.{arith}
use lib.ListN.{length}
use lib.Seq.{take_at}
use Rattle.pkt.specs.Fields.{Bytes, Field, field}
use Rattle.pkt.proofs.Bytes.{bytes_nil, bytes_cons, bytes_append}
use Rattle.pcap.specs.Pcap.{le, file_header, record_header, record_bytes, Stamped, records_bytes, capture_bytes}
use Rattle.pcap.specs.Read.{number, is_broken}
use Rattle.pcap.specs.Runs.{AllTakable}
use Rattle.pcap.proofs.Pcap.{number_at, record_header_length, file_header_length}
use Rattle.reading.specs.Reading.{header_size}
use Rattle.reading.proofs.Stepping.{steps_read}
use Rattle.mending.specs.Sums.{sums_in, mend_packet}
use Rattle.mending.specs.Packets.{AllRight}
use Rattle.mending.specs.Mend.{Listed, put_sums, mend, changes}
use Rattle.mending.proofs.Packets.{packets_mended}
use Rattle.mending.proofs.Laid.{Laid, stops, goes}
use Rattle.mending.proofs.Records.{mended_by, put_laid}
use Rattle.mending.proofs.Captures.{opened, captures_mended}

-- a packet with its time, mended
abbrev pub mended : Stamped → Stamped
mended s = record { sec = s.sec; usec = s.usec; packet = mend_packet s.packet }

-- ---- bytes

number_bytes : (k x : ℕ) (l : List ℕ) → Bytes l → Bytes (le k x ++ l)
number_bytes zero x l b = b
number_bytes (suc k) x l b = bytes_cons (x % 256) (le k (x / 256) ++ l) (omega arith) (number_bytes k (x / 256) l b)

-- numbers, each with its width, in front of l
abbrev numbers : List Field → List ℕ → List ℕ
numbers [] l = l
numbers (f ∷ fs) l = le f.width f.number ++ numbers fs l

numbers_bytes : (fs : List Field) (l : List ℕ) → Bytes l → Bytes (numbers fs l)
numbers_bytes [] l b = b
numbers_bytes (f ∷ fs) l b = number_bytes f.width f.number (numbers fs l) (numbers_bytes fs l b)

header_bytes : Bytes file_header
unfolding file_header
header_bytes =
    numbers_bytes (field 4 0xa1b2_c3d4 ∷ field 2 2 ∷ field 2 4 ∷ field 4 0 ∷ field 4 0 ∷ field 4 65535 ∷ field 4 101 ∷ []) [] bytes_nil

records_bytes_lem : (ss : List Stamped) → ((s : Stamped) → Memᴰ s ss → Bytes s.packet) → Bytes (records_bytes ss)
unfolding records_bytes record_bytes record_header
records_bytes_lem [] b = bytes_nil
records_bytes_lem (s ∷ ss) b =
    let p : List ℕ = s.packet in
    let n : ℕ = length p in
    numbers_bytes (field 4 s.sec ∷ field 4 s.usec ∷ field 4 n ∷ field 4 n ∷ []) (p ++ records_bytes ss)
    (bytes_append p (records_bytes ss) (b s (Memᴰ.head refl)) (records_bytes_lem ss (λ x m. b x (Memᴰ.tail m))))

capture_bytes_lem : (ss : List Stamped) → ((s : Stamped) → Memᴰ s ss → Bytes s.packet) → Bytes (capture_bytes ss)
unfolding capture_bytes
capture_bytes_lem ss b = bytes_append file_header (records_bytes ss) header_bytes (records_bytes_lem ss b)

-- ---- records

header_names : (s u n : ℕ) → n ≤ 65535 → number 4 8 (record_header s u n) ≡ n
unfolding record_header
header_names s u n few = number_at 4 n (le 4 s ++ le 4 u) (le 4 n) 8 refl (omega arith)

-- l is laid out as records, and with each packet mended it is l'
record LaidTo (l l' : List ℕ) : Type 0 where
  view : Laid l
  is : mended_by view ≡ l'

records_laid : (ss : List Stamped) → AllTakable ss → LaidTo (records_bytes ss) (records_bytes (map mended ss))
unfolding records_bytes record_bytes mended_by is_broken AllTakable
records_laid [] h = record { view = stops [] refl; is = refl }
records_laid (s ∷ ss) (h, t) =
    let p : List ℕ = s.packet in
    let q : List ℕ = mend_packet p in
    let front : List ℕ = record_header s.sec s.usec (length p) in
    let rest : List ℕ = records_bytes (map mended ss) in
    let w = records_laid ss t in
    let short : length p ≤ 65535 = h.short in
    let v : Laid (front ++ (p ++ records_bytes ss)) =
    goes front p (records_bytes ss) (record_header_length s.sec s.usec (length p)) (header_names s.sec s.usec (length p) short) short w.view in
    let is : mended_by v ≡ (record_header s.sec s.usec (length q) ++ q) ++ rest =
    ap (λ (l : List ℕ). front ++ (q ++ l)) w.is
    ∙ sym (append_assoc front q rest)
    ∙ ap (λ (n : ℕ). (record_header s.sec s.usec n ++ q) ++ rest) (sym (packets_mended.size p)) in
    subst (λ (l : List ℕ). LaidTo l (records_bytes (map mended (s ∷ ss)))) (sym (append_assoc front p (records_bytes ss))) (record { view = v; is = is })

-- ---- captures

pub capture_mended : (ss : List Stamped) → AllTakable ss → ((s : Stamped) → Memᴰ s ss → Bytes s.packet) → mend (capture_bytes ss) ≡ capture_bytes (map mended ss)
unfolding capture_bytes
capture_mended ss takable b =
    let r : List ℕ = records_bytes ss in
    let w = records_laid ss takable in
    let starts = steps_read.opens_all (file_header ++ r) (take_at file_header r header_size file_header_length) in
    ap (λ (ls : List Listed). put_sums ls (file_header ++ r)) (opened file_header r w.view file_header_length starts)
    ∙ put_laid packets_mended w.view 0 header_size file_header file_header_length (records_bytes_lem ss b)
    ∙ ap (λ (l : List ℕ). file_header ++ l) w.is

all_stay : (ss : List Stamped) → ((s : Stamped) → Memᴰ s ss → Bytes s.packet × AllRight (sums_in s.packet)) → map mended ss ≡ ss
all_stay [] h = refl
all_stay (s ∷ ss) h =
    let (b, r) = h s (Memᴰ.head refl) in
    ap₂ (λ (p : List ℕ) (l : List Stamped). record { sec = s.sec; usec = s.usec; packet = p } ∷ l) (packets_mended.right_stays s.packet b r)
    (all_stay ss (λ x m. h x (Memᴰ.tail m)))

-- Where each packet has nothing to mend, neither has the capture: it is a mended one, in which nothing is listed again.
pub capture_right : (ss : List Stamped) → AllTakable ss → ((s : Stamped) → Memᴰ s ss → Bytes s.packet × AllRight (sums_in s.packet))
    → (changes (capture_bytes ss) ≡ []) × (mend (capture_bytes ss) ≡ capture_bytes ss)
capture_right ss takable h =
    let b : (s : Stamped) → Memᴰ s ss → Bytes s.packet = λ s m. (h s m).0 in
    let same : mend (capture_bytes ss) ≡ capture_bytes ss = capture_mended ss takable b ∙ ap capture_bytes (all_stay ss h) in
    (subst (λ (l : List ℕ). changes l ≡ []) same (captures_mended.none_twice (capture_bytes ss) (capture_bytes_lem ss b)), same)

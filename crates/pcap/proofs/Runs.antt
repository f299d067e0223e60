-- Accepted calls one behind the other leave the capture, and it reads back as what went in.
use mathlib.Core.Path.{◌≡◌, refl, sym, ap, ◌∙◌}
use Prim.Native.Nat.{ℕ, ◌+◌, ◌-◌, ◌≤◌}
use native.Mathlib.Omega.{arith}
use mathlib.Core.List.{List, [], ◌∷◌, ◌++◌, append_assoc, append-nil}
use lib.ListN.{length, take, drop, length-append, length-drop}
use lib.Seq.{take_at}
use Rattle.pkt.specs.Answers.{Answer, gives, fitting}
use Rattle.pkt.specs.Written.{written, leaves}
use Rattle.pkt.proofs.Written.{written_then, written_length}
use Rattle.pcap.specs.Pcap.{file_header, record_bytes, Stamped, records_bytes, capture_bytes}
use Rattle.pcap.specs.Answers.{record_answer}
use Rattle.pcap.specs.Runs.{AllTakable, RecordsWritten, none, next, CaptureWritten, behind_header, WritesCapture, ReadsWritten}
use Rattle.pcap.proofs.Answers.{fitting_fits, record_fits_lem}
use Rattle.pcap.proofs.Pcap.{record_length, file_header_length}
use Rattle.pcap.proofs.Read.{capture_read}

-- ---- records behind others

pub records_append : (rs ss : List Stamped) → records_bytes (rs ++ ss) ≡ records_bytes rs ++ records_bytes ss
unfolding records_bytes
records_append [] ss = refl
records_append (r ∷ rs) ss =
    let one : List ℕ = record_bytes r.sec r.usec r.packet in
    ap (λ (l : List ℕ). one ++ l) (records_append rs ss) ∙ sym (append_assoc one (records_bytes rs) (records_bytes ss))

pub takable_append : (rs ss : List Stamped) → AllTakable rs → AllTakable ss → AllTakable (rs ++ ss)
unfolding AllTakable
takable_append [] ss h k = k
takable_append (r ∷ rs) ss (h, t) k = (h, takable_append rs ss t k)

-- ---- calls one behind the other

-- What is written into the output from the end of a on, behind a that was written before.
part_written : (a b o₀ o part : List ℕ) (n : ℕ) → length a ≡ n → o ≡ written a o₀ → part ≡ written b (drop n o) → take n o ++ part ≡ written (a ++ b) o₀
part_written a b o₀ o part n l is p = rw (p, is) (written_then a b o₀ n l)

-- Behind a, which ends at n, the records are written, up to m; and they are such as a call takes.
pub record Behind (a : List ℕ) (ss : List Stamped) (n : ℕ) (o₀ : List ℕ) (m : ℕ) (o' : List ℕ) : Type 0 where
  pub end : m ≡ n + length (records_bytes ss)
  pub bytes : o' ≡ written (a ++ records_bytes ss) o₀
  pub takable : AllTakable ss

behind : (ss : List Stamped) (n : ℕ) (o : List ℕ) (m : ℕ) (o' : List ℕ) → RecordsWritten ss n o m o'
    → (a o₀ : List ℕ) → o ≡ written a o₀ → length a ≡ n → n ≤ length o₀ → Behind a ss n o₀ m o'
unfolding AllTakable records_bytes
behind _ _ _ _ _ (none n o) a o₀ is l room = record { end = omega arith; bytes = rw append-nil is; takable = tt }
behind _ _ _ _ _ (next s ss n o r k part m o' sec x e rest) a o₀ is l room =
    let b : List ℕ = record_bytes s.sec s.usec s.packet in
    let given : record_answer (length s.packet) s.usec (length (drop n o)) ≡ gives k = sym x.answer ∙ e in
    let fits = record_fits_lem (length s.packet) s.usec (length (drop n o)) k given in
    let left : length (drop n o) ≡ length o - n = length-drop n o in
    let same : length o ≡ length o₀ = ap length is ∙ written_length a o₀ (omega arith) in
    let size : length b ≡ 16 + length s.packet = record_length s.sec s.usec s.packet in
    let put = x.after ∙ ap (λ (z : Answer ℕ). leaves z b (drop n o)) given in
    let at : length (a ++ b) ≡ n + k = omega (arith, length-append a b, fits.3) in
    let more = behind ss (n + k) (take n o ++ part) m o' rest (a ++ b) o₀ (part_written a b o₀ o part n l is put) at (omega (arith, fits.2, fits.3)) in
    record {
      end = omega (arith, more.end, length-append b (records_bytes ss), fits.3);
      bytes = more.bytes ∙ ap (λ (z : List ℕ). written z o₀) (append_assoc a b (records_bytes ss));
      takable = (record { seconds = sec; micros = fits.1; short = fits.0 }, more.takable);
    }

captured_all : (ss : List Stamped) (o : List ℕ) (m : ℕ) (o' : List ℕ) → CaptureWritten ss o m o' → Behind file_header ss 24 o m o'
captured_all _ _ _ _ (behind_header ss o r k o₁ m o' x e rest) =
    let given : fitting 24 (length o) ≡ gives k = sym x.answer ∙ e in
    let fits = fitting_fits 24 (length o) k given in
    let put = x.after ∙ ap (λ (z : Answer ℕ). leaves z file_header o) given in
    let from : RecordsWritten ss 24 o₁ m o' = rw (sym fits.1) at rest in
    behind ss 24 o₁ m o' from file_header o put file_header_length fits.0

pub capture_written : WritesCapture
unfolding capture_bytes
capture_written ss o m o' w =
    let all = captured_all ss o m o' w in
    record {
      end = omega (arith, all.end, length-append file_header (records_bytes ss), file_header_length);
      bytes = all.bytes;
    }

pub written_read : ReadsWritten
unfolding written
written_read ss o m o' w =
    let done = capture_written ss o m o' w in
    rw (done.bytes, done.end, take_at (capture_bytes ss) _ _ refl) (capture_read ss (captured_all ss o m o' w).takable)

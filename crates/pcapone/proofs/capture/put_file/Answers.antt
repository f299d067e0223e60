-- The header and the record have room, and the record stands behind the header.
use Rattle.pcapone.specs.Capture.{file_of}
use Rattle.pcap.proofs.Pcap.{file_header_length}
use Rattle.pkt.proofs.Parts.{mid_length}
use borrow.Rule.Slice.PartMut.{mid_of}
use Rattle.pcap.proofs.Answers.{fitting_taken, record_taken}
use Rattle.pcap.specs.Pcap.{file_header, record_bytes, capture_bytes, records_bytes}
use Rattle.pkt.proofs.Written.{written_behind}
use Rattle.pkt.specs.Written.{written, leaves}
use Rattle.pkt.specs.Answers.{Answer}
use native.Mathlib.Omega.{arith}
use lib.ListN.{length}
use mathlib.Core.List.{List, ◌++◌, append-nil}
use Prim.Native.Nat.{ℕ, ◌+◌, ◌-◌, ◌≤◌}
use mathlib.Core.Path.{refl, sym, ap, ◌∙◌}
use Rattle.pcapone.proofs.capture.put_file.Goals as goal

pub returns : goal.returns
unfolding file_of capture_bytes records_bytes
returns c =
    let d : List ℕ = c.args.packet.now in
    let o : List ℕ = c.args.out.now in
    let o₁ : List ℕ = c.write_header.new.out in
    let part : List ℕ = mid_of 24 (length o₁ - 24) o₁ in
    let room : 16 + length d ≤ length part = omega (arith, mid_length 24 o₁, c.write_header.auto.out) in
    let first = c.write_header.ensures.after ∙ ap (λ (x : Answer ℕ). leaves x file_header o) (fitting_taken 24 (length o) (omega arith)) in
    let second = c.write_record.ensures.after
    ∙ ap (λ (x : Answer ℕ). leaves x (record_bytes 0 0 d) part) (record_taken (length d) 0 (length part) c.requires.0 (omega arith) room) in
    written_behind file_header (record_bytes 0 0 d) (record_bytes 0 0 d) o o₁ _ 24 file_header_length first refl second
    ∙ ap (λ (l : List ℕ). written (file_header ++ l) o) (sym (append-nil (record_bytes 0 0 d)))

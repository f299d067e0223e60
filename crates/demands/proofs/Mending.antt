-- Mending leaves what this library writes, and undoes a change of addresses alone: packet by packet, and so in captures.
use mathlib.Core.Path.{◌≡◌, refl, sym, ap, ap₂, ◌∙◌, subst}
use mathlib.Core.List.Memᴰ
use mathlib.Core.List.{List, [], ◌∷◌, map, Memᴰ}
use Prim.Native.Nat.{ℕ}
use lib.ListN.{length, take}
use Rattle.std.specs.Prelude.{Ok}
use Rattle.pkt.specs.Answers.{gives_all}
use Rattle.pkt.specs.Fields.{Bytes}
use Rattle.pcap.specs.Pcap.{Stamped, capture_bytes}
use Rattle.pcap.specs.Runs.{AllTakable}
use Rattle.reading.specs.Ends.{records_answer}
use Rattle.mending.specs.Mend.{mend, changes, counts, mend_answer, Mends}
use Rattle.mending.specs.declared.Counts.{Counts}
use Rattle.mending.proofs.Captures.{captures_mended}
use Rattle.mending.proofs.Deciding.{records_then, room_given}
use Rattle.mending.proofs.Twice.{mends_given, front_written}
use Rattle.demands.specs.Mending.{Blanked, damaged, rewritten, Mendable, MendsBuilt}
use Rattle.demands.proofs.Sums.{built_right, moved_mended, moved_bytes}
use Rattle.demands.proofs.Fed.{fed_right}
use Rattle.demands.proofs.Captured.{mended, capture_mended, capture_right}

-- ---- a capture whose packets have other addresses

damaged_takable : (xs : List Blanked) → ((x : Blanked) → Memᴰ x xs → Mendable x) → AllTakable (map damaged xs)
unfolding AllTakable
damaged_takable [] h = tt
damaged_takable (x ∷ xs) h = ((h x (Memᴰ.head refl)).takable, damaged_takable xs (λ y m. h y (Memᴰ.tail m)))

all_rewritten : (xs : List Blanked) → ((x : Blanked) → Memᴰ x xs → Mendable x) → map mended (map damaged xs) ≡ map rewritten xs
all_rewritten [] h = refl
all_rewritten (x ∷ xs) h =
    let a = h x (Memᴰ.head refl) in
    ap₂ (λ (p : List ℕ) (l : List Stamped). record { sec = x.sec; usec = x.usec; packet = p } ∷ l)
    (moved_mended x.request x.payload x.source x.destination a.asked a.whole a.addresses)
    (all_rewritten xs (λ y m. h y (Memᴰ.tail m)))

capture_rewritten : (xs : List Blanked) → ((x : Blanked) → Memᴰ x xs → Mendable x) → mend (capture_bytes (map damaged xs)) ≡ capture_bytes (map rewritten xs)
capture_rewritten xs h = capture_mended (map damaged xs) (damaged_takable xs h) bytes ∙ ap capture_bytes (all_rewritten xs h)
  where
    bytes : (s : Stamped) → Memᴰ s (map damaged xs) → Bytes s.packet
    bytes s m =
        let (x, k, e) = Memᴰ.of_map damaged xs m in
        let a = h x k in
        subst (λ (z : Stamped). Bytes z.packet) e (moved_bytes x.request x.payload x.source x.destination a.asked.bytes a.whole)

-- ---- the call

-- An accepted call leaves the mended capture at the start of the output.
call_mends : (l o o' : List ℕ) (e e' : List (List ℕ)) (n k : ℕ) → Mends l o e (Ok (counts n k)) o' e' → take n o' ≡ mend l
call_mends l o o' e e' n k m =
    let given : mend_answer l (length o) (length e) ≡ gives_all (counts n k) = sym m.answer in
    let past = records_then (records_answer l) _ (counts n k) given in
    let size : n ≡ length l = ap (λ (c : Counts). c.bytes) (room_given (length l) (length (changes l)) (length o) (length e) (counts n k) past.1).0 in
    ap (take n) (mends_given l o o' e e' (Ok (counts n k)) (counts n k) m given).1 ∙ front_written o (mend l) n (captures_mended.size l ∙ sym size)

-- Document 02, T-08: "Old test captures carry wrong checksums after addresses were blanked."
pub mends_built : MendsBuilt
mends_built =
    record {
      built = built_right;
      fed = fed_right;
      captured = capture_right;
      moved = moved_mended;
      rewrites = capture_rewritten;
      calls = λ xs o o' e e' n k h m. call_mends (capture_bytes (map damaged xs)) o o' e e' n k m ∙ capture_rewritten xs h;
    }

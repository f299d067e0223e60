-- Demand 1's refusals: a contract tells what is left by the answer, and by a refusal that is what was there.
use mathlib.Core.Path.{◌≡◌, sym, ap, ◌∙◌}
use mathlib.Core.List.{List}
use Prim.Native.Nat.{ℕ}
use native.Mathlib.Omega.{arith}
use lib.ListN.{length}
use Rattle.pkt.specs.Answers.{Answer, refused, gives, mapped, ListAnswer, refused_whole, refused_at, plainly}
use Rattle.pkt.specs.Refusal.{number_of}
use Rattle.pkt.specs.Written.{leaves}
use Rattle.ezpkt.specs.Build.{answer_of, packet_of, udp_packet}
use Rattle.pcap.specs.Pcap.{records_bytes}
use Rattle.planner.specs.Cutting.{planned}
use Rattle.planner.specs.Answers.{list_after}
use Rattle.feed.specs.Feed.{frame_dgram, frame_records, feed_answer, written_for}
use Rattle.exporting.specs.Export.{export_of}
use Rattle.mending.specs.Mend.{mend, changes, rows_after}
use Rattle.mending.specs.declared.Counts.{Counts}
use Rattle.ezpkt.specs.Icmp4.{echo_gone}
use Rattle.packet.proofs.Answers.{kept}
use Rattle.assembly.specs.Assembly.{State, outcome}
use Rattle.assembly.specs.View.{view, record_of}
use Rattle.assembly.specs.Answers.{reply_of, payload_after, map_after}
use Rattle.assembly.specs.Calls.{open_answer, take_answer, put_answer}
use Rattle.table.specs.declared.Slot.{Slot}
use Rattle.table.specs.Slots.{slot_bytes, slot_map}
use Rattle.table.specs.Table.{Placing, table_take, slots_after, payloads_after, maps_after, Outing, out_answer, slot_in, datagram_in, discard_answer, slots_without, part_without}
use Rattle.demands.specs.Refusals.{RefusedKeep}

-- a refusal stays one under what is made of the answer
mapped_refused : {A B : Type 0} (f : A → B) (a : Answer A) (n : ℕ) → refused n ≡ mapped f a → refused n ≡ a
mapped_refused f (gives x) n e = let z : ◌≡◌ {A = ℕ} 0 1 = cc in absurd (omega arith)
mapped_refused f (refused m) n e = cc

-- what a refusal leaves of an output, of a payload buffer and of a map
left : {A : Type 0} (a : Answer A) (n : ℕ) (k o o' : List ℕ) → refused n ≡ a → o' ≡ leaves a k o → o' ≡ o
left a n k o o' e q = q ∙ ap (λ b. leaves b k o) (sym e)

payload_left : (a : Answer State) (n : ℕ) (d d' : List ℕ) → refused n ≡ a → d' ≡ payload_after a d → d' ≡ d
payload_left a n d d' e q = q ∙ ap (λ b. payload_after b d) (sym e)

map_left : (a : Answer State) (n : ℕ) (m m' : List ℕ) → refused n ≡ a → m' ≡ map_after a m → m' ≡ m
map_left a n m m' e q = q ∙ ap (λ b. map_after b m) (sym e)

-- what it leaves of an output and a list of ends
both_left : (a : Answer ℕ) (n : ℕ) (k l o e o' e' : List ℕ) → refused n ≡ a → ◌≡◌ {A = List ℕ × List ℕ} (o', e') (leaves a k o, leaves a l e)
    → (o' ≡ o) × (e' ≡ e)
both_left a n k l o e o' e' r q =
    (left a n k o o' r (ap (λ (b : List ℕ × List ℕ). b.0) q), left a n l e e' r (ap (λ (b : List ℕ × List ℕ). b.1) q))

-- what an answer over a list leaves of an output
output_left : {A : Type 0} (a b : ListAnswer A) (k o o' : List ℕ) → b ≡ a → o' ≡ leaves (plainly a) k o → o' ≡ leaves (plainly b) k o
output_left {A} a b k o o' is q = q ∙ ap (λ (c : ListAnswer A). leaves (plainly c) k o) (sym is)

-- .. and of a list of rows
rows_left : (a b : ListAnswer Counts) (k o o' : List ℕ) (rs e e' : List (List ℕ)) → b ≡ a
    → ◌≡◌ {A = List ℕ × List (List ℕ)} (o', e') (leaves (plainly a) k o, rows_after a rs e) → (o' ≡ leaves (plainly b) k o) × (e' ≡ rows_after b rs e)
rows_left a b k o o' rs e e' is q = (
  output_left a b k o o' is (ap (λ (x : List ℕ × List (List ℕ)). x.0) q),
  ap (λ (x : List ℕ × List (List ℕ)). x.1) q ∙ ap (λ (c : ListAnswer Counts). rows_after c rs e) (sym is),
)

-- what it leaves of a table and its buffers, where an answer gives a slot with its state, or a slot to be emptied
placing_left : (a : Answer Placing) (n : ℕ) (t t' : List Slot) (d m d' m' : List ℕ) → refused n ≡ a → t' ≡ slots_after a t → d' ≡ payloads_after a d → m' ≡ maps_after a m
    → (t' ≡ t) × (d' ≡ d) × (m' ≡ m)
placing_left a n t t' d m d' m' e s u v = (
  s ∙ ap (λ (b : Answer Placing). slots_after b t) (sym e),
  u ∙ ap (λ (b : Answer Placing). payloads_after b d) (sym e),
  v ∙ ap (λ (b : Answer Placing). maps_after b m) (sym e),
)

slot_left : (a : Answer ℕ) (n : ℕ) (t t' : List Slot) (d m d' m' : List ℕ) → refused n ≡ a → t' ≡ slots_without a t → d' ≡ part_without slot_bytes a d
    → m' ≡ part_without slot_map a m → (t' ≡ t) × (d' ≡ d) × (m' ≡ m)
slot_left a n t t' d m d' m' e s u v = (
  s ∙ ap (λ (b : Answer ℕ). slots_without b t) (sym e),
  u ∙ ap (λ (b : Answer ℕ). part_without slot_bytes b d) (sym e),
  v ∙ ap (λ (b : Answer ℕ). part_without slot_map b m) (sym e),
)

-- Demand 1: "A refused call changes no lent byte, no flow and no assembly."
pub refused_keep : RefusedKeep
refused_keep =
    record {
      building = λ q p o o' n x. left _ (number_of n) _ o o' x.answer x.after;
      echoing =
          λ q f p o o' n x.
          let a = answer_of q (length p) (length o) in
          left a (number_of n) (packet_of q p) o o' (mapped_refused (echo_gone f) a (number_of n) x.answer) x.after;
      sending = λ f es o o' n x. left _ (number_of n) _ o o' x.answer x.after;
      cutting = λ t rs p o e o' e' n x. both_left _ (number_of n) _ _ o e o' e' (ap plainly x.answer) x.after;
      cutting_at = λ t rs p o e o' e' n i x. both_left _ (number_of n) _ _ o e o' e' (ap plainly x.answer) x.after;
      opening =
          λ C M k d m d' m' n x.
          let a = open_answer C M k (length d) (length m) in
          let e = mapped_refused record_of a (number_of n) x.answer in
          (payload_left a (number_of n) d d' e x.payload_is, map_left a (number_of n) m m' e x.map_is);
      taking =
          λ C M r d m l d' m' n x.
          let a = take_answer C M (view r d m) l in
          let e = mapped_refused reply_of a (number_of n) x.answer in
          (payload_left a (number_of n) d d' e x.payload_is, map_left a (number_of n) m m' e x.map_is);
      putting =
          λ r h d m b d' m' n x.
          let a = put_answer (view r d m) h b in
          let e = mapped_refused reply_of a (number_of n) x.answer in
          (payload_left a (number_of n) d d' e x.payload_is, map_left a (number_of n) m m' e x.map_is);
      tabling =
          λ t d m l r d' m' n x e.
          placing_left (table_take t d m l) n t r.table d m d' m' (mapped_refused (λ y. outcome y.state) _ n (sym e ∙ x.answer)) x.slots_are
          x.payloads_are x.maps_are;
      taking_out =
          λ t d m k o r d' m' o' n x e.
          let a = out_answer t d m k (length o) in
          let q : refused n ≡ a = mapped_refused (λ y. length y.datagram) a n (sym e ∙ x.answer) in
          let l = slot_left (slot_in a) n t r.table d m d' m' (ap slot_in q) x.slots_are x.payloads_are x.maps_are in
          (l.0, l.1, l.2, x.output_is ∙ ap (λ (b : Answer Outing). datagram_in b o) (sym q));
      discarding =
          λ t d m k r d' m' n x e.
          slot_left (discard_answer t (length d) (length m) k) n t r.table d m d' m' (mapped_refused (λ i. tt {0}) _ n (sym e ∙ x.answer)) x.slots_are
          x.payloads_are x.maps_are;
      making = λ h b b' n x. x.after ∙ kept _ (number_of n) _ b (sym x.answer);
      appending = λ p k d b b' n x. x.after ∙ kept _ (number_of n) _ b (sym x.answer);
      prepending = λ p d b b' n x. x.after ∙ kept _ (number_of n) _ b (sym x.answer);
      copying = λ ok k d o o' n x. x.after ∙ kept _ (number_of n) _ o (sym x.answer);
      planning = λ n m l l' k x. x.list_is ∙ ap (λ (a : Answer ℕ). list_after a (planned n m) l) (sym x.answer);
      feeding =
          λ f b sec usec s o s' o' n x.
          let a = feed_answer f.link (length b) usec (length s) (length o) in
          let e = mapped_refused (written_for f (length b)) a (number_of n) x.answer in
          (left a (number_of n) (udp_packet (frame_dgram f) b) s s' e x.scratch_is, left a (number_of n) (records_bytes (frame_records f b sec usec)) o o' e x.output_is);
      mending = λ l o o' e e' n x. rows_left _ (refused_whole (number_of n)) (mend l) o o' (changes l) e e' x.answer x.after;
      mending_at = λ l o o' e e' n k x. rows_left _ (refused_at (number_of n) k) (mend l) o o' (changes l) e e' x.answer x.after;
      exporting = λ l o o' n x. output_left _ (refused_whole (number_of n)) (export_of l) o o' x.answer x.after;
      exporting_at = λ l o o' n k x. output_left _ (refused_at (number_of n) k) (export_of l) o o' x.answer x.after;
      capturing = λ a b o o' n x. left a (number_of n) b o o' x.answer x.after;
    }

-- Demand 3 over the calls: the call that hands in the last piece that is missing answers complete, and no other does; the payload is then held.
use mathlib.Core.Logic.{◌↔◌}
use mathlib.Core.Path.{◌≡◌, refl, sym, ap, subst, ◌∙◌}
use mathlib.Core.List.Memᴰ
use mathlib.Core.List.{List, [], ◌∷◌, ◌++◌}
use Prim.Native.Nat.{ℕ, ◌≤◌, ◌<◌}
use native.Mathlib.Omega.{arith}
use lib.ListN.{length, length-append}
use Rattle.pkt.specs.Answers.{Answer, gives, says}
use Rattle.ezpkt.specs.Ip4.{fragment_of, tail_of, datagram_of}
use Rattle.ezpkt.specs.declared.ip4.Template.{Template}
use Rattle.assembly.specs.declared.Rec.{Rec}
use Rattle.assembly.specs.declared.Taken.{Taken}
use Rattle.std.specs.Prelude.{Result, Ok}
use Rattle.pkt.specs.declared.refusal.Refusal.{Refusal}
use Rattle.assembly.specs.declared.Outcome.{Outcome}
use Rattle.assembly.specs.declared.Outcome.TheVariants.{Complete}
use Rattle.assembly.specs.View.{view, record_of}
use Rattle.assembly.specs.Answers.{reply, rec_after, state_after}
use Rattle.assembly.specs.Assembly.{State, step, complete, outcome}
use Rattle.assembly.specs.Cut.{requested}
use Rattle.assembly.specs.Calls.{capacity, map_bytes, take_answer, Takes, progress_answer, Gathered}
use Rattle.assembly.specs.Packets.{after}
use Rattle.assembly.proofs.Steps.{steps_as}
use Rattle.assembly.proofs.Delivers.{says_complete}
use Rattle.assembly.proofs.Only.{steps_only}
use Rattle.demands.specs.Assembling.{template_key, Asked, by_fragment, by_tail, by_datagram, AllBuilt, Cover, after_packets, Reassembles}
use Rattle.demands.specs.Handing.{Handed, by_take}
use Rattle.demands.specs.Demand3.{OneHeader}
use Rattle.demands.specs.Cutting.{CutBy, of_fragment, of_tail, of_datagram, AllCut, Finished, CallsAssemble}
use Rattle.demands.proofs.Left.{left_by}
use Rattle.demands.proofs.Handing.{take_one_more, handed_is, complete_told}
use Rattle.demands.proofs.Assembling.{reassembles}

-- What the calls that cut leave is what they are asked for.
pub cut_asked : (t : Template) (d l : List ℕ) (off len : ℕ) → CutBy t d l off len → Asked t d l off len
cut_asked t d l off len (of_fragment o k n b h x) = by_fragment o k _ h (left_by (fragment_of t o k) d b l n x)
cut_asked t d l off len (of_tail o n b h x) = by_tail o _ h (left_by (tail_of t o (length d)) d b l n x)
cut_asked t d l off len (of_datagram n b x) = by_datagram _ (left_by (datagram_of t (length d)) d b l n x)

pub all_built : (t : Template) (d : List ℕ) (ls : List (List ℕ)) → AllCut t d ls → AllBuilt t d ls
all_built t d ls all l m = let (off, len, x) = all l m in (off, len, cut_asked t d l off len x)

module _ (t : Template) (d : List ℕ) (whole-d : Reassembles t d) (before : List (List ℕ)) (last : List ℕ) (all : AllCut t d (before ++ (last ∷ [])))
    (r : Rec) (payload map : List ℕ) (handed : Handed (template_key t) before r payload map)
    (a : Result Taken Refusal) (payload' map' : List ℕ) (call : Takes capacity map_bytes (view r payload map) last a payload' map') where
  abbrev ls : List (List ℕ)
  ls = before ++ (last ∷ [])

  built : AllBuilt t d ls
  built = all_built t d ls all

  some : 0 < length ls
  some = simp length-append (omega arith)

  -- the state after the call
  now_is : view (rec_after (says a) r) payload' map' ≡ after_packets t ls
  now_is = handed_is (template_key t) _ _ payload' map' (by_take before last payload map payload' map' r a handed call)

  covered : (r' : Rec) → a ≡ Ok (reply Complete r') → Cover t d ls
  covered r' is =
      let told = complete_told capacity map_bytes (view r payload map) last r' payload' map'
      (subst (λ (x : Result Taken Refusal). Takes capacity map_bytes (view r payload map) last x payload' map') is call) in
      let e : view r' payload' map' ≡ after_packets t ls = ap (λ (x : Result Taken Refusal). view (rec_after (says x) r) payload' map') (sym is) ∙ now_is in
      ((whole-d.complete_when ls built).0 (sym (ap complete e) ∙ told)).1

  answers : Cover t d ls → (r' : Rec) × (a ≡ Ok (reply Complete r'))
  unfolding after
  answers c =
      let v : State = view r payload map in
      let (off, len, y) = built last (Memᴰ.append_right before (Memᴰ.head refl)) in
      let taken-so = whole-d.accepted before last off len y in
      let s : State = step (after_packets t before) (requested d off len) in
      let taken_is : after_packets t ls ≡ s = take_one_more _ before last ∙ ap (λ (x : Answer State). state_after x (after_packets t before)) taken-so in
      let done : outcome s ≡ Complete = (says_complete s).1 (sym (ap complete taken_is) ∙ (whole-d.complete_when ls built).1 (some, c)) in
      let given : take_answer capacity map_bytes v last ≡ gives s =
      ap (λ (x : State). take_answer capacity map_bytes x last) (handed_is (template_key t) before r payload map handed) ∙ taken-so in
      let so : Takes capacity map_bytes v last (Ok (reply Complete (record_of s))) s.payload s.map =
      steps_as _ (gives s) given
      (record { answer = ap (λ (o : Outcome). gives (reply o (record_of s))) (sym done); payload_is = refl; map_is = refl }) in
      (record_of s, (steps_only (take_answer capacity map_bytes v last) v a (Ok (reply Complete (record_of s))) payload' s.payload map' s.map call so).0)

  completes : ((r' : Rec) × (a ≡ Ok (reply Complete r'))) ↔ Cover t d (before ++ (last ∷ []))
  completes = (λ (r', is). covered r' is, answers)

-- What was put together is the payload.
holds : (t : Template) (d : List ℕ) → Reassembles t d → (r : Rec) (payload map : List ℕ) → Finished t d r payload map
    → Gathered (progress_answer capacity map_bytes (view r payload map)) payload d
holds t d whole-d r payload map f =
    let e = handed_is (template_key t) _ r payload map (by_take f.before f.last f.payload₀ f.map₀ payload map f.rec (Ok (reply Complete r)) f.handed f.answered) in
    subst (λ (s : State). Gathered (progress_answer capacity map_bytes s) s.payload d) (sym e)
    (whole-d.held (f.before ++ (f.last ∷ [])) (all_built t d _ f.cut)
    (sym (ap complete e) ∙ complete_told capacity map_bytes (view f.rec f.payload₀ f.map₀) f.last r payload map f.answered))

-- Demand 3 over the calls, for "one payload of at most 65,515 bytes under one header with the assembly's key".
pub calls_assemble : (t : Template) (d : List ℕ) → OneHeader t → length d ≤ capacity → CallsAssemble t d
calls_assemble t d one few =
    let whole-d = reassembles t d one few in
    record {
      assembles = whole-d;
      pieces = cut_asked t d;
      handing = handed_is (template_key t);
      completes =
          λ before last r payload map payload' map' a handed call all. completes t d whole-d before last all r payload map handed a payload' map' call;
      assembled = holds t d whole-d;
    }

-- One packet more: `fragment` takes the request, and leaves its packet behind the bytes before.
use mathlib.Core.Path.{◌≡◌, refl, ap, ◌∙◌}
use mathlib.Core.List.{List, ◌++◌}
use Prim.Native.Nat.{ℕ, ◌-◌}
use native.Mathlib.Omega.{arith}
use lib.ListN.{length, take, drop, length-drop}
use borrow.Rule.Slice.PartMut.{mid_of, put_mid}
use Rattle.std.specs.Prelude.{Result, Ok}
use Rattle.std.specs.Result.{result_unwrap_or}
use Rattle.pkt.specs.Answers.{Answer, gives}
use Rattle.pkt.specs.declared.refusal.Refusal.{Refusal}
use Rattle.pkt.proofs.Only.{says_only}
use Rattle.pkt.specs.Written.{written, leaves}
use Rattle.pkt.proofs.Parts.{mid_tail}
use Rattle.pkt.proofs.Written.{put_behind}
use Rattle.ezpkt.proofs.Deciding.{piece_given}
use Rattle.ezpkt.specs.Build.{packet_of, answer_of, Answered}
use Rattle.ezpkt.specs.Ip4.{fragment_of}
use Rattle.ezpkt.specs.declared.ip4.Template.{Template}
use Rattle.pieces.specs.declared.BlockRequest.{BlockRequest}
use Rattle.pieces.specs.Fragments.{size_for}
use Rattle.pieces.specs.Survey.{PutAsks}

module _ (t : Template) (r : BlockRequest) (i at : ℕ) (p o : List ℕ) (places : ℕ) (asks : PutAsks r i at (length p) (length o) places) (s : Result ℕ Refusal) (o₁ : List ℕ)
    (call : Answered (fragment_of t r.off r.len) p (mid_of at (length o - at) o) s o₁) where
  part_is : mid_of at (length o - at) o ≡ drop at o
  part_is = mid_tail at o

  taken : answer_of (fragment_of t r.off r.len) (length p) (length (mid_of at (length o - at) o)) ≡ gives (size_for (length p) r)
  taken =
      ap (λ (l : List ℕ). answer_of (fragment_of t r.off r.len) (length p) (length l)) part_is
      ∙ piece_given t r.off r.len (length p) (length (drop at o)) asks.few asks.near (omega (arith, length-drop at o, asks.room_for))

  pub put_size : result_unwrap_or s 0 ≡ size_for (length p) r
  put_size = ap (λ (x : Result ℕ Refusal). result_unwrap_or x 0) (says_only s (Ok (size_for (length p) r)) _ (call.answer ∙ taken) refl)

  pub put_output : put_mid at (length o - at) o o₁ ≡ take at o ++ written (packet_of (fragment_of t r.off r.len) p) (drop at o)
  put_output =
      let pk : List ℕ = packet_of (fragment_of t r.off r.len) p in
      put_behind pk o o₁ at (call.after ∙ ap (λ (a : Answer ℕ). leaves a pk (mid_of at (length o - at) o)) taken)

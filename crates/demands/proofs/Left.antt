-- What a call that builds leaves in its output, and that a piece of a payload can be had from such a call.
use Rattle.std.specs.Prelude.{Ok}
use mathlib.Core.Path.{◌≡◌, sym, ap, ◌∙◌}
use mathlib.Core.List.{List, ◌++◌, append-nil}
use Prim.Native.Nat.{ℕ, ◌*◌, ◌≤◌}
use native.Mathlib.Omega.{arith}
use lib.ListN.{length, drop, length-replicate, drop_of_length-le}
use Rattle.pkt.specs.Answers.{Answer, gives}
use Rattle.pkt.specs.Written.{written, leaves, zeros}
use Rattle.ezpkt.specs.Build.{fragment_size, packet_of, answer_of, Answered}
use Rattle.ezpkt.specs.Ip4.{fragment_of}
use Rattle.ezpkt.specs.declared.ip4.Template.{Template}
use Rattle.ezpkt.specs.declared.build.Request.{Request}
use Rattle.ezpkt.proofs.Deciding.{piece_given}
use Rattle.ezpkt.proofs.Sizes.{size_is}
use Rattle.assembly.specs.Calls.{capacity}
use Rattle.demands.specs.Cutting.{CutBy, of_fragment}

-- It is the packet, with what the output held behind it.
pub left_by : (q : Request) (p o b : List ℕ) (n : ℕ) → Answered q p o (Ok n) b → b ≡ packet_of q p ++ drop (length (packet_of q p)) o
unfolding written
left_by q p o b n x = x.after ∙ ap (λ (a : Answer ℕ). leaves a (packet_of q p) o) (sym x.answer)

-- A call that is asked for a piece of a payload that is short enough, not past its end, leaves the packet in an output as long.
pub single : (t : Template) (p : List ℕ) (off len : ℕ) → length p ≤ capacity → 8 * off ≤ length p → CutBy t p (packet_of (fragment_of t off len) p) off len
unfolding written
single t p off len few within =
    let k : List ℕ = packet_of (fragment_of t off len) p in
    let n : ℕ = fragment_size off len (length p) in
    let o : List ℕ = zeros (length k) in
    let room : length o ≡ length k = length-replicate (length k) 0 in
    let size : length k ≡ n = size_is (fragment_of t off len) p in
    let given : answer_of (fragment_of t off len) (length p) (length o) ≡ gives n =
    piece_given t off len (length p) (length o) few (omega arith) (omega (arith, room, size)) in
    let none : k ++ drop (length k) o ≡ k = ap (λ (l : List ℕ). k ++ l) (drop_of_length-le o {i = length k} (omega (arith, room))) ∙ append-nil k in
    of_fragment off len n o within (record { answer = sym given; after = sym (ap (λ (a : Answer ℕ). leaves a k o) given ∙ none) })

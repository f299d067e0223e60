-- No answer that a call hands to C is a refusal by 0: none of the numbers that it can give is 0.
use mathlib.Core.Path.{◌≡◌, refl}
use mathlib.Core.Bool.{Bool, true, false, cond}
use mathlib.Core.List.{List, [], ◌∷◌}
use Prim.Native.Nat.{ℕ}
use lib.ListN.{length}
use Rattle.pkt.specs.Answers.{Answer, refused, gives, fitting, csum_answer}
use Rattle.ezpkt.specs.Build.{answer_of}
use Rattle.ezpkt.specs.Icmp4.{echo_gone, with_flow}
use Rattle.ezpkt.specs.declared.build.Request.{Request}
use Rattle.ezpkt.specs.declared.build.Request.TheVariants.{Tcp, Udp, Echo, Piece}
use Rattle.ezpkt.specs.declared.build.IcmpEcho.{IcmpEcho}
use Rattle.ezpkt.specs.declared.icmp4.IcmpFlow.{IcmpFlow}
use Rattle.tcp4.specs.Tcp4.{Emit, send_answer}
use Rattle.tcp4.specs.declared.TcpFlow.{TcpFlow}
use Rattle.pcap.specs.Answers.{record_answer}
use Rattle.packet.specs.Headroom.{valid}
use Rattle.packet.specs.Answers.{if_valid, copy_answer}
use Rattle.packet.specs.declared.Packet.{Packet}
use Rattle.inspect.specs.Check.{check_answer}
use Rattle.assembly.specs.Assembly.{State}
use Rattle.assembly.specs.Calls.{usable, open_answer, take_answer, progress_answer}
use Rattle.assembly.specs.declared.Key.{Key}
use Rattle.demands.specs.Numbers.{is_in, Among, number, accepted}
use Rattle.demands.proofs.Numbers.{above_0, mapped_in, summed_in, fitting_in, built_in, sent_in, check_in, open_in, take_in, stands_in, record_in, copy_in}
use Rattle.wispbundle.specs.Status.{NotZero}

among : {A : Type 0} (ns : List ℕ) (a : Answer A) → is_in 0 ns ≡ false → Among ns a → NotZero a
among ns a none r = record { above_0 = above_0 ns a none r }

pub csum_numbered : (l : List ℕ) → NotZero (csum_answer l)
csum_numbered l = among _ _ refl (summed_in 65535 (length l) _)

pub build_numbered : (q : Request) (n room : ℕ) → NotZero (answer_of q n room)
build_numbered (Tcp t) n room = among _ _ refl (built_in (Tcp t) n room)
build_numbered (Udp u) n room = among _ _ refl (built_in (Udp u) n room)
build_numbered (Echo e) n room = among _ _ refl (built_in (Echo e) n room)
build_numbered (Piece q) n room = among _ _ refl (built_in (Piece q) n room)

pub sends_numbered : (f : TcpFlow) (es : List Emit) (room : ℕ) → NotZero (send_answer f es room)
sends_numbered f es room = among _ _ refl (sent_in f es room)

pub echo_numbered : (g : IcmpFlow) (e : IcmpEcho) (n room : ℕ) → NotZero (with_flow g (answer_of (Echo e) n room))
echo_numbered g e n room = among _ _ refl (mapped_in _ (echo_gone g) _ (built_in (Echo e) n room))

pub header_numbered : (size room : ℕ) → NotZero (fitting size room)
header_numbered size room = among _ _ refl (fitting_in size room)

pub record_numbered : (n usec room : ℕ) → NotZero (record_answer n usec room)
record_numbered n usec room = among _ _ refl (record_in n usec room)

pub dump_numbered : (ok : Bool) (k room : ℕ) → NotZero (copy_answer ok k room)
dump_numbered ok k room = among _ _ refl (copy_in ok k room)

pub dump_length_numbered : (p : Packet) (n k : ℕ) → NotZero (if_valid p n (gives k))
dump_length_numbered p n k = among (16 ∷ []) _ refl (go (valid p n))
  where
    go : (ok : Bool) → Among (16 ∷ []) (cond ok (gives k) (refused 16))
    go true = accepted k
    go false = number 16 refl

pub check_numbered : (l : List ℕ) → NotZero (check_answer l)
check_numbered l = among _ _ refl (check_in l)

pub open_numbered : (C M : ℕ) (k : Key) (p m : ℕ) → NotZero (open_answer C M k p m)
open_numbered C M k p m = among _ _ refl (open_in C M k p m)

pub take_numbered : (C M : ℕ) (s : State) (l : List ℕ) → NotZero (take_answer C M s l)
take_numbered C M s l = among _ _ refl (take_in C M s l)

pub progress_numbered : (C M : ℕ) (s : State) → NotZero (progress_answer C M s)
progress_numbered C M s = among _ _ refl (stands_in (usable C M s) s)

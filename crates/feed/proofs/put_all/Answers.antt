-- What was written and what is left to write are always the whole.
use Rattle.std.proofs.Common.{◌≡◌, ℕ, ◌+◌, ◌-◌, ◌≤◌, List, ◌++◌, length, take, drop, sym, refl, ap, ◌∙◌, arith, rules}
use Rattle.pkt.specs.Written.{written}
use Rattle.pkt.proofs.Parts.{mid_length}
use Rattle.ezpkt.specs.Build.{packet_of}
use Rattle.ezpkt.specs.Ip4.{fragment_of}
use Rattle.pcap.specs.Pcap.{record_bytes}
use Rattle.planner.specs.Cutting.{length_at}
use Rattle.planner.proofs.Counting.{length_most}
use Rattle.feed.specs.Steps.{record_long, records_from}
use Rattle.pkt.proofs.Written.{put_behind}
use Rattle.feed.proofs.Recording.{turn_size, turn_room, turn_next, records_step, records_none, record_long_lem, written_on, none_behind, behind_length, as_small, turn_as}
use Rattle.feed.proofs.put_all.Goals as goal

-- the last of those that are left has one less behind it
one_less : (k done : ℕ) → k - 1 - done ≡ k - done - 1
one_less k done = omega arith

next_less : (k done : ℕ) → k - (done + 1) ≡ k - done - 1
next_less k done = omega arith

pub loop-done-init : goal.loop-done-init
loop-done-init c =
    let all : c.args.pieces - 0 ≡ c.args.pieces = omega arith in
    rw all
    (record {
      long = refl;
      within = omega arith;
      turn = λ h. record { within = omega (arith, c.requires.within); room = omega (arith, c.requires.has_room, c.requires.some_piece) };
      whole = refl;
    })

pub overflow_cast-len : goal.overflow_cast-len
overflow_cast-len c =
    let a = c.args in
    let few = c.requires.few in
    let most = c.requires.most in
    let is = c.length_at-len.ensures in
    let small = length_most a.blocks (a.pieces - 1 - c.loop-done.done) c.loop-done.off (length a.payload.now) 8190 (omega arith) (omega arith) in
    search rules

pub put-at-requires : goal.put-at-requires
put-at-requires c =
    let a = c.args in
    let l = c.loop-done in
    let n : ℕ = length a.payload.now in
    let behind : ℕ = a.pieces - l.done - 1 in
    let told = c.length_at-len.ensures ∙ ap (λ (x : ℕ). length_at a.blocks x l.off n) (one_less a.pieces l.done) in
    let turn = l.invariant.turn (omega arith) in
    let room = turn_room a.blocks n behind l.off l.at (length l.out) turn in
    record {
      few = c.requires.few;
      low = omega (arith, turn.within, c.requires.few);
      has_room = omega (arith, ap (λ (x : ℕ). record_long l.off x n) told, room, mid_length l.at l.out);
    }

pub overflow_add-at : goal.overflow_add-at
overflow_add-at c =
    let a = c.args in
    let l = c.loop-done in
    let n : ℕ = length a.payload.now in
    let told = c.length_at-len.ensures ∙ ap (λ (x : ℕ). length_at a.blocks x l.off n) (one_less a.pieces l.done) in
    let room = turn_room a.blocks n (a.pieces - l.done - 1) l.off l.at (length l.out) (l.invariant.turn (omega arith)) in
    let is = ap (λ (x : ℕ). record_long l.off x n) told in
    let before = l.invariant.within in
    search rules

pub overflow_add-off : goal.overflow_add-off
overflow_add-off c =
    let turn = c.loop-done.invariant.turn (omega arith) in
    let within = turn.within in
    let few = c.requires.few in
    let most = c.requires.most in
    search rules

pub loop-done-preserved : goal.loop-done-preserved
loop-done-preserved c =
    let a = c.args in
    let l = c.loop-done in
    let d : List ℕ = a.payload.now in
    let n : ℕ = length d in
    let left : ℕ = a.pieces - l.done in
    let len : ℕ = c.length_at-len.result in
    let k : ℕ = c.put-at.result in
    let told = c.length_at-len.ensures ∙ ap (λ (x : ℕ). length_at a.blocks x l.off n) (one_less a.pieces l.done) in
    let turn = l.invariant.turn (omega arith) in
    let room = turn_room a.blocks n (left - 1) l.off l.at (length l.out) turn in
    let is : k ≡ turn_size a.blocks n (left - 1) l.off = c.put-at.ensures.0 ∙ ap (λ (x : ℕ). record_long l.off x n) told in
    let one : List ℕ = record_bytes a.sec a.usec (packet_of (fragment_of a.template l.off len) d) in
    let rest : List ℕ = records_from a.template d a.blocks (left - 1) (l.off + a.blocks) a.sec a.usec in
    let long : length one ≡ k = record_long_lem a.template d l.off len a.sec a.usec ∙ sym c.put-at.ensures.0 in
    let both : records_from a.template d a.blocks left l.off a.sec a.usec ≡ one ++ rest =
    records_step a.template d a.blocks left l.off a.sec a.usec (omega arith)
    ∙ ap (λ (x : ℕ). record_bytes a.sec a.usec (packet_of (fragment_of a.template l.off x) d) ++ rest) (sym told) in
    let all = put_behind one l.out _ l.at c.put-at.ensures.1 in
    let fits : k ≤ length l.out - l.at = as_small k _ _ is room in
    let size = ap length all ∙ behind_length one l.out l.at (omega (arith, l.invariant.within)) in
    rw next_less
    (record {
      long = size ∙ l.invariant.long;
      within = omega (arith, size, l.invariant.within);
      turn =
          λ h.
          turn_as a.blocks n (left - 1 - 1) (l.off + a.blocks) _ _ _ _ (ap (λ (x : ℕ). l.at + x) is) size
          (turn_next a.blocks n (left - 1) l.off l.at (length l.out) h turn);
      whole =
          ap (λ (x : List ℕ). take (l.at + k) x ++ written rest (drop (l.at + k) x)) all
          ∙ written_on one rest l.out l.at k l.invariant.within long
          ∙ ap (λ (x : List ℕ). take l.at l.out ++ written x (drop l.at l.out)) (sym both)
          ∙ l.invariant.whole;
    })

pub returns : goal.returns
returns c =
    let a = c.args in
    let l = c.loop-done in
    sym (none_behind l.at l.out)
    ∙ ap (λ (x : List ℕ). take l.at l.out ++ written x (drop l.at l.out))
    (sym (records_none a.template a.payload.now a.blocks (a.pieces - l.done) l.off a.sec a.usec (omega arith)))
    ∙ l.invariant.whole

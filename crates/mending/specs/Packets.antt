-- What mending owes one packet.
use Rattle.std.specs.Prelude.{ℕ, ◌+◌, ◌<◌, ◌≤◌, ◌≡◌, List, [], ◌∷◌, length}
use Rattle.pkt.specs.Answers.{refused, gives}
use Rattle.pkt.specs.Fields.{Bytes}
use Rattle.inspect.specs.Check.{check_answer, examine_answer}
use Rattle.inspect.specs.declared.check.Whole.{Whole}
use Rattle.inspect.specs.declared.check.Verdict.{Verdict}
use Rattle.inspect.specs.declared.check.Verdict.TheVariants.{Good, NoChecksum}
use Rattle.inspect.specs.declared.check.Kind.{Kind}
use Rattle.inspect.specs.declared.check.Kind.TheVariants.{Tcp, Udp, Bare, Icmp}
use Rattle.mending.specs.Sums.{sums_in, mend_packet}
use Rattle.mending.specs.declared.sums.SumField.{SumField}

-- what the check is to say of each kind
abbrev pub verdict_for : Kind → Verdict
verdict_for Tcp = Good
verdict_for Udp = Good
verdict_for Bare = NoChecksum
verdict_for Icmp = Good

-- each of these fields stands within the packet p
unfoldable pub AllWithin : List SumField → List ℕ → Type 0
AllWithin [] p = Unit {0}
AllWithin (f ∷ fs) p = (f.at + 2 ≤ length p) × (f.new < 65536) × AllWithin fs p

-- each of these fields holds the number that belongs there
unfoldable pub AllRight : List SumField → Type 0
AllRight [] = Unit {0}
AllRight (f ∷ fs) = (f.old ≡ f.new) × AllRight fs

pub record PacketsMended : Type 0 where
  -- The fields stand within the packet.
  pub within : (p : List ℕ) → Bytes p → AllWithin (sums_in p) p
  -- Bytes stay bytes, and as many.
  pub bytes : (p : List ℕ) → Bytes p → Bytes (mend_packet p)
  pub size : (p : List ℕ) → length (mend_packet p) ≡ length p
  -- A packet that the check would refuse, if 7 and 15 were never given, stays.
  pub others : (p : List ℕ) (n : ℕ) → examine_answer p ≡ refused n → mend_packet p ≡ p
  -- Another is then called good, or good without checksum.
  pub good_then : (p : List ℕ) (w : Whole) → Bytes p → examine_answer p ≡ gives w → check_answer (mend_packet p) ≡ gives (verdict_for w.kind)
  -- A packet that is mended is as whole as it was, and each of its fields holds the number that belongs there.
  pub whole_still : (p : List ℕ) → Bytes p → examine_answer (mend_packet p) ≡ examine_answer p
  pub right_then : (p : List ℕ) → Bytes p → AllRight (sums_in (mend_packet p))
  -- Where each holds it, nothing changes: so mending twice is mending once.
  pub right_stays : (p : List ℕ) → Bytes p → AllRight (sums_in p) → mend_packet p ≡ p
  pub twice : (p : List ℕ) → Bytes p → mend_packet (mend_packet p) ≡ mend_packet p

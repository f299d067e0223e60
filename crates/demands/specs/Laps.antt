-- Document 02, T-05: "For each frame the assembled pieces are that datagram and the check answers good."
use Rattle.std.specs.Prelude.{◌≡◌, List, ℕ, ◌+◌, ◌<◌, length, take, Result, Ok}
use Rattle.pkt.specs.Answers.{gives}
use Rattle.pkt.specs.Fields.{Bytes}
use Rattle.ezpkt.specs.Build.{Answered}
use Rattle.ezpkt.specs.Ip4.{datagram_of}
use Rattle.pkt.specs.declared.refusal.Refusal.{Refusal}
use Rattle.feed.specs.declared.Feed.{Feed}
use Rattle.feed.specs.declared.Written.{Written}
use Rattle.feed.specs.Feed.{template_of, payload_of, frame_packets, Feeds}
use Rattle.inspect.specs.declared.check.Verdict.TheVariants.{Good}
use Rattle.inspect.specs.Check.{check_answer}
use Rattle.assembly.specs.declared.Rec.{Rec}
use Rattle.assembly.specs.declared.step.Progress.{Progress}
use Rattle.assembly.specs.declared.step.Progress.TheVariants.{Complete}
use Rattle.assembly.specs.View.{view}
use Rattle.assembly.specs.Answers.{progress_says}
use Rattle.assembly.specs.Calls.{capacity, map_bytes, progress_answer}
use Rattle.demands.specs.Ranges.{Between, Marked}
use Rattle.demands.specs.Handing.{Handed, DrawnFrom, Reordered}
use Rattle.demands.specs.Assembling.{template_key, Cover}
use Rattle.demands.specs.Cutting.{AllCut}
use Rattle.demands.specs.Demand3.{FromOne}
use Rattle.demands.specs.Round.{payload_in}

-- An accepted call of `frame` for the telemetry b; s' is the scratch buffer after it. The numbers fit their types, as every value of the source does.
pub record FrameFed (f : Feed) (b s' : List ℕ) : Type 0 where
  pub ends : Between f.car.ip f.core.ip
  pub number : f.id < 65536
  pub marked : Marked f.marks
  pub bytes : Bytes b
  pub sec : ℕ
  pub usec : ℕ
  pub scratch : List ℕ
  pub output : List ℕ
  pub answered : Written
  pub output' : List ℕ
  pub call : Feeds f b sec usec scratch output (Ok answered) s' output'

-- An assembly that was handed all the pieces of a frame of the telemetry b; r, d and m are its record and buffers after them.
pub record Assembled (f : Feed) (b : List ℕ) (r : Rec) (d m : List ℕ) : Type 0 where
  -- It is complete, and so answers `progress`;
  pub complete : (a : Result Progress Refusal) → progress_says a ≡ progress_answer capacity map_bytes (view r d m) → a ≡ Ok (Complete (8 + length b))
  -- it holds the datagram's header and telemetry;
  pub holds : take (8 + length b) d ≡ payload_of f b
  -- and what `datagram` builds of it is checked good.
  pub checked : (o o' : List ℕ) (n : ℕ) → Answered (datagram_of (template_of f) (8 + length b)) (take (8 + length b) d) o (Ok n) o' → check_answer o' ≡ gives Good

pub record FrameAssembles (f : Feed) (b s' : List ℕ) : Type 0 where
  -- What is cut is the payload of the datagram that the call left in the scratch buffer:
  pub datagram : payload_in (28 + length b) s' ≡ payload_of f b
  -- the packets are such as `fragment` leaves, "none asked for past its end", and they cover it.
  pub cut : AllCut (template_of f) (payload_of f b) (frame_packets f b)
  pub cover : Cover (template_of f) (payload_of f b) (frame_packets f b)
  -- Handed to an assembly that was opened for their key, some of them, in any order and with any repeats, are accepted and never spoil it, as in demand 3,
  pub some : (ls : List (List ℕ)) → DrawnFrom (frame_packets f b) ls → (r : Rec) (d m : List ℕ) → Handed (template_key (template_of f)) ls r d m
      → FromOne (template_of f) (payload_of f b) ls r d m
  -- and all of them complete it.
  pub all : (ls : List (List ℕ)) → Reordered (frame_packets f b) ls → (r : Rec) (d m : List ℕ) → Handed (template_key (template_of f)) ls r d m → Assembled f b r d m

abbrev pub LapAssembles : Type 0
LapAssembles = (f : Feed) (b s' : List ℕ) → FrameFed f b s' → FrameAssembles f b s'

-- A frame's pieces, put together, are its datagram, and that is checked good.
use Rattle.std.specs.Prelude.{Ok}
use mathlib.Core.Path.{◌≡◌, refl, sym, ap, subst, ◌∙◌}
use mathlib.Core.List.{List, [], append-nil}
use Prim.Native.Nat.{ℕ, ◌+◌, ◌≤◌, ◌<◌}
use native.Mathlib.Omega.{arith}
use lib.ListN.{length, take, drop}
use Rattle.pkt.specs.Answers.{Answer, gives}
use Rattle.pkt.specs.Written.{leaves}
use Rattle.ezpkt.specs.Build.{flow_ip, packet_of, udp_packet, answer_of, Answered}
use Rattle.ezpkt.specs.Ip4.{datagram_of, fragment_of}
use Rattle.ezpkt.specs.declared.ip4.Template.{Template}
use Rattle.ezpkt.specs.declared.build.Request.TheVariants.{Udp}
use Rattle.ezpkt.proofs.Deciding.{udp_given}
use Rattle.ezpkt.proofs.Verifying.{behind, built_packet}
use Rattle.feed.specs.declared.Feed.{Feed}
use Rattle.feed.specs.Feed.{frame_dgram, template_of, payload_of, frame_packets}
use Rattle.feed.proofs.Feeding.{payload_length}
use Rattle.feed.proofs.Cutting.{pieces_within, pieces_reach}
use Rattle.feed.proofs.Fitting.{frames_fit}
use Rattle.planner.proofs.Counting.{count_some}
use Rattle.feed.proofs.Runs.{Left, left_accepted}
use Rattle.inspect.specs.declared.check.Verdict.TheVariants.{Good}
use Rattle.inspect.specs.Check.{check_answer}
use Rattle.assembly.specs.declared.Rec.{Rec}
use Rattle.assembly.specs.declared.step.Progress.TheVariants.{Complete}
use Rattle.assembly.specs.View.{view}
use Rattle.assembly.proofs.Only.{progress_only}
use Rattle.assembly.specs.Answers.{progress_says}
use Rattle.assembly.specs.Calls.{capacity, map_bytes, progress_answer}
use Rattle.demands.specs.Ranges.{Fitting}
use Rattle.demands.specs.Handing.{Handed, DrawnFrom, Reordered}
use Rattle.demands.specs.Assembling.{template_key, by_fragment, Cover}
use Rattle.demands.specs.Cutting.{CutBy, AllCut}
use Rattle.demands.specs.Demand3.{OneHeader, FromOne}
use Rattle.demands.specs.Round.{payload_in, of_udp}
use Rattle.demands.specs.Laps.{FrameFed, Assembled, LapAssembles}
use Rattle.demands.proofs.Left.{single}
use Rattle.demands.proofs.Gathering.{from_one, all_handed}
use Rattle.demands.proofs.Round.{datagram_good}

module _ (f : Feed) (b s' : List ℕ) (x : FrameFed f b s') where
  abbrev t : Template
  t = template_of f

  abbrev d : List ℕ
  d = payload_of f b

  left : Left f b x.sec x.usec x.scratch x.output x.answered s' x.output'
  left = left_accepted f b x.sec x.usec x.scratch x.output x.answered s' x.output' x.call

  pub fits : Fitting t
  fits =
      record {
        tos = x.marked.0;
        id = x.number;
        ttl = x.marked.1;
        protocol = omega arith;
        saddr = x.ends.0;
        daddr = x.ends.1;
      }

  one : OneHeader t
  one = record { fits = fits; clear = refl }

  pub few : length d ≤ capacity
  few = omega (arith, payload_length f b, left.granted.few)

  cut : AllCut t d (frame_packets f b)
  cut l m =
      let p = pieces_within t d f.link l m in
      (p.off, p.len, subst (λ (k : List ℕ). CutBy t d k p.off p.len) (sym p.is) (single t d p.off p.len few p.within))

  cover : Cover t d (frame_packets f b)
  unfolding Cover
  cover j h =
      let p = pieces_reach t d f.link j h in
      let k : List ℕ = packet_of (fragment_of t p.off p.len) d in
      record {
        packet = k;
        off = p.off;
        len = p.len;
        handed = p.among;
        asked = by_fragment p.off p.len [] p.within (sym (append-nil k));
        from = p.from;
        till = p.till;
      }

  some : (ls : List (List ℕ)) → DrawnFrom (frame_packets f b) ls → (r : Rec) (p m : List ℕ) → Handed (template_key t) ls r p m → FromOne t d ls r p m
  some ls among r p m handed = from_one t d one few ls r p m (λ l in_List. cut l (among l in_List)) handed

  -- ---- all of them

  -- the datagram in the scratch buffer
  given : answer_of (Udp (frame_dgram f)) (length b) (length x.scratch) ≡ gives (28 + length b)
  given = udp_given (frame_dgram f) (length b) (length x.scratch) refl left.granted.few left.granted.scratch_room

  built : Answered (Udp (frame_dgram f)) b x.scratch (Ok (28 + length b)) s'
  built = record { answer = sym given; after = left.scratch_is ∙ ap (λ (a : Answer ℕ). leaves a (udp_packet (frame_dgram f) b) x.scratch) (sym given) }

  datagram : payload_in (28 + length b) s' ≡ d
  unfolding udp_packet payload_of
  datagram =
      ap (drop 20) (built_packet (Udp (frame_dgram f)) b x.scratch s' (Ok (28 + length b)) (28 + length b) built refl).1
      ∙ behind (flow_ip f.marks 17 (28 + length b) 0 f.car.ip f.core.ip) _

  -- what `datagram` builds of it
  good_again : (k : ℕ) (l : List ℕ) → k ≡ 8 + length b → l ≡ d → (o o' : List ℕ) (n : ℕ) → Answered (datagram_of t k) l o (Ok n) o' → check_answer o' ≡ gives Good
  good_again k l size is o o' n y =
      let same : l ≡ payload_in (28 + length b) s' = is ∙ sym datagram in
      let long : k ≡ length (payload_in (28 + length b) s') = size ∙ sym (ap length datagram ∙ payload_length f b) in
      datagram_good t (Udp (frame_dgram f)) b x.scratch s' (28 + length b) one (of_udp (frame_dgram f) (refl, refl, refl)) x.bytes built o o' n
      (subst (λ (j : ℕ). Answered (datagram_of t j) (payload_in (28 + length b) s') o (Ok n) o') long
      (subst (λ (z : List ℕ). Answered (datagram_of t k) z o (Ok n) o') same y))

  all : (ls : List (List ℕ)) → Reordered (frame_packets f b) ls → (r : Rec) (p m : List ℕ) → Handed (template_key t) ls r p m → Assembled f b r p m
  all ls same r p m handed =
      let many : 0 < length (frame_packets f b) = omega (arith, (frames_fit f b left.granted.good).pieces, count_some (8 + length b) f.link) in
      let g = all_handed t d one few (frame_packets f b) ls many cut cover same r p m handed in
      let size : length d ≡ 8 + length b = payload_length f b in
      let told : progress_answer capacity map_bytes (view r p m) ≡ progress_says (Ok (Complete (8 + length b))) =
      g.0 ∙ ap (λ (n : ℕ). progress_says (Ok (Complete n))) size in
      let bytes : take (8 + length b) p ≡ d = ap (λ (n : ℕ). take n p) (sym size) ∙ g.1 in
      record {
        complete = λ a e. progress_only a (Ok (Complete (8 + length b))) _ e (sym told);
        holds = bytes;
        checked = good_again (8 + length b) (take (8 + length b) p) refl bytes;
      }

-- Document 02, T-05: "For each frame the assembled pieces are that datagram and the check answers good."
pub lap_assembles : LapAssembles
lap_assembles f b s' x =
    record {
      datagram = datagram f b s' x;
      cut = cut f b s' x;
      cover = cover f b s' x;
      some = some f b s' x;
      all = all f b s' x;
    }

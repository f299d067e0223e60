-- Demand 3 over the calls: one payload is cut by `fragment`, `tail` and `datagram`, and put together by `open` and `take`.
use Rattle.std.specs.Prelude.{◌≡◌, ◌↔◌, ℕ, ◌*◌, ◌≤◌, length, Result, Ok}
use mathlib.Core.List.{List, [], ◌∷◌, ◌++◌, Memᴰ}
use Rattle.ezpkt.specs.Build.{Answered}
use Rattle.ezpkt.specs.Ip4.{fragment_of, tail_of, datagram_of}
use Rattle.ezpkt.specs.declared.ip4.Template.{Template}
use Rattle.pkt.specs.declared.refusal.Refusal.{Refusal}
use Rattle.assembly.specs.declared.Rec.{Rec}
use Rattle.assembly.specs.declared.Taken.{Taken}
use Rattle.assembly.specs.declared.Outcome.TheVariants.{Complete}
use Rattle.assembly.specs.Answers.{reply}
use Rattle.assembly.specs.View.{view}
use Rattle.assembly.specs.Calls.{capacity, map_bytes, Takes, progress_answer, Gathered}
use Rattle.demands.specs.Handing.{Handed}
use Rattle.demands.specs.Assembling.{template_key, Asked, Cover, after_packets, Reassembles}

-- l is what an accepted call of `fragment`, `tail` or `datagram` that was asked for (off, len) left in its output: a piece of d under t,
-- "none asked for past its end"
pub data CutBy (t : Template) (d l : List ℕ) : ℕ → ℕ → Type 0 where
  of_fragment : (off len n : ℕ) (o : List ℕ) → 8 * off ≤ length d → Answered (fragment_of t off len) d o (Ok n) l → CutBy t d l off len
  of_tail : (off n : ℕ) (o : List ℕ) → 8 * off ≤ length d → Answered (tail_of t off (length d)) d o (Ok n) l → CutBy t d l off (length d)
  of_datagram : (n : ℕ) (o : List ℕ) → Answered (datagram_of t (length d)) d o (Ok n) l → CutBy t d l 0 (length d)

abbrev pub AllCut : Template → List ℕ → List (List ℕ) → Type 0
AllCut t d ls = (l : List ℕ) → Memᴰ l ls → (off : ℕ) × (len : ℕ) × CutBy t d l off len

-- Pieces of d under t, as the calls left them, were handed in, and the last call of `take` answered complete: the record r and the buffers
-- after it.
pub record Finished (t : Template) (d : List ℕ) (r : Rec) (payload map : List ℕ) : Type 0 where
  pub before : List (List ℕ)
  pub last : List ℕ
  pub cut : AllCut t d (before ++ (last ∷ []))
  pub rec : Rec
  pub payload₀ : List ℕ
  pub map₀ : List ℕ
  pub handed : Handed (template_key t) before rec payload₀ map₀
  pub answered : Takes capacity map_bytes (view rec payload₀ map₀) last (Ok (reply Complete r)) payload map

-- Any payload d, "of at most 65,515 bytes", cut "under one header", the template t's.
pub record CallsAssemble (t : Template) (d : List ℕ) : Type 0 where
  -- Demand 3 holds of d under t,
  pub assembles : Reassembles t d
  -- what the calls that cut leave are the pieces that they were asked for,
  pub pieces : (l : List ℕ) (off len : ℕ) → CutBy t d l off len → Asked t d l off len
  -- and the calls of an assembly lead where demand 3 says.
  pub handing : (ls : List (List ℕ)) (r : Rec) (payload map : List ℕ) → Handed (template_key t) ls r payload map → view r payload map ≡ after_packets t ls
  -- "It is complete exactly when at least one was handed in and together they cover the payload": so answers the call that hands in the last,
  pub completes : (before : List (List ℕ)) (last : List ℕ) (r : Rec) (payload map payload' map' : List ℕ) (a : Result Taken Refusal) → Handed (template_key t) before r payload map
      → Takes capacity map_bytes (view r payload map) last a payload' map' → AllCut t d (before ++ (last ∷ []))
      → ((r' : Rec) × (a ≡ Ok (reply Complete r'))) ↔ Cover t d (before ++ (last ∷ []))
  -- "and it then holds that payload": `progress` answers complete with the length of d, and d is the first so many bytes of the payload buffer.
  pub assembled : (r : Rec) (payload map : List ℕ) → Finished t d r payload map → Gathered (progress_answer capacity map_bytes (view r payload map)) payload d

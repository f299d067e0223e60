-- Document 02, T-07: "Any accepted list meets demand 3's cover."
use Rattle.std.specs.Prelude.{◌≡◌, true, List, ℕ, length, take, Result, Ok}
use Rattle.ezpkt.specs.declared.ip4.Template.{Template}
use Rattle.pieces.specs.Fragments.{Fragmented}
use Rattle.pieces.specs.declared.BlockRequest.{BlockRequest}
use Rattle.pkt.specs.Answers.{says}
use Rattle.pkt.specs.declared.refusal.Refusal.{Refusal}
use Rattle.planner.specs.Answers.{check_plan}
use Rattle.assembly.specs.declared.Rec.{Rec}
use Rattle.assembly.specs.declared.step.Progress.{Progress}
use Rattle.assembly.specs.declared.step.Progress.TheVariants.{Complete}
use Rattle.assembly.specs.View.{view}
use Rattle.assembly.specs.Answers.{progress_says}
use Rattle.assembly.specs.Calls.{capacity, map_bytes, progress_answer}
use Rattle.demands.specs.Handing.{Handed, Reordered}
use Rattle.demands.specs.Assembling.{template_key, Cover}
use Rattle.demands.specs.Demand3.{OneHeader}
use Rattle.demands.specs.Listing.{packets_in, NonePast, Covering}

-- The check answered yes for the list rs, a payload of as many bytes as p has, and a link of m bytes.
abbrev pub SaidYes : ℕ → List BlockRequest → List ℕ → Type 0
SaidYes m rs p = says (Ok true) ≡ check_plan (length p) m rs

pub record PlanAssembles : Type 0 where
  -- No request of an accepted list is past the payload's end, and together they cover it:
  pub none_past : (m : ℕ) (rs : List BlockRequest) (p : List ℕ) → SaidYes m rs p → NonePast rs p
  pub covers : (m : ℕ) (rs : List BlockRequest) (p : List ℕ) → SaidYes m rs p → Covering rs p
  -- so do the packets that T-01's call writes for it,
  pub cover : (t : Template) (m : ℕ) (rs : List BlockRequest) (p o e o' e' : List ℕ) (k : ℕ) → SaidYes m rs p
      → Fragmented t rs p o e (Ok k) o' e' → Cover t p (packets_in rs o' e')
  -- and these, in any order and with any repeats, complete an assembly that was opened for their key, and it holds the payload.
  pub completes : (t : Template) → OneHeader t → (m : ℕ) (rs : List BlockRequest) (p o e o' e' : List ℕ) (k : ℕ) → SaidYes m rs p
      → Fragmented t rs p o e (Ok k) o' e' → (ls : List (List ℕ)) → Reordered (packets_in rs o' e') ls
      → (r : Rec) (d b : List ℕ) → Handed (template_key t) ls r d b
      → ((a : Result Progress Refusal) → progress_says a ≡ progress_answer capacity map_bytes (view r d b) → a ≡ Ok (Complete (length p))) × (take (length p) d ≡ p)

-- What the check accepts covers the payload, and so its packets assemble to it.
use mathlib.Core.Path.{◌≡◌, sym, subst}
use mathlib.Core.Bool.{true}
use mathlib.Core.List.{List, Memᴰ}
use Prim.Native.Nat.{ℕ, ◌-◌, ◌≤◌, ◌<◌}
use native.Mathlib.Omega.{arith}
use lib.ListN.{length}
use lib.Dec.{ltb}
use borrow.Author.Tests.{ltb-false}
use Rattle.pkt.specs.Answers.{gives, most_ip}
use Rattle.pkt.proofs.Deciding.{past}
use Rattle.ezpkt.specs.Build.{start_at, end_at}
use Rattle.ezpkt.specs.declared.ip4.Template.{Template}
use Rattle.pieces.specs.Fragments.{Fragmented}
use Rattle.pieces.specs.declared.BlockRequest.{BlockRequest}
use Rattle.std.specs.Prelude.{Ok}
use Rattle.planner.specs.Plan.{Plan}
use Rattle.planner.specs.Steps.{is_plan}
use Rattle.planner.proofs.Places.{place_in, place_of, carried_by_lem}
use Rattle.planner.proofs.Planning.{planning}
use Rattle.assembly.specs.declared.step.Progress.TheVariants.{Complete}
use Rattle.assembly.specs.Calls.{capacity}
use Rattle.assembly.proofs.Only.{progress_only}
use Rattle.demands.specs.Assembling.{Cover}
use Rattle.demands.specs.Listing.{packets_in, Listed}
use Rattle.demands.specs.Plans.{SaidYes, PlanAssembles}
use Rattle.demands.proofs.Gathering.{all_handed}
use Rattle.demands.proofs.Listing.{list_assembles, all_cut}

-- what the check called a plan is one, of a payload that is short enough
is_plan_lem : (m : ℕ) (rs : List BlockRequest) (p : List ℕ) → SaidYes m rs p → (length p ≤ capacity) × Plan (length p) m rs
is_plan_lem m rs p said =
    let a = past (ltb most_ip (length p)) 1 (gives (is_plan (length p) m rs)) true (sym said) in
    let told : is_plan (length p) m rs ≡ true = cc a.1 in
    (ltb-false most_ip (length p) a.0, (planning.checks (length p) m rs).0 told)

covered : (n m : ℕ) (rs : List BlockRequest) → Plan n m rs → (j : ℕ) → j < n
    → (r : BlockRequest) × Memᴰ r rs × (start_at r.off n ≤ j) × (j < end_at r.off r.len n)
covered n m rs plan j h =
    let all = subst (Memᴰ j) (sym plan.carries) (place_in 0 n j (omega arith) (omega arith)) in
    let (r, among, at) = carried_by_lem n rs j all in
    let within = place_of (start_at r.off n) (end_at r.off r.len n - start_at r.off n) j at in
    (r, among, within.0, omega (arith, within.0, within.1))

listed : (t : Template) (m : ℕ) (rs : List BlockRequest) (p o e o' e' : List ℕ) (k : ℕ) → SaidYes m rs p → Fragmented t rs p o e (Ok k) o' e'
    → Listed t rs p o' e'
listed t m rs p o e o' e' k said call = record { output = o; places = e; size = k; call = call; none_past = (is_plan_lem m rs p said).1.none_past }

cover_of : (t : Template) (m : ℕ) (rs : List BlockRequest) (p o e o' e' : List ℕ) (k : ℕ) → SaidYes m rs p → Fragmented t rs p o e (Ok k) o' e'
    → Cover t p (packets_in rs o' e')
cover_of t m rs p o e o' e' k said call =
    list_assembles.covers t p rs o' e' (listed t m rs p o e o' e' k said call) (covered (length p) m rs (is_plan_lem m rs p said).1)

-- Document 02, T-07: "Any accepted list meets demand 3's cover."
pub plan_assembles : PlanAssembles
plan_assembles =
    record {
      none_past = λ m rs p said. (is_plan_lem m rs p said).1.none_past;
      covers = λ m rs p said. covered (length p) m rs (is_plan_lem m rs p said).1;
      cover = cover_of;
      completes =
          λ t one m rs p o e o' e' k said call ls same r d b handed.
          let x = listed t m rs p o e o' e' k said call in
          let plan = is_plan_lem m rs p said in
          let many : 0 < length (packets_in rs o' e') = omega (arith, list_assembles.as_many t rs p o' e' x, plan.1.some) in
          let g = all_handed t p one plan.0 (packets_in rs o' e') ls many (all_cut t rs p o' e' x) (cover_of t m rs p o e o' e' k said call) same r d b handed in
          (λ a told. progress_only a (Ok (Complete (length p))) _ told (sym g.0), g.1);
    }

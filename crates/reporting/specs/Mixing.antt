-- Document 02, T-10: "Reports of two flows do not depend on how their packets are mixed."
use Rattle.std.specs.Prelude.{◌≡◌, ℕ, List, [], ◌∷◌, Ok}
use Rattle.ezpkt.specs.declared.SocketAddrV4.{SocketAddrV4}
use Rattle.reporting.specs.Packets.{class_of}
use Rattle.reporting.specs.Report.{cut_at, report_of, Reports}
use Rattle.reporting.specs.declared.Class.{Class}
use Rattle.reporting.specs.declared.Class.TheVariants.{Failed, Other, Own}
use Rattle.reporting.specs.declared.Report.{Report}

-- those packets that count for a side of the flow, in their order
abbrev pub kept_by : Class → List ℕ → List (List ℕ) → List (List ℕ)
kept_by Failed p ps = ps
kept_by Other p ps = ps
kept_by (Own w s) p ps = p ∷ ps

unfoldable pub flow_packets : SocketAddrV4 → SocketAddrV4 → List (List ℕ) → List (List ℕ)
flow_packets cl sv [] = []
flow_packets cl sv (p ∷ ps) = kept_by (class_of cl sv p) p (flow_packets cl sv ps)

-- the packets of two lists mixed, those of each in their order
pub data Interleaved {A : Type 0} : List A → List A → List A → Type 0 where
  neither : Interleaved [] [] []
  left : (x : A) (xs ys zs : List A) → Interleaved xs ys zs → Interleaved (x ∷ xs) ys (x ∷ zs)
  right : (y : A) (xs ys zs : List A) → Interleaved xs ys zs → Interleaved xs (y ∷ ys) (y ∷ zs)

-- two reports with the same numbers for each side
abbrev pub SameSides : Report → Report → Type 0
SameSides r q = (r.cl ≡ q.cl) × (r.sv ≡ q.sv)

pub record ReportsUnmixed : Type 0 where
  -- What is reported of a flow's sides depends on that flow's packets in their order alone,
  pub own_packets : (cl sv : SocketAddrV4) (ps : List (List ℕ)) → SameSides (report_of cl sv ps) (report_of cl sv (flow_packets cl sv ps))
  pub same_own : (cl sv : SocketAddrV4) (ps qs : List (List ℕ)) → flow_packets cl sv ps ≡ flow_packets cl sv qs → SameSides (report_of cl sv ps) (report_of cl sv qs)
  -- so that packets of which none is that flow's change nothing of it, however they are mixed with its own;
  pub mixed : (cl sv : SocketAddrV4) (ps qs rs : List (List ℕ)) → Interleaved ps qs rs → flow_packets cl sv qs ≡ []
      → SameSides (report_of cl sv rs) (report_of cl sv ps)
  -- and the whole report is the same for every way of mixing them.
  pub one_report : (cl sv : SocketAddrV4) (ps qs rs rs' : List (List ℕ)) → Interleaved ps qs rs → Interleaved ps qs rs' → flow_packets cl sv qs ≡ []
      → report_of cl sv rs ≡ report_of cl sv rs'
  -- Two calls for each of two flows, over packets of which none is of both, mixed in two ways: both flows are reported the same.
  pub two_flows : (cl sv cl' sv' : SocketAddrV4) (ps qs : List (List ℕ)) → flow_packets cl sv qs ≡ [] → flow_packets cl' sv' ps ≡ []
      → (l es m fs : List ℕ) → Interleaved ps qs (cut_at 0 es l) → Interleaved ps qs (cut_at 0 fs m)
      → (r r' q q' : Report) → Reports l es cl sv (Ok r) → Reports m fs cl sv (Ok r') → Reports l es cl' sv' (Ok q) → Reports m fs cl' sv' (Ok q')
      → (r ≡ r') × (q ≡ q')

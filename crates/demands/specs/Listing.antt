-- Document 02, T-01: "Demand 3 reads over the list as over single pieces."
use mathlib.Core.List.{List, [], map, Memᴰ}
use Rattle.std.specs.Prelude.{◌≡◌, ℕ, ◌*◌, ◌≤◌, ◌<◌, length, take, get_or, Ok}
use Rattle.ezpkt.specs.Build.{start_at, end_at, packet_of}
use Rattle.ezpkt.specs.Ip4.{fragment_of}
use Rattle.ezpkt.specs.declared.ip4.Template.{Template}
use Rattle.pieces.specs.Fragments.{Fragmented}
use Rattle.pieces.specs.OneByOne.{request_at}
use Rattle.pieces.specs.declared.BlockRequest.{BlockRequest}
use Rattle.reporting.specs.Report.{cut_at}
use Rattle.assembly.specs.declared.Rec.{Rec}
use Rattle.demands.specs.Handing.{Handed}
use Rattle.demands.specs.Assembling.{template_key, Cover}
use Rattle.demands.specs.Cutting.{CutBy}
use Rattle.demands.specs.Demand3.{OneHeader, FromOne}

-- what an accepted call wrote for the requests rs, cut at its ends: o' and e' are the output and the ends after it
abbrev pub packets_in : List BlockRequest → List ℕ → List ℕ → List (List ℕ)
packets_in rs o' e' = cut_at 0 (take (length rs) e') o'

-- "none asked for past its end"
abbrev pub NonePast : List BlockRequest → List ℕ → Type 0
NonePast rs p = (r : BlockRequest) → Memᴰ r rs → 8 * r.off ≤ length p

-- "together they cover the payload"
abbrev pub Covering : List BlockRequest → List ℕ → Type 0
Covering rs p = (j : ℕ) → j < length p → (r : BlockRequest) × Memᴰ r rs × (start_at r.off (length p) ≤ j) × (j < end_at r.off r.len (length p))

-- The call was accepted for the list rs, and left o' and e'.
pub record Listed (t : Template) (rs : List BlockRequest) (p o' e' : List ℕ) : Type 0 where
  pub output : List ℕ
  pub places : List ℕ
  pub size : ℕ
  pub call : Fragmented t rs p output places (Ok size) o' e'
  pub none_past : NonePast rs p

pub record ListAssembles : Type 0 where
  -- What was written, cut at its ends, is the packets of the requests in list order, and nothing besides,
  pub exactly : (t : Template) (rs : List BlockRequest) (p o' e' : List ℕ) → Listed t rs p o' e'
      → packets_in rs o' e' ≡ map (λ r. packet_of (fragment_of t r.off r.len) p) rs
  -- one for each request, and the one at index i is what a single call leaves that is asked for the i-th request.
  pub as_many : (t : Template) (rs : List BlockRequest) (p o' e' : List ℕ) → Listed t rs p o' e' → length (packets_in rs o' e') ≡ length rs
  pub each : (t : Template) (rs : List BlockRequest) (p o' e' : List ℕ) → Listed t rs p o' e' → (i : ℕ) → i < length rs
      → CutBy t p (get_or (packets_in rs o' e') i []) (request_at rs i).off (request_at rs i).len
  -- So whichever of them are handed in, in whichever order and with whichever repeats, all are accepted, and so on as of single pieces,
  pub from_list : (t : Template) (p : List ℕ) → OneHeader t → (rs : List BlockRequest) (o' e' : List ℕ) → Listed t rs p o' e'
      → (ls : List (List ℕ)) → ((l : List ℕ) → Memᴰ l ls → Memᴰ l (packets_in rs o' e'))
      → (r : Rec) (d m : List ℕ) → Handed (template_key t) ls r d m → FromOne t p ls r d m
  -- and all of them cover the payload where the requests do.
  pub covers : (t : Template) (p : List ℕ) (rs : List BlockRequest) (o' e' : List ℕ) → Listed t rs p o' e' → Covering rs p → Cover t p (packets_in rs o' e')
